-- The image of what an image says is that image.
use Rattle.std.proofs.Common.{◌≡◌, ℕ, zero, suc, ◌+◌, ◌&&◌, ◌<◌, ◌≤◌, Bool, true, false, not, cond, List, [], ◌∷◌, ◌++◌, length, take, drop, get_or, ◌==◌, nat_lt, codes, Option, Some, None}
use Rattle.std.proofs.Common.{Result, Ok, Err, refl, sym, ap, subst, ◌∙◌, append_assoc, arith}
use Rattle.std.specs.Cmp.Lexicographic.{bytes_decides}
use Rattle.std.proofs.lemmas.Bool.{ltb-false, eqb-true, not-false, and_parts}
use Rattle.std.proofs.lemmas.List.{length-drop, drop-drop, take-append-drop, get_or-drop, get_or_past}
use Rattle.std.proofs.lemmas.Nat.{le_bytes_2, le_bytes_4}
use Rattle.byteorder.specs.Endian.{little_number, little_bytes}
use Rattle.die_image.specs.declared.head.ImageHead.{ImageHead}
use Rattle.die_image.specs.declared.scheme.SchemeName.{SchemeName}
use Rattle.die_image.specs.declared.error.ImageError.{ImageError}
use Rattle.die_image.specs.declared.error.ImageError.TheVariants as errors
use Rattle.die_image.specs.Schemes.{row_of, scheme_of_number}
use Rattle.die_image.specs.Pads.{is_pad_charged}
use Rattle.die_image.specs.Image.{shape_of, die_bytes, is_within_limits, half, word, first_bytes, image, old_image, version_number, head_length, AreCells, AreOldCells, half_at, word_at}
use Rattle.die_image.specs.Image.{has_magic, has_slots, head_with, head_of_scheme, good_head, head_read, cells_read, cells_after, image_read}
use Rattle.die_image.proofs.Again.{image-first_bytes}
use Rattle.die_image.proofs.Heads.{at_least}

abbrev pub IsBytes : List ℕ → Type 0
IsBytes bytes = (i : ℕ) → get_or bytes i 0 < 256

abbrev ok_of : {A : Type 0} → A → Result A ImageError
ok_of x = Ok x

abbrev some_of : {A : Type 0} → A → Option A
some_of x = Some x

-- ---- the law of the little-endian order, from bytes to the number and back

two_fit : (a b : ℕ) → a < 256 → b < 256 → (i : ℕ) → get_or (a ∷ b ∷ []) i 0 < 256
two_fit a b ha hb zero = ha
two_fit a b ha hb (suc zero) = hb
two_fit a b ha hb (suc (suc i)) = omega (arith, get_or_past {X = ℕ} [] i 0 (omega arith))

four_fit : (a b c d : ℕ) → a < 256 → b < 256 → c < 256 → d < 256 → (i : ℕ) → get_or (a ∷ b ∷ c ∷ d ∷ []) i 0 < 256
four_fit a b c d ha hb hc hd zero = ha
four_fit a b c d ha hb hc hd (suc zero) = hb
four_fit a b c d ha hb hc hd (suc (suc i)) = two_fit c d hc hd i

pub half_of_number : (bytes : List ℕ) → 2 ≤ length bytes → IsBytes bytes → little_bytes 2 (little_number 2 bytes) ≡ take 2 bytes
half_of_number [] h fits = absurd (omega arith)
half_of_number (a ∷ []) h fits = absurd (omega arith)
half_of_number (a ∷ b ∷ rest) h fits = le_bytes_2 (a ∷ b ∷ []) (little_number 2 (a ∷ b ∷ rest)) refl (two_fit a b (fits 0) (fits 1)) (omega arith)

pub word_of_number : (bytes : List ℕ) → 4 ≤ length bytes → IsBytes bytes → little_bytes 4 (little_number 4 bytes) ≡ take 4 bytes
word_of_number [] h fits = absurd (omega arith)
word_of_number (a ∷ []) h fits = absurd (omega arith)
word_of_number (a ∷ b ∷ []) h fits = absurd (omega arith)
word_of_number (a ∷ b ∷ c ∷ []) h fits = absurd (omega arith)
word_of_number (a ∷ b ∷ c ∷ d ∷ rest) h fits =
    le_bytes_4 (a ∷ b ∷ c ∷ d ∷ []) (little_number 4 (a ∷ b ∷ c ∷ d ∷ rest)) refl (four_fit a b c d (fits 0) (fits 1) (fits 2) (fits 3)) (omega arith)

fits_drop : (n : ℕ) (bytes : List ℕ) → IsBytes bytes → IsBytes (drop n bytes)
fits_drop n bytes fits i = rw get_or-drop (fits (n + i))

half_back : (place : ℕ) (bytes : List ℕ) → place + 2 ≤ length bytes → IsBytes bytes → half (half_at place bytes) ≡ take 2 (drop place bytes)
unfolding half half_at
half_back place bytes h fits = half_of_number (drop place bytes) (omega (arith, length-drop place bytes)) (fits_drop place bytes fits)

word_back : (place : ℕ) (bytes : List ℕ) → place + 4 ≤ length bytes → IsBytes bytes → word (word_at place bytes) ≡ take 4 (drop place bytes)
unfolding word word_at
word_back place bytes h fits = word_of_number (drop place bytes) (omega (arith, length-drop place bytes)) (fits_drop place bytes fits)

-- ---- bytes in pieces

step : (n place : ℕ) (bytes front : List ℕ) → (front ++ take n (drop place bytes)) ++ drop (place + n) bytes ≡ front ++ drop place bytes
step n place bytes front =
    append_assoc front (take n (drop place bytes)) (drop (place + n) bytes)
    ∙ ap (λ (rest : List ℕ). front ++ (take n (drop place bytes) ++ rest)) (sym (drop-drop n place bytes))
    ∙ ap (λ (rest : List ℕ). front ++ rest) (take-append-drop n (drop place bytes))

abbrev joined : List ℕ → List ℕ → List ℕ → List ℕ → List ℕ → List ℕ → List ℕ → List ℕ → List ℕ
joined m a b c d e f rest = ((((((m ++ a) ++ b) ++ c) ++ d) ++ e) ++ f) ++ rest

pieces : (bytes : List ℕ) →
    joined (take 8 bytes) (take 2 (drop 8 bytes)) (take 2 (drop 10 bytes)) (take 4 (drop 12 bytes)) (take 4 (drop 16 bytes)) (take 4 (drop 20 bytes)) (take 4 (drop 24 bytes)) (drop 28 bytes)
    ≡ bytes
pieces bytes =
    let a : List ℕ = take 8 bytes in
    let b : List ℕ = a ++ take 2 (drop 8 bytes) in
    let c : List ℕ = b ++ take 2 (drop 10 bytes) in
    let d : List ℕ = c ++ take 4 (drop 12 bytes) in
    let e : List ℕ = d ++ take 4 (drop 16 bytes) in
    let f : List ℕ = e ++ take 4 (drop 20 bytes) in
    step 4 24 bytes f ∙ step 4 20 bytes e ∙ step 4 16 bytes d ∙ step 4 12 bytes c ∙ step 2 10 bytes b ∙ step 2 8 bytes a ∙ take-append-drop 8 bytes

-- ---- what was read

guard : {A : Type 0} (b : Bool) (why : ImageError) (y : Result A ImageError) (x : A) → cond b (Err why) y ≡ Ok x → (b ≡ false) × (y ≡ Ok x)
guard true why y x e = absurd cc
guard false why y x e = (refl, e)

some_is : {A : Type 0} (x y : A) → some_of x ≡ Some y → x ≡ y
some_is x y e = cc

ok_is : {A : Type 0} (x y : A) → ok_of x ≡ Ok y → x ≡ y
ok_is x y e = cc

number_of_scheme : (n : ℕ) (scheme : SchemeName) → scheme_of_number n ≡ Some scheme → (row_of scheme).number ≡ n
unfolding scheme_of_number row_of
number_of_scheme zero scheme e = absurd cc
number_of_scheme (suc zero) scheme e = subst (λ (s : SchemeName). (row_of s).number ≡ 1) (some_is _ _ e) refl
number_of_scheme (suc (suc zero)) scheme e = subst (λ (s : SchemeName). (row_of s).number ≡ 2) (some_is _ _ e) refl
number_of_scheme (suc (suc (suc zero))) scheme e = subst (λ (s : SchemeName). (row_of s).number ≡ 3) (some_is _ _ e) refl
number_of_scheme (suc (suc (suc (suc zero)))) scheme e = subst (λ (s : SchemeName). (row_of s).number ≡ 4) (some_is _ _ e) refl
number_of_scheme (suc (suc (suc (suc (suc zero))))) scheme e = subst (λ (s : SchemeName). (row_of s).number ≡ 5) (some_is _ _ e) refl
number_of_scheme (suc (suc (suc (suc (suc (suc zero)))))) scheme e = subst (λ (s : SchemeName). (row_of s).number ≡ 6) (some_is _ _ e) refl
number_of_scheme (suc (suc (suc (suc (suc (suc (suc zero))))))) scheme e = subst (λ (s : SchemeName). (row_of s).number ≡ 7) (some_is _ _ e) refl
number_of_scheme (suc (suc (suc (suc (suc (suc (suc (suc zero)))))))) scheme e = subst (λ (s : SchemeName). (row_of s).number ≡ 8) (some_is _ _ e) refl
number_of_scheme (suc (suc (suc (suc (suc (suc (suc (suc (suc zero))))))))) scheme e = subst (λ (s : SchemeName). (row_of s).number ≡ 9) (some_is _ _ e) refl
number_of_scheme (suc (suc (suc (suc (suc (suc (suc (suc (suc (suc n)))))))))) scheme e = absurd cc

magic_back : (bytes : List ℕ) → has_magic bytes ≡ true → codes "WOMFLASH" ≡ take 8 bytes
unfolding has_magic
magic_back bytes h = sym ((bytes_decides (take 8 bytes) (codes "WOMFLASH")).0 h)

scheme_found : (is_old : Bool) (bytes : List ℕ) (o : Option SchemeName) (head : ImageHead) → head_of_scheme is_old bytes o ≡ Ok head →
    (scheme : SchemeName) × (o ≡ Some scheme) × (good_head is_old bytes (head_with bytes scheme) ≡ Ok head)
scheme_found is_old bytes None head e = absurd cc
scheme_found is_old bytes (Some scheme) head e = (scheme, refl, e)

good_found : (b : Bool) (x y : ImageHead) → cond b (ok_of x) (Err errors.Shape) ≡ Ok y → (b ≡ true) × (x ≡ y)
good_found true x y e = (refl, ok_is x y e)
good_found false x y e = absurd cc

-- the bytes begin with this head
pub record IsHeadOf (is_old : Bool) (head : ImageHead) (bytes : List ℕ) : Type 0 where
  pub within : is_within_limits head ≡ true
  pub long : head_length is_old ≤ length bytes
  pub slots : has_slots is_old bytes head ≡ true
  pub back : IsBytes bytes → first_bytes is_old head ++ drop 28 bytes ≡ bytes

back_with : (is_old : Bool) (bytes : List ℕ) (scheme : SchemeName) → IsBytes bytes → 28 ≤ length bytes → has_magic bytes ≡ true → half_at 8 bytes ≡ version_number is_old →
    (row_of scheme).number ≡ half_at 10 bytes → first_bytes is_old (head_with bytes scheme) ++ drop 28 bytes ≡ bytes
unfolding first_bytes
back_with is_old bytes scheme fits long magic version number =
    let m : codes "WOMFLASH" ≡ take 8 bytes = magic_back bytes magic in
    let a : half (version_number is_old) ≡ take 2 (drop 8 bytes) = ap half (sym version) ∙ half_back 8 bytes (omega arith) fits in
    let b : half (row_of scheme).number ≡ take 2 (drop 10 bytes) = ap half number ∙ half_back 10 bytes (omega arith) fits in
    let c = word_back 12 bytes (omega arith) fits in
    let d = word_back 16 bytes (omega arith) fits in
    let e = word_back 20 bytes (omega arith) fits in
    let f = word_back 24 bytes (omega arith) fits in
    (λ i. joined (m i) (a i) (b i) (c i) (d i) (e i) (f i) (drop 28 bytes)) ∙ pieces bytes

pub head_found : (is_old : Bool) (bytes : List ℕ) (head : ImageHead) → head_read is_old bytes ≡ Ok head → IsHeadOf is_old head bytes
unfolding head_read
head_found is_old bytes head e =
    let last : Result ImageHead ImageError = head_of_scheme is_old bytes (scheme_of_number (half_at 10 bytes)) in
    let is_version : Bool = half_at 8 bytes == version_number is_old in
    let g1 = guard (nat_lt (length bytes) (head_length is_old)) errors.Short (cond (not (has_magic bytes)) (Err errors.Magic) (cond (not is_version) (Err errors.Version) last)) head e in
    let g2 = guard (not (has_magic bytes)) errors.Magic (cond (not is_version) (Err errors.Version) last) head g1.1 in
    let g3 = guard (not is_version) errors.Version last head g2.1 in
    let s = scheme_found is_old bytes (scheme_of_number (half_at 10 bytes)) head g3.1 in
    let good = good_found (has_slots is_old bytes (head_with bytes s.0) && is_within_limits (head_with bytes s.0)) (head_with bytes s.0) head s.2 in
    let both = and_parts (has_slots is_old bytes (head_with bytes s.0)) (is_within_limits (head_with bytes s.0)) good.0 in
    let long = ltb-false (length bytes) (head_length is_old) g1.0 in
    let least = at_least is_old in
    let magic = not-false (has_magic bytes) g2.0 in
    let version = eqb-true (half_at 8 bytes) (version_number is_old) (not-false is_version g3.0) in
    subst (λ (h : ImageHead). IsHeadOf is_old h bytes) good.1
    (record {
      within = both.1;
      long = long;
      slots = both.0;
      back = λ fits. back_with is_old bytes s.0 fits (omega arith) magic version (number_of_scheme (half_at 10 bytes) s.0 s.1);
    })

cells_found : (cells : List ℕ) (read : Result ImageHead ImageError) (x : ImageHead × List ℕ) → cells_after cells read ≡ Ok x → (head : ImageHead) × (read ≡ Ok head) × (cells_read head cells ≡ Ok x)
cells_found cells (Err why) x e = absurd cc
cells_found cells (Ok head) x e = (head, refl, e)

-- the bytes are this head and these cells
pub record IsRead (is_old : Bool) (bytes : List ℕ) (head : ImageHead) (cells : List ℕ) : Type 0 where
  pub head_of : IsHeadOf is_old head bytes
  pub are : AreCells head cells
  pub rest : drop (head_length is_old) bytes ≡ cells

pub read_found : (is_old : Bool) (bytes : List ℕ) (head : ImageHead) (cells : List ℕ) → image_read is_old bytes ≡ Ok (head, cells) → IsRead is_old bytes head cells
unfolding image_read
read_found is_old bytes head cells e =
    let rest : List ℕ = drop (head_length is_old) bytes in
    let f = cells_found rest (head_read is_old bytes) (head, cells) e in
    let h = head_found is_old bytes f.0 f.1 in
    let last : Result (ImageHead × List ℕ) ImageError = cond (is_pad_charged (shape_of f.0) rest) (Err errors.PadCells) (Ok (f.0, rest)) in
    let g1 = guard (nat_lt (length rest) (die_bytes f.0)) errors.Short (cond (nat_lt (die_bytes f.0) (length rest)) (Err errors.Long) last) (head, cells) f.2 in
    let g2 = guard (nat_lt (die_bytes f.0) (length rest)) errors.Long last (head, cells) g1.1 in
    let g3 = guard (is_pad_charged (shape_of f.0) rest) errors.PadCells (Ok (f.0, rest)) (head, cells) g2.1 in
    let low = ltb-false (length rest) (die_bytes f.0) g1.0 in
    let high = ltb-false (die_bytes f.0) (length rest) g2.0 in
    let are : AreCells f.0 rest = record { within = h.within; whole = omega (arith, low, high); no_pad_charged = g3.0 } in
    subst (λ (p : ImageHead × List ℕ). IsRead is_old bytes p.0 p.1) (ok_is (f.0, rest) (head, cells) g3.1) (record { head_of = h; are = are; rest = refl })

pub image_found : (bytes : List ℕ) (head : ImageHead) (cells : List ℕ) → IsBytes bytes → image_read false bytes ≡ Ok (head, cells) → AreCells head cells × (bytes ≡ image head cells)
image_found bytes head cells fits e =
    let r = read_found false bytes head cells e in
    let long : 32 ≤ length bytes = r.head_of.long in
    let slots : word_at 28 bytes ≡ (row_of head.scheme).generations = eqb-true (word_at 28 bytes) (row_of head.scheme).generations r.head_of.slots in
    let field : word (row_of head.scheme).generations ≡ take 4 (drop 28 bytes) = ap word (sym slots) ∙ word_back 28 bytes (omega arith) fits in
    let behind : word (row_of head.scheme).generations ++ cells ≡ drop 28 bytes =
    (λ i. field i ++ sym r.rest i) ∙ ap (λ (more : List ℕ). take 4 (drop 28 bytes) ++ more) (sym (drop-drop 4 28 bytes)) ∙ take-append-drop 4 (drop 28 bytes) in
    (r.are, sym (image-first_bytes head cells ∙ ap (λ (more : List ℕ). first_bytes false head ++ more) behind ∙ r.head_of.back fits))

pub old_image_found : (bytes : List ℕ) (head : ImageHead) (cells : List ℕ) → IsBytes bytes → image_read true bytes ≡ Ok (head, cells) → AreOldCells head cells × (bytes ≡ old_image head cells)
unfolding old_image
old_image_found bytes head cells fits e =
    let r = read_found true bytes head cells e in
    let two : (row_of head.scheme).generations ≡ 2 = eqb-true (row_of head.scheme).generations 2 r.head_of.slots in
    ((r.are, two), sym (ap (λ (more : List ℕ). first_bytes true head ++ more) (sym r.rest) ∙ r.head_of.back fits))
