-- A text spells one line, and one script.
use Rattle.std.proofs.Common.{◌≡◌, ℕ, ◌-◌, ◌/◌, ◌%◌, ◌^◌, ◌<◌, ◌≤◌, List, [], ◌∷◌, length, get_or, drop, Result, Ok, Err, refl, sym, ap, ◌∙◌, arith, decimal, suc, zero, inl, inr, ◌⊎◌}
use Rattle.std.proofs.lemmas.Bool.{cases_lt}
use Rattle.std.proofs.lemmas.List.{append-nil}
use Rattle.std.proofs.lemmas.List.Elements.{All-tail, All-from_recursion}
use Rattle.std.proofs.lemmas.Fmt.{decimal_injective}
use Rattle.std.proofs.lemmas.Nat.{from_be_bytes-to_be_bytes_8}
use Rattle.std.specs.Int.{w64, to_be_bytes, from_be_bytes}
use Rattle.std.specs.List.{All, AllZip, AllByRecursion}
use Rattle.std.specs.Result.{MatchResult, IfOk}
use Rattle.rssd_script.specs.declared.lines.Line.{Line}
use Rattle.rssd_script.specs.declared.lines.Line.TheVariants.{Write, Read, Trim, Idle, Cut, FailRead, Mount, Stat}
use Rattle.rssd_script.specs.declared.lines.TornWord.{TornWord}
use Rattle.rssd_script.specs.declared.lines.TornWord.TheVariants.{Nothing, All as Every, Mask}
use Rattle.rssd_script.specs.declared.error.ScriptError.{ScriptError}
use Rattle.rssd_script.specs.declared.error.ScriptError.TheVariants.{TooLong, BadLine, OutOfMemory}
use Rattle.rssd_script.specs.Script.{Spells, IsWithinGrammar, IsTornWithin, IsScript, FirstBadLine, line_text, torn_text, text_lines, script_text}
use Rattle.rssd_script.specs.Text.{hex_digit, hex_of, hex_or_dash, AreBytes}
use Rattle.rssd_script.specs.Scripts.{Reads, Refuses, most_bytes}
use Rattle.rssd_script.proofs.Texts.{one_cut, Lacks-decimal, AreBytes-word, length-hex}
use Rattle.rssd_script.proofs.FirstWords.{first, differ}
use Rattle.rssd_script.proofs.Cuts.{end_whole}

same_digit : (a b : ℕ) → a < 16 → b < 16 → hex_digit a ≡ hex_digit b → a ≡ b
same_digit a b x y e = grind arith

same_hex : (a b : List ℕ) → AreBytes a → AreBytes b → hex_of a ≡ hex_of b → a ≡ b
same_hex [] [] x y e = refl
same_hex [] (d ∷ b) x y e = cc
same_hex (c ∷ a) [] x y e = cc
same_hex (c ∷ a) (d ∷ b) x y e =
    let p : c < 2 ^ 8 = x 0 0 (omega arith) in
    let q : d < 2 ^ 8 = y 0 0 (omega arith) in
    let e1 : hex_digit (c / 16) ≡ hex_digit (d / 16) = ap (λ t. get_or t 0 0) e in
    let e2 : hex_digit (c % 16) ≡ hex_digit (d % 16) = ap (λ t. get_or t 1 0) e in
    let h = same_digit (c / 16) (d / 16) (omega arith) (omega arith) e1 in
    let l = same_digit (c % 16) (d % 16) (omega arith) (omega arith) e2 in
    let head : c ≡ d = omega (arith, h, l) in
    let tail = same_hex a b (All-tail (λ byte. byte < 2 ^ 8) c a x) (All-tail (λ byte. byte < 2 ^ 8) d b y) (ap (drop 2) e) in
    λ i. head i ∷ tail i

same_dash : (a b : List ℕ) → AreBytes a → AreBytes b → hex_or_dash a ≡ hex_or_dash b → a ≡ b
same_dash [] [] x y e = refl
same_dash [] (d ∷ b) x y e = let h : 1 ≡ length (hex_of (d ∷ b)) = ap length e in let l = length-hex (d ∷ b) in absurd (omega (arith, l))
same_dash (c ∷ a) [] x y e = let h : length (hex_of (c ∷ a)) ≡ 1 = ap length e in let l = length-hex (c ∷ a) in absurd (omega (arith, l))
same_dash (c ∷ a) (d ∷ b) x y e = same_hex (c ∷ a) (d ∷ b) x y e

same_torn : (s t : TornWord) → IsTornWithin s → IsTornWithin t → torn_text s ≡ torn_text t → s ≡ t
same_torn Nothing Nothing v w e = refl
same_torn Every Every v w e = refl
same_torn (Mask m) (Mask n) v w e =
    let h : hex_of (to_be_bytes w64 m) ≡ hex_of (to_be_bytes w64 n) = ap (drop 5) e in
    let b = same_hex (to_be_bytes w64 m) (to_be_bytes w64 n) (AreBytes-word m) (AreBytes-word n) h in
    ap Mask (sym (from_be_bytes-to_be_bytes_8 m v) ∙ ap (from_be_bytes w64) b ∙ from_be_bytes-to_be_bytes_8 n w)
same_torn s t v w e = absurd (differ (first (torn_text s)) (first (torn_text t)) refl (ap first e))

number_is : (m n : ℕ) → m < 2 ^ 32 → n < 2 ^ 32 → decimal m ≡ decimal n → m ≡ n
number_is m n v w e = decimal_injective m n (omega arith) (omega arith) e

-- a text spells at most one line
pub one_line : (a b : Line) → IsWithinGrammar a → IsWithinGrammar b → line_text a ≡ line_text b → a ≡ b
unfolding line_text IsWithinGrammar
one_line (Write s xs) (Write t ys) v w e =
    let r = one_cut 32 (decimal s) (decimal t) (hex_or_dash xs) (hex_or_dash ys) (Lacks-decimal 32 s (omega arith) v.0) (Lacks-decimal 32 t (omega arith) w.0) (ap (drop 6) e) in
    let n = number_is s t v.0 w.0 r.0 in
    let b = same_dash xs ys v.2 w.2 r.1 in
    λ i. Write (n i) (b i)
one_line (Read m) (Read n) v w e = ap Read (number_is m n v w (ap (drop 5) e))
one_line (Trim m) (Trim n) v w e = ap Trim (number_is m n v w (ap (drop 5) e))
one_line (Idle m) (Idle n) v w e = ap Idle (number_is m n v w (ap (drop 5) e))
one_line (Cut m s) (Cut n t) v w e =
    let r =
    one_cut 32 (decimal m) (decimal n) (torn_text s) (torn_text t) (Lacks-decimal 32 m (omega arith) (omega (arith, v.0.1))) (Lacks-decimal 32 n (omega arith) (omega (arith, w.0.1)))
    (ap (drop 4) e) in
    let n' = number_is m n (omega (arith, v.0.1)) (omega (arith, w.0.1)) r.0 in
    let t' = same_torn s t v.1 w.1 r.1 in
    λ i. Cut (n' i) (t' i)
one_line (FailRead m) (FailRead n) v w e = ap FailRead (number_is m n (omega (arith, v.1)) (omega (arith, w.1)) (ap (drop 9) e))
one_line Mount Mount v w e = refl
one_line Stat Stat v w e = refl
one_line a b v w e = absurd (differ (first (line_text a)) (first (line_text b)) refl (ap first e))

same_zip : (texts : List (List ℕ)) (a b : List Line) → AllZip Spells texts a → AllZip Spells texts b → a ≡ b
same_zip [] [] [] v w = refl
same_zip [] [] (y ∷ b) v w = absurd w
same_zip [] (x ∷ a) b v w = absurd v
same_zip (t ∷ texts) [] b v w = absurd v
same_zip (t ∷ texts) (x ∷ a) [] v w = absurd w
same_zip (t ∷ texts) (x ∷ a) (y ∷ b) v w =
    let h = one_line x y v.0.0 w.0.0 (sym v.0.1 ∙ w.0.1) in
    let r = same_zip texts a b v.1 w.1 in
    λ i. h i ∷ r i

-- a text is at most one script
pub one_script : (text : List ℕ) (a b : List Line) → IsScript text a → IsScript text b → a ≡ b
one_script text a b v w = same_zip (text_lines text) a b v w

zip_at : (texts : List (List ℕ)) (a : List Line) (i : ℕ) → AllZip Spells texts a → i < length texts → (line : Line) × Spells (get_or texts i []) line
zip_at [] a i v h = absurd (omega arith)
zip_at (t ∷ texts) [] i v h = absurd v
zip_at (t ∷ texts) (x ∷ a) zero v h = (x, v.0)
zip_at (t ∷ texts) (x ∷ a) (suc i) v h = zip_at texts a i v.1 (omega arith)

-- the lines of a script are within the grammar
zip_within : (texts : List (List ℕ)) (a : List Line) → AllZip Spells texts a → AllByRecursion IsWithinGrammar a
zip_within [] [] v = tt
zip_within [] (x ∷ a) v = absurd v
zip_within (t ∷ texts) [] v = absurd v
zip_within (t ∷ texts) (x ∷ a) v = (v.0.0, zip_within texts a v.1)

pub lines_within : (text : List ℕ) (lines : List Line) → Reads text lines → All IsWithinGrammar lines
lines_within text lines r = All-from_recursion IsWithinGrammar lines (zip_within (text_lines text) lines r.1)

-- no script has a bad line, and a text has one first bad line
pub no_bad : (text : List ℕ) (a : List Line) (k : ℕ) → IsScript text a → FirstBadLine text k → ⊥
no_bad text a k s f = let at = zip_at (text_lines text) a (k - 1) s (omega (arith, f.within.0, f.within.1)) in f.bad at.0 at.1

earlier : (text : List ℕ) (j k : ℕ) → j < k → FirstBadLine text j → FirstBadLine text k → ⊥
earlier text j k h f g = let at = g.before (j - 1) (omega (arith, f.within.0)) in f.bad at.0 at.1

pub one_bad : (text : List ℕ) (j k : ℕ) → FirstBadLine text j → FirstBadLine text k → j ≡ k
one_bad text j k f g =
    elim (cases_lt j k) [
      | inl h ↦ absurd (earlier text j k h f g)
      | inr h ↦ elim (cases_lt k j) [ inl i ↦ absurd (earlier text k j i g f) | inr i ↦ omega arith ]
    ]

-- the printed lines are the script of these lines
pub printed : (lines : List Line) → AllByRecursion IsWithinGrammar lines → length (script_text lines) ≤ most_bytes → Reads (script_text lines) lines
printed lines w h = (h, end_whole (script_text lines) lines [] (record { within = w; is = sym (append-nil (script_text lines)); no_feed = tt }) refl)

-- what else follows from the answer
module _ {V : Type 0} (items : V → List Line) (text : List ℕ) where
  pub lines_only : (r : Result V ScriptError) → MatchResult r (λ v. Reads text (items v)) (Refuses text) → (lines : List Line) → Reads text lines
      → MatchResult r (λ v. items v ≡ lines) (λ e. e ≡ OutOfMemory)
  lines_only (Ok v) a lines is = one_script text (items v) lines a.1 is.1
  lines_only (Err TooLong) a lines is = absurd (omega (arith, a, is.0))
  lines_only (Err (BadLine k)) a lines is = absurd (no_bad text lines k is.1 a.1)
  lines_only (Err OutOfMemory) a lines is = refl

  pub within : (r : Result V ScriptError) → MatchResult r (λ v. Reads text (items v)) (Refuses text) → IfOk r (λ v. All IsWithinGrammar (items v))
  within (Ok v) a = lines_within text (items v) a
  within (Err e) a = tt

  pub bad_only : (r : Result V ScriptError) → MatchResult r (λ v. Reads text (items v)) (Refuses text) → (k : ℕ) → Refuses text (BadLine k)
      → MatchResult r (λ _. ⊥) (λ e. (e ≡ BadLine k) ⊎ (e ≡ OutOfMemory))
  bad_only (Ok v) a k is = no_bad text (items v) k a.1 is.1
  bad_only (Err TooLong) a k is = absurd (omega (arith, a, is.0))
  bad_only (Err (BadLine j)) a k is = inl (ap BadLine (one_bad text j k a.1 is.1))
  bad_only (Err OutOfMemory) a k is = inr refl

  pub long_only : (r : Result V ScriptError) → MatchResult r (λ v. Reads text (items v)) (Refuses text) → most_bytes < length text → MatchResult r (λ _. ⊥) (λ e. (e ≡ TooLong) ⊎ (e ≡ OutOfMemory))
  long_only (Ok v) a h = omega (arith, a.0)
  long_only (Err TooLong) a h = inl refl
  long_only (Err (BadLine j)) a h = absurd (omega (arith, a.0))
  long_only (Err OutOfMemory) a h = inr refl
