-- Cells that carry a sector decode to it.
use Rattle.std.specs.Prelude.{◌≡◌, ℕ, ◌+◌, ◌*◌, ◌/◌, ◌%◌, ◌^◌, ◌<◌, ◌≤◌, Bool, true, false, List, [], ◌∷◌, length, map, ◌==◌, ◌&&◌, slice_index, refl}
use Rattle.std.specs.Int.{bit_at, div_ceil}
use Rattle.std.specs.List.{range_with_len}
use Rattle.std.specs.Cmp.Lexicographic.{pointwise}
use mathlib.Core.Bool.{beq}
use Rattle.std.proofs.Common.{zero, suc, get_or, sym, ◌∙◌, ap, ap₂, subst, inl, inr, arith, eq-eqb}
use Rattle.std.proofs.lemmas.Bool.{cases_lt, false≢true}
use Rattle.std.proofs.lemmas.List.{ext_get_or}
use Rattle.std.proofs.lemmas.List.Elements.{All-get_or}
use Rattle.std.proofs.lemmas.List.FromFn.{length-map-range_with_len, get_or-map-range_with_len, length-range_with_len, get_or-range_with_len}
use Rattle.std.proofs.lemmas.List.Sums.{AllPass-from_list_all}
use Rattle.std.proofs.lemmas.Nat.{div-add-mod', mod_below, row_fits, pow-add}
use Rattle.std.proofs.lemmas.Nat.Bits.{bit_at-suc, bit_at-lt, bit_at-zero, same_from_bits_below}
use Rattle.cell_bits.specs.Cells.{is_charged, AreBytes}
use Rattle.striped.specs.Striping.{Striping, striping, number_of, chunks, chunk_cells, chunk_message, blank_page, IsCarried, carries, IsGiven, gives, decoded_bit, decoded}
use Rattle.striped.specs.Meaning.{Decodes}
use Rattle.striped.specs.Layouts.{meaning_of}

-- ---- the number of some bits

pub number_bit : (bits : List Bool) (i : ℕ) → (bit_at (number_of bits) i == 1) ≡ get_or bits i false
number_bit [] i = ap (λ b. b == 1) (bit_at-zero i)
number_bit (true ∷ bits) zero = eq-eqb _ _ (omega arith)
number_bit (false ∷ bits) zero = ap (λ b. b == 1) zero_bit
  where
    zero_bit : bit_at (0 + 2 * number_of bits) 0 ≡ 0
    zero_bit = omega arith
number_bit (true ∷ bits) (suc i) = let half : (1 + 2 * number_of bits) / 2 ≡ number_of bits =
    omega arith in ap (λ b. b == 1) (bit_at-suc (1 + 2 * number_of bits) i ∙ ap (λ n. bit_at n i) half) ∙ number_bit bits i
number_bit (false ∷ bits) (suc i) = let half : (0 + 2 * number_of bits) / 2 ≡ number_of bits =
    omega arith in ap (λ b. b == 1) (bit_at-suc (0 + 2 * number_of bits) i ∙ ap (λ n. bit_at n i) half) ∙ number_bit bits i

twice : (k : ℕ) → 2 ^ suc k ≡ 2 ^ k * 2
twice k = let e : suc k ≡ k + 1 = omega arith in ap (λ n. 2 ^ n) e ∙ pow-add 2 k 1

pub number_narrow : (bits : List Bool) → number_of bits < 2 ^ length bits
number_narrow [] = omega arith
number_narrow (true ∷ bits) = omega (arith, number_narrow bits, twice (length bits))
number_narrow (false ∷ bits) = omega (arith, number_narrow bits, twice (length bits))

same_bit : (a b : ℕ) → a < 2 → b < 2 → (a == 1) ≡ (b == 1) → a ≡ b
same_bit zero zero p q e = refl
same_bit zero (suc zero) p q e = absurd (false≢true e)
same_bit (suc zero) zero p q e = absurd (false≢true (sym e))
same_bit (suc zero) (suc zero) p q e = refl
same_bit zero (suc (suc b)) p q e = absurd (omega arith)
same_bit (suc zero) (suc (suc b)) p q e = absurd (omega arith)
same_bit (suc (suc a)) b p q e = absurd (omega arith)

-- bytes with the cells that the chunks decode to
pub decoded_is : (s : Striping) (n : ℕ) (decode : List Bool → List Bool) (bytes sector : List ℕ) → length sector ≡ s.sector_bytes → AreBytes sector →
    ((x : ℕ) → x < 8 * s.sector_bytes → is_charged sector x ≡ decoded_bit s n decode bytes x) → sector ≡ decoded s n decode bytes
unfolding decoded
decoded_is s n decode bytes sector len are h =
    ext_get_or 0 sector _ (len ∙ sym (length-map-range_with_len byte 0 s.sector_bytes)) (λ k l. same k (omega arith))
  where
    bits : ℕ → List Bool
    bits k = map (λ t. decoded_bit s n decode bytes (8 * k + t)) (range_with_len 0 8)

    byte : ℕ → ℕ
    byte k = number_of (map (λ t. decoded_bit s n decode bytes (8 * k + t)) (range_with_len 0 8))

    narrow : (k : ℕ) → number_of (map (λ t. decoded_bit s n decode bytes (8 * k + t)) (range_with_len 0 8)) < 2 ^ 8
    narrow k = subst (λ w. number_of (map (λ t. decoded_bit s n decode bytes (8 * k + t)) (range_with_len 0 8)) < 2 ^ w)
        (length-map-range_with_len (λ t. decoded_bit s n decode bytes (8 * k + t)) 0 8)
        (number_narrow (map (λ t. decoded_bit s n decode bytes (8 * k + t)) (range_with_len 0 8)))

    bit : (k i : ℕ) → k < s.sector_bytes → i < 8 → (bit_at (slice_index sector k) i == 1) ≡ (bit_at (number_of (map (λ t. decoded_bit s n decode bytes (8 * k + t)) (range_with_len 0 8))) i == 1)
    bit k i p q =
        let d : (8 * k + i) / 8 ≡ k = omega arith in
        let m : (8 * k + i) % 8 ≡ i = omega arith in
        ap₂ (λ (x y : ℕ). bit_at (slice_index sector x) y == 1) (sym d) (sym m)
        ∙ h (8 * k + i) (omega arith)
        ∙ sym (number_bit (map (λ t. decoded_bit s n decode bytes (8 * k + t)) (range_with_len 0 8)) i
        ∙ get_or-map-range_with_len (λ t. decoded_bit s n decode bytes (8 * k + t)) 0 8 i i false q (omega arith))

    same : (k : ℕ) → k < s.sector_bytes → get_or sector k 0
        ≡ get_or (map (λ k. number_of (map (λ t. decoded_bit s n decode bytes (8 * k + t)) (range_with_len 0 8))) (range_with_len 0 s.sector_bytes)) k 0
    same k p =
        same_from_bits_below 8 _ _ (are k) (narrow k) (λ i q. same_bit _ _ (bit_at-lt (slice_index sector k) i) (bit_at-lt _ i) (bit k i p q))
        ∙ sym (get_or-map-range_with_len (λ k. number_of (map (λ t. decoded_bit s n decode bytes (8 * k + t)) (range_with_len 0 8))) 0 s.sector_bytes k k 0 p (omega arith))

-- ---- the test

bits_same : (a b : Bool) → beq a b ≡ true → a ≡ b
bits_same true true e = refl
bits_same false false e = refl
bits_same true false e = absurd (false≢true e)
bits_same false true e = absurd (false≢true e)

pointwise_same : (xs ys : List Bool) → pointwise beq xs ys ≡ true → xs ≡ ys
pointwise_same [] [] e = refl
pointwise_same [] (y ∷ ys) e = absurd (false≢true e)
pointwise_same (x ∷ xs) [] e = absurd (false≢true e)
pointwise_same (true ∷ xs) (true ∷ ys) e = ap (λ zs. true ∷ zs) (pointwise_same xs ys e)
pointwise_same (false ∷ xs) (false ∷ ys) e = ap (λ zs. false ∷ zs) (pointwise_same xs ys e)
pointwise_same (true ∷ xs) (false ∷ ys) e = absurd (false≢true e)
pointwise_same (false ∷ xs) (true ∷ ys) e = absurd (false≢true e)

pub carries_to : (s : Striping) (n : ℕ) (decode : List Bool → List Bool) (bytes sector : List ℕ) → carries s n decode bytes sector ≡ true → IsCarried s n decode bytes sector
unfolding carries
carries_to s n decode bytes sector e i p =
    let all = AllPass-from_list_all (λ j. pointwise beq (decode (chunk_cells s n bytes j)) (chunk_message s sector j)) (range_with_len 0 (chunks s)) e in
    let z : get_or (range_with_len 0 (chunks s)) i 0 ≡ i = get_or-range_with_len 0 (chunks s) i 0 p ∙ omega arith in
    pointwise_same _ _ (subst (λ j. pointwise beq (decode (chunk_cells s n bytes j)) (chunk_message s sector j) ≡ true) z
    (All-get_or (λ j. pointwise beq (decode (chunk_cells s n bytes j)) (chunk_message s sector j) ≡ true) (range_with_len 0 (chunks s)) i 0 (omega (arith, length-range_with_len 0 (chunks s))) all))

pub gives_to : (s : Striping) (n : ℕ) (given : List Bool → List Bool → List Bool → Bool) (old sector new : List ℕ) → gives s n given old sector new ≡ true → IsGiven s n given old sector new
unfolding gives
gives_to s n given old sector new e i p =
    let all = AllPass-from_list_all (λ j. given (chunk_cells s n old j) (chunk_message s sector j) (chunk_cells s n new j)) (range_with_len 0 (chunks s)) e in
    let z : get_or (range_with_len 0 (chunks s)) i 0 ≡ i = get_or-range_with_len 0 (chunks s) i 0 p ∙ omega arith in
    subst (λ j. given (chunk_cells s n old j) (chunk_message s sector j) (chunk_cells s n new j) ≡ true) z
    (All-get_or (λ j. given (chunk_cells s n old j) (chunk_message s sector j) (chunk_cells s n new j) ≡ true) (range_with_len 0 (chunks s)) i 0
    (omega (arith, length-range_with_len 0 (chunks s))) all)

pub both_true : (a b : Bool) → (a && b) ≡ true → (a ≡ true) × (b ≡ true)
both_true true true e = (refl, refl)
both_true true false e = absurd (false≢true e)
both_true false b e = absurd (false≢true e)

-- the chunk of a bit is one of the chunks
pub chunk_of_bit : (x k m : ℕ) → 0 < k → x < m → x / k < div_ceil m k
chunk_of_bit x k m some h =
    let a : x / k * k + x % k ≡ x = div-add-mod' x k in
    let b : m / k * k + m % k ≡ m = div-add-mod' m k in
    elim (cases_lt (x / k) (m / k)) [
      | inl l ↦ omega arith
      | inr r ↦ elim (cases_lt (m / k) (x / k)) [
        | inl t ↦ (let f : m / k * k + k ≤ x / k * k = row_fits (m / k) k (x / k) k t (omega arith) in absurd (omega (arith, mod_below m k some)))
        | inr u ↦ (let e : x / k ≡ m / k = omega arith in let f : x / k * k ≡ m / k * k = ap (λ t. t * k) e in omega arith)
      ]
    ]

pub get_or-chunk_message : (s : Striping) (sector : List ℕ) (i j : ℕ) → j < s.message_bits → get_or (chunk_message s sector i) j false ≡ is_charged sector (i * s.message_bits + j)
unfolding chunk_message
get_or-chunk_message s sector i j h = get_or-map-range_with_len (λ j. is_charged sector (i * s.message_bits + j)) 0 s.message_bits j j false h (omega arith)

-- cells that carry a sector decode to it
pub carried_decodes : (s : Striping) (n : ℕ) (decode : List Bool → List Bool) (bytes sector : List ℕ) → 1 ≤ s.message_bits → length sector ≡ s.sector_bytes → AreBytes sector →
    carries s n decode bytes sector ≡ true → decoded s n decode bytes ≡ sector
carried_decodes s n decode bytes sector some len are e =
    sym (decoded_is s n decode bytes sector len are (λ x l.
    let below : x % s.message_bits < s.message_bits = mod_below x s.message_bits some in
    let whole : x / s.message_bits * s.message_bits + x % s.message_bits ≡ x = div-add-mod' x s.message_bits in
    sym (ap (λ m. get_or m (x % s.message_bits) false) (carries_to s n decode bytes sector e (x / s.message_bits) (chunk_of_bit x s.message_bits (8 * s.sector_bytes) some l))
    ∙ get_or-chunk_message s sector (x / s.message_bits) (x % s.message_bits) below ∙ ap (is_charged sector) whole)))

-- so the striping's meaning is one
pub decodes_law : (k m n bytes generations : ℕ) (f : List Bool → List Bool) (a : List Bool → List Bool → List Bool → Bool) (g : List Bool → List Bool) (b : List Bool → List Bool → List Bool → Bool)
    → 1 ≤ k → Decodes (meaning_of k m n bytes generations f a g b)
decodes_law k m n bytes generations f a g b some = record {
  first = λ page sector is e.
      carried_decodes (striping k m m bytes) m f page sector some is.long is.bytes
      (both_true (carries (striping k m m bytes) m f page sector) (gives (striping k m m bytes) m a (blank_page (striping k m m bytes)) sector page) e).0;
  second = λ unit sector is e. carried_decodes (striping k m n bytes) n g unit sector some is.long is.bytes e;
}
