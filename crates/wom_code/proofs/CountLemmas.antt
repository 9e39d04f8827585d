-- How many bits of packed words are ones, counted word by word.
use Rattle.std.proofs.Common.{◌≡◌, ℕ, zero, suc, ◌+◌, ◌-◌, ◌*◌, ◌/◌, ◌^◌, ◌<◌, ◌≤◌, Bool, cond, List, length, get_or, map, nat_eq, count_ones, sym, ◌∙◌, ap, refl, arith}
use Rattle.std.specs.Int.{bit_at}
use Rattle.std.specs.Int.Count.{ones_step}
use Rattle.std.specs.List.{range_with_len}
use Rattle.std.proofs.lemmas.List.Sums.{sum_by-cons, count_by-le-length}
use Rattle.std.proofs.lemmas.Nat.Bits.{bit_at-suc, bit_at_lowest}
use Rattle.std.proofs.lemmas.Nat.{ones_le_self}
use Rattle.wom_code.specs.Cells.{charge_of}
use Rattle.wom_code.specs.Packed.{IsRow, word_bit, cells_of}
use Rattle.wom_code.proofs.PackedLemmas.{at_word, word_bit-lt, length-cells_of}

-- the sum of the first n of numbered digits
pub digit_sum : ℕ → (ℕ → ℕ) → ℕ
digit_sum zero f = 0
digit_sum (suc n) f = f 0 + digit_sum n (λ i. f (suc i))

digit_sum-same : (n : ℕ) (f g : ℕ → ℕ) → ((i : ℕ) → i < n → f i ≡ g i) → digit_sum n f ≡ digit_sum n g
unfolding digit_sum
digit_sum-same zero f g h = refl
digit_sum-same (suc n) f g h = omega (arith, h 0 (omega arith), digit_sum-same n (λ i. f (suc i)) (λ i. g (suc i)) (λ i l. h (suc i) (omega arith)))

digit_sum-add : (m n : ℕ) (f : ℕ → ℕ) → digit_sum (m + n) f ≡ digit_sum m f + digit_sum n (λ i. f (m + i))
unfolding digit_sum
digit_sum-add zero n f =
    let none : 0 + n ≡ n = omega arith in
    let same : digit_sum n f ≡ digit_sum n (λ i. f (0 + i)) = digit_sum-same n f (λ i. f (0 + i)) (λ i l. let e : i ≡ 0 + i = omega arith in ap f e) in
    ap (λ m. digit_sum m f) none ∙ same ∙ omega arith
digit_sum-add (suc m) n f =
    let more : suc m + n ≡ suc (m + n) = omega arith in
    let same : digit_sum n (λ i. f (suc (m + i))) ≡ digit_sum n (λ i. f (suc m + i)) =
    digit_sum-same n (λ i. f (suc (m + i))) (λ i. f (suc m + i)) (λ i l. let e : suc (m + i) ≡ suc m + i = omega arith in ap f e) in
    ap (λ k. digit_sum k f) more ∙ omega (arith, digit_sum-add m n (λ i. f (suc i)), same)

digit_sum-zeros : (n : ℕ) (f : ℕ → ℕ) → ((i : ℕ) → f i ≡ 0) → digit_sum n f ≡ 0
unfolding digit_sum
digit_sum-zeros zero f h = refl
digit_sum-zeros (suc n) f h = omega (arith, h 0, digit_sum-zeros n (λ i. f (suc i)) (λ i. h (suc i)))

-- the ones of a number
digit_sum-ones : (k n : ℕ) → n < 2 ^ k → digit_sum k (bit_at n) ≡ count_ones n
unfolding digit_sum
digit_sum-ones zero n h = omega (arith, ones_le_self n)
digit_sum-ones (suc k) n h =
    omega (arith, ones_step n, bit_at_lowest n, digit_sum-same k (λ i. bit_at n (suc i)) (bit_at (n / 2)) (λ i l. bit_at-suc n i), digit_sum-ones k (n / 2) (omega arith))

-- no word is counted
pub digit_sum-none : (f : ℕ → ℕ) → digit_sum 0 f ≡ 0
unfolding digit_sum
digit_sum-none f = refl

-- one word more
pub digit_sum_word : (words : List ℕ) (q : ℕ) → get_or words q 0 < 2 ^ 64 → digit_sum (64 * (q + 1)) (word_bit words) ≡ digit_sum (64 * q) (word_bit words) + count_ones (get_or words q 0)
digit_sum_word words q h =
    let split : 64 * (q + 1) ≡ 64 * q + 64 = omega arith in
    ap (λ n. digit_sum n (word_bit words)) split
    ∙ digit_sum-add (64 * q) 64 (word_bit words)
    ∙ ap (λ s. digit_sum (64 * q) (word_bit words) + s)
    (digit_sum-same 64 (λ i. word_bit words (64 * q + i)) (bit_at (get_or words q 0)) (λ i l. at_word words q i l) ∙ digit_sum-ones 64 (get_or words q 0) h)

digit_one : (b : ℕ) → b < 2 → cond (nat_eq b 1) 1 0 ≡ b
digit_one zero h = refl
digit_one (suc zero) h = refl
digit_one (suc (suc b)) h = absurd (omega arith)

charge_from : (f : ℕ → ℕ) → ((i : ℕ) → f i < 2) → (n a : ℕ) → charge_of (map (λ i. nat_eq (f i) 1) (range_with_len a n)) ≡ digit_sum n (λ i. f (a + i))
unfolding digit_sum
charge_from f h zero a = refl
charge_from f h (suc n) a =
    let rest : List Bool = map (λ i. nat_eq (f i) 1) (range_with_len (a + 1) n) in
    let at : a + 0 ≡ a = omega arith in
    let first : f (a + 0) ≡ f a = ap f at in
    let later : digit_sum n (λ i. f (a + 1 + i)) ≡ digit_sum n (λ i. f (a + suc i)) =
    digit_sum-same n (λ i. f (a + 1 + i)) (λ i. f (a + suc i)) (λ i l. let e : a + 1 + i ≡ a + suc i = omega arith in ap f e) in
    omega (arith, sum_by-cons (λ c. cond c 1 0) (nat_eq (f a) 1) rest, digit_one (f a) (h a), charge_from f h n (a + 1), first, later)

-- the charge of a row is the ones of its words
pub charge-cells_of : (n : ℕ) (words : List ℕ) → IsRow n words → charge_of (cells_of n words) ≡ digit_sum (64 * length words) (word_bit words)
unfolding cells_of
charge-cells_of n words r =
    let rest : ℕ = 64 * length words - n in
    let split : 64 * length words ≡ n + rest = omega (arith, r.count) in
    charge_from (word_bit words) (word_bit-lt words) n 0
    ∙ digit_sum-same n (λ i. word_bit words (0 + i)) (word_bit words) (λ i l. let e : 0 + i ≡ i = omega arith in ap (word_bit words) e)
    ∙ sym (ap (λ m. digit_sum m (word_bit words)) split ∙ digit_sum-add n rest (word_bit words)
    ∙ ap (λ s. digit_sum n (word_bit words) + s) (digit_sum-zeros rest (λ i. word_bit words (n + i)) (λ i. r.padding (n + i) (omega arith))) ∙ omega arith)

-- and the ones of some of its words are no more than its cells
pub partial_le : (n : ℕ) (words : List ℕ) (q : ℕ) → IsRow n words → q ≤ length words → digit_sum (64 * q) (word_bit words) ≤ n
partial_le n words q r h =
    let rest : ℕ = 64 * length words - 64 * q in
    let split : 64 * length words ≡ 64 * q + rest = omega arith in
    let all : charge_of (cells_of n words) ≡ digit_sum (64 * q) (word_bit words) + digit_sum rest (λ i. word_bit words (64 * q + i)) =
    charge-cells_of n words r ∙ ap (λ m. digit_sum m (word_bit words)) split ∙ digit_sum-add (64 * q) rest (word_bit words) in
    omega (arith, all, count_by-le-length (λ c. c) (cells_of n words), length-cells_of n words)
