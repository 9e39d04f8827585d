-- Words that are made of words by masks, shifts and bitwise operations: each bit of such a word is a formula in
-- bits of the given words, which is computed. So a claim on sixteen chunks side by side is one of sixteen formulas.
use Rattle.std.proofs.Common.{◌≡◌, ℕ, zero, suc, ◌+◌, ◌-◌, ◌*◌, ◌/◌, ◌%◌, ◌^◌, ◌<◌, ◌≤◌, ◌==◌, Bool, true, false, ◌&&◌, ◌||◌, cond, List, [], ◌∷◌, map, get_or, bit_and, bit_or, bit_xor, min, max}
use Rattle.std.proofs.Common.{eqb, ltb, sym, ◌∙◌, ap, ap₂, refl, inl, inr, arith}
use Rattle.std.specs.Int.{bit_at}
use Rattle.std.specs.List.{range_with_len}
use Rattle.std.proofs.lemmas.Bool.{cases_Bool, cases_lt, cond-true, cond-false, eqb-true, eqb-false, lt-ltb, le-ltb, false≢true}
use Rattle.std.proofs.lemmas.List.FromFn.{get_or-map-range_with_len}
use Rattle.std.proofs.lemmas.Nat.{shr-shr, div-add-mod', mod_below, pow_pos}
use Rattle.std.proofs.lemmas.Nat.Bits.{bit_at_and, bit_at_or, bit_at_xor, bit_at-lt, bit_at-zero, bit_at_above, bit_at_cat_low, bit_at_cat_high}
use Rattle.rivest_shamir.specs.Words.{differ}
use Rattle.wom_code.specs.Groups.{chunk_of}

-- ---- the word and its bits

-- a word that is made of the given words, by their numbers
pub data Form : Type 0 where
  given : ℕ → Form
  masked : Form → ℕ → Form
  both : Form → Form → Form
  either : Form → Form → Form
  apart : Form → Form → Form
  up : Form → ℕ → Form
  down : Form → ℕ → Form

abbrev pub value : (ℕ → ℕ) → Form → ℕ
value words (given v) = words v
value words (masked f mask) = bit_and (value words f) mask
value words (both f g) = bit_and (value words f) (value words g)
value words (either f g) = bit_or (value words f) (value words g)
value words (apart f g) = bit_xor (value words f) (value words g)
value words (up f k) = value words f * 2 ^ k % 2 ^ 64
value words (down f k) = value words f / 2 ^ k

-- a bit of such a word: none, bit i of given word v, or made of two
pub data Bit : Type 0 where
  none : Bit
  bit : ℕ → ℕ → Bit
  and : Bit → Bit → Bit
  or : Bit → Bit → Bit
  sum : Bit → Bit → Bit

abbrev pub is_none : Bit → Bool
is_none none = true
is_none (bit v i) = false
is_none (and a b) = false
is_none (or a b) = false
is_none (sum a b) = false

abbrev pub join : (Bit → Bit → Bit) → Bit → Bit → Bit
join f a b = cond (is_none a) b (cond (is_none b) a (f a b))

abbrev pub bit_of : Form → ℕ → Bit
bit_of (given v) i = bit v i
bit_of (masked f mask) i = cond (eqb (bit_at mask i) 1) (bit_of f i) none
bit_of (both f g) i = and (bit_of f i) (bit_of g i)
bit_of (either f g) i = join or (bit_of f i) (bit_of g i)
bit_of (apart f g) i = join sum (bit_of f i) (bit_of g i)
bit_of (up f k) i = cond (ltb i k) none (cond (ltb i 64) (bit_of f (i - k)) none)
bit_of (down f k) i = bit_of f (k + i)

abbrev pub truth : (ℕ → ℕ) → Bit → Bool
truth words none = false
truth words (bit v i) = bit_at (words v) i == 1
truth words (and a b) = truth words a && truth words b
truth words (or a b) = truth words a || truth words b
truth words (sum a b) = differ (truth words a) (truth words b)

-- ---- each bit of the word is what its formula says

none_truth : (words : ℕ → ℕ) (a : Bit) → is_none a ≡ true → truth words a ≡ false
none_truth words none e = refl
none_truth words (bit v i) e = absurd (false≢true e)
none_truth words (and a b) e = absurd (false≢true e)
none_truth words (or a b) e = absurd (false≢true e)
none_truth words (sum a b) e = absurd (false≢true e)

join_truth : (words : ℕ → ℕ) (f : Bit → Bit → Bit) (op : Bool → Bool → Bool) (a b : Bit) → truth words (f a b) ≡ op (truth words a) (truth words b) →
    ((y : Bool) → op false y ≡ y) → ((x : Bool) → op x false ≡ x) → truth words (join f a b) ≡ op (truth words a) (truth words b)
join_truth words f op a b made left right =
    elim (cases_Bool (is_none a)) [
      | inl e ↦ ap (truth words) (cond-true (is_none a) b (cond (is_none b) a (f a b)) e) ∙ sym (ap (λ x. op x (truth words b)) (none_truth words a e) ∙ left (truth words b))
      | inr e ↦ ap (truth words) (cond-false (is_none a) b (cond (is_none b) a (f a b)) e) ∙ elim (cases_Bool (is_none b)) [
        | inl h ↦ ap (truth words) (cond-true (is_none b) a (f a b) h) ∙ sym (ap (op (truth words a)) (none_truth words b h) ∙ right (truth words a))
        | inr h ↦ ap (truth words) (cond-false (is_none b) a (f a b) h) ∙ made
      ]
    ]

or_none : (x : Bool) → (x || false) ≡ x
or_none true = refl
or_none false = refl

differ_none : (x : Bool) → differ x false ≡ x
differ_none true = refl
differ_none false = refl

and_bits : (x y : ℕ) → x < 2 → y < 2 → (min x y == 1) ≡ ((x == 1) && (y == 1))
and_bits zero zero p q = refl
and_bits zero (suc zero) p q = refl
and_bits (suc zero) zero p q = refl
and_bits (suc zero) (suc zero) p q = refl
and_bits x (suc (suc y)) p q = absurd (omega arith)
and_bits (suc (suc x)) y p q = absurd (omega arith)

or_bits : (x y : ℕ) → x < 2 → y < 2 → (max x y == 1) ≡ ((x == 1) || (y == 1))
or_bits zero zero p q = refl
or_bits zero (suc zero) p q = refl
or_bits (suc zero) zero p q = refl
or_bits (suc zero) (suc zero) p q = refl
or_bits x (suc (suc y)) p q = absurd (omega arith)
or_bits (suc (suc x)) y p q = absurd (omega arith)

sum_bits : (x y : ℕ) → x < 2 → y < 2 → ((x + y) % 2 == 1) ≡ differ (x == 1) (y == 1)
sum_bits zero zero p q = refl
sum_bits zero (suc zero) p q = refl
sum_bits (suc zero) zero p q = refl
sum_bits (suc zero) (suc zero) p q = refl
sum_bits x (suc (suc y)) p q = absurd (omega arith)
sum_bits (suc (suc x)) y p q = absurd (omega arith)

low_bit : (n i : ℕ) → i < 64 → bit_at (n % 2 ^ 64) i ≡ bit_at n i
low_bit n i h = sym (bit_at_cat_low (n / 2 ^ 64) 64 (n % 2 ^ 64) i h) ∙ ap (λ x. bit_at x i) (div-add-mod' n (2 ^ 64))

high_bit : (n i : ℕ) → 64 ≤ i → bit_at (n % 2 ^ 64) i ≡ 0
high_bit n i h = bit_at_above (n % 2 ^ 64) 64 i (mod_below n (2 ^ 64) (omega arith)) h

alone : (n : ℕ) → n + 0 ≡ n
alone n = omega arith

shifted_below : (n k i : ℕ) → i < k → bit_at (n * 2 ^ k) i ≡ 0
shifted_below n k i h = ap (λ x. bit_at x i) (sym (alone (n * 2 ^ k))) ∙ bit_at_cat_low n k 0 i h ∙ bit_at-zero i

shifted : (n k i : ℕ) → k ≤ i → bit_at (n * 2 ^ k) i ≡ bit_at n (i - k)
shifted n k i h = ap (λ x. bit_at x i) (sym (alone (n * 2 ^ k))) ∙ bit_at_cat_high n k 0 i (pow_pos k) h

up_below : (n k i : ℕ) → i < k → bit_at (n * 2 ^ k % 2 ^ 64) i ≡ 0
up_below n k i h = elim (cases_lt i 64) [
  | inl l ↦ low_bit (n * 2 ^ k) i l ∙ shifted_below n k i h
  | inr m ↦ high_bit (n * 2 ^ k) i m
]

-- ---- the law: each bit of the word is what its formula says

law : (words : ℕ → ℕ) (f : Form) (i : ℕ) → (bit_at (value words f) i == 1) ≡ truth words (bit_of f i)
law words (given v) i = refl
law words (masked f mask) i =
    ap (λ x. x == 1) (bit_at_and (value words f) mask i) ∙ elim (cases_Bool (eqb (bit_at mask i) 1)) [
      | inl e ↦
          let m : bit_at mask i ≡ 1 = eqb-true (bit_at mask i) 1 e in
          let kept : min (bit_at (value words f) i) (bit_at mask i) ≡ bit_at (value words f) i = omega (arith, bit_at-lt (value words f) i) in
          ap (λ x. x == 1) kept ∙ law words f i ∙ sym (ap (truth words) (cond-true (eqb (bit_at mask i) 1) (bit_of f i) none e))
      | inr e ↦
          let m : bit_at mask i ≡ 0 = (let n = eqb-false (bit_at mask i) 1 e in omega (arith, bit_at-lt mask i)) in
          let gone : min (bit_at (value words f) i) (bit_at mask i) ≡ 0 = omega arith in
          ap (λ x. x == 1) gone ∙ sym (ap (truth words) (cond-false (eqb (bit_at mask i) 1) (bit_of f i) none e))
    ]
law words (both f g) i =
    ap (λ x. x == 1) (bit_at_and (value words f) (value words g) i)
    ∙ and_bits (bit_at (value words f) i) (bit_at (value words g) i) (bit_at-lt (value words f) i) (bit_at-lt (value words g) i)
    ∙ ap₂ (λ (x y : Bool). x && y) (law words f i) (law words g i)
law words (either f g) i =
    ap (λ x. x == 1) (bit_at_or (value words f) (value words g) i)
    ∙ or_bits (bit_at (value words f) i) (bit_at (value words g) i) (bit_at-lt (value words f) i) (bit_at-lt (value words g) i)
    ∙ ap₂ (λ (x y : Bool). x || y) (law words f i) (law words g i)
    ∙ sym (join_truth words or (λ x y. x || y) (bit_of f i) (bit_of g i) refl (λ y. refl) or_none)
law words (apart f g) i =
    ap (λ x. x == 1) (bit_at_xor (value words f) (value words g) i)
    ∙ sum_bits (bit_at (value words f) i) (bit_at (value words g) i) (bit_at-lt (value words f) i) (bit_at-lt (value words g) i)
    ∙ ap₂ (λ (x y : Bool). differ x y) (law words f i) (law words g i)
    ∙ sym (join_truth words sum (λ x y. differ x y) (bit_of f i) (bit_of g i) refl (λ y. refl) differ_none)
law words (up f k) i = elim (cases_lt i k) [
  | inl l ↦ ap (λ x. x == 1) (up_below (value words f) k i l) ∙ sym (ap (truth words) (cond-true (ltb i k) none (cond (ltb i 64) (bit_of f (i - k)) none) (lt-ltb i k l)))
  | inr m ↦ elim (cases_lt i 64) [
    | inl l ↦
        ap (λ x. x == 1) (low_bit (value words f * 2 ^ k) i l ∙ shifted (value words f) k i m) ∙ law words f (i - k)
        ∙ sym (ap (truth words) (cond-false (ltb i k) none (cond (ltb i 64) (bit_of f (i - k)) none) (le-ltb i k m) ∙ cond-true (ltb i 64) (bit_of f (i - k)) none (lt-ltb i 64 l)))
    | inr h ↦
        ap (λ x. x == 1) (high_bit (value words f * 2 ^ k) i h)
        ∙ sym (ap (truth words) (cond-false (ltb i k) none (cond (ltb i 64) (bit_of f (i - k)) none) (le-ltb i k m) ∙ cond-false (ltb i 64) (bit_of f (i - k)) none (le-ltb i 64 h)))
  ]
]
law words (down f k) i = ap (λ x. x == 1) (ap (λ q. q % 2) (shr-shr (value words f) k i)) ∙ law words f (k + i)

-- ---- chunks side by side

chunk_truth : (words : ℕ → ℕ) (f : Form) (n j : ℕ) (places : List ℕ) →
    map (λ c. bit_at (value words f) (j * n + c) == 1) places ≡ map (truth words) (map (λ c. bit_of f (j * n + c)) places)
chunk_truth words f n j [] = refl
chunk_truth words f n j (c ∷ places) = ap₂ (λ (x : Bool) (xs : List Bool). x ∷ xs) (law words f (j * n + c)) (chunk_truth words f n j places)

-- what is computed of the formulas of m chunks holds of the word
pub lifted : (words : ℕ → ℕ) (f : Form) (n m : ℕ) (target : ℕ → List Bit) →
    map (λ j. map (λ c. bit_of f (j * n + c)) (range_with_len 0 n)) (range_with_len 0 m) ≡ map target (range_with_len 0 m) →
    (j : ℕ) → j < m → chunk_of n (value words f) j ≡ map (truth words) (target j)
unfolding chunk_of
lifted words f n m target e j h =
    chunk_truth words f n j (range_with_len 0 n)
    ∙ ap (map (truth words))
    (sym (get_or-map-range_with_len (λ i. map (λ c. bit_of f (i * n + c)) (range_with_len 0 n)) 0 m j j [] h (omega arith))
    ∙ ap (λ rows. get_or rows j []) e
    ∙ get_or-map-range_with_len target 0 m j j [] h (omega arith))
