-- Whole bytes of a row as a number: bit i of the number is bit i mod 8 of its byte i / 8.
use Rattle.std.proofs.Common.{◌≡◌, ℕ, zero, suc, ◌+◌, ◌-◌, ◌*◌, ◌/◌, ◌%◌, ◌^◌, ◌<◌, ◌≤◌, inl, inr, List, [], ◌∷◌, ◌++◌, take, length, slice_index, sym, ap, ap₂, ◌∙◌, arith, subst, refl}
use Rattle.std.proofs.Common.{length-take, get_or-take}
use Rattle.std.specs.Int.{bit_at, w16, w32, w64, to_le_bytes, from_le_bytes}
use Rattle.std.proofs.lemmas.Nat.{le_bytes_8}
use Rattle.std.proofs.lemmas.Bool.{cases_lt}
use Rattle.std.proofs.lemmas.List.{get_or_append_left, get_or-append_right, get_or_past}
use Rattle.std.proofs.lemmas.Nat.Bits.{bit_at_above, bit_at-zero}
use borrow.Rule.Slice.PartMut.{put_mid, post_of}
use Rattle.cell_bits.specs.Cells.{charge_at, AreBytes}
use Rattle.cell_bits.proofs.WordLemmas.{word_bit}
use Rattle.wom_code.proofs.OneWord.{number_lt}

-- byte k of the bytes that make a number: that of the row, and a zero past the count
abbrev pub IsByte : List ℕ → ℕ → ℕ → ℕ → ℕ → Type 0
IsByte row start count k byte = (k < count → byte ≡ slice_index row (start + k)) × (count ≤ k → byte ≡ 0)

abbrev pub eight : ℕ → ℕ → ℕ → ℕ → ℕ → ℕ → ℕ → ℕ → List ℕ
eight a b c d e f g h = a ∷ b ∷ c ∷ d ∷ e ∷ f ∷ g ∷ h ∷ []

pub each_byte : (row : List ℕ) (start count a b c d e f g h : ℕ) → IsByte row start count 0 a → IsByte row start count 1 b → IsByte row start count 2 c → IsByte row start count 3 d →
    IsByte row start count 4 e → IsByte row start count 5 f → IsByte row start count 6 g → IsByte row start count 7 h → (k : ℕ) → k < 8
    → IsByte row start count k (slice_index (eight a b c d e f g h) k)
each_byte row start count a b c d e f g h p q r s t u v w zero l = p
each_byte row start count a b c d e f g h p q r s t u v w (suc zero) l = q
each_byte row start count a b c d e f g h p q r s t u v w (suc (suc zero)) l = r
each_byte row start count a b c d e f g h p q r s t u v w (suc (suc (suc zero))) l = s
each_byte row start count a b c d e f g h p q r s t u v w (suc (suc (suc (suc zero)))) l = t
each_byte row start count a b c d e f g h p q r s t u v w (suc (suc (suc (suc (suc zero))))) l = u
each_byte row start count a b c d e f g h p q r s t u v w (suc (suc (suc (suc (suc (suc zero)))))) l = v
each_byte row start count a b c d e f g h p q r s t u v w (suc (suc (suc (suc (suc (suc (suc zero))))))) l = w
each_byte row start count a b c d e f g h p q r s t u v w (suc (suc (suc (suc (suc (suc (suc (suc k)))))))) l = absurd (omega arith)

-- eight bytes, the first of a row from start on and zeros after them, that make a number
pub record IsTaken (row bytes : List ℕ) (start count n : ℕ) : Type 0 where
  pub few : count ≤ 8
  pub small : AreBytes row
  pub long : length bytes ≡ 8
  pub each : (k : ℕ) → k < 8 → IsByte row start count k (slice_index bytes k)
  pub number : n ≡ from_le_bytes w64 bytes

byte_in : (row bytes : List ℕ) (start count n k : ℕ) → IsTaken row bytes start count n → k < count → slice_index bytes k ≡ slice_index row (start + k)
byte_in row bytes start count n k t h = let few = t.few in (t.each k (omega arith)).0 h

byte_past : (row bytes : List ℕ) (start count n k : ℕ) → IsTaken row bytes start count n → count ≤ k → slice_index bytes k ≡ 0
byte_past row bytes start count n k t h = elim (cases_lt k 8) [
  | inl l ↦ (t.each k l).1 h
  | inr m ↦ get_or_past bytes k 0 (let long = t.long in omega arith)
]

byte_small : (row bytes : List ℕ) (start count n k : ℕ) → IsTaken row bytes start count n → slice_index bytes k < 256
byte_small row bytes start count n k t = elim (cases_lt k count) [
  | inl l ↦ subst (λ (b : ℕ). b < 256) (sym (byte_in row bytes start count n k t l)) (t.small (start + k))
  | inr m ↦ subst (λ (b : ℕ). b < 256) (sym (byte_past row bytes start count n k t m)) (omega arith)
]

bit_is : (row bytes : List ℕ) (start count n i : ℕ) → IsTaken row bytes start count n → i < 64 → bit_at n i ≡ bit_at (slice_index bytes (i / 8)) (i % 8)
bit_is row bytes start count n i t h =
    sym (word_bit n i h)
    ∙ ap (λ (bs : List ℕ). bit_at (slice_index bs (i / 8)) (i % 8)) (le_bytes_8 bytes n t.long (λ k. byte_small row bytes start count n k t) t.number)

pub taken_cells : (row bytes : List ℕ) (start count n : ℕ) → IsTaken row bytes start count n → (i : ℕ) → i < 8 * count → bit_at n i ≡ charge_at row (8 * start + i)
taken_cells row bytes start count n t i h =
    let few = t.few in
    let quotient : start + i / 8 ≡ (8 * start + i) / 8 = omega arith in
    let remainder : i % 8 ≡ (8 * start + i) % 8 = omega arith in
    bit_is row bytes start count n i t (omega arith)
    ∙ ap (λ (byte : ℕ). bit_at byte (i % 8)) (byte_in row bytes start count n (i / 8) t (omega arith))
    ∙ ap₂ (λ (q r : ℕ). bit_at (slice_index row q) r) quotient remainder

pub taken_narrow : (row bytes : List ℕ) (start count n : ℕ) → IsTaken row bytes start count n → n < 2 ^ 64 → n < 2 ^ (8 * count)
taken_narrow row bytes start count n t word = number_lt (8 * count) n (λ i h. elim (cases_lt i 64) [
  | inl l ↦ bit_is row bytes start count n i t l ∙ ap (λ (byte : ℕ). bit_at byte (i % 8)) (byte_past row bytes start count n (i / 8) t (omega arith)) ∙ bit_at-zero (i % 8)
  | inr m ↦ bit_at_above n 64 i word m
])

-- the first bytes of a word that are put in the place of as many bytes
pub put_cell : (row part : List ℕ) (start k count word : ℕ) → k ≡ count → count ≤ 8 → start + count ≤ length row → part ≡ take count (to_le_bytes w64 word) →
    (i : ℕ) → i < 8 * count → charge_at (put_mid start k row part) (8 * start + i) ≡ bit_at word i
put_cell row part start k count word same few room e i h =
    ap₂ (λ (q r : ℕ). bit_at (slice_index (put_mid start k row part) q) r) quotient remainder
    ∙ ap (λ (byte : ℕ). bit_at byte (i % 8)) (inside ∙ ap (λ (xs : List ℕ). slice_index xs (i / 8)) e ∙ get_or-take count (to_le_bytes w64 word) (i / 8) 0 (omega arith))
    ∙ word_bit word i (omega arith)
  where
    quotient : (8 * start + i) / 8 ≡ start + i / 8
    quotient = omega arith

    remainder : (8 * start + i) % 8 ≡ i % 8
    remainder = omega arith

    eight : length (to_le_bytes w64 word) ≡ 8
    eight = refl

    long : length part ≡ count
    long = ap length e ∙ omega (arith, length-take count (to_le_bytes w64 word), eight)

    front : length (take start row) ≡ start
    front = omega (arith, length-take start row)

    back : start + i / 8 - start ≡ i / 8
    back = omega arith

    inside : slice_index (put_mid start k row part) (start + i / 8) ≡ slice_index part (i / 8)
    inside =
        get_or-append_right (take start row) (part ++ post_of start k row) start (start + i / 8) 0 front (omega arith)
        ∙ ap (slice_index (part ++ post_of start k row)) back ∙ get_or_append_left part (post_of start k row) 0 (i / 8) (omega (arith, long))

-- the bytes of the lowest half and quarter of a word
two_same : (a b a' b' : ℕ) → a ≡ a' → b ≡ b' → (a ∷ b ∷ []) ≡ (a' ∷ b' ∷ [])
two_same a b a' b' p q = ap₂ (λ (x y : ℕ). x ∷ y ∷ []) p q

pub low_four : (word n : ℕ) → n ≡ word % 2 ^ 32 → to_le_bytes w32 n ≡ take 4 (to_le_bytes w64 word)
low_four word n e =
    ap (to_le_bytes w32) e
    ∙ ap₂ (λ (x y : ℕ). x ∷ y ∷ word % 2 ^ 32 / 65536 % 256 ∷ word % 2 ^ 32 / 16777216 % 256 ∷ []) (omega arith) (omega arith)
    ∙ ap₂ (λ (x y : ℕ). word % 256 ∷ word / 256 % 256 ∷ x ∷ y ∷ []) (omega arith) (omega arith)

pub low_two : (word n : ℕ) → n ≡ word % 2 ^ 16 → to_le_bytes w16 n ≡ take 2 (to_le_bytes w64 word)
low_two word n e = ap (to_le_bytes w16) e ∙ two_same (word % 2 ^ 16 % 256) (word % 2 ^ 16 / 256 % 256) (word % 256) (word / 256 % 256) (omega arith) (omega arith)
