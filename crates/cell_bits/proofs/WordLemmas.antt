-- Words of a row: bit i of the number is bit i mod 8 of its byte i / 8.
use Rattle.std.proofs.Common.{◌≡◌, ℕ, zero, suc, ◌+◌, ◌-◌, ◌*◌, ◌/◌, ◌%◌, ◌^◌, ◌<◌, ◌≤◌, ◌⊎◌, inl, inr, List, [], ◌∷◌, ◌++◌, take, length, slice_index, refl, sym, ap, ap₂, ◌∙◌, arith, subst}
use Rattle.std.proofs.Common.{length-take}
use Rattle.std.specs.Int.{bit_at, w64, to_le_bytes, from_le_bytes}
use Rattle.std.proofs.lemmas.Nat.{le_bytes_8}
use Rattle.std.proofs.lemmas.Bool.{cases_lt}
use Rattle.std.proofs.lemmas.List.{get_or_append_left, get_or-append_right, get_or_past}
use Rattle.std.proofs.lemmas.Nat.Bits.{bit_at_cat_low}
use borrow.Rule.Slice.PartMut.{put_mid, post_of}
use Rattle.cell_bits.specs.Cells.{charge_at, AreBytes}
use Rattle.cell_bits.proofs.PieceLemmas.{bit_at_shr}

low_bit : (n i : ℕ) → i < 8 → bit_at (n % 256) i ≡ bit_at n i
low_bit n i h = let whole : n / 256 * 2 ^ 8 + n % 256 ≡ n = omega arith in sym (bit_at_cat_low (n / 256) 8 (n % 256) i h) ∙ ap (λ (m : ℕ). bit_at m i) whole

word_byte : (n k : ℕ) → k < 8 → slice_index (to_le_bytes w64 n) k ≡ n / 2 ^ (8 * k) % 256
word_byte n zero h = ap (λ (m : ℕ). m % 256) (omega arith)
word_byte n (suc zero) h = refl
word_byte n (suc (suc zero)) h = refl
word_byte n (suc (suc (suc zero))) h = refl
word_byte n (suc (suc (suc (suc zero)))) h = refl
word_byte n (suc (suc (suc (suc (suc zero))))) h = refl
word_byte n (suc (suc (suc (suc (suc (suc zero)))))) h = refl
word_byte n (suc (suc (suc (suc (suc (suc (suc zero))))))) h = refl
word_byte n (suc (suc (suc (suc (suc (suc (suc (suc k)))))))) h = absurd (omega arith)

-- a bit of one of the word's bytes
pub word_bit : (n i : ℕ) → i < 64 → bit_at (slice_index (to_le_bytes w64 n) (i / 8)) (i % 8) ≡ bit_at n i
word_bit n i h =
    let place : 8 * (i / 8) + i % 8 ≡ i = omega arith in
    ap (λ (byte : ℕ). bit_at byte (i % 8)) (word_byte n (i / 8) (omega arith))
    ∙ (low_bit (n / 2 ^ (8 * (i / 8))) (i % 8) (omega arith)
    ∙ (bit_at_shr n (8 * (i / 8)) (i % 8) ∙ ap (bit_at n) place))

abbrev pub bytes_from : List ℕ → ℕ → List ℕ
bytes_from row start =
    slice_index row start ∷ slice_index row (start + 1) ∷ slice_index row (start + 2) ∷ slice_index row (start + 3) ∷ slice_index row (start + 4) ∷ slice_index row (start + 5) ∷ slice_index row
    (start + 6) ∷ slice_index row (start + 7) ∷ []

from_byte : (row : List ℕ) (start k : ℕ) → k < 8 → slice_index (bytes_from row start) k ≡ slice_index row (start + k)
from_byte row start zero h = ap (slice_index row) (omega arith)
from_byte row start (suc zero) h = refl
from_byte row start (suc (suc zero)) h = refl
from_byte row start (suc (suc (suc zero))) h = refl
from_byte row start (suc (suc (suc (suc zero)))) h = refl
from_byte row start (suc (suc (suc (suc (suc zero))))) h = refl
from_byte row start (suc (suc (suc (suc (suc (suc zero)))))) h = refl
from_byte row start (suc (suc (suc (suc (suc (suc (suc zero))))))) h = refl
from_byte row start (suc (suc (suc (suc (suc (suc (suc (suc k)))))))) h = absurd (omega arith)

from_small : (row : List ℕ) (start : ℕ) → AreBytes row → (k : ℕ) → slice_index (bytes_from row start) k < 256
from_small row start f k = elim (cases_lt k 8) [
  | inl few ↦ subst (λ (byte : ℕ). byte < 256) (sym (from_byte row start k few)) (f (start + k))
  | inr past ↦ subst (λ (byte : ℕ). byte < 256) (sym (get_or_past (bytes_from row start) k 0 past)) (omega arith)
]

-- the cells of the word that eight bytes make
pub taken_word : (row : List ℕ) (start n : ℕ) → AreBytes row → n ≡ from_le_bytes w64 (bytes_from row start) →
    (i : ℕ) → i < 64 → bit_at n i ≡ charge_at row (8 * start + i)
taken_word row start n f e i h =
    sym (word_bit n i h)
    ∙ (ap (λ (bytes : List ℕ). bit_at (slice_index bytes (i / 8)) (i % 8)) (le_bytes_8 (bytes_from row start) n refl (from_small row start f) e)
    ∙ (ap (λ (byte : ℕ). bit_at byte (i % 8)) (from_byte row start (i / 8) (omega arith)) ∙ ap₂ (λ (q r : ℕ). bit_at (slice_index row q) r) quotient remainder))
  where
    quotient : start + i / 8 ≡ (8 * start + i) / 8
    quotient = omega arith

    remainder : i % 8 ≡ (8 * start + i) % 8
    remainder = omega arith

-- the cells of a word that is put in the place of eight bytes
pub put_bit : (row bytes : List ℕ) (start k word : ℕ) → k ≡ 8 → start + 8 ≤ length row → bytes ≡ to_le_bytes w64 word → (i : ℕ) → i < 64
    → charge_at (put_mid start k row bytes) (8 * start + i) ≡ bit_at word i
put_bit row bytes start k word eight room e i h =
    ap₂ (λ (q r : ℕ). bit_at (slice_index (put_mid start k row bytes) q) r) quotient remainder
    ∙ (ap (λ (byte : ℕ). bit_at byte (i % 8)) inside ∙ (ap (λ (xs : List ℕ). bit_at (slice_index xs (i / 8)) (i % 8)) e ∙ word_bit word i h))
  where
    quotient : (8 * start + i) / 8 ≡ start + i / 8
    quotient = omega arith

    remainder : (8 * start + i) % 8 ≡ i % 8
    remainder = omega arith

    long : length bytes ≡ 8
    long = ap length e

    front : length (take start row) ≡ start
    front = omega (arith, length-take start row)

    back : start + i / 8 - start ≡ i / 8
    back = omega arith

    inside : slice_index (put_mid start k row bytes) (start + i / 8) ≡ slice_index bytes (i / 8)
    inside =
        get_or-append_right (take start row) (bytes ++ post_of start k row) start (start + i / 8) 0 front (omega arith)
        ∙ (ap (slice_index (bytes ++ post_of start k row)) back ∙ get_or_append_left bytes (post_of start k row) 0 (i / 8) (omega (arith, long)))

-- a word whose bits from first on are put in the place of eight bytes, and no other bits
pub record IsWindow (old new : List ℕ) (start first count bits word with : ℕ) : Type 0 where
  pub taken : (i : ℕ) → i < 64 → bit_at word i ≡ charge_at old (8 * start + i)
  pub inside : (i : ℕ) → i < count → bit_at with (first + i) ≡ bit_at bits i
  pub low : (i : ℕ) → i < first → bit_at with i ≡ bit_at word i
  pub high : (i : ℕ) → first + count ≤ i → bit_at with i ≡ bit_at word i
  pub put : (i : ℕ) → i < 64 → charge_at new (8 * start + i) ≡ bit_at with i
  pub below : (c : ℕ) → c < 8 * start → charge_at new c ≡ charge_at old c
  pub above : (c : ℕ) → 8 * start + 64 ≤ c → charge_at new c ≡ charge_at old c
  pub fits : first + count ≤ 64

pub window_bits : (old new : List ℕ) (start first count bits word with at : ℕ) → IsWindow old new start first count bits word with → 8 * start + first ≡ at →
    (i : ℕ) → i < count → charge_at new (at + i) ≡ bit_at bits i
window_bits old new start first count bits word with at w e i h =
    let fits = w.fits in
    let place : at + i ≡ 8 * start + (first + i) = omega arith in
    ap (charge_at new) place ∙ w.put (first + i) (omega arith) ∙ w.inside i h

pub window_others : (old new : List ℕ) (start first count bits word with at : ℕ) → IsWindow old new start first count bits word with → 8 * start + first ≡ at →
    (c : ℕ) → (c < at) ⊎ (at + count ≤ c) → charge_at new c ≡ charge_at old c
window_others old new start first count bits word with at w e c h =
    elim (cases_lt c (8 * start)) [
      | inl l ↦ w.below c l
      | inr m ↦ elim (cases_lt c (8 * start + 64)) [
        | inr r ↦ w.above c r
        | inl s ↦
            let place : c ≡ 8 * start + (c - 8 * start) = omega arith in
            ap (charge_at new) place ∙ w.put (c - 8 * start) (omega arith) ∙ same m h ∙ w.taken (c - 8 * start) (omega arith) ∙ ap (charge_at old) (sym place)
      ]
    ]
  where
    same : 8 * start ≤ c → (c < at) ⊎ (at + count ≤ c) → bit_at with (c - 8 * start) ≡ bit_at word (c - 8 * start)
    same m (inl l) = w.low (c - 8 * start) (omega arith)
    same m (inr r) = w.high (c - 8 * start) (omega arith)
