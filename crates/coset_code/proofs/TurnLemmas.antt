-- The table turned: its rows, their places, and the cells that are laid.
use Rattle.std.proofs.Common.{◌≡◌, ◌≢◌, ℕ, zero, suc, ◌+◌, ◌*◌, ◌-◌, ◌/◌, ◌%◌, ◌^◌, ◌<◌, ◌≤◌, List, length, get_or, set, max, bit_xor, bit_and, bit_or, sym, ◌∙◌, ap, subst, inl, inr, arith}
use Rattle.std.specs.Int.{bit_at, bit_not, w64}
use Rattle.std.specs.Int.Bits.{xor_self, xor_zero_r}
use Rattle.std.proofs.lemmas.Bool.{cases_lt, cases_eq}
use Rattle.std.proofs.lemmas.List.{get_or_past}
use Rattle.std.proofs.lemmas.Nat.{one_shl, shl_whole, or_shifted}
use Rattle.std.proofs.lemmas.Nat.Bits.{bit_at_above, bit_at_or, bit_at_and, bit_at_not, bit_at-zero, bit_at-lt, bit_at-pow_same, bit_at-pow_other, bit_at_ones_above, bit_at_cat_low, bit_at_cat_high}
use Rattle.gf2_solve.specs.Family.{Family}
use Rattle.gf2_solve.proofs.XorLemmas.{bit_at-xor}
use Rattle.wom_code.specs.Packed.{word_bit}
use Rattle.wom_code.proofs.PackedLemmas.{at_word, in_word}
use Rattle.coset_code.specs.Coordinates.{HasCoordinates}
use Rattle.coset_code.specs.Rows.{IsSound, AreSound, IsSeparate, AreSeparate, IsTurned, IsLaid}
use Rattle.coset_code.proofs.BitSumLemmas.{IsLowestBit}
use Rattle.coset_code.proofs.ChangeOfBasis.{unit_at}
use Rattle.coset_code.proofs.RowLemmas.{sound_same, sound_set_more}

-- ---- a word of bits, from the lowest up

pub record HasBitsBelow (bit : ℕ → ℕ) (word n : ℕ) : Type 0 where
  pub bits : (k : ℕ) → k < n → bit_at word k ≡ bit k
  pub none : (k : ℕ) → n ≤ k → bit_at word k ≡ 0

pub bits_none : (bit : ℕ → ℕ) → HasBitsBelow bit 0 0
bits_none bit = record { bits = λ k h. absurd (omega arith); none = λ k h. bit_at-zero k }

moved_bit : (b i k : ℕ) → b < 2 → i < 64 → bit_at (b * 2 ^ i % 2 ^ 64) k ≡ bit_at (b * 2 ^ i) k
moved_bit zero i k two h = let e : zero * 2 ^ i % 2 ^ 64 ≡ zero * 2 ^ i = omega arith in ap (λ x. bit_at x k) e
moved_bit (suc zero) i k two h = let e : 2 ^ i ≡ 1 * 2 ^ i = omega arith in ap (λ x. bit_at x k) (one_shl i 64 h ∙ e)
moved_bit (suc (suc b)) i k two h = absurd (omega arith)

at_place : (b i : ℕ) → b < 2 → bit_at (b * 2 ^ i) i ≡ b
at_place zero i two = let e : zero * 2 ^ i ≡ 0 = omega arith in ap (λ x. bit_at x i) e ∙ bit_at-zero i
at_place (suc zero) i two = let e : 1 * 2 ^ i ≡ 2 ^ i = omega arith in ap (λ x. bit_at x i) e ∙ bit_at-pow_same i
at_place (suc (suc b)) i two = absurd (omega arith)

beside_place : (b i k : ℕ) → b < 2 → k ≢ i → bit_at (b * 2 ^ i) k ≡ 0
beside_place zero i k two other = let e : zero * 2 ^ i ≡ 0 = omega arith in ap (λ x. bit_at x k) e ∙ bit_at-zero k
beside_place (suc zero) i k two other = let e : 1 * 2 ^ i ≡ 2 ^ i = omega arith in ap (λ x. bit_at x k) e ∙ bit_at-pow_other i k other
beside_place (suc (suc b)) i k two other = absurd (omega arith)

pub bits_more : (bit : ℕ → ℕ) (word i b : ℕ) → HasBitsBelow bit word i → i < 64 → b < 2 → b ≡ bit i → HasBitsBelow bit (bit_or word (b * 2 ^ i % 2 ^ 64)) (i + 1)
bits_more bit word i b h l two e = record {
  bits = λ k below. elim (cases_eq k i) [
    | inl same ↦
        let here : bit_at (b * 2 ^ i % 2 ^ 64) k ≡ b = moved_bit b i k two l ∙ ap (bit_at (b * 2 ^ i)) same ∙ at_place b i two in
        let at : b ≡ bit k = e ∙ ap bit (sym same) in
        omega (arith, bit_at_or word (b * 2 ^ i % 2 ^ 64) k, h.none k (omega arith))
    | inr other ↦
        let here : bit_at (b * 2 ^ i % 2 ^ 64) k ≡ 0 = moved_bit b i k two l ∙ beside_place b i k two other in
        omega (arith, bit_at_or word (b * 2 ^ i % 2 ^ 64) k, h.bits k (omega arith))
  ];
  none = λ k above.
      let here : bit_at (b * 2 ^ i % 2 ^ 64) k ≡ 0 = moved_bit b i k two l ∙ beside_place b i k two (omega arith) in
      omega (arith, bit_at_or word (b * 2 ^ i % 2 ^ 64) k, h.none k (omega arith));
}

-- ---- the row of a charged cell

pub unit_below : (columns coords : List ℕ) (full : Family) (table : List ℕ) → HasCoordinates columns coords full → IsTurned coords full table → (i : ℕ) → i < 128 → get_or coords i 0 ≡ 2 ^ i
unit_below columns coords full table s t i h =
    ap (λ k. get_or coords k 0) (sym (t.tags i h)) ∙ unit_at columns coords full s i (omega (arith, t.rank))

masked_bit : (t o i b : ℕ) → o < 2 ^ 64 → i < 64 → bit_at o i ≡ 0 → bit_at t i ≡ b → b ≡ bit_at (bit_and t (bit_not w64 o)) i
masked_bit t o i b fits h free e = omega (arith, bit_at_and t (bit_not w64 o) i, bit_at_not w64 o i fits h, bit_at-lt t i)

pub turned_row : (columns coords : List ℕ) (full : Family) (table old : List ℕ) (p wanted : ℕ) → HasCoordinates columns coords full → IsTurned coords full table →
    ((k : ℕ) → get_or old k 0 < 2 ^ 64) → p < 128 → word_bit old p ≡ 1 → ((i : ℕ) → i < 63 → bit_at wanted i ≡ 0) →
    IsSound coords old (bit_and (get_or table p 0) (bit_not w64 (get_or old 2 0))) (bit_and (get_or table (128 + p) 0) (bit_not w64 (get_or old 3 0)))
    (bit_or (bit_and (get_or table (256 + p) 0) (bit_not w64 (get_or old 4 0))) wanted)
turned_row columns coords full table old p wanted s t fits h charged none = (
  λ x. bit_at x p,
  record {
    linear = record { zero = bit_at-zero p; sum = λ x y. bit_at-xor x y p };
    low = λ i l free.
        let apart : p ≢ i = λ e. absurd (omega (arith, ap (word_bit old) e)) in
        ap (λ x. bit_at x p) (unit_below columns coords full table s t i l) ∙ bit_at-pow_other i p apart;
    first_bits = λ i l free. masked_bit (get_or table p 0) (get_or old 2 0) i _ (fits 2) l (sym (at_word old 2 i l) ∙ free) (t.first_bits p i h l);
    second_bits = λ i l free. masked_bit (get_or table (128 + p) 0) (get_or old 3 0) i _ (fits 3) l (sym (at_word old 3 i l) ∙ free) (t.second_bits p i h l);
    third_bits = λ i l free.
        let m : ℕ = bit_and (get_or table (256 + p) 0) (bit_not w64 (get_or old 4 0)) in
        let same : bit_at m i ≡ bit_at (bit_or m wanted) i = omega (arith, bit_at_or m wanted i, none i l) in
        masked_bit (get_or table (256 + p) 0) (get_or old 4 0) i _ (fits 4) (omega arith) (sym (at_word old 4 i (omega arith)) ∙ free) (t.third_bits p i h (omega arith)) ∙ same;
  },
)

-- a row written past the others, which counts where its cell is charged
pub sound_more : (coords old : List ℕ) (count bit : ℕ) (rows : List ℕ) (a b c : ℕ) → AreSound coords old count rows → bit < 2 → count < 128 → length rows ≡ 384 →
    (bit ≡ 1 → IsSound coords old a b c) → AreSound coords old (count + bit) (set (set (set rows count a) (128 + count) b) (256 + count) c)
sound_more coords old count bit rows a b c s two few len h =
    sound_set_more coords old count bit count rows a b c s two few (omega arith) len (λ k i other. omega arith) (λ i. h (omega arith))

-- ---- the cells that are laid

same_word : (old new : List ℕ) (q i : ℕ) → get_or new q 0 ≡ get_or old q 0 → i / 64 ≡ q → word_bit new i ≡ word_bit old i
same_word old new q i e h = sym (in_word new q i h) ∙ ap (λ w. bit_at w (i % 64)) e ∙ in_word old q i h

more_word : (old new : List ℕ) (q i w : ℕ) → get_or new q 0 ≡ bit_or (get_or old q 0) w → i / 64 ≡ q → word_bit new i ≡ max (word_bit old i) (bit_at w (i % 64))
more_word old new q i w e h =
    sym (in_word new q i h) ∙ ap (λ x. bit_at x (i % 64)) e ∙ bit_at_or (get_or old q 0) w (i % 64) ∙ ap (λ b. max b (bit_at w (i % 64))) (in_word old q i h)

past_word : (words : List ℕ) (i : ℕ) → length words ≡ 5 → 320 ≤ i → word_bit words i ≡ 0
past_word words i len h = ap (λ w. bit_at w (i % 64)) (get_or_past words (i / 64) 0 (omega arith)) ∙ bit_at-zero (i % 64)

-- where the cell stands
data Place (i : ℕ) : Type 0 where
  low_0 : i / 64 ≡ 0 → Place i
  low_1 : i / 64 ≡ 1 → Place i
  in_2 : i / 64 ≡ 2 → Place i
  in_3 : i / 64 ≡ 3 → Place i
  in_4 : i / 64 ≡ 4 → Place i
  past : 320 ≤ i → Place i

place_of : (i : ℕ) → Place i
place_of i = elim (cases_lt i 64) [
  | inl a ↦ low_0 (omega arith)
  | inr a ↦ elim (cases_lt i 128) [
    | inl b ↦ low_1 (omega arith)
    | inr b ↦ elim (cases_lt i 192) [
      | inl c ↦ in_2 (omega arith)
      | inr c ↦ elim (cases_lt i 256) [
        | inl d ↦ in_3 (omega arith)
        | inr d ↦ elim (cases_lt i 320) [ inl e ↦ in_4 (omega arith) | inr e ↦ past e ]
      ]
    ]
  ]
]

pub laid_above : (old new : List ℕ) (first second third : ℕ) → length old ≡ 5 → IsLaid old new first second third → (i : ℕ) → word_bit old i ≡ 1 → word_bit new i ≡ 1
laid_above old new first second third len l i one = elim (place_of i) [
  | low_0 h ↦ same_word old new 0 i l.word_0 h ∙ one
  | low_1 h ↦ same_word old new 1 i l.word_1 h ∙ one
  | in_2 h ↦ omega (arith, more_word old new 2 i first l.word_2 h, bit_at-lt first (i % 64))
  | in_3 h ↦ omega (arith, more_word old new 3 i second l.word_3 h, bit_at-lt second (i % 64))
  | in_4 h ↦ omega (arith, more_word old new 4 i third l.word_4 h, bit_at-lt third (i % 64))
  | past h ↦ absurd (omega (arith, past_word old i len h))
]

-- a cell that is new is from 128 on, and separate from those below it
pub laid_fresh : (coords old new : List ℕ) (first second third : ℕ) → length old ≡ 5 → length new ≡ 5 → AreSeparate coords old first second third
    → IsLaid old new first second (bit_and third (2 ^ 63 - 1)) →
    (i : ℕ) → word_bit old i ≡ 0 → word_bit new i ≡ 1 → (128 ≤ i) × IsSeparate coords old i
laid_fresh coords old new first second third len len' s l i none one = elim (place_of i) [
  | low_0 h ↦ absurd (omega (arith, same_word old new 0 i l.word_0 h))
  | low_1 h ↦ absurd (omega (arith, same_word old new 1 i l.word_1 h))
  | in_2 h ↦
      let d : ℕ = i - 128 in
      let e : 128 + d ≡ i = omega arith in
      let m : d ≡ i % 64 = omega arith in
      let at : bit_at first d ≡ 1 = ap (bit_at first) m ∙ omega (arith, more_word old new 2 i first l.word_2 h, bit_at-lt first (i % 64)) in
      (omega arith, subst (IsSeparate coords old) e (s.first_cells d (omega arith) at (ap (word_bit old) e ∙ none)))
  | in_3 h ↦
      let d : ℕ = i - 192 in
      let e : 192 + d ≡ i = omega arith in
      let m : d ≡ i % 64 = omega arith in
      let at : bit_at second d ≡ 1 = ap (bit_at second) m ∙ omega (arith, more_word old new 3 i second l.word_3 h, bit_at-lt second (i % 64)) in
      (omega arith, subst (IsSeparate coords old) e (s.second_cells d (omega arith) at (ap (word_bit old) e ∙ none)))
  | in_4 h ↦
      let d : ℕ = i - 256 in
      let e : 256 + d ≡ i = omega arith in
      let m : d ≡ i % 64 = omega arith in
      let both : bit_at (bit_and third (2 ^ 63 - 1)) d ≡ 1 =
      ap (bit_at (bit_and third (2 ^ 63 - 1))) m ∙ omega (arith, more_word old new 4 i (bit_and third (2 ^ 63 - 1)) l.word_4 h, bit_at-lt (bit_and third (2 ^ 63 - 1)) (i % 64)) in
      let small : d < 63 = elim (cases_lt d 63) [ inl k ↦ k | inr k ↦ absurd (omega (arith, bit_at_and third (2 ^ 63 - 1) d, bit_at_ones_above 63 d k)) ] in
      let at : bit_at third d ≡ 1 = omega (arith, bit_at_and third (2 ^ 63 - 1) d, bit_at-lt third d) in
      (omega arith, subst (IsSeparate coords old) e (s.third_cells d small at (ap (word_bit old) e ∙ none)))
  | past h ↦ absurd (omega (arith, past_word new i len' h))
]

-- the words of a row by other names
pub row_by : (coords old : List ℕ) (a b c x y z u v w wanted : ℕ) → a ≡ x → b ≡ y → c ≡ z → IsSound coords old (bit_and x u) (bit_and y v) (bit_or (bit_and z w) wanted) →
    IsSound coords old (bit_and a u) (bit_and b v) (bit_or (bit_and c w) wanted)
row_by coords old a b c x y z u v w wanted e f g s =
    sound_same coords old _ _ _ _ _ _ (ap (λ m. bit_and m u) (sym e)) (ap (λ m. bit_and m v) (sym f)) (ap (λ m. bit_or (bit_and m w) wanted) (sym g)) s

-- the first two words as one number
pub bits_of_low : (words : List ℕ) → get_or words 0 0 < 2 ^ 64 → get_or words 1 0 < 2 ^ 64 → (i : ℕ) → i < 128
    → bit_at (bit_or (get_or words 1 0 * 2 ^ 64 % 2 ^ 128) (get_or words 0 0)) i ≡ word_bit words i
bits_of_low words low high i below =
    let a : ℕ = get_or words 1 0 in
    let b : ℕ = get_or words 0 0 in
    let joined : bit_or (a * 2 ^ 64 % 2 ^ 128) b ≡ a * 2 ^ 64 + b = ap (λ x. bit_or x b) (shl_whole a 64 64 128 high (omega arith)) ∙ or_shifted a 64 b low in
    ap (λ x. bit_at x i) joined
    ∙ elim (cases_lt i 64) [
      | inl h ↦ let r : i ≡ i % 64 = omega arith in bit_at_cat_low a 64 b i h ∙ ap (bit_at b) r ∙ in_word words 0 i (omega arith)
      | inr h ↦ let r : i - 64 ≡ i % 64 = omega arith in bit_at_cat_high a 64 b i low h ∙ ap (bit_at a) r ∙ in_word words 1 i (omega arith)
    ]

-- ---- the bits of a word, from the lowest up

pub word_bits : (words : List ℕ) (q : ℕ) → get_or words q 0 < 2 ^ 64 → (i : ℕ) → bit_at (get_or words q 0) i ≡ 1 → word_bit words (64 * q + i) ≡ 1
word_bits words q fits i one = elim (cases_lt i 64) [
  | inl l ↦ at_word words q i l ∙ one
  | inr m ↦ absurd (omega (arith, bit_at_above (get_or words q 0) 64 i fits m))
]

pub less_bits : (left p less : ℕ) → IsLowestBit left p less → (i : ℕ) → bit_at less i ≡ 1 → bit_at left i ≡ 1
less_bits left p less l i one =
    let bit : bit_at less i ≡ bit_xor (bit_at left i) (bit_at (2 ^ p) i) = ap (λ x. bit_at x i) l.less_is ∙ bit_at-xor left (2 ^ p) i in
    elim (cases_eq i p) [
      | inl same ↦
          let gone : bit_at less i ≡ bit_xor 1 1 =
          bit ∙ ap (λ x. bit_xor x (bit_at (2 ^ p) i)) (ap (bit_at left) same ∙ l.in_left) ∙ ap (bit_xor 1) (ap (bit_at (2 ^ p)) same ∙ bit_at-pow_same p) in
          absurd (omega (arith, gone, xor_self 1))
      | inr other ↦ sym (bit ∙ ap (bit_xor (bit_at left i)) (bit_at-pow_other p i other) ∙ xor_zero_r (bit_at left i)) ∙ one
    ]
