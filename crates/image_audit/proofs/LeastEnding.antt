-- The least kind and the least last byte leave the most room, so they decide.
use Rattle.std.proofs.Common.{◌≡◌, ◌⊎◌, inl, inr, ℕ, zero, suc, ◌+◌, ◌-◌, ◌%◌, ◌^◌, ◌<◌, ◌≤◌, max, Bool, List, slice_index, if◌then◌else◌, refl, ap, ◌∙◌, arith}
use Rattle.std.specs.Prelude.{bit_or}
use Rattle.std.specs.Int.{bit_at}
use lib.Count.{ones, ones_step}
use Rattle.std.proofs.lemmas.Bool.{cases_lt, lt-ltb, le-ltb}
use Rattle.std.proofs.lemmas.Nat.{le_or_r}
use Rattle.std.proofs.lemmas.Nat.Bits.{bit_at_or, bit_at_lowest, bit_at-zero, bit_at-lt}
use Rattle.cell_bits.specs.Cells.{AreBytes}
use Rattle.zero_count.proofs.ValidWords.{bits_below}
use Rattle.image_audit.specs.HeaderCells.{MayEndIn, HasEnding, ones_before_kind, least_above}
use Rattle.image_audit.proofs.Endings.{bit_below, above_byte}

-- ---- few numbers

ones_0 : ones 0 ≡ 0
unfolding ones
ones_0 = refl

ones_1 : ones 1 ≡ 1
ones_1 = ones_step 1 ∙ ap (λ (n : ℕ). 1 + n) ones_0

ones_2 : ones 2 ≡ 1
ones_2 = ones_step 2 ∙ ap (λ (n : ℕ). 0 + n) ones_1

ones_3 : ones 3 ≡ 2
ones_3 = ones_step 3 ∙ ap (λ (n : ℕ). 1 + n) ones_1

ones_4 : ones 4 ≡ 1
ones_4 = ones_step 4 ∙ ap (λ (n : ℕ). 0 + n) ones_2

-- a kind has one one, or it is 3 and has two
kind_ones : (kind : ℕ) → 1 ≤ kind → kind ≤ 4 → (ones kind ≡ 1) ⊎ ((kind ≡ 3) × (ones kind ≡ 2))
kind_ones zero h k = absurd (omega arith)
kind_ones (suc zero) h k = inl ones_1
kind_ones (suc (suc zero)) h k = inl ones_2
kind_ones (suc (suc (suc zero))) h k = inr (refl, ones_3)
kind_ones (suc (suc (suc (suc zero)))) h k = inl ones_4
kind_ones (suc (suc (suc (suc (suc n))))) h k = absurd (omega arith)

or_7 : (b : ℕ) → b < 7 → bit_or b 7 ≡ 7
or_7 zero h = refl
or_7 (suc zero) h = refl
or_7 (suc (suc zero)) h = refl
or_7 (suc (suc (suc zero))) h = refl
or_7 (suc (suc (suc (suc zero)))) h = refl
or_7 (suc (suc (suc (suc (suc zero))))) h = refl
or_7 (suc (suc (suc (suc (suc (suc zero)))))) h = refl
or_7 (suc (suc (suc (suc (suc (suc (suc n))))))) h = absurd (omega arith)

or_6 : (b : ℕ) → b < 6 → bit_or b 6 ≡ 6 + b % 2
or_6 zero h = refl
or_6 (suc zero) h = refl
or_6 (suc (suc zero)) h = refl
or_6 (suc (suc (suc zero))) h = refl
or_6 (suc (suc (suc (suc zero)))) h = refl
or_6 (suc (suc (suc (suc (suc zero))))) h = refl
or_6 (suc (suc (suc (suc (suc (suc n)))))) h = absurd (omega arith)

small_above : (byte least : ℕ) → byte < least → least_above byte least ≡ bit_or byte least
small_above byte least h = ap (λ (t : Bool). if t then bit_or byte least else byte) (lt-ltb byte least h)

great_above : (byte least : ℕ) → least ≤ byte → least_above byte least ≡ byte
great_above byte least h = ap (λ (t : Bool). if t then bit_or byte least else byte) (le-ltb byte least h)

-- ---- what the least ones leave

pub ending_from_least : (cells : List ℕ) → max (slice_index cells 12) 1 ≤ 4
    → least_above (slice_index cells 13) (8 - ones (max (slice_index cells 12) 1)) + ones (max (slice_index cells 12) 1) + ones_before_kind cells ≤ 104 → HasEnding cells
ending_from_least cells few room = (
  kind,
  last,
  record {
    least_kind = omega arith;
    greatest_kind = few;
    kind_above = above_byte kind (slice_index cells 12) (λ i h. kind_bits (slice_index cells 12) i);
    last_above = above_byte last (slice_index cells 13) (λ i h. (last_is (cases_lt (slice_index cells 13) least)).0 i);
    least_last = (last_is (cases_lt (slice_index cells 13) least)).1;
    greatest_last = room;
  },
)
  where
    kind : ℕ
    kind = max (slice_index cells 12) 1

    least : ℕ
    least = 8 - ones kind

    last : ℕ
    last = least_above (slice_index cells 13) least

    kind_bits : (b i : ℕ) → bit_at b i ≤ bit_at (max b 1) i
    kind_bits zero i = omega (arith, bit_at-zero i)
    kind_bits (suc b) i = let e : max (suc b) 1 ≡ suc b = omega arith in omega (arith, ap (λ (n : ℕ). bit_at n i) e)

    last_is : (slice_index cells 13 < least) ⊎ (least ≤ slice_index cells 13) → ((i : ℕ) → bit_at (slice_index cells 13) i ≤ bit_at last i) × (least ≤ last)
    last_is (inl small) =
        let e : last ≡ bit_or (slice_index cells 13) least = small_above (slice_index cells 13) least small in (
          λ i. omega (arith, ap (λ (n : ℕ). bit_at n i) e, bit_at_or (slice_index cells 13) least i),
          omega (arith, e, le_or_r (slice_index cells 13) least),
        )
    last_is (inr great) =
        let e : last ≡ slice_index cells 13 = great_above (slice_index cells 13) least great in (
          λ i. omega (arith, ap (λ (n : ℕ). bit_at n i) e),
          omega (arith, e),
        )

-- two numbers of bits of which one lies below the other
below_number : (x y : ℕ) → x < 2 ^ 8 → y < 2 ^ 8 → ((i : ℕ) → i < 8 → bit_at y i ≤ bit_at x i) → (y ≤ x) × (ones y ≤ ones x) × (y % 2 ≤ x % 2)
below_number x y h k f =
    let b = bits_below 8 x y h k (λ i l e. omega (arith, f i l, bit_at-lt x i)) in
    (b.0, b.1, omega (arith, f 0 (omega arith), bit_at_lowest x, bit_at_lowest y))

pub least_from_ending : (cells : List ℕ) → AreBytes cells → HasEnding cells → (max (slice_index cells 12) 1 ≤ 4)
    × (least_above (slice_index cells 13) (8 - ones (max (slice_index cells 12) 1)) + ones (max (slice_index cells 12) 1) + ones_before_kind cells ≤ 104)
least_from_ending cells bytes ending = (few, omega (arith, may.greatest_last, room))
  where
    k : ℕ
    k = ending.0

    v : ℕ
    v = ending.1

    may : MayEndIn cells k v
    may = ending.2

    byte_12 : ℕ
    byte_12 = slice_index cells 12

    byte_13 : ℕ
    byte_13 = slice_index cells 13

    kind : ℕ
    kind = max byte_12 1

    greatest_v : v ≤ 104
    greatest_v = let g : v + ones k + ones_before_kind cells ≤ 104 = may.greatest_last in omega arith

    of_kind : (byte_12 ≤ k) × (ones byte_12 ≤ ones k) × (byte_12 % 2 ≤ k % 2)
    of_kind = below_number k byte_12 (let g : k ≤ 4 = may.greatest_kind in omega arith) (bytes 12) (bit_below _ _ may.kind_above 0)

    of_last : (byte_13 ≤ v) × (ones byte_13 ≤ ones v) × (byte_13 % 2 ≤ v % 2)
    of_last = below_number v byte_13 (let g : v ≤ 104 = greatest_v in omega arith) (bytes 13) (bit_below _ _ may.last_above 0)

    few : kind ≤ 4
    few = let g : k ≤ 4 = may.greatest_kind in let l : byte_12 ≤ k = of_kind.0 in omega arith

    -- the kind has no more ones than any other that will do
    fewer : ones kind ≤ ones k
    fewer = elim (cases_lt byte_12 1) [
      | inl none ↦ (
          let e : kind ≡ 1 = omega arith in
          elim (kind_ones k may.least_kind may.greatest_kind) [
            | inl one ↦ omega (arith, ap ones e, ones_1, one)
            | inr two ↦ omega (arith, ap ones e, ones_1, two.1)
          ])
      | inr some ↦ (let e : kind ≡ byte_12 = omega arith in omega (arith, ap ones e, of_kind.1))
    ]

    least_v : 8 - ones k ≤ v
    least_v = may.least_last

    room : least_above byte_13 (8 - ones kind) + ones kind ≤ v + ones k
    room =
        let below : byte_13 ≤ v = of_last.0 in
        let odd : byte_13 % 2 ≤ v % 2 = of_last.2 in
        let no_more : ones kind ≤ ones k = fewer in
        let least : 8 - ones k ≤ v = least_v in
        elim (cases_lt byte_13 (8 - ones kind)) [
          | inr great ↦ omega (arith, great_above byte_13 (8 - ones kind) great)
          | inl small ↦ elim (kind_ones kind (omega arith) few) [
            | inl one ↦ (
                let seven : 8 - ones kind ≡ 7 = omega (arith, one) in
                omega (arith, small_above byte_13 (8 - ones kind) small, ap (bit_or byte_13) seven, or_7 byte_13 (omega arith), one))
            | inr two ↦ (
                let six : 8 - ones kind ≡ 6 = omega (arith, two.1) in
                let as_many : ones k ≡ 2 = elim (kind_ones k may.least_kind may.greatest_kind) [ inl one ↦ absurd (omega (arith, one, two.1)) | inr same ↦ same.1 ] in
                omega (arith, small_above byte_13 (8 - ones kind) small, ap (bit_or byte_13) six, or_6 byte_13 (omega arith), two.1))
          ]
        ]
