-- Header cells lie below a valid word exactly where some kind and some last byte leave room for its zero bits.
use Rattle.std.proofs.Common.{◌≡◌, ℕ, zero, suc, ◌+◌, ◌-◌, ◌*◌, ◌/◌, ◌%◌, ◌^◌, ◌<◌, ◌≤◌, inl, inr, true, List, [], ◌∷◌, ◌++◌, take, length, nat_lt, slice_index, refl, sym, ap, ap₂, ◌∙◌, arith}
use Rattle.std.proofs.Common.{min, subst, length-append, append_assoc}
use Rattle.std.specs.Prelude.{count_ones}
use Rattle.std.specs.Int.{bit_at}
use Rattle.std.specs.List.{sum_by}
use native.Mathlib.Nat.{pow-suc}
use lib.Count.{ones, ones_step, ones-le}
use Rattle.std.proofs.lemmas.Bool.{cases_lt, cases_eq, and_parts, and_from, ltb-true, lt-ltb}
use Rattle.std.proofs.lemmas.List.{get_or_append_left, get_or-append_right, get_or-take, get_or_past, take-append-le, take_all, length-take-le}
use Rattle.std.proofs.lemmas.List.Sums.{sum_by-cons, sum_by_push}
use Rattle.std.proofs.lemmas.Nat.{div-mul-add, mod-mul-add}
use Rattle.std.proofs.lemmas.Nat.Bits.{bit_at-suc, bit_at_lowest, bit_at-zero, bit_at-lt}
use Rattle.std.proofs.Math.Seq.{take-suc}
use Rattle.cell_bits.specs.Cells.{charge_at, IsAbove, AreBytes}
use Rattle.cell_bits.proofs.Above.{above_bits}
use Rattle.cell_bits.proofs.Slices.{above_take}
use Rattle.zero_count.specs.HeaderWord.{zero_bits, is_valid}
use Rattle.zero_count.proofs.ValidWords.{are_bytes, byte_small, take_bytes, zeros_below, valid_parts, IsValidWord}
use Rattle.zero_count.proofs.Reading.{valid_from_parts, bytes_from_each}
use Rattle.image_audit.specs.HeaderCells.{LiesBelowValid, MayEndIn, HasEnding}

-- ---- bits of rows that lie above others

pub bit_below : (new old : List ℕ) → IsAbove new old → (k i : ℕ) → i < 8 → bit_at (slice_index old k) i ≤ bit_at (slice_index new k) i
bit_below new old f k i h = omega (arith, f.charged (k * 8 + i), at old, at new)
  where
    at : (row : List ℕ) → charge_at row (k * 8 + i) ≡ bit_at (slice_index row k) i
    at row = ap₂ (λ (q r : ℕ). bit_at (slice_index row q) r) (div-mul-add k 8 i h) (mod-mul-add k 8 i h)

above_bytes : (new old : List ℕ) → length new ≡ length old → ((k i : ℕ) → i < 8 → bit_at (slice_index old k) i ≤ bit_at (slice_index new k) i) → IsAbove new old
above_bytes new old long f = record { same_length = long; charged = λ cell. f (cell / 8) (cell % 8) (omega arith) }

pub above_byte : (x y : ℕ) → ((i : ℕ) → i < 8 → bit_at y i ≤ bit_at x i) → IsAbove (x ∷ []) (y ∷ [])
above_byte x y f = above_bytes (x ∷ []) (y ∷ []) refl at
  where
    at : (k i : ℕ) → i < 8 → bit_at (slice_index (y ∷ []) k) i ≤ bit_at (slice_index (x ∷ []) k) i
    at zero i h = f i h
    at (suc k) i h = omega arith

-- ---- the zeros of bytes

-- ones and zeros are all bits
pub all_bits : (xs : List ℕ) → are_bytes xs ≡ true → zero_bits xs + sum_by count_ones xs ≡ 8 * length xs
all_bits [] h = refl
all_bits (x ∷ xs) h =
    let p = and_parts (nat_lt x 256) (are_bytes xs) h in
    let zeros : zero_bits (x ∷ xs) ≡ (8 - ones x) + zero_bits xs = sum_by-cons _ x xs in
    let some : sum_by count_ones (x ∷ xs) ≡ ones x + sum_by count_ones xs = sum_by-cons _ x xs in
    omega (arith, zeros, some, ones-le 8 x (ltb-true x 256 p.0), all_bits xs p.1)

zeros_and_kind : (cells : List ℕ) → length cells ≡ 14 → zero_bits (take 13 cells) ≡ zero_bits (take 12 cells) + (8 - ones (slice_index cells 12))
zeros_and_kind cells long = ap zero_bits (take-suc cells 12 0 (omega arith)) ∙ sum_by_push _ (take 12 cells) (slice_index cells 12)

-- ---- what a valid word above leaves

pub ending_from_valid : (cells : List ℕ) → length cells ≡ 14 → AreBytes cells → LiesBelowValid cells → HasEnding cells
ending_from_valid cells long bytes below =
    let word = below.0 in
    let v : IsValidWord word = valid_parts word below.1 in
    let word_long : length word ≡ 14 = v.long in
    let cell_bytes : are_bytes cells ≡ true = bytes_from_each cells bytes in
    let fewer : zero_bits (take 12 word) ≤ zero_bits (take 12 cells) =
    (zeros_below (take 12 word) (take 12 cells) (length-take-le 12 word (omega arith) ∙ sym (length-take-le 12 cells (omega arith))) (take_bytes 12 word v.bytes) (take_bytes 12 cells cell_bytes)
    (above_bits (take 12 word) (take 12 cells) (above_take 12 word cells below.2))).0 in
    let few : ones (slice_index word 12) ≤ 8 = ones-le 8 (slice_index word 12) (byte_small 12 word v.bytes) in
    let all : zero_bits (take 12 cells) + sum_by count_ones (take 12 cells) ≡ 8 * length (take 12 cells) = all_bits (take 12 cells) (take_bytes 12 cells cell_bytes) in
    let twelve : length (take 12 cells) ≡ 12 = length-take-le 12 cells (omega arith) in
    let zeros : zero_bits (take 13 word) ≡ slice_index word 13 = v.zeros in (
      slice_index word 12,
      slice_index word 13,
      record {
        least_kind = v.least_kind;
        greatest_kind = v.greatest_kind;
        kind_above = above_byte _ _ (bit_below word cells below.2 12);
        last_above = above_byte _ _ (bit_below word cells below.2 13);
        least_last = omega (arith, zeros, zeros_and_kind word word_long);
        greatest_last = omega (arith, zeros, zeros_and_kind word word_long, fewer, few, all, twelve);
      },
    )

-- ---- bytes with as many zeros as there is room for

append_bytes : (xs ys : List ℕ) → are_bytes xs ≡ true → are_bytes ys ≡ true → are_bytes (xs ++ ys) ≡ true
append_bytes [] ys h k = k
append_bytes (x ∷ xs) ys h k = let p = and_parts (nat_lt x 256) (are_bytes xs) h in and_from _ _ p.0 (append_bytes xs ys p.1 k)

-- above a number of so many bits stands one with any greater number of ones
record ByteAbove (k x m : ℕ) : Type 0 where
  byte : ℕ
  small : byte < 2 ^ k
  count : ones byte ≡ m
  above : (i : ℕ) → bit_at x i ≤ bit_at byte i

byte_above : (k x m : ℕ) → x < 2 ^ k → ones x ≤ m → m ≤ k → ByteAbove k x m
byte_above zero x m h least greatest =
    record { byte = x; small = h; count = omega arith; above = λ i. omega arith }
byte_above (suc k) x m h least greatest = elim (cases_lt (ones x) m) [
  | inr low ↦ record { byte = x; small = h; count = omega arith; above = λ i. omega arith }
  | inl more ↦ (
      let half : x / 2 < 2 ^ k = omega (arith, pow-suc 2 k) in
      let rest : ByteAbove k (x / 2) (m - 1) = byte_above k (x / 2) (m - 1) half (omega (arith, ones_step x)) (omega arith) in
      let y = rest.byte in
      let halved : (1 + 2 * y) / 2 ≡ y = omega arith in
      let count : ones y ≡ m - 1 = rest.count in
      record {
        byte = 1 + 2 * y;
        small = omega (arith, pow-suc 2 k, rest.small);
        count = omega (arith, ones_step (1 + 2 * y), ap ones halved, count);
        above = at y rest.above;
      })
]
  where
    at : (y : ℕ) → ((i : ℕ) → bit_at (x / 2) i ≤ bit_at y i) → (i : ℕ) → bit_at x i ≤ bit_at (1 + 2 * y) i
    at y f zero = omega (arith, bit_at-lt x 0, bit_at_lowest (1 + 2 * y))
    at y f (suc i) = let halved : (1 + 2 * y) / 2 ≡ y = omega arith in omega (arith, f i, bit_at-suc x i, bit_at-suc (1 + 2 * y) i, ap (λ (n : ℕ). bit_at n i) halved)

-- above some bytes stand others with any smaller number of zeros
record BytesAbove (xs : List ℕ) (wanted : ℕ) : Type 0 where
  bytes : List ℕ
  long : length bytes ≡ length xs
  small : are_bytes bytes ≡ true
  count : zero_bits bytes ≡ wanted
  above : (k i : ℕ) → bit_at (slice_index xs k) i ≤ bit_at (slice_index bytes k) i

bytes_above : (xs : List ℕ) (wanted : ℕ) → are_bytes xs ≡ true → wanted ≤ zero_bits xs → BytesAbove xs wanted
bytes_above [] wanted h few = record { bytes = []; long = refl; small = refl; count = omega arith; above = λ k i. omega arith }
bytes_above (x ∷ xs) wanted h few =
    let p = and_parts (nat_lt x 256) (are_bytes xs) h in
    let all : zero_bits (x ∷ xs) ≡ (8 - ones x) + zero_bits xs = sum_by-cons (λ (byte : ℕ). 8 - ones byte) x xs in
    let ones_few : ones x ≤ 8 = ones-le 8 x (ltb-true x 256 p.0) in
    let tail = min wanted (zero_bits xs) in
    let head : ByteAbove 8 x (8 - (wanted - tail)) = byte_above 8 x (8 - (wanted - tail)) (ltb-true x 256 p.0) (omega arith) (omega arith) in
    let rest : BytesAbove xs tail = bytes_above xs tail p.1 (omega arith) in
    let counted : zero_bits (head.byte ∷ rest.bytes) ≡ (8 - ones head.byte) + zero_bits rest.bytes = sum_by-cons (λ (byte : ℕ). 8 - ones byte) head.byte rest.bytes in
    let head_ones : ones head.byte ≡ 8 - (wanted - tail) = head.count in
    let rest_zeros : zero_bits rest.bytes ≡ tail = rest.count in
    record {
      bytes = head.byte ∷ rest.bytes;
      long = ap suc rest.long;
      small = and_from _ _ (lt-ltb head.byte 256 head.small) rest.small;
      count = omega arith;
      above = at head.byte rest.bytes head.above rest.above;
    }
  where
    at : (y : ℕ) (ys : List ℕ) → ((i : ℕ) → bit_at x i ≤ bit_at y i) → ((k i : ℕ) → bit_at (slice_index xs k) i ≤ bit_at (slice_index ys k) i) → (k i : ℕ)
        → bit_at (slice_index (x ∷ xs) k) i ≤ bit_at (slice_index (y ∷ ys) k) i
    at y ys f g zero i = f i
    at y ys f g (suc k) i = g k i

-- ---- a valid word above

last_two : (ys : List ℕ) (kind last : ℕ) → length ys ≡ 12
    → (take 13 (ys ++ kind ∷ last ∷ []) ≡ ys ++ kind ∷ []) × (slice_index (ys ++ kind ∷ last ∷ []) 12 ≡ kind) × (slice_index (ys ++ kind ∷ last ∷ []) 13 ≡ last)
last_two ys kind last long =
    let whole : length (ys ++ kind ∷ []) ≡ 13 = omega (arith, length-append ys (kind ∷ [])) in (
      ap (take 13) (sym (append_assoc ys (kind ∷ []) (last ∷ []))) ∙ (take-append-le 13 (ys ++ kind ∷ []) (last ∷ []) (omega arith) ∙ take_all 13 (ys ++ kind ∷ []) (omega arith)),
      get_or-append_right ys (kind ∷ last ∷ []) 12 12 0 long (omega arith),
      get_or-append_right ys (kind ∷ last ∷ []) 12 13 0 long (omega arith),
    )

pub valid_from_ending : (cells : List ℕ) → length cells ≡ 14 → AreBytes cells → HasEnding cells → LiesBelowValid cells
valid_from_ending cells long bytes ending = (word, valid, above_bytes word cells (word_long ∙ sym long) each)
  where
    kind : ℕ
    kind = ending.0

    last : ℕ
    last = ending.1

    may : MayEndIn cells kind last
    may = ending.2

    cell_bytes : are_bytes cells ≡ true
    cell_bytes = bytes_from_each cells bytes

    small_kind : ones kind ≤ 8
    small_kind = let g : kind ≤ 4 = may.greatest_kind in ones-le 8 kind (omega arith)

    room : last - (8 - ones kind) ≤ zero_bits (take 12 cells)
    room =
        let least : 8 - ones kind ≤ last = may.least_last in
        let greatest : last + ones kind + sum_by count_ones (take 12 cells) ≤ 104 = may.greatest_last in
        omega (arith, all_bits (take 12 cells) (take_bytes 12 cells cell_bytes), length-take-le 12 cells (omega arith), small_kind)

    front : BytesAbove (take 12 cells) (last - (8 - ones kind))
    front = bytes_above (take 12 cells) (last - (8 - ones kind)) (take_bytes 12 cells cell_bytes) room

    front_long : length front.bytes ≡ 12
    front_long = front.long ∙ length-take-le 12 cells (omega arith)

    word : List ℕ
    word = front.bytes ++ kind ∷ last ∷ []

    word_long : length word ≡ 14
    word_long = omega (arith, length-append front.bytes (kind ∷ last ∷ []), front_long)

    ends : (take 13 word ≡ front.bytes ++ kind ∷ []) × (slice_index word 12 ≡ kind) × (slice_index word 13 ≡ last)
    ends = last_two front.bytes kind last front_long

    zeros : zero_bits (take 13 word) ≡ slice_index word 13
    zeros =
        let least : 8 - ones kind ≤ last = may.least_last in
        let front_zeros : zero_bits front.bytes ≡ last - (8 - ones kind) = front.count in
        ap zero_bits ends.0 ∙ (sum_by_push (λ (byte : ℕ). 8 - ones byte) front.bytes kind ∙ (let e : zero_bits front.bytes + (8 - ones kind) ≡ last = omega arith in e) ∙ sym ends.2)

    valid : is_valid word ≡ true
    valid =
        let greatest : last + ones kind + sum_by count_ones (take 12 cells) ≤ 104 = may.greatest_last in
        let least_kind : 1 ≤ kind = may.least_kind in
        let greatest_kind : kind ≤ 4 = may.greatest_kind in
        valid_from_parts word (record {
          long = word_long;
          bytes = append_bytes front.bytes (kind ∷ last ∷ []) front.small (and_from _ _ (lt-ltb kind 256 (omega arith)) (and_from _ _ (lt-ltb last 256 (omega arith)) refl));
          zeros = zeros;
          least_kind = omega (arith, ends.1);
          greatest_kind = omega (arith, ends.1);
        })

    each : (k i : ℕ) → i < 8 → bit_at (slice_index cells k) i ≤ bit_at (slice_index word k) i
    each k i h = elim (cases_lt k 12) [
      | inl early ↦ omega (
        arith,
        front.above k i,
        ap (λ (b : ℕ). bit_at b i) (get_or-take 12 cells k 0 early),
        ap (λ (b : ℕ). bit_at b i) (get_or_append_left front.bytes (kind ∷ last ∷ []) 0 k (omega (arith, front_long))),
      )
      | inr late ↦ elim (cases_eq k 12) [
        | inl twelve ↦ subst (λ (n : ℕ). bit_at (slice_index cells n) i ≤ bit_at (slice_index word n) i) (sym twelve)
            (omega (arith, bit_below _ _ may.kind_above 0 i h, ap (λ (b : ℕ). bit_at b i) ends.1))
        | inr other ↦ elim (cases_eq k 13) [
          | inl thirteen ↦ subst (λ (n : ℕ). bit_at (slice_index cells n) i ≤ bit_at (slice_index word n) i) (sym thirteen)
              (omega (arith, bit_below _ _ may.last_above 0 i h, ap (λ (b : ℕ). bit_at b i) ends.2))
          | inr past ↦ omega (arith, ap (λ (b : ℕ). bit_at b i) (get_or_past cells k 0 (omega arith)), bit_at-zero i)
        ]
      ]
    ]
