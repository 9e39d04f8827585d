-- Of two different valid words neither is below the other.
use Rattle.std.proofs.Common.{◌≡◌, ℕ, zero, suc, ◌+◌, ◌-◌, ◌/◌, ◌%◌, ◌^◌, ◌<◌, ◌≤◌, Bool, true, List, [], ◌∷◌, ◌++◌, take, drop, length, get_or, nat_lt, slice_index, refl, sym, ap, ap₂, ◌∙◌, arith}
use native.Mathlib.Nat.{pow-suc}
use lib.Count.{ones, ones_step, ones-le}
use Rattle.std.specs.Int.{bit_at}
use Rattle.std.specs.List.{list_all}
use Rattle.std.proofs.lemmas.Nat.Bits.{bit_at-suc, bit_at_lowest}
use Rattle.std.proofs.lemmas.Bool.{and_parts, and_from, ltb-true, leb-true, eqb-true}
use Rattle.std.proofs.lemmas.List.{take-append-drop, drop_more, drop_all, length-take-le}
use Rattle.std.proofs.lemmas.List.Sums.{sum_by-cons}
use Rattle.zero_count.specs.HeaderWord.{zero_bits, is_valid}

bit_le : (a b : ℕ) → a < 2 → (a ≡ 1 → b ≡ 1) → a ≤ b
bit_le zero b h f = omega arith
bit_le (suc zero) b h f = let e : b ≡ 1 = f refl in omega arith
bit_le (suc (suc a)) b h f = absurd (omega arith)

-- of k bits: where every bit of y is set in x, y is no greater and has no more ones, and only x has as many
pub bits_below : (k x y : ℕ) → x < 2 ^ k → y < 2 ^ k → ((i : ℕ) → i < k → bit_at y i ≡ 1 → bit_at x i ≡ 1) → (y ≤ x) × (ones y ≤ ones x) × (ones x ≡ ones y → x ≡ y)
bits_below zero x y hx hy f =
    let ex : x ≡ 0 = omega arith in
    let ey : y ≡ 0 = omega arith in
    (omega arith, rw (ex, ey) (omega arith), λ _. ex ∙ sym ey)
bits_below (suc k) x y hx hy f =
    let half_x : x / 2 < 2 ^ k = omega (arith, pow-suc 2 k) in
    let half_y : y / 2 < 2 ^ k = omega (arith, pow-suc 2 k) in
    let high = bits_below k (x / 2) (y / 2) half_x half_y (λ i h b. sym (bit_at-suc x i) ∙ f (suc i) (omega arith) (bit_at-suc y i ∙ b)) in
    let low : y % 2 ≤ x % 2 = bit_le (y % 2) (x % 2) (omega arith) (λ b. sym (bit_at_lowest x) ∙ f 0 (omega arith) (bit_at_lowest y ∙ b)) in
    let same : ones (x / 2) ≡ ones (y / 2) → x / 2 ≡ y / 2 = high.2 in
    let no_more : ones (y / 2) ≤ ones (x / 2) = high.1 in (
      omega (arith, high.0),
      omega (arith, ones_step x, ones_step y),
      λ e. let halves : x / 2 ≡ y / 2 = same (omega (arith, ones_step x, ones_step y)) in
          omega (arith, ones_step x, ones_step y, ap ones halves),
    )

-- every set bit of each byte of ys is set in xs
abbrev pub BytesBelow : List ℕ → List ℕ → Type 0
BytesBelow xs ys = (k i : ℕ) → i < 8 → bit_at (slice_index ys k) i ≡ 1 → bit_at (slice_index xs k) i ≡ 1

abbrev pub are_bytes : List ℕ → Bool
are_bytes bytes = list_all (λ byte. nat_lt byte 256) bytes

-- so they have no more zeros, and as many only where they are the same
pub zeros_below : (xs ys : List ℕ) → length xs ≡ length ys → are_bytes xs ≡ true → are_bytes ys ≡ true → BytesBelow xs ys → (zero_bits xs ≤ zero_bits ys) × (zero_bits xs ≡ zero_bits ys → xs ≡ ys)
zeros_below [] [] e hx hy f = (omega arith, λ _. refl)
zeros_below [] (y ∷ ys) e hx hy f = absurd (omega arith)
zeros_below (x ∷ xs) [] e hx hy f = absurd (omega arith)
zeros_below (x ∷ xs) (y ∷ ys) e hx hy f =
    let px = and_parts (nat_lt x 256) (are_bytes xs) hx in
    let py = and_parts (nat_lt y 256) (are_bytes ys) hy in
    let head = bits_below 8 x y (ltb-true x 256 px.0) (ltb-true y 256 py.0) (f 0) in
    let tail = zeros_below xs ys (omega arith) px.1 py.1 (λ k. f (suc k)) in
    let sx : zero_bits (x ∷ xs) ≡ (8 - ones x) + zero_bits xs = sum_by-cons _ x xs in
    let sy : zero_bits (y ∷ ys) ≡ (8 - ones y) + zero_bits ys = sum_by-cons _ y ys in
    let no_more : ones y ≤ ones x = head.1 in
    let few_x : ones x ≤ 8 = ones-le 8 x (ltb-true x 256 px.0) in
    let few_y : ones y ≤ 8 = ones-le 8 y (ltb-true y 256 py.0) in
    let rest : zero_bits xs ≤ zero_bits ys = tail.0 in (
      omega (arith, sx, sy, no_more, few_x, few_y, rest),
      λ z. let z' : (8 - ones x) + zero_bits xs ≡ (8 - ones y) + zero_bits ys = sym sx ∙ z ∙ sy in
          let same_head : x ≡ y = head.2 (omega arith) in
          let same_tail : xs ≡ ys = tail.1 (omega arith) in
          cc,
    )

pub last_of : (word : List ℕ) → length word ≡ 14 → word ≡ take 13 word ++ get_or word 13 0 ∷ []
last_of word e = sym (take-append-drop 13 word) ∙ ap (λ rest. take 13 word ++ rest) (drop_more word 13 0 (omega arith) ∙ ap (λ rest. get_or word 13 0 ∷ rest) (drop_all 14 word (omega arith)))

pub take_bytes : (n : ℕ) (xs : List ℕ) → are_bytes xs ≡ true → are_bytes (take n xs) ≡ true
take_bytes zero xs h = refl
take_bytes (suc n) [] h = refl
take_bytes (suc n) (x ∷ xs) h = let p = and_parts (nat_lt x 256) (are_bytes xs) h in and_from (nat_lt x 256) (are_bytes (take n xs)) p.0 (take_bytes n xs p.1)

pub drop_bytes : (n : ℕ) (xs : List ℕ) → are_bytes xs ≡ true → are_bytes (drop n xs) ≡ true
drop_bytes zero xs h = h
drop_bytes (suc n) [] h = refl
drop_bytes (suc n) (x ∷ xs) h = drop_bytes n xs (and_parts (nat_lt x 256) (are_bytes xs) h).1

pub byte_small : (k : ℕ) (xs : List ℕ) → are_bytes xs ≡ true → slice_index xs k < 2 ^ 8
byte_small k [] h = omega arith
byte_small zero (x ∷ xs) h = ltb-true x 256 (and_parts (nat_lt x 256) (are_bytes xs) h).0
byte_small (suc k) (x ∷ xs) h = byte_small k xs (and_parts (nat_lt x 256) (are_bytes xs) h).1

-- what a valid word is
pub record IsValidWord (word : List ℕ) : Type 0 where
  pub long : length word ≡ 14
  pub bytes : are_bytes word ≡ true
  pub zeros : zero_bits (take 13 word) ≡ slice_index word 13
  pub least_kind : 1 ≤ slice_index word 12
  pub greatest_kind : slice_index word 12 ≤ 4

pub valid_parts : (word : List ℕ) → is_valid word ≡ true → IsValidWord word
unfolding is_valid
valid_parts word h =
    let a = and_parts _ _ h in
    let b = and_parts _ _ a.0 in
    let c = and_parts _ _ b.0 in
    let d = and_parts _ _ c.0 in
    record { long = eqb-true _ _ d.0; bytes = d.1; zeros = eqb-true _ _ c.1; least_kind = leb-true _ _ b.1; greatest_kind = leb-true _ _ a.1 }

take_below : (n : ℕ) (xs ys : List ℕ) → length xs ≡ length ys → BytesBelow xs ys → BytesBelow (take n xs) (take n ys)
take_below zero xs ys e f k i h b = b
take_below (suc n) [] [] e f k i h b = b
take_below (suc n) [] (y ∷ ys) e f k i h b = absurd (omega arith)
take_below (suc n) (x ∷ xs) [] e f k i h b = absurd (omega arith)
take_below (suc n) (x ∷ xs) (y ∷ ys) e f zero i h b = f 0 i h b
take_below (suc n) (x ∷ xs) (y ∷ ys) e f (suc k) i h b = take_below n xs ys (omega arith) (λ j. f (suc j)) k i h b

-- two valid words of which the second lies below the first are one
pub valid_below : (xs ys : List ℕ) → is_valid xs ≡ true → is_valid ys ≡ true → BytesBelow xs ys → xs ≡ ys
valid_below xs ys hx hy f =
    let x = valid_parts xs hx in
    let y = valid_parts ys hy in
    let long_x = x.long in
    let long_y = y.long in
    let same_long : length (take 13 xs) ≡ length (take 13 ys) = length-take-le 13 xs (omega arith) ∙ sym (length-take-le 13 ys (omega arith)) in
    let front = zeros_below (take 13 xs) (take 13 ys) same_long (take_bytes 13 xs x.bytes) (take_bytes 13 ys y.bytes) (take_below 13 xs ys (long_x ∙ sym long_y) f) in
    let last = bits_below 8 (slice_index xs 13) (slice_index ys 13) (byte_small 13 xs x.bytes) (byte_small 13 ys y.bytes) (f 13) in
    let fewer : zero_bits (take 13 xs) ≤ zero_bits (take 13 ys) = front.0 in
    let lower : slice_index ys 13 ≤ slice_index xs 13 = last.0 in
    let zeros_x = x.zeros in
    let zeros_y = y.zeros in
    let same_last : slice_index xs 13 ≡ slice_index ys 13 = omega arith in
    let same_front : take 13 xs ≡ take 13 ys = front.1 (omega arith) in
    last_of xs long_x ∙ ap₂ (λ (front : List ℕ) (byte : ℕ). front ++ byte ∷ []) same_front same_last ∙ sym (last_of ys long_y)
