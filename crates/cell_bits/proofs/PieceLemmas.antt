-- Pieces of bytes, taken from a row and put into it.
use Rattle.std.proofs.Common.{◌≡◌, ◌≢◌, ℕ, zero, suc, ◌+◌, ◌-◌, ◌*◌, ◌/◌, ◌%◌, ◌^◌, ◌<◌, ◌≤◌, ◌⊎◌, min, List, length, slice_index, slice_set, bit_and, bit_or, bit_xor, sym, ◌∙◌, ap, ap₂, subst}
use Rattle.std.proofs.Common.{refl, inl, inr, arith, get_or-set_same, get_or-set_other, add-zero}
use Rattle.std.specs.Int.{bit_at}
use Rattle.std.proofs.lemmas.Bool.{cases_eq, cases_lt}
use Rattle.std.proofs.lemmas.Nat.{pow-add, shl-shr, shr-shr, and_mask, or_comm, or_shifted, mod_below, pow_pos, shl_below, shl_whole, mul-add-lt, pow_below}
use Rattle.std.proofs.lemmas.Nat.Bits.{bit_at_and, bit_at_xor, bit_at-lt, bit_at_above, bit_at_ones, bit_at_cat_low, bit_at_cat_high, bit_at-zero, ones_shr}
use Rattle.cell_bits.specs.Cells.{charge_at}

pub ones_is : (k : ℕ) → 1 ≤ k → k ≤ 64 → 18446744073709551615 / 2 ^ (64 - k) ≡ 2 ^ k - 1
ones_is k some fits = let e : 64 - (64 - k) ≡ k = omega arith in ones_shr 64 (64 - k) (omega arith) ∙ ap (λ n. 2 ^ n - 1) e

-- a bit of a number that is shifted down
pub bit_at_shr : (n f i : ℕ) → bit_at (n / 2 ^ f) i ≡ bit_at n (f + i)
bit_at_shr n f i = ap (λ q. q % 2) (shr-shr n f i)

-- .. and shifted up
pub bit_at_shl : (n f i : ℕ) → bit_at (n * 2 ^ f) (f + i) ≡ bit_at n i
bit_at_shl n f i = sym (bit_at_shr (n * 2 ^ f) f i) ∙ ap (λ x. bit_at x i) (shl-shr n f)

pub bit_at_shl_below : (n f i : ℕ) → i < f → bit_at (n * 2 ^ f) i ≡ 0
bit_at_shl_below n f i h = ap (λ x. bit_at x i) (sym (add-zero (n * 2 ^ f))) ∙ bit_at_cat_low n f 0 i h ∙ bit_at-zero i

pub masked_bit : (n count mask i : ℕ) → mask ≡ 2 ^ count - 1 → i < count → bit_at (bit_and n mask) i ≡ bit_at n i
masked_bit n count mask i e h =
    bit_at_and n mask i ∙ ap (min (bit_at n i)) (ap (λ m. bit_at m i) e ∙ bit_at_ones count i h) ∙ low
  where
    low : min (bit_at n i) 1 ≡ bit_at n i
    low = omega (arith, bit_at-lt n i)

pub masked_narrow : (n count mask : ℕ) → mask ≡ 2 ^ count - 1 → bit_and n mask < 2 ^ count
masked_narrow n count mask e = subst (λ x. x < 2 ^ count) (sym (ap (bit_and n) e ∙ and_mask n count)) (mod_below n (2 ^ count) (pow_pos count))

pub piece_bit : (byte first count mask : ℕ) → mask ≡ 2 ^ count - 1 → (i : ℕ) → i < count → bit_at (bit_and (byte / 2 ^ first) mask) i ≡ bit_at byte (first + i)
piece_bit byte first count mask e i h = masked_bit (byte / 2 ^ first) count mask i e h ∙ bit_at_shr byte first i

-- ---- a byte with a piece replaced

abbrev pub change_of : ℕ → ℕ → ℕ → ℕ → ℕ
change_of byte first bits mask = bit_and (bit_xor (byte / 2 ^ first) bits) mask

pub change_shifted : (byte first bits count mask : ℕ) → mask ≡ 2 ^ count - 1 → first + count ≤ 64 →
    change_of byte first bits mask * 2 ^ first % 18446744073709551616 ≡ change_of byte first bits mask * 2 ^ first
change_shifted byte first bits count mask e fits = shl_whole (change_of byte first bits mask) count first 64 (masked_narrow (bit_xor (byte / 2 ^ first) bits) count mask e) (omega arith)

pow_le : (i j : ℕ) → i ≤ j → 2 ^ i ≤ 2 ^ j
pow_le i j h = elim (cases_lt i j) [
  | inl l ↦ (let p : 2 ^ i < 2 ^ j = pow_below i j l in omega arith)
  | inr m ↦ (let e : i ≡ j = omega arith in subst (λ k. 2 ^ i ≤ 2 ^ k) e (omega arith))
]

pub change_small : (byte first bits count mask : ℕ) → mask ≡ 2 ^ count - 1 → first + count ≤ 8 → change_of byte first bits mask * 2 ^ first < 2 ^ 8
change_small byte first bits count mask e fits =
    let below : change_of byte first bits mask * 2 ^ first < 2 ^ (count + first) =
    shl_below (change_of byte first bits mask) count first (masked_narrow (bit_xor (byte / 2 ^ first) bits) count mask e) in
    let room : 2 ^ (count + first) ≤ 2 ^ 8 = pow_le (count + first) 8 (omega arith) in
    omega arith

xor_back : (x b : ℕ) → x < 2 → b < 2 → (x + (x + b) % 2) % 2 ≡ b
xor_back zero b p q = omega arith
xor_back (suc zero) zero p q = refl
xor_back (suc zero) (suc zero) p q = refl
xor_back (suc zero) (suc (suc b)) p q = absurd (omega arith)
xor_back (suc (suc x)) b p q = absurd (omega arith)

pub changed_bit : (byte first bits count mask : ℕ) → mask ≡ 2 ^ count - 1 → first + count ≤ 64 → (i : ℕ) → i < count →
    bit_at (bit_xor byte (change_of byte first bits mask * 2 ^ first % 18446744073709551616)) (first + i) ≡ bit_at bits i
changed_bit byte first bits count mask e fits i h =
    bit_at_xor byte _ (first + i)
    ∙ ap (λ y. (bit_at byte (first + i) + y) % 2) inner
    ∙ xor_back (bit_at byte (first + i)) (bit_at bits i) (bit_at-lt byte (first + i)) (bit_at-lt bits i)
  where
    inner : bit_at (change_of byte first bits mask * 2 ^ first % 18446744073709551616) (first + i) ≡ (bit_at byte (first + i) + bit_at bits i) % 2
    inner =
        ap (λ x. bit_at x (first + i)) (change_shifted byte first bits count mask e fits)
        ∙ bit_at_shl (change_of byte first bits mask) first i
        ∙ masked_bit (bit_xor (byte / 2 ^ first) bits) count mask i e h
        ∙ bit_at_xor (byte / 2 ^ first) bits i
        ∙ ap (λ x. (x + bit_at bits i) % 2) (bit_at_shr byte first i)

unchanged : (byte change i : ℕ) → bit_at change i ≡ 0 → bit_at (bit_xor byte change) i ≡ bit_at byte i
unchanged byte change i e = bit_at_xor byte change i ∙ omega (arith, bit_at-lt byte i)

pub unchanged_below : (byte first bits count mask : ℕ) → mask ≡ 2 ^ count - 1 → first + count ≤ 64 → (i : ℕ) → i < first →
    bit_at (bit_xor byte (change_of byte first bits mask * 2 ^ first % 18446744073709551616)) i ≡ bit_at byte i
unchanged_below byte first bits count mask e fits i h =
    unchanged byte _ i (ap (λ x. bit_at x i) (change_shifted byte first bits count mask e fits) ∙ bit_at_shl_below (change_of byte first bits mask) first i h)

pub unchanged_above : (byte first bits count mask : ℕ) → mask ≡ 2 ^ count - 1 → first + count ≤ 64 → (i : ℕ) → first + count ≤ i →
    bit_at (bit_xor byte (change_of byte first bits mask * 2 ^ first % 18446744073709551616)) i ≡ bit_at byte i
unchanged_above byte first bits count mask e fits i h =
    unchanged byte _ i (ap (λ x. bit_at x i) (change_shifted byte first bits count mask e fits)
    ∙ bit_at_above _ (count + first) i (shl_below (change_of byte first bits mask) count first (masked_narrow (bit_xor (byte / 2 ^ first) bits) count mask e)) (omega arith))

-- ---- the step of a row that is taken

pub taken_is : (bits piece done more : ℕ) → bits < 2 ^ done → piece < 2 ^ more → done + more ≤ 64 → bit_or bits (piece * 2 ^ done % 18446744073709551616) ≡ piece * 2 ^ done + bits
taken_is bits piece done more h p fits =
    ap (bit_or bits) (shl_whole piece more done 64 p (omega arith)) ∙ or_comm bits (piece * 2 ^ done) ∙ or_shifted piece done bits h

pub taken_narrow : (bits piece done more : ℕ) → bits < 2 ^ done → piece < 2 ^ more → done + more ≤ 64 → bit_or bits (piece * 2 ^ done % 18446744073709551616) < 2 ^ (done + more)
taken_narrow bits piece done more h p fits =
    subst (λ x. x < 2 ^ (done + more)) (sym (taken_is bits piece done more h p fits))
    (subst (λ x. piece * 2 ^ done + bits < x) (sym (pow-add 2 done more)) (mul-add-lt piece (2 ^ done) bits (2 ^ more) p h))

pub taken_more : (row : List ℕ) (at bits piece done more : ℕ) → bits < 2 ^ done → piece < 2 ^ more → done + more ≤ 64 → (at + done) % 8 + more ≤ 8 →
    ((i : ℕ) → i < done → bit_at bits i ≡ charge_at row (at + i)) →
    ((i : ℕ) → i < more → bit_at piece i ≡ bit_at (slice_index row ((at + done) / 8)) ((at + done) % 8 + i)) →
    (i : ℕ) → i < done + more → bit_at (bit_or bits (piece * 2 ^ done % 18446744073709551616)) i ≡ charge_at row (at + i)
taken_more row at bits piece done more h p fits byte before now i l =
    ap (λ x. bit_at x i) (taken_is bits piece done more h p fits)
    ∙ elim (cases_lt i done) [
      | inl m ↦ bit_at_cat_low piece done bits i m ∙ before i m
      | inr m ↦
          let q : (at + i) / 8 ≡ (at + done) / 8 = omega arith in
          let r : (at + i) % 8 ≡ (at + done) % 8 + (i - done) = omega arith in
          bit_at_cat_high piece done bits i h m ∙ now (i - done) (omega arith)
          ∙ sym (ap₂ (λ x y. bit_at (slice_index row x) y) q r)
    ]

-- ---- the step of a row that is written

pub set_cell : (row : List ℕ) (q w c : ℕ) → q < length row → c / 8 ≡ q → charge_at (slice_set row q w) c ≡ bit_at w (c % 8)
set_cell row q w c h e = ap (λ k. bit_at (slice_index (slice_set row q w) k) (c % 8)) e ∙ ap (λ b. bit_at b (c % 8)) (get_or-set_same row q w 0 h)

pub set_cell_other : (row : List ℕ) (q w c : ℕ) → c / 8 ≢ q → charge_at (slice_set row q w) c ≡ charge_at row c
set_cell_other row q w c n = ap (λ b. bit_at b (c % 8)) (get_or-set_other row q (c / 8) w 0 n)

-- the byte of cell at + done, with the next bits in it
pub record IsWritten (row : List ℕ) (at done more bits w : ℕ) : Type 0 where
  pub room : (at + done) / 8 < length row
  pub byte : (at + done) % 8 + more ≤ 8
  pub inside : (i : ℕ) → i < more → bit_at w ((at + done) % 8 + i) ≡ bit_at (bits / 2 ^ done) i
  pub below : (i : ℕ) → i < (at + done) % 8 → bit_at w i ≡ bit_at (slice_index row ((at + done) / 8)) i
  pub above : (i : ℕ) → (at + done) % 8 + more ≤ i → bit_at w i ≡ bit_at (slice_index row ((at + done) / 8)) i

pub written_other : (row : List ℕ) (at done more bits w : ℕ) → IsWritten row at done more bits w → (c : ℕ) → (c < at + done) ⊎ (at + done + more ≤ c) →
    charge_at (slice_set row ((at + done) / 8) w) c ≡ charge_at row c
written_other row at done more bits w r c h =
    elim (cases_eq (c / 8) ((at + done) / 8)) [
      | inr n ↦ set_cell_other row ((at + done) / 8) w c n
      | inl e ↦ set_cell row ((at + done) / 8) w c r.room e ∙ side h e ∙ ap (λ k. bit_at (slice_index row k) (c % 8)) (sym e)
    ]
  where
    side : (c < at + done) ⊎ (at + done + more ≤ c) → c / 8 ≡ (at + done) / 8 → bit_at w (c % 8) ≡ bit_at (slice_index row ((at + done) / 8)) (c % 8)
    side (inl l) e = r.below (c % 8) (omega arith)
    side (inr m) e = r.above (c % 8) (omega arith)

pub written_more : (row : List ℕ) (at done more bits w : ℕ) → IsWritten row at done more bits w →
    ((i : ℕ) → i < done → charge_at row (at + i) ≡ bit_at bits i) →
    (i : ℕ) → i < done + more → charge_at (slice_set row ((at + done) / 8) w) (at + i) ≡ bit_at bits i
written_more row at done more bits w r before i h =
    elim (cases_lt i done) [
      | inl l ↦ written_other row at done more bits w r (at + i) (inl (omega arith)) ∙ before i l
      | inr m ↦
          let byte = r.byte in
          let q : (at + i) / 8 ≡ (at + done) / 8 = omega arith in
          let p : (at + i) % 8 ≡ (at + done) % 8 + (i - done) = omega arith in
          let place : done + (i - done) ≡ i = omega arith in
          set_cell row ((at + done) / 8) w (at + i) r.room q ∙ ap (bit_at w) p ∙ r.inside (i - done) (omega arith)
          ∙ bit_at_shr bits done (i - done) ∙ ap (bit_at bits) place
    ]
