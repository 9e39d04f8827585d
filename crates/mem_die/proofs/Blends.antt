-- Cells of one page beside those of another, bit by bit and byte by byte.
use Rattle.std.proofs.Common.{◌≡◌, ℕ, ◌+◌, ◌-◌, ◌*◌, ◌/◌, ◌%◌, ◌^◌, ◌<◌, min, max, true, false, List, length, refl, arith, ◌∙◌, sym, ap, get_or, ⊎_elim, bit_and, bit_or, w8}
use Rattle.std.specs.Int.{bit_at}
use Rattle.std.specs.Prelude.{if◌then◌else◌, ◌==◌}
use Rattle.std.proofs.lemmas.Nat.{pow-add}
use Rattle.std.proofs.lemmas.Nat.Bits.{bit_at_and, bit_at_or, bit_at_ones, bit_at_not, bit_at-lt}
use Rattle.std.proofs.lemmas.List.{get_or_past}
use Rattle.std.proofs.lemmas.Bool.{cases_lt, cases_eq}
use Rattle.std.proofs.lemmas.Bool.Decides.{nat_tests}
use Rattle.std.proofs.Math.Nat.{div-div-eq-div-mul}
use Rattle.mem_die.specs.Bytes.{BlendsBits, BlendsByte}
use Rattle.mem_die.specs.Pages.{Blended}

bit_shift : (n a b : ℕ) → bit_at (n / 2 ^ a) b ≡ bit_at n (a + b)
bit_shift n a b = ap (λ q. q % 2) (div-div-eq-div-mul n (2 ^ a) (2 ^ b) ∙ ap (λ p. n / p) (sym (pow-add 2 a b)))

pub low_byte_bit : (n a bit : ℕ) → bit < 8 → bit_at (bit_and (n / 2 ^ a) 255) bit ≡ bit_at n (a + bit)
low_byte_bit n a bit below =
    let both : bit_at (bit_and (n / 2 ^ a) 255) bit ≡ min (bit_at (n / 2 ^ a) bit) (bit_at 255 bit) = bit_at_and (n / 2 ^ a) 255 bit in
    let ones : bit_at 255 bit ≡ 1 = bit_at_ones 8 bit below in
    let small : bit_at (n / 2 ^ a) bit < 2 = bit_at-lt (n / 2 ^ a) bit in
    let moved : bit_at (n / 2 ^ a) bit ≡ bit_at n (a + bit) = bit_shift n a bit in
    omega arith

chosen : (m t o new : ℕ) → m < 2 → t < 2 → o < 2 → new ≡ max (min o (1 - m)) (min t m) → new ≡ (if m == 1 then t else o)
chosen m t o new small small_t small_o is = ⊎_elim (λ one. grind (arith, nat_tests)) (λ zero. grind (arith, nat_tests)) (cases_eq m 1)

pub bits_blended : (old target mask : ℕ) → mask < 256 → BlendsBits mask old target (bit_or (bit_and old (255 - mask)) (bit_and target mask))
bits_blended old target mask fits bit below =
    chosen (bit_at mask bit) (bit_at target bit) (bit_at old bit) (bit_at (bit_or (bit_and old (255 - mask)) (bit_and target mask)) bit)
    (bit_at-lt mask bit) (bit_at-lt target bit) (bit_at-lt old bit)
    (let whole : bit_at (bit_or (bit_and old (255 - mask)) (bit_and target mask)) bit
    ≡ max (bit_at (bit_and old (255 - mask)) bit) (bit_at (bit_and target mask) bit) = bit_at_or (bit_and old (255 - mask)) (bit_and target mask) bit in
    let left : bit_at (bit_and old (255 - mask)) bit ≡ min (bit_at old bit) (bit_at (255 - mask) bit) = bit_at_and old (255 - mask) bit in
    let right : bit_at (bit_and target mask) bit ≡ min (bit_at target bit) (bit_at mask bit) = bit_at_and target mask bit in
    let not : bit_at (255 - mask) bit ≡ 1 - bit_at mask bit = bit_at_not w8 mask bit (omega arith) below in
    rw (whole, left, right, not) refl)

pub blended_by_bytes : (mask : ℕ) (old target new : List ℕ) → length new ≡ length old → length target ≡ length old
    → ((k : ℕ) → k < length old → BlendsByte mask k (get_or old k 0) (get_or target k 0) (get_or new k 0)) → Blended mask old target new
blended_by_bytes mask old target new long whole bytes = record {
  same_length = long;
  cells = λ cell. ⊎_elim
      (λ inside. let place : 8 * (cell / 8 % 8) + cell % 8 ≡ cell % 64 = omega arith in
      let bit : cell % 8 < 8 = omega arith in
      rw place at (bytes (cell / 8) inside (cell % 8) bit))
      (λ past. rw (get_or_past new (cell / 8) 0 (omega arith), get_or_past target (cell / 8) 0 (omega arith), get_or_past old (cell / 8) 0 past) (same_both _ (bit_at 0 (cell % 8))))
      (cases_lt (cell / 8) (length old));
} where
  same_both : (b : _) (x : ℕ) → x ≡ (if b then x else x)
  same_both true x = refl
  same_both false x = refl
