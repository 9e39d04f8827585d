-- The lowest vector of a set, and the cells once its cell is charged.
use Rattle.std.proofs.Common.{◌≡◌, ◌≢◌, ℕ, ◌+◌, ◌*◌, ◌%◌, ◌^◌, ◌<◌, Bool, true, false, List, bit_xor, nat_eq, sym, ◌∙◌, ap, subst, inl, inr, arith}
use Rattle.std.specs.Int.{bit_at, w128, trailing_zeros}
use Rattle.std.specs.Int.Bits.{xor_lt, xor_add_and}
use Rattle.std.proofs.lemmas.Bool.{cases_lt}
use Rattle.std.proofs.lemmas.List.{get_or_past}
use Rattle.std.proofs.lemmas.Nat.{pow_pos, pow_below, one_shl}
use Rattle.std.proofs.lemmas.Nat.Bits.{bit_at-trailing_zeros, bit_at_above, and_pow}
use Rattle.wom_code.specs.Cells.{cell_at}
use Rattle.wom_code.specs.Packed.{word_bit, cells_of}
use Rattle.wom_code.proofs.PackedLemmas.{get_or-cells_of, length-cells_of}

-- the lowest bit of a set, and the set without it
pub record IsLowest (set n p less : ℕ) : Type 0 where
  pub in_set : bit_at set p ≡ 1
  pub in_range : p < n
  pub less_is : less ≡ bit_xor set (2 ^ p)
  pub smaller : less < set
  pub less_within : less < 2 ^ n

-- a bit of a set is below its bound
pub bit_within : (set n p : ℕ) → set < 2 ^ n → bit_at set p ≡ 1 → p < n
bit_within set n p h e = elim (cases_lt p n) [ inl l ↦ l | inr m ↦ let z : bit_at set p ≡ 0 = bit_at_above set n p h m in absurd (cc) ]

pub lowest : (set n : ℕ) → 0 < set → set < 2 ^ 128 → set < 2 ^ n → IsLowest set n (trailing_zeros w128 set) (bit_xor set (1 * 2 ^ trailing_zeros w128 set % 2 ^ 128))
lowest set n some fits within =
    let p : ℕ = trailing_zeros w128 set in
    let t = bit_at-trailing_zeros w128 set some fits in
    let bit : bit_at set p ≡ 1 = t.1 in
    let one : 1 * 2 ^ p % 2 ^ 128 ≡ 2 ^ p = one_shl p 128 t.0 in
    let l : p < n = bit_within set n p within bit in
    let less : bit_xor set (1 * 2 ^ p % 2 ^ 128) ≡ bit_xor set (2 ^ p) = ap (bit_xor set) one in
    let both : bit_xor set (2 ^ p) + 2 ^ p * 2 ≡ set + 2 ^ p =
    ap (λ b. bit_xor set (2 ^ p) + b * 2) (sym (and_pow set p ∙ ap (λ b. b * 2 ^ p) bit ∙ omega arith)) ∙ xor_add_and set (2 ^ p) in
    record {
      in_set = bit;
      in_range = l;
      less_is = less;
      smaller = omega (arith, pow_pos p);
      less_within = subst (λ x. x < 2 ^ n) (sym less) (xor_lt n set (2 ^ p) within (pow_below p n l));
    }

-- the cells of a row, one of which was charged
pub record IsChargedAt (old new : List Bool) (cell : ℕ) : Type 0 where
  pub now : cell_at new cell ≡ true
  pub beside : (i : ℕ) → i ≢ cell → cell_at new i ≡ cell_at old i

pub charged_at : (n : ℕ) (old new : List ℕ) (cell : ℕ) → cell < n → word_bit new cell ≡ 1 → ((i : ℕ) → i ≢ cell → word_bit new i ≡ word_bit old i) →
    IsChargedAt (cells_of n old) (cells_of n new) cell
charged_at n old new cell h set others = record {
  now = get_or-cells_of n new cell false h ∙ ap (λ b. nat_eq b 1) set;
  beside = λ i ne. elim (cases_lt i n) [
    | inl l ↦ get_or-cells_of n new i false l ∙ ap (λ b. nat_eq b 1) (others i ne) ∙ sym (get_or-cells_of n old i false l)
    | inr m ↦ get_or_past (cells_of n new) i false (omega (arith, length-cells_of n new)) ∙ sym (get_or_past (cells_of n old) i false (omega (arith, length-cells_of n old)))
  ];
}
