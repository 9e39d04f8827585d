-- Laws of the cells of a page.
use Rattle.std.proofs.Common.{◌≡◌, ◌≢◌, ℕ, ◌*◌, ◌/◌, ◌%◌, ◌^◌, ◌<◌, max, List, length, arith, ◌∙◌, sym, ap, get_or, ⊎_elim, bit_or}
use Rattle.std.specs.Int.{bit_at}
use Rattle.std.proofs.lemmas.List.{length-set, get_or-set_same, get_or-set_other, get_or-replicate, get_or_past, length-replicate}
use Rattle.std.proofs.lemmas.Bool.{cases_eq, cases_lt}
use Rattle.std.proofs.lemmas.Nat.Bits.{bit_at_or, bit_at-zero}
use Rattle.cell_die.specs.Cells.{charge_at, charge, blank_page, IsAbove}

-- a byte of a page after a cell is charged
same_byte : (page : List ℕ) (cell other : ℕ) → cell / 8 < length page → other / 8 ≡ cell / 8
    → charge_at (charge page cell) other ≡ max (charge_at page other) (bit_at (2 ^ (cell % 8)) (other % 8))
same_byte page cell other within same =
    ap (λ at. bit_at (get_or (charge page cell) at 0) (other % 8)) same
    ∙ (ap (λ byte. bit_at byte (other % 8)) (get_or-set_same page (cell / 8) (bit_or (get_or page (cell / 8) 0) (2 ^ (cell % 8))) 0 within)
    ∙ (bit_at_or (get_or page (cell / 8) 0) (2 ^ (cell % 8)) (other % 8)
    ∙ ap (λ at. max (bit_at (get_or page at 0) (other % 8)) (bit_at (2 ^ (cell % 8)) (other % 8))) (sym same)))

other_byte : (page : List ℕ) (cell other : ℕ) → other / 8 ≢ cell / 8 → charge_at (charge page cell) other ≡ charge_at page other
other_byte page cell other apart = ap (λ byte. bit_at byte (other % 8)) (get_or-set_other page (cell / 8) (other / 8) _ 0 apart)

-- charging a cell goes up
pub charge_above : (page : List ℕ) (cell : ℕ) → cell < 8 * length page → IsAbove (charge page cell) page
charge_above page cell below = record {
  same_length = length-set page (cell / 8) _;
  charged = λ other. ⊎_elim
      (λ same. let now : charge_at (charge page cell) other ≡ max (charge_at page other) (bit_at (2 ^ (cell % 8)) (other % 8)) = same_byte page cell other (omega arith) same in omega arith)
      (λ apart. let now : charge_at (charge page cell) other ≡ charge_at page other = other_byte page cell other apart in omega arith)
      (cases_eq (other / 8) (cell / 8));
}

-- a blank page has no charged cell
pub no_charge : (bytes cell : ℕ) → charge_at (blank_page bytes) cell ≡ 0
no_charge bytes cell = ap (λ byte. bit_at byte (cell % 8)) (zero_byte bytes (cell / 8)) ∙ bit_at-zero (cell % 8) where
  zero_byte : (bytes at : ℕ) → get_or (blank_page bytes) at 0 ≡ 0
  zero_byte bytes at = ⊎_elim (λ inside. get_or-replicate bytes at 0 0 inside)
      (λ past. get_or_past (blank_page bytes) at 0 (let long : length (blank_page bytes) ≡ bytes = length-replicate bytes 0 in omega arith)) (cases_lt at bytes)

-- any cells are above blank ones
pub above_blank : (page : List ℕ) (bytes : ℕ) → length page ≡ bytes → IsAbove page (blank_page bytes)
above_blank page bytes long = record {
  same_length = long ∙ sym (length-replicate bytes 0);
  charged = λ cell. let none : charge_at (blank_page bytes) cell ≡ 0 = no_charge bytes cell in omega arith;
}
