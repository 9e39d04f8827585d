-- A charge that is cut is a program of the page to its cells and that one, cut in the same form.
use Rattle.std.proofs.Common.{◌≡◌, ◌≢◌, inl, inr, ℕ, suc, zero, ◌*◌, ◌%◌, ◌<◌, ◌==◌, Bool, true, false, List, length, refl, sym, ap, ◌∙◌, arith}
use Rattle.std.specs.Prelude.{if◌then◌else◌}
use Rattle.std.specs.Int.{bit_at}
use Rattle.std.proofs.lemmas.Bool.{cases_eq}
use Rattle.std.proofs.lemmas.Nat.Bits.{bit_at-lt}
use Rattle.cell_bits.proofs.Charging.{charged_other}
use Rattle.cell_die.specs.declared.shape.Torn.{Torn}
use Rattle.cell_die.specs.declared.shape.Torn.TheVariants.{Nothing, All, Mask}
use Rattle.cell_die.specs.Cells.{charge, charge_at}
use Rattle.cell_die.specs.Tears.{reaches, Blended, IsTorn}
use Rattle.cell_die.proofs.CellLaws.{charge_above}

same_bits : (x y : ℕ) → x < 2 → y < 2 → (x == 1) ≡ (y == 1) → x ≡ y
same_bits zero zero p q e = refl
same_bits (suc zero) (suc zero) p q e = refl
same_bits zero (suc zero) p q e = cc
same_bits (suc zero) zero p q e = cc
same_bits x (suc (suc y)) p q e = absurd (omega arith)
same_bits (suc (suc x)) y p q e = absurd (omega arith)

other_cell : (page : List ℕ) (cell other : ℕ) → other ≢ cell → charge_at (charge page cell) other ≡ charge_at page other
other_cell page cell other apart = same_bits _ _ (bit_at-lt _ _) (bit_at-lt _ _) (charged_other page cell other apart)

either : (b : Bool) (x y : ℕ) → x ≡ y → (if b then x else y) ≡ y
either true x y same = same
either false x y same = refl

module _ (mask : ℕ) (page : List ℕ) (cell : ℕ) (new : List ℕ) (within : cell < 8 * length page) where
  blended : (reached : Bool) → (bit_at mask (cell % 64) == 1) ≡ reached → new ≡ (if reached then charge page cell else page) → Blended mask page (charge page cell) new
  blended true e is = record {
    same_length = ap length is ∙ (charge_above page cell within).same_length;
    cells = λ other. ap (λ (row : List ℕ). charge_at row other) is ∙ elim (cases_eq other cell) [
      | inl same ↦ sym (ap (λ (b : Bool). if b then charge_at (charge page cell) other else charge_at page other) (ap (λ (c : ℕ). bit_at mask (c % 64) == 1) same ∙ e))
      | inr apart ↦ other_cell page cell other apart ∙ sym (either (bit_at mask (other % 64) == 1) (charge_at (charge page cell) other) (charge_at page other) (other_cell page cell other apart))
    ];
  }
  blended false e is = record {
    same_length = ap length is;
    cells = λ other. ap (λ (row : List ℕ). charge_at row other) is ∙ elim (cases_eq other cell) [
      | inl same ↦ sym (ap (λ (b : Bool). if b then charge_at (charge page cell) other else charge_at page other) (ap (λ (c : ℕ). bit_at mask (c % 64) == 1) same ∙ e))
      | inr apart ↦ sym (either (bit_at mask (other % 64) == 1) (charge_at (charge page cell) other) (charge_at page other) (other_cell page cell other apart))
    ];
  }

pub torn_charge : (torn : Torn) (page : List ℕ) (cell : ℕ) (new : List ℕ) → cell < 8 * length page → new ≡ (if reaches torn cell then charge page cell else page)
    → IsTorn torn page (charge page cell) new
torn_charge Nothing page cell new within is = is
torn_charge All page cell new within is = is
torn_charge (Mask mask) page cell new within is = blended mask page cell new within (bit_at mask (cell % 64) == 1) refl is
