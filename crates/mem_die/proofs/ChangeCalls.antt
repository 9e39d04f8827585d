-- A change call of a die in memory that was carried out whole, and one that was cut.
use Rattle.std.proofs.Common.{◌≡◌, ◌≢◌, ◌≤◌, inr, refl, List, ℕ, ◌-◌, sym, ap, ◌∙◌, subst, arith}
use Rattle.cell_die.specs.declared.shape.Torn.{Torn}
use Rattle.cell_die.specs.declared.shape.Torn.TheVariants.{Nothing, All, Mask}
use Rattle.cell_die.specs.Counts.{raised}
use Rattle.cell_die.specs.Cells.{page_at}
use Rattle.cell_die.specs.Changes.{SameCells}
use Rattle.cell_die.specs.DieState.{DieState, page_of, erases_of}
use Rattle.cell_die.specs.Changed.{torn_count}
use Rattle.cell_die.specs.Calls.{Nearer, CutCame, Passed, ChangeFailed}
use Rattle.cell_die.specs.Changed.{IsChanged, IsCut, EndsCut}
use Rattle.cell_die.proofs.Changed.{cut_at_once}
use Rattle.mem_die.specs.declared.mem.MemDie.{MemDie}
use Rattle.mem_die.specs.declared.supply.Supply.{Supply}
use Rattle.mem_die.specs.MemState.{mem_state}
use Rattle.mem_die.specs.Supply.{failures_of, ChangePasses, ChangeIsCut}

pub whole_call : (old new : MemDie) (supply : Supply) → new.supply ≡ supply → ChangePasses old.supply supply → IsChanged 1 (mem_state old) (mem_state new) → Passed 1 0 (mem_state old) (mem_state new)
whole_call old new supply is passes changed = record {
  read_faults = ap (λ (s : Supply). s.read_faults) is ∙ passes.read_faults;
  change_faults = ap (λ (s : Supply). s.change_faults) is ∙ passes.change_faults;
  failures = λ powered. subst (λ (s : Supply). Nearer 1 0 (failures_of old.supply) (failures_of s)) (sym is) passes.nearer;
  changed = λ powered. changed;
}

-- the first change call was cut
pub first_cut : (calls : ℕ) (form torn : Torn) (old new : DieState) → calls ≤ 1 → torn ≡ form → IsCut torn old new → EndsCut (calls - 1) form old new
first_cut calls form torn old new within is cut =
    let at : 0 ≡ calls - 1 = omega arith in
    subst (λ (n : ℕ). EndsCut n form old new) at (subst (λ (f : Torn). EndsCut 0 f old new) is (cut_at_once torn old new cut))

pub cut_call : (old new : MemDie) (supply : Supply) (torn : Torn) → new.supply ≡ supply → ChangeIsCut torn old.supply supply → IsCut torn (mem_state old) (mem_state new)
    → ChangeFailed 1 0 (mem_state old) (mem_state new)
cut_call old new supply torn is cuts cut =
    let came : CutCame 1 0 (failures_of old.supply) (failures_of new.supply) = subst (λ (s : Supply). CutCame 1 0 (failures_of old.supply) (failures_of s)) (sym is) cuts.came in
    record {
      read_faults = ap (λ (s : Supply). s.read_faults) is ∙ cuts.read_faults;
      change_faults = omega (arith, ap (λ (s : Supply). s.change_faults) is, cuts.change_faults);
      failures = λ powered. came;
      cut = λ powered. first_cut old.supply.cut old.supply.torn torn (mem_state old) (mem_state new) came.within cuts.form cut;
    }

-- an erase that was cut and changed cells is counted
pub torn_counted : (torn : Torn) (old new : ℕ) → torn ≢ Nothing → new ≡ raised old → new ≡ torn_count torn old
torn_counted Nothing old new some is = absurd (some (λ i. Nothing))
torn_counted All old new some is = is
torn_counted (Mask mask) old new some is = is

-- an erase that was cut before it changed a cell
pub untouched : (torn : Torn) (block : ℕ) (old new : DieState) → torn ≡ Nothing → new.shape ≡ old.shape → SameCells old new → IsCut torn old new
untouched Nothing block old new is shape same = inr (
  block,
  record {
    cells = λ page here. ap (λ (cells : List (List ℕ)). page_at cells page) same.cells;
    count = rw same.erases refl;
    only = record { pages = λ page apart. ap (λ (cells : List (List ℕ)). page_at cells page) same.cells; counts = λ other apart. rw same.erases refl };
  },
)
untouched All block old new is shape same = cc
untouched (Mask mask) block old new is shape same = cc
