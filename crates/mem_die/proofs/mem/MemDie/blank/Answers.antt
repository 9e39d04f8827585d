-- A die that is made of bytes that are all zero has blank pages.
use Rattle.std.proofs.Common.{◌≡◌, ◌*◌, List, ℕ, Result, Ok, Err, replicate, ap, ◌∙◌, rules}
use Rattle.std.specs.Prelude.{IfOk}
use Rattle.cell_die.specs.declared.shape.Shape.{Shape}
use Rattle.cell_die.specs.Cells.{page_at}
use Rattle.cell_die.specs.DieState.{page_count, page_bytes}
use Rattle.mem_die.specs.declared.mem.MemDie.{MemDie}
use Rattle.mem_die.specs.declared.mem.DieRefusal.{DieRefusal}
use Rattle.mem_die.specs.MemState.{mem_state, IsMade, IsNew}
use Rattle.mem_die.proofs.States.{zero_page}
use Rattle.mem_die.proofs.mem.MemDie.blank.Goals as goal

new_if_made : (shape : Shape) (bytes : List ℕ) (result : Result MemDie DieRefusal) → bytes ≡ replicate (page_count shape * page_bytes shape) 0
    → IfOk result (λ die. IsMade shape bytes (mem_state die)) → IfOk result (λ die. IsNew shape (mem_state die))
new_if_made shape bytes (Err why) zeros made = tt
new_if_made shape bytes (Ok die) zeros made = record {
  same_shape = made.same_shape;
  blank = λ page below. ap (λ cells. page_at cells page) made.same_cells ∙ zero_page (page_bytes shape) (page_count shape) bytes page zeros below;
  erases = made.erases;
  read_faults = made.read_faults;
  change_faults = made.change_faults;
  quiet = made.quiet;
}

pub returns-clause-new : goal.returns-clause-new
returns-clause-new c =
    let zeros : c.in-Ok.cells.items ≡ replicate (page_count c.args.shape * page_bytes c.args.shape) 0 = search rules in
    new_if_made c.args.shape c.in-Ok.cells.items c.with_cells.result zeros c.with_cells.ensures.made
