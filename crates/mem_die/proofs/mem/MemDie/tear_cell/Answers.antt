use Rattle.std.proofs.Common.{◌≡◌, refl, ap, ◌∙◌, sym}
use Rattle.std.specs.Prelude.{if◌then◌else◌}
use Rattle.std.specs.Vec.{with_items}
use Rattle.std.specs.Fork.{slice_chunk}
use Rattle.cell_die.specs.Cells.{charge}
use Rattle.cell_die.specs.DieState.{page_count, page_bytes}
use Rattle.mem_die.specs.Pages.{ChangesPage}
use Rattle.mem_die.specs.PageLaws.{page_at-pages}
use Rattle.mem_die.specs.Tears.{reaches}
use Rattle.mem_die.proofs.States.{vec_items, same_page, new_page}
use Rattle.mem_die.proofs.mem.MemDie.tear_cell.Goals as goal

pub invariant_of-self : goal.invariant_of-self
invariant_of-self c =
    let cells = c.args.self.now.cells in
    let now = c.tear_cell.new.bytes in
    let long = rw c.deref_mut.ensures.value at c.tear_cell.ensures.change.same_length in
    let is : (with_items cells now).items ≡ now = vec_items cells now long in
    record { within = c.args.self.now.within; whole = rw is (rw long c.args.self.now.whole); bytes = rw is c.tear_cell.ensures.bytes; counts = c.args.self.now.counts }

pub returns-clause-page : goal.returns-clause-page
returns-clause-page c =
    let shape = c.args.self.now.shape in
    let cells = c.args.self.now.cells in
    let now = c.tear_cell.new.bytes in
    let size = page_bytes shape in
    let before = slice_chunk cells.items size c.args.page in
    let to : ChangesPage size c.args.page cells.items now (if reaches c.args.torn c.args.cell then charge before c.args.cell else before)
    = rw (c.page_bytes-size.ensures, c.deref_mut.ensures.value) at c.tear_cell.ensures.change in
    new_page size (page_count shape) cells.items now (with_items cells now).items (if reaches c.args.torn c.args.cell then charge before c.args.cell else before) c.args.page
    (vec_items cells now to.same_length) c.args.self.now.whole to.same_length to.here
    ∙ ap (λ page. if reaches c.args.torn c.args.cell then charge page c.args.cell else page) (sym (page_at-pages cells.items size (page_count shape) c.args.page c.args.self.now.whole))

pub returns-clause-only_page : goal.returns-clause-only_page
returns-clause-only_page c =
    let shape = c.args.self.now.shape in
    let cells = c.args.self.now.cells in
    let now = c.tear_cell.new.bytes in
    let size = page_bytes shape in
    let before = slice_chunk cells.items size c.args.page in
    let to : ChangesPage size c.args.page cells.items now (if reaches c.args.torn c.args.cell then charge before c.args.cell else before)
    = rw (c.page_bytes-size.ensures, c.deref_mut.ensures.value) at c.tear_cell.ensures.change in
    record {
      others = λ other apart. same_page size (page_count shape) cells.items now (with_items cells now).items other
          (vec_items cells now to.same_length) c.args.self.now.whole to.same_length (to.others other apart);
      erases = refl;
    }
