use Rattle.std.proofs.Common.{◌≡◌, ◌*◌, ◌∙◌, ⊎_elim}
use Rattle.std.proofs.lemmas.List.{length-set, get_or-set_other}
use Rattle.std.specs.Vec.{with_items}
use Rattle.cell_die.specs.DieState.{page_count, page_bytes}
use Rattle.mem_die.specs.Tears.{TearsPages}
use Rattle.mem_die.proofs.States.{vec_items, same_page, torn_page, in_block, out_of_block}
use Rattle.mem_die.proofs.mem.MemDie.tear_block.Goals as goal

pub invariant_of-self : goal.invariant_of-self
invariant_of-self c =
    let cells = c.args.self.now.cells in
    let now = c.tear_pages.new.bytes in
    let long = rw c.deref_mut.ensures.value at c.tear_pages.ensures.change.same_length in
    let is : (with_items cells now).items ≡ now = vec_items cells now long in
    record {
      within = c.args.self.now.within;
      whole = rw is (rw long c.args.self.now.whole);
      bytes = rw is c.tear_pages.ensures.bytes;
      counts = length-set c.args.self.now.erases.items c.args.block c.saturating_add.result ∙ c.args.self.now.counts;
    }

pub returns-clause-pages : goal.returns-clause-pages
returns-clause-pages c =
    let shape = c.args.self.now.shape in
    let cells = c.args.self.now.cells in
    let now = c.tear_pages.new.bytes in
    let size = page_bytes shape in
    let torn : TearsPages c.args.torn size (c.args.block * shape.pages) shape.pages cells.items now = rw (c.page_bytes-size.ensures, c.deref_mut.ensures.value) at c.tear_pages.ensures.change in
    λ page here.
    let place = in_block page c.args.block shape.pages c.args.self.now.within.some_pages here in
    torn_page c.args.torn size (page_count shape) cells.items _ now (with_items cells now).items page
    (vec_items cells now torn.same_length) c.args.self.now.whole torn.same_length (torn.here page place.0 place.1)

pub returns-clause-only_block : goal.returns-clause-only_block
returns-clause-only_block c =
    let shape = c.args.self.now.shape in
    let cells = c.args.self.now.cells in
    let now = c.tear_pages.new.bytes in
    let size = page_bytes shape in
    let torn : TearsPages c.args.torn size (c.args.block * shape.pages) shape.pages cells.items now = rw (c.page_bytes-size.ensures, c.deref_mut.ensures.value) at c.tear_pages.ensures.change in
    record {
      pages = λ page apart. same_page size (page_count shape) cells.items now (with_items cells now).items page
          (vec_items cells now torn.same_length) c.args.self.now.whole torn.same_length
          (⊎_elim (torn.before page) (torn.after page) (out_of_block page c.args.block shape.pages c.args.self.now.within.some_pages apart));
      counts = λ other apart. get_or-set_other c.args.self.now.erases.items c.args.block other c.saturating_add.result 0 apart;
    }
