use Rattle.std.proofs.Common.{◌≡◌, refl}
use Rattle.std.specs.Vec.{with_items}
use Rattle.cell_die.specs.DieState.{page_count, page_bytes}
use Rattle.mem_die.specs.Tears.{TearsPage}
use Rattle.mem_die.proofs.States.{vec_items, same_page, torn_page}
use Rattle.mem_die.proofs.mem.MemDie.tear_page.Goals as goal

pub invariant_of-self : goal.invariant_of-self
invariant_of-self c =
    let cells = c.args.self.now.cells in
    let now = c.tear_page.new.bytes in
    let torn : TearsPage c.args.torn (page_bytes c.args.self.now.shape) c.args.page cells.items c.args.target.now now =
    rw (c.page_bytes-size.ensures, c.deref_mut.ensures.value) at c.tear_page.ensures.change in
    let is : (with_items cells now).items ≡ now = vec_items cells now torn.same_length in
    record { within = c.args.self.now.within; whole = rw is (rw torn.same_length c.args.self.now.whole); bytes = rw is c.tear_page.ensures.bytes; counts = c.args.self.now.counts }

pub returns-clause-page : goal.returns-clause-page
returns-clause-page c =
    let cells = c.args.self.now.cells in
    let now = c.tear_page.new.bytes in
    let torn : TearsPage c.args.torn (page_bytes c.args.self.now.shape) c.args.page cells.items c.args.target.now now =
    rw (c.page_bytes-size.ensures, c.deref_mut.ensures.value) at c.tear_page.ensures.change in
    torn_page c.args.torn (page_bytes c.args.self.now.shape) (page_count c.args.self.now.shape) cells.items c.args.target.now now (with_items cells now).items c.args.page
    (vec_items cells now torn.same_length) c.args.self.now.whole torn.same_length torn.here

pub returns-clause-only_page : goal.returns-clause-only_page
returns-clause-only_page c =
    let cells = c.args.self.now.cells in
    let now = c.tear_page.new.bytes in
    let torn : TearsPage c.args.torn (page_bytes c.args.self.now.shape) c.args.page cells.items c.args.target.now now =
    rw (c.page_bytes-size.ensures, c.deref_mut.ensures.value) at c.tear_page.ensures.change in
    record {
      others = λ other apart. same_page (page_bytes c.args.self.now.shape) (page_count c.args.self.now.shape) cells.items now (with_items cells now).items other
          (vec_items cells now torn.same_length) c.args.self.now.whole torn.same_length (torn.others other apart);
      erases = refl;
    }
