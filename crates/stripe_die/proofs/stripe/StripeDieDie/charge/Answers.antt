-- The cell is charged in the die where its page stands, and the other die stays as it was.
use Rattle.stripe_die.proofs.Halves.{two, first_inside, second_inside}
use Rattle.stripe_die.proofs.PairCalls.{charged, call_first, call_second, called}
use Rattle.stripe_die.proofs.stripe.StripeDieDie.charge.Goals as goal

pub charge-requires-clause-page : goal.charge-requires-clause-page
charge-requires-clause-page g c =
    first_inside (two c.args.self.now.same_shape (g.met.A.Die.shaped c.args.self.now.a) (g.met.B.Die.shaped c.args.self.now.b)) c.args.page c.in-First.ensures c.requires.page

pub charge-requires-in-Second-clause-cell : goal.charge-requires-in-Second-clause-cell
charge-requires-in-Second-clause-cell g c = rw c.args.self.now.same_shape c.requires.cell

pub charge-requires-in-Second-clause-page : goal.charge-requires-in-Second-clause-page
charge-requires-in-Second-clause-page g c =
    second_inside (two c.args.self.now.same_shape (g.met.A.Die.shaped c.args.self.now.a) (g.met.B.Die.shaped c.args.self.now.b)) c.args.page c.in-Second.ensures c.requires.page

pub returns-in-First : goal.returns-in-First
returns-in-First g c = let halves = two c.args.self.now.same_shape (g.met.A.Die.shaped c.args.self.now.a) (g.met.B.Die.shaped c.args.self.now.b) in let e = c.charge.ensures in
    let it = charged c.args.cell c.args.page c.requires.page c.requires.cell (call_first halves (g.met.A.Die.shaped c.charge.new.self) c.in-First.ensures
    (called e.charged e.charged_or_not e.only_page e.kept e.passed e.failed)) in
    record { charged = it.did; charged_or_not = it.part; only_page = it.only; kept = it.kept; passed = it.passed; failed = it.failed; unpowered = it.held; one_passed = it.went; one_failed = it.fell }

pub returns-in-Second : goal.returns-in-Second
returns-in-Second g c = let halves = two c.args.self.now.same_shape (g.met.A.Die.shaped c.args.self.now.a) (g.met.B.Die.shaped c.args.self.now.b) in let e = c.charge-in-Second.ensures in
    let it = charged c.args.cell c.args.page c.requires.page c.requires.cell (call_second halves (g.met.B.Die.shaped c.charge-in-Second.new.self) c.in-Second.ensures
    (called e.charged e.charged_or_not e.only_page e.kept e.passed e.failed)) in
    record { charged = it.did; charged_or_not = it.part; only_page = it.only; kept = it.kept; passed = it.passed; failed = it.failed; unpowered = it.held; one_passed = it.went; one_failed = it.fell }
