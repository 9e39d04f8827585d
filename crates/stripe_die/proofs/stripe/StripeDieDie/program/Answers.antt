-- The page is programmed in the die where it stands, and the other die stays as it was.
use Rattle.stripe_die.proofs.Halves.{two, first_inside, second_inside, first_page, second_page}
use Rattle.stripe_die.proofs.PairCalls.{programmed, call_first, call_second, called}
use Rattle.stripe_die.proofs.stripe.StripeDieDie.program.Goals as goal

pub program-requires-clause-page : goal.program-requires-clause-page
program-requires-clause-page g c =
    first_inside (two c.args.self.now.same_shape (g.met.A.Die.shaped c.args.self.now.a) (g.met.B.Die.shaped c.args.self.now.b)) c.args.page c.in-First.ensures c.requires.page

pub program-requires-clause-above : goal.program-requires-clause-above
program-requires-clause-above g c =
    rw (first_page (two c.args.self.now.same_shape (g.met.A.Die.shaped c.args.self.now.a) (g.met.B.Die.shaped c.args.self.now.b)) c.args.page c.in-First.ensures) at c.requires.above

pub program-requires-in-Second-clause-page : goal.program-requires-in-Second-clause-page
program-requires-in-Second-clause-page g c =
    second_inside (two c.args.self.now.same_shape (g.met.A.Die.shaped c.args.self.now.a) (g.met.B.Die.shaped c.args.self.now.b)) c.args.page c.in-Second.ensures c.requires.page

pub program-requires-in-Second-clause-above : goal.program-requires-in-Second-clause-above
program-requires-in-Second-clause-above g c =
    rw (second_page (two c.args.self.now.same_shape (g.met.A.Die.shaped c.args.self.now.a) (g.met.B.Die.shaped c.args.self.now.b)) c.args.page c.in-Second.ensures) at c.requires.above

pub returns-in-First : goal.returns-in-First
returns-in-First g c = let halves = two c.args.self.now.same_shape (g.met.A.Die.shaped c.args.self.now.a) (g.met.B.Die.shaped c.args.self.now.b) in let e = c.program.ensures in
    let it = programmed c.args.target.now c.args.page c.requires.above (call_first halves (g.met.A.Die.shaped c.program.new.self) c.in-First.ensures
    (called e.programmed e.in_part e.only_page e.kept e.passed e.failed)) in
    record { programmed = it.did; in_part = it.part; only_page = it.only; kept = it.kept; passed = it.passed; failed = it.failed; unpowered = it.held; one_passed = it.went; one_failed = it.fell }

pub returns-in-Second : goal.returns-in-Second
returns-in-Second g c = let halves = two c.args.self.now.same_shape (g.met.A.Die.shaped c.args.self.now.a) (g.met.B.Die.shaped c.args.self.now.b) in let e = c.program-in-Second.ensures in
    let it = programmed c.args.target.now c.args.page c.requires.above (call_second halves (g.met.B.Die.shaped c.program-in-Second.new.self) c.in-Second.ensures
    (called e.programmed e.in_part e.only_page e.kept e.passed e.failed)) in
    record { programmed = it.did; in_part = it.part; only_page = it.only; kept = it.kept; passed = it.passed; failed = it.failed; unpowered = it.held; one_passed = it.went; one_failed = it.fell }
