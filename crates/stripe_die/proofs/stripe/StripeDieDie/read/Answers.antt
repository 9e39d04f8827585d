-- The page is read in the die where it stands, and the other die stays as it was.
use Rattle.std.proofs.Common.{Result, Ok, Err, OnErr}
use Rattle.stripe_die.proofs.Halves.{two, first_inside, second_inside}
use Rattle.stripe_die.proofs.PairCalls.{was_read, call_first, call_second, called}
use Rattle.stripe_die.proofs.stripe.StripeDieDie.read.Goals as goal

done : {T E : Type 0} (result : Result T E) → OnErr result (Unit {0})
done (Ok value) = tt
done (Err error) = tt

pub read-requires-clause-page : goal.read-requires-clause-page
read-requires-clause-page g c =
    first_inside (two c.args.self.now.same_shape (g.met.A.Die.shaped c.args.self.now.a) (g.met.B.Die.shaped c.args.self.now.b)) c.args.page c.in-First.ensures c.requires.page

pub read-requires-in-Second-clause-page : goal.read-requires-in-Second-clause-page
read-requires-in-Second-clause-page g c =
    second_inside (two c.args.self.now.same_shape (g.met.A.Die.shaped c.args.self.now.a) (g.met.B.Die.shaped c.args.self.now.b)) c.args.page c.in-Second.ensures c.requires.page

pub returns-in-First : goal.returns-in-First
returns-in-First g c = let halves = two c.args.self.now.same_shape (g.met.A.Die.shaped c.args.self.now.a) (g.met.B.Die.shaped c.args.self.now.b) in let e = c.read.ensures in
    let it = was_read c.read.new.into c.args.page (call_first halves (g.met.A.Die.shaped c.read.new.self) c.in-First.ensures
    (called e.read (done c.read.result) e.same_cells e.kept e.passed e.failed)) in
    record { read = it.did; same_cells = it.only; kept = it.kept; passed = it.passed; failed = it.failed; unpowered = it.held; one_passed = it.went; one_failed = it.fell }

pub returns-in-Second : goal.returns-in-Second
returns-in-Second g c = let halves = two c.args.self.now.same_shape (g.met.A.Die.shaped c.args.self.now.a) (g.met.B.Die.shaped c.args.self.now.b) in let e = c.read-in-Second.ensures in
    let it = was_read c.read-in-Second.new.into c.args.page (call_second halves (g.met.B.Die.shaped c.read-in-Second.new.self) c.in-Second.ensures
    (called e.read (done c.read-in-Second.result) e.same_cells e.kept e.passed e.failed)) in
    record { read = it.did; same_cells = it.only; kept = it.kept; passed = it.passed; failed = it.failed; unpowered = it.held; one_passed = it.went; one_failed = it.fell }
