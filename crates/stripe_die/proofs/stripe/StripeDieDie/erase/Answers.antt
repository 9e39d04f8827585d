-- The block is erased in the die where it stands, and the other die stays as it was.
use Rattle.stripe_die.proofs.Halves.{two, first_block_inside, second_block_inside}
use Rattle.stripe_die.proofs.PairCalls.{erased, call_first, call_second, called}
use Rattle.stripe_die.proofs.stripe.StripeDieDie.erase.Goals as goal

pub erase-requires : goal.erase-requires
erase-requires g c =
    let halves = two c.args.self.now.same_shape (g.met.A.Die.shaped c.args.self.now.a) (g.met.B.Die.shaped c.args.self.now.b) in
    record { block = first_block_inside halves c.args.block c.in-First.ensures c.requires.block }

pub erase-requires-in-Second : goal.erase-requires-in-Second
erase-requires-in-Second g c =
    let halves = two c.args.self.now.same_shape (g.met.A.Die.shaped c.args.self.now.a) (g.met.B.Die.shaped c.args.self.now.b) in
    record { block = second_block_inside halves c.args.block c.in-Second.ensures c.requires.block }

pub returns-in-First : goal.returns-in-First
returns-in-First g c = let halves = two c.args.self.now.same_shape (g.met.A.Die.shaped c.args.self.now.a) (g.met.B.Die.shaped c.args.self.now.b) in let e = c.erase.ensures in
    let it = erased c.args.block (call_first halves (g.met.A.Die.shaped c.erase.new.self) c.in-First.ensures
    (called e.erased e.in_part e.only_block e.kept e.passed e.failed)) in
    record { erased = it.did; in_part = it.part; only_block = it.only; kept = it.kept; passed = it.passed; failed = it.failed; unpowered = it.held; one_passed = it.went; one_failed = it.fell }

pub returns-in-Second : goal.returns-in-Second
returns-in-Second g c = let halves = two c.args.self.now.same_shape (g.met.A.Die.shaped c.args.self.now.a) (g.met.B.Die.shaped c.args.self.now.b) in let e = c.erase-in-Second.ensures in
    let it = erased c.args.block (call_second halves (g.met.B.Die.shaped c.erase-in-Second.new.self) c.in-Second.ensures
    (called e.erased e.in_part e.only_block e.kept e.passed e.failed)) in
    record { erased = it.did; in_part = it.part; only_block = it.only; kept = it.kept; passed = it.passed; failed = it.failed; unpowered = it.held; one_passed = it.went; one_failed = it.fell }
