-- A sector without bytes is read without a call of the die.
use Rattle.std.proofs.Common.{rules}
use Rattle.cell_die.specs.Calls.{Passed}
use Rattle.cell_die.proofs.Sequences.{passed_none}
use Rattle.rssd_core.proofs.row.get_row.Goals as goal

pub returns-in_default-clause-passed : goal.returns-in_default-clause-passed
returns-in_default-clause-passed g c = let none : Passed 0 0 (g.D.Die.state c.args.die.now) (g.D.Die.state c.args.die.now) = passed_none (g.D.Die.state c.args.die.now) in search rules
