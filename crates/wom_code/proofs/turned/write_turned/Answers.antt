-- Two rows of one length with the same cells are one.
use Rattle.std.proofs.Common.{false, arith}
use Rattle.std.proofs.lemmas.List.{ext_get_or}
use Rattle.wom_code.specs.Turned.{turned_by}
use Rattle.wom_code.proofs.TurnedLemmas.{length-turned}
use Rattle.wom_code.proofs.turned.write_turned.Goals as goal

pub returns : goal.returns
returns c = ext_get_or false c.loop-cell.out (turned_by c.args.turned c.args.bits.now) (omega (arith, length-turned c.args.turned c.args.bits.now)) (λ i h. c.loop-cell.invariant i (omega arith))
