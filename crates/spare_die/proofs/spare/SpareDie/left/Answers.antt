-- Not more reserve blocks were named than there are.
use Rattle.std.proofs.Common.{ap, arith}
use Rattle.cell_die.specs.declared.shape.Shape.{Shape}
use Rattle.spare_die.proofs.spare.SpareDie.left.Goals as goal

pub overflow_sub-result-2 : goal.overflow_sub-result-2
overflow_sub-result-2 g c = omega (arith, c.args.self.now.orderly.room, ap (λ (shape : Shape). shape.blocks) c.shape.ensures)

pub overflow_sub-result-3 : goal.overflow_sub-result-3
overflow_sub-result-3 g c = omega (arith, c.args.self.now.orderly.room, ap (λ (shape : Shape). shape.blocks) c.shape.ensures)
