-- The cells of an image are those of its head's die, which is within the limits.
use Rattle.std.proofs.Common.{ap, Err}
use Rattle.rssd_run.proofs.DieStart.{never_misshaped}
use Rattle.rssd_run.proofs.run.image_run.die_of.Goals as goal

pub unreachable-requires : goal.unreachable-requires
unreachable-requires c =
    never_misshaped c.args.head.now c.die_shape.result c.args.cells.items c.die_shape.ensures.shape c.die_shape.ensures.fits c.requires.whole
    (c.in-Err-Shape.ensures.shape.0 (ap Err c.in-Err-Shape.field-0-is))
