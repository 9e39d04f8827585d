-- The cells are those of all pages.
use Rattle.std.proofs.Common.{arith}
use Rattle.die_image.specs.Image.{die_bytes}
use Rattle.die_image.proofs.reader.check_cells.Goals as goal

pub has_charged_pad-requires-clause-whole : goal.has_charged_pad-requires-clause-whole
unfolding die_bytes
has_charged_pad-requires-clause-whole c = omega (arith, c.die_bytes-die_bytes.ensures.bytes, c.if-count-die_bytes.false, c.if-die_bytes-count.false)
