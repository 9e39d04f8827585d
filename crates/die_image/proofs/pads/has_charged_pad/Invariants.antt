-- No byte of the pages before this one has a charged pad cell.
use Rattle.std.proofs.Common.{◌≡◌, ℕ, ◌*◌, ◌<◌, false, get_or}
use Rattle.cell_die.specs.DieState.{page_bytes}
use Rattle.die_image.specs.Image.{shape_of}
use Rattle.die_image.specs.Pads.{is_pad_charged_in}
use Rattle.die_image.proofs.pads.has_charged_pad.Given as goal

abbrev pub invariant-loop-page : goal.invariant-loop-page
invariant-loop-page l = (i : ℕ) → i < l.page * page_bytes (shape_of l.head) → is_pad_charged_in (shape_of l.head) i (get_or l.cells i 0) ≡ false
