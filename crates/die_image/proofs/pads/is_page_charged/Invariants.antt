-- No byte of the page below the slot has a charged pad cell.
use Rattle.std.proofs.Common.{◌+◌, ◌*◌}
use Rattle.die_image.specs.Schemes.{row_of}
use Rattle.die_image.proofs.PagePads.{IsCleanBelow}
use Rattle.die_image.proofs.pads.is_page_charged.Given as goal

abbrev pub invariant-loop-slot : goal.invariant-loop-slot
invariant-loop-slot l =
    IsCleanBelow l.head.blocks l.head.pages (row_of l.head.scheme).page_bytes (row_of l.head.scheme).generations l.cells l.page ((row_of l.head.scheme).page_bytes + 16 * l.slot)
