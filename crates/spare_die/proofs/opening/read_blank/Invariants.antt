use Rattle.std.proofs.Common.{◌≡◌, ◌≤◌, ◌<◌, ◌*◌, ℕ, length}
use Rattle.cell_die.specs.Cells.{blank_page}
use Rattle.cell_die.specs.DieState.{page_of, page_bytes}
use Rattle.spare_die.specs.Opening.{OnlyReads}
use Rattle.spare_die.proofs.opening.read_blank.Given as goal

abbrev pub invariant-loop-page : goal.invariant-loop-page
invariant-loop-page g l = record {
  blank : (page : ℕ) → l.fn.block * (g.D.WornDie.state l.fn.die).shape.pages ≤ page → page < l.page
      → page_of (g.D.WornDie.state l.fn.die) page ≡ blank_page (page_bytes (g.D.WornDie.state l.fn.die).shape);
  reads : OnlyReads (g.D.WornDie.state l.fn.die) (g.D.WornDie.state l.die);
  row : length l.row ≡ page_bytes (g.D.WornDie.state l.fn.die).shape;
}
