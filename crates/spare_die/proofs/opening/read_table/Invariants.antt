use Rattle.std.proofs.Common.{◌≡◌, length}
use Rattle.cell_die.specs.DieState.{page_bytes}
use Rattle.spare_die.specs.Opening.{Told, OnlyReads}
use Rattle.spare_die.proofs.opening.read_table.Given as goal

abbrev pub invariant-loop-page : goal.invariant-loop-page
invariant-loop-page g l = record {
  told : Told (g.D.WornDie.state l.fn.die) l.fn.logical l.page l.opening;
  reads : OnlyReads (g.D.WornDie.state l.fn.die) (g.D.WornDie.state l.die);
  row : length l.row ≡ page_bytes (g.D.WornDie.state l.fn.die).shape;
}
