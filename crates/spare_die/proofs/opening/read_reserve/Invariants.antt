use Rattle.std.proofs.Common.{◌≡◌, length}
use Rattle.cell_die.specs.DieState.{page_bytes}
use Rattle.spare_die.specs.Opening.{SparesUpTo, OnlyReads}
use Rattle.spare_die.proofs.opening.read_reserve.Given as goal

abbrev pub invariant-loop-block : goal.invariant-loop-block
invariant-loop-block g l = record {
  spares : SparesUpTo (g.D.WornDie.state l.fn.die) l.fn.logical l.block;
  reads : OnlyReads (g.D.WornDie.state l.fn.die) (g.D.WornDie.state l.die);
  row : length l.row ≡ page_bytes (g.D.WornDie.state l.fn.die).shape;
}
