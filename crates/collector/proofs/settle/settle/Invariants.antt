-- The moves so far are named, and counted in the Spare.
use Rattle.std.proofs.Common.{◌≡◌, length}
use Rattle.block_state.specs.declared.state.State.TheVariants.{Active}
use Rattle.block_state.specs.Book.{with_state, with_live}
use Rattle.collector.specs.Settles.{NamesMoves}
use Rattle.collector.proofs.settle.settle.Given as goal

abbrev pub invariant-loop-i : goal.invariant-loop-i
invariant-loop-i l = record {
  book : l.book ≡ with_live (with_state l.fn.book l.spare (Active l.fill)) l.spare l.i;
  map : NamesMoves l.first l.moves l.i l.fn.map l.map;
  fill : l.fill ≡ length l.moves;
}
