-- So many records were moved, and the store goes on.
use Rattle.std.proofs.Common.{◌≡◌, false}
use Rattle.cell_die.specs.Counts.{count_sum}
use Rattle.rssd_core.specs.Held.{Keeps}
use Rattle.rssd_core.specs.Idle.{MovesRun}
use Rattle.rssd_core.proofs.store.Store.move_records.Given as goal

abbrev pub invariant-loop-count : goal.invariant-loop-count
invariant-loop-count g l = record {
  run : MovesRun l.fn.self.geometry (g.C.Scheme.meaning l.fn.self.scheme).decoding l.count l.fn.self.cells l.self.cells;
  keeps : Keeps g.C.Scheme.meaning l.fn.self l.self;
  tally : l.self.moved ≡ count_sum l.fn.self.moved l.count;
  running : l.self.stopped ≡ false;
}
