-- No page so far has a record that the map names, and reads change no cell.
use Rattle.std.proofs.Common.{◌≡◌}
use Rattle.collector.proofs.Search.{Searched}
use Rattle.collector.proofs.live.find_first.Given as goal

abbrev pub invariant-loop-page : goal.invariant-loop-page
invariant-loop-page g l = record {
  searched : Searched l.map l.fn.work (g.D.Die.state l.fn.die) (g.D.Die.state l.die) l.from l.page;
  same_work : l.work ≡ l.fn.work;
  same_map : l.map ≡ l.fn.map;
}
