-- The sector was added as often as the loop has gone round.
use Rattle.std.proofs.Common.{◌≡◌, ◌++◌}
use Rattle.std.specs.Prelude.{replicate}
use Rattle.lab_lines.proofs.zipf.push_times.Given as goal

abbrev pub invariant-loop : goal.invariant-loop
invariant-loop l = l.table.items ≡ l.fn.table.items ++ replicate l.counter l.sector
