-- The table has the rows of the sectors so far.
use Rattle.std.proofs.Common.{◌≡◌}
use Rattle.lab_lines.specs.Workload.{zipf_rows}
use Rattle.lab_lines.proofs.zipf.zipf_table.Given as goal

abbrev pub invariant-loop-sector : goal.invariant-loop-sector
invariant-loop-sector l = l.table.items ≡ zipf_rows l.sectors l.sector
