-- What the sectors so far hold is told.
use Rattle.std.proofs.Common.{◌≡◌, ◌*◌, ◌≤◌, ℕ, List, length, take}
use Rattle.rssd_core.specs.DeviceValue.{Numbers}
use Rattle.rssd_run.specs.Workloads.{HasRows, held_count, byte_sum}
use Rattle.rssd_run.proofs.run.workload.read_held.Given as goal

abbrev pub invariant-loop-sector : goal.invariant-loop-sector
invariant-loop-sector g l = record {
  few : l.held.count ≤ l.sector;
  small : l.held.sum ≤ 130_560 * l.sector;
  rows : (d : Numbers) (rows : List (List ℕ)) → HasRows d (g.S.Stepping.session l.fn.session) rows → length rows ≡ l.sectors
      → HasRows d (g.S.Stepping.session l.session) rows × (l.held.count ≡ held_count (take l.sector rows)) × (l.held.sum ≡ byte_sum (take l.sector rows));
}
