-- The lines so far are a run, and with those to come they are the workload.
use Rattle.std.proofs.Common.{◌≡◌, ◌-◌, ◌++◌, List}
use Rattle.rssd_core.specs.DeviceValue.{Numbers}
use Rattle.rssd_script.specs.declared.lines.Line.{Line}
use Rattle.rssd_work.specs.Workload.{workload_from}
use Rattle.rssd_run.specs.View.{View}
use Rattle.rssd_run.specs.Workloads.{IsCalmAt, RunsLines}
use Rattle.rssd_run.proofs.run.workload.step_workload.Given as goal

abbrev pub invariant-loop : goal.invariant-loop
invariant-loop g l = (d : Numbers) (before : View) → IsCalmAt d (g.S.Stepping.session l.fn.session) before
    → (now : View) × IsCalmAt d (g.S.Stepping.session l.session) now
    × ((lines : List Line) × RunsLines d before lines now
    × (lines ++ workload_from (l.fn.seeded.count - l.counter) l.sectors l.sector_bytes l.state ≡ workload_from l.fn.seeded.count l.sectors l.sector_bytes l.fn.seeded.seed))
