-- The lines so far and those to come are the lines of the seed.
use Rattle.std.proofs.Common.{◌≡◌, ◌-◌, ◌++◌}
use Rattle.rssd_work.specs.Workload.{workload_from}
use Rattle.rssd_work.proofs.workload.make.Given as goal

abbrev pub invariant-loop : goal.invariant-loop
invariant-loop l =
    l.lines.items ++ workload_from (l.count - l.counter) l.sectors l.sector_bytes l.words
    ≡ workload_from l.count l.sectors l.sector_bytes l.seed
