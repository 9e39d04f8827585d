-- No round changes what the scheme means.
use Rattle.std.proofs.Common.{◌≡◌}
use Rattle.bench_kernels.proofs.sectors.over_rounds.Given as goal

abbrev pub invariant-loop-round : goal.invariant-loop-round
invariant-loop-round g l = record { same : g.C.Scheme.meaning l.scheme ≡ g.C.Scheme.meaning l.fn.scheme }

abbrev pub invariant-loop-sector : goal.invariant-loop-sector
invariant-loop-sector g l = record { same : g.C.Scheme.meaning l.scheme ≡ g.C.Scheme.meaning l.fn.scheme }
