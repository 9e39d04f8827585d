-- No round changes what the scheme means.
use Rattle.std.proofs.Common.{◌≡◌}
use Rattle.bench_kernels.proofs.sectors.written_units.Given as goal

abbrev pub invariant-loop-page : goal.invariant-loop-page
invariant-loop-page g l = record { same : g.C.Scheme.meaning l.scheme ≡ g.C.Scheme.meaning l.fn.scheme }
