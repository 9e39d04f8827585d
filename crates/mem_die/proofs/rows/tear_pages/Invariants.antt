use Rattle.std.proofs.Common.{◌<◌}
use Rattle.std.specs.List.{All}
use Rattle.mem_die.specs.Tears.{TearsPages}
use Rattle.mem_die.proofs.rows.tear_pages.Given as goal

abbrev pub invariant-loop-k : goal.invariant-loop-k
invariant-loop-k l = record {
  change : TearsPages l.torn l.size l.first l.k l.fn.bytes l.bytes;
  bytes : All (λ byte. byte < 256) l.bytes;
}
