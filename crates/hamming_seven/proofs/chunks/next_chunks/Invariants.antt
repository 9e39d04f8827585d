-- While no chunk has declined, the chunks so far carry their messages; and else one of them declines.
use Rattle.std.proofs.Common.{◌<◌, ◌≤◌}
use Rattle.hamming_seven.proofs.ChunkLemmas.{IsCarried, OneDeclines}
use Rattle.hamming_seven.proofs.chunks.next_chunks.Given as goal

abbrev pub invariant-loop-j : goal.invariant-loop-j
invariant-loop-j l = record {
  carried : l.any < 128 → IsCarried l.cells l.messages l.j l.new;
  declined : 128 ≤ l.any → OneDeclines l.cells l.messages l.j;
}
