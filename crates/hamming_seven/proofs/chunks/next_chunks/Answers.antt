-- One more chunk: its cells stand above those of the earlier ones, which stay.
use Rattle.std.proofs.Common.{arith}
use Rattle.hamming_seven.proofs.ChunkLemmas.{more_carried, more_declined}
use Rattle.hamming_seven.proofs.chunks.next_chunks.Goals as goal

pub loop-j-preserved : goal.loop-j-preserved
loop-j-preserved c = record {
  carried =
      more_carried c.args.cells c.args.messages c.loop-j.j c.loop-j.new c.loop-j.any c.next_chunk-next.result (omega arith) c.loop-j.invariant.carried
      (λ below. record { carries = c.next_chunk-next.ensures.carried below; first = c.next_chunk-next.ensures.given below });
  declined =
      more_declined c.args.cells c.args.messages c.loop-j.j c.loop-j.any c.next_chunk-next.result c.next_chunk-next.ensures.small c.loop-j.invariant.declined c.next_chunk-next.ensures.declined;
}
