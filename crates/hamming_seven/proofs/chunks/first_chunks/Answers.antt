-- Chunk t is chunk t mod 4 of the four from 4 * (t / 4) on.
use Rattle.hamming_seven.proofs.ChunkLemmas.{joined_fours}
use Rattle.hamming_seven.proofs.chunks.first_chunks.Goals as goal

pub returns : goal.returns
returns c = λ t h.
    joined_fours c.args.messages c.first_four.result c.first_four-2.result c.first_four-3.result t h
    c.first_four.ensures.first c.first_four-2.ensures.first c.first_four-3.ensures.first
    c.first_four.ensures.narrow c.first_four-2.ensures.narrow c.first_four-3.ensures.narrow
