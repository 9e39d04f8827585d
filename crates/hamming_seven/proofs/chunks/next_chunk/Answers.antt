-- The table's entry for the chunk's cells and message.
use Rattle.hamming_seven.proofs.ChunkLemmas.{next_given, next_declined, next_small}
use Rattle.hamming_seven.proofs.chunks.next_chunk.Goals as goal

pub returns-clause-carried : goal.returns-clause-carried
returns-clause-carried c = λ below. (next_given c.args.cells c.args.messages c.args.j below).carries

pub returns-clause-given : goal.returns-clause-given
returns-clause-given c = λ below. (next_given c.args.cells c.args.messages c.args.j below).first

pub returns-clause-declined : goal.returns-clause-declined
returns-clause-declined c = next_declined c.args.cells c.args.messages c.args.j

pub returns-clause-small : goal.returns-clause-small
returns-clause-small c = next_small c.args.cells c.args.messages c.args.j
