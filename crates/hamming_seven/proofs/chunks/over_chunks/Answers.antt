-- Over blank cells each chunk has its first word.
use Rattle.std.proofs.Common.{◌*◌}
use Rattle.cell_bits.proofs.PieceLemmas.{masked_narrow}
use Rattle.hamming_seven.proofs.ChunkLemmas.{blank_given}
use Rattle.hamming_seven.proofs.chunks.over_chunks.Goals as goal

pub returns-then-cells-eq0-clause-carried : goal.returns-then-cells-eq0-clause-carried
returns-then-cells-eq0-clause-carried c = λ j h.
    (blank_given c.args.count c.args.cells c.args.messages c.first_chunks.result c.ones.result c.if-cells-eq0.true c.first_chunks.ensures c.requires.few c.ones.ensures j h).carries

pub returns-then-cells-eq0-clause-given : goal.returns-then-cells-eq0-clause-given
returns-then-cells-eq0-clause-given c = λ j h.
    (blank_given c.args.count c.args.cells c.args.messages c.first_chunks.result c.ones.result c.if-cells-eq0.true c.first_chunks.ensures c.requires.few c.ones.ensures j h).first

pub returns-then-cells-eq0-clause-narrow : goal.returns-then-cells-eq0-clause-narrow
returns-then-cells-eq0-clause-narrow c = masked_narrow c.first_chunks.result (c.args.count * 7) c.ones.result c.ones.ensures
