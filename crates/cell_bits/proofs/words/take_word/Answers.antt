-- The number that eight bytes make has their bits.
use Rattle.cell_bits.proofs.WordLemmas.{taken_word}
use Rattle.cell_bits.proofs.words.take_word.Goals as goal

pub returns : goal.returns
returns c = taken_word c.args.row.now c.args.start c.from_le_bytes.result (λ k. (c.type_inv.row k).fits) c.from_le_bytes.ensures
