-- The eight bytes are those of the word.
use Rattle.std.proofs.Common.{◌∙◌, arith}
use Rattle.cell_bits.proofs.WordLemmas.{put_bit}
use Rattle.cell_bits.proofs.words.put_word.Goals as goal

pub returns-clause-bits : goal.returns-clause-bits
returns-clause-bits c = put_bit c.args.row.now c.copy_from_slice.new.self c.args.start _ c.args.word (omega arith) c.requires (c.copy_from_slice.ensures.after ∙ c.to_le_bytes.ensures)
