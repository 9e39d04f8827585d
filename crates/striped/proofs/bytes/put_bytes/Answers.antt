-- The bytes are the first of the word's.
use Rattle.std.proofs.Common.{◌∙◌, ap, take, arith}
use Rattle.striped.proofs.ByteLemmas.{put_cell}
use Rattle.striped.proofs.bytes.put_bytes.Goals as goal

pub returns-clause-bits : goal.returns-clause-bits
returns-clause-bits c =
    put_cell c.args.row.now c.copy_from_slice.new.self c.args.start _ c.args.count c.args.word (omega arith) c.requires.few c.requires.within
    (c.copy_from_slice.ensures.after ∙ ap (take c.args.count) c.to_le_bytes.ensures)
