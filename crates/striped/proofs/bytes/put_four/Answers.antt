-- The bytes are the lowest of the word's.
use Rattle.std.proofs.Common.{◌∙◌, arith}
use Rattle.std.proofs.lemmas.Nat.{and_mask}
use Rattle.striped.proofs.ByteLemmas.{put_cell, low_four}
use Rattle.striped.proofs.bytes.put_four.Goals as goal

pub returns-clause-bits : goal.returns-clause-bits
returns-clause-bits c =
    put_cell c.args.row.now c.copy_from_slice.new.self c.args.start _ 4 c.args.word (omega arith) (omega arith) c.requires
    (c.copy_from_slice.ensures.after ∙ c.to_le_bytes.ensures ∙ low_four c.args.word _ (and_mask c.args.word 32))
