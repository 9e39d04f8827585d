-- The word, then the sixteen digits of the mask.
use Rattle.std.proofs.Common.{◌++◌, append_assoc, codes, ◌∙◌}
use Rattle.std.specs.Int.{w64, to_be_bytes}
use Rattle.rssd_script.specs.Text.{hex_of}
use Rattle.rssd_script.proofs.print.put_torn.Goals as goal

pub returns-in-Mask-clause-items : goal.returns-in-Mask-clause-items
returns-in-Mask-clause-items c =
    rw c.in-Mask.is
    (c.put_hex.ensures.items ∙ (λ i. c.put-in-Mask.ensures.items i ++ hex_of (c.to_be_bytes.ensures i))
    ∙ append_assoc c.args.text.now.items (codes "mask:") (hex_of (to_be_bytes w64 c.in-Mask.mask)))
