-- Each arm adds the parts of its line in their order.
use Rattle.std.proofs.Common.{◌++◌, ◌∷◌, [], codes, decimal, ◌∙◌, append_assoc}
use Rattle.rssd_script.specs.Script.{line_text, torn_text}
use Rattle.rssd_script.specs.Text.{hex_or_dash}
use Rattle.rssd_script.proofs.Steps.{put_first}
use Rattle.rssd_script.proofs.print.put_line.Goals as goal

pub returns-in-Write-clause-items : goal.returns-in-Write-clause-items
unfolding line_text
returns-in-Write-clause-items c =
    rw c.in-Write.is
    (c.put_hex_or_dash.ensures.items ∙ (λ i. c.put.ensures.items i ++ hex_or_dash (c.as_slice.ensures.value i))
    ∙ (λ i. (c.put_numbered.ensures.items i ++ 32 ∷ []) ++ hex_or_dash c.in-Write.bytes)
    ∙ append_assoc (codes "write " ++ decimal c.in-Write.sector) (32 ∷ []) (hex_or_dash c.in-Write.bytes))

pub returns-in-Cut-clause-items : goal.returns-in-Cut-clause-items
unfolding line_text
returns-in-Cut-clause-items c =
    rw c.in-Cut.is
    (c.put_torn.ensures.items ∙ (λ i. c.put-in-Cut.ensures.items i ++ torn_text c.in-Cut.torn)
    ∙ (λ i. (c.put_numbered-in-Cut.ensures.items i ++ 32 ∷ []) ++ torn_text c.in-Cut.torn)
    ∙ append_assoc (codes "cut " ++ decimal c.in-Cut.n) (32 ∷ []) (torn_text c.in-Cut.torn))

pub returns-in-Read-clause-items : goal.returns-in-Read-clause-items
unfolding line_text
returns-in-Read-clause-items c = rw c.in-Read.is c.put_numbered-in-Read.ensures.items

pub returns-in-Trim-clause-items : goal.returns-in-Trim-clause-items
unfolding line_text
returns-in-Trim-clause-items c = rw c.in-Trim.is c.put_numbered-in-Trim.ensures.items

pub returns-in-Idle-clause-items : goal.returns-in-Idle-clause-items
unfolding line_text
returns-in-Idle-clause-items c = rw c.in-Idle.is c.put_numbered-in-Idle.ensures.items

pub returns-in-FailRead-clause-items : goal.returns-in-FailRead-clause-items
unfolding line_text
returns-in-FailRead-clause-items c = rw c.in-FailRead.is c.put_numbered-in-FailRead.ensures.items

pub returns-in-Mount-clause-items : goal.returns-in-Mount-clause-items
unfolding line_text
returns-in-Mount-clause-items c = rw c.in-Mount.is (put_first c.args.text.now.items c.put-in-Mount.new.text.items (codes "mount") c.requires.empty c.put-in-Mount.ensures.items)

pub returns-in-Stat-clause-items : goal.returns-in-Stat-clause-items
unfolding line_text
returns-in-Stat-clause-items c = rw c.in-Stat.is (put_first c.args.text.now.items c.put-in-Stat.new.text.items (codes "stat") c.requires.empty c.put-in-Stat.ensures.items)
