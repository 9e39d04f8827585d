-- Each arm gives the text of its reply.
use Rattle.std.proofs.Common.{◌∙◌, ap, codes}
use Rattle.rssd_script.specs.Replies.{reply_text}
use Rattle.rssd_script.specs.Text.{hex_or_dash}
use Rattle.rssd_script.proofs.Steps.{put_first}
use Rattle.rssd_script.proofs.print.put_reply.Goals as goal

pub returns-in-Bytes-clause-items : goal.returns-in-Bytes-clause-items
unfolding reply_text
returns-in-Bytes-clause-items c =
    rw c.in-Bytes.is (put_first c.args.text.now.items c.put_hex_or_dash.new.text.items _ c.requires c.put_hex_or_dash.ensures.items ∙ ap hex_or_dash c.as_slice.ensures.value)

pub returns-in-Moves-clause-items : goal.returns-in-Moves-clause-items
unfolding reply_text
returns-in-Moves-clause-items c = rw c.in-Moves.is c.put_numbered.ensures.items

pub returns-in-First-clause-items : goal.returns-in-First-clause-items
unfolding reply_text
returns-in-First-clause-items c = rw c.in-First.is (put_first c.args.text.now.items c.put.new.text.items (codes "first") c.requires c.put.ensures.items)

pub returns-in-Second-clause-items : goal.returns-in-Second-clause-items
unfolding reply_text
returns-in-Second-clause-items c = rw c.in-Second.is (put_first c.args.text.now.items c.put-in-Second.new.text.items (codes "second") c.requires c.put-in-Second.ensures.items)

pub returns-in-Declined-clause-items : goal.returns-in-Declined-clause-items
unfolding reply_text
returns-in-Declined-clause-items c = rw c.in-Declined.is (put_first c.args.text.now.items c.put-in-Declined.new.text.items (codes "declined") c.requires c.put-in-Declined.ensures.items)

pub returns-in-Done-clause-items : goal.returns-in-Done-clause-items
unfolding reply_text
returns-in-Done-clause-items c = rw c.in-Done.is (put_first c.args.text.now.items c.put-in-Done.new.text.items (codes "ok") c.requires c.put-in-Done.ensures.items)

pub returns-in-Range-clause-items : goal.returns-in-Range-clause-items
unfolding reply_text
returns-in-Range-clause-items c = rw c.in-Range.is (put_first c.args.text.now.items c.put-in-Range.new.text.items (codes "range") c.requires c.put-in-Range.ensures.items)

pub returns-in-Long-clause-items : goal.returns-in-Long-clause-items
unfolding reply_text
returns-in-Long-clause-items c = rw c.in-Long.is (put_first c.args.text.now.items c.put-in-Long.new.text.items (codes "long") c.requires c.put-in-Long.ensures.items)

pub returns-in-Off-clause-items : goal.returns-in-Off-clause-items
unfolding reply_text
returns-in-Off-clause-items c = rw c.in-Off.is (put_first c.args.text.now.items c.put-in-Off.new.text.items (codes "off") c.requires c.put-in-Off.ensures.items)

pub returns-in-Fault-clause-items : goal.returns-in-Fault-clause-items
unfolding reply_text
returns-in-Fault-clause-items c = rw c.in-Fault.is (put_first c.args.text.now.items c.put-in-Fault.new.text.items (codes "fault") c.requires c.put-in-Fault.ensures.items)

pub returns-in-Spent-clause-items : goal.returns-in-Spent-clause-items
unfolding reply_text
returns-in-Spent-clause-items c = rw c.in-Spent.is (put_first c.args.text.now.items c.put-in-Spent.new.text.items (codes "spent") c.requires c.put-in-Spent.ensures.items)

pub returns-in-NoSpare-clause-items : goal.returns-in-NoSpare-clause-items
unfolding reply_text
returns-in-NoSpare-clause-items c = rw c.in-NoSpare.is (put_first c.args.text.now.items c.put-in-NoSpare.new.text.items (codes "no spare") c.requires c.put-in-NoSpare.ensures.items)

pub returns-in-NoMemory-clause-items : goal.returns-in-NoMemory-clause-items
unfolding reply_text
returns-in-NoMemory-clause-items c = rw c.in-NoMemory.is (put_first c.args.text.now.items c.put-in-NoMemory.new.text.items (codes "no memory") c.requires c.put-in-NoMemory.ensures.items)
