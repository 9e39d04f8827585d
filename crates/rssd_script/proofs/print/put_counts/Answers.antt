-- The words and numbers are added one by one.
use Rattle.std.proofs.Common.{◌++◌, ap, codes, decimal, ◌∙◌}
use Rattle.rssd_script.specs.Replies.{reply_text}
use Rattle.rssd_script.proofs.Steps.{put_first}
use Rattle.rssd_script.proofs.print.put_counts.Goals as goal

pub returns-clause-items : goal.returns-clause-items
unfolding reply_text
returns-clause-items c =
    let p0 = put_first c.args.text.now.items c.put.new.text.items (codes "first ") c.requires c.put.ensures.items in
    let n0 = c.put_number.ensures.items ∙ ap (λ t. t ++ decimal c.args.first) p0 in
    let p1 = c.put-2.ensures.items ∙ ap (λ t. t ++ codes " second ") n0 in
    let n1 = c.put_number-2.ensures.items ∙ ap (λ t. t ++ decimal c.args.second) p1 in
    let p2 = c.put-3.ensures.items ∙ ap (λ t. t ++ codes " declined ") n1 in
    let n2 = c.put_number-3.ensures.items ∙ ap (λ t. t ++ decimal c.args.declined) p2 in
    let p3 = c.put-4.ensures.items ∙ ap (λ t. t ++ codes " moved ") n2 in
    let n3 = c.put_number-4.ensures.items ∙ ap (λ t. t ++ decimal c.args.moved) p3 in
    let p4 = c.put-5.ensures.items ∙ ap (λ t. t ++ codes " erased ") n3 in
    c.put_number-5.ensures.items ∙ ap (λ t. t ++ decimal c.args.erased) p4
