-- What is known of all marks is what the live records are.
use Rattle.std.proofs.Common.{◌≡◌, List, Vec, Global, take, sym, subst, arith}
use Rattle.std.specs.HashMap.{values}
use Rattle.std.proofs.lemmas.List.{take_all}
use Rattle.std.proofs.lemmas.Result.{IfOk-weaker}
use Rattle.image_audit.specs.declared.mark.Mark.{Mark}
use Rattle.image_audit.specs.Live.{Knows}
use Rattle.image_audit.specs.Marks.{AreLive}
use Rattle.image_audit.proofs.LiveLemmas.{knows_nothing}
use Rattle.image_audit.proofs.LiveEntries.{live_from_known}
use Rattle.image_audit.proofs.live.live_records.Goals as goal

pub loop-mark-init : goal.loop-mark-init
loop-mark-init c = knows_nothing c.new-live.result c.new-live.ensures.empty c.new-live.ensures.unique

pub returns : goal.returns
returns c =
    let all : take c.loop-mark.mark-index c.args.marks.now ≡ c.args.marks.now = take_all c.loop-mark.mark-index c.args.marks.now (omega arith) in
    let live : AreLive c.args.marks.now (values c.loop-mark.live) =
    live_from_known c.args.marks.now c.loop-mark.live (subst (λ (marks : List Mark). Knows marks c.loop-mark.live) all c.loop-mark.invariant) in
    IfOk-weaker c.values_of.result (λ (list : Vec Mark Global). list.items ≡ values c.loop-mark.live) (λ (list : Vec Mark Global). AreLive c.args.marks.now list.items)
    (λ list e. subst (AreLive c.args.marks.now) (sym e) live) c.values_of.ensures
