-- The lines are those that the order names.
use Rattle.std.proofs.Common.{◌≡◌, inl, true, refl, sym, subst}
use Rattle.lab_words.specs.declared.asked.LinesFrom.{LinesFrom}
use Rattle.die_image.specs.declared.head.ImageHead.{ImageHead}
use Rattle.die_image.specs.Image.{is_within_limits}
use Rattle.rssd_run.specs.Statuses.{input, output}
use Rattle.rssd_lab.specs.declared.status.Status.TheVariants.{OutOfMemory}
use Rattle.rssd_lab.specs.Stages.{StartOn, EndOn, head_on}
use Rattle.rssd_lab.specs.Ends.{PlaysAllOf, StopsOf}
use Rattle.rssd_lab.proofs.Ends.{where_ok, where_err, order_halts, drawn_for, drawn_order_plays, drawn_order_halts}
use Rattle.rssd_lab.proofs.Starts.{stage_within}
use Rattle.rssd_lab.proofs.top.play_order.Goals as goal

pub returns-in-Stream-clause-all : goal.returns-in-Stream-clause-all
returns-in-Stream-clause-all g c =
    let telling = c.telling_of-telling.result in
    let stage = c.args.stage in
    let read = input (g.I.Source.log c.args.input) (g.I.Source.log c.play_input.result.1) in
    let out = output (g.O.Sink.log c.args.out.now) (g.O.Sink.log c.play_input.new.out) in
    where_ok c.play_input.result.0 (λ left plays. (
      telling,
      c.telling_of-telling.ensures,
      subst (λ (from : LinesFrom). PlaysAllOf from telling (head_on stage) (StartOn stage) (EndOn stage left) read out) (sym c.in-Stream.is) plays,
    )) c.play_input.ensures.all

pub returns-in-Stream-clause-halts : goal.returns-in-Stream-clause-halts
returns-in-Stream-clause-halts g c =
    let telling = c.telling_of-telling.result in
    let read = input (g.I.Source.log c.args.input) (g.I.Source.log c.play_input.result.1) in
    let out = output (g.O.Sink.log c.args.out.now) (g.O.Sink.log c.play_input.new.out) in
    where_err c.play_input.result.0 (λ halt halts. (
      telling,
      c.telling_of-telling.ensures,
      order_halts c.args.asked.now.from c.in-Stream.is telling c.args.stage read out halt halts,
    )) c.play_input.ensures.halts

pub returns-in-Ok-clause-all : goal.returns-in-Ok-clause-all
returns-in-Ok-clause-all g c =
    let telling = c.telling_of-telling.result in
    let stage = c.args.stage in
    let read = input (g.I.Source.log c.args.input) (g.I.Source.log c.args.input) in
    let out = output (g.O.Sink.log c.args.out.now) (g.O.Sink.log c.play_drawn-played.new.out) in
    let of_order = drawn_for c.in-Ok.drawn c.in-Drawn.is c.requires.within.from c.in-Ok.ensures.plan c.in-Ok.ensures.state c.in-Ok.ensures.left c.plan_of.ensures.is c.head.ensures in
    where_ok c.play_drawn-played.result (λ left plays. (
      telling,
      c.telling_of-telling.ensures,
      drawn_order_plays stage of_order telling (EndOn stage left) read out refl (plays of_order.seed of_order.state of_order.few),
    )) c.play_drawn-played.ensures.all

pub returns-in-Ok-clause-halts : goal.returns-in-Ok-clause-halts
returns-in-Ok-clause-halts g c =
    let telling = c.telling_of-telling.result in
    let read = input (g.I.Source.log c.args.input) (g.I.Source.log c.args.input) in
    let out = output (g.O.Sink.log c.args.out.now) (g.O.Sink.log c.play_drawn-played.new.out) in
    let of_order = drawn_for c.in-Ok.drawn c.in-Drawn.is c.requires.within.from c.in-Ok.ensures.plan c.in-Ok.ensures.state c.in-Ok.ensures.left c.plan_of.ensures.is c.head.ensures in
    where_err c.play_drawn-played.result (λ halt halts. (
      telling,
      c.telling_of-telling.ensures,
      drawn_order_halts c.args.stage of_order telling read out refl halt (halts of_order.seed of_order.state of_order.few),
    )) c.play_drawn-played.ensures.halts

pub returns-in-Err-clause-halts : goal.returns-in-Err-clause-halts
returns-in-Err-clause-halts g c =
    let telling = c.telling_of-telling.result in
    let stage = c.args.stage in
    let read = input (g.I.Source.log c.args.input) (g.I.Source.log c.args.input) in
    let out = output (g.O.Sink.log c.args.out.now) (g.O.Sink.log c.args.out.now) in (
      telling,
      c.telling_of-telling.ensures,
      subst (λ (from : LinesFrom). StopsOf from telling (head_on stage) (StartOn stage) read out OutOfMemory) (sym c.in-Drawn.is) (inl refl, refl),
    )

pub plan_of-requires : goal.plan_of-requires
plan_of-requires g c = subst (λ (h : ImageHead). is_within_limits h ≡ true) (sym c.head.ensures) (stage_within c.args.stage c.requires.stage)
