-- A line more is a step more of the play, and its text is given after the others.
use Rattle.std.proofs.Common.{◌≡◌, ℕ, ◌+◌, ◌++◌, ◌∷◌, [], List, length, take, ◌∙◌, refl, sym, ap, subst, arith, Result, Ok, Err, OnErr, length-take}
use Rattle.std.proofs.lemmas.List.{take_more}
use Rattle.std.proofs.lemmas.List.Elements.{All-get_or}
use Rattle.rssd_io.specs.Event.{moved, failed}
use Rattle.rssd_io.proofs.Told.{held_same, held_more}
use Rattle.rssd_script.specs.Replies.{reply_line}
use Rattle.rssd_core.specs.DeviceValue.{DeviceValue}
use Rattle.rssd_run.specs.View.{Event}
use Rattle.rssd_run.specs.Played.{IsPlayed}
use Rattle.rssd_run.specs.PlayRuns.{LeavesDie}
use Rattle.rssd_run.proofs.Plays.{CalledSo, play_of_none, play_of_more, play_cut_off, played_step}
use Rattle.rssd_run.proofs.run.playing.play_lines.Goals as goal

pub loop-line-init : goal.loop-line-init
loop-line-init g c =
    record {
      numbers = refl;
      held = held_same (g.O.Sink.written c.args.out.now) (g.O.Sink.log c.args.out.now);
      plays = λ base before stands. (before, stands, play_of_none (LeavesDie g.D.Die.state) (g.F.Device.device c.args.ftl.now).numbers before (g.O.Sink.log c.args.out.now));
    }

pub loop-line-preserved : goal.loop-line-preserved
loop-line-preserved g c =
    let log = g.O.Sink.log in
    let first : DeviceValue = g.F.Device.device c.args.ftl.now in
    let old : DeviceValue = g.F.Device.device c.loop-line.ftl in
    let new : DeviceValue = g.F.Device.device c.play_one-reply.new.ftl in
    let lines = c.args.lines.now in
    let i = c.loop-line.line-index in
    let line = c.line-item.result in
    let reply = c.play_one-reply.result in
    let more : take (i + 1) lines ≡ take i lines ++ line ∷ [] = take_more lines i line (omega arith) ∙ ap (λ item. take i lines ++ item ∷ []) (sym c.line-item.is) in
    let played : IsPlayed line = subst IsPlayed (sym c.line-item.is) (All-get_or IsPlayed lines i line (omega arith) c.requires.played) in
    let call : CalledSo line reply old new = record { played = played; plays = c.play_one-reply.ensures.plays; quiet = c.play_one-reply.ensures.quiet; kept = c.play_one-reply.ensures.kept } in
    let text : c.as_slice.result.now ≡ reply_line reply = c.as_slice.ensures ∙ c.print_reply.ensures in
    let given = subst (λ (xs : List ℕ). log c.give.new.self ≡ log c.loop-line.out ++ moved xs ∷ []) text c.in_ok-give.ensures.log in
    record {
      numbers = c.play_one-reply.ensures.numbers ∙ c.loop-line.invariant.numbers;
      held = held_more c.loop-line.invariant.held c.in_ok-give.ensures.held;
      plays = λ base before stands.
          let so = c.loop-line.invariant.plays base before stands in
          let s = played_step first.numbers base line reply old new so.0 so.1 c.play_one-reply.ensures.numbers call in
          let e : Event = record { line = line; reply = reply; before = so.0; after = s.0 } in
          let leaves : LeavesDie g.D.Die.state e = (c.play_one-reply.ensures.die.0, c.play_one-reply.ensures.die.1 ∙ sym s.3) in
          (s.0, s.1, rw more (play_of_more (LeavesDie g.D.Die.state) first.numbers before (take i lines) e (log c.args.out.now) (log c.loop-line.out) (log c.give.new.self) so.2 s.2 leaves given));
    }

on_err : {T E : Type 0} (r : Result T E) (P : Type 0) → P → OnErr r P
on_err (Ok x) P holds = tt
on_err (Err e) P holds = holds

pub returns-in_err-give-clause-err : goal.returns-in_err-give-clause-err
returns-in_err-give-clause-err g c =
    let log = g.O.Sink.log in
    let first : DeviceValue = g.F.Device.device c.args.ftl.now in
    let old : DeviceValue = g.F.Device.device c.loop-line.ftl in
    let new : DeviceValue = g.F.Device.device c.play_one-reply.new.ftl in
    let lines = c.args.lines.now in
    let i = c.loop-line.line-index in
    let line = c.line-item.result in
    let reply = c.play_one-reply.result in
    let more : take (i + 1) lines ≡ take i lines ++ line ∷ [] = take_more lines i line (omega arith) ∙ ap (λ item. take i lines ++ item ∷ []) (sym c.line-item.is) in
    let count : i ≡ length (take i lines) = omega (arith, length-take i lines) in
    let front : take i lines ++ line ∷ [] ≡ take (length (take i lines) + 1) lines = sym more ∙ ap (λ (n : ℕ). take (n + 1) lines) count in
    let played : IsPlayed line = subst IsPlayed (sym c.line-item.is) (All-get_or IsPlayed lines i line (omega arith) c.requires.played) in
    let call : CalledSo line reply old new = record { played = played; plays = c.play_one-reply.ensures.plays; quiet = c.play_one-reply.ensures.quiet; kept = c.play_one-reply.ensures.kept } in
    let text : c.as_slice.result.now ≡ reply_line reply = c.as_slice.ensures ∙ c.print_reply.ensures in
    let given = subst (λ (xs : List ℕ). log c.give.new.self ≡ log c.loop-line.out ++ moved (take c.in_err-give.ensures.log.0 xs) ∷ failed ∷ []) text c.in_err-give.ensures.log.1 in
    on_err c.from_residual.result _ (λ base before shows sound book.
    let so = c.loop-line.invariant.plays base before (record { numbers = refl; shows = shows; sound = sound; book = book }) in
    let s = played_step first.numbers base line reply old new so.0 so.1 c.play_one-reply.ensures.numbers call in
    let e : Event = record { line = line; reply = reply; before = so.0; after = s.0 } in
    let leaves : LeavesDie g.D.Die.state e = (c.play_one-reply.ensures.die.0, c.play_one-reply.ensures.die.1 ∙ sym s.3) in (
      s.0,
      play_cut_off (LeavesDie g.D.Die.state) first.numbers before (take i lines) e (log c.args.out.now) (log c.loop-line.out)
          (log c.give.new.self) so.2 s.2 leaves lines front c.in_err-give.ensures.log.0 given,
    ))

pub returns-in_err-give-clause-held : goal.returns-in_err-give-clause-held
returns-in_err-give-clause-held g c = held_more c.loop-line.invariant.held c.in_err-give.ensures.held
