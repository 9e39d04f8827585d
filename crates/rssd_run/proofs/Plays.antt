-- Plays grow by one step at their end, and what holds of each step of one may be read off it.
use Rattle.std.proofs.Common.{◌≡◌, inl, inr, ℕ, ◌+◌, Bool, true, false, List, [], ◌∷◌, ◌++◌, All, length, take, suc, refl, sym, ap, subst, ◌∙◌, append_assoc}
use Rattle.std.proofs.lemmas.List.{append-nil}
use Rattle.std.proofs.lemmas.List.Elements.{All-nil, All-push}
use Rattle.cell_die.specs.DieState.{DieState}
use Rattle.cell_die.specs.Calls.{Kept, IsQuiet}
use Rattle.page_codec.specs.Sound.{IsSound}
use Rattle.page_codec.specs.TrueBook.{IsTrueBook, live_map}
use Rattle.rssd_core.specs.DeviceValue.{Numbers, DeviceView, DeviceValue}
use Rattle.rssd_core.specs.Outcomes.{TrueWhileRunning}
use Rattle.rssd_io.specs.Event.{Event as Act, moved, failed}
use Rattle.rssd_io.specs.Pieces.{all_given}
use Rattle.rssd_io.proofs.Logs.{given_append}
use Rattle.rssd_script.specs.declared.lines.Line.{Line}
use Rattle.rssd_script.specs.declared.replies.Reply.{Reply}
use Rattle.rssd_script.specs.Replies.{reply_line}
use Rattle.rssd_run.specs.ArrayWithCuts.{ArrayState}
use Rattle.rssd_run.specs.View.{View, Event, IsOn}
use Rattle.rssd_run.specs.Held.{Tallies}
use Rattle.rssd_run.specs.Steps.{ArrayIs}
use Rattle.rssd_run.specs.Shows.{Mounted, ShowsHolding}
use Rattle.rssd_run.specs.Run.{lines_of, pieces_of}
use Rattle.rssd_run.specs.Played.{IsPlayed, IsPlayedStep, Plays, PlaysQuiet}
use Rattle.rssd_run.specs.Statuses.{Input, Output}
use Rattle.rssd_run.specs.Top.{HasLines, SaysPlay}
use Rattle.rssd_run.specs.PlayRuns.{IsPlaying, IsPlay, PlayOf, PlayCutOff, EndsPlay}
use Rattle.rssd_run.specs.declared.status.Status.{Status}
use Rattle.rssd_run.specs.declared.status.Status.TheVariants.{Done, BadWords, BadScript, BadImage, ReadFault, WriteFault, OutOfMemory, Unsound}
use Rattle.rssd_run.proofs.Runs.{lines_more, pieces_more}

play_none : (d : Numbers) (view : View) → IsPlay d view [] view
unfolding IsPlay
play_none d view = refl

play_more : (d : Numbers) (before : View) (events : List Event) (now : View) (e : Event) → IsPlay d before events now → e.before ≡ now → IsPlaying d e → IsPlay d before (events ++ e ∷ []) e.after
unfolding IsPlay
play_more d before [] now e play begins step = (begins ∙ play, step, refl)
play_more d before (first ∷ events) now e play begins step = (play.0, play.1, play_more d first.after events now e play.2 begins step)

length_lines : (events : List Event) → length (lines_of events) ≡ length events
length_lines [] = refl
length_lines (e ∷ events) = ap (λ n. suc n) (length_lines events)

pub play_of_none : (P : Event → Type 0) (d : Numbers) (view : View) (log : List Act) → PlayOf P d view [] view log log
play_of_none P d view log = record { events = []; play = play_none d view; each = All-nil P; of_lines = refl; given = sym (append-nil log) }

module _ (P : Event → Type 0) (d : Numbers) (before : View) (lines : List Line) (e : Event) (log between log_after : List Act) (r : PlayOf P d before lines e.before log between)
    (step : IsPlaying d e) (holds : P e) where
  -- one line more, whose text was given
  pub play_of_more : log_after ≡ between ++ moved (reply_line e.reply) ∷ [] → PlayOf P d before (lines ++ e.line ∷ []) e.after log log_after
  play_of_more given = record {
    events = r.events ++ e ∷ [];
    play = play_more d before r.events e.before e r.play refl step;
    each = All-push P r.events e r.each holds;
    of_lines = lines_more r.events e ∙ ap (λ ls. ls ++ e.line ∷ []) r.of_lines;
    given = given ∙ (ap (λ (xs : List Act). xs ++ moved (reply_line e.reply) ∷ []) r.given ∙ (append_assoc log (all_given (pieces_of r.events)) (moved (reply_line e.reply) ∷ [])
        ∙ ap (λ (xs : List Act). log ++ xs) (sym (ap all_given (pieces_more r.events e) ∙ given_append (pieces_of r.events) (reply_line e.reply ∷ [])))));
  }

  -- one line more, of whose text a front was given
  pub play_cut_off : (all : List Line) → lines ++ e.line ∷ [] ≡ take (length lines + 1) all → (front : ℕ) → log_after ≡ between ++ moved (take front (reply_line e.reply)) ∷ failed ∷ []
      → PlayCutOff P d before all e.after log log_after
  play_cut_off all front_is front given = record {
    events = r.events;
    last = e;
    play = play_more d before r.events e.before e r.play refl step;
    each = All-push P r.events e r.each holds;
    of_lines = lines_more r.events e ∙ (ap (λ ls. ls ++ e.line ∷ []) r.of_lines ∙ (front_is ∙ ap (λ n. take (n + 1) all) (ap length (sym r.of_lines) ∙ length_lines r.events)));
    front = front;
    given = given ∙ (ap (λ (xs : List Act). xs ++ moved (take front (reply_line e.reply)) ∷ failed ∷ []) r.given
        ∙ append_assoc log (all_given (pieces_of r.events)) (moved (take front (reply_line e.reply)) ∷ failed ∷ []));
  }

-- ---- a line that a device played is a step of a play

-- what a call of `play` left
pub record CalledSo (line : Line) (reply : Reply) (old new : DeviceValue) : Type 0 where
  pub played : IsPlayed line
  pub plays : Plays old.numbers line reply old new
  pub quiet : PlaysQuiet reply old new
  pub kept : Kept old.view.die new.view.die

-- a view of a device over sound cells whose book is true
pub record Stands (d : Numbers) (base : Tallies) (device : DeviceValue) (view : View) : Type 0 where
  pub numbers : device.numbers ≡ d
  pub shows : ShowsHolding d base (Mounted device) view
  pub sound : IsSound d.geometry device.view.die.cells
  pub book : TrueWhileRunning d device

array_on : (stopped : Bool) (rows : List (List ℕ)) (array : ArrayState) → stopped ≡ false → ArrayIs stopped rows array → IsOn array
array_on false rows array runs is = subst IsOn (sym is) tt
array_on true rows array runs is = cc

die_shown : (d : Numbers) (base : Tallies) (device : DeviceValue) (view : View) → ShowsHolding d base (Mounted device) view → view.device.die ≡ device.view.die
die_shown d base device view shows = ap (λ (v : DeviceView). v.die) shows.0

pub played_step : (d : Numbers) (base : Tallies) (line : Line) (reply : Reply) (old new : DeviceValue) (before : View) → Stands d base old before → new.numbers ≡ old.numbers
    → CalledSo line reply old new
    → (after : View) × Stands d base new after × IsPlaying d (record { line = line; reply = reply; before = before; after = after }) × (after.device.die ≡ new.view.die)
played_step d base line reply old new before stands same call =
    let plays : Plays d line reply old new = subst (λ (n : Numbers). Plays n line reply old new) stands.numbers call.plays in
    let to = plays base before stands.shows stands.sound stands.book in
    let after : View = to.0 in
    let e : Event = record { line = line; reply = reply; before = before; after = after } in
    let step : IsPlayedStep d e = to.2 in
    let die_before : before.device.die ≡ old.view.die = die_shown d base old before stands.shows in
    let die_after : after.device.die ≡ new.view.die = die_shown d base new after to.1 in (
      after,
      record {
        numbers = same ∙ stands.numbers;
        shows = to.1;
        sound = subst (λ (die : DieState). IsSound d.geometry die.cells) die_after (step.keeps.sound (subst (λ (die : DieState). IsSound d.geometry die.cells) (sym die_before) stands.sound));
        book = λ runs. subst (λ (v : DeviceView). IsTrueBook d.geometry d.reuse_max v.die.cells v.book (live_map d.geometry v.die.cells) v.seq) (to.1).0
            (step.true_book (array_on new.stopped _ after.array runs (to.1).1));
      },
      record {
        played = call.played;
        step = step;
        kept = subst (λ (die : DieState). Kept before.device.die die) (sym die_after) (subst (λ (die : DieState). Kept die new.view.die) (sym die_before) call.kept);
        no_fault = λ quiet. call.quiet.no_fault (subst IsQuiet die_before quiet);
        quiet = λ quiet. subst IsQuiet (sym die_after) (call.quiet.stays (subst IsQuiet die_before quiet));
      },
      die_after,
    )

-- ---- what is said of each step

play_with : (P Q : Event → Type 0) (d : Numbers) (before after : View) (lines : List Line) (log log_after : List Act) (r : PlayOf P d before lines after log log_after) → All Q r.events
    → PlayOf Q d before lines after log log_after
play_with P Q d before after lines log log_after r each = record { events = r.events; play = r.play; each = each; of_lines = r.of_lines; given = r.given }

front_with : (P Q : Event → Type 0) (d : Numbers) (before after : View) (lines : List Line) (log log_after : List Act) (r : PlayCutOff P d before lines after log log_after)
    → All Q (r.events ++ r.last ∷ [])
    → PlayCutOff Q d before lines after log log_after
front_with P Q d before after lines log log_after r each = record { events = r.events; last = r.last; play = r.play; each = each; of_lines = r.of_lines; front = r.front; given = r.given }

-- where P of each step of a play gives Q of each, and so its start another, the play ends so
pub ends_more : (S T : View → Type 0) (P Q : Event → Type 0) (d : Numbers) (lines : List Line) (out : Output) (status : Status) → ((view : View) → S view → T view)
    → ((view : View) → S view → (events : List Event) (after : View) → IsPlay d view events after → All P events → All Q events)
    → EndsPlay S P d lines out status → EndsPlay T Q d lines out status
ends_more S T P Q d lines out Done starts each ends =
    let p = ends.1 in (
      ends.0,
      record {
        before = p.before;
        start = starts p.before p.start;
        after = p.after;
        play = play_with P Q d p.before p.after lines out.before ends.0 p.play (each p.before p.start p.play.events p.after p.play.play p.play.each);
      },
      ends.2,
    )
ends_more S T P Q d lines out WriteFault starts each (inl front) =
    inl (record {
      before = front.before;
      start = starts front.before front.start;
      after = front.after;
      play =
          front_with P Q d front.before front.after lines out.before out.after front.play
          (each front.before front.start (front.play.events ++ front.play.last ∷ []) front.after front.play.play front.play.each);
    })
ends_more S T P Q d lines out WriteFault starts each (inr all) =
    let p = all.1 in
    inr (
      all.0,
      record {
        before = p.before;
        start = starts p.before p.start;
        after = p.after;
        play = play_with P Q d p.before p.after lines out.before all.0 p.play (each p.before p.start p.play.events p.after p.play.play p.play.each);
      },
      all.2,
    )
ends_more S T P Q d lines out OutOfMemory starts each ends = ends
ends_more S T P Q d lines out BadWords starts each ends = absurd ends
ends_more S T P Q d lines out BadScript starts each ends = absurd ends
ends_more S T P Q d lines out BadImage starts each ends = absurd ends
ends_more S T P Q d lines out ReadFault starts each ends = absurd ends
ends_more S T P Q d lines out Unsound starts each ends = absurd ends

-- a play of all lines of a script says what its status says
pub says_play : (S : View → Type 0) (P : Event → Type 0) (d : Numbers) (script : Input) (out : Output) (lines : List Line) → HasLines script lines → All IsPlayed lines → (status : Status)
    → EndsPlay S P d lines out status
    → SaysPlay S P d script out status
says_play S P d script out lines is_script played Done ends = record { lines = lines; is_script = is_script; played = played; ends = ends }
says_play S P d script out lines is_script played WriteFault ends = record { lines = lines; is_script = is_script; played = played; ends = ends }
says_play S P d script out lines is_script played OutOfMemory ends = ends
says_play S P d script out lines is_script played BadWords ends = absurd ends
says_play S P d script out lines is_script played BadScript ends = absurd ends
says_play S P d script out lines is_script played BadImage ends = absurd ends
says_play S P d script out lines is_script played ReadFault ends = absurd ends
says_play S P d script out lines is_script played Unsound ends = absurd ends
