-- Runs grow by one step at their end, and stay calm.
use Rattle.std.proofs.Common.{◌≡◌, ◌⊎◌, inl, inr, ℕ, ◌+◌, false, List, [], ◌∷◌, ◌++◌, All, length, take, Option, None, Some, suc, refl, arith, sym, ap, ◌∙◌, append_assoc}
use Rattle.std.proofs.lemmas.List.{append-nil}
use Rattle.cell_die.specs.DieState.{DieState, Failures}
use Rattle.cell_die.specs.Power.{with_read_failure}
use Rattle.std.specs.Option.{option_map}
use Rattle.rssd_core.specs.DeviceValue.{Numbers}
use Rattle.rssd_core.specs.Failures.{cut_of, cut_in}
use Rattle.rssd_io.specs.Event.{Event as Act, moved, failed}
use Rattle.rssd_io.specs.Pieces.{all_given}
use Rattle.rssd_io.proofs.Logs.{given_append}
use Rattle.rssd_script.specs.declared.lines.Line.{Line}
use Rattle.rssd_script.specs.declared.lines.Line.TheVariants.{Write, Read, Trim, Idle, Cut, FailRead, Mount, Stat}
use Rattle.rssd_script.specs.declared.replies.Reply.{Reply}
use Rattle.rssd_script.specs.declared.replies.Reply.TheVariants.{Done, Fault}
use Rattle.rssd_script.specs.Replies.{reply_line}
use Rattle.rssd_run.specs.View.{View, Event}
use Rattle.rssd_run.specs.Armed.{IsArming}
use Rattle.rssd_run.specs.Step.{IsStep}
use Rattle.rssd_run.specs.Held.{Calm}
use Rattle.rssd_run.specs.Run.{IsRun, lines_of, pieces_of, RunOf, RunCutOff, is_cut, CalmFor}

pub run_none : (d : Numbers) (view : View) → IsRun d view [] view
unfolding IsRun
run_none d view = refl

pub run_more : (d : Numbers) (before : View) (events : List Event) (now : View) (e : Event) → IsRun d before events now → e.before ≡ now → IsStep d e → IsRun d before (events ++ e ∷ []) e.after
unfolding IsRun
run_more d before [] now e run begins step = (begins ∙ run, step, refl)
run_more d before (first ∷ events) now e run begins step = (run.0, run.1, run_more d first.after events now e run.2 begins step)

pub lines_more : (events : List Event) (e : Event) → lines_of (events ++ e ∷ []) ≡ lines_of events ++ e.line ∷ []
lines_more [] e = refl
lines_more (first ∷ events) e = ap (λ rest. first.line ∷ rest) (lines_more events e)

pub pieces_more : (events : List Event) (e : Event) → pieces_of (events ++ e ∷ []) ≡ pieces_of events ++ reply_line e.reply ∷ []
pieces_more [] e = refl
pieces_more (first ∷ events) e = ap (λ rest. reply_line first.reply ∷ rest) (pieces_more events e)

pub run_of_none : (d : Numbers) (view : View) (log : List Act) → RunOf d view [] view log log
run_of_none d view log = record { events = []; run = run_none d view; of_lines = refl; given = sym (append-nil log) }

module _ (d : Numbers) (before now after : View) (lines : List Line) (line : Line) (reply : Reply) (log between log_after : List Act) (r : RunOf d before lines now log between)
    (step : IsStep d (record { line = line; reply = reply; before = now; after = after })) where
  event : Event
  event = record { line = line; reply = reply; before = now; after = after }

  -- one line more, whose text was given
  pub run_of_more : log_after ≡ between ++ moved (reply_line reply) ∷ [] → RunOf d before (lines ++ line ∷ []) after log log_after
  run_of_more given =
      let e : Event = record { line = line; reply = reply; before = now; after = after } in
      record {
        events = r.events ++ e ∷ [];
        run = run_more d before r.events now e r.run refl step;
        of_lines = lines_more r.events e ∙ ap (λ ls. ls ++ line ∷ []) r.of_lines;
        given = given ∙ (ap (λ (xs : List Act). xs ++ moved (reply_line reply) ∷ []) r.given ∙ (append_assoc log (all_given (pieces_of r.events)) (moved (reply_line reply) ∷ [])
            ∙ ap (λ (xs : List Act). log ++ xs) (sym (ap all_given (pieces_more r.events e) ∙ given_append (pieces_of r.events) (reply_line reply ∷ [])))));
      }

  -- one line more, of whose text a front was given
  pub run_cut_off : (all : List Line) → lines ++ line ∷ [] ≡ take (length lines + 1) all → (front : ℕ) → log_after ≡ between ++ moved (take front (reply_line reply)) ∷ failed ∷ []
      → RunCutOff d before all after log log_after
  run_cut_off all front_is front given =
      let e : Event = record { line = line; reply = reply; before = now; after = after } in
      record {
        events = r.events;
        last = e;
        run = run_more d before r.events now e r.run refl step;
        of_lines = lines_more r.events e ∙ (ap (λ ls. ls ++ line ∷ []) r.of_lines ∙ (front_is ∙ ap (λ n. take (n + 1) all) (ap length (sym r.of_lines) ∙ length_lines r.events)));
        front = front;
        given =
            given ∙ (ap (λ (xs : List Act). xs ++ moved (take front (reply_line reply)) ∷ failed ∷ []) r.given
            ∙ append_assoc log (all_given (pieces_of r.events)) (moved (take front (reply_line reply)) ∷ failed ∷ []));
      }
    where
      length_lines : (events : List Event) → length (lines_of events) ≡ length events
      length_lines [] = refl
      length_lines (e ∷ events) = ap (λ n. suc n) (length_lines events)

-- ---- a step of a line other than `cut` arms no cut

done_or : (reply : Reply) → (reply ≡ Done) ⊎ (reply ≡ Done → ⊥)
done_or Done = inl refl
done_or reply = inr (λ h. cc)

fault_or : (reply : Reply) → (reply ≡ Fault) ⊎ (reply ≡ Fault → ⊥)
fault_or Fault = inl refl
fault_or reply = inr (λ h. cc)

only_done : (n : ℕ) (reply : Reply) → IsArming (FailRead n) reply → reply ≡ Done
only_done n Done arming = refl
only_done n reply arming = absurd arming

cut_told : (n : ℕ) (x : Option Failures) → cut_in (option_map (with_read_failure n) x) ≡ cut_in x
cut_told n None = refl
cut_told n (Some a) = refl

module _ (d : Numbers) (before after : View) (line : Line) (reply : Reply) (step : IsStep d (record { line = line; reply = reply; before = before; after = after }))
    (none : cut_of before.device.die ≡ 0) where
  unarmed : (IsArming line reply → ⊥) → cut_of after.device.die ≡ 0
  unarmed arming = elim (fault_or reply) [
    | inr other ↦ let low = (step.armed.lowers arming other).cut.lower in omega arith
    | inl fault ↦ elim (step.fault.came.0 fault) [
      | inl cut ↦ omega (arith, cut.0)
      | inr read ↦ let within = ((step.armed.fault fault).read_came read).1 in omega (arith, within.no_later)
    ]
  ]

calm_line : (d : Numbers) (before after : View) (line : Line) (reply : Reply) → IsStep d (record { line = line; reply = reply; before = before; after = after }) → cut_of before.device.die ≡ 0
    → is_cut line ≡ false
    → cut_of after.device.die ≡ 0
calm_line d before after (Write sector bytes) reply step none other = unarmed d before after (Write sector bytes) reply step none (λ h. h)
calm_line d before after (Read sector) reply step none other = unarmed d before after (Read sector) reply step none (λ h. h)
calm_line d before after (Trim sector) reply step none other = unarmed d before after (Trim sector) reply step none (λ h. h)
calm_line d before after (Idle n) reply step none other = unarmed d before after (Idle n) reply step none (λ h. h)
calm_line d before after (Cut n torn) reply step none other = cc
calm_line d before after (FailRead n) reply step none other = elim (done_or reply) [
  | inr other_reply ↦ unarmed d before after (FailRead n) reply step none (λ arming. other_reply (only_done n reply arming))
  | inl done ↦ armed_read reply step done
]
  where
    armed_read : (r : Reply) → IsStep d (record { line = FailRead n; reply = r; before = before; after = after }) → r ≡ Done → cut_of after.device.die ≡ 0
    armed_read Done step done = ap cut_of step.armed.arms ∙ (cut_told n before.device.die.failures ∙ none)
    armed_read r step done = cc
calm_line d before after Mount reply step none other = unarmed d before after Mount reply step none (λ h. h)
calm_line d before after Stat reply step none other = unarmed d before after Stat reply step none (λ h. h)

-- a line of a calm run
pub calm_now : (d : Numbers) (die : DieState) (lines : List Line) → CalmFor d die lines → Calm d die
calm_now d die lines (inl sound) = inl sound
calm_now d die lines (inr none) = inr none.0

-- the run stays calm after each of its lines
pub calm_on : (d : Numbers) (before after : View) (line : Line) (reply : Reply) (lines : List Line) → IsStep d (record { line = line; reply = reply; before = before; after = after })
    → (All (λ l. is_cut l ≡ false) lines → is_cut line ≡ false) → CalmFor d before.device.die lines → CalmFor d after.device.die lines
calm_on d before after line reply lines step among (inl sound) = inl (step.keeps.sound sound)
calm_on d before after line reply lines step among (inr none) = inr (calm_line d before after line reply step none.0 (among none.1), none.1)
