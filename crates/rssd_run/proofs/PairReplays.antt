-- A play of two dies as one is a replay: nothing is armed there, so that each of its steps is a step of a session.
use Rattle.std.proofs.Common.{◌≡◌, inl, inr, ℕ, ◌%◌, true, List, [], ◌∷◌, ◌++◌, Option, None, Some, refl, sym, subst, arith}
use Rattle.std.specs.Prelude.{IsSomeAnd}
use Rattle.cell_die.specs.DieState.{DieState, Failures}
use Rattle.cell_die.specs.Calls.{IsQuiet}
use Rattle.cell_die.proofs.Quiet.{quiet_stays}
use Rattle.die_image.specs.declared.head.ImageHead.{ImageHead}
use Rattle.die_image.specs.Image.{shape_of}
use Rattle.rssd_script.specs.declared.lines.Line.{Line}
use Rattle.rssd_script.specs.declared.lines.Line.TheVariants.{Write, Read, Trim, Idle, Cut, FailRead, Mount, Stat}
use Rattle.rssd_script.specs.declared.replies.Reply.{Reply}
use Rattle.rssd_script.specs.declared.replies.Reply.TheVariants.{Stat as Counts, Fault, NoSpare}
use Rattle.rssd_core.specs.DeviceValue.{Numbers, DeviceView}
use Rattle.rssd_core.specs.Failures.{cut_in, read_in, Lowers}
use Rattle.rssd_io.specs.Event.{Event as Act}
use Rattle.rssd_run.specs.ArrayWithCuts.{ArrayState, On, Off, Row}
use Rattle.rssd_run.specs.View.{View, Event, NoFailure}
use Rattle.rssd_run.specs.Heads.{numbers_named}
use Rattle.rssd_run.specs.Step.{IsStep, StatAnswer}
use Rattle.rssd_run.specs.Played.{IsPlayed, IsPlayedStep}
use Rattle.rssd_run.specs.Run.{IsRun}
use Rattle.rssd_run.specs.Replays.{IsBlankStart, Replays, ReplaysFront}
use Rattle.rssd_run.specs.PlayRuns.{IsPlaying, IsPlay, PlaysFrom, PlaysFrontFrom, IsBlankDie, IsPairStart, NeverStops}
use Rattle.rssd_run.proofs.PlayedSteps.{exact_step, book_at_cut}
use Rattle.rssd_run.proofs.Parts.{no_fault}
use Rattle.rssd_run.proofs.PairPlays.{pair_blank, pair_quiet}

-- ---- a line that is played is answered neither with counts nor with `no spare`

no_spare_row : (size : ℕ) (array : ArrayState) (line : Line) (next : ArrayState) → IsPlayed line → Row size array line NoSpare next → ⊥
no_spare_row size (On rows) (Write sector bytes) next played row = row
no_spare_row size (On rows) (Read sector) next played row = row
no_spare_row size (On rows) (Trim sector) next played row = row
no_spare_row size (On rows) (Idle n) next played row = row
no_spare_row size (Off old new) (Write sector bytes) next played row = row
no_spare_row size (Off old new) (Read sector) next played row = row
no_spare_row size (Off old new) (Trim sector) next played row = row
no_spare_row size (Off old new) (Idle n) next played row = row
no_spare_row size array (Cut n torn) next played row = absurd played
no_spare_row size array (FailRead n) next played row = absurd played
no_spare_row size array Mount next played row = absurd played
no_spare_row size array Stat next played row = absurd played

no_counts_row : (size : ℕ) (array : ArrayState) (line : Line) (first second declined moved erases : ℕ) (next : ArrayState) → IsPlayed line
    → Row size array line (Counts first second declined moved erases) next → ⊥
no_counts_row size (On rows) (Write sector bytes) first second declined moved erases next played row = row
no_counts_row size (On rows) (Read sector) first second declined moved erases next played row = row
no_counts_row size (On rows) (Trim sector) first second declined moved erases next played row = row
no_counts_row size (On rows) (Idle n) first second declined moved erases next played row = row
no_counts_row size (Off old new) (Write sector bytes) first second declined moved erases next played row = row
no_counts_row size (Off old new) (Read sector) first second declined moved erases next played row = row
no_counts_row size (Off old new) (Trim sector) first second declined moved erases next played row = row
no_counts_row size (Off old new) (Idle n) first second declined moved erases next played row = row
no_counts_row size array (Cut n torn) first second declined moved erases next played row = absurd played
no_counts_row size array (FailRead n) first second declined moved erases next played row = absurd played
no_counts_row size array Mount first second declined moved erases next played row = absurd played
no_counts_row size array Stat first second declined moved erases next played row = absurd played

stat_answer : (e : Event) (reply : Reply) → ((first second declined moved erases : ℕ) → reply ≡ Counts first second declined moved erases → ⊥) → StatAnswer e reply
stat_answer e (Counts first second declined moved erases) none = absurd (none first second declined moved erases refl)
stat_answer e reply none = tt

-- ---- nothing is armed on a quiet die

abbrev Quiet : Failures → Type 0
Quiet failures = (failures.powered ≡ true) × (failures.cut ≡ 0) × (failures.read_failure ≡ 0)

quiet_cut : (x : Option Failures) → IsSomeAnd x Quiet → cut_in x ≡ 0
quiet_cut None quiet = absurd quiet
quiet_cut (Some a) quiet = quiet.1

quiet_read : (x : Option Failures) → IsSomeAnd x Quiet → read_in x ≡ 0
quiet_read None quiet = absurd quiet
quiet_read (Some a) quiet = quiet.2

quiet_power : (x : Option Failures) → IsSomeAnd x Quiet → IsSomeAnd x (λ failures. failures.powered ≡ true)
quiet_power None quiet = absurd quiet
quiet_power (Some a) quiet = quiet.0

quiet_lowers : (changes reads : ℕ) (Bounded : Type 0) (old new : DieState) → IsQuiet old → IsQuiet new → Lowers changes reads Bounded old new
quiet_lowers changes reads Bounded old new before after =
    let cut_before = quiet_cut old.failures before in
    let cut_after = quiet_cut new.failures after in
    let read_before = quiet_read old.failures before in
    let read_after = quiet_read new.failures after in
    record {
      cut = record { lower = omega (arith, cut_before, cut_after); to_come = λ armed. omega (arith, armed, cut_before) };
      form = λ armed. absurd (omega (arith, armed, cut_after));
      read = λ exact. record { lower = omega (arith, read_before, read_after); to_come = λ armed. omega (arith, armed, read_before) };
      read_bound = record { within = omega (arith, read_before, read_after); no_later = omega (arith, read_before, read_after); to_come = λ armed. omega (arith, armed, read_before) };
    }

-- ---- a step of a play is a step of a session

quiet_step : (d : Numbers) (e : Event) → IsPlaying d e → IsQuiet e.before.device.die → IsStep d e
quiet_step d e playing quiet =
    let s : IsPlayedStep d e = playing.step in
    let after : IsQuiet e.after.device.die = playing.quiet quiet in
    let never : e.reply ≡ Fault → ⊥ = playing.no_fault quiet in
    let none : NoFailure e = λ came. elim came [
      | inl cut ↦ omega (arith, cut.0, quiet_cut e.before.device.die.failures quiet)
      | inr read ↦ omega (arith, read.0, quiet_read e.before.device.die.failures quiet)
    ] in
    exact_step d e.line e.reply e.before e.after playing.played s
    (stat_answer e e.reply (λ first second declined moved erases said.
    no_counts_row d.geometry.sector_bytes e.before.array e.line first second declined moved erases e.after.array playing.played
    (subst (λ (reply : Reply). Row d.geometry.sector_bytes e.before.array e.line reply e.after.array) said s.row)))
    (λ said. no_spare_row d.geometry.sector_bytes e.before.array e.line e.after.array playing.played
    (subst (λ (reply : Reply). Row d.geometry.sector_bytes e.before.array e.line reply e.after.array) said s.row)) (no_fault e never none)
    (record { book = book_at_cut s.moves.book (λ cut. absurd (none (inl cut))); seq = s.moves.seq }) (λ fault. quiet_lowers _ _ _ e.before.device.die e.after.device.die quiet after)
    (λ fault. absurd (never fault)) (λ on. quiet_power e.after.device.die.failures after)

play_runs : (d : Numbers) (before : View) (events : List Event) (after : View) → IsQuiet before.device.die → IsPlay d before events after → IsRun d before events after
unfolding IsPlay IsRun
play_runs d before [] after quiet play = play
play_runs d before (e ∷ events) after quiet play =
    let here : IsQuiet e.before.device.die = subst (λ (v : View). IsQuiet v.device.die) (sym play.0) quiet in
    (play.0, quiet_step d e play.1 here, play_runs d e.after events after (play.1.quiet here) play.2)

-- ---- a play of `pair` is a replay

module _ (head : ImageHead) (even : head.blocks % 2 ≡ 0) where
  pub pair_start : (view : View) → IsPairStart head view → IsBlankStart head view
  pair_start view begins =
      let die : DieState = begins.0 in
      let blank : IsBlankDie (shape_of head) die = pair_blank head die even begins.1 in
      let start = begins.2 in
      record {
        die = die;
        blank =
            record {
              same_shape = blank.same_shape;
              blank = blank.blank;
              erases = blank.erases;
              read_faults = blank.read_faults;
              change_faults = blank.change_faults;
              quiet = pair_quiet head die even begins.1;
            };
        device = start.device;
        mounts = start.mounts;
        same = start.same;
        zeros = start.zeros;
        no_header = start.no_header;
        sound = start.sound;
      }

  start_quiet : (view : View) → IsPairStart head view → IsQuiet view.device.die
  start_quiet view begins =
      let start = begins.2 in
      subst (λ (v : DeviceView). IsQuiet v.die) (sym start.same) (quiet_stays (pair_quiet head begins.0 even begins.1) start.mounts.calls)

  pub pair_replays : (lines : List Line) (log log_after : List Act) → PlaysFrom (IsPairStart head) NeverStops (numbers_named head) lines log log_after → Replays head lines log log_after
  pair_replays lines log log_after p = record {
    before = p.before;
    start = pair_start p.before p.start;
    after = p.after;
    run =
        record {
          events = p.play.events;
          run = play_runs (numbers_named head) p.before p.play.events p.after (start_quiet p.before p.start) p.play.play;
          of_lines = p.play.of_lines;
          given = p.play.given;
        };
  }

  pub pair_front_replays : (lines : List Line) (log log_after : List Act) → PlaysFrontFrom (IsPairStart head) NeverStops (numbers_named head) lines log log_after
      → ReplaysFront head lines log log_after
  pair_front_replays lines log log_after p = record {
    before = p.before;
    start = pair_start p.before p.start;
    after = p.after;
    run = record {
      events = p.play.events;
      last = p.play.last;
      run = play_runs (numbers_named head) p.before (p.play.events ++ p.play.last ∷ []) p.after (start_quiet p.before p.start) p.play.play;
      of_lines = p.play.of_lines;
      front = p.play.front;
      given = p.play.given;
    };
  }
