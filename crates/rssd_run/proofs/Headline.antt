-- Each step of a run keeps the headline.
use Rattle.std.proofs.Common.{◌≡◌, ◌⊎◌, inl, inr, ℕ, zero, suc, ◌≤◌, List, [], ◌∷◌, refl, arith, subst, ◌∙◌}
use Rattle.std.specs.List.{AllByRecursion}
use Rattle.std.proofs.lemmas.List.Elements.{All-from_recursion}
use Rattle.cell_die.specs.DieState.{DieState}
use Rattle.cell_die.specs.Changes.{NeverFalls}
use Rattle.cell_die.proofs.Sequences.{never_falls_refl, never_falls_trans}
use Rattle.rssd_script.specs.declared.lines.Line.{Line}
use Rattle.rssd_script.specs.declared.lines.Line.TheVariants.{Write}
use Rattle.rssd_script.specs.declared.replies.Reply.{Reply}
use Rattle.rssd_script.specs.declared.replies.Reply.TheVariants.{First, Second, Declined, Range, Long, Fault, Spent}
use Rattle.rssd_core.specs.DeviceValue.{Numbers}
use Rattle.rssd_run.specs.ArrayWithCuts.{ArrayState, On, Off, Row, WriteRow}
use Rattle.rssd_run.specs.View.{View, Event, IsOn}
use Rattle.rssd_run.specs.Placing.{IsTried}
use Rattle.rssd_run.specs.Step.{IsStep, OutOfRange, TooLong, NumbersSpent}
use Rattle.rssd_run.specs.Run.{IsRun}
use Rattle.rssd_run.specs.Headline.{IsWritten, FaultsRose, KeepsHeadline, AllKeepHeadline, view_at, ChargeNeverFalls}

-- the replies to a write while the array is on
pub record RepliesWrite (reply : Reply) (P : Type 0) : Type 0 where
  pub fault : reply ≡ Fault → P
  pub range : reply ≡ Range → P
  pub long : reply ≡ Long → P
  pub spent : reply ≡ Spent → P

written_or : (rows new : List (List ℕ)) (reply : Reply) (next : ArrayState) (P : Type 0) → WriteRow rows new reply next → RepliesWrite reply P → IsWritten reply ⊎ P
written_or rows new First next P row others = inl tt
written_or rows new Second next P row others = inl tt
written_or rows new Declined next P row others = inl tt
written_or rows new Fault next P row others = inr (others.fault refl)
written_or rows new Range next P row others = inr (others.range refl)
written_or rows new Long next P row others = inr (others.long refl)
written_or rows new Spent next P row others = inr (others.spent refl)
written_or rows new reply next P row others = absurd row

pub write_or : (size : ℕ) (array : ArrayState) (sector : ℕ) (bytes : List ℕ) (reply : Reply) (next : ArrayState) (P : Type 0) → IsOn array → Row size array (Write sector bytes) reply next
    → RepliesWrite reply P → IsWritten reply ⊎ P
write_or size (On rows) sector bytes reply next P on row others = written_or rows _ reply next P row others
write_or size (Off old new) sector bytes reply next P on row others = absurd on

write_powered : (d : Numbers) (e : Event) → IsStep d e → (sector : ℕ) (bytes : List ℕ) → IsTried d e sector bytes → IsWritten e.reply ⊎ FaultsRose e
write_powered d e step sector bytes tried =
    let refused = step.answers.refused in
    let in_range = tried.in_range in
    let fits = tried.fits in
    let numbers = tried.numbers in
    write_or d.geometry.sector_bytes e.before.array sector bytes e.reply e.after.array (FaultsRose e) tried.on
    (subst (λ (line : Line). Row d.geometry.sector_bytes e.before.array line e.reply e.after.array) tried.write step.row)
    (record {
      fault = step.fault.rose;
      range = λ said. let out : d.geometry.sectors ≤ sector = subst (OutOfRange d) tried.write (refused.range.0 said).1 in absurd (omega (arith, out, in_range));
      long = λ said. let more = subst (TooLong d) tried.write (refused.long.0 said).2 in absurd (omega (arith, more, fits));
      spent = λ said. let used = subst (NumbersSpent e.before) tried.write (refused.spent.0 said).3 in absurd (omega (arith, used, numbers));
    })

step_keeps : (d : Numbers) (e : Event) → IsStep d e → KeepsHeadline d e
step_keeps d e step = record {
  replies = step.row;
  charge = step.keeps.never_falls;
  declined = λ sector bytes tried. (step.placed sector bytes tried).declined;
  powered = write_powered d e step;
}

each_keeps : (d : Numbers) (before : View) (events : List Event) (after : View) → IsRun d before events after → AllByRecursion (KeepsHeadline d) events
unfolding IsRun
each_keeps d before [] after run = tt
each_keeps d before (e ∷ events) after run = (step_keeps d e run.1, each_keeps d e.after events after run.2)

pub runs_keep_headline : (d : Numbers) (before : View) (events : List Event) (after : View) → IsRun d before events after → AllKeepHeadline d events
runs_keep_headline d before events after run = All-from_recursion (KeepsHeadline d) events (each_keeps d before events after run)

-- ---- charge, from any view to any later one

pub record Charged (old new : DieState) : Type 0 where
  pub shape : new.shape ≡ old.shape
  pub never_falls : NeverFalls old new

pub uncharged : (die : DieState) → Charged die die
uncharged die = record { shape = refl; never_falls = never_falls_refl die }

pub charged_more : (old mid new : DieState) → Charged old mid → Charged mid new → Charged old new
charged_more old mid new first second = record { shape = second.shape ∙ first.shape; never_falls = never_falls_trans old mid new first.shape first.never_falls second.never_falls }

step_charged : (d : Numbers) (e : Event) → IsStep d e → Charged e.before.device.die e.after.device.die
step_charged d e step = record { shape = step.keeps.shape; never_falls = step.keeps.never_falls }

-- each step begins where the one before it ended, and lets no charge fall
abbrev pub KeepsCharge : View → List Event → Type 0
KeepsCharge before [] = Unit {0}
KeepsCharge before (e ∷ events) = (e.before ≡ before) × Charged e.before.device.die e.after.device.die × KeepsCharge e.after events

charged_from : (before : View) (events : List Event) → KeepsCharge before events → (lines : ℕ) → Charged before.device.die (view_at before events lines).device.die
charged_from before events keeps zero = uncharged before.device.die
charged_from before [] keeps (suc lines) = uncharged before.device.die
charged_from before (e ∷ events) keeps (suc lines) =
    subst (λ (view : View). Charged view.device.die (view_at e.after events lines).device.die) keeps.0
    (charged_more e.before.device.die e.after.device.die (view_at e.after events lines).device.die keeps.1 (charged_from e.after events keeps.2 lines))

pub charged_between : (before : View) (events : List Event) → KeepsCharge before events → (i j : ℕ) → i ≤ j
    → Charged (view_at before events i).device.die (view_at before events j).device.die
charged_between before events keeps zero j later = charged_from before events keeps j
charged_between before [] keeps (suc i) zero later = absurd (omega (arith, later))
charged_between before [] keeps (suc i) (suc j) later = uncharged before.device.die
charged_between before (e ∷ events) keeps (suc i) zero later = absurd (omega (arith, later))
charged_between before (e ∷ events) keeps (suc i) (suc j) later = charged_between e.after events keeps.2 i j (omega (arith, later))

run_keeps : (d : Numbers) (before : View) (events : List Event) (after : View) → IsRun d before events after → KeepsCharge before events
unfolding IsRun
run_keeps d before [] after run = tt
run_keeps d before (e ∷ events) after run = (run.0, step_charged d e run.1, run_keeps d e.after events after run.2)

pub charge_never_falls : (d : Numbers) (before : View) (events : List Event) (after : View) → IsRun d before events after → ChargeNeverFalls before events
charge_never_falls d before events after run i j later = (charged_between before events (run_keeps d before events after run) i j later).never_falls
