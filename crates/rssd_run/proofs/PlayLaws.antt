-- Each step of a play keeps the headline.
use Rattle.std.proofs.Common.{◌⊎◌, ℕ, ◌≤◌, All, List, [], ◌∷◌, arith, subst}
use Rattle.std.specs.List.{AllByRecursion}
use Rattle.std.proofs.lemmas.List.Elements.{All-from_recursion}
use Rattle.rssd_script.specs.declared.lines.Line.{Line}
use Rattle.rssd_core.specs.DeviceValue.{Numbers}
use Rattle.rssd_run.specs.ArrayWithCuts.{Row}
use Rattle.rssd_run.specs.View.{View, Event}
use Rattle.rssd_run.specs.Placing.{IsTried}
use Rattle.rssd_run.specs.Step.{OutOfRange, TooLong, NumbersSpent}
use Rattle.rssd_run.specs.Headline.{IsWritten, FaultsRose, ChargeNeverFalls}
use Rattle.rssd_run.specs.Played.{IsPlayedStep}
use Rattle.rssd_run.specs.PlayRuns.{IsPlay, KeepsPlayHeadline}
use Rattle.rssd_run.proofs.Headline.{write_or, KeepsCharge, charged_between}

write_powered : (d : Numbers) (e : Event) → IsPlayedStep d e → (sector : ℕ) (bytes : List ℕ) → IsTried d e sector bytes → IsWritten e.reply ⊎ FaultsRose e
write_powered d e step sector bytes tried =
    let refused = step.refused in
    let in_range = tried.in_range in
    let fits = tried.fits in
    let numbers = tried.numbers in
    write_or d.geometry.sector_bytes e.before.array sector bytes e.reply e.after.array (FaultsRose e) tried.on
    (subst (λ (line : Line). Row d.geometry.sector_bytes e.before.array line e.reply e.after.array) tried.write step.row)
    (record {
      fault = step.cause;
      range = λ said. let out : d.geometry.sectors ≤ sector = subst (OutOfRange d) tried.write (refused.range.0 said).1 in absurd (omega (arith, out, in_range));
      long = λ said. let more = subst (TooLong d) tried.write (refused.long.0 said).2 in absurd (omega (arith, more, fits));
      spent = λ said. let used = subst (NumbersSpent e.before) tried.write (refused.spent.0 said).3 in absurd (omega (arith, used, numbers));
    })

each_keeps : (d : Numbers) (before : View) (events : List Event) (after : View) → IsPlay d before events after → AllByRecursion (KeepsPlayHeadline d) events
unfolding IsPlay
each_keeps d before [] after play = tt
each_keeps d before (e ∷ events) after play =
    let step : IsPlayedStep d e = play.1.step in (
      record { replies = step.row; charge = step.keeps.never_falls; declined = λ sector bytes tried. (step.placed sector bytes tried).declined; powered = write_powered d e step },
      each_keeps d e.after events after play.2,
    )

pub plays_keep_headline : (d : Numbers) (before : View) (events : List Event) (after : View) → IsPlay d before events after → All (KeepsPlayHeadline d) events
plays_keep_headline d before events after play = All-from_recursion (KeepsPlayHeadline d) events (each_keeps d before events after play)

-- ---- charge, from any view to any later one

play_keeps : (d : Numbers) (before : View) (events : List Event) (after : View) → IsPlay d before events after → KeepsCharge before events
unfolding IsPlay
play_keeps d before [] after play = tt
play_keeps d before (e ∷ events) after play =
    let step : IsPlayedStep d e = play.1.step in
    (play.0, record { shape = step.keeps.shape; never_falls = step.keeps.never_falls }, play_keeps d e.after events after play.2)

pub charge_never_falls : (d : Numbers) (before : View) (events : List Event) (after : View) → IsPlay d before events after → ChargeNeverFalls before events
charge_never_falls d before events after play i j later = (charged_between before events (play_keeps d before events after play) i j later).never_falls
