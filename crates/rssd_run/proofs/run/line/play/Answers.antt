-- What the line left is a played step; a line that no device plays is none of these.
use Rattle.std.proofs.Common.{◌≡◌, ℕ, inl, inr, sym, ◌∙◌, refl}
use Rattle.rssd_script.specs.declared.lines.Line.{Line}
use Rattle.rssd_script.specs.declared.lines.Line.TheVariants.{Write, Read, Trim, Idle, Cut, FailRead, Mount, Stat}
use Rattle.rssd_script.specs.declared.lines.TornWord.{TornWord}
use Rattle.rssd_core.specs.DeviceValue.{DeviceValue}
use Rattle.rssd_run.specs.Played.{IsPlayed}
use Rattle.rssd_run.proofs.Answered.{answered_plays, answered_quiet, answered_keeps, stopped_plays}
use Rattle.rssd_run.proofs.Exchanges.{played_on}
use Rattle.rssd_run.proofs.Parts.{keeps_none}
use Rattle.rssd_run.proofs.AnsweredKept.{answered_built}
use Rattle.rssd_run.proofs.run.line.play.Goals as goal

-- a line that is none of the session's is played
is_played : (line : Line) → ((n : ℕ) (torn : TornWord) → line ≡ Cut n torn → ⊥) → ((n : ℕ) → line ≡ FailRead n → ⊥) → (line ≡ Mount → ⊥) → (line ≡ Stat → ⊥) → IsPlayed line
is_played (Write sector bytes) cut fail mount stat = tt
is_played (Read sector) cut fail mount stat = tt
is_played (Trim sector) cut fail mount stat = tt
is_played (Idle n) cut fail mount stat = tt
is_played (Cut n torn) cut fail mount stat = absurd (cut n torn refl)
is_played (FailRead n) cut fail mount stat = absurd (fail n refl)
is_played Mount cut fail mount stat = absurd (mount refl)
is_played Stat cut fail mount stat = absurd (stat refl)

pub returns-then-stopped-clause-plays : goal.returns-then-stopped-clause-plays
returns-then-stopped-clause-plays g c =
    let old : DeviceValue = g.F.Device.device c.args.ftl.now in
    stopped_plays old.numbers old c.args.line.now (sym c.stopped.ensures ∙ c.if-stopped.true)
    (is_played c.args.line.now (λ n torn. c.in_default.not-Cut n torn) (λ n. c.in_default.not-FailRead n) c.in_default.not-Mount c.in_default.not-Stat)

pub returns-else-stopped-clause-plays : goal.returns-else-stopped-clause-plays
returns-else-stopped-clause-plays g c =
    let old : DeviceValue = g.F.Device.device c.args.ftl.now in
    let new : DeviceValue = g.F.Device.device c.play_line.new.ftl in
    answered_plays old.numbers old new (sym c.stopped.ensures ∙ c.if-stopped.false) c.args.line.now c.play_line.new.reply c.play_line.ensures

pub returns-else-stopped-clause-quiet : goal.returns-else-stopped-clause-quiet
returns-else-stopped-clause-quiet g c =
    let old : DeviceValue = g.F.Device.device c.args.ftl.now in
    let new : DeviceValue = g.F.Device.device c.play_line.new.ftl in
    answered_quiet old.numbers old new c.args.line.now c.play_line.new.reply c.play_line.ensures

pub returns-then-stopped-clause-keeps : goal.returns-then-stopped-clause-keeps
returns-then-stopped-clause-keeps g c =
    let old : DeviceValue = g.F.Device.device c.args.ftl.now in
    keeps_none old.numbers old.view.die

pub returns-else-stopped-clause-keeps : goal.returns-else-stopped-clause-keeps
returns-else-stopped-clause-keeps g c =
    let old : DeviceValue = g.F.Device.device c.args.ftl.now in
    let new : DeviceValue = g.F.Device.device c.play_line.new.ftl in
    answered_keeps old.numbers old new c.args.line.now c.play_line.new.reply c.play_line.ensures

pub returns-else-stopped-clause-numbers : goal.returns-else-stopped-clause-numbers
returns-else-stopped-clause-numbers g c =
    let old : DeviceValue = g.F.Device.device c.args.ftl.now in
    let new : DeviceValue = g.F.Device.device c.play_line.new.ftl in
    (answered_built old.numbers old new c.args.line.now c.play_line.new.reply c.play_line.ensures).numbers

pub returns-else-stopped-clause-kept : goal.returns-else-stopped-clause-kept
returns-else-stopped-clause-kept g c =
    let old : DeviceValue = g.F.Device.device c.args.ftl.now in
    let new : DeviceValue = g.F.Device.device c.play_line.new.ftl in
    (answered_built old.numbers old new c.args.line.now c.play_line.new.reply c.play_line.ensures).kept

pub returns-then-stopped-clause-answers : goal.returns-then-stopped-clause-answers
returns-then-stopped-clause-answers g c = inl (sym c.stopped.ensures ∙ c.if-stopped.true, refl, refl)

pub returns-else-stopped-clause-answers : goal.returns-else-stopped-clause-answers
returns-else-stopped-clause-answers g c =
    let old : DeviceValue = g.F.Device.device c.args.ftl.now in
    let new : DeviceValue = g.F.Device.device c.play_line.new.ftl in
    inr (
      sym c.stopped.ensures ∙ c.if-stopped.false,
      (
        new,
        refl,
        played_on old.numbers c.args.line.now c.play_line.new.reply old new
            (is_played c.args.line.now (λ n torn. c.in_default.not-Cut n torn) (λ n. c.in_default.not-FailRead n) c.in_default.not-Mount c.in_default.not-Stat) c.play_line.ensures,
      ),
    )
