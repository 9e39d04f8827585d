-- Replies that never come in a replay: of a script; and of one none of whose lines arms a failure.
use Rattle.std.specs.Prelude.{◌≡◌, Bool, true, false, All, List, [], ◌∷◌}
use Rattle.rssd_script.specs.declared.lines.Line.{Line}
use Rattle.rssd_script.specs.declared.lines.Line.TheVariants.{Cut, FailRead}
use Rattle.rssd_script.specs.declared.replies.Reply.TheVariants.{Off as SaysOff, Fault, Spent, NoSpare, NoMemory}
use Rattle.rssd_run.specs.View.{Event}

-- `cut` and `failread`
abbrev pub is_arming : Line → Bool
is_arming (Cut n torn) = true
is_arming (FailRead n) = true
is_arming _ = false

-- the reply is not `fault` and not `no spare`
pub record NeverFails (e : Event) : Type 0 where
  pub no_fault : e.reply ≡ Fault → ⊥
  pub no_spare_found : e.reply ≡ NoSpare → ⊥

-- `off` comes only after `no memory`
abbrev pub OffAfterNoMemory : List Event → Type 0
OffAfterNoMemory [] = Unit {0}
OffAfterNoMemory (e ∷ events) = (e.reply ≡ SaysOff → ⊥) × ((e.reply ≡ NoMemory → ⊥) → OffAfterNoMemory events)

pub record IsCalm (events : List Event) : Type 0 where
  pub never_fail : All NeverFails events
  pub off : OffAfterNoMemory events

-- the reply is not `spent`
abbrev pub NeverSpends : Event → Type 0
NeverSpends e = e.reply ≡ Spent → ⊥
