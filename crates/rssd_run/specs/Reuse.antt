-- What writes over used cells save: an erase comes only with a record on a clean page, and with a command that failed.
use Rattle.std.specs.Prelude.{◌≡◌, ℕ, ◌+◌, ◌≤◌, if◌then◌else◌, List, All, sum_by}
use Rattle.rssd_script.specs.declared.lines.Line.{Line}
use Rattle.rssd_script.specs.declared.lines.Line.TheVariants.{Write, Trim, Idle}
use Rattle.rssd_script.specs.declared.replies.Reply.{Reply}
use Rattle.rssd_script.specs.declared.replies.Reply.TheVariants.{First, Second, Declined, Done, Fault}
use Rattle.rssd_core.specs.DeviceValue.{Numbers}
use Rattle.rssd_core.specs.Within.{holds_bytes, record_of}
use Rattle.rssd_run.specs.View.{View, Event, erased}

-- the most erases of a line, by its reply: one for a write that went to a clean page, for a trim that left a record, and for a
-- write or trim that failed
abbrev pub erases_at_most : Numbers → View → Line → Reply → ℕ
erases_at_most d before (Write sector bytes) First = 1
erases_at_most d before (Write sector bytes) Declined = 1
erases_at_most d before (Write sector bytes) Fault = 1
erases_at_most d before (Trim sector) Done = if holds_bytes (record_of d before.device sector) then 1 else 0
erases_at_most d before (Trim sector) Fault = 1
erases_at_most d before line reply = 0

-- no erase count differs
abbrev pub SameErases : Event → Type 0
SameErases e = e.after.device.die.erases ≡ e.before.device.die.erases

pub record SavesErases (d : Numbers) (e : Event) : Type 0 where
  -- a second write leaves every erase count as it was, and so does an idle call
  pub second : e.reply ≡ Second → SameErases e
  pub idle : (n : ℕ) → e.line ≡ Idle n → SameErases e
  -- any line raises the sum of the erase counts by so much at most
  pub once : erased e.after ≤ erased e.before + erases_at_most d e.before e.line e.reply

abbrev pub AllSaveErases : Numbers → List Event → Type 0
AllSaveErases d events = All (SavesErases d) events

-- the most erases of a run
abbrev pub most_erases : Numbers → List Event → ℕ
most_erases d events = sum_by (λ e. erases_at_most d e.before e.line e.reply) events
