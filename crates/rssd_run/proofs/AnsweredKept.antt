-- What a line on a device leaves has the device's numbers, and its die keeps what calls of it keep.
use Rattle.std.proofs.Common.{◌≡◌, ℕ, List, refl, sym, subst}
use Rattle.cell_die.specs.Calls.{Kept}
use Rattle.cell_die.proofs.Sequences.{kept_refl}
use Rattle.rssd_script.specs.declared.lines.Line.{Line}
use Rattle.rssd_script.specs.declared.lines.Line.TheVariants.{Write, Read, Trim, Idle}
use Rattle.rssd_script.specs.declared.replies.Reply.{Reply}
use Rattle.rssd_script.specs.declared.replies.Reply.TheVariants.{First, Second, Declined, Bytes, Done, Moves, Range, Long, Fault, Spent}
use Rattle.rssd_core.specs.DeviceValue.{Numbers, DeviceValue}
use Rattle.rssd_core.specs.Outcomes.{Holds}
use Rattle.rssd_run.specs.Played.{AnsweredWrite, AnsweredRead, AnsweredTrim, AnsweredIdle, Answered}

-- the same numbers, and a die that only calls changed
pub record KeepsBuilt (old new : DeviceValue) : Type 0 where
  pub numbers : new.numbers ≡ old.numbers
  pub kept : Kept old.view.die new.view.die

pub built_same : (device : DeviceValue) → KeepsBuilt device device
built_same device = record { numbers = refl; kept = kept_refl device.view.die }

module _ (d : Numbers) (old new : DeviceValue) where
  held : Holds d old new → KeepsBuilt old new
  held holds = record { numbers = holds.numbers; kept = holds.kept }

  same : new ≡ old → KeepsBuilt old new
  same is = subst (λ (device : DeviceValue). KeepsBuilt old device) (sym is) (built_same old)

  write_built : (sector : ℕ) (bytes : List ℕ) (reply : Reply) → AnsweredWrite d sector bytes reply old new → KeepsBuilt old new
  write_built sector bytes First a = held a.holds
  write_built sector bytes Second a = held a.holds
  write_built sector bytes Declined a = held a.holds
  write_built sector bytes Fault a = held a.holds
  write_built sector bytes Range a = same a.1
  write_built sector bytes Long a = same a.2
  write_built sector bytes Spent a = same a.3
  write_built sector bytes reply a = absurd a

  read_built : (sector : ℕ) (reply : Reply) → AnsweredRead d sector reply old new → KeepsBuilt old new
  read_built sector (Bytes bytes) a = held a.holds
  read_built sector Fault a = held a.holds
  read_built sector Range a = same a.1
  read_built sector reply a = absurd a

  trim_built : (sector : ℕ) (reply : Reply) → AnsweredTrim d sector reply old new → KeepsBuilt old new
  trim_built sector Done a = held a.holds
  trim_built sector Fault a = held a.holds
  trim_built sector Range a = same a.1
  trim_built sector Spent a = same a.2
  trim_built sector reply a = absurd a

  idle_built : (n : ℕ) (reply : Reply) → AnsweredIdle d n reply old new → KeepsBuilt old new
  idle_built n (Moves k) a = held a.0
  idle_built n Fault a = held a.0
  idle_built n reply a = absurd a

  pub answered_built : (line : Line) (reply : Reply) → Answered d line reply old new → KeepsBuilt old new
  answered_built (Write sector bytes) reply a = write_built sector bytes reply a
  answered_built (Read sector) reply a = read_built sector reply a
  answered_built (Trim sector) reply a = trim_built sector reply a
  answered_built (Idle n) reply a = idle_built n reply a
  answered_built line reply a = absurd a
