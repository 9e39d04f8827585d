-- What the one call for a command leaves is what its line leaves.
use Rattle.std.proofs.Common.{◌≡◌, ℕ, ◌-◌, ◌++◌, List, length, replicate, false, Option, None, Some, IfSome, sym, ap, ◌∙◌, subst, arith, append-nil}
use Rattle.rssd_core.specs.declared.device.Placed.TheVariants.{First as PutFirst, Second as PutSecond, Declined as PutDeclined}
use Rattle.rssd_core.specs.declared.device.FtlError.TheVariants.{BadSector, Stopped, DieFault, Spent as NumbersSpent}
use Rattle.rssd_core.specs.SectorArray.{filled_up, without_zeros}
use Rattle.rssd_core.specs.DeviceValue.{Numbers, DeviceValue}
use Rattle.rssd_core.specs.Outcomes.{Holds}
use Rattle.rssd_queue.specs.declared.ask.Ask.{Ask}
use Rattle.rssd_queue.specs.declared.ask.Ask.TheVariants as asks
use Rattle.rssd_queue.specs.declared.serve.Answer.{Answer}
use Rattle.rssd_queue.specs.declared.serve.Answer.TheVariants.{Wrote as AnswersWrote, Bytes as Row, Trimmed as AnswersTrimmed, Refused}
use Rattle.rssd_queue.specs.Waiting.{Waiting, IsAsked}
use Rattle.rssd_queue.specs.Called.{Outcome, Called, Serves}
use Rattle.rssd_script.specs.declared.replies.Reply.{Reply}
use Rattle.rssd_script.specs.declared.replies.Reply.TheVariants.{Off as SaysOff}
use Rattle.rssd_run.specs.Played.{Answered}
use Rattle.rssd_run.specs.Steps.{IsKept, Steps}
use Rattle.rssd_run.specs.Shows.{SessionValue, IsDeviceLine, StepsSession}
use Rattle.rssd_run.specs.Serves.{line_of, reply_to, TakesOff, ServesDevice, ServesSession}
use Rattle.rssd_run.proofs.Answered.{answered_steps}

-- bytes that fill a sector are filled up with none
pub filled_whole : (size : ℕ) (bytes : List ℕ) → length bytes ≡ size → filled_up size bytes ≡ bytes
filled_whole size bytes whole =
    let none : size - length bytes ≡ 0 = omega (arith, whole) in
    ap (λ n. bytes ++ replicate n 0) none ∙ append-nil bytes

module _ (d : Numbers) (old new : DeviceValue) (runs : old.stopped ≡ false) (holds : Holds d old new) where
  answered : (ask : Ask) (answer : Answer) → IsAsked d.geometry.sectors d.geometry.sector_bytes ask → Outcome d ask answer old new → Answered d (line_of ask) (reply_to answer) old new
  answered (asks.Write sector bytes) (AnswersWrote PutFirst) asked so =
      record { in_range = asked.in_range; fits = omega (arith, asked.whole); holds = holds; wrote = rw (filled_whole d.geometry.sector_bytes bytes asked.whole) so.1 }
  answered (asks.Write sector bytes) (AnswersWrote PutSecond) asked so =
      record { in_range = asked.in_range; fits = omega (arith, asked.whole); holds = holds; wrote = rw (filled_whole d.geometry.sector_bytes bytes asked.whole) so.1 }
  answered (asks.Write sector bytes) (AnswersWrote PutDeclined) asked so =
      record { in_range = asked.in_range; fits = omega (arith, asked.whole); holds = holds; wrote = rw (filled_whole d.geometry.sector_bytes bytes asked.whole) so.1 }
  answered (asks.Write sector bytes) (Refused DieFault) asked so =
      record { in_range = asked.in_range; fits = omega (arith, asked.whole); holds = holds; fault = rw (filled_whole d.geometry.sector_bytes bytes asked.whole) so.1 }
  answered (asks.Write sector bytes) (Refused NumbersSpent) asked so = (asked.in_range, omega (arith, asked.whole), so.1, so.2)
  answered (asks.Write sector bytes) (Refused Stopped) asked so = cc
  answered (asks.Write sector bytes) (Refused BadSector) asked so = absurd so
  answered (asks.Write sector bytes) (Row row) asked so = absurd so
  answered (asks.Write sector bytes) AnswersTrimmed asked so = absurd so
  answered (asks.Read sector) (Row row) asked so =
      record { in_range = asked.in_range; holds = holds; only_die = so.only_die; calls = so.calls; row = ap without_zeros so.row }
  answered (asks.Read sector) (Refused DieFault) asked so = record { in_range = asked.in_range; holds = holds; only_die = so.only_die; failed = so.failed }
  answered (asks.Read sector) (Refused Stopped) asked so = cc
  answered (asks.Read sector) (Refused NumbersSpent) asked so = absurd so
  answered (asks.Read sector) (Refused BadSector) asked so = absurd so
  answered (asks.Read sector) (AnswersWrote placed) asked so = absurd so
  answered (asks.Read sector) AnswersTrimmed asked so = absurd so
  answered (asks.Trim sector) AnswersTrimmed asked so = record { in_range = asked.in_range; holds = holds; trimmed = so.1 }
  answered (asks.Trim sector) (Refused DieFault) asked so = record { in_range = asked.in_range; holds = holds; fault = so.1 }
  answered (asks.Trim sector) (Refused NumbersSpent) asked so = (asked.in_range, so.1, so.2)
  answered (asks.Trim sector) (Refused Stopped) asked so = cc
  answered (asks.Trim sector) (Refused BadSector) asked so = absurd so
  answered (asks.Trim sector) (AnswersWrote placed) asked so = absurd so
  answered (asks.Trim sector) (Row row) asked so = absurd so

pub called_answers : (d : Numbers) (ask : Ask) (answer : Answer) (old new : DeviceValue) → IsAsked d.geometry.sectors d.geometry.sector_bytes ask → old.stopped ≡ false → Called d ask answer old new
    → Answered d (line_of ask) (reply_to answer) old new
called_answers d ask answer old new asked runs called = answered d old new runs called.holds ask answer asked called.outcome

-- ---- serves

pub device_serves : (d : Numbers) (queue queue_after : Waiting) (tag : ℕ) (answer : Answer) (reply : Reply) (old new : DeviceValue) → old.stopped ≡ false → IsKept d old → reply ≡ reply_to answer
    → Serves d tag answer queue queue_after old new → ServesDevice d tag reply queue queue_after old new
device_serves d queue queue_after tag answer reply old new runs kept is serves = record {
  command = serves.command;
  taken = serves.taken;
  same_tag = serves.same_tag;
  step = answered_steps d old new kept runs (line_of serves.command.ask) reply
      (subst (λ (r : Reply). Answered d (line_of serves.command.ask) r old new) (sym is) (called_answers d serves.command.ask answer old new serves.asked runs serves.called));
}

-- the line of a command is one that a device answers
pub asks_device : (ask : Ask) → IsDeviceLine (line_of ask)
asks_device (asks.Write sector bytes) = tt
asks_device (asks.Read sector) = tt
asks_device (asks.Trim sector) = tt

-- from what an option's value has to what else it has
pub some_then : {T : Type 0} (o : Option T) (P Q : T → Type 0) → ((x : T) → P x → Q x) → IfSome o P → IfSome o Q
some_then None P Q next holds = tt
some_then (Some x) P Q next holds = next x holds

-- a serve on a session of steps that its lines are
pub session_serves : (d : Numbers) (queue queue_after : Waiting) (told : ℕ × Reply) (old new : SessionValue) → (told.1 ≡ SaysOff) × TakesOff told.0 queue queue_after
    → ((ask : Ask) → StepsSession d (line_of ask) SaysOff old new) → ServesSession d told.0 told.1 queue queue_after old new
session_serves d queue queue_after told old new taken steps = record {
  command = taken.1.command;
  taken = taken.1.taken;
  same_tag = taken.1.same_tag;
  step = subst (λ (r : Reply). StepsSession d (line_of taken.1.command.ask) r old new) (sym taken.0) (steps taken.1.command.ask);
}

pub session_serves_on : (d : Numbers) (queue queue_after : Waiting) (told : ℕ × Reply) (device device_after : DeviceValue) (old new : SessionValue)
    → ServesDevice device.numbers told.0 told.1 queue queue_after device device_after
    → ((ask : Ask) → Steps device.numbers (line_of ask) told.1 device device_after → StepsSession d (line_of ask) told.1 old new) → ServesSession d told.0 told.1 queue queue_after old new
session_serves_on d queue queue_after told device device_after old new served steps = record {
  command = served.command;
  taken = served.taken;
  same_tag = served.same_tag;
  step = steps served.command.ask served.step;
}
