-- Armed failures: a cut and a read failure come at the call that their line named.
use Rattle.std.specs.Prelude.{◌≡◌, ℕ, ◌*◌, ◌-◌, ◌<◌, ◌≤◌}
use Rattle.cell_die.specs.declared.shape.Torn.{Torn}
use Rattle.cell_die.specs.declared.shape.Torn.TheVariants.{Nothing, All, Mask}
use Rattle.cell_die.specs.Changed.{EndsCut}
use Rattle.cell_die.specs.Power.{told, with_cut, with_read_failure}
use Rattle.rssd_core.specs.Rules.{next_page}
use Rattle.page_codec.specs.Geometry.{page_count}
use Rattle.rssd_script.specs.declared.lines.Line.{Line}
use Rattle.rssd_script.specs.declared.lines.Line.TheVariants.{Write, Read, Trim, Idle, Cut, FailRead, Mount}
use Rattle.rssd_script.specs.declared.lines.TornWord.{TornWord}
use Rattle.rssd_script.specs.declared.lines.TornWord.TheVariants.{Nothing as NothingWord, All as AllWord, Mask as MaskWord}
use Rattle.rssd_script.specs.declared.replies.Reply.{Reply}
use Rattle.rssd_script.specs.declared.replies.Reply.TheVariants.{First, Second, Declined, Bytes, Done, Moves, Fault, NoSpare}
use Rattle.rssd_core.specs.declared.device.Placed.TheVariants.{First as PutFirst, Second as PutSecond, Declined as PutDeclined}
use Rattle.rssd_core.specs.SectorArray.{filled_up}
use Rattle.rssd_core.specs.Calls.{move_reads}
use Rattle.rssd_core.specs.DeviceValue.{Numbers, DeviceView}
use Rattle.rssd_core.specs.Failures.{cut_of, form_of, read_failure_of, Lowers, LowerWithin}
use Rattle.rssd_core.specs.Within.{write_calls, write_reads, WriteBounded, trim_calls, trim_reads, sector_reads, IsCollect, WithinWrite, WithinTrim, WithinIdle}
use Rattle.rssd_run.specs.View.{Event, ACut, AReadFailure}

abbrev pub form_of_word : TornWord → Torn
form_of_word NothingWord = Nothing
form_of_word AllWord = All
form_of_word (MaskWord m) = Mask m

-- a line that arms, and was answered so
abbrev pub IsArming : Line → Reply → Type 0
IsArming (Cut n torn) Done = Unit {0}
IsArming (FailRead n) Done = Unit {0}
IsArming line reply = ⊥

-- it sets that number, and nothing else of the die
abbrev pub Arms : Event → Line → Reply → Type 0
Arms e (Cut n torn) Done = e.after.device.die ≡ told (with_cut n (form_of_word torn)) e.before.device.die
Arms e (FailRead n) Done = e.after.device.die ≡ told (with_read_failure n) e.before.device.die
Arms e line reply = Unit {0}

-- the change calls of a line that ends without a fault
abbrev pub change_calls : Numbers → DeviceView → Line → Reply → ℕ
change_calls d view (Write sector bytes) First = write_calls d view PutFirst
change_calls d view (Write sector bytes) Second = write_calls d view PutSecond
change_calls d view (Write sector bytes) Declined = write_calls d view PutDeclined
change_calls d view (Trim sector) Done = trim_calls d view sector
change_calls d view (Idle n) (Moves k) = 2 * k
change_calls d view line reply = 0

-- its reads, or a bound on them
abbrev pub read_calls : Numbers → DeviceView → Line → Reply → ℕ
read_calls d view (Write sector bytes) First = write_reads d view PutFirst
read_calls d view (Write sector bytes) Second = write_reads d view PutSecond
read_calls d view (Write sector bytes) Declined = write_reads d view PutDeclined
read_calls d view (Trim sector) Done = trim_reads d view sector
read_calls d view (Read sector) (Bytes bytes) = sector_reads d view sector
read_calls d view (Idle n) (Moves k) = k * move_reads d.geometry
read_calls d view Mount Done = page_count d.geometry
read_calls d view Mount NoSpare = page_count d.geometry
read_calls d view line reply = 0

-- the number of reads is exact but for an idle call and for a write or trim that collects
abbrev pub BoundOnly : DeviceView → Line → Reply → Type 0
BoundOnly view (Write sector bytes) First = WriteBounded view PutFirst
BoundOnly view (Write sector bytes) Second = WriteBounded view PutSecond
BoundOnly view (Write sector bytes) Declined = WriteBounded view PutDeclined
BoundOnly view (Trim sector) Done = IsCollect (next_page view.book)
BoundOnly view (Idle n) (Moves k) = Unit {0}
BoundOnly view line reply = ⊥

-- At most the calls that a line makes where none fails; of an idle call those of the moves that it finished and of one more.
abbrev pub Within : Numbers → Event → Line → ℕ → ℕ → Type 0
Within d e (Write sector bytes) changes reads = WithinWrite d e.before.device (filled_up d.geometry.sector_bytes bytes) changes reads
Within d e (Trim sector) changes reads = WithinTrim d e.before.device sector changes reads
Within d e (Read sector) changes reads = (changes ≡ 0) × (reads ≤ sector_reads d e.before.device sector)
Within d e Mount changes reads = (changes ≡ 0) × (reads ≤ page_count d.geometry)
Within d e (Idle n) changes reads = WithinIdle d n e.before.device e.after.device changes reads
Within d e line changes reads = ⊥

-- the calls of a line that ends with a fault, and how far the failures were
pub record FaultWithin (d : Numbers) (e : Event) : Type 0 where
  pub changes : ℕ
  pub reads : ℕ
  pub within : Within d e e.line changes reads
  -- a cut came: the change calls before it were carried out whole, and it was cut in the form that was armed
  pub cut_came : ACut e → (cut_of e.before.device.die ≤ changes) × LowerWithin reads (read_failure_of e.before.device.die) (read_failure_of e.after.device.die)
      × EndsCut (cut_of e.before.device.die - 1) (form_of e.before.device.die) e.before.device.die e.after.device.die
  pub read_came : AReadFailure e → (read_failure_of e.before.device.die ≤ reads) × LowerWithin changes (cut_of e.before.device.die) (cut_of e.after.device.die)
      × (0 < cut_of e.after.device.die → form_of e.after.device.die ≡ form_of e.before.device.die)

-- How the armed numbers move. (That no other step arms anything is in `Lowers` and `LowerWithin`: a number 0 stays 0.)
pub record ArmedExactly (d : Numbers) (e : Event) : Type 0 where
  pub arms : Arms e e.line e.reply
  pub lowers : (IsArming e.line e.reply → ⊥) → (e.reply ≡ Fault → ⊥)
      → Lowers (change_calls d e.before.device e.line e.reply) (read_calls d e.before.device e.line e.reply) (BoundOnly e.before.device e.line e.reply) e.before.device.die e.after.device.die
  pub fault : e.reply ≡ Fault → FaultWithin d e
