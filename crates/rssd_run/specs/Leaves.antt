-- What a line leaves of its own record, of the next seq and of the erase counts.
use Rattle.std.specs.Prelude.{◌≡◌}
use Rattle.rssd_script.specs.declared.lines.Line.{Line}
use Rattle.rssd_script.specs.declared.lines.Line.TheVariants.{Write, Trim}
use Rattle.rssd_script.specs.declared.replies.Reply.{Reply}
use Rattle.rssd_script.specs.declared.replies.Reply.TheVariants.{First, Second, Declined, Done, Fault}
use Rattle.rssd_core.specs.declared.device.Placed.TheVariants.{First as PutFirst, Second as PutSecond, Declined as PutDeclined}
use Rattle.rssd_core.specs.SectorArray.{filled_up}
use Rattle.rssd_core.specs.DeviceValue.{Numbers}
use Rattle.rssd_core.specs.Erases.{erase_due, ErasedOrFailed}
use Rattle.rssd_core.specs.Rules.{next_page}
use Rattle.rssd_core.specs.Within.{holds_bytes, record_of}
use Rattle.rssd_core.specs.Writes.{WriteDraws, WriteErased, TrimLeaves}
use Rattle.rssd_run.specs.View.{Event}

-- A write that was done draws a number for each copy and one for its record, and erases the block that its page needed; a second
-- write draws one and erases none. A trim leaves a record of zeros in the same way, or changes nothing. A write or trim that
-- failed erased at most that block. No other line raises an erase count.
abbrev pub Leaves : Numbers → Event → Line → Reply → Type 0
Leaves d e (Write sector bytes) First = WriteDraws e.before.device e.after.device PutFirst
Leaves d e (Write sector bytes) Second = WriteDraws e.before.device e.after.device PutSecond
Leaves d e (Write sector bytes) Declined = WriteDraws e.before.device e.after.device PutDeclined
Leaves d e (Write sector bytes) Fault = WriteErased d e.before.device (filled_up d.geometry.sector_bytes bytes) e.after.device
Leaves d e (Trim sector) Done = TrimLeaves d e.before.device e.after.device sector (holds_bytes (record_of d e.before.device sector))
Leaves d e (Trim sector) Fault = ErasedOrFailed (erase_due e.before.device.book (next_page e.before.device.book)) 0 e.before.device.die e.after.device.die
Leaves d e line reply = e.after.device.die.erases ≡ e.before.device.die.erases
