-- What a session shows of its device.
use Rattle.std.specs.Prelude.{◌≡◌, ◌⊎◌, ℕ}
use Rattle.rssd_script.specs.declared.replies.Reply.{Reply}
use Rattle.rssd_script.specs.declared.replies.Reply.TheVariants.{First, Second, Declined}
use Rattle.rssd_core.specs.declared.device.Placed.{Placed}
use Rattle.rssd_core.specs.declared.device.Placed.TheVariants.{First as PutFirst, Second as PutSecond, Declined as PutDeclined}
use Rattle.page_codec.specs.Sound.{IsSound}
use Rattle.rssd_core.specs.Failures.{cut_of}
use Rattle.cell_die.specs.Counts.{count_sum}
use Rattle.cell_die.specs.DieState.{DieState}
use Rattle.rssd_core.specs.DeviceValue.{Numbers, DeviceView, DeviceValue, rows_of}
use Rattle.rssd_run.specs.ArrayWithCuts.{ArrayState, On, Off}
use Rattle.rssd_run.specs.View.{View}

-- the tallies of the devices that the session had before
pub record Tallies : Type 0 where
  pub first : ℕ
  pub second : ℕ
  pub declined : ℕ
  pub moved : ℕ

-- tallies on top of others
abbrev pub added_tallies : Tallies → Tallies → Tallies
added_tallies base more = record {
  first = count_sum base.first more.first;
  second = count_sum base.second more.second;
  declined = count_sum base.declined more.declined;
  moved = count_sum base.moved more.moved;
}

-- a device's view with the session's tallies
abbrev pub plus : Tallies → DeviceView → DeviceView
plus base view = record view {
  first = count_sum base.first view.first;
  second = count_sum base.second view.second;
  declined = count_sum base.declined view.declined;
  moved = count_sum base.moved view.moved;
}

-- a device that runs stands for one view
abbrev pub on : Numbers → Tallies → DeviceValue → View
on d base device = record { device = plus base device.view; array = On (rows_of d device.view) }

-- a device that is stopped stands for these
abbrev pub off : Tallies → DeviceValue → ArrayState → View
off base device array = record { device = plus base device.view; array = array }

-- over sound cells, or with no cut armed
abbrev pub Calm : Numbers → DieState → Type 0
Calm d die = IsSound d.geometry die.cells ⊎ (cut_of die ≡ 0)

-- the tallies of a view
abbrev pub tallies_of : DeviceView → Tallies
tallies_of view = record { first = view.first; second = view.second; declined = view.declined; moved = view.moved }

-- a mount that is refused leaves the array off
abbrev pub after_refusal : ArrayState → ArrayState
after_refusal (On rows) = Off rows rows
after_refusal (Off old new) = Off old new

-- the reply to a write that was placed so
abbrev pub reply_of : Placed → Reply
reply_of PutFirst = First
reply_of PutSecond = Second
reply_of PutDeclined = Declined

-- a view after a mount that was refused, and that left this die
abbrev pub refused : View → DieState → View
refused before die = record { device = record before.device { die = die }; array = after_refusal before.array }
