-- The headline, of each line of a run.
use Rattle.std.specs.Prelude.{◌≡◌, ◌≤◌, ◌⊎◌, ◌↔◌, ℕ, zero, suc, All, List, [], ◌∷◌}
use Rattle.cell_die.specs.Counts.{Rose}
use Rattle.cell_die.specs.Changes.{NeverFalls}
use Rattle.rssd_core.specs.DeviceValue.{Numbers}
use Rattle.rssd_core.specs.SectorArray.{filled_up}
use Rattle.rssd_core.specs.Writes.{OfferDeclines}
use Rattle.rssd_script.specs.declared.replies.Reply.{Reply}
use Rattle.rssd_script.specs.declared.replies.Reply.TheVariants.{First, Second, Declined}
use Rattle.rssd_run.specs.ArrayWithCuts.{Row}
use Rattle.rssd_run.specs.View.{View, Event, NoFailure, faults}
use Rattle.rssd_run.specs.Placing.{IsTried}

-- the reply to a write that was done
abbrev pub IsWritten : Reply → Type 0
IsWritten First = Unit {0}
IsWritten Second = Unit {0}
IsWritten Declined = Unit {0}
IsWritten reply = ⊥

abbrev pub FaultsRose : Event → Type 0
FaultsRose e = Rose (faults e.before.device.die) (faults e.after.device.die)

pub record KeepsHeadline (d : Numbers) (e : Event) : Type 0 where
  -- the reply is one of a plain sector array where only the write or trim under way at a cut is afterwards old or new
  pub replies : Row d.geometry.sector_bytes e.before.array e.line e.reply e.after.array
  -- no cell's charge falls between erases of its block
  pub charge : NeverFalls e.before.device.die e.after.device.die
  -- a second write is declined exactly where no cells above the old carry the sector, and no call failed
  pub declined : (sector : ℕ) (bytes : List ℕ) → IsTried d e sector bytes → (e.reply ≡ Declined) ↔ (NoFailure e × OfferDeclines d e.before.device (filled_up d.geometry.sector_bytes bytes))
  -- a powered write fails only where die faults rose
  pub powered : (sector : ℕ) (bytes : List ℕ) → IsTried d e sector bytes → IsWritten e.reply ⊎ FaultsRose e

-- each line keeps the headline
abbrev pub AllKeepHeadline : Numbers → List Event → Type 0
AllKeepHeadline d events = All (KeepsHeadline d) events

-- the view after so many lines of a run; past its end, some view of it
abbrev pub view_at : View → List Event → ℕ → View
view_at before events zero = before
view_at before [] (suc lines) = before
view_at before (e ∷ events) (suc lines) = view_at e.after events lines

-- no cell's charge falls between erases of its block, from any view of a run to any later one
abbrev pub ChargeNeverFalls : View → List Event → Type 0
ChargeNeverFalls before events = (i j : ℕ) → i ≤ j → NeverFalls (view_at before events i).device.die (view_at before events j).device.die
