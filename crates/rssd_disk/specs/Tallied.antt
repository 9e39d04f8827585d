-- The tallies of a disk's device.
use Rattle.std.specs.Prelude.{◌≡◌, Option, None, Some}
use Rattle.cell_die.specs.Counts.{sum_of}
use Rattle.rssd_core.specs.DeviceValue.{DeviceView, DeviceValue}
use Rattle.rssd_disk.specs.declared.device_disk.Tallies.{Tallies}

pub record TalliesOf (view : DeviceView) (tallies : Tallies) : Type 0 where
  pub first : tallies.counts.first ≡ view.first
  pub second : tallies.counts.second ≡ view.second
  pub declined : tallies.counts.declined ≡ view.declined
  pub moved : tallies.counts.moved ≡ view.moved
  pub erased : tallies.erased ≡ sum_of view.die.erases

-- those of the device, where one is mounted
abbrev pub IsTallied : {F : Type 0} → (F → DeviceValue) → Option F → Option Tallies → Type 0
IsTallied device None tallies = tallies ≡ None
IsTallied device (Some ftl) (Some tallies) = TalliesOf (device ftl).view tallies
IsTallied device (Some ftl) None = ⊥
