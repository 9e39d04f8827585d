-- Where a write goes.
use Rattle.std.specs.Prelude.{◌≡◌, ℕ, ◌+◌, ◌-◌, Bool, true, false, List, Some, None}
use Rattle.cell_die.specs.Cells.{IsAbove}
use Rattle.cell_die.specs.Changes.{SameCells}
use Rattle.reuse_pool.specs.declared.unit.ReuseUnit.{ReuseUnit}
use Rattle.page_codec.specs.declared.place.Place.{Place}
use Rattle.page_codec.specs.Geometry.{unit_page, unit_at}
use Rattle.page_codec.specs.Puts.{first_slot}
use Rattle.page_codec.specs.Sectors.{zero_sector, InCells}
use Rattle.rssd_core.specs.declared.device.Placed.{Placed}
use Rattle.rssd_core.specs.declared.device.Placed.TheVariants.{First, Second, Declined}
use Rattle.rssd_core.specs.Rules.{next_page, offer_of}
use Rattle.rssd_core.specs.Calls.{copies_due, named_page, offer_reads}
use Rattle.rssd_core.specs.Erases.{erase_due, Erased, ErasedOrFailed}
use Rattle.rssd_core.specs.Given.{InPart}
use Rattle.page_codec.specs.Records.{live_record}
use Rattle.rssd_core.specs.DeviceValue.{Numbers, DeviceView}

-- the first page of a unit
abbrev pub page_of_unit : Numbers → ReuseUnit → ℕ
page_of_unit d unit = unit_page d.geometry unit.block unit.number

-- the main bytes of a unit
abbrev pub cells_of_unit : Numbers → DeviceView → ReuseUnit → List ℕ
cells_of_unit d view unit = unit_at d.geometry view.die.cells (page_of_unit d unit)

-- some cells above a unit's carry the sector
abbrev pub CanCarry : Numbers → DeviceView → ReuseUnit → List ℕ → Type 0
CanCarry d view unit sector = (cells : List ℕ) × IsAbove cells (cells_of_unit d view unit) × (d.meaning.decoding.second_carries cells sector ≡ true)

-- some unit is offered, and it can carry the sector
abbrev pub OfferCarries : Numbers → DeviceView → List ℕ → Type 0
OfferCarries d view sector = (unit : ReuseUnit) × (offer_of view.book ≡ Some unit) × CanCarry d view unit sector

-- some unit is offered, and it cannot carry the sector
abbrev pub OfferDeclines : Numbers → DeviceView → List ℕ → Type 0
OfferDeclines d view sector = (unit : ReuseUnit) × (offer_of view.book ≡ Some unit) × (CanCarry d view unit sector → ⊥)

-- the slot that is offered, on the first page of its unit
abbrev pub slot_of_unit : Numbers → ReuseUnit → Place
slot_of_unit d unit = record { page = page_of_unit d unit; slot = unit.slot }

-- the live record of a sector stands in this slot; it is of this kind, and has the last number that was drawn
abbrev pub RecordAt : Numbers → DeviceView → ℕ → Place → ℕ → Type 0
RecordAt d view sector place kind =
    live_record d.geometry view.die.cells sector ≡ Some (record { place = place; header = record { sector = sector; seq = view.seq - 1; kind = kind } })

-- The sector's record of kind 1 stands in the offer's slot. The unit carries the bytes, in the cells that a later write of them
-- gives over the old ones.
pub record OverUnit (d : Numbers) (old new : DeviceView) (sector : ℕ) (bytes : List ℕ) (unit : ReuseUnit) : Type 0 where
  pub live : RecordAt d new sector (slot_of_unit d unit) 1
  pub above : IsAbove (cells_of_unit d new unit) (cells_of_unit d old unit)
  pub carries : d.meaning.decoding.second_carries (cells_of_unit d new unit) bytes ≡ true
  pub gives : d.meaning.decoding.second_gives (cells_of_unit d old unit) bytes (cells_of_unit d new unit) ≡ true

-- The sector's record of this kind stands in slot 0 of the page that comes next by the book. The main cells of that page are those
-- that a first write of the bytes gives, and blank ones where the record says zeros.
pub record OnCleanPage (d : Numbers) (old new : DeviceView) (sector : ℕ) (bytes : List ℕ) (kind : ℕ) : Type 0 where
  pub live : RecordAt d new sector (first_slot (named_page old.book (next_page old.book))) kind
  pub cells : InCells d.geometry d.meaning.decoding new.die.cells (named_page old.book (next_page old.book)) (record { sector = sector; seq = new.seq - 1; kind = kind }) bytes

-- What a record on a clean page draws and erases: a number for each copy of a collection and one for itself, and the block that
-- was to be erased for its page.
pub record GetsPage (old new : DeviceView) : Type 0 where
  pub drawn : new.seq ≡ old.seq + copies_due old.book (next_page old.book) + 1
  pub erased : Erased (erase_due old.book (next_page old.book)) old.die new.die

-- a record over a unit draws one number, and erases nothing
pub record TakesOver (old new : DeviceView) : Type 0 where
  pub drawn : new.seq ≡ old.seq + 1
  pub erases : new.die.erases ≡ old.die.erases

-- what a write that was answered so draws and erases
abbrev pub WriteDraws : DeviceView → DeviceView → Placed → Type 0
WriteDraws old new First = GetsPage old new
WriteDraws old new Second = TakesOver old new
WriteDraws old new Declined = GetsPage old new

-- what a write that failed may have erased
pub record WriteErased (d : Numbers) (old : DeviceView) (bytes : List ℕ) (new : DeviceView) : Type 0 where
  pub over : OfferCarries d old bytes → new.die.erases ≡ old.die.erases
  pub clean : (OfferCarries d old bytes → ⊥) → ErasedOrFailed (erase_due old.book (next_page old.book)) (offer_reads d.geometry (offer_of old.book)) old.die new.die

-- What a write whose offer carries the bytes leaves where it failed: no cell is changed where a read failed, and the unit has part
-- of its new cells where a change call did and stopped the device.
abbrev pub FailsOver : Numbers → DeviceView → List ℕ → Bool → DeviceView → Type 0
FailsOver d old bytes false new = SameCells old.die new.die
FailsOver d old bytes true new = (unit : ReuseUnit) → offer_of old.book ≡ Some unit
    → InPart d.geometry d.meaning.decoding (page_of_unit d unit) bytes old.die.cells new.die.cells

-- A trim of a sector that holds bytes leaves a record of kind 3 on the page that comes next; any other changes nothing.
abbrev pub TrimLeaves : Numbers → DeviceView → DeviceView → ℕ → Bool → Type 0
TrimLeaves d old new sector true = OnCleanPage d old new sector (zero_sector d.geometry) 3 × GetsPage old new
TrimLeaves d old new sector false = new ≡ old

-- where a write that was answered so went
abbrev pub WentTo : Numbers → DeviceView → DeviceView → ℕ → List ℕ → Placed → Type 0
WentTo d old new sector bytes First = (offer_of old.book ≡ None) × OnCleanPage d old new sector bytes 1
WentTo d old new sector bytes Second = OfferCarries d old bytes × ((unit : ReuseUnit) → offer_of old.book ≡ Some unit → OverUnit d old new sector bytes unit)
WentTo d old new sector bytes Declined = OfferDeclines d old bytes × OnCleanPage d old new sector bytes 1
