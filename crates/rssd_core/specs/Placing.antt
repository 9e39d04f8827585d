-- How the put of a write ends, by its steps.
use Rattle.std.specs.Prelude.{◌≡◌, ◌⊎◌, ℕ, List, length, Result, Ok, Err}
use Rattle.zero_count.specs.declared.Header.{Header}
use Rattle.cell_die.specs.Counts.{count_sum}
use Rattle.striped.specs.Meaning.{Decoding}
use Rattle.reuse_pool.specs.declared.unit.ReuseUnit.{ReuseUnit}
use Rattle.reuse_pool.specs.Offer.{IsOffer, NoneRecycledBelow}
use Rattle.page_codec.specs.Geometry.{Geometry}
use Rattle.page_codec.specs.declared.fault.PutFault.{PutFault}
use Rattle.page_codec.specs.declared.fault.PutFault.TheVariants as faults
use Rattle.collector.specs.Store.{Store}
use Rattle.rssd_core.specs.declared.device.Placed.{Placed}
use Rattle.rssd_core.specs.declared.device.Placed.TheVariants.{First, Second, Declined}
use Rattle.rssd_core.specs.Steps.{Opened, OpenReadFailed, OpenChangeFailed, PutNext, PutNextFailed, PutOver, OverDeclined, OverReadFailed, OverChangeFailed}

-- the header of a sector's bytes
abbrev pub header_at : ℕ → ℕ → Header
header_at sector seq = record { sector = sector; seq = seq; kind = 1 }

-- a page came to hand, and the tally of moved records rose
pub record CameToHand (g : Geometry) (d : Decoding) (page : ℕ) (old new : Store) (moved moved' : ℕ) : Type 0 where
  pub rise : ℕ
  pub opened : Opened g d page rise old new
  pub tally : moved' ≡ count_sum moved rise

-- how getting a page ends
abbrev pub OpenEnds : Geometry → Decoding → Result ℕ PutFault → Store → Store → ℕ → ℕ → Type 0
OpenEnds g d (Ok page) old new moved moved' = CameToHand g d page old new moved moved'
OpenEnds g d (Err (faults.Read)) old new moved moved' = OpenReadFailed g d 0 0 old new × (moved' ≡ moved)
OpenEnds g d (Err (faults.Change)) old new moved moved' = OpenChangeFailed g d 0 0 old new × (moved' ≡ moved)

-- A page came to hand, and the sector stands on it.
pub record CleanPut (g : Geometry) (d : Decoding) (sector : ℕ) (row : List ℕ) (old new : Store) (moved moved' : ℕ) : Type 0 where
  pub page : ℕ
  pub rise : ℕ
  pub mid : Store
  pub opened : Opened g d page rise old mid
  pub put : PutNext g d page (header_at sector mid.seq) row mid new
  pub tally : moved' ≡ count_sum moved rise

-- A page came to hand, and the put on it failed.
pub record CleanPutFailed (g : Geometry) (d : Decoding) (sector : ℕ) (row : List ℕ) (old new : Store) (moved moved' : ℕ) : Type 0 where
  pub page : ℕ
  pub rise : ℕ
  pub mid : Store
  pub opened : Opened g d page rise old mid
  pub put : PutNextFailed g d (header_at sector mid.seq) row mid new
  pub tally : moved' ≡ count_sum moved rise

-- how a put to a clean page ends
abbrev pub CleanEnds : Geometry → Decoding → ℕ → List ℕ → Result (Unit {0}) PutFault → Store → Store → ℕ → ℕ → Type 0
CleanEnds g d sector row (Ok done) old new moved moved' = CleanPut g d sector row old new moved moved'
CleanEnds g d sector row (Err (faults.Read)) old new moved moved' = OpenReadFailed g d 0 0 old new × (moved' ≡ moved)
CleanEnds g d sector row (Err (faults.Change)) old new moved moved' = (OpenChangeFailed g d 0 0 old new × (moved' ≡ moved)) ⊎ CleanPutFailed g d sector row old new moved moved'

-- no unit is offered, and a put to a clean page ends so
pub record NotOffered (g : Geometry) (d : Decoding) (sector : ℕ) (row : List ℕ) (result : Result (Unit {0}) PutFault) (old new : Store) (moved moved' : ℕ) : Type 0 where
  pub none : NoneRecycledBelow old.book (length old.book.states)
  pub ends : CleanEnds g d sector row result old new moved moved'

-- a unit is offered and declines, and a put to a clean page ends so
pub record Turned (g : Geometry) (d : Decoding) (sector : ℕ) (row : List ℕ) (result : Result (Unit {0}) PutFault) (old new : Store) (moved moved' : ℕ) : Type 0 where
  pub unit : ReuseUnit
  pub offer : IsOffer old.book unit
  pub start : Store
  pub declined : OverDeclined g d unit row old start
  pub ends : CleanEnds g d sector row result start new moved moved'

-- a unit is offered, and the sector stands over it
pub record Carried (g : Geometry) (d : Decoding) (sector : ℕ) (row : List ℕ) (old new : Store) (moved moved' : ℕ) : Type 0 where
  pub unit : ReuseUnit
  pub offer : IsOffer old.book unit
  pub put : PutOver g d unit (header_at sector old.seq) row old new
  pub tally : moved' ≡ moved

-- a unit is offered, and a read of it failed
pub record UnitUnread (g : Geometry) (old new : Store) (moved moved' : ℕ) : Type 0 where
  pub unit : ReuseUnit
  pub offer : IsOffer old.book unit
  pub put : OverReadFailed g old new
  pub tally : moved' ≡ moved

-- a unit is offered, and a change call over it failed
pub record UnitFailed (g : Geometry) (d : Decoding) (sector : ℕ) (row : List ℕ) (old new : Store) (moved moved' : ℕ) : Type 0 where
  pub unit : ReuseUnit
  pub offer : IsOffer old.book unit
  pub put : OverChangeFailed g d unit (header_at sector old.seq) row old new
  pub tally : moved' ≡ moved

-- how the put of a write ends
abbrev pub PlaceEnds : Geometry → Decoding → ℕ → List ℕ → Result Placed PutFault → Store → Store → ℕ → ℕ → Type 0
PlaceEnds g d sector row (Ok First) old new moved moved' = NotOffered g d sector row (Ok tt) old new moved moved'
PlaceEnds g d sector row (Ok Second) old new moved moved' = Carried g d sector row old new moved moved'
PlaceEnds g d sector row (Ok Declined) old new moved moved' = Turned g d sector row (Ok tt) old new moved moved'
PlaceEnds g d sector row (Err (faults.Read)) old new moved moved' =
    NotOffered g d sector row (Err (faults.Read)) old new moved moved' ⊎ (Turned g d sector row (Err (faults.Read)) old new moved moved' ⊎ UnitUnread g old new moved moved')
PlaceEnds g d sector row (Err (faults.Change)) old new moved moved' =
    NotOffered g d sector row (Err (faults.Change)) old new moved moved' ⊎ (Turned g d sector row (Err (faults.Change)) old new moved moved' ⊎ UnitFailed g d sector row old new moved moved')
