-- What every put keeps of a device's records, whatever its outcome.
use Rattle.std.specs.Prelude.{◌≡◌, ℕ, ◌<◌, ◌≤◌, true, false, List, Some}
use Rattle.zero_count.specs.declared.Header.{Header}
use Rattle.zero_count.specs.HeaderWord.{IsHeader}
use Rattle.cell_die.specs.DieState.{DieState}
use Rattle.cell_die.specs.Pads.{NoPadCharged}
use Rattle.spare_gate.specs.Slots.{is_gate_charged}
use Rattle.page_codec.specs.declared.place.Place.{Place}
use Rattle.page_codec.specs.Geometry.{Geometry, page_count, shape_of, spare_at}
use Rattle.page_codec.specs.Records.{header_in, committed_in, is_copy, may_hold, live_record}
use Rattle.page_codec.specs.Gate.{GateWins}
use Rattle.page_codec.specs.Sound.{HeadersBelow, SeqsDiffer, SeqsBelow}

-- a slot of a device of these numbers, on this die
pub record IsSlotOf (g : Geometry) (place : Place) (die : DieState) : Type 0 where
  pub shape : die.shape ≡ shape_of g
  pub page : place.page < page_count g
  pub slot : place.slot < g.generations

-- a record may stand in the slot with this header
pub record HoldsRecord (g : Geometry) (place : Place) (h : Header) : Type 0 where
  pub slots : 1 ≤ g.generations
  pub may : may_hold g place ≡ true
  pub sector : h.sector < g.sectors
  pub header : IsHeader h

-- the header's seq is greater than that of every committed record
abbrev pub IsNewest : Geometry → List (List ℕ) → Header → Type 0
IsNewest g cells h = (other : Place) (k : Header) → committed_in g cells other ≡ Some k → k.seq < h.seq

-- the header's seq is greater than that of every valid header
abbrev pub IsFresh : Geometry → List (List ℕ) → Header → Type 0
IsFresh g cells h = (other : Place) (k : Header) → header_in g cells other ≡ Some k → k.seq < h.seq

-- Up to its gate a put changes no live record. From its gate on its record, where it is no copy and newer than all, is the
-- live one of its sector, and no other sector's changes.
pub record ChangesAtGate (g : Geometry) (place : Place) (h : Header) (old new : List (List ℕ)) : Type 0 where
  pub before : is_gate_charged (spare_at g new place.page) place.slot ≡ false → (sector : ℕ) → live_record g new sector ≡ live_record g old sector
  pub from_then : is_gate_charged (spare_at g new place.page) place.slot ≡ true → HoldsRecord g place h → is_copy h ≡ false → IsNewest g old h → GateWins g old new place h

-- a put keeps these parts of sound cells, those of the seqs where its own is fresh and below the bound
pub record KeepsSound (g : Geometry) (h : Header) (old new : List (List ℕ)) : Type 0 where
  pub header_cells : HeadersBelow g old → HeadersBelow g new
  pub different_seqs : IsFresh g old h → SeqsDiffer g old → SeqsDiffer g new
  pub bounded_seqs : (bound : ℕ) → h.seq < bound → SeqsBelow g bound old → SeqsBelow g bound new

-- all that a put keeps
pub record Keeps (g : Geometry) (place : Place) (h : Header) (old new : List (List ℕ)) : Type 0 where
  pub gate : ChangesAtGate g place h old new
  pub sound : KeepsSound g h old new
  pub pads : NoPadCharged (shape_of g) old → NoPadCharged (shape_of g) new

-- .. on every device that the die serves
abbrev pub KeepsRecords : Place → Header → DieState → DieState → Type 0
KeepsRecords place h old new = (g : Geometry) → IsSlotOf g place old → IsHeader h → Keeps g place h old.cells new.cells
