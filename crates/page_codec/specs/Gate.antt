-- What charging a gate does.
use Rattle.std.specs.Prelude.{◌≡◌, ◌≢◌, ℕ, ◌+◌, ◌*◌, ◌<◌, ◌≤◌, false, List, length, Some}
use Rattle.zero_count.specs.declared.Header.{Header}
use Rattle.cell_die.specs.Cells.{page_at}
use Rattle.spare_gate.specs.Slots.{is_gate_charged}
use Rattle.page_codec.specs.declared.place.Place.{Place}
use Rattle.page_codec.specs.Geometry.{Geometry, spare_at}
use Rattle.page_codec.specs.Records.{record_in, committed_in, is_copy, live_record}

-- a record that is no copy stands behind an uncharged gate, with a seq greater than that of every committed record
pub record AwaitsGate (g : Geometry) (cells : List (List ℕ)) (place : Place) (h : Header) : Type 0 where
  pub slots : 1 ≤ g.generations
  pub room : g.main_bytes + 16 * place.slot < length (page_at cells place.page)
  pub uncharged : is_gate_charged (spare_at g cells place.page) place.slot ≡ false
  pub there : record_in g cells place ≡ Some h
  pub single : is_copy h ≡ false
  pub newest : (other : Place) (k : Header) → committed_in g cells other ≡ Some k → k.seq < h.seq

-- the record is the live one of its sector, and no other sector's changes
pub record GateWins (g : Geometry) (old new : List (List ℕ)) (place : Place) (h : Header) : Type 0 where
  pub live : live_record g new h.sector ≡ Some (record { place = place; header = h })
  pub others : (sector : ℕ) → sector ≢ h.sector → live_record g new sector ≡ live_record g old sector
