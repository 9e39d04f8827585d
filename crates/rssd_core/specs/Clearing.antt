-- How the put of a trim ends, by its steps.
use Rattle.std.specs.Prelude.{◌≡◌, ◌⊎◌, ℕ, Bool, true, false, Option, Some, Result, Ok, Err}
use Rattle.zero_count.specs.declared.Header.{Header}
use Rattle.cell_die.specs.Counts.{count_sum}
use Rattle.striped.specs.Meaning.{Decoding}
use Rattle.sector_map.specs.declared.entry.Entry.{Entry}
use Rattle.sector_map.specs.declared.entry.Entry.TheVariants.{Held}
use Rattle.page_codec.specs.Geometry.{Geometry}
use Rattle.page_codec.specs.Sectors.{zero_sector}
use Rattle.page_codec.specs.declared.fault.PutFault.{PutFault}
use Rattle.page_codec.specs.declared.fault.PutFault.TheVariants as faults
use Rattle.collector.specs.Store.{Store}
use Rattle.rssd_core.specs.Steps.{Opened, OpenReadFailed, OpenChangeFailed, PutNext, PutNextFailed}

-- whether a map's entry names a record that holds bytes
abbrev pub is_held : Option Entry → Bool
is_held (Some (Held place)) = true
is_held _ = false

-- the header of a sector's zeros
abbrev pub zeros_header : ℕ → ℕ → Header
zeros_header sector seq = record { sector = sector; seq = seq; kind = 3 }

-- A page came to hand, and the sector's zeros stand on it.
pub record Cleared (g : Geometry) (d : Decoding) (sector : ℕ) (old new : Store) (moved moved' : ℕ) : Type 0 where
  pub page : ℕ
  pub rise : ℕ
  pub mid : Store
  pub opened : Opened g d page rise old mid
  pub put : PutNext g d page (zeros_header sector mid.seq) (zero_sector g) mid new
  pub tally : moved' ≡ count_sum moved rise

-- A page came to hand, and the put on it failed.
pub record ClearFailed (g : Geometry) (d : Decoding) (sector : ℕ) (old new : Store) (moved moved' : ℕ) : Type 0 where
  pub page : ℕ
  pub rise : ℕ
  pub mid : Store
  pub opened : Opened g d page rise old mid
  pub put : PutNextFailed g d (zeros_header sector mid.seq) (zero_sector g) mid new
  pub tally : moved' ≡ count_sum moved rise

-- how the put of a trim ends
abbrev pub ClearEnds : Geometry → Decoding → ℕ → Result (Unit {0}) PutFault → Store → Store → ℕ → ℕ → Type 0
ClearEnds g d sector (Ok done) old new moved moved' = Cleared g d sector old new moved moved'
ClearEnds g d sector (Err (faults.Read)) old new moved moved' = OpenReadFailed g d 0 0 old new × (moved' ≡ moved)
ClearEnds g d sector (Err (faults.Change)) old new moved moved' = (OpenChangeFailed g d 0 0 old new × (moved' ≡ moved)) ⊎ ClearFailed g d sector old new moved moved'
