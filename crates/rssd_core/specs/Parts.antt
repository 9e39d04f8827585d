-- A mounted device by its parts.
use Rattle.std.specs.Prelude.{◌≡◌, ℕ, false}
use Rattle.striped.specs.Meaning.{Meaning}
use Rattle.page_codec.specs.TrueBook.{RecyclingDone}
use Rattle.rssd_core.specs.declared.whole.Tallies.{Tallies}
use Rattle.rssd_core.specs.DeviceValue.{DeviceValue}
use Rattle.rssd_core.specs.Held.{Held}

-- the store, how many blocks may be Recycled at once, and the tallies of writes
pub record Parts (C : Type 0) : Type 0 where
  pub store : Held C
  pub reuse_max : ℕ
  pub tallies : Tallies

-- while no change call failed no block is due to be Recycled
abbrev pub IsSettled : {C : Type 0} → Parts C → Type 0
IsSettled parts = parts.store.stopped ≡ false → RecyclingDone parts.reuse_max parts.store.cells.book

-- what contracts see of the parts, by what the scheme shows
abbrev pub device_of : {C : Type 0} → (C → Meaning) → Parts C → DeviceValue
device_of meaning parts = record {
  numbers = record { geometry = parts.store.geometry; meaning = meaning parts.store.scheme; reuse_max = parts.reuse_max };
  view = record {
    die = parts.store.cells.die;
    book = parts.store.cells.book;
    seq = parts.store.cells.seq;
    first = parts.tallies.first;
    second = parts.tallies.second;
    declined = parts.tallies.declined;
    moved = parts.store.moved;
  };
  stopped = parts.store.stopped;
}
