-- Chunks that stand side by side in a row, by words that hold their cells and their messages.
use Rattle.std.specs.Prelude.{◌≡◌, ℕ, ◌+◌, ◌*◌, ◌≤◌, ◌<◌, Bool, true, List, length}
use Rattle.std.specs.Int.{bit_at}
use Rattle.cell_bits.specs.Cells.{charge_at}
use Rattle.wom_code.specs.Cells.{Carries, NoneCarries}
use Rattle.wom_code.specs.Groups.{chunk_of}

-- count chunks from chunk done on: their old cells and messages stand in words, and their new cells are those of a third
pub record IsGroup (n k done count : ℕ) (old new sector : List ℕ) (cells messages out : ℕ) : Type 0 where
  pub same_length : length new ≡ length old
  pub taken : (i : ℕ) → i < count * n → bit_at cells i ≡ charge_at old (done * n + i)
  pub told : (i : ℕ) → i < count * k → bit_at messages i ≡ charge_at sector (done * k + i)
  pub put : (i : ℕ) → i < count * n → charge_at new (done * n + i) ≡ bit_at out i
  pub below : (c : ℕ) → c < done * n → charge_at new c ≡ charge_at old c
  pub above : (c : ℕ) → done * n + count * n ≤ c → charge_at new c ≡ charge_at old c

-- the messages of the chunks were written over their cells, in cells that the code gives, and no other cell changed
pub record WritesGroup (n k done count : ℕ) (decode : List Bool → List Bool) (given : List Bool → List Bool → List Bool → Bool) (old new sector : List ℕ) : Type 0 where
  pub cells : ℕ
  pub messages : ℕ
  pub out : ℕ
  pub group : IsGroup n k done count old new sector cells messages out
  pub carries : (j : ℕ) → j < count → Carries decode (chunk_of n cells j) (chunk_of k messages j) (chunk_of n out j)
  pub gives : (j : ℕ) → j < count → given (chunk_of n cells j) (chunk_of k messages j) (chunk_of n out j) ≡ true

-- one of the chunks does not take its message
pub record DeclinesGroup (n k done count : ℕ) (decode : List Bool → List Bool) (old sector : List ℕ) : Type 0 where
  pub cells : ℕ
  pub messages : ℕ
  pub place : ℕ
  pub within : place < count
  pub taken : (i : ℕ) → i < count * n → bit_at cells i ≡ charge_at old (done * n + i)
  pub told : (i : ℕ) → i < count * k → bit_at messages i ≡ charge_at sector (done * k + i)
  pub none : NoneCarries decode n (chunk_of n cells place) (chunk_of k messages place)

-- the messages of the chunks were put as far as they stand within the sector, and none before them changed
pub record ReadsGroup (n k done count : ℕ) (decode : List Bool → List Bool) (bytes old new : List ℕ) : Type 0 where
  pub cells : ℕ
  pub messages : ℕ
  pub taken : (i : ℕ) → i < count * n → bit_at cells i ≡ charge_at bytes (done * n + i)
  pub decodes : (j : ℕ) → j < count → chunk_of k messages j ≡ decode (chunk_of n cells j)
  pub put : (i : ℕ) → i < count * k → done * k + i < 8 * length old → charge_at new (done * k + i) ≡ bit_at messages i
  pub below : (c : ℕ) → c < done * k → charge_at new c ≡ charge_at old c
