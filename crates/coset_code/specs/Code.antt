-- What the calls of a coset code answer.
use Rattle.std.specs.Prelude.{◌≡◌, All, ℕ, ◌^◌, ◌<◌, ◌≤◌, Bool, List, length, slice_index}
use Rattle.wom_code.specs.declared.code.Carry.{Carry}
use Rattle.wom_code.specs.declared.code.Carry.TheVariants.{Carried, Declined}
use Rattle.wom_code.specs.Cells.{Carries, NoneCarries}
use Rattle.wom_code.specs.Packed.{IsRow, cells_of, words_for}
use Rattle.coset_code.specs.Sums.{syndrome, bits_of}
use Rattle.coset_code.specs.Solution.{IsBasisSolution}
use Rattle.coset_code.specs.Coordinates.{HasCoordinates}
use Rattle.coset_code.specs.declared.system.Room.{Room}
use Rattle.coset_code.specs.declared.system.System.{System}
use Rattle.coset_code.specs.Rows.{IsReady}

-- bit i of the message is the sum over GF(2) of bit i of the columns of the charged cells
abbrev pub coset_message : ℕ → List ℕ → List Bool → List Bool
coset_message k columns cells = bits_of k (syndrome columns cells)

-- a table of n columns of k bits
pub record IsTable (k n : ℕ) (columns : List ℕ) : Type 0 where
  pub some_bit : 0 < k
  pub at_most_128 : k ≤ 128
  pub count : length columns ≡ n
  pub few : n < 2 ^ 32
  pub narrow : (cell : ℕ) → slice_index columns cell < 2 ^ k

-- the columns make a code of k bits in n cells
abbrev pub IsShape : ℕ → ℕ → List ℕ → Type 0
IsShape k n columns = (1 ≤ k) × (k ≤ 128) × (length columns ≡ n) × All (λ column. column < 2 ^ k) columns

-- each column of the table has its coordinates in the full basis, whose columns are counted
pub record IsSystem (s : System) : Type 0 where
  pub coordinates : HasCoordinates s.columns.items s.coords.items s.full
  pub rank_is : s.rank ≡ length s.full.columns

-- the room fits the system, and is ready for calls by rows
pub record HasRoom (s : System) (r : Room) : Type 0 where
  pub masked : length r.masked.items ≡ length s.coords.items
  pub ready : IsReady s.coords.items s.full r.turned

-- a code's table with its system and room, and its three rows
pub record IsCoset (k n : ℕ) (system : System) (room : Room) (old message out : List ℕ) : Type 0 where
  pub table : IsTable k n system.columns.items
  pub system_of : IsSystem system
  pub room_of : HasRoom system room
  pub old_row : length old ≡ words_for n
  pub message_row : length message ≡ words_for k
  pub out_row : length out ≡ words_for n

-- what going over packed old cells answers and leaves
abbrev pub WentOver : Carry → ℕ → ℕ → List ℕ → List ℕ → List ℕ → List ℕ → List ℕ → Type 0
WentOver Carried k n columns old message before after =
    IsRow n after
    × Carries (coset_message k columns) (cells_of n old) (cells_of k message) (cells_of n after)
    × IsBasisSolution columns (cells_of n old) (cells_of n after)
WentOver Declined k n columns old message before after =
    NoneCarries (coset_message k columns) n (cells_of n old) (cells_of k message) × (after ≡ before)
