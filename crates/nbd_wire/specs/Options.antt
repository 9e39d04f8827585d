-- The head of an option: the magic number of options, its kind and the length of its data.
use Rattle.std.specs.Prelude.{◌≡◌, ℕ, ◌+◌, ◌*◌, ◌^◌, ◌<◌, ◌≤◌, List, [], ◌∷◌, ◌++◌, length, slice_get, unwrap_or}
use Rattle.nbd_wire.specs.declared.option.OptionKind.{OptionKind}
use Rattle.nbd_wire.specs.declared.option.OptionKind.TheVariants.{ExportName, Abort, ListExports, Info, Go, Other}
use Rattle.nbd_wire.specs.declared.option.OptionHead.{OptionHead}
use Rattle.nbd_wire.specs.Numbers.{word, long, half_at, word_at}

unfoldable pub kind_number : OptionKind → ℕ
kind_number ExportName = 1
kind_number Abort = 2
kind_number ListExports = 3
kind_number Info = 6
kind_number Go = 7
kind_number (Other number) = number

-- the kinds of the first numbers
abbrev pub first_kinds : List OptionKind
first_kinds = Other 0 ∷ ExportName ∷ Abort ∷ ListExports ∷ Other 4 ∷ Other 5 ∷ Info ∷ Go ∷ []

-- the kind of a number
unfoldable pub kind_of : ℕ → OptionKind
kind_of number = unwrap_or (slice_get first_kinds number) (Other number)

-- a kind that has a name is not given by its number
abbrev pub IsKind : OptionKind → Type 0
IsKind kind = kind_of (kind_number kind) ≡ kind

unfoldable pub option_bytes : OptionHead → List ℕ
option_bytes o = long 0x4948_4156_454F_5054 ++ word (kind_number o.kind) ++ word o.length

-- the option whose numbers stand there
unfoldable pub option_in : List ℕ → OptionHead
option_in bytes = record { kind = kind_of (word_at 8 bytes); length = word_at 12 bytes }

-- the numbers fit their places
pub record IsOption (o : OptionHead) : Type 0 where
  pub kind : IsKind o.kind
  pub number : kind_number o.kind < 2 ^ 32
  pub length : o.length < 2 ^ 32

-- The data of `Info` and `Go`: a name behind its length, and then the numbers of what is asked, of two bytes each, behind
-- their count.
pub record IsChoice (bytes : List ℕ) : Type 0 where
  pub room : 6 ≤ length bytes
  pub name : 6 + word_at 0 bytes ≤ length bytes
  pub whole : length bytes ≡ 6 + word_at 0 bytes + 2 * half_at (4 + word_at 0 bytes) bytes
