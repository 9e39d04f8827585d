-- Images: a head, and then the cells of a die, page after page.
use Rattle.std.specs.Prelude.{◌≡◌, ℕ, ◌+◌, ◌-◌, ◌*◌, Bool, true, false, List, ◌++◌, length, take, drop, ◌&&◌, ◌==◌, not, nat_eq, nat_lt, nat_le, if◌then◌else◌, codes, Option, Some, None, Result}
use Rattle.std.specs.Prelude.{Ok, Err}
use Rattle.std.specs.Cmp.Lexicographic.{pointwise}
use Rattle.byteorder.specs.Endian.{little_number, little_bytes}
use Rattle.cell_die.specs.declared.shape.Shape.{Shape}
use Rattle.die_image.specs.declared.scheme.SchemeName.{SchemeName}
use Rattle.die_image.specs.declared.head.ImageHead.{ImageHead}
use Rattle.die_image.specs.declared.error.ImageError.{ImageError}
use Rattle.die_image.specs.declared.error.ImageError.TheVariants as errors
use Rattle.die_image.specs.Schemes.{row_of, scheme_of_number}
use Rattle.die_image.specs.Pads.{is_pad_charged}

-- the shape of a head's die
abbrev pub shape_of : ImageHead → Shape
shape_of head = record { blocks = head.blocks; pages = head.pages; main_bytes = (row_of head.scheme).page_bytes; spare_bytes = 16 * (row_of head.scheme).generations }

-- the bytes of a head's die
unfoldable pub die_bytes : ImageHead → ℕ
die_bytes head = head.blocks * head.pages * ((row_of head.scheme).page_bytes + 16 * (row_of head.scheme).generations)

-- the limits of a device
unfoldable pub is_within_limits : ImageHead → Bool
is_within_limits head =
    nat_le 2 head.blocks && nat_le head.blocks 1_024
    && nat_le 2 head.pages && nat_le head.pages 128
    && nat_le (die_bytes head) 67_108_864
    && nat_le 1 head.sectors && nat_le (head.sectors + 1) ((head.blocks - 1) * head.pages)
    && nat_le head.reuse_max head.blocks

-- the two versions: the number that stands in the image, and the bytes before the cells
abbrev pub version_number : Bool → ℕ
version_number is_old = if is_old then 1 else 2

abbrev pub head_length : Bool → ℕ
head_length is_old = if is_old then 28 else 32

-- ---- what the image of a head and of cells is

-- a number in 2 and in 4 bytes, the lowest first
unfoldable pub half : ℕ → List ℕ
half n = little_bytes 2 n

unfoldable pub word : ℕ → List ℕ
word n = little_bytes 4 n

-- the first 28 bytes: the magic, the version, the scheme's number and the head's numbers
unfoldable pub first_bytes : Bool → ImageHead → List ℕ
first_bytes is_old head =
    codes "WOMFLASH" ++ half (version_number is_old) ++ half (row_of head.scheme).number
    ++ word head.blocks ++ word head.pages ++ word head.sectors ++ word head.reuse_max

-- version 2 has the number of slots behind them
unfoldable pub image : ImageHead → List ℕ → List ℕ
image head cells = first_bytes false head ++ word (row_of head.scheme).generations ++ cells

-- version 1 has no number of slots
unfoldable pub old_image : ImageHead → List ℕ → List ℕ
old_image head cells = first_bytes true head ++ cells

-- the cells are those of a device that may have this head, and no pad cell is charged
pub record AreCells (head : ImageHead) (cells : List ℕ) : Type 0 where
  pub within : is_within_limits head ≡ true
  pub whole : length cells ≡ die_bytes head
  pub no_pad_charged : is_pad_charged (shape_of head) cells ≡ false

-- the same for version 1, whose schemes have two slots
abbrev pub AreOldCells : ImageHead → List ℕ → Type 0
AreOldCells head cells = AreCells head cells × ((row_of head.scheme).generations ≡ 2)

-- ---- what bytes say, or why they are no image

-- the numbers at a place
unfoldable pub half_at : ℕ → List ℕ → ℕ
half_at place bytes = little_number 2 (drop place bytes)

unfoldable pub word_at : ℕ → List ℕ → ℕ
word_at place bytes = little_number 4 (drop place bytes)

unfoldable pub has_magic : List ℕ → Bool
has_magic bytes = pointwise nat_eq (take 8 bytes) (codes "WOMFLASH")

-- version 2 has the scheme's number of slots in bytes 28 to 31, version 1 has schemes of two slots alone
abbrev pub has_slots : Bool → List ℕ → ImageHead → Bool
has_slots is_old bytes head = if is_old then (row_of head.scheme).generations == 2 else word_at 28 bytes == (row_of head.scheme).generations

-- the head that the bytes say, for this scheme
abbrev pub head_with : List ℕ → SchemeName → ImageHead
head_with bytes scheme = record { scheme = scheme; blocks = word_at 12 bytes; pages = word_at 16 bytes; sectors = word_at 20 bytes; reuse_max = word_at 24 bytes }

abbrev pub good_head : Bool → List ℕ → ImageHead → Result ImageHead ImageError
good_head is_old bytes head = if has_slots is_old bytes head && is_within_limits head then Ok head else Err errors.Shape

abbrev pub head_of_scheme : Bool → List ℕ → Option SchemeName → Result ImageHead ImageError
head_of_scheme is_old bytes None = Err errors.Shape
head_of_scheme is_old bytes (Some scheme) = good_head is_old bytes (head_with bytes scheme)

-- The head, or the first that holds of: too short for a head, another magic, another version, a scheme, number of slots or limit.
unfoldable pub head_read : Bool → List ℕ → Result ImageHead ImageError
head_read is_old bytes =
    if nat_lt (length bytes) (head_length is_old) then Err errors.Short
    else (if not (has_magic bytes) then Err errors.Magic
    else (if not (half_at 8 bytes == version_number is_old) then Err errors.Version
    else head_of_scheme is_old bytes (scheme_of_number (half_at 10 bytes))))

-- The head and the cells, or the first that holds of: too few bytes, too many, a charged pad cell.
abbrev pub cells_read : ImageHead → List ℕ → Result (ImageHead × List ℕ) ImageError
cells_read head cells =
    if nat_lt (length cells) (die_bytes head) then Err errors.Short
    else (if nat_lt (die_bytes head) (length cells) then Err errors.Long
    else (if is_pad_charged (shape_of head) cells then Err errors.PadCells else Ok (head, cells)))

abbrev pub cells_after : List ℕ → Result ImageHead ImageError → Result (ImageHead × List ℕ) ImageError
cells_after cells (Err why) = Err why
cells_after cells (Ok head) = cells_read head cells

-- what the bytes of an image say
unfoldable pub image_read : Bool → List ℕ → Result (ImageHead × List ℕ) ImageError
image_read is_old bytes = cells_after (drop (head_length is_old) bytes) (head_read is_old bytes)

-- The answer is what was read, seen by view, unless memory ran out.
abbrev pub Fails : {Y : Type 0} → ImageError → Result Y ImageError → Type 0
Fails errors.OutOfMemory read = Unit {0}
Fails why read = read ≡ Err why

abbrev pub Gives : {X Y : Type 0} → (X → Y) → Result X ImageError → Result Y ImageError → Type 0
Gives view (Ok x) read = read ≡ Ok (view x)
Gives view (Err why) read = Fails why read

-- The answer is what was read, seen by view.
abbrev pub Says : {X Y : Type 0} → (X → Y) → Result X ImageError → Result Y ImageError → Type 0
Says view (Ok x) read = read ≡ Ok (view x)
Says view (Err why) read = read ≡ Err why

-- ---- a reader

-- what a reader was fed, and whether it ran out of memory
pub record Fed : Type 0 where
  pub is_old : Bool
  pub is_failed : Bool
  pub bytes : List ℕ

-- how many further bytes can change the answer
abbrev pub wants_after : ℕ → Result ImageHead ImageError → ℕ
wants_after cells (Ok head) = die_bytes head + 1 - cells
wants_after cells (Err why) = 0

-- what the end answers
abbrev pub end_read : Fed → Result (ImageHead × List ℕ) ImageError
end_read fed = if fed.is_failed then Err errors.OutOfMemory else image_read fed.is_old fed.bytes

unfoldable pub wanted : Fed → ℕ
wanted fed =
    if fed.is_failed then 0
    else (if nat_lt (length fed.bytes) (head_length fed.is_old) then head_length fed.is_old - length fed.bytes
    else wants_after (length fed.bytes - head_length fed.is_old) (head_read fed.is_old fed.bytes))
