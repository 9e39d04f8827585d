-- The row that a map's entry stands for.
use Rattle.std.specs.Prelude.{ℕ, ◌+◌, ◌≤◌, List, replicate, Option, Some}
use Rattle.cell_die.specs.DieState.{DieState, page_count}
use Rattle.cell_die.specs.declared.shape.Shape.{Shape}
use Rattle.striped.specs.Meaning.{Meaning}
use Rattle.sector_map.specs.declared.entry.Entry.{Entry}
use Rattle.sector_map.specs.declared.entry.Entry.TheVariants.{Held}
use Rattle.page_codec.specs.Units.{place_of, decoded_at, reads_of}

-- what the page or unit of a held record decodes to, and zeros where the entry holds zeros or there is none
abbrev pub entry_row : Meaning → DieState → Option Entry → List ℕ
entry_row meaning die (Some (Held held)) = decoded_at meaning die (place_of held.page held.slot)
entry_row meaning die _ = replicate meaning.sector_bytes 0

-- the reads of getting it
abbrev pub entry_reads : Meaning → Option Entry → ℕ
entry_reads meaning (Some (Held held)) = reads_of meaning (place_of held.page held.slot)
entry_reads meaning _ = 0

-- the pages of a held record are pages of the die
abbrev pub HasPages : Meaning → Shape → Option Entry → Type 0
HasPages meaning shape (Some (Held held)) = held.page + reads_of meaning (place_of held.page held.slot) ≤ page_count shape
HasPages meaning shape _ = Unit {0}
