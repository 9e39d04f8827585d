-- The main bytes of the pages of a die, and how a later write of a unit ends.
use Rattle.std.specs.Prelude.{◌≡◌, ℕ, ◌+◌, List, ◌++◌, take, true, if◌then◌else◌, ◌==◌, Result, Ok, Err}
use Rattle.std.specs.List.{flat_map, range_with_len}
use Rattle.wom_code.specs.declared.code.Carry.{Carry}
use Rattle.wom_code.specs.declared.code.Carry.TheVariants.{Carried, Declined}
use Rattle.cell_die.specs.DieState.{DieState, page_of}
use Rattle.cell_die.specs.Changes.{SameCells}
use Rattle.cell_die.specs.Calls.{Passed, ChangeFailed, ReadFailed}
use Rattle.zero_count.specs.declared.Header.{Header}
use Rattle.spare_gate.specs.Slots.{with_header}
use Rattle.striped.specs.Meaning.{Meaning, NoneCarries}
use Rattle.page_codec.specs.declared.place.Place.{Place}
use Rattle.page_codec.specs.declared.fault.PutFault.{PutFault}
use Rattle.page_codec.specs.declared.fault.PutFault.TheVariants.{Read, Change}
use Rattle.page_codec.specs.Puts.{Puts, SecondGives, spare_of, is_gated}

-- the main bytes of a page
abbrev pub main_of : DieState → ℕ → List ℕ
main_of die page = take die.shape.main_bytes (page_of die page)

-- the main bytes of the unit that begins at a page
abbrev pub unit_main : DieState → ℕ → ℕ → List ℕ
unit_main die span page = flat_map (main_of die) (range_with_len page span)

-- a slot of a page
abbrev pub place_of : ℕ → ℕ → Place
place_of page slot = record { page = page; slot = slot }

-- how many pages a record is read from: one for slot 0, and the whole unit for a further slot
abbrev pub reads_of : Meaning → Place → ℕ
reads_of meaning place = if place.slot == 0 then 1 else meaning.span

-- what the page or the unit of a record decodes to
abbrev pub decoded_at : Meaning → DieState → Place → List ℕ
decoded_at meaning die place =
    if place.slot == 0 then meaning.decoding.first (main_of die place.page) else meaning.decoding.second (unit_main die meaning.span place.page)

-- a page with other main bytes, and a header in a slot
abbrev pub with_write : DieState → Place → Header → List ℕ → List ℕ
with_write die place header main = main ++ with_header (spare_of die place.page) place.slot header

-- the main bytes of the unit are these
abbrev pub HasMain : ℕ → ℕ → ℕ → List ℕ → (ℕ → List ℕ) → Type 0
HasMain main_bytes span page unit done = flat_map (λ p. take main_bytes (done p)) (range_with_len page span) ≡ unit

-- how a later write of a unit ends: carried, declined without a change, with a failed read or with a failed change call
abbrev pub SecondEnds : Meaning → Place → Header → List ℕ → Result Carry PutFault → DieState → DieState → Type 0
SecondEnds meaning place header sector (Ok Carried) old new =
    Puts (SecondGives meaning place.page (unit_main old meaning.span place.page) sector) meaning.span place header old new
    × (is_gated new place ≡ true) × Passed (meaning.span + 1) meaning.span old new
SecondEnds meaning place header sector (Ok Declined) old new =
    SameCells old new × NoneCarries meaning (unit_main old meaning.span place.page) sector × Passed 0 meaning.span old new
SecondEnds meaning place header sector (Err Read) old new = SameCells old new × ReadFailed 0 meaning.span old new
SecondEnds meaning place header sector (Err Change) old new =
    Puts (SecondGives meaning place.page (unit_main old meaning.span place.page) sector) meaning.span place header old new × ChangeFailed (meaning.span + 1) meaning.span old new
