-- What a put leaves of a die.
use Rattle.std.specs.Prelude.{◌≡◌, ◌≢◌, ◌⊎◌, ℕ, ◌+◌, ◌<◌, ◌≤◌, Bool, true, List, take, drop}
use Rattle.std.specs.List.{flat_map, range_with_len}
use Rattle.zero_count.specs.declared.Header.{Header}
use Rattle.cell_die.specs.Cells.{IsAbove, is_blank}
use Rattle.cell_die.specs.DieState.{DieState, page_of}
use Rattle.striped.specs.Meaning.{Meaning}
use Rattle.spare_gate.specs.Slots.{with_record, is_gate_charged}
use Rattle.page_codec.specs.declared.place.Place.{Place}

-- the spare bytes of a page
abbrev pub spare_of : DieState → ℕ → List ℕ
spare_of die page = drop die.shape.main_bytes (page_of die page)

-- the gate of the slot is charged
abbrev pub is_gated : DieState → Place → Bool
is_gated die place = is_gate_charged (spare_of die place.page) place.slot

-- the first slot of a page
abbrev pub first_slot : ℕ → Place
first_slot page = record { page = page; slot = 0 }

-- A put of a record in a slot, whose content stands on these pages of its unit, ended in `new`. Outside the unit nothing
-- changes. The cells are above the old ones and below those that Ok leaves, and where the gate is charged they are those.
pub record Puts (Content : (ℕ → List ℕ) → Type 0) (span : ℕ) (place : Place) (header : Header) (old new : DieState) : Type 0 where
  pub erases : new.erases ≡ old.erases
  pub others : (page : ℕ) → (page < place.page) ⊎ (place.page + span ≤ page) → page_of new page ≡ page_of old page
  -- the pages as Ok leaves them: their spare bytes are the old ones, with the record in its slot
  pub done : ℕ → List ℕ
  pub record_there : drop old.shape.main_bytes (done place.page) ≡ with_record (spare_of old place.page) place.slot header
  pub other_spares : (page : ℕ) → page ≢ place.page → drop old.shape.main_bytes (done page) ≡ spare_of old page
  pub content : Content done
  pub above : (page : ℕ) → IsAbove (page_of new page) (page_of old page)
  pub below : (page : ℕ) → IsAbove (done page) (page_of new page)
  pub whole : is_gated new place ≡ true → (page : ℕ) → page_of new page ≡ done page
  -- the first page of the unit is programmed last: while a further one is not whole, it is as it was
  pub order : (page_of new place.page ≡ page_of old place.page) ⊎ ((page : ℕ) → place.page < page → page < place.page + span → page_of new page ≡ done page)

-- the main bytes of the page are those that a first write of the sector gives
abbrev pub FirstGives : Meaning → ℕ → List ℕ → (ℕ → List ℕ) → Type 0
FirstGives meaning page sector done = meaning.decoding.first_gives (take meaning.page_bytes (done page)) sector ≡ true

-- the main bytes of the page are blank
abbrev pub MainBlank : ℕ → ℕ → (ℕ → List ℕ) → Type 0
MainBlank main_bytes page done = is_blank (take main_bytes (done page)) ≡ true

-- the main bytes of the unit that begins at a page, of these pages
abbrev pub unit_in : Meaning → ℕ → (ℕ → List ℕ) → List ℕ
unit_in meaning page done = flat_map (λ p. take meaning.page_bytes (done p)) (range_with_len page meaning.span)

-- the main bytes of the unit carry the sector, and are those that a later write of it gives over these old ones
pub record SecondGives (meaning : Meaning) (page : ℕ) (old sector : List ℕ) (done : ℕ → List ℕ) : Type 0 where
  pub carries : meaning.decoding.second_carries (unit_in meaning page done) sector ≡ true
  pub gives : meaning.decoding.second_gives old sector (unit_in meaning page done) ≡ true
