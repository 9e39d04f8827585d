-- How far the slots of a die are read: the pages before one, and the first slots of that one.
use Rattle.std.specs.Prelude.{◌≡◌, ℕ, List, ◌++◌, map}
use Rattle.std.specs.List.{flat_map, range_with_len, All}
use Rattle.spare_gate.specs.Slots.{word_at}
use Rattle.page_codec.specs.declared.place.Place.{Place}
use Rattle.page_codec.specs.Geometry.{Geometry, spare_at}
use Rattle.page_codec.specs.Records.{places}
use Rattle.image_audit.specs.declared.mark.Mark.{Mark}
use Rattle.image_audit.specs.declared.mark.Unread.{Unread}
use Rattle.image_audit.specs.declared.mark.Unread.TheVariants.{OutOfMemory, Bad}
use Rattle.image_audit.specs.HeaderCells.{LiesBelowValid}
use Rattle.image_audit.specs.Marks.{marks_in}
use Rattle.image_audit.specs.Verdicts.{IsFirst, LiesBelowNone, at_place}

-- the first slots of a page
abbrev pub page_slots : ℕ → ℕ → List Place
page_slots page count = map (λ slot. at_place page slot) (range_with_len 0 count)

-- all slots of the pages before one, and the first slots of that one
abbrev pub slots_before : Geometry → ℕ → ℕ → List Place
slots_before g page slot = flat_map (λ p. page_slots p g.generations) (range_with_len 0 page) ++ page_slots page slot

-- the header cells of a slot lie below those of some valid word
abbrev pub LiesBelow : Geometry → List (List ℕ) → Place → Type 0
LiesBelow g cells place = LiesBelowValid (word_at (spare_at g cells place.page) place.slot)

-- the header cells of these slots lie below valid words, and the valid headers in them are marked
pub record ReadTo (g : Geometry) (cells : List (List ℕ)) (slots : List Place) (marks : List Mark) : Type 0 where
  pub below : All (LiesBelow g cells) slots
  pub marked : marks ≡ marks_in g cells slots

-- the first slot whose header cells lie below no valid word, if memory did not run out
abbrev pub IsUnread : Geometry → List (List ℕ) → Unread → Type 0
IsUnread g cells OutOfMemory = Unit {0}
IsUnread g cells (Bad place) = IsFirst (LiesBelowNone g cells) (places g) place
