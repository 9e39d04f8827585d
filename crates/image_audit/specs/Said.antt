-- What marks say of the verdict, and of the sectors that are held.
use Rattle.std.specs.Prelude.{◌≡◌, ℕ, ◌/◌, ◌<◌, Bool, true, false, List, length, ◌==◌, Some, None}
use Rattle.std.specs.List.{list_any}
use Rattle.striped.specs.Meaning.{Decoding}
use Rattle.page_codec.specs.declared.place.Place.{Place}
use Rattle.page_codec.specs.Geometry.{Geometry}
use Rattle.page_codec.specs.Sectors.{said_by}
use Rattle.image_audit.specs.declared.mark.Mark.{Mark}
use Rattle.image_audit.specs.declared.row.Held.{Held}
use Rattle.image_audit.specs.declared.verdict.Verdict.{Verdict}
use Rattle.image_audit.specs.declared.verdict.Verdict.TheVariants.{Sound, Header as BadHeader, SameSeq, NoSpare, Number}
use Rattle.image_audit.specs.Held.{without_zeros}
use Rattle.image_audit.specs.Marks.{placed_of, first_repeat, first_high}
use Rattle.image_audit.specs.Verdicts.{at_place}

-- whether one of some live records stands in a block
abbrev pub is_taken : Geometry → List Mark → ℕ → Bool
is_taken g live block = list_any (λ mark. mark.place.page / g.pages == block) live

abbrev pub AllTaken : Geometry → List Mark → Type 0
AllTaken g live = (block : ℕ) → block < g.blocks → is_taken g live block ≡ true

abbrev pub SomeUntaken : Geometry → List Mark → Type 0
SomeUntaken g live = (block : ℕ) × (block < g.blocks) × (is_taken g live block ≡ false)

-- the first mark of a seq that is not bounded stands in this slot
pub record HighAt (marks : List Mark) (place : Place) : Type 0 where
  pub mark : Mark
  pub first : first_high marks ≡ Some mark
  pub there : mark.place ≡ place

-- what each verdict says of marks, and of the live records among them
abbrev pub MarksSay : Geometry → List Mark → List Mark → Verdict → Type 0
MarksSay g marks live Sound = (first_repeat marks ≡ None) × SomeUntaken g live × (first_high marks ≡ None)
MarksSay g marks live (BadHeader page slot) = ⊥
MarksSay g marks live (SameSeq page slot other_page other_slot) = first_repeat marks ≡ Some (at_place page slot, at_place other_page other_slot)
MarksSay g marks live NoSpare = (first_repeat marks ≡ None) × AllTaken g live
MarksSay g marks live (Number page slot) = (first_repeat marks ≡ None) × SomeUntaken g live × HighAt marks (at_place page slot)

-- a sector and its bytes
abbrev pub told_of : Held → ℕ × List ℕ
told_of held = (held.sector, held.bytes)

-- what a live record tells
abbrev pub told_by : Geometry → Decoding → List (List ℕ) → Mark → ℕ × List ℕ
told_by g decoding cells mark = (mark.header.sector, without_zeros (said_by g decoding cells (Some (placed_of mark))))

-- what a live record says is as long as a sector
abbrev pub IsWhole : Geometry → Decoding → List (List ℕ) → Mark → Type 0
IsWhole g decoding cells mark = length (said_by g decoding cells (Some (placed_of mark))) ≡ g.sector_bytes
