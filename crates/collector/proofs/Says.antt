-- A page that says the same as a record: from its gate on its main cells are those of a first write of the record's sector, or blank
-- ones where it says zeros.
use Rattle.std.proofs.Common.{◌≡◌, inl, inr, ℕ, true, false, List, take, if◌then◌else◌, ◌==◌, Some, sym, ap, ◌∙◌, subst}
use Rattle.std.specs.List.{flat_map, range_with_len}
use Rattle.std.proofs.lemmas.Bool.{cases_Bool, cond-false, false≢true}
use Rattle.zero_count.specs.declared.Header.{Header}
use Rattle.cell_die.specs.declared.shape.Shape.{Shape}
use Rattle.cell_die.specs.Cells.{is_blank}
use Rattle.cell_die.specs.DieState.{DieState, page_of}
use Rattle.striped.specs.Meaning.{Meaning, Decoding, Decodes, IsSector}
use Rattle.page_codec.specs.declared.place.Place.{Place}
use Rattle.page_codec.specs.Geometry.{Geometry, shape_of, main_at}
use Rattle.page_codec.specs.Sectors.{said_by, says_zeros, zero_sector, InCells}
use Rattle.page_codec.specs.Puts.{Puts, FirstGives, first_slot, is_gated}
use Rattle.page_codec.specs.Units.{decoded_at}
use Rattle.collector.specs.Says.{SaysSame}
use Rattle.collector.proofs.Rows.{zeros_say}

-- the first write of the sector that a record of bytes decodes to
pub says_bytes : (meaning : Meaning) (page : ℕ) (place : Place) (header : Header) (sector : List ℕ) (old : DieState) (done : ℕ → List ℕ) → says_zeros header ≡ false
    → sector ≡ decoded_at meaning old place → IsSector meaning sector → FirstGives meaning page sector done → SaysSame meaning old place header page done
says_bytes meaning page place header sector old done says got is gives = record {
  bytes = λ _. subst (λ (s : List ℕ). FirstGives meaning page s done) got gives;
  sector = λ _. subst (IsSector meaning) got is;
  zeros = λ zeros. absurd (false≢true (sym says ∙ zeros));
}

-- while the main cells of the page stay
pub cells_stay : (g : Geometry) (d : Decoding) (old new : List (List ℕ)) (page : ℕ) (header : Header) (sector : List ℕ) → main_at g new page ≡ main_at g old page
    → InCells g d old page header sector → InCells g d new page header sector
cells_stay g d old new page header sector same c = record {
  bytes = λ says. ap (λ (main : List ℕ). d.first_gives main sector) same ∙ c.bytes says;
  zeros = λ says. ap is_blank same ∙ c.zeros says;
}

module _ (g : Geometry) (meaning : Meaning) (place : Place) (header h : Header) (page : ℕ) (old new : DieState) (p : Puts (SaysSame meaning old place header page) 1 (first_slot page) h old new)
    (shape : old.shape ≡ shape_of g) (bytes : meaning.page_bytes ≡ g.main_bytes) (span : meaning.span ≡ g.span) (gated : is_gated new (first_slot page) ≡ true) where
  main : old.shape.main_bytes ≡ g.main_bytes
  main = ap (λ (s : Shape). s.main_bytes) shape

  -- what the record says, by the die and by the geometry
  said_is : says_zeros header ≡ false → decoded_at meaning old place ≡ said_by g meaning.decoding old.cells (Some (record { place = place; header = header }))
  said_is says =
      (λ i. if place.slot == 0 then meaning.decoding.first (take (main i) (page_of old place.page))
      else meaning.decoding.second (flat_map (λ q. take (main i) (page_of old q)) (range_with_len place.page (span i))))
      ∙ sym (cond-false (says_zeros header) (zero_sector g) _ says)

  pub cells_there : InCells g meaning.decoding new.cells page header (said_by g meaning.decoding old.cells (Some (record { place = place; header = header })))
  cells_there = record {
    bytes = λ says. (λ i. meaning.decoding.first_gives (take (sym bytes i) (p.whole gated page i)) (sym (said_is says) i)) ∙ p.content.bytes says;
    zeros = λ says. (λ i. is_blank (take (sym main i) (p.whole gated page i))) ∙ p.content.zeros says;
  }

  -- so a header that says bytes, or zeros, as the record does says the same
  pub put_says : Decodes meaning → says_zeros h ≡ says_zeros header
      → said_by g meaning.decoding new.cells (Some (record { place = first_slot page; header = h })) ≡ said_by g meaning.decoding old.cells (Some (record { place = place; header = header }))
  put_says decodes same = elim (cases_Bool (says_zeros header)) [
    | inl says ↦ zeros_say g meaning.decoding new.cells (first_slot page) h (same ∙ says) ∙ sym (zeros_say g meaning.decoding old.cells place header says)
    | inr says ↦ cond-false (says_zeros h) (zero_sector g) (meaning.decoding.first (main_at g new.cells page)) (same ∙ says)
        ∙ decodes.first (main_at g new.cells page) (said_by g meaning.decoding old.cells (Some (record { place = place; header = header })))
        (subst (IsSector meaning) (said_is says) (p.content.sector says)) (cells_there.bytes says)
  ]
