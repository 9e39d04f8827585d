-- What a put of a record makes of the stored sectors, one row each.
use Rattle.std.proofs.Common.{◌≡◌, ◌≢◌, ◌⊎◌, inl, inr, ℕ, ◌<◌, true, false, List, [], take, length, map, slice_set, slice_index_or, if◌then◌else◌, ◌==◌, Some, sym, ap, ◌∙◌, arith}
use Rattle.std.proofs.Common.{get_or-set_same, get_or-set_other, length-set}
use Rattle.std.specs.List.{range_with_len}
use Rattle.std.proofs.lemmas.Bool.{cases_eq}
use Rattle.std.proofs.lemmas.List.{same_lists, get_or_default}
use Rattle.std.proofs.lemmas.List.FromFn.{get_or-map-range_with_len, length-map-range_with_len}
use Rattle.zero_count.specs.declared.Header.{Header}
use Rattle.cell_die.specs.DieState.{DieState}
use Rattle.striped.specs.Meaning.{Meaning, Decoding, Decodes, IsSector}
use Rattle.page_codec.specs.declared.place.Place.{Place}
use Rattle.page_codec.specs.Geometry.{Geometry, main_at, unit_at}
use Rattle.page_codec.specs.Records.{Placed, live_record}
use Rattle.page_codec.specs.Sectors.{said_by, says_zeros, zero_sector, stored}
use Rattle.page_codec.specs.Puts.{Puts, FirstGives, first_slot, is_gated}
use Rattle.page_codec.proofs.PutStored.{StoresOne}

-- a row of the stored sectors
pub row_of : (g : Geometry) (d : Decoding) (cells : List (List ℕ)) (sector : ℕ) → sector < g.sectors → slice_index_or (stored g d cells) sector [] ≡ said_by g d cells (live_record g cells sector)
unfolding stored
row_of g d cells sector within = get_or-map-range_with_len (λ s. said_by g d cells (live_record g cells s)) 0 g.sectors sector sector [] within (omega arith)

pub rows_long : (g : Geometry) (d : Decoding) (cells : List (List ℕ)) → length (stored g d cells) ≡ g.sectors
unfolding stored
rows_long g d cells = length-map-range_with_len (λ s. said_by g d cells (live_record g cells s)) 0 g.sectors

-- from the gate on the record's row is what it says, and all others stay
pub rows_after : (g : Geometry) (d : Decoding) (place : Place) (h : Header) (old new : List (List ℕ)) → StoresOne g d place h old new → h.sector < g.sectors
    → stored g d new ≡ slice_set (stored g d old) h.sector (said_by g d new (Some (record { place = place; header = h })))
rows_after g d place h old new s within = same_lists (stored g d new) (slice_set (stored g d old) h.sector said) (rows_long g d new ∙ sym long)
    (λ k e in_rows. let below : k < g.sectors = omega (arith, rows_long g d new) in
    get_or_default (stored g d new) k e [] in_rows ∙ (at k below (cases_eq k h.sector) ∙ sym (get_or_default (slice_set (stored g d old) h.sector said) k e [] (omega (arith, long)))))
  where
    said : List ℕ
    said = said_by g d new (Some (record { place = place; header = h }))

    long : length (slice_set (stored g d old) h.sector (said_by g d new (Some (record { place = place; header = h })))) ≡ g.sectors
    long = length-set (stored g d old) h.sector _ ∙ rows_long g d old

    at : (k : ℕ) → k < g.sectors → (k ≡ h.sector) ⊎ (k ≢ h.sector)
        → slice_index_or (stored g d new) k [] ≡ slice_index_or (slice_set (stored g d old) h.sector (said_by g d new (Some (record { place = place; header = h })))) k []
    at k below (inl same) =
        ap (λ (n : ℕ). slice_index_or (stored g d new) n []) same
        ∙ (row_of g d new h.sector within ∙ (s.own
        ∙ (sym (get_or-set_same (stored g d old) h.sector said [] (omega (arith, rows_long g d old)))
        ∙ ap (λ (n : ℕ). slice_index_or (slice_set (stored g d old) h.sector said) n []) (sym same))))
    at k below (inr other) =
        row_of g d new k below ∙ (s.others k other ∙ (sym (row_of g d old k below) ∙ sym (get_or-set_other (stored g d old) h.sector k said [] other)))

-- where its live record and its row stay, the record says what it said
pub said_still : (g : Geometry) (d : Decoding) (old new : List (List ℕ)) (x : Placed) → stored g d new ≡ stored g d old → x.header.sector < g.sectors
    → live_record g new x.header.sector ≡ Some x → live_record g old x.header.sector ≡ Some x → said_by g d new (Some x) ≡ said_by g d old (Some x)
said_still g d old new x rows within now before =
    ap (said_by g d new) (sym now)
    ∙ (sym (row_of g d new x.header.sector within)
    ∙ (ap (λ (all : List (List ℕ)). slice_index_or all x.header.sector []) rows
    ∙ (row_of g d old x.header.sector within
    ∙ ap (said_by g d old) before)))

-- where the record says what the sector held, all rows stay
pub rows_same : (g : Geometry) (d : Decoding) (place : Place) (h : Header) (old new : List (List ℕ)) → StoresOne g d place h old new
    → said_by g d new (Some (record { place = place; header = h })) ≡ said_by g d old (live_record g old h.sector) → stored g d new ≡ stored g d old
unfolding stored
rows_same g d place h old new s said = λ i. map (λ sector. at sector (cases_eq sector h.sector) i) (range_with_len 0 g.sectors)
  where
    at : (sector : ℕ) → (sector ≡ h.sector) ⊎ (sector ≢ h.sector) → said_by g d new (live_record g new sector) ≡ said_by g d old (live_record g old sector)
    at sector (inr other) = s.others sector other
    at sector (inl same) =
        ap (λ (n : ℕ). said_by g d new (live_record g new n)) same ∙ (s.own ∙ (said ∙ ap (λ (n : ℕ). said_by g d old (live_record g old n)) (sym same)))

-- ---- what a record says

-- a first write says the sector that was written
pub first_says : (g : Geometry) (meaning : Meaning) (page : ℕ) (h : Header) (sector : List ℕ) (old new : DieState) → Puts (FirstGives meaning page sector) 1 (first_slot page) h old new
    → is_gated new (first_slot page) ≡ true → meaning.page_bytes ≡ g.main_bytes → Decodes meaning → IsSector meaning sector → says_zeros h ≡ false
    → said_by g meaning.decoding new.cells (Some (record { place = first_slot page; header = h })) ≡ sector
first_says g meaning page h sector old new p gated bytes decodes is kind =
    ap (λ t. if t then zero_sector g else meaning.decoding.first (main_at g new.cells page)) kind
    ∙ decodes.first (main_at g new.cells page) sector is
    ((λ i. meaning.decoding.first_gives (take (sym bytes i) (p.whole gated page i)) sector) ∙ p.content)

-- a record of zeros says zeros
pub zeros_say : (g : Geometry) (d : Decoding) (cells : List (List ℕ)) (place : Place) (h : Header) → says_zeros h ≡ true
    → said_by g d cells (Some (record { place = place; header = h })) ≡ zero_sector g
zeros_say g d cells place h kind =
    ap (λ t. if t then zero_sector g else (if place.slot == 0 then d.first (main_at g cells place.page) else d.second (unit_at g cells place.page))) kind
