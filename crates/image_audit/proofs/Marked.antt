-- The marks of all slots are the headers of the die, and say of its sectors what its cells say.
use Rattle.std.proofs.Common.{◌≡◌, ℕ, Bool, true, false, List, [], ◌∷◌, map, ◌&&◌, ◌==◌, nat_lt, if◌then◌else◌, Option, Some, None, refl, sym, ap, ap₂, ◌∙◌}
use Rattle.std.specs.List.{filter_map, cons_option}
use Rattle.std.proofs.lemmas.Bool.{eqb-true}
use Rattle.std.proofs.lemmas.Option.{same_Some, none-some}
use Rattle.zero_count.specs.declared.Header.{Header}
use Rattle.page_codec.specs.declared.place.Place.{Place}
use Rattle.page_codec.specs.Geometry.{Geometry}
use Rattle.page_codec.specs.Records.{Placed, places, header_in, may_hold, below_sectors, record_in, is_committed, if_committed, committed_in, of_sector, records_of, newest, live_record}
use Rattle.image_audit.specs.declared.mark.Mark.{Mark}
use Rattle.image_audit.specs.Held.{first_met, sector_of, sectors_found}
use Rattle.image_audit.specs.Marks.{is_counted, mark_of, marks_in, placed_of, counted_of, counted_sector, newest_of, sectors_in}
use Rattle.image_audit.specs.Verdicts.{placed_in, headers}

-- ---- headers

one_header : (g : Geometry) (cells : List (List ℕ)) (place : Place) (o : Option Header) (ms : List Mark) (hs : List Placed) → map placed_of ms ≡ hs
    → map placed_of (cons_option (mark_of g cells place o) ms) ≡ cons_option (placed_in place o) hs
one_header g cells place None ms hs e = e
one_header g cells place (Some h) ms hs e = ap (λ (xs : List Placed). record { place = place; header = h } ∷ xs) e

marked_headers : (g : Geometry) (cells : List (List ℕ)) (slots : List Place) → map placed_of (marks_in g cells slots) ≡ filter_map (λ place. placed_in place (header_in g cells place)) slots
unfolding marks_in
marked_headers g cells [] = refl
marked_headers g cells (place ∷ slots) =
    one_header g cells place (header_in g cells place) (marks_in g cells slots) (filter_map (λ p. placed_in p (header_in g cells p)) slots) (marked_headers g cells slots)

pub marks_are_headers : (g : Geometry) (cells : List (List ℕ)) → map placed_of (marks_in g cells (places g)) ≡ headers g cells
unfolding headers
marks_are_headers g cells = marked_headers g cells (places g)

-- ---- committed records

abbrev counted_header : Geometry → List (List ℕ) → Place → Option Header → Option Header
counted_header g cells place None = None
counted_header g cells place (Some h) = if is_counted g cells place h then Some h else None

three_tests : (a b c : Bool) (h : Header) (cells : Option Header → Option Header) → cells None ≡ None → cells (Some h) ≡ (if c then Some h else None)
    → cells (if a then (if b then Some h else None) else None) ≡ (if a && b && c then Some h else None)
three_tests true true c h cells none some = some
three_tests true false c h cells none some = none
three_tests false b c h cells none some = none

committed_is : (g : Geometry) (cells : List (List ℕ)) (place : Place) → committed_in g cells place ≡ counted_header g cells place (header_in g cells place)
unfolding committed_in record_in
committed_is g cells place = at (header_in g cells place)
  where
    no_header : (t : Bool) → if_committed g cells place (if t then None else None) ≡ None
    no_header true = refl
    no_header false = refl

    at : (o : Option Header) → if_committed g cells place (if may_hold g place then below_sectors g o else None) ≡ counted_header g cells place o
    at None = no_header (may_hold g place)
    at (Some h) = three_tests (may_hold g place) (nat_lt h.sector g.sectors) (is_committed g cells place h) h (if_committed g cells place) refl refl

-- ---- the records of a sector

counted_record : (sector : ℕ) (place : Place) (h : Header) (t : Bool)
    → (if t && (h.sector == sector) then Some (record { place = place; header = h }) else None) ≡ of_sector sector place (if t then Some h else None)
counted_record sector place h true = refl
counted_record sector place h false = refl

cons_counted : (g : Geometry) (cells : List (List ℕ)) (sector : ℕ) (place : Place) (o : Option Header) (ms : List Mark) (rs : List Placed)
    → filter_map (counted_of sector) ms ≡ rs → filter_map (counted_of sector) (cons_option (mark_of g cells place o) ms) ≡ cons_option (of_sector sector place (counted_header g cells place o)) rs
cons_counted g cells sector place None ms rs e = e
cons_counted g cells sector place (Some h) ms rs e = ap₂ (λ (o : Option Placed) (xs : List Placed). cons_option o xs) (counted_record sector place h (is_counted g cells place h)) e

counted_records : (g : Geometry) (cells : List (List ℕ)) (sector : ℕ) (slots : List Place)
    → filter_map (counted_of sector) (marks_in g cells slots) ≡ filter_map (λ place. of_sector sector place (committed_in g cells place)) slots
unfolding marks_in
counted_records g cells sector [] = refl
counted_records g cells sector (place ∷ slots) =
    cons_counted g cells sector place (header_in g cells place) (marks_in g cells slots) (filter_map (λ p. of_sector sector p (committed_in g cells p)) slots) (counted_records g cells sector slots)
    ∙ ap (λ (o : Option Header). cons_option (of_sector sector place o) (filter_map (λ p. of_sector sector p (committed_in g cells p)) slots)) (sym (committed_is g cells place))

pub newest_is_live : (g : Geometry) (cells : List (List ℕ)) (sector : ℕ) → newest_of (marks_in g cells (places g)) sector ≡ live_record g cells sector
unfolding newest_of live_record records_of
newest_is_live g cells sector = ap newest (counted_records g cells sector (places g))

-- ---- the sectors that are found

one_sector : (h : Header) (t : Bool) → (if t then Some h.sector else None) ≡ sector_of (if t then Some h else None)
one_sector h true = refl
one_sector h false = refl

cons_sector : (g : Geometry) (cells : List (List ℕ)) (place : Place) (o : Option Header) (ms : List Mark) (ss : List ℕ)
    → filter_map counted_sector ms ≡ ss → filter_map counted_sector (cons_option (mark_of g cells place o) ms) ≡ cons_option (sector_of (counted_header g cells place o)) ss
cons_sector g cells place None ms ss e = e
cons_sector g cells place (Some h) ms ss e = ap₂ (λ (o : Option ℕ) (xs : List ℕ). cons_option o xs) (one_sector h (is_counted g cells place h)) e

counted_sectors : (g : Geometry) (cells : List (List ℕ)) (slots : List Place) → filter_map counted_sector (marks_in g cells slots) ≡ filter_map (λ place. sector_of (committed_in g cells place)) slots
unfolding marks_in
counted_sectors g cells [] = refl
counted_sectors g cells (place ∷ slots) =
    cons_sector g cells place (header_in g cells place) (marks_in g cells slots) (filter_map (λ p. sector_of (committed_in g cells p)) slots) (counted_sectors g cells slots)
    ∙ ap (λ (o : Option Header). cons_option (sector_of o) (filter_map (λ p. sector_of (committed_in g cells p)) slots)) (sym (committed_is g cells place))

pub sectors_are_found : (g : Geometry) (cells : List (List ℕ)) → first_met (sectors_in (marks_in g cells (places g))) ≡ sectors_found g cells
unfolding sectors_in sectors_found
sectors_are_found g cells = ap first_met (counted_sectors g cells (places g))

-- ---- what a counted mark says

pub counted_parts : (sector : ℕ) (mark : Mark) (x : Placed) → counted_of sector mark ≡ Some x → (mark.counts ≡ true) × (mark.header.sector ≡ sector) × (x ≡ placed_of mark)
counted_parts sector mark x e = at mark.counts (mark.header.sector == sector) refl refl e
  where
    at : (t u : Bool) → mark.counts ≡ t → (mark.header.sector == sector) ≡ u → (if t && u then Some (placed_of mark) else None) ≡ Some x
        → (mark.counts ≡ true) × (mark.header.sector ≡ sector) × (x ≡ placed_of mark)
    at true true p q e = (p, eqb-true mark.header.sector sector q, sym (same_Some (placed_of mark) x e))
    at true false p q e = absurd (none-some x e)
    at false u p q e = absurd (none-some x e)
