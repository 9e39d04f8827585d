-- A slot's record is live exactly where the map's entry of its sector names that slot.
use Rattle.std.proofs.Common.{◌≡◌, ◌≢◌, inl, inr, ℕ, ◌<◌, ◌≤◌, Bool, true, false, List, length, ◌==◌, ◌&&◌, Option, Some, None, refl, sym, ap, ap₂, ◌∙◌, arith, if◌then◌else◌}
use Rattle.std.proofs.lemmas.Bool.{cases_lt, and_parts, and_from, eq-eqb, eqb-true, false≢true}
use Rattle.std.proofs.lemmas.List.{get_or_past}
use Rattle.std.proofs.lemmas.List.FromFn.{get_or-map-range_with_len, length-map-range_with_len}
use Rattle.std.proofs.lemmas.Option.{same_Some}
use Rattle.zero_count.specs.declared.Header.{Header}
use Rattle.sector_map.specs.declared.entry.Entry.{Entry}
use Rattle.sector_map.specs.Entry.{entry_at}
use Rattle.page_codec.specs.declared.place.Place.{Place}
use Rattle.page_codec.specs.Geometry.{Geometry, block_of}
use Rattle.page_codec.specs.Records.{Placed, header_in, live_record}
use Rattle.page_codec.specs.Sectors.{says_zeros}
use Rattle.page_codec.specs.TrueBook.{live_map, entry_of}
use Rattle.collector.specs.Inside.{number_of}
use Rattle.collector.specs.Named.{names_slot}
use Rattle.collector.proofs.Committed.{live_so}
use Rattle.collector.proofs.Passing.{place_apart, slot_in}

-- the entry of a sector is that of its live record
pub live_entry : (g : Geometry) (cells : List (List ℕ)) (sector : ℕ) → sector < g.sectors → entry_at (live_map g cells) sector ≡ entry_of (live_record g cells sector)
unfolding live_map
live_entry g cells sector within = get_or-map-range_with_len (λ s. entry_of (live_record g cells s)) 0 g.sectors sector sector None within (omega arith)

pub live_map_long : (g : Geometry) (cells : List (List ℕ)) → length (live_map g cells) ≡ g.sectors
unfolding live_map
live_map_long g cells = length-map-range_with_len (λ s. entry_of (live_record g cells s)) 0 g.sectors

entry_names : (x : Placed) (place : Place) → names_slot (entry_of (Some x)) place ≡ true → x.place ≡ place
entry_names x place e = at (says_zeros x.header) refl
  where
    parts : (x.place.page == place.page && x.place.slot == place.slot) ≡ true → x.place ≡ place
    parts f = let p = and_parts _ _ f in let page = eqb-true x.place.page place.page p.0 in let slot = eqb-true x.place.slot place.slot p.1 in λ i. record { page = page i; slot = slot i }

    at : (t : Bool) → says_zeros x.header ≡ t → x.place ≡ place
    at true z =
        parts (sym (ap (λ (t : Bool). names_slot
        (if t then Some (Entry.Zeros (record { page = x.place.page; slot = x.place.slot })) else Some (Entry.Held (record { page = x.place.page; slot = x.place.slot }))) place) z) ∙ e)
    at false z =
        parts (sym (ap (λ (t : Bool). names_slot
        (if t then Some (Entry.Zeros (record { page = x.place.page; slot = x.place.slot })) else Some (Entry.Held (record { page = x.place.page; slot = x.place.slot }))) place) z) ∙ e)

own_named : (x : Placed) → names_slot (entry_of (Some x)) x.place ≡ true
own_named x = at (says_zeros x.header)
  where
    own : (x.place.page == x.place.page && x.place.slot == x.place.slot) ≡ true
    own = and_from (x.place.page == x.place.page) (x.place.slot == x.place.slot) (eq-eqb x.place.page x.place.page refl) (eq-eqb x.place.slot x.place.slot refl)

    at : (t : Bool) → names_slot (if t then Some (Entry.Zeros (record { page = x.place.page; slot = x.place.slot })) else Some
        (Entry.Held (record { page = x.place.page; slot = x.place.slot }))) x.place ≡ true
    at true = own
    at false = own

-- the live record that an entry names
pub named_live : (g : Geometry) (cells : List (List ℕ)) (sector : ℕ) (place : Place) → names_slot (entry_at (live_map g cells) sector) place ≡ true
    → (x : Placed) × (live_record g cells sector ≡ Some x) × (x.place ≡ place)
named_live g cells sector place e = elim (cases_lt sector g.sectors) [
  | inr past ↦ absurd (false≢true (sym (ap (λ o. names_slot o place) (get_or_past (live_map g cells) sector None (omega (arith, past, live_map_long g cells)))) ∙ e))
  | inl within ↦ at (live_record g cells sector) refl (sym (ap (λ o. names_slot o place) (live_entry g cells sector within)) ∙ e)
]
  where
    at : (o : Option Placed) → live_record g cells sector ≡ o → names_slot (entry_of (live_record g cells sector)) place ≡ true
        → (x : Placed) × (live_record g cells sector ≡ Some x) × (x.place ≡ place)
    at None f n = absurd (false≢true (sym (ap (λ o. names_slot (entry_of o) place) f) ∙ n))
    at (Some x) f n = (x, f, entry_names x place (sym (ap (λ o. names_slot (entry_of o) place) f) ∙ n))

pub live_named : (g : Geometry) (cells : List (List ℕ)) (sector : ℕ) (x : Placed) → live_record g cells sector ≡ Some x → names_slot (entry_at (live_map g cells) sector) x.place ≡ true
live_named g cells sector x e = ap (λ o. names_slot o x.place) (live_entry g cells sector (live_so g cells sector x e).within ∙ ap entry_of e) ∙ own_named x

-- ---- by the header of the slot

-- A named record is live, with the header that stands there.
pub named_there : (g : Geometry) (cells : List (List ℕ)) (place : Place) (h : Header) → header_in g cells place ≡ Some h → names_slot (entry_at (live_map g cells) h.sector) place ≡ true
    → live_record g cells h.sector ≡ Some (record { place = place; header = h })
named_there g cells place h there e =
    let n = named_live g cells h.sector place e in
    let header : n.0.header ≡ h = same_Some _ _ (sym (live_so g cells h.sector n.0 n.1).so.header ∙ (ap (header_in g cells) n.2 ∙ there)) in
    n.1 ∙ ap Some (λ i. record { place = n.2 i; header = header i })

-- A slot whose header is not named holds no live record.
pub unnamed_none : (g : Geometry) (cells : List (List ℕ)) (block : ℕ) (place : Place) → 1 ≤ g.generations → place.slot < g.generations → block_of g place.page ≡ block
    → ((h : Header) → header_in g cells place ≡ Some h → names_slot (entry_at (live_map g cells) h.sector) place ≡ false)
    → (sector : ℕ) (y : Placed) → live_record g cells sector ≡ Some y → block_of g y.place.page ≡ block → number_of g y.place ≢ number_of g place
unnamed_none g cells block place one slot here none sector y e in_y same =
    let at : y.place ≡ place = place_apart g block y.place place (slot_in g cells one sector y e) slot in_y here same in
    let so = live_so g cells sector y e in
    false≢true (sym (none y.header (ap (header_in g cells) (sym at) ∙ so.so.header))
    ∙ (ap₂ (λ (s : ℕ) (p : Place). names_slot (entry_at (live_map g cells) s) p) so.of_sector (sym at) ∙ live_named g cells sector y e))
