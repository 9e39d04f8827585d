-- What a read shows of a slot is its committed record.
use Rattle.std.proofs.Common.{◌≡◌, ℕ, ◌<◌, Bool, true, false, List, ◌++◌, ◌∷◌, [], length, not, ◌&&◌, ◌||◌, nat_lt, if◌then◌else◌, Option, Some, None, refl, sym, ap, ◌∙◌, subst}
use Rattle.std.proofs.lemmas.Bool.{ltb-true}
use Rattle.std.proofs.lemmas.Option.{same_Some, none-some}
use Rattle.zero_count.specs.declared.Header.{Header}
use Rattle.spare_gate.specs.Slots.{is_gate_charged}
use Rattle.page_codec.specs.declared.place.Place.{Place}
use Rattle.page_codec.specs.Geometry.{Geometry, block_of, spare_at}
use Rattle.page_codec.specs.Records.{header_in, may_hold, below_sectors, if_committed, is_committed, is_copy, is_sealed, committed_in, record_in}
use Rattle.mount_scan.specs.declared.tables.Tables.{Tables}
use Rattle.mount_scan.specs.Noted.{shown, Names, Scanned, NotesAny, seq_with}
use Rattle.mount_scan.proofs.Newer.{next_seq-more}
use Rattle.mount_scan.proofs.Naming.{names_more, names_same}

sealed_or_single : (copy sealed : Bool) → (if copy then sealed else true) ≡ (sealed || not copy)
sealed_or_single true true = refl
sealed_or_single true false = refl
sealed_or_single false true = refl
sealed_or_single false false = refl

within_tests : (g : Geometry) (cells : List (List ℕ)) (place : Place) (h : Header) (may inside : Bool)
    → if_committed g cells place (if may then (if inside then Some h else None) else None) ≡ (if may && inside && is_committed g cells place h then Some h else None)
within_tests g cells place h true true = refl
within_tests g cells place h true false = refl
within_tests g cells place h false inside = refl

grouped : (a b c d : Bool) (h : Header) → (if a && b && (c && d) then Some h else None) ≡ (if a && b && c && d then Some h else None)
grouped true true true d h = refl
grouped true true false d h = refl
grouped true false c d h = refl
grouped false b c d h = refl

none_there : (g : Geometry) (cells : List (List ℕ)) (place : Place) (may : Bool) → if_committed g cells place (if may then below_sectors g None else None) ≡ None
none_there g cells place true = refl
none_there g cells place false = refl

committed : (g : Geometry) (cells : List (List ℕ)) (place : Place) (h : Header)
    → is_committed g cells place h ≡ (is_gate_charged (spare_at g cells place.page) place.slot && (is_sealed g cells (block_of g place.page) || not (is_copy h)))
unfolding is_committed
committed g cells place h = ap (λ t. is_gate_charged (spare_at g cells place.page) place.slot && t) (sealed_or_single (is_copy h) (is_sealed g cells (block_of g place.page)))

pub committed_shown : (g : Geometry) (cells : List (List ℕ)) (place : Place)
    → committed_in g cells place ≡ shown (may_hold g place) (is_sealed g cells (block_of g place.page)) g.sectors (is_gate_charged (spare_at g cells place.page) place.slot) (header_in g cells place)
unfolding committed_in record_in
committed_shown g cells place = at (header_in g cells place)
  where
    at : (o : Option Header) → if_committed g cells place (if may_hold g place then below_sectors g o else None)
        ≡ shown (may_hold g place) (is_sealed g cells (block_of g place.page)) g.sectors (is_gate_charged (spare_at g cells place.page) place.slot) o
    at None = none_there g cells place (may_hold g place)
    at (Some h) =
        within_tests g cells place h (may_hold g place) (nat_lt h.sector g.sectors)
        ∙ (ap (λ t. if may_hold g place && nat_lt h.sector g.sectors && t then Some h else None) (committed g cells place h)
        ∙ grouped (may_hold g place) (nat_lt h.sector g.sectors) (is_gate_charged (spare_at g cells place.page) place.slot) (is_sealed g cells (block_of g place.page) || not (is_copy h)) h)

-- what is shown is of one of the sectors
shown_in : (may inside gate sealed : Bool) (k h : Header) → (if may && inside && gate && sealed then Some k else None) ≡ Some h → (inside ≡ true) × (k ≡ h)
shown_in true true true true k h e = (refl, same_Some k h e)
shown_in true true true false k h e = absurd (none-some h e)
shown_in true true false sealed k h e = absurd (none-some h e)
shown_in true false gate sealed k h e = absurd (none-some h e)
shown_in false inside gate sealed k h e = absurd (none-some h e)

shown_sector : (may sealed : Bool) (sectors : ℕ) (gate : Bool) (o : Option Header) (h : Header) → shown may sealed sectors gate o ≡ Some h → h.sector < sectors
shown_sector may sealed sectors gate None h e = absurd (none-some h e)
shown_sector may sealed sectors gate (Some k) h e =
    let parts = shown_in may (nat_lt k.sector sectors) gate (sealed || not (is_copy k)) k h e in
    subst (λ (x : Header). x.sector < sectors) parts.1 (ltb-true k.sector sectors parts.0)

-- one slot more is scanned
pub scanned_slot : (g : Geometry) (cells : List (List ℕ)) (slots : List Place) (old new : Tables) (place : Place) (may sealed gate : Bool) (header : Option Header)
    → may ≡ may_hold g place → sealed ≡ is_sealed g cells (block_of g place.page) → gate ≡ is_gate_charged (spare_at g cells place.page) place.slot → header ≡ header_in g cells place
    → length old.seqs.items ≡ length old.map → length new.map ≡ length old.map
    → NotesAny old new place (shown may sealed (length old.map) gate header) → new.seq ≡ seq_with old.seq header
    → Scanned g cells slots old → Scanned g cells (slots ++ place ∷ []) new
scanned_slot g cells slots old new place may sealed gate header may_is sealed_is gate_is header_is long same_long notes seq scanned = record {
  names = at (shown may sealed (length old.map) gate header) refl notes;
  seq = seq ∙ (ap (seq_with old.seq) header_is ∙ (ap (λ n. seq_with n (header_in g cells place)) scanned.seq ∙ sym (next_seq-more g cells slots place)));
}
  where
    there : committed_in g cells place ≡ shown may sealed (length old.map) gate header
    there = committed_shown g cells place ∙ (λ i. shown (sym may_is i) (sym sealed_is i) (sym scanned.names.sectors i) (sym gate_is i) (sym header_is i))

    at : (o : Option Header) → shown may sealed (length old.map) gate header ≡ o → NotesAny old new place o → Names g cells (slots ++ place ∷ []) new
    at None e stays = names_same g cells slots old new place (there ∙ e) stays.map stays.seqs scanned.names
    at (Some h) e noted =
        names_more g cells slots old new place h (there ∙ e) (subst (λ n. h.sector < n) scanned.names.sectors (shown_sector may sealed (length old.map) gate header h e))
        (long ∙ scanned.names.sectors) same_long noted scanned.names
