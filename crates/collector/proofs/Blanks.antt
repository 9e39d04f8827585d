-- Blank pages and slots hold no header, and a record is committed only where its header stands.
use Rattle.std.proofs.Common.{◌≡◌, ℕ, zero, suc, ◌+◌, ◌-◌, ◌*◌, Bool, true, false, List, [], ◌∷◌, take, drop, ◌&&◌, ◌==◌, slice_index, nat_lt, if◌then◌else◌, Option, Some, None, refl, ap, ap₂, arith}
use Rattle.std.proofs.lemmas.Bool.{and_parts, eqb-true}
use Rattle.std.proofs.lemmas.Option.{same_Some, none-some}
use Rattle.cell_die.specs.Cells.{page_at, is_blank}
use Rattle.zero_count.specs.declared.Header.{Header}
use Rattle.zero_count.specs.HeaderWord.{header_of, is_valid}
use Rattle.zero_count.proofs.ValidWords.{valid_parts}
use Rattle.spare_gate.specs.Slots.{word_at, header_at, is_gate_charged, is_slot_blank}
use Rattle.page_codec.specs.declared.place.Place.{Place}
use Rattle.page_codec.specs.Geometry.{Geometry, spare_at}
use Rattle.page_codec.specs.Records.{may_hold, header_in, below_sectors, record_in, is_committed, if_committed, committed_in}
use Rattle.page_codec.proofs.PutUnit.{blank_ungated}

blank_byte : (row : List ℕ) → is_blank row ≡ true → (k : ℕ) → slice_index row k ≡ 0
blank_byte [] h k = refl
blank_byte (x ∷ row) h zero = eqb-true x 0 (and_parts (x == 0) (is_blank row) h).0
blank_byte (x ∷ row) h (suc k) = blank_byte row (and_parts (x == 0) (is_blank row) h).1 k

blank_drop : (m : ℕ) (row : List ℕ) → is_blank row ≡ true → is_blank (drop m row) ≡ true
blank_drop zero row h = h
blank_drop (suc m) [] h = refl
blank_drop (suc m) (x ∷ row) h = blank_drop m row (and_parts (x == 0) (is_blank row) h).1

blank_take : (m : ℕ) (row : List ℕ) → is_blank row ≡ true → is_blank (take m row) ≡ true
blank_take zero row h = refl
blank_take (suc m) [] h = refl
blank_take (suc m) (x ∷ row) h =
    let parts = and_parts (x == 0) (is_blank row) h in
    ap₂ (λ (a b : Bool). a && b) parts.0 (blank_take m row parts.1)

-- every slot of a blank page is blank
pub blank_page_slot : (g : Geometry) (cells : List (List ℕ)) (page slot : ℕ) → is_blank (page_at cells page) ≡ true → is_slot_blank (spare_at g cells page) slot ≡ true
blank_page_slot g cells page slot blank =
    let spare = blank_drop g.main_bytes (page_at cells page) blank in
    ap₂ (λ (byte : ℕ) (word : Bool). byte == 0 && word) (blank_byte (spare_at g cells page) spare (16 * slot))
    (blank_take (16 * slot + 15 - (16 * slot + 1)) (drop (16 * slot + 1) (spare_at g cells page)) (blank_drop (16 * slot + 1) (spare_at g cells page) spare))

blank_word_header : (word : List ℕ) → is_blank word ≡ true → header_of word ≡ None
unfolding header_of
blank_word_header word blank = none_there _ (is_valid word) (λ valid. omega (arith, (valid_parts word valid).least_kind, blank_byte word blank 12))
  where
    none_there : (o : Option Header) (t : Bool) → (t ≡ true → ⊥) → (if t then o else None) ≡ None
    none_there o true never = absurd (never refl)
    none_there o false never = refl

-- a blank slot holds no header
pub blank_slot_header : (spare : List ℕ) (slot : ℕ) → is_slot_blank spare slot ≡ true → header_at spare slot ≡ None
blank_slot_header spare slot blank = blank_word_header (word_at spare slot) (and_parts (slice_index spare (16 * slot) == 0) (is_blank (word_at spare slot)) blank).1

-- .. and has no charged gate
pub blank_page_gate : (g : Geometry) (cells : List (List ℕ)) (page slot : ℕ) → is_blank (page_at cells page) ≡ true → is_gate_charged (spare_at g cells page) slot ≡ false
blank_page_gate g cells page slot blank = blank_ungated (spare_at g cells page) slot (blank_page_slot g cells page slot blank)

committed_some : (g : Geometry) (cells : List (List ℕ)) (place : Place) (h k : Header) → if_committed g cells place (Some k) ≡ Some h → k ≡ h
committed_some g cells place h k e = at (is_committed g cells place k) e
  where
    at : (t : Bool) → (if t then Some k else None) ≡ Some h → k ≡ h
    at true f = same_Some k h f
    at false f = absurd (none-some h f)

below_committed : (g : Geometry) (cells : List (List ℕ)) (place : Place) (h : Header) (o : Option Header) → if_committed g cells place (below_sectors g o) ≡ Some h → o ≡ Some h
below_committed g cells place h None e = absurd (none-some h e)
below_committed g cells place h (Some k) e = at (nat_lt k.sector g.sectors) e
  where
    at : (t : Bool) → if_committed g cells place (if t then Some k else None) ≡ Some h → Some k ≡ Some h
    at true f = ap Some (committed_some g cells place h k f)
    at false f = absurd (none-some h f)

-- a committed record stands in its slot
pub committed_header : (g : Geometry) (cells : List (List ℕ)) (place : Place) (h : Header) → committed_in g cells place ≡ Some h → header_in g cells place ≡ Some h
unfolding committed_in record_in
committed_header g cells place h e = at (may_hold g place) e
  where
    at : (t : Bool) → if_committed g cells place (if t then below_sectors g (header_in g cells place) else None) ≡ Some h → header_in g cells place ≡ Some h
    at true f = below_committed g cells place h (header_in g cells place) f
    at false f = absurd (none-some h f)
