-- What a put does to the records of a die, whatever its outcome.
use Rattle.std.proofs.Common.{◌≡◌, ◌≢◌, ◌⊎◌, inl, inr, ℕ, ◌+◌, ◌*◌, ◌^◌, ◌<◌, ◌≤◌, Bool, true, false, List, drop, length, ◌&&◌, slice_index, if◌then◌else◌, Some, None, refl, sym, ap, ap₂, ◌∙◌}
use Rattle.std.proofs.Common.{arith, subst}
use Rattle.std.proofs.lemmas.Bool.{cases_eq, cond-true, lt-ltb}
use Rattle.std.proofs.lemmas.Option.{same_Some}
use Rattle.zero_count.specs.declared.Header.{Header}
use Rattle.zero_count.specs.HeaderWord.{IsHeader, header_of, is_valid, spelling}
use Rattle.zero_count.proofs.ValidWords.{valid_below}
use Rattle.zero_count.proofs.Spelled.{spelled_valid, read_spelled}
use Rattle.cell_die.specs.Cells.{page_at, IsAbove}
use Rattle.cell_bits.proofs.Above.{keeps, above_bits, above_both}
use Rattle.cell_bits.proofs.Slices.{above_drop, above_take, bytes_drop, bytes_take}
use Rattle.spare_gate.specs.Slots.{is_gate_charged, is_seal_charged, word_at}
use Rattle.spare_gate.proofs.Headers.{record_gates, record_seal, record_word, record_words}
use Rattle.page_codec.specs.declared.place.Place.{Place}
use Rattle.page_codec.specs.Geometry.{Geometry, block_of, spare_at}
use Rattle.page_codec.specs.Records.{header_in, record_in, below_sectors, may_hold, is_copy, is_sealed, is_committed, if_committed, committed_in, live_record}
use Rattle.spare_gate.specs.Slots.{with_record}
use Rattle.page_codec.specs.Gate.{GateWins}
use Rattle.page_codec.specs.Promises.{HoldsRecord}
use Rattle.page_codec.specs.Sound.{HeadersBelow}
use Rattle.page_codec.proofs.Within.{header_valid}
use Rattle.page_codec.proofs.Live.{live_same, gate_makes_live, gate_leaves_others}
use Rattle.page_codec.proofs.Changes.{SlotStays, SealStays, committed_stays, ungated}

-- A put, by the cells alone.
pub record PutsCells (g : Geometry) (place : Place) (h : Header) (old new : List (List ℕ)) : Type 0 where
  pub done : ℕ → List ℕ
  pub record_there : drop g.main_bytes (done place.page) ≡ with_record (spare_at g old place.page) place.slot h
  pub other_spares : (page : ℕ) → page ≢ place.page → drop g.main_bytes (done page) ≡ spare_at g old page
  pub above : (page : ℕ) → IsAbove (page_at new page) (page_at old page)
  pub below : (page : ℕ) → IsAbove (done page) (page_at new page)
  pub whole : is_gate_charged (spare_at g new place.page) place.slot ≡ true → (page : ℕ) → page_at new page ≡ done page
  pub room : 16 * place.slot + 16 ≤ length (spare_at g old place.page)
  pub old_bytes : (page k : ℕ) → slice_index (page_at old page) k < 2 ^ 8
  pub new_bytes : (page k : ℕ) → slice_index (page_at new page) k < 2 ^ 8

same_tests : (a b : Bool) → (a ≡ true → b ≡ true) → (b ≡ true → a ≡ true) → a ≡ b
same_tests true true f k = refl
same_tests true false f k = sym (f refl)
same_tests false true f k = k refl
same_tests false false f k = refl

word_above : (m slot : ℕ) (new old : List ℕ) → IsAbove new old → IsAbove (word_at (drop m new) slot) (word_at (drop m old) slot)
word_above m slot new old f = above_take _ _ _ (above_drop (16 * slot + 1) _ _ (above_drop m _ _ f))

-- what Ok leaves of the other slots
done_gate : (g : Geometry) (place : Place) (h : Header) (old new : List (List ℕ)) (p : PutsCells g place h old new) (page slot : ℕ) → (page ≡ place.page → slot ≢ place.slot)
    → is_gate_charged (drop g.main_bytes (p.done page)) slot ≡ is_gate_charged (spare_at g old page) slot
done_gate g place h old new p page slot apart = elim (cases_eq page place.page) [
  | inr other ↦ ap (λ (spare : List ℕ). is_gate_charged spare slot) (p.other_spares page other)
  | inl same ↦ subst (λ (q : ℕ). is_gate_charged (drop g.main_bytes (p.done q)) slot ≡ is_gate_charged (spare_at g old q) slot) (sym same)
      (ap (λ (spare : List ℕ). is_gate_charged spare slot) p.record_there ∙ record_gates (spare_at g old place.page) place.slot h slot p.room (apart same))
]

done_word : (g : Geometry) (place : Place) (h : Header) (old new : List (List ℕ)) (p : PutsCells g place h old new) (page slot : ℕ) → (page ≡ place.page → slot ≢ place.slot)
    → word_at (drop g.main_bytes (p.done page)) slot ≡ word_at (spare_at g old page) slot
done_word g place h old new p page slot apart = elim (cases_eq page place.page) [
  | inr other ↦ ap (λ (spare : List ℕ). word_at spare slot) (p.other_spares page other)
  | inl same ↦ subst (λ (q : ℕ). word_at (drop g.main_bytes (p.done q)) slot ≡ word_at (spare_at g old q) slot) (sym same)
      (ap (λ (spare : List ℕ). word_at spare slot) p.record_there ∙ record_words (spare_at g old place.page) place.slot h slot p.room (apart same))
]

done_seal : (g : Geometry) (place : Place) (h : Header) (old new : List (List ℕ)) (p : PutsCells g place h old new) (page : ℕ)
    → is_seal_charged (drop g.main_bytes (p.done page)) ≡ is_seal_charged (spare_at g old page)
done_seal g place h old new p page = elim (cases_eq page place.page) [
  | inr other ↦ ap is_seal_charged (p.other_spares page other)
  | inl same ↦ subst (λ (q : ℕ). is_seal_charged (drop g.main_bytes (p.done q)) ≡ is_seal_charged (spare_at g old q)) (sym same)
      (ap is_seal_charged p.record_there ∙ record_seal (spare_at g old place.page) place.slot h p.room)
]

-- every other slot stays, and so does every seal
pub slot_stays : (g : Geometry) (place : Place) (h : Header) (old new : List (List ℕ)) (p : PutsCells g place h old new) (page slot : ℕ) → (page ≡ place.page → slot ≢ place.slot)
    → SlotStays g old new page slot
slot_stays g place h old new p page slot apart = record {
  gate = same_tests _ _
      (λ e. sym (done_gate g place h old new p page slot apart) ∙ keeps (above_drop g.main_bytes _ _ (p.below page)) (128 * slot) e)
      (λ e. keeps (above_drop g.main_bytes _ _ (p.above page)) (128 * slot) e);
  word = above_both _ _
      (bytes_take _ _ (bytes_drop (16 * slot + 1) _ (bytes_drop g.main_bytes _ (p.new_bytes page))))
      (bytes_take _ _ (bytes_drop (16 * slot + 1) _ (bytes_drop g.main_bytes _ (p.old_bytes page))))
      (word_above g.main_bytes slot _ _ (p.above page))
      (subst (λ (w : List ℕ). IsAbove w (word_at (spare_at g new page) slot)) (done_word g place h old new p page slot apart) (word_above g.main_bytes slot (p.done page) _ (p.below page)));
}

pub seal_stays : (g : Geometry) (place : Place) (h : Header) (old new : List (List ℕ)) (p : PutsCells g place h old new) (page : ℕ) → SealStays g old new page
seal_stays g place h old new p page = same_tests _ _
    (λ e. sym (done_seal g place h old new p page) ∙ keeps (above_drop g.main_bytes _ _ (p.below page)) 248 e)
    (λ e. keeps (above_drop g.main_bytes _ _ (p.above page)) 248 e)

pub other_committed : (g : Geometry) (place : Place) (h : Header) (old new : List (List ℕ)) → PutsCells g place h old new → (other : Place)
    → (other ≡ place) ⊎ (committed_in g new other ≡ committed_in g old other)
other_committed g place h old new p other = elim (cases_eq other.page place.page) [
  | inr apart ↦ inr (committed_stays g old new other (slot_stays g place h old new p other.page other.slot (λ e. absurd (apart e))) (seal_stays g place h old new p (block_of g other.page * g.pages)))
  | inl same ↦ elim (cases_eq other.slot place.slot) [
    | inl slot ↦ inl (λ i. record { page = same i; slot = slot i })
    | inr apart ↦ inr (committed_stays g old new other (slot_stays g place h old new p other.page other.slot (λ e. apart)) (seal_stays g place h old new p (block_of g other.page * g.pages)))
  ]
]

-- Where the gate is not charged, no live record changes.
pub put_keeps_live : (g : Geometry) (place : Place) (h : Header) (old new : List (List ℕ)) → PutsCells g place h old new
    → is_gate_charged (spare_at g old place.page) place.slot ≡ false → is_gate_charged (spare_at g new place.page) place.slot ≡ false
    → (sector : ℕ) → live_record g new sector ≡ live_record g old sector
put_keeps_live g place h old new p before after = live_same g old new (λ other. elim (other_committed g place h old new p other) [
  | inr kept ↦ kept
  | inl same ↦ subst (λ (q : Place). committed_in g new q ≡ committed_in g old q) (sym same) (ungated g new place after ∙ sym (ungated g old place before))
])

placed_there : (g : Geometry) (place : Place) (h : Header) (old new : List (List ℕ)) → PutsCells g place h old new → HoldsRecord g place h
    → is_gate_charged (spare_at g new place.page) place.slot ≡ true → record_in g new place ≡ Some h
unfolding record_in
placed_there g place h old new p f charged =
    cond-true (may_hold g place) (below_sectors g (header_in g new place)) None f.may
    ∙ (ap (λ (word : List ℕ). below_sectors g (header_of word))
    (ap (λ (row : List ℕ). word_at (drop g.main_bytes row) place.slot) (p.whole charged place.page)
    ∙ (ap (λ (spare : List ℕ). word_at spare place.slot) p.record_there ∙ record_word (spare_at g old place.page) place.slot h p.room))
    ∙ (ap (below_sectors g) (read_spelled h f.header) ∙ ap (λ (t : Bool). if t then Some h else None) (lt-ltb h.sector g.sectors f.sector)))

committed_there : (g : Geometry) (place : Place) (h : Header) (new : List (List ℕ)) → record_in g new place ≡ Some h → is_copy h ≡ false
    → is_gate_charged (spare_at g new place.page) place.slot ≡ true → committed_in g new place ≡ Some h
unfolding committed_in is_committed
committed_there g place h new placed single charged =
    ap (if_committed g new place) placed
    ∙ ap (λ (t : Bool). if t then Some h else None) (ap₂ (λ (gate copy : Bool). gate && (if copy then is_sealed g new (block_of g place.page) else true)) charged single)

-- Where the gate is charged, the record is the live one of its sector, and no other sector's changes.
pub put_wins : (g : Geometry) (place : Place) (h : Header) (old new : List (List ℕ)) → PutsCells g place h old new → HoldsRecord g place h → is_copy h ≡ false
    → is_gate_charged (spare_at g old place.page) place.slot ≡ false → is_gate_charged (spare_at g new place.page) place.slot ≡ true
    → ((other : Place) (k : Header) → committed_in g old other ≡ Some k → k.seq < h.seq) → GateWins g old new place h
put_wins g place h old new p f single before charged newest =
    let was = ungated g old place before in
    let now = committed_there g place h new (placed_there g place h old new p f charged) single charged in
    record {
      live = gate_makes_live g old new place h f.slots was now (other_committed g place h old new p) newest;
      others = gate_leaves_others g old new place h was now (other_committed g place h old new p);
    }

-- ---- headers

own_word_below : (g : Geometry) (place : Place) (h : Header) (old new : List (List ℕ)) → PutsCells g place h old new → IsAbove (spelling h) (word_at (spare_at g new place.page) place.slot)
own_word_below g place h old new p = subst (λ (w : List ℕ). IsAbove w (word_at (spare_at g new place.page) place.slot))
    (ap (λ (spare : List ℕ). word_at spare place.slot) p.record_there ∙ record_word (spare_at g old place.page) place.slot h p.room)
    (word_above g.main_bytes place.slot (p.done place.page) _ (p.below place.page))

-- A valid header afterwards is an old one in its place, or the new one in its own.
pub header_after : (g : Geometry) (place : Place) (h : Header) (old new : List (List ℕ)) → PutsCells g place h old new → IsHeader h → (other : Place) (k : Header) → header_in g new other ≡ Some k
    → (header_in g old other ≡ Some k) ⊎ ((other ≡ place) × (k ≡ h))
header_after g place h old new p header other k e = elim (cases_eq other.page place.page) [
  | inr apart ↦ inl (ap header_of (sym (slot_stays g place h old new p other.page other.slot (λ same. absurd (apart same))).word) ∙ e)
  | inl same ↦ elim (cases_eq other.slot place.slot) [
    | inl slot ↦ inr ((λ i. record { page = same i; slot = slot i }), own same slot)
    | inr apart ↦ inl (ap header_of (sym (slot_stays g place h old new p other.page other.slot (λ here. apart)).word) ∙ e)
  ]
]
  where
    own : other.page ≡ place.page → other.slot ≡ place.slot → k ≡ h
    own same slot =
        let e' : header_of (word_at (spare_at g new place.page) place.slot) ≡ Some k = ap (λ (w : Place). header_in g new w) (λ i. record { page = sym same i; slot = sym slot i }) ∙ e in
        let whole = valid_below (spelling h) _ (spelled_valid h header) (header_valid _ k e') (above_bits _ _ (own_word_below g place h old new p)) in
        same_Some k h (sym e' ∙ (ap header_of (sym whole) ∙ read_spelled h header))

-- the header cells stay below valid words
pub put_keeps_headers : (g : Geometry) (place : Place) (h : Header) (old new : List (List ℕ)) → PutsCells g place h old new → IsHeader h → HeadersBelow g old → HeadersBelow g new
put_keeps_headers g place h old new p header sound page slot in_page in_slot = elim (cases_eq page place.page) [
  | inr apart ↦ was (λ same. absurd (apart same))
  | inl here ↦ elim (cases_eq slot place.slot) [
    | inr apart ↦ was (λ same. apart)
    | inl own ↦ (
      spelling h,
      spelled_valid h header,
      subst (λ (q : ℕ). IsAbove (spelling h) (word_at (spare_at g new q) slot)) (sym here)
          (subst (λ (s : ℕ). IsAbove (spelling h) (word_at (spare_at g new place.page) s)) (sym own) (own_word_below g place h old new p)),
    )
  ]
]
  where
    was : (page ≡ place.page → slot ≢ place.slot) → (word : List ℕ) × (is_valid word ≡ true) × IsAbove word (word_at (spare_at g new page) slot)
    was apart = let w = sound page slot in_page in_slot in (w.0, w.1, subst (IsAbove w.0) (sym (slot_stays g place h old new p page slot apart).word) w.2)

-- the seqs of valid headers still differ, and are still bounded, where the new one is greater than all
pub put_keeps_seqs : (g : Geometry) (place : Place) (h : Header) (old new : List (List ℕ)) → PutsCells g place h old new → IsHeader h
    → ((other : Place) (k : Header) → header_in g old other ≡ Some k → k.seq < h.seq)
    → ((a b : Place) (j k : Header) → header_in g old a ≡ Some j → header_in g old b ≡ Some k → j.seq ≡ k.seq → a ≡ b)
    → (a b : Place) (j k : Header) → header_in g new a ≡ Some j → header_in g new b ≡ Some k → j.seq ≡ k.seq → a ≡ b
put_keeps_seqs g place h old new p header fresh differ a b j k e f same = at (header_after g place h old new p header a j e) (header_after g place h old new p header b k f)
  where
    at : (header_in g old a ≡ Some j) ⊎ ((a ≡ place) × (j ≡ h)) → (header_in g old b ≡ Some k) ⊎ ((b ≡ place) × (k ≡ h)) → a ≡ b
    at (inl x) (inl y) = differ a b j k x y same
    at (inl x) (inr y) = absurd (omega (arith, same, fresh a j x, ap (λ (z : Header). z.seq) y.1))
    at (inr x) (inl y) = absurd (omega (arith, same, fresh b k y, ap (λ (z : Header). z.seq) x.1))
    at (inr x) (inr y) = x.0 ∙ sym y.0

pub put_keeps_bound : (g : Geometry) (place : Place) (h : Header) (old new : List (List ℕ)) (bound : ℕ) → PutsCells g place h old new → IsHeader h → h.seq < bound
    → ((other : Place) (k : Header) → header_in g old other ≡ Some k → k.seq < bound) → (other : Place) (k : Header) → header_in g new other ≡ Some k → k.seq < bound
put_keeps_bound g place h old new bound p header small was other k e = elim (header_after g place h old new p header other k e) [
  | inl stood ↦ was other k stood
  | inr own ↦ subst (λ (x : Header). x.seq < bound) (sym own.1) small
]
