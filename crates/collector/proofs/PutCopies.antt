-- A copy changes no live record, whatever the outcome of its put, while the seal of its block is not charged.
use Rattle.std.proofs.Common.{◌≡◌, ◌⊎◌, ◌*◌, ℕ, inl, inr, refl, Bool, true, false, List, drop, ◌&&◌, if◌then◌else◌, Some, None, sym, ap, ap₂, ◌∙◌, subst}
use Rattle.std.proofs.lemmas.Bool.{cases_Bool, cond-true, lt-ltb}
use Rattle.zero_count.specs.declared.Header.{Header}
use Rattle.zero_count.specs.HeaderWord.{header_of}
use Rattle.zero_count.proofs.Spelled.{read_spelled}
use Rattle.spare_gate.specs.Slots.{is_gate_charged, word_at}
use Rattle.spare_gate.proofs.Headers.{record_word}
use Rattle.page_codec.specs.declared.place.Place.{Place}
use Rattle.page_codec.specs.Geometry.{Geometry, block_of, spare_at}
use Rattle.page_codec.specs.Promises.{HoldsRecord}
use Rattle.page_codec.specs.Records.{may_hold, header_in, below_sectors, record_in, is_copy, is_sealed, is_committed, if_committed, committed_in, live_record}
use Rattle.page_codec.proofs.PutLaws.{PutsCells, other_committed, seal_stays}
use Rattle.page_codec.proofs.Live.{live_same}
use Rattle.page_codec.proofs.Changes.{ungated}

-- behind its gate the record stands
pub placed_there : (g : Geometry) (place : Place) (h : Header) (old new : List (List ℕ)) → PutsCells g place h old new → HoldsRecord g place h
    → is_gate_charged (spare_at g new place.page) place.slot ≡ true → record_in g new place ≡ Some h
unfolding record_in
placed_there g place h old new p f charged =
    cond-true (may_hold g place) (below_sectors g (header_in g new place)) None f.may
    ∙ (ap (λ (word : List ℕ). below_sectors g (header_of word))
    (ap (λ (row : List ℕ). word_at (drop g.main_bytes row) place.slot) (p.whole charged place.page)
    ∙ (ap (λ (spare : List ℕ). word_at spare place.slot) p.record_there ∙ record_word (spare_at g old place.page) place.slot h p.room))
    ∙ (ap (below_sectors g) (read_spelled h f.header) ∙ ap (λ (t : Bool). if t then Some h else None) (lt-ltb h.sector g.sectors f.sector)))

and_false : (b : Bool) → (b && false) ≡ false
and_false true = refl
and_false false = refl

copy_waits : (g : Geometry) (place : Place) (h : Header) (cells : List (List ℕ)) → record_in g cells place ≡ Some h → is_copy h ≡ true → is_sealed g cells (block_of g place.page) ≡ false
    → committed_in g cells place ≡ None
unfolding committed_in is_committed
copy_waits g place h cells there copy unsealed =
    ap (if_committed g cells place) there
    ∙ ap (λ (t : Bool). if t then Some h else None)
    (ap₂ (λ (c s : Bool). is_gate_charged (spare_at g cells place.page) place.slot && (if c then s else true)) copy unsealed ∙ and_false (is_gate_charged (spare_at g cells place.page) place.slot))

pub copy_keeps_live : (g : Geometry) (place : Place) (h : Header) (old new : List (List ℕ)) → PutsCells g place h old new → HoldsRecord g place h → is_copy h ≡ true
    → is_gate_charged (spare_at g old place.page) place.slot ≡ false → is_sealed g old (block_of g place.page) ≡ false → (sector : ℕ) → live_record g new sector ≡ live_record g old sector
copy_keeps_live g place h old new p f copy before unsealed = live_same g old new (λ other. elim (other_committed g place h old new p other) [
  | inr kept ↦ kept
  | inl same ↦ subst (λ (q : Place). committed_in g new q ≡ committed_in g old q) (sym same)
      (after (cases_Bool (is_gate_charged (spare_at g new place.page) place.slot)) ∙ sym (ungated g old place before))
])
  where
    after : (is_gate_charged (spare_at g new place.page) place.slot ≡ true) ⊎ (is_gate_charged (spare_at g new place.page) place.slot ≡ false) → committed_in g new place ≡ None
    after (inl charged) = copy_waits g place h new (placed_there g place h old new p f charged) copy (seal_stays g place h old new p (block_of g place.page * g.pages) ∙ unsealed)
    after (inr uncharged) = ungated g new place uncharged
