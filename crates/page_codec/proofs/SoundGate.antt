-- Charging a gate leaves sound cells, where some other block has no live record.
use Rattle.std.proofs.Common.{◌≡◌, ◌≢◌, ◌⊎◌, inl, inr, ℕ, zero, suc, ◌+◌, ◌<◌, Bool, false, List, [], drop, length, get_or-set_other, get_or-set_same, cond, Some, refl, sym, ap, ◌∙◌, arith, subst}
use Rattle.std.specs.List.{count_by, range_with_len}
use Rattle.std.proofs.lemmas.Bool.{cases_eq, cases_Bool, ne_eqb}
use Rattle.std.proofs.lemmas.List.Sums.{sum_by-cons}
use Rattle.zero_count.specs.declared.Header.{Header}
use Rattle.zero_count.specs.HeaderWord.{header_of}
use Rattle.cell_die.specs.Cells.{page_at, IsAbove}
use Rattle.spare_gate.specs.Slots.{word_at}
use Rattle.spare_gate.proofs.Gates.{gate_keeps_words}
use Rattle.page_codec.specs.declared.place.Place.{Place}
use Rattle.page_codec.specs.Geometry.{Geometry, block_of, spare_at}
use Rattle.page_codec.specs.Records.{header_in, live_record}
use Rattle.page_codec.specs.Sound.{IsSound, live_count, stands_in}
use Rattle.page_codec.specs.Gate.{AwaitsGate}
use Rattle.page_codec.proofs.Changes.{gated, gate_wins}

-- no word of any slot changes
word_kept : (g : Geometry) (old : List (List ℕ)) (place : Place) → place.page < length old → (page slot : ℕ) → word_at (spare_at g (gated g old place) page) slot ≡ word_at (spare_at g old page) slot
word_kept g old place within page slot = elim (cases_eq page place.page) [
  | inr apart ↦ ap (λ (bytes : List ℕ). word_at (drop g.main_bytes bytes) slot) (get_or-set_other old place.page page _ [] apart)
  | inl same ↦ subst (λ (q : ℕ). word_at (spare_at g (gated g old place) q) slot ≡ word_at (spare_at g old q) slot) (sym same)
      (ap (λ (bytes : List ℕ). word_at (drop g.main_bytes bytes) slot) (get_or-set_same old place.page _ [] within) ∙ gate_keeps_words g.main_bytes (page_at old place.page) place.slot slot)
]

count_more : (p : ℕ → Bool) (a n : ℕ) → count_by p (range_with_len a (suc n)) ≡ cond (p a) 1 0 + count_by p (range_with_len (a + 1) n)
count_more p a n = sum_by-cons (λ x. cond (p x) 1 0) a (range_with_len (a + 1) n)

first_none : (p : ℕ → Bool) (a n : ℕ) → count_by p (range_with_len a (suc n)) ≡ 0 → p a ≡ false
first_none p a n e = elim (cases_Bool (p a)) [
  | inr fails ↦ fails
  | inl holds ↦ absurd (omega (arith, count_more p a n, ap {B = ℕ} (λ (t : Bool). cond t 1 0) holds))
]

-- a count of zero counts none of them, and counting none is zero
count_none : (p : ℕ → Bool) (a n k : ℕ) → count_by p (range_with_len a n) ≡ 0 → k < n → p (a + k) ≡ false
count_none p a zero k e h = absurd (omega arith)
count_none p a (suc n) zero e h = subst (λ (z : ℕ). p z ≡ false) (omega arith) (first_none p a n e)
count_none p a (suc n) (suc k) e h = subst (λ (z : ℕ). p z ≡ false) (omega arith) (count_none p (a + 1) n k (omega (arith, count_more p a n)) (omega arith))

none_counted : (p : ℕ → Bool) (a n : ℕ) → ((k : ℕ) → k < n → p (a + k) ≡ false) → count_by p (range_with_len a n) ≡ 0
none_counted p a zero f = refl
none_counted p a (suc n) f =
    let first : p a ≡ false = subst (λ (z : ℕ). p z ≡ false) (omega arith) (f 0 (omega arith)) in
    let rest = none_counted p (a + 1) n (λ k h. subst (λ (z : ℕ). p z ≡ false) (omega arith) (f (suc k) (omega arith))) in
    count_more p a n ∙ omega (arith, rest, ap {B = ℕ} (λ (t : Bool). cond t 1 0) first)

-- The gate of a record keeps the cells sound, where a block other than the record's has no live record.
pub gate_keeps_sound : (g : Geometry) (old : List (List ℕ)) (place : Place) (h : Header) → place.page < length old → AwaitsGate g old place h → IsSound g old
    → (block : ℕ) → block < g.blocks → live_count g old block ≡ 0 → block_of g place.page ≢ block → IsSound g (gated g old place)
unfolding live_count
gate_keeps_sound g old place h within w sound block in_range free apart = record {
  below_valid = λ page slot p q. let s = sound.below_valid page slot p q in (s.0, s.1, subst (IsAbove s.0) (sym (word_kept g old place within page slot)) s.2);
  seqs_differ = λ a b j k e f. sound.seqs_differ a b j k (was a j e) (was b k f);
  one_free = (
    block,
    in_range,
    none_counted (λ s. stands_in g block (live_record g (gated g old place) s)) 0 g.sectors
        (λ k l. at (0 + k) (cases_eq (0 + k) h.sector) (count_none (λ s. stands_in g block (live_record g old s)) 0 g.sectors k free l)),
  );
  small_seqs = λ other k e. sound.small_seqs other k (was other k e);
}
  where
    was : (other : Place) (k : Header) → header_in g (gated g old place) other ≡ Some k → header_in g old other ≡ Some k
    was other k e = ap header_of (sym (word_kept g old place within other.page other.slot)) ∙ e

    at : (s : ℕ) → (s ≡ h.sector) ⊎ (s ≡ h.sector → ⊥) → stands_in g block (live_record g old s) ≡ false → stands_in g block (live_record g (gated g old place) s) ≡ false
    at s (inl same) e =
        ap (λ (t : ℕ). stands_in g block (live_record g (gated g old place) t)) same ∙ (ap (stands_in g block) (gate_wins g old place h within w).live ∙ ne_eqb (block_of g place.page) block apart)
    at s (inr other) e = ap (stands_in g block) ((gate_wins g old place h within w).others s other) ∙ e
