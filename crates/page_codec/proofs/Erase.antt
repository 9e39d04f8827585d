-- An erase of a block without a live record, torn or not, changes no live record.
use Rattle.std.proofs.Common.{◌≡◌, ◌≢◌, inl, inr, ℕ, ◌+◌, ◌*◌, ◌/◌, ◌<◌, ◌≤◌, Bool, true, false, List, drop, if◌then◌else◌, Option, Some, None, refl, sym, ap, ◌∙◌, arith, subst}
use Rattle.std.proofs.lemmas.Bool.{cases_eq, and_parts, and_from}
use Rattle.std.proofs.lemmas.Nat.{div-mul-add}
use Rattle.std.proofs.lemmas.Option.{none-some, same_Some}
use Rattle.zero_count.specs.declared.Header.{Header}
use Rattle.zero_count.specs.HeaderWord.{header_of, is_valid}
use Rattle.cell_die.specs.Cells.{page_at, IsAbove}
use Rattle.cell_bits.proofs.Above.{keeps}
use Rattle.cell_bits.specs.Cells.{AreBytes}
use Rattle.cell_bits.proofs.Slices.{above_drop, above_take, bytes_drop, bytes_take}
use Rattle.spare_gate.specs.Slots.{is_gate_charged, is_seal_charged, word_at}
use Rattle.spare_gate.proofs.Fallen.{fallen_valid}
use Rattle.page_codec.specs.declared.place.Place.{Place}
use Rattle.page_codec.specs.Geometry.{Geometry, page_count, block_of, spare_at}
use Rattle.page_codec.specs.Records.{Placed, may_hold, record_in, below_sectors, header_in, is_copy, is_sealed, is_committed, if_committed, committed_in, live_record}
use Rattle.page_codec.proofs.Live.{holds_within, committed_holds, live_counts, vanishing_keeps}
use Rattle.page_codec.proofs.Changes.{committed_stays}

-- Only this block's pages changed, and their cells fell. Before, the header cells of each slot lay below those of a valid word.
pub record FallsIn (g : Geometry) (old new : List (List ℕ)) (block : ℕ) : Type 0 where
  pub others : (page : ℕ) → block_of g page ≢ block → page_at new page ≡ page_at old page
  pub fell : (page : ℕ) → block_of g page ≡ block → IsAbove (page_at old page) (page_at new page)
  pub old_bytes : (page : ℕ) → AreBytes (page_at old page)
  pub new_bytes : (page : ℕ) → AreBytes (page_at new page)
  pub below_valid : (page slot : ℕ) → page < page_count g → slot < g.generations → (word : List ℕ) × (is_valid word ≡ true) × IsAbove word (word_at (spare_at g old page) slot)

-- what a committed record says, in parts
record CountsSo (g : Geometry) (cells : List (List ℕ)) (place : Place) (h : Header) : Type 0 where
  holds : may_hold g place ≡ true
  valid : is_valid (word_at (spare_at g cells place.page) place.slot) ≡ true
  placed : below_sectors g (header_of (word_at (spare_at g cells place.page) place.slot)) ≡ Some h
  gate : is_gate_charged (spare_at g cells place.page) place.slot ≡ true
  sealed : (if is_copy h then is_sealed g cells (block_of g place.page) else true) ≡ true

below_some : (g : Geometry) (word : List ℕ) (h : Header) → below_sectors g (header_of word) ≡ Some h → is_valid word ≡ true
unfolding header_of
below_some g word h e = at _ (is_valid word) refl e
  where
    at : (k : Header) (t : Bool) → is_valid word ≡ t → below_sectors g (if t then Some k else None) ≡ Some h → is_valid word ≡ true
    at k true l m = l
    at k false l m = absurd (none-some h m)

counted_so : (g : Geometry) (cells : List (List ℕ)) (place : Place) (h k : Header) → if_committed g cells place (Some k) ≡ Some h → (k ≡ h) × (is_committed g cells place h ≡ true)
counted_so g cells place h k e = at (is_committed g cells place k) refl e
  where
    at : (t : Bool) → is_committed g cells place k ≡ t → (if t then Some k else None) ≡ Some h → (k ≡ h) × (is_committed g cells place h ≡ true)
    at true c l = let same = same_Some k h l in (same, subst (λ (z : Header). is_committed g cells place z ≡ true) same c)
    at false c l = absurd (none-some h l)

if_committed_some : (g : Geometry) (cells : List (List ℕ)) (place : Place) (h : Header) (o : Option Header) → if_committed g cells place o ≡ Some h
    → (o ≡ Some h) × (is_committed g cells place h ≡ true)
if_committed_some g cells place h None e = absurd (none-some h e)
if_committed_some g cells place h (Some k) e = let c = counted_so g cells place h k e in (ap Some c.0, c.1)

committed_so : (g : Geometry) (cells : List (List ℕ)) (place : Place) (h : Header) → committed_in g cells place ≡ Some h → CountsSo g cells place h
unfolding committed_in record_in is_committed
committed_so g cells place h e =
    let holds = committed_holds g cells place h e in
    let e' : if_committed g cells place (below_sectors g (header_in g cells place)) ≡ Some h =
    ap (λ (t : Bool). if_committed g cells place (if t then below_sectors g (header_in g cells place) else None)) (sym holds) ∙ e in
    let c = if_committed_some g cells place h (below_sectors g (header_in g cells place)) e' in
    let parts = and_parts _ _ c.1 in
    record { holds = holds; valid = below_some g _ h c.0; placed = c.0; gate = parts.0; sealed = parts.1 }

so_committed : (g : Geometry) (cells : List (List ℕ)) (place : Place) (h : Header) → CountsSo g cells place h → committed_in g cells place ≡ Some h
unfolding committed_in record_in is_committed
so_committed g cells place h c =
    ap (λ (t : Bool). if_committed g cells place (if t then below_sectors g (header_in g cells place) else None)) c.holds
    ∙ (ap (if_committed g cells place) c.placed ∙ ap (λ (t : Bool). if t then Some h else None) (and_from _ _ c.gate c.sealed))

block_of_first : (g : Geometry) (block : ℕ) → 0 < g.pages → block_of g (block * g.pages) ≡ block
block_of_first g block h = ap (λ (n : ℕ). n / g.pages) (sum block g.pages) ∙ div-mul-add block g.pages 0 h
  where
    sum : (a b : ℕ) → a * b ≡ a * b + 0
    sum a b = omega arith

-- cells of the spare area that are charged after the fall were charged before
seal_fell : (g : Geometry) (old new : List (List ℕ)) (block : ℕ) → FallsIn g old new block → 0 < g.pages → is_sealed g new block ≡ true → is_sealed g old block ≡ true
seal_fell g old new block f some h = keeps (above_drop g.main_bytes _ _ (f.fell (block * g.pages) (block_of_first g block some))) 248 h

copy_fell : (g : Geometry) (old new : List (List ℕ)) (block : ℕ) → FallsIn g old new block → 0 < g.pages → (copy : Bool) → (if copy then is_sealed g new block else true) ≡ true
    → (if copy then is_sealed g old block else true) ≡ true
copy_fell g old new block f some true h = seal_fell g old new block f some h
copy_fell g old new block f some false h = refl

other_stays : (g : Geometry) (old new : List (List ℕ)) (block : ℕ) → FallsIn g old new block → 0 < g.pages → (place : Place) → block_of g place.page ≢ block
    → committed_in g new place ≡ committed_in g old place
other_stays g old new block f some place apart =
    committed_stays g old new place (record {
      gate = ap (λ (bytes : List ℕ). is_gate_charged (drop g.main_bytes bytes) place.slot) (f.others place.page apart);
      word = ap (λ (bytes : List ℕ). word_at (drop g.main_bytes bytes) place.slot) (f.others place.page apart);
    })
    (ap (λ (bytes : List ℕ). is_seal_charged (drop g.main_bytes bytes)) (f.others (block_of g place.page * g.pages) (λ e. apart (sym (block_of_first g (block_of g place.page) some) ∙ e))))

-- what is committed in the block after the fall was committed before
fell_committed : (g : Geometry) (old new : List (List ℕ)) (block : ℕ) → FallsIn g old new block → 0 < g.pages → 1 ≤ g.generations → (place : Place) (h : Header) → block_of g place.page ≡ block
    → committed_in g new place ≡ Some h → committed_in g old place ≡ Some h
fell_committed g old new block f some one place h here e =
    let c = committed_so g new place h e in
    let w = holds_within g place one c.holds in
    let spare = above_drop g.main_bytes _ _ (f.fell place.page here) in
    let sound = f.below_valid place.page place.slot w.0 w.1 in
    let word : word_at (spare_at g new place.page) place.slot ≡ word_at (spare_at g old place.page) place.slot =
    fallen_valid sound.0 _ _ sound.1 sound.2 (above_take _ _ _ (above_drop (16 * place.slot + 1) _ _ spare))
    (bytes_take _ _ (bytes_drop (16 * place.slot + 1) _ (bytes_drop g.main_bytes _ (f.old_bytes place.page))))
    (bytes_take _ _ (bytes_drop (16 * place.slot + 1) _ (bytes_drop g.main_bytes _ (f.new_bytes place.page)))) c.valid in
    so_committed g old place h (record {
      holds = c.holds;
      valid = subst (λ (x : List ℕ). is_valid x ≡ true) word c.valid;
      placed = ap (λ (x : List ℕ). below_sectors g (header_of x)) (sym word) ∙ c.placed;
      gate = keeps spare (128 * place.slot) c.gate;
      sealed = subst (λ (b : ℕ). (if is_copy h then is_sealed g old b else true) ≡ true) (sym here)
          (copy_fell g old new block f some (is_copy h) (subst (λ (b : ℕ). (if is_copy h then is_sealed g new b else true) ≡ true) here c.sealed));
    })

-- Where no live record stands in the block, no live record changes.
pub fall_keeps : (g : Geometry) (old new : List (List ℕ)) (block : ℕ) → FallsIn g old new block → 0 < g.pages → 1 ≤ g.generations
    → (sector : ℕ) → ((x : Placed) → live_record g old sector ≡ Some x → block_of g x.place.page ≢ block)
    → live_record g new sector ≡ live_record g old sector
fall_keeps g old new block f some one sector free =
    vanishing_keeps g old new one
    (λ place h e. elim (cases_eq (block_of g place.page) block) [
      | inl here ↦ fell_committed g old new block f some one place h here e
      | inr apart ↦ sym (other_stays g old new block f some place apart) ∙ e
    ])
    sector
    (λ x e. other_stays g old new block f some x.place (free x e) ∙ live_counts g old sector x e)
