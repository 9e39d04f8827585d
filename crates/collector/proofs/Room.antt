-- A block has room for one live record more where one of its slots holds no committed record.
use Rattle.std.proofs.Common.{◌≡◌, inl, inr, ℕ, ◌+◌, ◌*◌, ◌%◌, ◌<◌, ◌≤◌, Bool, true, List, Option, Some, None, refl, sym, ap, ap₂, ◌∙◌, arith, subst}
use Rattle.std.proofs.lemmas.Bool.{cases_lt, eqb-true, false≢true}
use Rattle.std.proofs.lemmas.Option.{same_Some, none-some}
use Rattle.std.proofs.lemmas.Nat.{mul-add-lt, same_from_place, mod_below, div-add-mod'}
use Rattle.std.proofs.Math.Nat.{mul-zero}
use Rattle.zero_count.specs.declared.Header.{Header}
use Rattle.page_codec.specs.declared.place.Place.{Place}
use Rattle.page_codec.specs.Geometry.{Geometry, page_count, block_of}
use Rattle.page_codec.specs.Records.{Placed, may_hold, records_of, committed_in, live_record}
use Rattle.page_codec.specs.Sound.{live_count, stands_in}
use Rattle.page_codec.proofs.Live.{of_records, holds_within, committed_holds, live_counts}
use Rattle.page_codec.proofs.Newest.{newest_some}
use Rattle.collector.proofs.Counting.{apart_fewer}

-- a live record is of its sector
pub live_sector : (g : Geometry) (cells : List (List ℕ)) (sector : ℕ) (x : Placed) → live_record g cells sector ≡ Some x → x.header.sector ≡ sector
unfolding live_record
live_sector g cells sector x e = (of_records g cells sector x (newest_some (records_of g cells sector) x e).one).1

-- .. and stands in a slot of the die
pub live_within : (g : Geometry) (cells : List (List ℕ)) (sector : ℕ) (x : Placed) → 1 ≤ g.generations → live_record g cells sector ≡ Some x
    → (x.place.page < page_count g) × (x.place.slot < g.generations)
live_within g cells sector x one e = holds_within g x.place one (committed_holds g cells x.place x.header (live_counts g cells sector x e))

-- a place's number within its block, slot by slot
abbrev number : Geometry → Place → ℕ
number g place = place.page % g.pages * g.generations + place.slot

abbrev number_of : Geometry → Option Placed → ℕ
number_of g None = 0
number_of g (Some x) = number g x.place

number_within : (g : Geometry) (place : Place) → 0 < g.pages → place.slot < g.generations → number g place < g.generations * g.pages
number_within g place pages slot = mul-add-lt (place.page % g.pages) g.generations place.slot g.pages (mod_below place.page g.pages pages) slot

-- of two places of one block with one number, both are one
number_apart : (g : Geometry) (a b : Place) → a.slot < g.generations → b.slot < g.generations → block_of g a.page ≡ block_of g b.page → number g a ≡ number g b → a ≡ b
number_apart g a b in_a in_b block same =
    let parts = same_from_place (a.page % g.pages) a.slot (b.page % g.pages) b.slot g.generations in_a in_b same in
    let page : a.page ≡ b.page = sym (div-add-mod' a.page g.pages) ∙ (ap₂ (λ (q r : ℕ). q * g.pages + r) block parts.0 ∙ div-add-mod' b.page g.pages) in
    λ i. record { page = page i; slot = parts.1 i }

-- a live record that stands in a block
some_stands : (g : Geometry) (block : ℕ) (o : Option Placed) → stands_in g block o ≡ true → (x : Placed) × (o ≡ Some x) × (block_of g x.place.page ≡ block)
some_stands g block None e = absurd (false≢true e)
some_stands g block (Some x) e = (x, refl, eqb-true (block_of g x.place.page) block e)

-- Where a slot that may hold a record has no committed one, its block has fewer live records than slots.
pub has_room : (g : Geometry) (cells : List (List ℕ)) (place : Place) → 1 ≤ g.generations → may_hold g place ≡ true → committed_in g cells place ≡ None
    → live_count g cells (block_of g place.page) < g.generations * g.pages
unfolding live_count
has_room g cells place one may none = apart_fewer stands at g.sectors (g.generations * g.pages) (number g place)
    (record { within = λ s h e. at_within s (standing s e); apart = λ s t h k e f same. at_apart s t (standing s e) (standing t f) same })
    (number_within g place pages (holds_within g place one may).1)
    (λ s h e same. at_missed s (standing s e) same)
  where
    block : ℕ
    block = block_of g place.page

    stands : ℕ → Bool
    stands s = stands_in g block (live_record g cells s)

    at : ℕ → ℕ
    at s = number_of g (live_record g cells s)

    pages : 0 < g.pages
    pages = elim (cases_lt 0 g.pages) [
      | inl some ↦ some
      | inr none_there ↦ (let zero_pages : g.pages ≡ 0 = omega arith in absurd (omega (arith, (holds_within g place one may).0, ap (λ (n : ℕ). g.blocks * n) zero_pages, mul-zero g.blocks)))
    ]

    -- a sector whose live record stands in the block, and that record
    standing : (s : ℕ) → stands s ≡ true → (x : Placed) × (live_record g cells s ≡ Some x) × (block_of g x.place.page ≡ block)
    standing s e = some_stands g block (live_record g cells s) e

    slot_of : (s : ℕ) (x : Placed) → live_record g cells s ≡ Some x → x.place.slot < g.generations
    slot_of s x e = (live_within g cells s x one e).1

    at_within : (s : ℕ) → (x : Placed) × (live_record g cells s ≡ Some x) × (block_of g x.place.page ≡ block) → at s < g.generations * g.pages
    at_within s (x, e, inside) = subst (λ (n : ℕ). n < g.generations * g.pages) (sym (ap (number_of g) e)) (number_within g x.place pages (slot_of s x e))

    at_apart : (s t : ℕ) → (x : Placed) × (live_record g cells s ≡ Some x) × (block_of g x.place.page ≡ block)
        → (y : Placed) × (live_record g cells t ≡ Some y) × (block_of g y.place.page ≡ block) → at s ≡ at t → s ≡ t
    at_apart s t (x, e, inside) (y, f, inside_too) same =
        let here : x.place ≡ y.place = number_apart g x.place y.place (slot_of s x e) (slot_of t y f) (inside ∙ sym inside_too) (sym (ap (number_of g) e) ∙ (same ∙ ap (number_of g) f)) in
        let header : x.header ≡ y.header = same_Some x.header y.header (sym (live_counts g cells s x e) ∙ (ap (committed_in g cells) here ∙ live_counts g cells t y f)) in
        sym (live_sector g cells s x e) ∙ (ap (λ (h : Header). h.sector) header ∙ live_sector g cells t y f)

    at_missed : (s : ℕ) → (x : Placed) × (live_record g cells s ≡ Some x) × (block_of g x.place.page ≡ block) → at s ≡ number g place → ⊥
    at_missed s (x, e, inside) same =
        let here : x.place ≡ place = number_apart g x.place place (slot_of s x e) (holds_within g place one may).1 inside (sym (ap (number_of g) e) ∙ same) in
        none-some x.header (sym none ∙ (sym (ap (committed_in g cells) here) ∙ live_counts g cells s x e))
