-- A program of a page with the header of a fresh record, torn or not, leaves sound cells and changes no live record.
use Rattle.std.proofs.Common.{◌≡◌, ◌≢◌, ◌⊎◌, inl, inr, ℕ, ◌+◌, ◌*◌, ◌^◌, ◌<◌, ◌≤◌, Bool, true, false, List, drop, Some, refl, sym, ap, ◌∙◌, arith, subst}
use Rattle.std.proofs.lemmas.Bool.{cases_eq}
use Rattle.std.proofs.lemmas.Option.{same_Some}
use Rattle.zero_count.specs.declared.Header.{Header}
use Rattle.zero_count.specs.HeaderWord.{IsHeader, header_of, is_valid, spelling}
use Rattle.zero_count.proofs.ValidWords.{valid_below}
use Rattle.zero_count.proofs.Spelled.{spelled_valid, read_spelled}
use Rattle.cell_die.specs.Cells.{page_at, IsAbove}
use Rattle.page_codec.specs.Geometry.{HasShape}
use Rattle.cell_bits.proofs.Above.{keeps, above_bits, above_both}
use Rattle.cell_bits.proofs.Slices.{above_drop, above_take, bytes_drop, bytes_take}
use Rattle.spare_gate.specs.Slots.{is_gate_charged, is_seal_charged, word_at}
use Rattle.page_codec.specs.declared.place.Place.{Place}
use Rattle.page_codec.specs.Geometry.{Geometry, page_count, shape_of, spare_at}
use Rattle.page_codec.specs.Records.{header_in, live_record}
use Rattle.page_codec.specs.Sound.{IsSound}
use Rattle.page_codec.proofs.Within.{header_valid}
use Rattle.page_codec.proofs.Changes.{SealStays, program_keeps}
use Rattle.page_codec.proofs.SoundErase.{live_count_same}

-- A page is programmed with the word of a header in a slot whose gate is not charged. The target has all other words,
-- gates and the seal as they were. What is left lies between the old page and the target.
pub record TearsProgram (g : Geometry) (old new : List (List ℕ)) (place : Place) (h : Header) : Type 0 where
  pub slots : 1 ≤ g.generations
  pub shape : HasShape (shape_of g) new
  pub old_shape : HasShape (shape_of g) old
  pub sound : IsSound g old
  pub header : IsHeader h
  pub fresh : (other : Place) (k : Header) → header_in g old other ≡ Some k → k.seq < h.seq
  pub small : h.seq < 2 ^ 62 + 2 ^ 20
  pub ungated : is_gate_charged (spare_at g old place.page) place.slot ≡ false
  pub target : List ℕ
  pub word : word_at (drop g.main_bytes target) place.slot ≡ spelling h
  pub words : (slot : ℕ) → slot ≢ place.slot → word_at (drop g.main_bytes target) slot ≡ word_at (spare_at g old place.page) slot
  pub gates : (slot : ℕ) → is_gate_charged (drop g.main_bytes target) slot ≡ is_gate_charged (spare_at g old place.page) slot
  pub seal : is_seal_charged (drop g.main_bytes target) ≡ is_seal_charged (spare_at g old place.page)
  pub others : (page : ℕ) → page ≢ place.page → page_at new page ≡ page_at old page
  pub rises : IsAbove (page_at new place.page) (page_at old place.page)
  pub below : IsAbove target (page_at new place.page)

same_tests : (a b : Bool) → (a ≡ true → b ≡ true) → (b ≡ true → a ≡ true) → a ≡ b
same_tests true true f k = refl
same_tests true false f k = sym (f refl)
same_tests false true f k = k refl
same_tests false false f k = refl

gate_same : (g : Geometry) (old new : List (List ℕ)) (place : Place) (h : Header) → TearsProgram g old new place h → (slot : ℕ)
    → is_gate_charged (spare_at g new place.page) slot ≡ is_gate_charged (spare_at g old place.page) slot
gate_same g old new place h t slot = same_tests _ _
    (λ e. sym (t.gates slot) ∙ keeps (above_drop g.main_bytes _ _ t.below) (128 * slot) e)
    (λ e. keeps (above_drop g.main_bytes _ _ t.rises) (128 * slot) e)

seal_same : (g : Geometry) (old new : List (List ℕ)) (place : Place) (h : Header) → TearsProgram g old new place h → SealStays g old new place.page
seal_same g old new place h t = same_tests _ _
    (λ e. sym t.seal ∙ keeps (above_drop g.main_bytes _ _ t.below) 248 e)
    (λ e. keeps (above_drop g.main_bytes _ _ t.rises) 248 e)

word_above : (m slot : ℕ) (new old : List ℕ) → IsAbove new old → IsAbove (word_at (drop m new) slot) (word_at (drop m old) slot)
word_above m slot new old f = above_take _ _ _ (above_drop (16 * slot + 1) _ _ (above_drop m _ _ f))

word_same : (g : Geometry) (old new : List (List ℕ)) (place : Place) (h : Header) → TearsProgram g old new place h → (slot : ℕ) → slot ≢ place.slot
    → word_at (spare_at g new place.page) slot ≡ word_at (spare_at g old place.page) slot
word_same g old new place h t slot apart =
    above_both _ _
    (bytes_take _ _ (bytes_drop (16 * slot + 1) _ (bytes_drop g.main_bytes _ (t.shape.small place.page))))
    (bytes_take _ _ (bytes_drop (16 * slot + 1) _ (bytes_drop g.main_bytes _ (t.old_shape.small place.page))))
    (word_above g.main_bytes slot _ _ t.rises)
    (subst (λ (w : List ℕ). IsAbove w (word_at (spare_at g new place.page) slot)) (t.words slot apart) (word_above g.main_bytes slot t.target _ t.below))

-- no live record changes
pub tear_leaves_live : (g : Geometry) (old new : List (List ℕ)) (place : Place) (h : Header) → TearsProgram g old new place h → (sector : ℕ) → live_record g new sector ≡ live_record g old sector
tear_leaves_live g old new place h t = program_keeps g old new place.page t.slots (record {
  others = t.others;
  slots = λ slot _. elim (cases_eq slot place.slot) [
    | inl same ↦ inr (
      subst (λ (s : ℕ). is_gate_charged (spare_at g old place.page) s ≡ false) (sym same) t.ungated,
      gate_same g old new place h t slot ∙ subst (λ (s : ℕ). is_gate_charged (spare_at g old place.page) s ≡ false) (sym same) t.ungated,
    )
    | inr apart ↦ inl (record { gate = gate_same g old new place h t slot; word = word_same g old new place h t slot apart })
  ];
  seal = seal_same g old new place h t;
})

own_word_below : (g : Geometry) (old new : List (List ℕ)) (place : Place) (h : Header) → TearsProgram g old new place h → IsAbove (spelling h) (word_at (spare_at g new place.page) place.slot)
own_word_below g old new place h t = subst (λ (w : List ℕ). IsAbove w (word_at (spare_at g new place.page) place.slot)) t.word (word_above g.main_bytes place.slot t.target _ t.below)

-- a valid header after the program is an old one in its place, or the new one whole in its own
header_after : (g : Geometry) (old new : List (List ℕ)) (place : Place) (h : Header) → TearsProgram g old new place h → (other : Place) (k : Header) → header_in g new other ≡ Some k
    → (header_in g old other ≡ Some k) ⊎ ((other ≡ place) × (k ≡ h))
header_after g old new place h t other k e = elim (cases_eq other.page place.page) [
  | inr apart ↦ inl (ap (λ (bytes : List ℕ). header_of (word_at (drop g.main_bytes bytes) other.slot)) (sym (t.others other.page apart)) ∙ e)
  | inl same ↦ at_page same
]
  where
    own : other.page ≡ place.page → other.slot ≡ place.slot → k ≡ h
    own p s =
        let e' : header_of (word_at (spare_at g new place.page) place.slot) ≡ Some k = ap (λ (w : Place). header_in g new w) (λ i. record { page = sym p i; slot = sym s i }) ∙ e in
        let whole = valid_below (spelling h) _ (spelled_valid h t.header) (header_valid _ k e') (above_bits _ _ (own_word_below g old new place h t)) in
        same_Some k h (sym e' ∙ (ap header_of (sym whole) ∙ read_spelled h t.header))

    at_page : other.page ≡ place.page → (header_in g old other ≡ Some k) ⊎ ((other ≡ place) × (k ≡ h))
    at_page p = elim (cases_eq other.slot place.slot) [
      | inl s ↦ inr ((λ i. record { page = p i; slot = s i }), own p s)
      | inr apart ↦ inl (ap header_of (ap (λ (q : ℕ). word_at (spare_at g old q) other.slot) p
          ∙ (sym (word_same g old new place h t other.slot apart) ∙ ap (λ (q : ℕ). word_at (spare_at g new q) other.slot) (sym p))) ∙ e)
    ]

-- the cells are still sound
pub tear_leaves_sound : (g : Geometry) (old new : List (List ℕ)) (place : Place) (h : Header) → TearsProgram g old new place h → IsSound g new
tear_leaves_sound g old new place h t = record {
  below_valid = below;
  seqs_differ = λ a b j k e f same. differ a b j k e f same (header_after g old new place h t a j e) (header_after g old new place h t b k f);
  one_free = (t.sound.one_free.0, t.sound.one_free.1, live_count_same g old new (tear_leaves_live g old new place h t) t.sound.one_free.0 ∙ t.sound.one_free.2);
  small_seqs = λ other k e. elim (header_after g old new place h t other k e) [
    | inl was ↦ t.sound.small_seqs other k was
    | inr new_one ↦ subst (λ (x : Header). x.seq < 2 ^ 62 + 2 ^ 20) (sym new_one.1) t.small
  ];
}
  where
    below : (page slot : ℕ) → page < page_count g → slot < g.generations → (word : List ℕ) × (is_valid word ≡ true) × IsAbove word (word_at (spare_at g new page) slot)
    below page slot p s = elim (cases_eq page place.page) [
      | inr apart ↦ (let w = t.sound.below_valid page slot p s in (w.0, w.1, subst (λ (bytes : List ℕ). IsAbove w.0 (word_at (drop g.main_bytes bytes) slot)) (sym (t.others page apart)) w.2))
      | inl here ↦ elim (cases_eq slot place.slot) [
        | inl own ↦ (
          spelling h,
          spelled_valid h t.header,
          subst (λ (q : ℕ). IsAbove (spelling h) (word_at (spare_at g new q) slot)) (sym here)
              (subst (λ (r : ℕ). IsAbove (spelling h) (word_at (spare_at g new place.page) r)) (sym own) (own_word_below g old new place h t)),
        )
        | inr apart ↦ (let w = t.sound.below_valid page slot p s in (
          w.0,
          w.1,
          subst (λ (q : ℕ). IsAbove w.0 (word_at (spare_at g new q) slot)) (sym here)
              (subst (IsAbove w.0) (sym (word_same g old new place h t slot apart)) (subst (λ (q : ℕ). IsAbove w.0 (word_at (spare_at g old q) slot)) here w.2)),
        ))
      ]
    ]

    differ : (a b : Place) (j k : Header) → header_in g new a ≡ Some j → header_in g new b ≡ Some k → j.seq ≡ k.seq
        → (header_in g old a ≡ Some j) ⊎ ((a ≡ place) × (j ≡ h)) → (header_in g old b ≡ Some k) ⊎ ((b ≡ place) × (k ≡ h)) → a ≡ b
    differ a b j k e f same (inl x) (inl y) = t.sound.seqs_differ a b j k x y same
    differ a b j k e f same (inl x) (inr y) = absurd (omega (arith, t.fresh a j x, ap (λ (z : Header). z.seq) y.1))
    differ a b j k e f same (inr x) (inl y) = absurd (omega (arith, t.fresh b k y, ap (λ (z : Header). z.seq) x.1))
    differ a b j k e f same (inr x) (inr y) = x.0 ∙ sym y.0
