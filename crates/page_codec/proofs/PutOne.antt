-- What a put leaves, from what its last two change calls leave.
use Rattle.std.proofs.Common.{◌≡◌, ◌≢◌, ◌⊎◌, inl, inr, ℕ, ◌+◌, ◌*◌, ◌<◌, ◌≤◌, true, false, List, drop, length, ◌==◌, if◌then◌else◌, refl, sym, ap, ◌∙◌, arith, subst}
use Rattle.std.proofs.lemmas.Bool.{cases_eq, cond-true, cond-false, eq-eqb, ne_eqb, false≢true}
use Rattle.zero_count.specs.declared.Header.{Header}
use Rattle.cell_die.specs.Cells.{IsAbove, charge, with_charged}
use Rattle.cell_die.specs.declared.shape.Shape.{Shape}
use Rattle.cell_die.specs.DieState.{DieState, page_of}
use Rattle.cell_die.specs.Changes.{OnlyPage, IsBetween}
use Rattle.cell_bits.proofs.Above.{keeps, above_refl, above_trans}
use Rattle.cell_bits.proofs.Slices.{above_drop}
use Rattle.cell_die.proofs.CellLaws.{charge_above}
use Rattle.spare_gate.specs.Slots.{with_header, is_gate_charged, gate_cell_of}
use Rattle.spare_gate.proofs.Gates.{gate_charges}
use Rattle.spare_gate.proofs.Headers.{header_gates}
use Rattle.cell_bits.proofs.Slices.{charge_spare}
use Rattle.page_codec.specs.declared.place.Place.{Place}
use Rattle.page_codec.specs.Puts.{Puts, spare_of, is_gated}

-- The further pages of the unit were programmed: their cells are above the old ones, and no spare byte changed.
pub record Midway (span : ℕ) (place : Place) (old mid : DieState) : Type 0 where
  pub shape : mid.shape ≡ old.shape
  pub erases : mid.erases ≡ old.erases
  pub others : (page : ℕ) → (page < place.page) ⊎ (place.page + span ≤ page) → page_of mid page ≡ page_of old page
  pub here : page_of mid place.page ≡ page_of old place.page
  pub spares : (page : ℕ) → drop old.shape.main_bytes (page_of mid page) ≡ spare_of old page
  pub above : (page : ℕ) → IsAbove (page_of mid page) (page_of old page)

-- no further page
pub midway_none : (place : Place) (old : DieState) → Midway 1 place old old
midway_none place old = record { shape = refl; erases = refl; others = λ page outside. refl; here = refl; spares = λ page. refl; above = λ page. above_refl (page_of old page) }

-- The target of the first page: the old one with the word of the header, and more charged main cells.
pub record IsTarget (place : Place) (header : Header) (old : DieState) (target : List ℕ) : Type 0 where
  pub above : IsAbove target (page_of old place.page)
  pub spare : drop old.shape.main_bytes target ≡ with_header (spare_of old place.page) place.slot header
  pub ungated : is_gate_charged (spare_of old place.page) place.slot ≡ false
  pub room : 16 * place.slot + 16 ≤ length (spare_of old place.page)
  pub page_room : old.shape.main_bytes + 16 * place.slot + 16 ≤ length target

-- what a program of the first page and its gate leave of it
abbrev pub Reaches : List ℕ → List ℕ → List ℕ → ℕ → Type 0
Reaches old new target cell = IsBetween old new target ⊎ (new ≡ charge target cell)

abbrev gate_of : Place → DieState → ℕ
gate_of place die = gate_cell_of die.shape.main_bytes place.slot

-- the pages as Ok leaves them
abbrev pub done_with : ℕ → List ℕ → DieState → ℕ → List ℕ
done_with first whole mid page = if page == first then whole else page_of mid page

pub done_here : (first : ℕ) (whole : List ℕ) (mid : DieState) → done_with first whole mid first ≡ whole
done_here first whole mid = cond-true (first == first) whole (page_of mid first) (eq-eqb first first refl)

pub done_else : (first : ℕ) (whole : List ℕ) (mid : DieState) (page : ℕ) → page ≢ first → done_with first whole mid page ≡ page_of mid page
done_else first whole mid page apart = cond-false (page == first) whole (page_of mid page) (ne_eqb page first apart)

target_gate : (place : Place) (header : Header) (old : DieState) (target : List ℕ) → IsTarget place header old target → is_gate_charged (drop old.shape.main_bytes target) place.slot ≡ false
target_gate place header old target t =
    ap (λ (spare : List ℕ). is_gate_charged spare place.slot) t.spare
    ∙ (header_gates (spare_of old place.page) place.slot header place.slot t.room ∙ t.ungated)

charge_target : (place : Place) (header : Header) (old : DieState) (target : List ℕ) → IsTarget place header old target → IsAbove (charge target (gate_of place old)) target
charge_target place header old target t = charge_above target (gate_of place old) (omega (arith, t.page_room))

pub put_ends : (Content : (ℕ → List ℕ) → Type 0) (span : ℕ) (place : Place) (header : Header) (old mid new : DieState) (target : List ℕ)
    → 1 ≤ span → Midway span place old mid → IsTarget place header old target → new.shape ≡ mid.shape → OnlyPage place.page mid new
    → Reaches (page_of mid place.page) (page_of new place.page) target (gate_of place old)
    → Content (done_with place.page (charge target (gate_of place old)) mid)
    → Puts Content span place header old new
put_ends Content span place header old mid new target one m t shape only reaches content = record {
  erases = only.erases ∙ m.erases;
  others = λ page outside. only.others page (apart_outside page outside) ∙ m.others page outside;
  done = done;
  record_there =
      ap (drop old.shape.main_bytes) (done_here place.page whole mid)
      ∙ (charge_spare old.shape.main_bytes target (128 * place.slot) ∙ ap (λ (spare : List ℕ). with_charged spare (128 * place.slot)) t.spare);
  other_spares = λ page apart. ap (drop old.shape.main_bytes) (done_else place.page whole mid page apart) ∙ m.spares page;
  content = content;
  above = λ page. above_at page (cases_eq page place.page);
  below = λ page. below_at page (cases_eq page place.page);
  whole = λ gated page. whole_at gated page (cases_eq page place.page);
  order = inr (λ page after within. stays page (λ e. omega arith));
}
  where
    whole : List ℕ
    whole = charge target (gate_cell_of old.shape.main_bytes place.slot)

    done : ℕ → List ℕ
    done = done_with place.page (charge target (gate_cell_of old.shape.main_bytes place.slot)) mid

    stays : (page : ℕ) → page ≢ place.page → page_of new page ≡ done page
    stays page apart = only.others page apart ∙ sym (done_else place.page whole mid page apart)

    apart_outside : (page : ℕ) → (page < place.page) ⊎ (place.page + span ≤ page) → page ≢ place.page
    apart_outside page (inl before) = λ e. omega arith
    apart_outside page (inr after) = λ e. omega arith

    above_at : (page : ℕ) → (page ≡ place.page) ⊎ (page ≢ place.page) → IsAbove (page_of new page) (page_of old page)
    above_at page (inr apart) = subst (λ (row : List ℕ). IsAbove row (page_of old page)) (sym (only.others page apart)) (m.above page)
    above_at page (inl same) = subst (λ (q : ℕ). IsAbove (page_of new q) (page_of old q)) (sym same) (elim reaches [
      | inl between ↦ subst (IsAbove (page_of new place.page)) m.here between.above
      | inr all ↦ subst (λ (row : List ℕ). IsAbove row (page_of old place.page)) (sym all) (above_trans _ _ _ (charge_target place header old target t) t.above)
    ])

    below_at : (page : ℕ) → (page ≡ place.page) ⊎ (page ≢ place.page) → IsAbove (done page) (page_of new page)
    below_at page (inr apart) = subst (λ (row : List ℕ). IsAbove row (page_of new page)) (stays page apart) (above_refl (page_of new page))
    below_at page (inl same) =
        subst (λ (q : ℕ). IsAbove (done q) (page_of new q)) (sym same) (subst (λ (row : List ℕ). IsAbove row (page_of new place.page)) (sym (done_here place.page _ mid)) (elim reaches [
          | inl between ↦ above_trans _ _ _ (charge_target place header old target t) between.below
          | inr all ↦ subst (IsAbove (charge target (gate_of place old))) (sym all) (above_refl _)
        ]))

    all_there : is_gated new place ≡ true → page_of new place.page ≡ charge target (gate_of place old)
    all_there gated = elim reaches [
      | inr all ↦ all
      | inl between ↦ (
          let here : is_gate_charged (drop old.shape.main_bytes (page_of new place.page)) place.slot ≡ true =
          ap (λ (s : Shape). is_gate_charged (drop s.main_bytes (page_of new place.page)) place.slot) (sym (shape ∙ m.shape)) ∙ gated in
          absurd (false≢true (sym (target_gate place header old target t) ∙ keeps (above_drop old.shape.main_bytes _ _ between.below) (128 * place.slot) here)))
    ]

    whole_at : is_gated new place ≡ true → (page : ℕ) → (page ≡ place.page) ⊎ (page ≢ place.page) → page_of new page ≡ done page
    whole_at gated page (inr apart) = stays page apart
    whole_at gated page (inl same) = subst (λ (q : ℕ). page_of new q ≡ done q) (sym same) (all_there gated ∙ sym (done_here place.page _ mid))

-- the gate is charged where both calls answered Ok
pub ends_gated : (span : ℕ) (place : Place) (header : Header) (old mid new : DieState) (target : List ℕ)
    → Midway span place old mid → IsTarget place header old target → new.shape ≡ mid.shape → page_of new place.page ≡ charge target (gate_of place old) → is_gated new place ≡ true
ends_gated span place header old mid new target m t shape e =
    ap (λ (s : Shape). is_gate_charged (drop s.main_bytes (page_of new place.page)) place.slot) (shape ∙ m.shape)
    ∙ (ap (λ (row : List ℕ). is_gate_charged (drop old.shape.main_bytes row) place.slot) e ∙ gate_charges old.shape.main_bytes target place.slot (omega (arith, t.page_room)))
