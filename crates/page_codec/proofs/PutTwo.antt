-- A put over two pages: the second page is programmed first.
use Rattle.std.proofs.Common.{◌≡◌, ◌≢◌, ◌⊎◌, inl, inr, ℕ, ◌+◌, ◌*◌, ◌<◌, ◌≤◌, List, drop, ◌==◌, if◌then◌else◌, refl, sym, ap, ◌∙◌, arith, subst}
use Rattle.std.proofs.lemmas.Bool.{cases_eq, cond-true, cond-false, eq-eqb, ne_eqb, false≢true}
use Rattle.zero_count.specs.declared.Header.{Header}
use Rattle.cell_die.specs.declared.shape.Shape.{Shape}
use Rattle.cell_die.specs.Cells.{IsAbove, charge, with_charged}
use Rattle.cell_die.specs.DieState.{DieState, page_of}
use Rattle.cell_die.specs.Changes.{OnlyPage, IsBetween}
use Rattle.cell_bits.proofs.Above.{above_refl, above_trans}
use Rattle.cell_die.proofs.CellLaws.{charge_above}
use Rattle.spare_gate.specs.Slots.{is_gate_charged, gate_cell_of}
use Rattle.cell_bits.proofs.Slices.{charge_spare}
use Rattle.page_codec.specs.declared.place.Place.{Place}
use Rattle.page_codec.specs.Puts.{Puts, spare_of}
use Rattle.page_codec.proofs.PutOne.{Midway, IsTarget}

-- the second page was programmed
pub midway_two : (place : Place) (old mid : DieState) (further : List ℕ) → mid.shape ≡ old.shape → OnlyPage (place.page + 1) old mid → page_of mid (place.page + 1) ≡ further
    → IsAbove further (page_of old (place.page + 1)) → drop old.shape.main_bytes further ≡ spare_of old (place.page + 1) → Midway 2 place old mid
midway_two place old mid further shape only all above spare = record {
  shape = shape;
  erases = only.erases;
  others = λ page outside. only.others page (apart page outside);
  here = only.others place.page (λ e. omega arith);
  spares = λ page. elim (cases_eq page (place.page + 1)) [
    | inr other ↦ ap (drop old.shape.main_bytes) (only.others page other)
    | inl same ↦ subst (λ (q : ℕ). drop old.shape.main_bytes (page_of mid q) ≡ spare_of old q) (sym same) (ap (drop old.shape.main_bytes) all ∙ spare)
  ];
  above = λ page. elim (cases_eq page (place.page + 1)) [
    | inr other ↦ subst (λ (row : List ℕ). IsAbove row (page_of old page)) (sym (only.others page other)) (above_refl (page_of old page))
    | inl same ↦ subst (λ (q : ℕ). IsAbove (page_of mid q) (page_of old q)) (sym same) (subst (λ (row : List ℕ). IsAbove row (page_of old (place.page + 1))) (sym all) above)
  ];
}
  where
    apart : (page : ℕ) → (page < place.page) ⊎ (place.page + 2 ≤ page) → page ≢ place.page + 1
    apart page (inl before) = λ e. omega arith
    apart page (inr after) = λ e. omega arith

-- the pages as Ok leaves them
abbrev pub done_two : ℕ → List ℕ → List ℕ → DieState → ℕ → List ℕ
done_two first whole further old page = if page == first then whole else (if page == first + 1 then further else page_of old page)

-- the program of the second page failed
pub put_torn : (Content : (ℕ → List ℕ) → Type 0) (place : Place) (header : Header) (old new : DieState) (further target : List ℕ)
    → new.shape ≡ old.shape → OnlyPage (place.page + 1) old new → IsBetween (page_of old (place.page + 1)) (page_of new (place.page + 1)) further
    → drop old.shape.main_bytes further ≡ spare_of old (place.page + 1) → IsTarget place header old target
    → Content (done_two place.page (charge target (gate_cell_of old.shape.main_bytes place.slot)) further old)
    → Puts Content 2 place header old new
put_torn Content place header old new further target shape only between spare t content = record {
  erases = only.erases;
  others = λ page outside. only.others page (apart page outside);
  done = done;
  record_there = ap (drop old.shape.main_bytes) first ∙ (charge_spare old.shape.main_bytes target (128 * place.slot) ∙ ap (λ (row : List ℕ). with_charged row (128 * place.slot)) t.spare);
  other_spares = λ page other. elim (cases_eq page (place.page + 1)) [
    | inl same ↦ subst (λ (q : ℕ). drop old.shape.main_bytes (done q) ≡ spare_of old q) (sym same) (ap (drop old.shape.main_bytes) second ∙ spare)
    | inr third ↦ ap (drop old.shape.main_bytes) (rest page other third)
  ];
  content = content;
  above = λ page. elim (cases_eq page (place.page + 1)) [
    | inr other ↦ subst (λ (row : List ℕ). IsAbove row (page_of old page)) (sym (only.others page other)) (above_refl (page_of old page))
    | inl same ↦ subst (λ (q : ℕ). IsAbove (page_of new q) (page_of old q)) (sym same) between.above
  ];
  below = λ page. elim (cases_eq page (place.page + 1)) [
    | inl same ↦ subst (λ (q : ℕ). IsAbove (done q) (page_of new q)) (sym same) (subst (λ (row : List ℕ). IsAbove row (page_of new (place.page + 1))) (sym second) between.below)
    | inr other ↦ elim (cases_eq page place.page) [
      | inl here ↦ subst (λ (q : ℕ). IsAbove (done q) (page_of new q)) (sym here) (subst (λ (row : List ℕ). IsAbove row (page_of new place.page)) (sym first)
          (subst (IsAbove (charge target (gate_cell_of old.shape.main_bytes place.slot))) (sym same_first)
          (above_trans _ _ _ (charge_above target (gate_cell_of old.shape.main_bytes place.slot) (omega (arith, t.page_room))) t.above)))
      | inr third ↦ subst (λ (row : List ℕ). IsAbove row (page_of new page)) (only.others page other ∙ sym (rest page third other)) (above_refl (page_of new page))
    ]
  ];
  whole = λ gated. absurd (false≢true (sym t.ungated ∙ (ap (λ (row : List ℕ). is_gate_charged (drop old.shape.main_bytes row) place.slot) (sym same_first)
      ∙ (ap (λ (s : Shape). is_gate_charged (drop s.main_bytes (page_of new place.page)) place.slot) (sym shape) ∙ gated))));
  order = inl same_first;
}
  where
    done : ℕ → List ℕ
    done = done_two place.page (charge target (gate_cell_of old.shape.main_bytes place.slot)) further old

    apart : (page : ℕ) → (page < place.page) ⊎ (place.page + 2 ≤ page) → page ≢ place.page + 1
    apart page (inl before) = λ e. omega arith
    apart page (inr after) = λ e. omega arith

    same_first : page_of new place.page ≡ page_of old place.page
    same_first = only.others place.page (λ e. omega arith)

    first : done place.page ≡ charge target (gate_cell_of old.shape.main_bytes place.slot)
    first = cond-true (place.page == place.page) _ _ (eq-eqb place.page place.page refl)

    second : done (place.page + 1) ≡ further
    second =
        cond-false (place.page + 1 == place.page) _ _ (ne_eqb (place.page + 1) place.page (λ e. omega arith))
        ∙ cond-true (place.page + 1 == place.page + 1) _ _ (eq-eqb (place.page + 1) (place.page + 1) refl)

    rest : (page : ℕ) → page ≢ place.page → page ≢ place.page + 1 → done page ≡ page_of old page
    rest page other third = cond-false (page == place.page) _ _ (ne_eqb page place.page other) ∙ cond-false (page == place.page + 1) _ _ (ne_eqb page (place.page + 1) third)
