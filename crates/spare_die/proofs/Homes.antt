-- Homes and names of the table after one of its pages changes.
use Rattle.std.proofs.Common.{◌≡◌, ◌≢◌, ◌⊎◌, inl, inr, ℕ, zero, suc, ◌+◌, ◌<◌, Bool, true, false, List, refl, ap, ap₂, sym, ◌∙◌, arith, eq-eqb, if◌then◌else◌, ◌==◌, ◌&&◌, ◌||◌, ⊎_elim}
use Rattle.std.proofs.lemmas.Bool.{cases_eq}
use Rattle.cell_die.specs.DieState.{DieState, page_of}
use Rattle.spare_die.specs.Table.{home_up_to, is_gated, is_entry_for, is_entry_of, inner_of, logical_of, is_named_up_to}

-- each page is as it was, or an entry neither before nor after
abbrev pub SameEntries : DieState → DieState → ℕ → Type 0
SameEntries inner new count = (page : ℕ) → page < count → (page_of new page ≡ page_of inner page) ⊎ ((is_gated (page_of inner page) ≡ false) × (is_gated (page_of new page) ≡ false))

-- then homes stay
pub homes_ungated : (inner new : DieState) (block count : ℕ) → SameEntries inner new count → home_up_to new block count ≡ home_up_to inner block count
unfolding home_up_to
homes_ungated inner new block zero same = refl
homes_ungated inner new block (suc count) same = step (homes_ungated inner new block count (λ page below. same page (omega arith))) (same count (omega arith)) where
  step : home_up_to new block count ≡ home_up_to inner block count
      → (page_of new count ≡ page_of inner count) ⊎ ((is_gated (page_of inner count) ≡ false) × (is_gated (page_of new count) ≡ false))
      → (if is_entry_for block (page_of new count) then inner_of (page_of new count) else home_up_to new block count)
      ≡ (if is_entry_for block (page_of inner count) then inner_of (page_of inner count) else home_up_to inner block count)
  step before (inl page) = ap₂ (λ (page : List ℕ) (rest : ℕ). if is_entry_for block page then inner_of page else rest) page before
  step before (inr none) =
      ap (λ gated. if gated && (logical_of (page_of new count) == block) then inner_of (page_of new count) else home_up_to new block count) none.1
      ∙ (before ∙ sym (ap (λ gated. if gated && (logical_of (page_of inner count) == block) then inner_of (page_of inner count) else home_up_to inner block count) none.0))

-- and names
pub names_ungated : (inner new : DieState) (block count : ℕ) → SameEntries inner new count → is_named_up_to new block count ≡ is_named_up_to inner block count
unfolding is_named_up_to
names_ungated inner new block zero same = refl
names_ungated inner new block (suc count) same = step (names_ungated inner new block count (λ page below. same page (omega arith))) (same count (omega arith)) where
  step : is_named_up_to new block count ≡ is_named_up_to inner block count
      → (page_of new count ≡ page_of inner count) ⊎ ((is_gated (page_of inner count) ≡ false) × (is_gated (page_of new count) ≡ false))
      → (if is_entry_of block (page_of new count) then true else is_named_up_to new block count)
      ≡ (if is_entry_of block (page_of inner count) then true else is_named_up_to inner block count)
  step before (inl page) = ap₂ (λ (page : List ℕ) (rest : Bool). if is_entry_of block page then true else rest) page before
  step before (inr none) =
      ap (λ gated. if gated && (inner_of (page_of new count) == block) then true else is_named_up_to new block count) none.1
      ∙ (before ∙ sym (ap (λ gated. if gated && (inner_of (page_of inner count) == block) then true else is_named_up_to inner block count) none.0))

-- what an entry on a page with no entry before, in a table all else of which stays, adds to the names
pub named_after : (inner new : DieState) (block table named count : ℕ) → table < count
    → ((page : ℕ) → page < count → page ≢ table → page_of new page ≡ page_of inner page)
    → is_gated (page_of inner table) ≡ false → is_gated (page_of new table) ≡ true → inner_of (page_of new table) ≡ named
    → is_named_up_to new block count ≡ ((named == block) || is_named_up_to inner block count)
unfolding is_named_up_to
named_after inner new block table named zero below others none gated is = absurd (omega arith)
named_after inner new block table named (suc count) below others none gated is = ⊎_elim
    (λ here. at_last here (names_ungated inner new block count (λ page under. inl (others page (omega arith) (omega arith)))))
    (λ apart. before_last apart (named_after inner new block table named count (omega arith) (λ page under. others page (omega arith)) none gated is))
    (cases_eq table count)
  where
    either : (a b : Bool) → (if a then true else b) ≡ (a || b)
    either true b = refl
    either false b = refl

    swap : (a b c : Bool) → (if a then true else (b || c)) ≡ (b || (if a then true else c))
    swap true true c = refl
    swap true false c = refl
    swap false b c = refl

    at_last : table ≡ count → is_named_up_to new block count ≡ is_named_up_to inner block count
        → (if is_entry_of block (page_of new count) then true else is_named_up_to new block count)
        ≡ ((named == block) || (if is_entry_of block (page_of inner count) then true else is_named_up_to inner block count))
    at_last here same =
        ap₂ (λ (page : List ℕ) (rest : Bool). if is_entry_of block page then true else rest) (ap (page_of new) (sym here)) same
        ∙ (ap₂ (λ (a : Bool) (n : ℕ). if a && (n == block) then true else is_named_up_to inner block count) gated is
        ∙ (either (named == block) (is_named_up_to inner block count)
        ∙ sym (ap (λ (a : Bool). (named == block) || (if a && (inner_of (page_of inner count) == block) then true else is_named_up_to inner block count))
        (ap (λ page. is_gated (page_of inner page)) (sym here) ∙ none))))

    before_last : table ≢ count → is_named_up_to new block count ≡ ((named == block) || is_named_up_to inner block count)
        → (if is_entry_of block (page_of new count) then true else is_named_up_to new block count)
        ≡ ((named == block) || (if is_entry_of block (page_of inner count) then true else is_named_up_to inner block count))
    before_last apart same =
        ap₂ (λ (page : List ℕ) (rest : Bool). if is_entry_of block page then true else rest) (others count (omega arith) (λ e. apart (sym e))) same
        ∙ swap (is_entry_of block (page_of inner count)) (named == block) (is_named_up_to inner block count)

-- an entry names its inner block
pub named_by : (inner : DieState) (block count page : ℕ) → page < count → is_entry_of block (page_of inner page) ≡ true → is_named_up_to inner block count ≡ true
unfolding is_named_up_to
named_by inner block zero page below entry = absurd (omega arith)
named_by inner block (suc count) page below entry = ⊎_elim
    (λ here. ap (λ is. if is then true else is_named_up_to inner block count) (ap (λ at. is_entry_of block (page_of inner at)) (sym here) ∙ entry))
    (λ apart. ap (λ (rest : Bool). if is_entry_of block (page_of inner count) then true else rest) (named_by inner block count page (omega arith) entry) ∙ both
    (is_entry_of block (page_of inner count)))
    (cases_eq page count)
  where
    both : (b : Bool) → (if b then true else true) ≡ true
    both true = refl
    both false = refl

-- a home is the inner block after its own number, or named
pub home_named : (inner : DieState) (block count : ℕ) → (home_up_to inner block count ≡ 1 + block) ⊎ (is_named_up_to inner (home_up_to inner block count) count ≡ true)
unfolding home_up_to is_named_up_to
home_named inner block zero = inl refl
home_named inner block (suc count) = go (is_gated (page_of inner count)) (logical_of (page_of inner count) == block) refl refl (home_named inner block count) where
  here : (gated : Bool) (x : ℕ) → gated ≡ true → (if gated && (x == x) then true else is_named_up_to inner x count) ≡ true
  here gated x is = ap₂ (λ (a b : Bool). if a && b then true else is_named_up_to inner x count) is (eq-eqb x x refl)

  keeps : (b r : Bool) → r ≡ true → (if b then true else r) ≡ true
  keeps true r is = refl
  keeps false r is = is

  Goal : Bool → Bool → Type 0
  Goal gated same = let h : ℕ = if gated && same then inner_of (page_of inner count) else home_up_to inner block count in
      (h ≡ 1 + block) ⊎ ((if is_gated (page_of inner count) && (inner_of (page_of inner count) == h) then true else is_named_up_to inner h count) ≡ true)

  rest : (home_up_to inner block count ≡ 1 + block) ⊎ (is_named_up_to inner (home_up_to inner block count) count ≡ true)
      → (home_up_to inner block count ≡ 1 + block) ⊎
      ((if is_gated (page_of inner count) && (inner_of (page_of inner count) == home_up_to inner block count) then true else is_named_up_to inner (home_up_to inner block count) count) ≡ true)
  rest (inl own) = inl own
  rest (inr named) = inr (keeps (is_gated (page_of inner count) && (inner_of (page_of inner count) == home_up_to inner block count)) _ named)

  go : (gated same : Bool) → is_gated (page_of inner count) ≡ gated → (logical_of (page_of inner count) == block) ≡ same
      → (home_up_to inner block count ≡ 1 + block) ⊎ (is_named_up_to inner (home_up_to inner block count) count ≡ true) → Goal gated same
  go true true is same before = inr (here (is_gated (page_of inner count)) (inner_of (page_of inner count)) is)
  go true false is same before = rest before
  go false same is same' before = rest before
