-- The tests of rows are the relations.
use Rattle.std.proofs.Common.{◌≡◌, ℕ, zero, suc, ◌≤◌, ◌↔◌, Bool, true, false, not, ◌&&◌, ◌||◌, List, [], ◌∷◌, map, length, nat_le, sym, ◌∙◌, ap, refl, arith}
use Rattle.std.specs.List.{list_all}
use Rattle.std.specs.Cmp.Lexicographic.{pointwise_decides}
use Rattle.std.proofs.lemmas.Bool.{and_parts, and_from, true≢false, le-leb, leb-true}
use Rattle.std.proofs.lemmas.List.Folds.{list_all-append, list_all-map}
use mathlib.Core.Bool.{beq}
use Rattle.wom_code.specs.Cells.{IsAbove, Carries}
use Rattle.wom_code.specs.Tests.{is_same, is_above, is_carrying, all_rows}

-- ---- two rows are one

beq_decides : (x y : Bool) → (beq x y ≡ true → x ≡ y) × (x ≡ y → beq x y ≡ true)
beq_decides true true = (λ e. refl, λ e. refl)
beq_decides true false = (λ e. sym e, λ e. sym e)
beq_decides false true = (λ e. e, λ e. e)
beq_decides false false = (λ e. refl, λ e. refl)

pub is_same_iff : (xs ys : List Bool) → is_same xs ys ≡ true ↔ xs ≡ ys
is_same_iff xs ys = pointwise_decides beq_decides xs ys

pub is_same_to : (xs ys : List Bool) → is_same xs ys ≡ true → xs ≡ ys
is_same_to xs ys = (is_same_iff xs ys).0

pub is_same_from : (xs ys : List Bool) → xs ≡ ys → is_same xs ys ≡ true
is_same_from xs ys = (is_same_iff xs ys).1

pub is_same_self : (xs : List Bool) → is_same xs xs ≡ true
is_same_self xs = is_same_from xs xs refl

-- ---- one row is above another

pub is_above_from : (new old : List Bool) → IsAbove new old → is_above new old ≡ true
is_above_from ns [] h = refl
is_above_from [] (true ∷ os) h = absurd (true≢false (sym (h 0 refl)))
is_above_from [] (false ∷ os) h = is_above_from [] os (λ i e. h (suc i) e)
is_above_from (n ∷ ns) (false ∷ os) h = is_above_from ns os (λ i e. h (suc i) e)
is_above_from (true ∷ ns) (true ∷ os) h = is_above_from ns os (λ i e. h (suc i) e)
is_above_from (false ∷ ns) (true ∷ os) h = absurd (true≢false (sym (h 0 refl)))

pub is_above_to : (new old : List Bool) → is_above new old ≡ true → IsAbove new old
is_above_to ns [] t i e = absurd (true≢false (sym e))
is_above_to [] (true ∷ os) t i e = absurd (true≢false (sym t))
is_above_to [] (false ∷ os) t zero e = absurd (true≢false (sym e))
is_above_to [] (false ∷ os) t (suc i) e = is_above_to [] os t i e
is_above_to (n ∷ ns) (false ∷ os) t zero e = absurd (true≢false (sym e))
is_above_to (n ∷ ns) (false ∷ os) t (suc i) e = is_above_to ns os t i e
is_above_to (true ∷ ns) (true ∷ os) t zero e = refl
is_above_to (true ∷ ns) (true ∷ os) t (suc i) e = is_above_to ns os t i e
is_above_to (false ∷ ns) (true ∷ os) t i e = absurd (true≢false (sym t))

pub is_above_iff : (new old : List Bool) → is_above new old ≡ true ↔ IsAbove new old
is_above_iff new old = (is_above_to new old, is_above_from new old)

-- ---- cells carry a message

pub is_carrying_from : (decode : List Bool → List Bool) (old message new : List Bool) → Carries decode old message new → is_carrying decode old message new ≡ true
is_carrying_from decode old message new c = and_from _ _ (is_above_from new old c.above) (is_same_from (decode new) message c.decodes)

pub is_carrying_to : (decode : List Bool → List Bool) (old message new : List Bool) → is_carrying decode old message new ≡ true → Carries decode old message new
is_carrying_to decode old message new t =
    let parts = and_parts (is_above new old) (is_same (decode new) message) t in
    record { above = is_above_to new old parts.0; decodes = is_same_to (decode new) message parts.1 }

pub is_carrying_iff : (decode : List Bool → List Bool) (old message new : List Bool) → is_carrying decode old message new ≡ true ↔ Carries decode old message new
is_carrying_iff decode old message new = (is_carrying_to decode old message new, is_carrying_from decode old message new)

-- ---- one test where another holds, and the order of numbers

pub implied_to : (a b : Bool) → (not a || b) ≡ true → a ≡ true → b ≡ true
implied_to true b t e = t
implied_to false b t e = absurd (true≢false (sym e))

pub implied_from : (a b : Bool) → (a ≡ true → b ≡ true) → (not a || b) ≡ true
implied_from true b h = h refl
implied_from false b h = refl

pub at_most_to : (a b : ℕ) → nat_le a b ≡ true → a ≤ b
at_most_to a b t = leb-true a b t

pub at_most_from : (a b : ℕ) → a ≤ b → nat_le a b ≡ true
at_most_from a b h = le-leb a b h

-- ---- every row of n cells

split_rows : (n : ℕ) (test : List Bool → Bool) → list_all test (all_rows (suc n)) ≡ (list_all (λ row. test (true ∷ row)) (all_rows n) && list_all (λ row. test (false ∷ row)) (all_rows n))
split_rows n test =
    list_all-append test (map (λ row. true ∷ row) (all_rows n)) (map (λ row. false ∷ row) (all_rows n))
    ∙ ap (λ b. b && list_all test (map (λ row. false ∷ row) (all_rows n))) (list_all-map test (λ row. true ∷ row) (all_rows n))
    ∙ ap (λ b. list_all (λ row. test (true ∷ row)) (all_rows n) && b) (list_all-map test (λ row. false ∷ row) (all_rows n))

pub every_row_to : (n : ℕ) (test : List Bool → Bool) → list_all test (all_rows n) ≡ true → (row : List Bool) → length row ≡ n → test row ≡ true
every_row_to zero test t [] e = (and_parts _ _ t).0
every_row_to zero test t (c ∷ row) e = absurd (omega arith)
every_row_to (suc n) test t [] e = absurd (omega arith)
every_row_to (suc n) test t (true ∷ row) e = every_row_to n (λ rest. test (true ∷ rest)) (and_parts _ _ (sym (split_rows n test) ∙ t)).0 row (omega arith)
every_row_to (suc n) test t (false ∷ row) e = every_row_to n (λ rest. test (false ∷ rest)) (and_parts _ _ (sym (split_rows n test) ∙ t)).1 row (omega arith)

pub every_row_from : (n : ℕ) (test : List Bool → Bool) → ((row : List Bool) → length row ≡ n → test row ≡ true) → list_all test (all_rows n) ≡ true
every_row_from zero test h = and_from _ _ (h [] refl) refl
every_row_from (suc n) test h =
    split_rows n test ∙ and_from _ _
    (every_row_from n (λ row. test (true ∷ row)) (λ row e. h (true ∷ row) (omega arith)))
    (every_row_from n (λ row. test (false ∷ row)) (λ row e. h (false ∷ row) (omega arith)))

pub every_row_iff : (n : ℕ) (test : List Bool → Bool) → list_all test (all_rows n) ≡ true ↔ ((row : List Bool) → length row ≡ n → test row ≡ true)
every_row_iff n test = (every_row_to n test, every_row_from n test)
