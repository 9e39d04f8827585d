-- The tests of given cells against the relations: the rows that a test goes over are those of so many cells.
use Rattle.std.proofs.Common.{◌≡◌, ◌⊎◌, ℕ, Bool, true, not, ◌||◌, nat_lt, List, length, inl, inr}
use Rattle.std.specs.List.{list_all}
use Rattle.std.proofs.lemmas.Bool.{or_cases, or_left, or_right, ltb-true, lt-ltb}
use Rattle.wom_code.specs.Cells.{Carries, charge_of}
use Rattle.wom_code.specs.Tests.{is_same, is_carrying, all_rows}
use Rattle.wom_code.proofs.TestLemmas.{is_same_to, is_same_from, is_carrying_to, is_carrying_from, implied_to, implied_from, every_row_to, every_row_from}
use Rattle.rivest_shamir.specs.Words.{message_of, IsLeast, is_least}

-- ---- any code, and any test of the rows that come after the new one

module _ (decode : List Bool → List Bool) (after : List Bool → Bool) (old message new : List Bool) where
  row_test : List Bool → Bool
  row_test cells = not (is_carrying decode old message cells) || (is_same cells new || after cells)

  pub each_to : (n : ℕ) → list_all (λ cells. not (is_carrying decode old message cells) || (is_same cells new || after cells)) (all_rows n) ≡ true
      → (cells : List Bool) → length cells ≡ n → Carries decode old message cells → (cells ≡ new) ⊎ (after cells ≡ true)
  unfolding row_test
  each_to n t cells len carries =
      let carrying : is_carrying decode old message cells ≡ true = is_carrying_from decode old message cells carries in
      elim (or_cases _ _ (implied_to (is_carrying decode old message cells) (is_same cells new || after cells) (every_row_to n row_test t cells len) carrying)) [
        | inl same ↦ inl (is_same_to cells new same)
        | inr later ↦ inr later
      ]

  pub each_from : (n : ℕ) → ((cells : List Bool) → length cells ≡ n → Carries decode old message cells → (cells ≡ new) ⊎ (after cells ≡ true))
      → list_all (λ cells. not (is_carrying decode old message cells) || (is_same cells new || after cells)) (all_rows n) ≡ true
  unfolding row_test
  each_from n each = every_row_from n row_test (λ cells len. implied_from (is_carrying decode old message cells) (is_same cells new || after cells) (λ carries.
      elim (each cells len (is_carrying_to decode old message cells carries)) [
        | inl same ↦ or_left (is_same cells new) (after cells) (is_same_from cells new same)
        | inr later ↦ or_right (is_same cells new) (after cells) later
      ]))

-- ---- the least cells

pub least_to : (old message new : List Bool) → is_least old message new ≡ true → IsLeast old message new
unfolding is_least
least_to old message new t cells len carries =
    elim (each_to message_of (λ row. nat_lt (charge_of new) (charge_of row)) old message new 3 t cells len carries) [ inl same ↦ inl same | inr more ↦ inr (ltb-true _ _ more) ]

pub least_from : (old message new : List Bool) → IsLeast old message new → is_least old message new ≡ true
unfolding is_least
least_from old message new least =
    each_from message_of (λ row. nat_lt (charge_of new) (charge_of row)) old message new 3
    (λ cells len carries. elim (least cells len carries) [ inl same ↦ inl same | inr more ↦ inr (lt-ltb _ _ more) ])
