-- A state that is no Spare. Of three blocks one is Spare where the last one is and the others are not, since past the last block the state is Clean.
use Rattle.std.proofs.Common.{◌≡◌, ℕ, inl, inr, Bool, true, false, length, refl, sym, ap, ◌∙◌, subst, arith}
use Rattle.std.proofs.lemmas.Bool.{cases_eq, cases_lt, false≢true}
use Rattle.std.proofs.lemmas.List.{get_or_past}
use Rattle.block_state.specs.declared.state.State.{State}
use Rattle.block_state.specs.declared.state.State.TheVariants.{Clean, Active, Used, Recycled, Reused, Spare}
use Rattle.block_state.specs.State.{is_spare}
use Rattle.block_state.specs.Book.{BookValue, HasOneSpare, state_at}

pub not_spare : (s : State) → ((blank : Bool) → s ≡ Spare blank → ⊥) → is_spare s ≡ false
not_spare Clean other = refl
not_spare (Active fill) other = refl
not_spare (Used level) other = refl
not_spare (Recycled level next) other = refl
not_spare Reused other = refl
not_spare (Spare blank) other = absurd (other blank refl)

pub one_spare_of_three : (v : BookValue) → length v.states ≡ 3 → is_spare (state_at v 0) ≡ false → is_spare (state_at v 1) ≡ false → is_spare (state_at v 2) ≡ true → HasOneSpare v
one_spare_of_three v three first second last = (2, last, only)
  where
    at : (c d : ℕ) → c ≡ d → is_spare (state_at v c) ≡ true → is_spare (state_at v d) ≡ true
    at c d same = subst (λ (e : ℕ). is_spare (state_at v e) ≡ true) same

    only : (c : ℕ) → is_spare (state_at v c) ≡ true → c ≡ 2
    only c spare = elim (cases_lt c 3) [
      | inl within ↦ elim (cases_eq c 0) [
        | inl zero ↦ absurd (false≢true (sym first ∙ at c 0 zero spare))
        | inr some ↦ elim (cases_eq c 1) [
          | inl one ↦ absurd (false≢true (sym second ∙ at c 1 one spare))
          | inr more ↦ omega arith
        ]
      ]
      | inr past ↦ absurd (false≢true (sym (ap is_spare (get_or_past v.states c Clean (omega arith))) ∙ spare))
    ]
