-- The plain code's cells: the message in the first cells and the old cells after it.
use Rattle.std.proofs.Common.{◌≡◌, ℕ, ◌+◌, ◌-◌, Bool, false, List, ◌++◌, length, take, drop, sym, ◌∙◌, ap, inl, inr, arith}
use Rattle.std.proofs.lemmas.Bool.{cases_lt, true≢false}
use Rattle.std.proofs.lemmas.List.{get_or-take, get_or-drop, get_or_append_left, get_or-append_right, take_at, get_or_past, length-take}
use Rattle.wom_code.specs.Cells.{cell_at, IsAbove, Carries, NoneCarries}

-- a message over the first cells is above the old ones where it is above the first of them
front_above : (k : ℕ) (old message : List Bool) → length message ≡ k → IsAbove message (take k old) → IsAbove (message ++ drop k old) old
front_above k old message len h i e =
    elim (cases_lt i k) [
      | inl l ↦ get_or_append_left message (drop k old) false i (omega arith) ∙ h i (get_or-take k old i false l ∙ e)
      | inr m ↦
          let place : k + (i - k) ≡ i = omega arith in
          get_or-append_right message (drop k old) k i false len m ∙ get_or-drop k old (i - k) false ∙ ap (cell_at old) place ∙ e
    ]

pub front_carries : (k : ℕ) (old message : List Bool) → length message ≡ k → IsAbove message (take k old) → Carries (take k) old message (message ++ drop k old)
front_carries k old message len h = record { above = front_above k old message len h; decodes = take_at message (drop k old) k len }

-- cells that carry a message have it in the first cells, above the old ones
pub carried_front : (k : ℕ) (old message new : List Bool) → Carries (take k) old message new → IsAbove message (take k old)
carried_front k old message new c i e =
    elim (cases_lt i k) [
      | inl l ↦ ap (λ cells. cell_at cells i) (sym c.decodes) ∙ get_or-take k new i false l ∙ c.above i (sym (get_or-take k old i false l) ∙ e)
      | inr m ↦ absurd (true≢false (sym e ∙ get_or_past (take k old) i false (omega (arith, length-take k old))))
    ]

-- where the message does not fit, no cells carry it
pub front_none : (k n : ℕ) (old message : List Bool) → (IsAbove message (take k old) → ⊥) → NoneCarries (take k) n old message
front_none k n old message fails new len c = fails (carried_front k old message new c)
