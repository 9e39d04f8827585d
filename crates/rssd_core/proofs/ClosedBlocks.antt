-- Closed blocks of a book.
use Rattle.std.proofs.Common.{◌≡◌, inl, inr, ℕ, ◌<◌, false, IsTrue, length, refl, sym, ap, ◌∙◌}
use Rattle.std.proofs.lemmas.Bool.{cases_lt, false≢true}
use Rattle.std.proofs.lemmas.List.{get_or_past}
use Rattle.block_state.specs.declared.state.State.{State}
use Rattle.block_state.specs.declared.state.State.TheVariants.{Clean, Active, Used, Recycled, Reused, Spare}
use Rattle.block_state.specs.State.{is_closed, is_spare}
use Rattle.block_state.specs.Book.{BookValue, IsClosed, state_at}

-- a block in another state than Clean is one of the blocks
pub within_blocks : (v : BookValue) (b : ℕ) → (state_at v b ≡ Clean → ⊥) → b < length v.states
within_blocks v b other = elim (cases_lt b (length v.states)) [ inl within ↦ within | inr past ↦ absurd (other (get_or_past v.states b Clean past)) ]

-- a closed block is one of them, and it is not the Spare
pub closed_within : (v : BookValue) (b : ℕ) → IsClosed v b → b < length v.states
closed_within v b closed = within_blocks v b (λ clean. false≢true (sym (ap is_closed clean) ∙ closed))

pub closed_not_spare : (s : State) → IsTrue (is_closed s) → is_spare s ≡ false
closed_not_spare Clean closed = refl
closed_not_spare (Active fill) closed = refl
closed_not_spare (Used level) closed = refl
closed_not_spare (Recycled level next) closed = refl
closed_not_spare Reused closed = refl
closed_not_spare (Spare blank) closed = absurd (false≢true closed)
