-- What holds of a desk's values holds of the references that it was built of.
use Rattle.std.proofs.Common.{◌≡◌, ℕ, List, Option, refl, ◌∙◌, subst}
use Rattle.cell_die.specs.DieState.{DieState}
use Rattle.cell_die.proofs.Sequences.{kept_refl, kept_trans}
use Rattle.striped.specs.Meaning.{Meaning}
use Rattle.sector_map.specs.declared.entry.Entry.{Entry}
use Rattle.block_state.specs.Book.{BookValue}
use Rattle.collector.specs.declared.desk.Desk.{Desk}
use Rattle.collector.specs.Desk.{Stays}
use Rattle.collector.specs.Store.{Store, store}

-- what holds of the store that a desk left
pub left_so : {D : Type 0} (state : D → DieState) (P : Store → Type 0) {table : List (Option Entry)} {d d' : D} {b b' : BookValue} {n n' : ℕ} → d ≡ d' → b ≡ b' → n ≡ n'
    → P (store (state d) table b n) → P (store (state d') table b' n')
left_so state P {table} {d} {d'} {b} {b'} {n} {n'} die book seq said =
    subst (λ x. P (store (state x) table b' n')) die (subst (λ x. P (store (state d) table x n')) book (subst (λ x. P (store (state d) table b x)) seq said))

-- one call on a desk after another
pub stays_refl : {D C : Type 0} {state : D → DieState} {meaning : C → Meaning} (desk : Desk D C) → Stays state meaning desk desk
stays_refl {state = state} desk = record { kept = kept_refl (state desk.die.now); erases = refl; scheme = refl; work = refl }

pub stays_trans : {D C : Type 0} {state : D → DieState} {meaning : C → Meaning} {old mid new : Desk D C} → Stays state meaning old mid → Stays state meaning mid new
    → Stays state meaning old new
stays_trans a b = record { kept = kept_trans a.kept b.kept; erases = b.erases ∙ a.erases; scheme = b.scheme ∙ a.scheme; work = b.work ∙ a.work }
