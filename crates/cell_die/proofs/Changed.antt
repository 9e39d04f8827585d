-- Change calls of a die, one after the other.
use Rattle.std.proofs.Common.{◌≡◌, ◌⊎◌, inl, inr, ℕ, zero, suc, ◌+◌, ◌-◌, ◌<◌, List, Option, None, Some, true, refl, sym, ap, ◌∙◌, subst, arith}
use Rattle.cell_die.specs.declared.shape.Torn.{Torn}
use Rattle.cell_die.specs.Cells.{IsAbove, page_at, charge}
use Rattle.cell_die.specs.Counts.{raised}
use Rattle.cell_die.specs.Changes.{SameCells, OnlyPage, OnlyBlock, IsErased}
use Rattle.cell_die.specs.Changed.{Programs, Erases, IsWhole, TearsProgram, TearsErase, IsCut, IsStill, IsChanged, EndsCut}
use Rattle.cell_die.specs.Calls.{WhilePowered, Nearer, NearerWithin, CutCame, Kept}
use Rattle.cell_die.specs.DieState.{DieState, Failures, page_of, block_of, erases_of}

-- ---- calls that follow on no change

module _ (old mid new : DieState) (still : IsStill old mid) where
  same_page : (page : ℕ) → page_of mid page ≡ page_of old page
  same_page page = ap (λ (cells : List (List ℕ)). page_at cells page) still.same.cells

  same_block : (page : ℕ) → block_of old page ≡ block_of mid page
  same_block page = rw still.shape refl

  page_only : (page : ℕ) → OnlyPage page mid new → OnlyPage page old new
  page_only page only = record { others = λ other apart. only.others other apart ∙ same_page other; erases = only.erases ∙ still.same.erases }

  block_only : (block : ℕ) → OnlyBlock block mid new → OnlyBlock block old new
  block_only block only = record {
    pages = λ page apart. only.pages page (λ is. apart (same_block page ∙ is)) ∙ same_page page;
    counts = λ other apart. rw (sym still.same.erases) (only.counts other apart);
  }

  whole_first : IsWhole mid new → IsWhole old new
  whole_first (inl p) = inl (p.0, p.1, record { above = subst (λ (cells : List ℕ). IsAbove p.1 cells) (same_page p.0) p.2.above; cells = p.2.cells; only = page_only p.0 p.2.only })
  whole_first (inr e) = inr (
    e.0,
    record {
      erased = record {
        blank = λ page here. rw (sym still.shape) (e.1.erased.blank page (sym (same_block page) ∙ here));
        count = rw (sym still.same.erases) e.1.erased.count;
      };
      only = block_only e.0 e.1.only;
    },
  )

-- ---- one after the other

changed_first : (calls : ℕ) (old mid new : DieState) → IsStill old mid → IsChanged calls mid new → IsChanged calls old new
unfolding IsChanged
changed_first zero old mid new still then = record { shape = then.shape ∙ still.shape; same = record { cells = then.same.cells ∙ still.same.cells; erases = then.same.erases ∙ still.same.erases } }
changed_first (suc calls) old mid new still then = (then.0, then.1 ∙ still.shape, whole_first old mid then.0 still then.2, then.3)

pub changed_trans : (first second : ℕ) (old mid new : DieState) → IsChanged first old mid → IsChanged second mid new → IsChanged (first + second) old new
unfolding IsChanged
changed_trans zero second old mid new before then = let sum : second ≡ 0 + second = omega arith in subst (λ (n : ℕ). IsChanged n old new) sum (changed_first second old mid new before then)
changed_trans (suc first) second old mid new before then =
    let sum : suc (first + second) ≡ suc first + second = omega arith in
    subst (λ (n : ℕ). IsChanged n old new) sum (before.0, before.1, before.2, changed_trans first second before.0 mid new before.3 then)

pub cut_after : (first calls : ℕ) (form : Torn) (old mid new : DieState) → IsChanged first old mid → EndsCut calls form mid new → EndsCut (first + calls) form old new
cut_after first calls form old mid new before ends = record { mid = ends.mid; whole = changed_trans first calls old mid ends.mid before ends.whole; cut = ends.cut }

-- ---- a call alone

pub changed_none : (old new : DieState) → new.shape ≡ old.shape → SameCells old new → IsChanged 0 old new
unfolding IsChanged
changed_none old new shape same = record { shape = shape; same = same }

pub changed_once : (old new : DieState) → new.shape ≡ old.shape → IsWhole old new → IsChanged 1 old new
unfolding IsChanged
changed_once old new shape whole = (new, shape, whole, record { shape = refl; same = record { cells = refl; erases = refl } })

pub programmed_once : (page : ℕ) (target : List ℕ) (old new : DieState) → IsAbove target (page_of old page) → page_of new page ≡ target → OnlyPage page old new → new.shape ≡ old.shape
    → IsChanged 1 old new
programmed_once page target old new above cells only shape = changed_once old new shape (inl (page, target, record { above = above; cells = cells; only = only }))

pub erased_once : (block : ℕ) (old new : DieState) → IsErased block old new → OnlyBlock block old new → new.shape ≡ old.shape → IsChanged 1 old new
erased_once block old new erased only shape = changed_once old new shape (inr (block, record { erased = erased; only = only }))

-- the first call was cut
pub cut_at_once : (form : Torn) (old new : DieState) → IsCut form old new → EndsCut 0 form old new
cut_at_once form old new cut = record { mid = old; whole = changed_none old old refl (record { cells = refl; erases = refl }); cut = cut }

-- ---- of dies that tell their failures

-- what holds whatever the die tells
pub told_any : (P Q : Failures → Failures → Type 0) → ((a b : Failures) → Q a b) → (x y : Option Failures) → WhilePowered x y P → WhilePowered x y Q
told_any P Q holds None y told = tt
told_any P Q holds (Some a) None told = absurd told
told_any P Q holds (Some a) (Some b) told = λ powered. holds a b

-- calls that passed, and then more of them
pub told_trans : (P Q R : Type 0) (N : Failures → Failures → Type 0) → ((a b : Failures) → N a b → b.powered ≡ true) → (P → Q → R) → (x y z : Option Failures) → WhilePowered x y N
    → WhilePowered x y (λ before now. P) → WhilePowered y z (λ before now. Q) → WhilePowered x z (λ before now. R)
told_trans P Q R N power both None y z near first second = tt
told_trans P Q R N power both (Some a) None z near first second = absurd near
told_trans P Q R N power both (Some a) (Some b) None near first second = second
told_trans P Q R N power both (Some a) (Some b) (Some c) near first second = λ powered. both (first powered) (second (power a b (near powered)))

-- calls that passed, and then some of which the last was cut
pub told_cut : (calls : ℕ) (N C : Failures → Failures → Type 0) (old mid new : DieState) → ((a b : Failures) → N a b → b.powered ≡ true)
    → ((a b c : Failures) → N a b → C b c → (b.cut ≡ a.cut - calls) × (0 < b.cut) × (b.form ≡ a.form))
    → (x y z : Option Failures) → WhilePowered x y N → WhilePowered x y (λ before now. IsChanged calls old mid) → WhilePowered y z C
    → WhilePowered y z (λ before now. EndsCut (before.cut - 1) before.form mid new) → WhilePowered x z (λ before now. EndsCut (before.cut - 1) before.form old new)
told_cut calls N C old mid new power facts None y z near first came cut = tt
told_cut calls N C old mid new power facts (Some a) None z near first came cut = absurd near
told_cut calls N C old mid new power facts (Some a) (Some b) None near first came cut = cut
told_cut calls N C old mid new power facts (Some a) (Some b) (Some c) near first came cut = λ powered.
    let on : b.powered ≡ true = power a b (near powered) in
    let f = facts a b c (near powered) (came on) in
    let lower = f.0 in
    let some = f.1 in
    let at : calls + (b.cut - 1) ≡ a.cut - 1 = omega (arith, lower, some) in
    subst (λ (n : ℕ). EndsCut n a.form old new) at (subst (λ (form : Torn). EndsCut (calls + (b.cut - 1)) form old new) f.2 (cut_after calls (b.cut - 1) b.form old mid new (first powered) (cut on)))
