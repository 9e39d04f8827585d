-- How a page comes to hand without a collection: it was at hand, a Clean block is taken, or the victim is erased.
use Rattle.std.proofs.Common.{◌≡◌, ◌⊎◌, ℕ, ◌+◌, ◌*◌, [], ◌∷◌, refl, sym, ap, ◌∙◌, subst, arith}
use Rattle.cell_die.specs.DieState.{DieState, IsShaped}
use Rattle.cell_die.specs.declared.shape.Shape.{Shape}
use Rattle.cell_die.specs.Changes.{IsErased, SameCells, OnlyBlock, ErasedInPart}
use Rattle.cell_die.specs.Calls.{Passed, Kept, ChangeFailed}
use Rattle.cell_die.proofs.Sequences.{passed_none}
use Rattle.striped.specs.Meaning.{Meaning, Decoding}
use Rattle.block_state.specs.declared.state.State.TheVariants.{Active}
use Rattle.block_state.specs.Book.{with_state}
use Rattle.page_alloc.specs.declared.next_page.NextPage.{NextPage}
use Rattle.page_alloc.specs.declared.next_page.NextPage.TheVariants.{Page, Take, Wipe, Collect}
use Rattle.page_alloc.specs.CleanPage.{IsPageBranch, IsTakeBranch, IsWipeBranch}
use Rattle.page_codec.specs.Geometry.{Geometry, shape_of}
use Rattle.collector.specs.Store.{Store, IsTrueStore, geometry_of}
use Rattle.collector.proofs.Books.{state_here}
use Rattle.rssd_core.specs.Rules.{next_page}
use Rattle.rssd_core.specs.BookChanges.{Takes, Wipes}
use Rattle.rssd_core.specs.Calls.{calls_before, collection_reads, copies_due, named_page}
use Rattle.rssd_core.specs.Erases.{erase_due, Erased, ErasedOrFailed}
use Rattle.rssd_core.proofs.ErasesLaws.{whole_erased, torn_erased}
use Rattle.rssd_core.specs.Steps.{IsSized, Opened, OpenChangeFailed}
use Rattle.rssd_core.specs.Within.{Went, IsCollect}
use Rattle.rssd_core.proofs.Chained.{leads_none, leads_one, went_passed}
use Rattle.rssd_core.proofs.ClosedBlocks.{closed_within}
use Rattle.rssd_core.proofs.Opening.{take_true}
use Rattle.rssd_core.proofs.Rules.{next_is}
use Rattle.rssd_core.proofs.Wiping.{Erasing, wipe_true, wipe_stored, wipe_block, torn_erase}

-- the calls by what comes next
calls_of : (g : Geometry) (old new : Store) (n : NextPage) → next_page old.book ≡ n → Went (calls_before old.book n) (collection_reads g old.die.cells n) (IsCollect n) old.die new.die
    → Went (calls_before old.book (next_page old.book)) (0 + collection_reads g old.die.cells (next_page old.book)) (IsCollect (next_page old.book)) old.die new.die
calls_of g old new n is w = subst (λ (m : NextPage). Went (calls_before old.book m) (0 + collection_reads g old.die.cells m) (IsCollect m) old.die new.die) (sym is)
    (subst (λ (r : ℕ). Went (calls_before old.book n) r (IsCollect n) old.die new.die) (none_plus (collection_reads g old.die.cells n)) w)
  where
    none_plus : (r : ℕ) → r ≡ 0 + r
    none_plus r = omega arith

not_collected : (n : NextPage) → (IsCollect n → ⊥) → (victim spare : ℕ) → n ≡ Collect victim spare → ⊥
not_collected n other victim spare is = other (subst IsCollect (sym is) tt)

pub opened_page : (g : Geometry) (d : Decoding) (page : ℕ) (old : Store) → IsTrueStore g old → IsPageBranch old.book page → Opened g d page 0 old old
opened_page g d page old t branch = record {
  changes = [];
  leads = λ reuse_max. leads_none reuse_max old.book;
  once = record { takes = omega arith; wipes = omega arith; erases = omega arith; copies = omega arith; seals = omega arith };
  passed_so = refl;
  none_offered = refl;
  rises = refl;
  copied = ap (copies_due old.book) (sym next);
  collected = λ victim spare is. absurd (not_collected (Page page) (λ x. x) victim spare (sym next ∙ is));
  named = ap (named_page old.book) (sym next);
  branch = branch;
  rows = refl;
  few = omega arith;
  drawn = omega arith;
  erased = subst (λ (n : NextPage). Erased (erase_due old.book n) old.die old.die) (sym next) refl;
  tables = t;
  calls = calls_of g old old (Page page) next (went_passed 0 0 ⊥ old.die old.die (passed_none old.die));
}
  where
    next : next_page old.book ≡ Page page
    next = next_is old.book t.kept t.one_spare (Page page) branch

pub opened_take : (g : Geometry) (d : Decoding) (block page : ℕ) (old : Store) → IsSized g → IsTrueStore g old → IsTakeBranch old.book block → page ≡ block * old.book.pages
    → Opened g d page 0 old (record old { book = with_state old.book block (Active 0) })
opened_take g d block page old sized t take at = record {
  changes = Takes block ∷ [];
  leads = λ reuse_max. leads_one reuse_max old.book (with_state old.book block (Active 0)) (Takes block) (next, refl);
  once = record { takes = omega arith; wipes = omega arith; erases = omega arith; copies = omega arith; seals = omega arith };
  passed_so = refl;
  none_offered = refl;
  rises = refl;
  copied = ap (copies_due old.book) (sym next);
  collected = λ victim spare is. absurd (not_collected (Take block) (λ x. x) victim spare (sym next ∙ is));
  named = at ∙ ap (named_page old.book) (sym next);
  branch = (block, 0, state_here old.book block (Active 0) take.1.0, at ∙ plus_none (block * old.book.pages));
  rows = refl;
  few = omega arith;
  drawn = omega arith;
  erased = subst (λ (n : NextPage). Erased (erase_due old.book n) old.die old.die) (sym next) refl;
  tables = take_true g old.die.cells old.book old.table old.seq block sized t take;
  calls = calls_of g old (record old { book = with_state old.book block (Active 0) }) (Take block) next (went_passed 0 0 ⊥ old.die old.die (passed_none old.die));
}
  where
    next : next_page old.book ≡ Take block
    next = next_is old.book t.kept t.one_spare (Take block) take

    plus_none : (n : ℕ) → n ≡ n + 0
    plus_none n = omega arith

pub opened_wipe : (g : Geometry) (d : Decoding) (block page : ℕ) (old : Store) (die : DieState) → Erasing g old.die die block → IsErased block old.die die → Passed 1 0 old.die die
    → IsTrueStore g old → IsWipeBranch old.book block
    → page ≡ block * old.book.pages → Opened g d page 0 old (record old { die = die; book = with_state old.book block (Active 0) })
opened_wipe g d block page old die e erased passed t wipe at = record {
  changes = Wipes block ∷ [];
  leads = λ reuse_max. leads_one reuse_max old.book (with_state old.book block (Active 0)) (Wipes block) (next, refl);
  once = record { takes = omega arith; wipes = omega arith; erases = omega arith; copies = omega arith; seals = omega arith };
  passed_so = refl;
  none_offered = refl;
  rises = refl;
  copied = ap (copies_due old.book) (sym next);
  collected = λ victim spare is. absurd (not_collected (Wipe block) (λ x. x) victim spare (sym next ∙ is));
  named = at ∙ ap (named_page old.book) (sym next);
  branch = (block, 0, state_here old.book block (Active 0) (closed_within old.book block wipe.1.closed), at ∙ plus_none (block * old.book.pages));
  rows = wipe_stored g d old.die die block e erased;
  few = omega arith;
  drawn = omega arith;
  erased = subst (λ (n : NextPage). Erased (erase_due old.book n) old.die die) (sym next) (whole_erased block old.die die erased e.only);
  tables = wipe_true g old.die die old.book old.table old.seq block e erased t wipe;
  calls = calls_of g old (record old { die = die; book = with_state old.book block (Active 0) }) (Wipe block) next (went_passed 1 0 ⊥ old.die die passed);
}
  where
    next : next_page old.book ≡ Wipe block
    next = next_is old.book t.kept t.one_spare (Wipe block) wipe

    plus_none : (n : ℕ) → n ≡ n + 0
    plus_none n = omega arith

-- the erase of a wipe failed
pub wipe_failed : (g : Geometry) (d : Decoding) (block : ℕ) (old : Store) (die : DieState) → Erasing g old.die die block → SameCells old.die die ⊎ ErasedInPart block old.die die
    → ChangeFailed 1 0 old.die die → IsTrueStore g old
    → IsWipeBranch old.book block → OpenChangeFailed g d 0 0 old (record old { die = die })
wipe_failed g d block old die e how failed t wipe = record {
  changes = [];
  leads = λ reuse_max. leads_none reuse_max old.book;
  once = record { takes = omega arith; wipes = omega arith; erases = omega arith; copies = omega arith; seals = omega arith };
  passed_so = refl;
  none_offered = refl;
  none_sealed = refl;
  rows = λ sound. (torn_erase g d old.die die block e how sound).rows;
  few = omega arith;
  erased = subst (λ (n : NextPage). ErasedOrFailed (erase_due old.book n) 0 old.die die) (sym next) (torn_erased block old.die die how e.only failed);
  failed = subst (λ (n : NextPage). ChangeFailed (calls_before old.book n) (0 + collection_reads g old.die.cells n) old.die die) (sym next) failed;
}
  where
    next : next_page old.book ≡ Wipe block
    next = next_is old.book t.kept t.one_spare (Wipe block) wipe

-- an erase of the victim of a wipe
pub wipe_erases : (g : Geometry) (block : ℕ) (old : Store) (die : DieState) → IsSized g → old.die.shape ≡ shape_of g → Kept old.die die → IsShaped old.die → IsShaped die
    → OnlyBlock block old.die die → IsTrueStore g old → IsWipeBranch old.book block
    → Erasing g old.die die block
wipe_erases g block old die sized shape kept shaped shaped_new only t wipe =
    let b = wipe_block g old.die.cells old.book old.table old.seq block t wipe in
    record { sized = sized; inside = b.0; shape = shape; kept = kept; shaped = shaped; shaped_new = shaped_new; only = only; free = b.1 }

-- the numbers of a device stay
pub geometry_same : {shape shape' : Shape} {meaning meaning' : Meaning} {n n' : ℕ} → shape' ≡ shape → meaning' ≡ meaning → n' ≡ n → geometry_of shape' meaning' n' ≡ geometry_of shape meaning n
geometry_same s m l = λ i. geometry_of (s i) (m i) (l i)

-- what is said of a device of the same numbers
pub over_same : {shape shape' : Shape} {meaning meaning' : Meaning} {n n' : ℕ} (P : Geometry → Meaning → Type 0) → shape' ≡ shape → meaning' ≡ meaning → n' ≡ n
    → P (geometry_of shape' meaning' n') meaning' → P (geometry_of shape meaning n) meaning
over_same {shape} {shape'} {meaning} {meaning'} {n} {n'} P s m l p =
    subst (λ (x : Meaning). P (geometry_of shape x n) x) m (subst (λ (y : Shape). P (geometry_of y meaning' n) meaning') s (subst (λ (z : ℕ). P (geometry_of shape' meaning' z) meaning') l p))
