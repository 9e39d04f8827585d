-- A call of one die of a pair is a call of the pair.
use Rattle.std.proofs.Common.{◌≡◌, ◌⊎◌, ℕ, ◌*◌, ◌<◌, ◌-◌, ◌&&◌, Bool, true, false, List, length, Option, None, Some, Result, Ok, Err, OnOk, OnErr, refl, ap, ap₂, subst, sym, ◌∙◌, arith}
use Rattle.std.specs.Prelude.{if◌then◌else◌}
use Rattle.std.proofs.lemmas.Bool.{and_parts, eqb-true, false≢true}
use Rattle.cell_die.specs.Cells.{IsAbove, charge}
use Rattle.cell_die.specs.Counts.{count_sum, Rose}
use Rattle.cell_die.specs.DieState.{DieState, IsShaped, Failures, page_of, page_bytes, page_count}
use Rattle.cell_die.specs.Changes.{SameCells, OnlyPage, OnlyBlock, IsBetween, IsErased, ErasedInPart}
use Rattle.cell_die.specs.Calls.{Kept, WhilePowered, WhileUnpowered, Nearer, CutCame, ReadFailureCame, SameArmed, Passed, ChangeFailed, ReadFailed, HeldWithoutPower}
use Rattle.cell_die.specs.Changed.{IsChanged, EndsCut}
use Rattle.cell_die.proofs.CellLaws.{charge_above}
use Rattle.cell_die.proofs.Changed.{told_any, changed_none, programmed_once, erased_once}
use Rattle.stripe_die.specs.declared.half.Half.{Half}
use Rattle.stripe_die.specs.declared.half.Half.TheVariants.{First, Second}
use Rattle.stripe_die.specs.Places.{page_place, block_place}
use Rattle.stripe_die.specs.Pair.{is_idle, idle, pair_failures, pair_state, OnOne}
use Rattle.stripe_die.specs.PairLaws.{number_at, pair_shaped}
use Rattle.stripe_die.proofs.Halves.{Halves, two, CallAt, weaker, both, kept_pair, page_pair, only_page_pair, same_cells_pair, only_block_pair, is_erased_pair, in_part_pair}

-- ---- what the pair tells of its failures

idle_parts : (f : Failures) → is_idle f ≡ true → (f.powered ≡ true) × (f.cut ≡ 0) × (f.read_failure ≡ 0)
idle_parts f e =
    let parts = and_parts _ _ e in
    let first = and_parts _ _ parts.0 in
    (first.0, eqb-true f.cut 0 first.1, eqb-true f.read_failure 0 parts.1)

-- a die with power and nothing armed goes on so, and what Q says of such dies holds
abbrev StaysIdle : (Failures → Failures → Type 0) → (Failures → Failures → Type 0) → Type 0
StaysIdle P Q = (a b : Failures) → is_idle a ≡ true → P a b → (is_idle b ≡ true) × Q idle idle

told_idle : (Q : Failures → Failures → Type 0) (p q : Bool) → (p ≡ true → (q ≡ true) × Q idle idle)
    → WhilePowered (if p then Some idle else None) (if q then Some idle else None) Q
told_idle Q false q both = tt
told_idle Q true false both = absurd (false≢true (both refl).0)
told_idle Q true true both = λ powered. (both refl).1

first_told : (P Q : Failures → Failures → Type 0) → StaysIdle P Q → (x x' y : Option Failures) → WhilePowered x x' P → WhilePowered (pair_failures x y) (pair_failures x' y) Q
first_told P Q stays None x' y told = tt
first_told P Q stays (Some a) None y told = absurd told
first_told P Q stays (Some a) (Some b) None told = tt
first_told P Q stays (Some a) (Some b) (Some e) told = told_idle Q (is_idle a && is_idle e) (is_idle b && is_idle e) (λ all.
    let parts = and_parts (is_idle a) (is_idle e) all in
    let after : (is_idle b ≡ true) × Q idle idle = stays a b parts.0 (told (idle_parts a parts.0).0) in
    (ap₂ (λ (p q : Bool). p && q) after.0 parts.1, after.1))

-- the order of the dies tells nothing
and_swapped : (p q : Bool) → (p && q) ≡ (q && p)
and_swapped true true = refl
and_swapped true false = refl
and_swapped false true = refl
and_swapped false false = refl

swapped : (x y : Option Failures) → pair_failures x y ≡ pair_failures y x
swapped None None = refl
swapped None (Some b) = refl
swapped (Some a) None = refl
swapped (Some a) (Some b) = ap (λ both. if both then Some idle else None) (and_swapped (is_idle a) (is_idle b))

told_at : (P Q : Failures → Failures → Type 0) → StaysIdle P Q → (place : Half) {a b a' b' : DieState} → CallAt place (λ old new. WhilePowered old.failures new.failures P) a b a' b'
    → WhilePowered (pair_state a b).failures (pair_state a' b').failures Q
told_at P Q stays (First n) {a} {b} {a'} {b'} call = rw call.holds.1 (first_told P Q stays a.failures a'.failures b.failures call.holds.0)
told_at P Q stays (Second n) {a} {b} {a'} {b'} call =
    rw (call.holds.1, swapped a.failures b.failures, swapped a.failures b'.failures) (first_told P Q stays b.failures b'.failures a.failures call.holds.0)

idle_nearer : (calls reads : ℕ) → Nearer calls reads idle idle
idle_nearer calls reads =
    record { powered = refl; cut = omega arith; cut_to_come = λ armed. absurd (omega arith); read_failure = omega arith; read_failure_to_come = λ armed. absurd (omega arith); form = λ armed. refl }

is_idle_after : (calls reads : ℕ) → StaysIdle (Nearer calls reads) (Nearer calls reads)
is_idle_after calls reads a b e near =
    let cut : b.cut ≡ 0 = omega (arith, near.cut, (idle_parts a e).1) in
    let read : b.read_failure ≡ 0 = omega (arith, near.read_failure, (idle_parts a e).2) in
    (rw (near.powered, cut, read) refl, idle_nearer calls reads)

-- no armed failure comes where nothing is armed
no_cut : (calls reads : ℕ) (Q : Failures → Failures → Type 0) → StaysIdle (CutCame calls reads) Q
no_cut calls reads Q a b e came = absurd (omega (arith, came.armed, (idle_parts a e).1))

no_read_failure : (calls reads : ℕ) (Q : Failures → Failures → Type 0) → StaysIdle (ReadFailureCame calls reads) Q
no_read_failure calls reads Q a b e came = absurd (omega (arith, came.armed, (idle_parts a e).2))

-- a pair that tells has power
held : (P : Failures → Failures → Type 0) (x y z : Option Failures) → WhilePowered (pair_failures x y) z P → WhileUnpowered (pair_failures x y) z SameArmed
held P None y z told = tt
held P (Some a) None z told = tt
held P (Some a) (Some b) z told = go (is_idle a && is_idle b) z told where
  go : (p : Bool) (z : Option Failures) → WhilePowered (if p then Some idle else None) z P → WhileUnpowered (if p then Some idle else None) z SameArmed
  go false z told = tt
  go true None told = absurd told
  go true (Some f) told = λ off. absurd (false≢true (sym off))

-- ---- the faults of the pair

module _ {a b a' b' : DieState} where
  same_sum : (f : DieState → ℕ) (place : Half) → CallAt place (λ old new. f new ≡ f old) a b a' b' → count_sum (f a') (f b') ≡ count_sum (f a) (f b)
  same_sum f (First n) call = ap₂ count_sum call.holds.0 (ap f call.holds.1)
  same_sum f (Second n) call = ap₂ count_sum (ap f call.holds.1) call.holds.0

  sum_rose : (f : DieState → ℕ) (place : Half) → CallAt place (λ old new. Rose (f old) (f new)) a b a' b' → Rose (count_sum (f a) (f b)) (count_sum (f a') (f b'))
  sum_rose f (First n) call = omega (arith, call.holds.0, ap f call.holds.1)
  sum_rose f (Second n) call = omega (arith, call.holds.0, ap f call.holds.1)

  pair_passed : (calls reads : ℕ) (place : Half) → CallAt place (Passed calls reads) a b a' b' → IsChanged calls (pair_state a b) (pair_state a' b')
      → Passed calls reads (pair_state a b) (pair_state a' b')
  pair_passed calls reads place call changed =
      let told : WhilePowered (pair_state a b).failures (pair_state a' b').failures (Nearer calls reads)
      = told_at (Nearer calls reads) (Nearer calls reads) (is_idle_after calls reads) place (weaker place call (λ old new passed. passed.failures)) in
      record {
        read_faults = same_sum (λ die. die.read_faults) place (weaker place call (λ old new passed. passed.read_faults));
        change_faults = same_sum (λ die. die.change_faults) place (weaker place call (λ old new passed. passed.change_faults));
        failures = told;
        changed = told_any (Nearer calls reads) (λ before now. IsChanged calls (pair_state a b) (pair_state a' b')) (λ x y. changed) (pair_state a b).failures (pair_state a' b').failures told;
      }

  pair_change_failed : (place : Half) → CallAt place (ChangeFailed 1 0) a b a' b' → ChangeFailed 1 0 (pair_state a b) (pair_state a' b')
  pair_change_failed place call =
      let told = λ (Q : Failures → Failures → Type 0). told_at (CutCame 1 0) Q (no_cut 1 0 Q) place (weaker place call (λ old new failed. failed.failures)) in
      record {
        read_faults = same_sum (λ die. die.read_faults) place (weaker place call (λ old new failed. failed.read_faults));
        change_faults = sum_rose (λ die. die.change_faults) place (weaker place call (λ old new failed. failed.change_faults));
        failures = told (CutCame 1 0);
        cut = told (λ before now. EndsCut (before.cut - 1) before.form (pair_state a b) (pair_state a' b'));
      }

  pair_read_failed : (place : Half) → CallAt place (ReadFailed 0 1) a b a' b' → ReadFailed 0 1 (pair_state a b) (pair_state a' b')
  pair_read_failed place call = record {
    read_faults = sum_rose (λ die. die.read_faults) place (weaker place call (λ old new failed. failed.read_faults));
    change_faults = same_sum (λ die. die.change_faults) place (weaker place call (λ old new failed. failed.change_faults));
    failures = told_at (ReadFailureCame 0 1) (ReadFailureCame 0 1) (no_read_failure 0 1 (ReadFailureCame 0 1)) place (weaker place call (λ old new failed. failed.failures));
  }

-- ---- all that a call says

-- what a call does to a page or block, a part of it where it fails, and what alone it may change
pub record Kind : Type 1 where
  pub changes : ℕ
  pub reads : ℕ
  pub did : ℕ → DieState → DieState → Type 0
  pub part : ℕ → DieState → DieState → Type 0
  pub only : ℕ → DieState → DieState → Type 0
  pub failed : DieState → DieState → Type 0

-- all that a call of a die says, by its kind and its page or block
pub record Called (kind : Kind) (at : ℕ) {T E : Type 0} (result : Result T E) (old new : DieState) : Type 0 where
  pub did : OnOk result (kind.did at old new)
  pub part : OnErr result (kind.part at old new)
  pub only : kind.only at old new
  pub kept : Kept old new
  pub passed : OnOk result (Passed kind.changes kind.reads old new)
  pub failed : OnErr result (kind.failed old new)

pub called : {kind : Kind} {at : ℕ} {T E : Type 0} {result : Result T E} {old new : DieState} → OnOk result (kind.did at old new) → OnErr result (kind.part at old new) → kind.only at old new
    → Kept old new → OnOk result (Passed kind.changes kind.reads old new) → OnErr result (kind.failed old new) → Called kind at result old new
called did part only kept passed failed = record { did = did; part = part; only = only; kept = kept; passed = passed; failed = failed }

-- and all that a call of a pair says: `went` and `fell` of the one die, too
pub record PairCalled (kind : Kind) (place : Half) (at : ℕ) {T E : Type 0} (result : Result T E) (a b a' b' : DieState) : Type 0 where
  pub did : OnOk result (kind.did at (pair_state a b) (pair_state a' b'))
  pub part : OnErr result (kind.part at (pair_state a b) (pair_state a' b'))
  pub only : kind.only at (pair_state a b) (pair_state a' b')
  pub kept : Kept (pair_state a b) (pair_state a' b')
  pub passed : OnOk result (Passed kind.changes kind.reads (pair_state a b) (pair_state a' b'))
  pub failed : OnErr result (kind.failed (pair_state a b) (pair_state a' b'))
  pub held : HeldWithoutPower (pair_state a b) (pair_state a' b')
  pub went : OnOk result (OnOne place (Passed kind.changes kind.reads) a b a' b')
  pub fell : OnErr result (OnOne place kind.failed a b a' b')

-- a kind of call does to the pair what it does to the die
record Lifts (kind : Kind) (place : Half) (at : ℕ) (a b a' b' : DieState) : Type 0 where
  pub did : CallAt place (kind.did (number_at place)) a b a' b' → kind.did at (pair_state a b) (pair_state a' b')
  pub part : CallAt place (kind.part (number_at place)) a b a' b' → kind.part at (pair_state a b) (pair_state a' b')
  pub only : CallAt place (kind.only (number_at place)) a b a' b' → kind.only at (pair_state a b) (pair_state a' b')
  pub changed : kind.did at (pair_state a b) (pair_state a' b') → kind.only at (pair_state a b) (pair_state a' b') → (pair_state a' b').shape ≡ (pair_state a b).shape
      → IsChanged kind.changes (pair_state a b) (pair_state a' b')
  pub failed : CallAt place kind.failed a b a' b' → kind.failed (pair_state a b) (pair_state a' b')
  pub held : kind.failed (pair_state a b) (pair_state a' b') → HeldWithoutPower (pair_state a b) (pair_state a' b')

abbrev pub CalledAt : Kind → Half → {T E : Type 0} → Result T E → DieState → DieState → DieState → DieState → Type 0
CalledAt kind place result a b a' b' = CallAt place (Called kind (number_at place) result) a b a' b'

pair_called : (kind : Kind) (place : Half) (at : ℕ) {T E : Type 0} (result : Result T E) {a b a' b' : DieState} → Lifts kind place at a b a' b'
    → CalledAt kind place result a b a' b' → PairCalled kind place at result a b a' b'
pair_called kind place at (Ok value) {a} {b} {a'} {b'} lifts call =
    let did : kind.did at (pair_state a b) (pair_state a' b') = lifts.did (weaker place call (λ old new called. called.did)) in
    let only : kind.only at (pair_state a b) (pair_state a' b') = lifts.only (weaker place call (λ old new called. called.only)) in
    let kept : Kept (pair_state a b) (pair_state a' b') = kept_pair place (weaker place call (λ old new called. called.kept)) in
    let one : CallAt place (Passed kind.changes kind.reads) a b a' b' = weaker place call (λ old new called. called.passed) in
    let passed : Passed kind.changes kind.reads (pair_state a b) (pair_state a' b') = pair_passed kind.changes kind.reads place one (lifts.changed did only kept.shape) in
    let held : HeldWithoutPower (pair_state a b) (pair_state a' b') = held (Nearer kind.changes kind.reads) a.failures b.failures (pair_state a' b').failures passed.failures in
    record { did = did; part = tt; only = only; kept = kept; passed = passed; failed = tt; held = held; went = one.holds; fell = tt }
pair_called kind place at (Err fault) {a} {b} {a'} {b'} lifts call =
    let part : kind.part at (pair_state a b) (pair_state a' b') = lifts.part (weaker place call (λ old new called. called.part)) in
    let only : kind.only at (pair_state a b) (pair_state a' b') = lifts.only (weaker place call (λ old new called. called.only)) in
    let kept : Kept (pair_state a b) (pair_state a' b') = kept_pair place (weaker place call (λ old new called. called.kept)) in
    let one : CallAt place kind.failed a b a' b' = weaker place call (λ old new called. called.failed) in
    let failed : kind.failed (pair_state a b) (pair_state a' b') = lifts.failed one in
    record { did = tt; part = part; only = only; kept = kept; passed = tt; failed = failed; held = lifts.held failed; went = tt; fell = one.holds }

-- a call of the first die, and one of the second
pub call_first : {kind : Kind} {place : Half} {n : ℕ} {T E : Type 0} {result : Result T E} {a b a' : DieState} → Halves a b → IsShaped a' → First n ≡ place
    → Called kind n result a a' → CalledAt kind place result a b a' b
call_first {kind} {place} {n} {T} {E} {result} {a} {b} {a'} halves shaped at called =
    let after : Halves a' b = two (halves.same ∙ sym called.kept.shape) shaped halves.second in
    let holds = subst (λ place. OnOne place (Called kind (number_at place) result) a b a' b) at (called, refl) in
    record { before = halves; after = after; shape = called.kept.shape; holds = holds }

pub call_second : {kind : Kind} {place : Half} {n : ℕ} {T E : Type 0} {result : Result T E} {a b b' : DieState} → Halves a b → IsShaped b' → Second n ≡ place
    → Called kind n result b b' → CalledAt kind place result a b a b'
call_second {kind} {place} {n} {T} {E} {result} {a} {b} {b'} halves shaped at called =
    let after : Halves a b' = two (called.kept.shape ∙ halves.same) halves.first shaped in
    let holds = subst (λ place. OnOne place (Called kind (number_at place) result) a b a b') at (called, refl) in
    record { before = halves; after = after; shape = refl; holds = holds }

-- ---- the four kinds

abbrev change : (ℕ → DieState → DieState → Type 0) → (ℕ → DieState → DieState → Type 0) → (ℕ → DieState → DieState → Type 0) → Kind
change did part only = record { changes = 1; reads = 0; did = did; part = part; only = only; failed = ChangeFailed 1 0 }

-- a change call of a page does R to its cells, and S where it fails
abbrev page_change : (List ℕ → List ℕ → Type 0) → (List ℕ → List ℕ → Type 0) → Kind
page_change R S = change (λ page old new. R (page_of old page) (page_of new page)) (λ page old new. S (page_of old page) (page_of new page)) OnlyPage

abbrev pub program_to : List ℕ → Kind
program_to target = page_change (λ old new. new ≡ target) (λ old new. IsBetween old new target)

abbrev pub charge_of : ℕ → Kind
charge_of cell = page_change (λ old new. new ≡ charge old cell) (λ old new. (new ≡ old) ⊎ (new ≡ charge old cell))

abbrev pub erase : Kind
erase = change IsErased (λ block old new. SameCells old new ⊎ ErasedInPart block old new) OnlyBlock

abbrev pub read_to : List ℕ → Kind
read_to into = record { changes = 0; reads = 1; did = λ page old new. into ≡ page_of old page; part = λ page old new. Unit {0}; only = λ page. SameCells; failed = ReadFailed 0 1 }

held_cut : (a b a' b' : DieState) → ChangeFailed 1 0 (pair_state a b) (pair_state a' b') → HeldWithoutPower (pair_state a b) (pair_state a' b')
held_cut a b a' b' failed = held (CutCame 1 0) a.failures b.failures (pair_state a' b').failures failed.failures

module _ {T E : Type 0} {result : Result T E} {a b a' b' : DieState} where
  -- a change call of a page lets no cell fall
  page_changed : (R S : List ℕ → List ℕ → Type 0) (page : ℕ) → ((new : List ℕ) → R (page_of (pair_state a b) page) new → IsAbove new (page_of (pair_state a b) page))
      → CalledAt (page_change R S) (page_place a.shape.pages page) result a b a' b' → PairCalled (page_change R S) (page_place a.shape.pages page) page result a b a' b'
  page_changed R S page above call = pair_called (page_change R S) (page_place a.shape.pages page) page result (record {
    did = page_pair R page;
    part = page_pair S page;
    only = only_page_pair page;
    changed = λ did only shape. programmed_once page (page_of (pair_state a' b') page) (pair_state a b) (pair_state a' b') (above (page_of (pair_state a' b') page) did) refl only shape;
    failed = pair_change_failed (page_place a.shape.pages page);
    held = held_cut a b a' b';
  }) call

  pub programmed : (target : List ℕ) (page : ℕ) → IsAbove target (page_of (pair_state a b) page) → CalledAt (program_to target) (page_place a.shape.pages page) result a b a' b'
      → PairCalled (program_to target) (page_place a.shape.pages page) page result a b a' b'
  programmed target page above call = page_changed (λ old new. new ≡ target) (λ old new. IsBetween old new target) page (λ new is. rw is above) call

  pub charged : (cell page : ℕ) → page < page_count (pair_state a b).shape → cell < 8 * page_bytes (pair_state a b).shape
      → CalledAt (charge_of cell) (page_place a.shape.pages page) result a b a' b' → PairCalled (charge_of cell) (page_place a.shape.pages page) page result a b a' b'
  charged cell page inside below call =
      let long : length (page_of (pair_state a b) page) ≡ page_bytes a.shape = (pair_shaped a b call.before.same call.before.first call.before.second).lengths page inside in
      page_changed (λ old new. new ≡ charge old cell) (λ old new. (new ≡ old) ⊎ (new ≡ charge old cell)) page
      (λ new is. rw is (charge_above (page_of (pair_state a b) page) cell (omega (arith, long)))) call

  pub erased : (block : ℕ) → CalledAt erase (block_place block) result a b a' b' → PairCalled erase (block_place block) block result a b a' b'
  erased block call = pair_called erase (block_place block) block result (record {
    did = is_erased_pair block;
    part = in_part_pair block;
    only = only_block_pair block;
    changed = λ erased only shape. erased_once block (pair_state a b) (pair_state a' b') erased only shape;
    failed = pair_change_failed (block_place block);
    held = held_cut a b a' b';
  }) call

  pub was_read : (into : List ℕ) (page : ℕ) → CalledAt (read_to into) (page_place a.shape.pages page) result a b a' b'
      → PairCalled (read_to into) (page_place a.shape.pages page) page result a b a' b'
  was_read into page call = pair_called (read_to into) (page_place a.shape.pages page) page result (record {
    did = page_pair (λ old new. into ≡ old) page;
    part = λ call. tt;
    only = same_cells_pair (page_place a.shape.pages page);
    changed = λ is same shape. changed_none (pair_state a b) (pair_state a' b') shape same;
    failed = pair_read_failed (page_place a.shape.pages page);
    held = λ failed. held (ReadFailureCame 0 1) a.failures b.failures (pair_state a' b').failures failed.failures;
  }) call
