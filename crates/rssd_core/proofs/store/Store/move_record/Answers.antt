-- What the move leaves, by the parts of the store.
use Rattle.std.proofs.Common.{length, Ok, Err, refl, sym, ap, subst}
use Rattle.std.proofs.lemmas.Bool.{false≢true}
use Rattle.collector.specs.Moves.{NoMoveLeft}
use Rattle.collector.specs.Store.{Store}
use Rattle.rssd_core.proofs.StoreLaws.{after_keeps, after_held}
use Rattle.rssd_core.proofs.StoreOpening.{true_before, true_long}
use Rattle.rssd_core.proofs.StoreMoves.{moved_here, unread_here, unread_true, unmoved_here}
use Rattle.rssd_core.proofs.store.Store.move_record.Goals as goal

pub invariant_of-self : goal.invariant_of-self
invariant_of-self g c =
    let moved = c.in-Ok-true.ensures.moved (ap Ok c.in-Ok-true.field-0-test) in
    after_held c.move_one.ensures.holds c.move_one.ensures.same_scheme (true_long moved.tables) c.self.invariant c.move_one.ensures.same_work refl (λ _. moved.tables)

pub invariant_of-self-in-Err-Read : goal.invariant_of-self-in-Err-Read
invariant_of-self-in-Err-Read g c =
    let failed = c.in-Err-Read.ensures.read_failed (ap Err c.in-Err-Read.field-0-is) in
    after_held c.move_one.ensures.holds c.move_one.ensures.same_scheme (ap (λ (s : Store). length s.table) failed.same) c.self.invariant c.move_one.ensures.same_work refl
    (λ _. unread_true failed (true_before c.self.view_is c.self.invariant c.requires.running))

pub invariant_of-self-in-Err-Change : goal.invariant_of-self-in-Err-Change
invariant_of-self-in-Err-Change g c =
    let failed = c.in-Err-Change.ensures.change_failed (ap Err c.in-Err-Change.field-0-is) in
    after_held c.move_one.ensures.holds c.move_one.ensures.same_scheme (ap (λ (s : Store). length s.table) failed.same) c.self.invariant c.move_one.ensures.same_work refl
    (λ runs. absurd (false≢true (sym runs)))

pub returns-in-Ok-true-clause-keeps : goal.returns-in-Ok-true-clause-keeps
returns-in-Ok-true-clause-keeps g c =
    after_keeps c.move_one.ensures.holds c.move_one.ensures.same_scheme (true_long (c.in-Ok-true.ensures.moved (ap Ok c.in-Ok-true.field-0-test)).tables) c.self.view_is

pub returns-in-Ok-true-clause-moved : goal.returns-in-Ok-true-clause-moved
returns-in-Ok-true-clause-moved g c _ = moved_here g.C.Scheme.meaning c.self.view_is (c.in-Ok-true.ensures.moved (ap Ok c.in-Ok-true.field-0-test))

pub returns-in-Err-Read-clause-keeps : goal.returns-in-Err-Read-clause-keeps
returns-in-Err-Read-clause-keeps g c =
    let failed = c.in-Err-Read.ensures.read_failed (ap Err c.in-Err-Read.field-0-is) in
    after_keeps c.move_one.ensures.holds c.move_one.ensures.same_scheme (ap (λ (s : Store). length s.table) failed.same) c.self.view_is

pub returns-in-Err-Read-clause-read_failed : goal.returns-in-Err-Read-clause-read_failed
returns-in-Err-Read-clause-read_failed g c _ = unread_here g.C.Scheme.meaning c.self.view_is (c.in-Err-Read.ensures.read_failed (ap Err c.in-Err-Read.field-0-is))

pub returns-in-Err-Change-clause-change_failed : goal.returns-in-Err-Change-clause-change_failed
returns-in-Err-Change-clause-change_failed g c _ = unmoved_here g.C.Scheme.meaning c.self.view_is (c.in-Err-Change.ensures.change_failed (ap Err c.in-Err-Change.field-0-is))

pub returns-in-Ok-false-clause-none : goal.returns-in-Ok-false-clause-none
returns-in-Ok-false-clause-none g c _ = subst (λ x. NoMoveLeft x.cells.book) c.self.view_is (c.in-Ok-false.ensures.none (ap Ok c.in-Ok-false.field-0-test))

pub returns-in-Ok-true-clause-none_alone : goal.returns-in-Ok-true-clause-none_alone
returns-in-Ok-true-clause-none_alone g c none = let told = c.in-Ok-true.ensures.none_alone (subst (λ x. NoMoveLeft x.cells.book) (sym c.self.view_is) none) in cc

pub returns-in-Err-Read-clause-none_alone : goal.returns-in-Err-Read-clause-none_alone
returns-in-Err-Read-clause-none_alone g c none = let told = c.in-Err-Read.ensures.none_alone (subst (λ x. NoMoveLeft x.cells.book) (sym c.self.view_is) none) in cc

pub returns-in-Err-Change-clause-none_alone : goal.returns-in-Err-Change-clause-none_alone
returns-in-Err-Change-clause-none_alone g c none = let told = c.in-Err-Change.ensures.none_alone (subst (λ x. NoMoveLeft x.cells.book) (sym c.self.view_is) none) in cc
