-- A Spare that is known to be blank stays; any other is erased.
use Rattle.std.proofs.Common.{sym, ap, ◌∙◌}
use Rattle.std.proofs.lemmas.Result.{err_from_is_err_and}
use Rattle.block_state.specs.declared.state.State.TheVariants.{Spare}
use Rattle.collector.specs.Steps.{was_blank, was_erased}
use Rattle.collector.proofs.blank.blank_spare.Goals as goal

pub returns-then-blank-clause-blank : goal.returns-then-blank-clause-blank
returns-then-blank-clause-blank g c = was_blank (sym c.in-Spare.ensures.value ∙ ap Spare c.if-blank.true)

pub returns-clause-blank : goal.returns-clause-blank
returns-clause-blank g c =
    rw c.set_state.ensures (was_erased (g.D.Die.state c.erase.new.self) (sym c.in-Spare.ensures.value ∙ ap Spare c.if-blank.false)
    c.in_ok-erase.ensures.erased c.erase.ensures.only_block c.erase.ensures.kept c.in_ok-erase.ensures.passed)

pub returns-in_err-erase-clause-not_blank : goal.returns-in_err-erase-clause-not_blank
returns-in_err-erase-clause-not_blank g c =
    let q = err_from_is_err_and c.from_residual.result c.from_residual.ensures.1 in
    rw q.1 (sym c.in-Spare.ensures.value ∙ ap Spare c.if-blank.false)
