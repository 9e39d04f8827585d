-- The sum of the coordinates of a message's bits are the coordinates of its number.
use Rattle.std.proofs.Common.{rules, ◌≡◌, ℕ, List, IsTrue, length, ap, ◌∙◌, subst, refl, arith}
use Rattle.gf2_solve.specs.Span.{subset_sum}
use Rattle.wom_code.specs.Packed.{cells_of}
use Rattle.coset_code.specs.Sums.{sum_below, syndrome}
use Rattle.coset_code.specs.Rows.{HasGoneOver}
use Rattle.coset_code.proofs.UnitLemmas.{number_of_units}
use Rattle.coset_code.proofs.turned.try_rows.Goals as goal

pub returns-clause-gone : goal.returns-clause-gone
returns-clause-gone c = λ yes columns s number bits.
    let units : List ℕ = c.args.turned.now.units.items in
    let vectors : List ℕ = c.args.full.now.columns in
    let message : List ℕ = c.args.message.now in
    let on : IsTrue c.args.turned.now.ready = search rules in
    let sum : c.syndrome_of-wanted.result ≡ sum_below units (cells_of (length units) message) (length units) =
    c.syndrome_of-wanted.ensures ∙ ap (λ us. syndrome us (cells_of (length us) message)) c.deref.ensures.value in
    let whole : subset_sum c.syndrome_of-wanted.result vectors ≡ number =
    ap (λ x. subset_sum x vectors) sum ∙ number_of_units units vectors message number (length units) c.requires.made.units_len refl (omega arith) (c.requires.made.units on) bits in
    subst (HasGoneOver columns c.args.old.now c.go_by_rows.new.out) whole (c.go_by_rows.ensures.gone yes columns s)
