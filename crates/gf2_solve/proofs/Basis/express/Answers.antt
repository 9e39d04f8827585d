-- What the rows clear is spanned, and what is spanned the rows clear.
use Rattle.std.proofs.Common.{refl, subst, arith}
use Rattle.gf2_solve.specs.Family.{Family}
use Rattle.gf2_solve.specs.Span.{IsSpanned}
use Rattle.gf2_solve.proofs.BasisLemmas.{spanned_at_zero, not_spanned}
use Rattle.gf2_solve.proofs.Basis.express.Goals as goal

pub returns-then-reduced-eq0-clause-none : goal.returns-then-reduced-eq0-clause-none
returns-then-reduced-eq0-clause-none c =
    let r = rw (c.deref.ensures.value, c.deref-2.ensures.value) at c.reduce-reduced.ensures in
    let s = spanned_at_zero c.self.inside.rows.items c.self.inside.sets.items _ c.self.invariant.basis c.args.target _ _ r c.if-reduced-eq0.true in
    let spanned : IsSpanned c.args.self.now.columns c.args.target = subst (λ (f : Family). IsSpanned f.columns c.args.target) c.self.view_is s in
    (λ h. (cc), λ n. absurd (n spanned))

pub returns-else-reduced-eq0-clause-none : goal.returns-else-reduced-eq0-clause-none
returns-else-reduced-eq0-clause-none c =
    let r = rw (c.deref.ensures.value, c.deref-2.ensures.value) at c.reduce-reduced.ensures in
    let n = not_spanned c.self.inside.rows.items c.self.inside.sets.items _ c.self.invariant.basis c.args.target _ _ r (omega arith) in
    let none : ¬ (IsSpanned c.args.self.now.columns c.args.target) = subst (λ (f : Family). ¬ (IsSpanned f.columns c.args.target)) c.self.view_is n in
    (λ h. none, λ h. refl)
