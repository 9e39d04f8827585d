-- A rest that is not zero is no sum of the vectors, and as a row it clears the new one.
use Rattle.std.proofs.Common.{rules, ◌<◌, refl, subst, arith}
use Rattle.gf2_solve.specs.Family.{Family}
use Rattle.gf2_solve.specs.Span.{IsSpanned}
use Rattle.gf2_solve.proofs.BasisLemmas.{spanned_at_zero, not_spanned, stored_more, family_more}
use Rattle.gf2_solve.proofs.Basis.offer.Goals as goal
use Rattle.gf2_solve.proofs.Basis.offer.Goals.{Else-reduced-eq0}

pub returns-then-reduced-eq0 : goal.returns-then-reduced-eq0
returns-then-reduced-eq0 c =
    let r = rw (c.deref.ensures.value, c.deref-2.ensures.value) at c.reduce-reduced.ensures in
    let s = spanned_at_zero c.self.inside.rows.items c.self.inside.sets.items _ c.self.invariant.basis c.args.column _ _ r c.if-reduced-eq0.true in
    (subst (λ (f : Family). IsSpanned f.columns c.args.column) c.self.view_is s, refl)

pub overflow_shl-place : goal.overflow_shl-place
overflow_shl-place c =
    let r = rw (c.deref.ensures.value, c.deref-2.ensures.value) at c.reduce-reduced.ensures in
    let t = c.top_bit-top.ensures in
    (stored_more _ _ _ _ _ c.self.invariant c.args.column c.args.tag _ _ _ r t.in_range t.set t.highest).0

pub index_mut-requires-3 : goal.index_mut-requires-3
index_mut-requires-3 c =
    let r = rw (c.deref.ensures.value, c.deref-2.ensures.value) at c.reduce-reduced.ensures in
    let t = c.top_bit-top.ensures in
    let room : c.self.inside.taken < 128 = (stored_more _ _ _ _ _ c.self.invariant c.args.column c.args.tag _ _ _ r t.in_range t.set t.highest).0 in
    search rules

pub index_mut-requires-4 : goal.index_mut-requires-4
index_mut-requires-4 c =
    let r = rw (c.deref.ensures.value, c.deref-2.ensures.value) at c.reduce-reduced.ensures in
    let t = c.top_bit-top.ensures in
    let room : c.self.inside.taken < 128 = (stored_more _ _ _ _ _ c.self.invariant c.args.column c.args.tag _ _ _ r t.in_range t.set t.highest).0 in
    search rules

pub invariant_of-self : goal.invariant_of-self
invariant_of-self c =
    let r = rw (c.deref.ensures.value, c.deref-2.ensures.value) at c.reduce-reduced.ensures in
    let t = c.top_bit-top.ensures in
    (stored_more _ _ _ _ _ c.self.invariant c.args.column c.args.tag _ _ _ r t.in_range t.set t.highest).1

pub returns : goal.returns
returns c =
    let r = rw (c.deref.ensures.value, c.deref-2.ensures.value) at c.reduce-reduced.ensures in
    let t = c.top_bit-top.ensures in
    let i = c.self.invariant in
    let room : c.self.inside.taken < 128 = (stored_more _ _ _ _ _ i c.args.column c.args.tag _ _ _ r t.in_range t.set t.highest).0 in
    let n = not_spanned c.self.inside.rows.items c.self.inside.sets.items _ i.basis c.args.column _ _ r (omega arith) in
    let more =
    family_more c.self.inside.columns.items c.self.inside.tags.items c.self.inside.taken c.args.column c.args.tag c.args.self.now c.self.view_is (omega (arith, i.columns_len))
    (omega (arith, i.tags_len)) in
    (subst (λ (f : Family). ¬ (IsSpanned f.columns c.args.column)) c.self.view_is n, more.0, more.1)
