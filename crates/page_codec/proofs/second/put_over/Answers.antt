-- The unit is read, and then put.
use Rattle.std.proofs.Common.{◌≡◌, ℕ, ◌+◌, false, true, Result, Ok, Err, OnOk, sym, ◌∙◌, subst, arith, rules}
use Rattle.std.specs.Prelude.{is_err}
use Rattle.cell_die.specs.Calls.{Passed, ChangeFailed}
use Rattle.cell_die.proofs.Sequences.{kept_trans, passed_trans, change_failed_after}
use Rattle.page_codec.specs.Units.{place_of, unit_main}
use Rattle.page_codec.proofs.PutOver.{puts_over}
use Rattle.page_codec.proofs.second.put_over.Goals as goal

-- what holds of a result that is none of an error
at_ok : {T E : Type 0} (result : Result T E) (P : Type 0) → is_err result ≡ false → OnOk result P → P
at_ok (Ok value) P none holds = holds
at_ok (Err error) P none holds = cc

pub returns-in-Ok-clause-kept : goal.returns-in-Ok-clause-kept
returns-in-Ok-clause-kept g c = kept_trans c.read_unit.ensures.kept c.put_unit.ensures.kept

pub returns-in-Err-clause-kept : goal.returns-in-Err-clause-kept
returns-in-Err-clause-kept g c = kept_trans c.read_unit.ensures.kept c.put_unit.ensures.kept

pub returns-in-Ok-clause-ends : goal.returns-in-Ok-clause-ends
returns-in-Ok-clause-ends g c =
    let meaning = g.C.Scheme.meaning c.args.scheme.now in
    let old = g.D.Die.state c.args.die.now in
    let mid = g.D.Die.state c.read_unit.new.die in
    let new = g.D.Die.state c.put_unit.new.die in
    let carries : meaning.decoding.second_carries c.over.new.unit c.args.sector.now ≡ true = search rules in
    let gives : meaning.decoding.second_gives c.read_unit.new.unit c.args.sector.now c.over.new.unit ≡ true = search rules in
    let unit : c.read_unit.new.unit ≡ unit_main old c.args.span c.args.page = at_ok c.read_unit.result _ (sym c.is_err.ensures.value ∙ c.if-is_err.false) c.read_unit.ensures.unit in
    let read : Passed 0 c.args.span old mid = at_ok c.read_unit.result _ (sym c.is_err.ensures.value ∙ c.if-is_err.false) c.read_unit.ensures.passed in
    let passed : Passed (0 + (c.args.span + 1)) (c.args.span + 0) old new = passed_trans read c.in-Ok.ensures.passed in
    let changes : 0 + (c.args.span + 1) ≡ meaning.span + 1 = omega (arith, c.requires.scheme_span) in
    let reads : c.args.span + 0 ≡ meaning.span = omega (arith, c.requires.scheme_span) in (
      puts_over meaning (place_of c.args.page c.args.slot) c.args.header.now c.read_unit.new.unit c.over.new.unit c.args.sector.now c.args.span old mid new
          c.requires.scheme_span c.requires.scheme_bytes c.read_unit.ensures.kept.shape c.read_unit.ensures.same_cells unit carries gives c.in-Ok.ensures.put,
      c.in-Ok.ensures.gated,
      subst (λ (n : ℕ). Passed n meaning.span old new) changes (subst (λ (n : ℕ). Passed (0 + (c.args.span + 1)) n old new) reads passed),
    )

pub returns-in-Err-clause-ends : goal.returns-in-Err-clause-ends
returns-in-Err-clause-ends g c =
    let meaning = g.C.Scheme.meaning c.args.scheme.now in
    let old = g.D.Die.state c.args.die.now in
    let mid = g.D.Die.state c.read_unit.new.die in
    let new = g.D.Die.state c.put_unit.new.die in
    let carries : meaning.decoding.second_carries c.over.new.unit c.args.sector.now ≡ true = search rules in
    let gives : meaning.decoding.second_gives c.read_unit.new.unit c.args.sector.now c.over.new.unit ≡ true = search rules in
    let unit : c.read_unit.new.unit ≡ unit_main old c.args.span c.args.page = at_ok c.read_unit.result _ (sym c.is_err.ensures.value ∙ c.if-is_err.false) c.read_unit.ensures.unit in
    let read : Passed 0 c.args.span old mid = at_ok c.read_unit.result _ (sym c.is_err.ensures.value ∙ c.if-is_err.false) c.read_unit.ensures.passed in
    let failed : ChangeFailed (0 + (c.args.span + 1)) (c.args.span + 0) old new = change_failed_after read c.in-Err.ensures.failed in
    let changes : 0 + (c.args.span + 1) ≡ meaning.span + 1 = omega (arith, c.requires.scheme_span) in
    let reads : c.args.span + 0 ≡ meaning.span = omega (arith, c.requires.scheme_span) in (
      puts_over meaning (place_of c.args.page c.args.slot) c.args.header.now c.read_unit.new.unit c.over.new.unit c.args.sector.now c.args.span old mid new
          c.requires.scheme_span c.requires.scheme_bytes c.read_unit.ensures.kept.shape c.read_unit.ensures.same_cells unit carries gives c.in-Err.ensures.put,
      subst (λ (n : ℕ). ChangeFailed n meaning.span old new) changes (subst (λ (n : ℕ). ChangeFailed (0 + (c.args.span + 1)) n old new) reads failed),
    )
