-- The cell is charged at the place of its page.
use Rattle.std.proofs.Common.{inr, ap, sym, ◌∙◌}
use Rattle.std.proofs.lemmas.Result.{on_err_weaker}
use Rattle.cell_die.specs.DieState.{page_bytes}
use Rattle.spare_die.specs.Tallies.{own_of}
use Rattle.spare_die.proofs.Facts.{keeps_facts}
use Rattle.spare_die.proofs.Pages.{Charge, charge_rises, place_of, in_die, page_change, orderly_called}
use Rattle.spare_die.proofs.spare.SpareDieDie.charge.Goals as goal

pub charge-result-requires : goal.charge-result-requires
charge-result-requires g c =
    let self = c.args.self.now in
    let at = place_of (g.met.D.WornDie.shaped self.inner) self.orderly.homes c.requires.page c.place-place.ensures in
    record { page = in_die at; cell = c.requires.cell }

pub invariant_of-self-2 : goal.invariant_of-self-2
invariant_of-self-2 g c =
    let self = c.args.self.now in
    let at = place_of (g.met.D.WornDie.shaped self.inner) self.orderly.homes c.requires.page c.place-place.ensures in
    let e = c.charge-result.ensures in
    let call : Charge c.args.cell c.place-place.result c.charge-result.result (g.D.WornDie.state self.inner) (g.D.WornDie.state c.charge-result.new.self)
    = record { did = e.charged; part = e.charged_or_not; only = e.only_page; kept = e.kept; passed = e.passed; failed = e.failed } in
    let orderly = orderly_called c.charge-result.result c.is_err-self.ensures.value self.orderly c.if-self.false at call e.same_bad in
    record { orderly = orderly; keeps = keeps_facts orderly; whole_page = self.whole_page ∙ ap page_bytes (sym e.kept.shape) }

pub returns : goal.returns
returns g c =
    let self = c.args.self.now in
    let at = place_of (g.met.D.WornDie.shaped self.inner) self.orderly.homes c.requires.page c.place-place.ensures in
    let e = c.charge-result.ensures in
    let call : Charge c.args.cell c.place-place.result c.charge-result.result (g.D.WornDie.state self.inner) (g.D.WornDie.state c.charge-result.new.self)
    = record { did = e.charged; part = e.charged_or_not; only = e.only_page; kept = e.kept; passed = e.passed; failed = e.failed } in
    let said = page_change (own_of self.tally) at (charge_rises c.args.cell at c.requires.cell) call in
    record {
      charged = said.did;
      charged_or_not = said.part;
      only_page = said.only;
      kept = said.kept;
      passed = said.passed;
      failed = said.failed;
      unpowered = tt;
      refused = λ stopped. absurd (cc);
      untouched = λ stopped. absurd (cc);
      cause = on_err_weaker c.charge-result.result (λ failed. inr failed) e.failed;
      stopped = rw c.if-self.false c.is_err-self.ensures.value;
    }
