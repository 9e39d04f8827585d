-- The home is erased, and the table stays.
use Rattle.std.proofs.Common.{ap, sym, subst, ◌∙◌}
use Rattle.cell_die.specs.DieState.{page_bytes}
use Rattle.spare_die.specs.declared.tally.Tally.{Tally}
use Rattle.spare_die.specs.Book.{IsOrderly}
use Rattle.spare_die.proofs.Facts.{keeps_facts}
use Rattle.spare_die.proofs.Erasing.{HomeErase, home_of, erases_home, orderly_answered, bad_counted}
use Rattle.spare_die.proofs.spare.SpareDie.erase_home.Goals as goal

pub invariant_of-self : goal.invariant_of-self
invariant_of-self g c =
    let self = c.args.self.now in
    let of = home_of (g.met.D.WornDie.shaped self.inner) self.orderly.homes c.requires.inside c.home-home.ensures in
    let e = c.erase_or_bad-result.ensures in
    let call : HomeErase c.erase_or_bad-result.result (g.D.WornDie.state self.inner) (g.D.WornDie.state c.erase_or_bad-result.new.self) (g.D.WornDie.bad_erases self.inner)
    (g.D.WornDie.bad_erases c.erase_or_bad-result.new.self) c.home-home.result
    = record { shape = e.kept.shape; only = e.only_block; passed = e.passed; failed = e.failed; clean = e.clean_bad; bad = e.bad_rose; none = e.failed_bad } in
    let orderly = orderly_answered c.erase_or_bad-result.result self.orderly c.requires.running of c.count_erase.ensures.same call in
    let known = subst (λ (tally : Tally). IsOrderly (g.D.WornDie.state c.erase_or_bad-result.new.self) (g.D.WornDie.bad_erases c.erase_or_bad-result.new.self) self.logical self.book tally)
    (sym c.count_answer.ensures) orderly in
    record { orderly = known; keeps = keeps_facts known; whole_page = self.whole_page ∙ ap page_bytes (sym e.kept.shape) }

pub returns-clause-erases : goal.returns-clause-erases
returns-clause-erases g c =
    let self = c.args.self.now in
    let of = home_of (g.met.D.WornDie.shaped self.inner) self.orderly.homes c.requires.inside c.home-home.ensures in
    let e = c.erase_or_bad-result.ensures in
    erases_home of e.kept.shape e.only_block c.erase_or_bad-result.result e.clean e.bad e.in_part

pub returns-clause-bad_more : goal.returns-clause-bad_more
returns-clause-bad_more g c =
    λ bad. rw (c.count_answer.ensures, bad) (bad_counted c.args.self.now.orderly c.requires.running c.count_erase.ensures.same)
