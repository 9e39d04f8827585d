-- The page is read at its place, and no cell changes.
use Rattle.std.proofs.Common.{ap, sym, ◌∙◌, refl}
use Rattle.std.proofs.lemmas.Result.{on_ok_weaker}
use Rattle.cell_die.specs.DieState.{page_bytes}
use Rattle.spare_die.specs.Tallies.{own_of}
use Rattle.spare_die.proofs.Facts.{keeps_facts}
use Rattle.spare_die.proofs.Pages.{place_of, in_die, page_then, read_free, same_cells_read, kept_read, same_changes, orderly_passed}
use Rattle.spare_die.proofs.spare.SpareDieDie.read.Goals as goal

pub read-requires-clause-page : goal.read-requires-clause-page
read-requires-clause-page g c =
    let self = c.args.self.now in
    in_die (place_of (g.met.D.WornDie.shaped self.inner) self.orderly.homes c.requires.page c.place-place.ensures)

pub invariant_of-self-2 : goal.invariant_of-self-2
invariant_of-self-2 g c =
    let self = c.args.self.now in
    let free = read_free (g.met.D.WornDie.shaped self.inner) self.orderly.homes c.read.ensures.kept c.read.ensures.same_cells in
    let faults = same_changes (g.D.WornDie.state self.inner) (g.D.WornDie.state c.read.new.self) c.read.result c.read.ensures.passed c.read.ensures.failed in
    let orderly = orderly_passed self.tally.stopped refl self.orderly free faults c.read.ensures.same_bad in
    record { orderly = orderly; keeps = keeps_facts orderly; whole_page = self.whole_page ∙ ap page_bytes (sym c.read.ensures.kept.shape) }

pub returns-clause-read : goal.returns-clause-read
returns-clause-read g c =
    let self = c.args.self.now in
    let at = place_of (g.met.D.WornDie.shaped self.inner) self.orderly.homes c.requires.page c.place-place.ensures in
    on_ok_weaker c.read.result (λ is. is ∙ sym (page_then (own_of self.tally) at)) c.read.ensures.read

pub returns-clause-same_cells : goal.returns-clause-same_cells
returns-clause-same_cells g c =
    let self = c.args.self.now in
    same_cells_read (g.met.D.WornDie.shaped self.inner) self.orderly.homes c.read.ensures.kept c.read.ensures.same_cells (own_of self.tally)

pub returns-clause-kept : goal.returns-clause-kept
returns-clause-kept g c =
    let self = c.args.self.now in
    kept_read (g.met.D.WornDie.shaped self.inner) self.orderly.homes c.read.ensures.kept c.read.ensures.same_cells (own_of self.tally)
