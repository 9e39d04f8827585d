-- Taken or spanned, the basis then spans the columns of one cell more.
use Rattle.std.proofs.Common.{◌+◌, [], sym, subst, refl}
use Rattle.coset_code.specs.Solution.{HasOffered}
use Rattle.coset_code.proofs.OfferLemmas.{offered_spanned, offered_taken}
use Rattle.coset_code.proofs.coordinates.offer_cell.Goals as goal

pub returns-in-Taken-clause-offered : goal.returns-in-Taken-clause-offered
returns-in-Taken-clause-offered c =
    let taken = c.in-Taken.ensures in
    subst (HasOffered c.args.columns.now [] (c.args.cell + 1)) (sym taken.2)
    (offered_taken c.args.columns.now [] c.args.cell c.args.full.now c.requires.offered c.requires.cell refl taken.0)

pub returns-in-Spanned-clause-offered : goal.returns-in-Spanned-clause-offered
returns-in-Spanned-clause-offered c =
    let spanned = c.in-Spanned.ensures in
    subst (HasOffered c.args.columns.now [] (c.args.cell + 1)) (sym spanned.1)
    (offered_spanned c.args.columns.now [] c.args.cell c.args.full.now c.requires.offered spanned.0)
