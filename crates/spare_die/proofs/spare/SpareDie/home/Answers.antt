-- The book is true to the inner die while no change call failed.
use Rattle.std.proofs.Common.{◌<◌, length, sym, ◌∙◌, arith}
use Rattle.std.proofs.lemmas.List.{get_or_read}
use Rattle.std.proofs.lemmas.Bool.{false≢true}
use Rattle.spare_die.proofs.spare.SpareDie.home.Goals as goal

pub returns : goal.returns
returns g c =
    let self = c.args.self.now in
    let long : c.args.block < length self.book.homes.items = omega (arith, self.orderly.rows.homes) in
    get_or_read self.book.homes.items _ _ long c.index.ensures 0
    ∙ (self.orderly.true_book (λ stopped. absurd (false≢true (sym c.requires.running ∙ stopped)))).homes c.args.block c.requires.inside
