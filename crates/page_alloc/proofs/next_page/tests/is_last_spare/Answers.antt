-- The last of the three blocks is Spare, and each of the others was seen not to be.
use Rattle.std.proofs.Common.{sym, ◌∙◌, arith}
use Rattle.block_state.proofs.Spare.{one_spare_of_three}
use Rattle.page_alloc.proofs.next_page.tests.is_last_spare.Goals as goal

pub returns-clause-spare : goal.returns-clause-spare
returns-clause-spare c = λ last. one_spare_of_three c.args.book.now (omega (arith, c.blocks-blocks.ensures.value))
    (sym c.is_spare_at-first.ensures ∙ c.if-first.false) (sym c.is_spare_at-second.ensures ∙ c.if-second.false) (sym c.is_spare_at.ensures ∙ last)
