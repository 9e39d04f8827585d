-- Clean blocks are in no list, so all lists are empty, and each block is in the set of the Clean ones.
use Rattle.block_state.proofs.Kept.{new_kept}
use Rattle.block_state.proofs.book.Book.new.Goals as goal

pub invariant_of-result : goal.invariant_of-result
invariant_of-result c = rw (c.in_ok-order.ensures, c.in_ok-by_live.ensures, c.in_ok-states.ensures.items_if_clones_equal (λ y e. e), c.in_ok-live.ensures.items_if_clones_equal (λ y e. e))
    (record {
      kept = new_kept c.args.blocks c.args.pages c.args.units c.args.generations
          c.requires.few_blocks c.requires.few_pages c.requires.few_units c.requires.two_generations c.requires.three_generations;
      kinds_are = c.new-3.ensures;
    })
