-- The calls change no number of the book, and make or lose no block.
use Rattle.std.proofs.Common.{◌≡◌, length}
use Rattle.block_state.proofs.book.tests.ten_thousand_calls_agree_with_plain_lists.Given as goal

abbrev pub invariant-loop : goal.invariant-loop
invariant-loop g l = (l.book.pages ≡ 4) × (l.book.units ≡ 2) × (l.book.generations ≡ 3) × (length l.book.states ≡ 8)
