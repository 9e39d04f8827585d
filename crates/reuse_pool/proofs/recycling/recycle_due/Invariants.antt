-- What is left to do from here completes a whole run, and the loop counts the Recycled blocks.
use Rattle.std.proofs.Common.{◌≡◌, ◌<◌}
use Rattle.block_state.specs.Book.{BookValue}
use Rattle.reuse_pool.specs.Recycling.{Recycles, recycled_count}
use Rattle.reuse_pool.proofs.recycling.recycle_due.Given as goal

abbrev pub invariant-loop : goal.invariant-loop
invariant-loop l = record {
  counted : l.counter ≡ recycled_count l.book;
  units : 0 < l.book.units;
  rest : (w : BookValue) → Recycles l.reuse_max l.book w → Recycles l.reuse_max l.fn.book w;
}
