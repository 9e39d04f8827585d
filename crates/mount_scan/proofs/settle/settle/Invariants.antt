-- The blocks so far are settled, and the others are still Clean.
use Rattle.std.proofs.Common.{◌≡◌, length}
use Rattle.mount_scan.proofs.Settling.{IsSettledBelow}
use Rattle.mount_scan.proofs.settle.settle.Given as goal

abbrev pub invariant-loop-block : goal.invariant-loop-block
invariant-loop-block l = record {
  below : IsSettledBelow l.fn.tables.found.items l.spare l.block l.tables.book;
  blocks : length l.tables.book.states ≡ length l.fn.tables.book.states;
  live : l.tables.book.live ≡ l.fn.tables.book.live;
  pages : l.tables.book.pages ≡ l.fn.tables.book.pages;
  units : l.tables.book.units ≡ l.fn.tables.book.units;
  generations : l.tables.book.generations ≡ l.fn.tables.book.generations;
  map : l.tables.map ≡ l.fn.tables.map;
  seq : l.tables.seq ≡ l.fn.tables.seq;
  found : l.tables.found ≡ l.fn.tables.found;
  end : l.block-end ≡ length l.fn.tables.book.states;
}
