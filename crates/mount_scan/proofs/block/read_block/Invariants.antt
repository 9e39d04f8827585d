-- So many pages of the block are read, and what they show is in sight.
use Rattle.std.proofs.Common.{◌≡◌, length}
use Rattle.mount_scan.specs.Scanned.{ReadOn, Reads, ShowsOn}
use Rattle.mount_scan.proofs.block.read_block.Given as goal

abbrev pub invariant-loop-number : goal.invariant-loop-number
invariant-loop-number g l = record {
  read : ReadOn (g.D.Die.state l.die) l.work l.block l.number l.tables;
  shows : ShowsOn (g.D.Die.state l.die) l.work l.tables l.block l.number l.sight;
  reads : Reads l.number (g.D.Die.state l.fn.die) (g.D.Die.state l.die);
  same_work : l.work ≡ l.fn.work;
  same_sectors : length l.tables.map ≡ length l.fn.tables.map;
  end : l.number-end ≡ (g.D.Die.state l.fn.die).shape.pages;
}
