-- So many blocks are read.
use Rattle.std.proofs.Common.{◌≡◌, ◌*◌, length}
use Rattle.mount_scan.specs.Scanned.{ReadOn, Reads}
use Rattle.mount_scan.proofs.scan.read_blocks.Given as goal

abbrev pub invariant-loop-block : goal.invariant-loop-block
invariant-loop-block g l = record {
  read : ReadOn (g.D.Die.state l.die) l.work l.block 0 l.tables;
  reads : Reads (l.block * (g.D.Die.state l.fn.die).shape.pages) (g.D.Die.state l.fn.die) (g.D.Die.state l.die);
  same_work : l.work ≡ l.fn.work;
  same_sectors : length l.tables.map ≡ length l.fn.tables.map;
  end : l.block-end ≡ (g.D.Die.state l.fn.die).shape.blocks;
}
