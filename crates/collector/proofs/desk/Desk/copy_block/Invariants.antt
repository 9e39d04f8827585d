-- The pages so far are scanned, and their live records copied.
use Rattle.std.proofs.Common.{◌≡◌, ◌*◌, length}
use Rattle.collector.specs.Desk.{SameDesk, Stays, geometry_on, store_on}
use Rattle.collector.specs.Inside.{Reached}
use Rattle.collector.proofs.desk.Desk.copy_block.Given as goal

abbrev pub invariant-loop-i : goal.invariant-loop-i
invariant-loop-i g l = record {
  reached : Reached (geometry_on g.D.Die.state g.C.Scheme.meaning l.fn.self l.fn.map) (g.C.Scheme.meaning l.fn.self.scheme.now).decoding l.fn.victim l.fn.spare
      (store_on g.D.Die.state l.fn.self l.fn.map) (store_on g.D.Die.state l.self l.fn.map) (l.i * (g.C.Scheme.meaning l.fn.self.scheme.now).generations) l.i l.copies l.moves;
  stays : Stays g.D.Die.state g.C.Scheme.meaning l.fn.self l.self;
  same_desk : SameDesk l.fn.self l.self;
  long : length l.moves ≡ length l.fn.moves;
  pages : l.pages ≡ (g.D.Die.state l.fn.self.die.now).shape.pages;
  first : l.first ≡ l.fn.victim * (g.D.Die.state l.fn.self.die.now).shape.pages;
}
