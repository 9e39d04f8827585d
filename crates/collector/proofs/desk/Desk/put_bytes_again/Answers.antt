-- The record's bytes are read first, which changes no cell, and are then put again.
use Rattle.collector.proofs.PutAfter.{bytes_puts, bytes_passed, bytes_failed}
use Rattle.collector.proofs.desk.Desk.put_bytes_again.Goals as goal

pub returns-in-Ok-put_sector-clause-ends : goal.returns-in-Ok-put_sector-clause-ends
returns-in-Ok-put_sector-clause-ends g c = (
  bytes_puts (g.C.Scheme.meaning c.args.self.now.scheme.now) c.args.live.now c.args.page c.get.new.into (g.D.Die.state c.args.self.now.die.now) (g.D.Die.state c.get.new.die)
      (g.D.Die.state c.put_sector.new.self.die.now) c.args.self.now.seq.now
      c.get.ensures.same_cells c.get.ensures.kept.shape c.requires.bytes c.put_sector.ensures.put c.in-Ok.ensures.got c.put_sector.ensures.sector,
  c.in-Ok-put_sector.ensures.gated,
  bytes_passed (g.C.Scheme.meaning c.args.self.now.scheme.now) c.args.live.now (g.D.Die.state c.args.self.now.die.now) (g.D.Die.state c.get.new.die)
      (g.D.Die.state c.put_sector.new.self.die.now) c.requires.bytes c.in-Ok.ensures.passed c.in-Ok-put_sector.ensures.passed,
  c.put_sector.ensures.seq,
)

pub returns-in-Err-clause-ends : goal.returns-in-Err-clause-ends
returns-in-Err-clause-ends g c = (
  bytes_puts (g.C.Scheme.meaning c.args.self.now.scheme.now) c.args.live.now c.args.page c.get.new.into (g.D.Die.state c.args.self.now.die.now) (g.D.Die.state c.get.new.die)
      (g.D.Die.state c.put_sector.new.self.die.now) c.args.self.now.seq.now
      c.get.ensures.same_cells c.get.ensures.kept.shape c.requires.bytes c.put_sector.ensures.put c.in-Ok.ensures.got c.put_sector.ensures.sector,
  bytes_failed (g.C.Scheme.meaning c.args.self.now.scheme.now) c.args.live.now (g.D.Die.state c.args.self.now.die.now) (g.D.Die.state c.get.new.die)
      (g.D.Die.state c.put_sector.new.self.die.now) c.requires.bytes c.in-Ok.ensures.passed c.in-Err.ensures.failed,
  c.put_sector.ensures.seq,
)
