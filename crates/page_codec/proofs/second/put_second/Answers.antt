-- However the write ends, it is a put over an uncharged gate or changed no cell.
use Rattle.page_codec.specs.Puts.{spare_of}
use Rattle.page_codec.specs.Units.{place_of}
use Rattle.page_codec.proofs.PutPromises.{second_keeps}
use Rattle.page_codec.proofs.PutUnit.{blank_ungated}
use Rattle.page_codec.proofs.second.put_second.Goals as goal

pub returns-clause-records : goal.returns-clause-records
returns-clause-records g c =
    second_keeps (g.C.Scheme.meaning c.args.scheme.now) (place_of c.args.page c.args.slot) c.args.header.now c.args.sector.now c.put_over.result (g.D.Die.state c.args.die.now)
    (g.D.Die.state c.put_over.new.die)
    c.put_over.ensures.ends c.put_over.ensures.kept.shape (g.met.D.Die.shaped c.args.die.now) (g.met.D.Die.shaped c.put_over.new.die)
    (blank_ungated (spare_of (g.D.Die.state c.args.die.now) c.args.page) c.args.slot c.requires.blank)
