-- The header that was drawn is that of the put.
use Rattle.std.proofs.Common.{subst}
use Rattle.zero_count.specs.declared.Header.{Header}
use Rattle.page_codec.specs.Promises.{KeepsRecords}
use Rattle.page_codec.specs.Puts.{Puts, FirstGives, first_slot}
use Rattle.collector.proofs.desk.Desk.put_bytes.Goals as goal

pub returns-clause-puts : goal.returns-clause-puts
returns-clause-puts g c =
    let meaning = g.C.Scheme.meaning c.args.self.now.scheme.now in
    let old = g.D.Die.state c.args.self.now.die.now in
    let new = g.D.Die.state c.put_first.new.die in
    record {
      put = subst (λ (h : Header). Puts (FirstGives meaning c.args.page c.args.sector.now) 1 (first_slot c.args.page) h old new) c.draw-copy.ensures.header c.put_first.ensures.put;
      records = subst (λ (h : Header). KeepsRecords (first_slot c.args.page) h old new) c.draw-copy.ensures.header c.put_first.ensures.records;
      marked = c.draw-copy.ensures.book;
      drawn = c.draw-copy.ensures.seq;
    }
