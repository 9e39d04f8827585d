-- What waited was given, and then the sink below was flushed.
use Rattle.rssd_io.proofs.Gathering.{flushed_below, ends_flushed, front_flushed}
use Rattle.rssd_io.proofs.buffer.BufSink.empty.Goals as goal

pub returns-clause-passes : goal.returns-clause-passes
returns-clause-passes g c =
    let log = g.S.Sink.log in
    flushed_below c.flush.result (log c.args.self.now.inner) (log c.hand_on.new.self.inner) (log c.flush.new.self) c.args.self.now.waiting.items c.in_ok-hand_on.ensures.passes c.flush.ensures.log

pub returns-clause-below : goal.returns-clause-below
returns-clause-below g c =
    let log = g.S.Sink.log in
    ends_flushed c.flush.result (log c.hand_on.new.self.inner) (log c.flush.new.self) c.flush.ensures.log

pub returns-clause-front : goal.returns-clause-front
returns-clause-front g c =
    let log = g.S.Sink.log in
    front_flushed c.flush.result (log c.args.self.now.inner) (log c.hand_on.new.self.inner) (log c.flush.new.self) c.args.self.now.waiting.items c.in_ok-hand_on.ensures.passes c.flush.ensures.log
