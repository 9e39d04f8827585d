-- The two lines were given, and then they were handed on, or were not.
use Rattle.std.proofs.Common.{inl, inr, ap, Err}
use Rattle.rssd_io.specs.Event.{flushed, failed}
use Rattle.rssd_io.proofs.Pieces.{behind}
use Rattle.rssd_run.specs.MakeRuns.{told_of}
use Rattle.rssd_run.proofs.run.make_run.answer_make.Goals as goal

pub returns-in-Ok-flush-clause-says : goal.returns-in-Ok-flush-clause-says
returns-in-Ok-flush-clause-says g c =
    let log = g.O.Sink.log in
    let done = c.in-Ok.ensures.done in
    (done.0, behind (log c.args.out.now) (log c.make_run.new.out) (log c.flush.new.self) (told_of done.0) flushed done.1 c.in-Ok-flush.ensures.log)

pub returns-in-Err-clause-says : goal.returns-in-Err-clause-says
returns-in-Err-clause-says g c =
    let log = g.O.Sink.log in
    let done = c.in-Ok.ensures.done in
    (done.0, inr (behind (log c.args.out.now) (log c.make_run.new.out) (log c.flush.new.self) (told_of done.0) failed done.1 c.in-Err.ensures.log))

pub returns-in-Err-Sink-clause-says : goal.returns-in-Err-Sink-clause-says
returns-in-Err-Sink-clause-says g c = let front = c.in-Err-Sink.ensures.front (ap Err c.in-Err-Sink.field-0-is) in (front.0, inl front.1)
