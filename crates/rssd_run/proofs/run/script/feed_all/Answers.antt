-- A take more, on record.
use Rattle.std.proofs.Common.{arith, length-take}
use Rattle.rssd_io.proofs.Told.{left_more, left_take}
use Rattle.rssd_run.proofs.ReadScript.{read_more, read_to_end, read_failed, read_stuck, fed}
use Rattle.rssd_run.proofs.run.script.feed_all.Goals as goal

pub returns-in-Ok-eq0-clause-read : goal.returns-in-Ok-eq0-clause-read
returns-in-Ok-eq0-clause-read g c = read_to_end c.in-Ok-eq0.field-0 c.take.new.into c.in-Ok-eq0.field-0-test c.loop-room.invariant.so c.in-Ok-eq0.ensures.log

pub returns-then-is_err-clause-refused : goal.returns-then-is_err-clause-refused
returns-then-is_err-clause-refused g c = read_stuck _ c.loop-room.invariant.so c.in-Ok.ensures.log

pub loop-room-preserved : goal.loop-room-preserved
loop-room-preserved g c =
    let left = g.T.Source.left in
    let log = g.T.Source.log in
    record {
      so = read_more c.in-Ok.count c.take.new.into c.loop-room.invariant.so c.in-Ok.ensures.log c.in-Ok.ensures.bound.0
          (omega (arith, c.in-Ok.ensures.bound.0, c.take.auto.into, length-take c.min-most.result c.loop-room.piece, c.min-most.ensures))
          (fed c.feed.result c.loop-room.reader c.feed.new.self c.in-Ok.count c.take.new.into _ c.feed.ensures.reads c.if-is_err.ensures.value c.in-Ok.ensures.bound.0);
      left = left_more c.loop-room.invariant.left
          (left_take c.take.result c.take.new.into (left c.loop-room.script) (left c.take.new.self) (log c.loop-room.script) (log c.take.new.self) c.take.ensures.log c.take.ensures.bytes);
    }

pub returns-in-Err-clause-refused : goal.returns-in-Err-clause-refused
returns-in-Err-clause-refused g c = read_failed c.loop-room.invariant.so c.in-Err.ensures.log

pub returns-in-Ok-eq0-clause-left : goal.returns-in-Ok-eq0-clause-left
returns-in-Ok-eq0-clause-left g c =
    let left = g.T.Source.left in
    let log = g.T.Source.log in
    left_more c.loop-room.invariant.left
    (left_take c.take.result c.take.new.into (left c.loop-room.script) (left c.take.new.self) (log c.loop-room.script) (log c.take.new.self) c.take.ensures.log c.take.ensures.bytes)

pub returns-then-is_err-clause-left : goal.returns-then-is_err-clause-left
returns-then-is_err-clause-left g c =
    let left = g.T.Source.left in
    let log = g.T.Source.log in
    left_more c.loop-room.invariant.left
    (left_take c.take.result c.take.new.into (left c.loop-room.script) (left c.take.new.self) (log c.loop-room.script) (log c.take.new.self) c.take.ensures.log c.take.ensures.bytes)

pub returns-in-Err-clause-left : goal.returns-in-Err-clause-left
returns-in-Err-clause-left g c =
    let left = g.T.Source.left in
    let log = g.T.Source.log in
    left_more c.loop-room.invariant.left
    (left_take c.take.result c.take.new.into (left c.loop-room.script) (left c.take.new.self) (log c.loop-room.script) (log c.take.new.self) c.take.ensures.log c.take.ensures.bytes)
