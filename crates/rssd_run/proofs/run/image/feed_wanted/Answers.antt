-- Each piece is of what the reader wants, and so within its reach.
use Rattle.std.proofs.Common.{ℕ, ◌<◌, ◌≤◌, ◌++◌, List, length, take, arith, refl, inl}
use Rattle.std.proofs.lemmas.List.{take-append-le, length-take}
use Rattle.die_image.specs.Image.{wanted, Fed}
use Rattle.rssd_io.proofs.Told.{left_more, left_take}
use Rattle.rssd_run.proofs.ReadImage.{took_none, taken, taken_failed, fault, stuck, falls, fed_more, fed_same, has_ended}
use Rattle.rssd_run.proofs.run.image.feed_wanted.Goals as goal

pub returns-in-Ok-eq0-clause-fed : goal.returns-in-Ok-eq0-clause-fed
returns-in-Ok-eq0-clause-fed g c =
    fed_same _ _ _ c.args.reader.now c.loop-room.reader c.loop-room.invariant.fed (took_none _ _ c.in-Ok-eq0.field-0 c.take.new.into c.in-Ok-eq0.field-0-test c.in-Ok-eq0.ensures.log)

pub returns-in-Ok-eq0-clause-all : goal.returns-in-Ok-eq0-clause-all
returns-in-Ok-eq0-clause-all g c =
    inl (has_ended _ _ _ c.args.reader.now c.loop-room.reader c.loop-room.invariant.fed (took_none _ _ c.in-Ok-eq0.field-0 c.take.new.into c.in-Ok-eq0.field-0-test c.in-Ok-eq0.ensures.log))

pub returns-in-Ok-eq0-clause-bounded : goal.returns-in-Ok-eq0-clause-bounded
returns-in-Ok-eq0-clause-bounded g c =
    taken _ _ c.args.reader.now c.loop-room.reader
    (fed_same _ _ _ c.args.reader.now c.loop-room.reader c.loop-room.invariant.fed (took_none _ _ c.in-Ok-eq0.field-0 c.take.new.into c.in-Ok-eq0.field-0-test c.in-Ok-eq0.ensures.log))

pub returns-in-Err-feed-clause-refused : goal.returns-in-Err-feed-clause-refused
returns-in-Err-feed-clause-refused g c = stuck c.args.reader.now.is_old _ _ _ c.args.reader.now c.loop-room.reader _ c.loop-room.invariant.fed c.in-Ok.ensures.log

pub returns-in-Err-feed-clause-bounded : goal.returns-in-Err-feed-clause-bounded
returns-in-Err-feed-clause-bounded g c =
    let piece : List ℕ = take c.in-Ok.count c.take.new.into in
    let next : Fed = record c.loop-room.reader { bytes = c.loop-room.reader.bytes ++ piece } in
    let fits : length piece ≤ wanted c.loop-room.reader = omega (arith, c.in-Ok.ensures.bound, c.take.auto.into, length-take c.loop-room.room c.loop-room.piece) in
    taken _ _ c.args.reader.now next (fed_more _ _ _ c.args.reader.now c.loop-room.reader next piece c.loop-room.invariant.fed c.in-Ok.ensures.log fits refl)

pub loop-room-smaller : goal.loop-room-smaller
loop-room-smaller g c =
    let piece : List ℕ = take c.in-Ok.count c.take.new.into in
    let fits : length piece ≤ wanted c.loop-room.reader = omega (arith, c.in-Ok.ensures.bound, c.take.auto.into, length-take c.loop-room.room c.loop-room.piece) in
    let some : 0 < length piece = omega (arith, c.in-Ok.ensures.bound, c.in-Ok.count-test) in
    let in_front : c.in-Ok.count ≤ length c.take.new.into = c.in-Ok.ensures.bound.0 in
    falls c.loop-room.reader c.feed.new.self piece c.loop-room.invariant.fed.well c.loop-room.invariant.fed.within fits some (rw take-append-le at c.in-Ok-feed.ensures.fed.1)

pub loop-room-preserved : goal.loop-room-preserved
loop-room-preserved g c =
    let left = g.I.Source.left in
    let log = g.I.Source.log in
    let piece : List ℕ = take c.in-Ok.count c.take.new.into in
    let fits : length piece ≤ wanted c.loop-room.reader = omega (arith, c.in-Ok.ensures.bound, c.take.auto.into, length-take c.loop-room.room c.loop-room.piece) in
    let in_front : c.in-Ok.count ≤ length c.take.new.into = c.in-Ok.ensures.bound.0 in
    record {
      fed = fed_more _ _ _ c.args.reader.now c.loop-room.reader c.feed.new.self piece c.loop-room.invariant.fed c.in-Ok.ensures.log fits (rw take-append-le at c.in-Ok-feed.ensures.fed.1);
      left = left_more c.loop-room.invariant.left
          (left_take c.take.result c.take.new.into (left c.loop-room.image) (left c.take.new.self) (log c.loop-room.image) (log c.take.new.self) c.take.ensures.log c.take.ensures.bytes);
      room = c.next_count-room-in-Ok-feed.ensures;
    }

pub returns-in-Err-clause-refused : goal.returns-in-Err-clause-refused
returns-in-Err-clause-refused g c = fault c.args.reader.now.is_old _ _ _ c.args.reader.now c.loop-room.reader c.loop-room.invariant.fed c.in-Err.ensures.log

pub returns-in-Err-clause-bounded : goal.returns-in-Err-clause-bounded
returns-in-Err-clause-bounded g c = taken_failed _ _ _ c.args.reader.now c.loop-room.reader c.loop-room.invariant.fed c.in-Err.ensures.log

pub returns-clause-bounded : goal.returns-clause-bounded
returns-clause-bounded g c = taken _ _ c.args.reader.now c.loop-room.reader c.loop-room.invariant.fed

pub returns-in-Ok-eq0-clause-left : goal.returns-in-Ok-eq0-clause-left
returns-in-Ok-eq0-clause-left g c =
    let left = g.I.Source.left in
    let log = g.I.Source.log in
    left_more c.loop-room.invariant.left
    (left_take c.take.result c.take.new.into (left c.loop-room.image) (left c.take.new.self) (log c.loop-room.image) (log c.take.new.self) c.take.ensures.log c.take.ensures.bytes)

pub returns-in-Err-feed-clause-left : goal.returns-in-Err-feed-clause-left
returns-in-Err-feed-clause-left g c =
    let left = g.I.Source.left in
    let log = g.I.Source.log in
    left_more c.loop-room.invariant.left
    (left_take c.take.result c.take.new.into (left c.loop-room.image) (left c.take.new.self) (log c.loop-room.image) (log c.take.new.self) c.take.ensures.log c.take.ensures.bytes)

pub returns-in-Err-clause-left : goal.returns-in-Err-clause-left
returns-in-Err-clause-left g c =
    let left = g.I.Source.left in
    let log = g.I.Source.log in
    left_more c.loop-room.invariant.left
    (left_take c.take.result c.take.new.into (left c.loop-room.image) (left c.take.new.self) (log c.loop-room.image) (log c.take.new.self) c.take.ensures.log c.take.ensures.bytes)
