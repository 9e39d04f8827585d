-- How the lines ended, and what was told then, make what the status says.
use Rattle.rssd_run.specs.Statuses.{input}
use Rattle.rssd_lab.proofs.Settled.{blank_settles}
use Rattle.rssd_lab.proofs.top.answer_blank.Goals as goal

pub returns : goal.returns
returns g c =
    let log = g.O.Sink.log in
    let played = c.play_order-played in
    let read = input (g.I.Source.log c.args.input) (g.I.Source.log played.result.1) in
    blank_settles c.args.asked.now c.args.die read (log c.args.out.now) (log played.new.out) (log c.settle_blank-status.new.out) c.settle_blank-status.result
    played.result.0 played.ensures.all played.ensures.halts c.settle_blank-status.ensures
