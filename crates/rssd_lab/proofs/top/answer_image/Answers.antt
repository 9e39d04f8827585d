-- How the lines ended, what was told then and what was given make what the status says; or the image was refused.
use Rattle.std.proofs.Common.{refl}
use Rattle.rssd_run.specs.Statuses.{input, output}
use Rattle.rssd_lab.specs.declared.stage.Stage.TheVariants.{Image}
use Rattle.rssd_lab.specs.declared.telling.Telling.{Telling}
use Rattle.rssd_lab.specs.Top.{is_loud}
use Rattle.rssd_lab.proofs.Settled.{image_settles, unread_says}
use Rattle.rssd_lab.proofs.top.answer_image.Goals as goal

pub returns-in-Ok-clause-says : goal.returns-in-Ok-clause-says
returns-in-Ok-clause-says g c =
    let log = g.O.Sink.log in
    let played = c.play_order-played in
    let settle = c.settle-status in
    let image = input (g.M.Source.log c.args.from.image) (g.M.Source.log c.read_ready.new.image) in
    let lines = input (g.I.Source.log c.args.from.lines) (g.I.Source.log played.result.1) in
    let image_out = output (g.G.Sink.log c.args.image_out.now) (g.G.Sink.log settle.new.image_out) in
    image_settles c.args.asked.now (Image c.in-Ok.ready) image c.in-Ok.ensures.ready lines (log c.args.out.now) (log played.new.out) (log settle.new.out) image_out settle.result
    played.result.0 played.ensures.all played.ensures.halts settle.ensures

pub returns-in-Err-clause-says : goal.returns-in-Err-clause-says
returns-in-Err-clause-says g c =
    let asked = c.args.asked.now in
    let image = input (g.M.Source.log c.args.from.image) (g.M.Source.log c.read_ready.new.image) in
    let telling : Telling = record { replies = is_loud asked.voice; every = asked.every; some = c.requires.some } in (
      telling,
      record { replies = refl; every = refl },
      unread_says asked.from telling image (g.I.Source.log c.args.from.lines) (g.O.Sink.log c.args.out.now) (g.O.Sink.log c.unread.new.out)
          (g.G.Sink.log c.args.image_out.now) c.unread.result c.in-Err.why c.in-Err.ensures.refused c.unread.ensures,
    )
