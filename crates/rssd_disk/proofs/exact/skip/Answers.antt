-- Each piece is passed over behind the others.
use Rattle.std.proofs.Common.{◌≡◌, ◌∙◌, length, arith}
use Rattle.std.proofs.lemmas.List.{length-take}
use Rattle.rssd_disk.proofs.Streams.{skips_more}
use Rattle.rssd_disk.proofs.exact.skip.Goals as goal

pub loop-left-preserved : goal.loop-left-preserved
loop-left-preserved g c =
    let long : length c.take_all.new.into ≡ c.min-piece.result = c.take_all.auto.into ∙ length-take c.min-piece.result c.loop-left.room ∙ omega (arith, c.min-piece.ensures) in
    record {
      within = omega (arith, c.loop-left.invariant.within);
      skips = skips_more c.args.count c.loop-left.left c.min-piece.result (g.I.Source.log c.args.from.now) (g.I.Source.log c.loop-left.from) (g.I.Source.log c.take_all.new.from) c.take_all.new.into
          (omega (arith, c.min-piece.ensures)) c.loop-left.invariant.within long c.loop-left.invariant.skips c.in_ok-take_all.ensures.taken;
    }
