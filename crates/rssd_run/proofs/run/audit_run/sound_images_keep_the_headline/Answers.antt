-- The die of the run is made of sound cells, which stand for the sectors that are told.
use Rattle.std.proofs.Common.{inl, ap, sym, ◌∙◌}
use Rattle.rssd_run.specs.ArrayWithCuts.{On}
use Rattle.rssd_run.specs.DieRuns.{RunsTo}
use Rattle.rssd_run.specs.Heads.{numbers_named}
use Rattle.rssd_run.specs.Run.{CalmFor}
use Rattle.rssd_run.proofs.AuditLaws.{die_sound, die_told}
use Rattle.rssd_run.proofs.Headline.{runs_keep_headline}
use Rattle.rssd_run.proofs.run.audit_run.sound_images_keep_the_headline.Goals as goal

pub returns : goal.returns
returns c = record {
  sectors = λ head cells told last lines log after audit given. given.runs.start.rows ∙ ap On (sym (die_told head cells told audit given.die given.made));
  headline = λ head cells told last lines log after audit given.
      let calm : CalmFor (numbers_named head) given.die lines = inl (die_sound head cells told audit given.die given.made) in
      let to : RunsTo (numbers_named head) given.runs.before lines log after last = given.runs.run calm in
      (calm, runs_keep_headline (numbers_named head) given.runs.before to.run.events to.after to.run.run);
}
