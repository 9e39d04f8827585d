-- Each step says so.
use Rattle.rssd_run.proofs.PlayLaws.{plays_keep_headline}
use Rattle.rssd_run.proofs.run.playing.plays_keep_the_headline.Goals as goal

pub returns : goal.returns
returns c = plays_keep_headline
