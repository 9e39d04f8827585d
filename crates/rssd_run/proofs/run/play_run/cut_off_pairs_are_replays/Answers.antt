-- Nothing is armed on the pair, so that each step is one of a session.
use Rattle.rssd_run.proofs.PairReplays.{pair_front_replays}
use Rattle.rssd_run.proofs.run.play_run.cut_off_pairs_are_replays.Goals as goal

pub returns : goal.returns
returns c = λ head lines log after even given. pair_front_replays head even lines log after given
