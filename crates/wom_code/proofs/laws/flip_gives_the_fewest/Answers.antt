-- Each part of the test is a part of the record.
use Rattle.wom_code.proofs.FlipLemmas.{is_fewest_to, is_fewest_from}
use Rattle.wom_code.proofs.laws.flip_gives_the_fewest.Goals as goal

pub returns : goal.returns
returns c = λ k old message new. (is_fewest_to k old message new, is_fewest_from k old message new)
