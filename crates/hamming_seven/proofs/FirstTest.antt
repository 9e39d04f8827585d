-- The test of the cells that come first against the relation.
use Rattle.std.proofs.Common.{◌≡◌, Bool, true, List}
use Rattle.rivest_shamir.proofs.GivenTests.{each_to, each_from}
use Rattle.hamming_seven.specs.Words.{message_of, added_from, comes_before, IsFirst, is_first}

pub first_to : (old message new : List Bool) → is_first old message new ≡ true → IsFirst old message new
unfolding is_first
first_to old message new t = each_to message_of (λ cells. comes_before (added_from 0 old new) (added_from 0 old cells)) old message new 7 t

pub first_from : (old message new : List Bool) → IsFirst old message new → is_first old message new ≡ true
unfolding is_first
first_from old message new first = each_from message_of (λ cells. comes_before (added_from 0 old new) (added_from 0 old cells)) old message new 7 first
