use Rattle.std.proofs.Common.{◌≡◌, ◌+◌, ◌<◌, ℕ, length, get_or}
use Rattle.spare_die.proofs.opening.first_homes.Given as goal

abbrev pub invariant-loop-block : goal.invariant-loop-block
invariant-loop-block l = record {
  long : length l.homes.items ≡ l.fn.logical;
  done : (block : ℕ) → block < l.block → get_or l.homes.items block 0 ≡ 1 + block;
}
