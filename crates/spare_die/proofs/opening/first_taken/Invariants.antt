use Rattle.std.proofs.Common.{◌≡◌, ◌≤◌, ◌<◌, ℕ, true, false, length, get_or}
use Rattle.spare_die.proofs.opening.first_taken.Given as goal

abbrev pub invariant-loop-block : goal.invariant-loop-block
invariant-loop-block l = record {
  long : length l.taken.items ≡ l.fn.blocks;
  done : (block : ℕ) → block < l.block → get_or l.taken.items block true ≡ true;
  rest : (block : ℕ) → l.block ≤ block → block < l.fn.blocks → get_or l.taken.items block true ≡ false;
}
