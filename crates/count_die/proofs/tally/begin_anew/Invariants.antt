use Rattle.std.proofs.Common.{◌≡◌, ℕ, ◌+◌, ◌<◌, ◌≤◌, length, get_or}
use Rattle.std.specs.Prelude.{◌⊎◌}
use Rattle.count_die.proofs.tally.begin_anew.Given as goal

-- the pages up to this one have begun anew, and all others are as they were
abbrev pub invariant-loop-page : goal.invariant-loop-page
invariant-loop-page l = record {
  long : length l.counts ≡ length l.fn.counts;
  here : (k : ℕ) → l.first ≤ k → k < l.first + l.page → get_or l.counts k 0 ≡ 0;
  others : (k : ℕ) → (k < l.first) ⊎ (l.first + l.page ≤ k) → get_or l.counts k 0 ≡ get_or l.fn.counts k 0;
}
