-- Each number so far stands at its own place.
use Rattle.std.proofs.Common.{◌≡◌, ℕ, ◌<◌, length, slice_index}
use Rattle.block_links.proofs.links.identity.Given as goal

abbrev pub invariant-loop-k : goal.invariant-loop-k
invariant-loop-k l = (length l.numbers.items ≡ l.k) × ((i : ℕ) → i < l.k → slice_index l.numbers.items i ≡ i)
