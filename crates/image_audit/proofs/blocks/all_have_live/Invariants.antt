use Rattle.std.proofs.Common.{◌≡◌, ℕ, ◌<◌, false, length, take, get_or}
use Rattle.image_audit.specs.Said.{is_taken}
use Rattle.image_audit.proofs.blocks.all_have_live.Given as goal

abbrev pub invariant-loop-mark : goal.invariant-loop-mark
invariant-loop-mark l = record {
  long : length l.has_live.items ≡ l.geometry.blocks;
  taken : (block : ℕ) → block < l.geometry.blocks → get_or l.has_live.items block false ≡ is_taken l.geometry (take l.mark-index l.live) block;
}
