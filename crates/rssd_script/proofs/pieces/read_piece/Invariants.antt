-- What was read so far are whole lines and the beginning of one, and with what is left it is the text.
use Rattle.std.proofs.Common.{◌≡◌, ℕ, ◌+◌, ◌≤◌, List, ◌++◌, length}
use Rattle.rssd_script.specs.Scripts.{Whole}
use Rattle.rssd_script.proofs.pieces.read_piece.Given as goal

abbrev pub invariant-loop-front : goal.invariant-loop-front
invariant-loop-front l = record {
  ok : (text : List ℕ) → Whole text l.fn.lines.items l.fn.rest.items → (so_far : List ℕ) × Whole so_far l.lines.items l.rest.items × (so_far ++ l.left ≡ text ++ l.fn.piece);
  count : length l.lines.items + length l.left ≤ length l.fn.lines.items + length l.fn.piece;
}

abbrev pub decreases-loop-front : goal.decreases-loop-front
decreases-loop-front l = length l.left
