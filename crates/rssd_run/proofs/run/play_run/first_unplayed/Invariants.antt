use Rattle.std.proofs.Common.{ℕ, ◌<◌, slice_index_or}
use Rattle.rssd_script.specs.declared.lines.Line.TheVariants.{Mount}
use Rattle.rssd_run.specs.Played.{IsPlayed}
use Rattle.rssd_run.proofs.run.play_run.first_unplayed.Given as goal

-- the lines before this one are played
abbrev pub invariant-loop-place : goal.invariant-loop-place
invariant-loop-place l = (i : ℕ) → i < l.place → IsPlayed (slice_index_or l.lines i Mount)
