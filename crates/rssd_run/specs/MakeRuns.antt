-- A run of a workload on a blank die that is mounted first, and the two lines that tell of it.
use Rattle.std.specs.Prelude.{◌≡◌, ℕ, List, [], ◌∷◌}
use Rattle.die_image.specs.declared.head.ImageHead.{ImageHead}
use Rattle.die_image.specs.Schemes.{row_of}
use Rattle.rssd_script.specs.declared.lines.Line.{Line}
use Rattle.rssd_script.specs.Replies.{reply_line}
use Rattle.rssd_work.specs.Workload.{workload}
use Rattle.rssd_run.specs.ArrayWithCuts.{On}
use Rattle.rssd_run.specs.View.{View}
use Rattle.rssd_run.specs.Heads.{numbers_named}
use Rattle.rssd_run.specs.Replays.{IsBlankStart}
use Rattle.rssd_run.specs.Shows.{stat_of}
use Rattle.rssd_run.specs.declared.status.Status.{Status}
use Rattle.rssd_run.specs.declared.status.Status.TheVariants.{Done, WriteFault, OutOfMemory}
use Rattle.rssd_run.specs.Statuses.{Output, Took, TookPart, TookNothing}
use Rattle.rssd_run.specs.Workloads.{RunsLines, held_count, byte_sum, held_line}

-- the lines of a seed's workload for a head's device
abbrev pub lines_made : ImageHead → ℕ → ℕ → List Line
lines_made head seed count = workload seed count head.sectors (row_of head.scheme).sector_bytes

-- a run of the workload's lines from a blank die that was mounted, and the sectors that the array has after it
pub record Makes (head : ImageHead) (seed count : ℕ) : Type 0 where
  pub before : View
  pub start : IsBlankStart head before
  pub after : View
  pub run : RunsLines (numbers_named head) before (lines_made head seed count) after
  pub rows : List (List ℕ)
  pub on : after.array ≡ On rows

-- the reply to `stat` after it, and then what the sectors hold
abbrev pub told_of : {head : ImageHead} {seed count : ℕ} → Makes head seed count → List (List ℕ)
told_of made = reply_line (stat_of made.after) ∷ held_line (held_count made.rows) (byte_sum made.rows) ∷ []

-- P holds of the two lines of such a run
abbrev pub TellsMade : ImageHead → ℕ → ℕ → (List (List ℕ) → Type 0) → Type 0
TellsMade head seed count P = (made : Makes head seed count) × P (told_of made)

-- what each status says of a make
abbrev pub SaysMake : ImageHead → ℕ → ℕ → Output → Status → Type 0
SaysMake head seed count out Done = TellsMade head seed count (Took out)
SaysMake head seed count out WriteFault = TellsMade head seed count (TookPart out)
SaysMake head seed count out OutOfMemory = TookNothing out
SaysMake head seed count out status = ⊥
