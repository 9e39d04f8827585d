-- What a call of the laboratory leaves, by its status.
use Rattle.std.specs.Prelude.{◌≡◌, ◌⊎◌, ℕ, Bool, true, false, List, Option, None, Some, Result, Ok, Err}
use Rattle.mem_die.specs.declared.mem.MemDie.{MemDie}
use Rattle.mem_die.specs.MemState.{mem_state}
use Rattle.die_image.specs.declared.error.ImageError.TheVariants as errors
use Rattle.die_image.specs.declared.head.ImageHead.{ImageHead}
use Rattle.rssd_io.specs.Event.{Event}
use Rattle.rssd_io.specs.Pieces.{HandsOn, StopsIn}
use Rattle.lab_lines.specs.declared.lines.LinesEnd.{LinesEnd}
use Rattle.lab_lines.specs.declared.lines.LinesEnd.TheVariants as ends
use Rattle.lab_words.specs.declared.asked.Asked.{Asked}
use Rattle.lab_words.specs.declared.asked.Voice.{Voice}
use Rattle.lab_words.specs.declared.asked.Voice.TheVariants.{Loud}
use Rattle.rssd_lab.specs.declared.telling.Telling.{Telling}
use Rattle.rssd_lab.specs.declared.status.Status.{Status}
use Rattle.rssd_lab.specs.declared.status.Status.TheVariants.{Done, BadWords, BadLine, BadImage, ReadFault, WriteFault, OutOfMemory}
use Rattle.rssd_run.specs.declared.run.image.ImageReadError.{ImageReadError}
use Rattle.rssd_run.specs.declared.run.image.ImageReadError.TheVariants as images
use Rattle.rssd_run.specs.GiveImage.{image_pieces}
use Rattle.rssd_run.specs.ImageRuns.{HasCells}
use Rattle.rssd_run.specs.Statuses.{GaveLine, output, bad_image, bad_line, no_spare}
use Rattle.rssd_lab.specs.declared.status.Halt.{Halt}
use Rattle.rssd_lab.specs.declared.status.Halt.TheVariants as halts
use Rattle.rssd_lab.specs.declared.status.Stop.{Stop}
use Rattle.rssd_lab.specs.declared.status.Stop.TheVariants as stops

-- the number of a status
abbrev pub number_of : Status → ℕ
number_of Done = 0
number_of BadWords = 2
number_of BadLine = 3
number_of BadImage = 4
number_of ReadFault = 5
number_of WriteFault = 6
number_of OutOfMemory = 7

-- the line was given and handed on, or the sink failed; the status stays as it is
abbrev pub GivesLine : List ℕ → List Event → List Event → Type 0
GivesLine line log log_after = GaveLine (output log log_after) line

-- the replies are told where the voice is loud
abbrev pub is_loud : Voice → Bool
is_loud Loud = true
is_loud _ = false

-- so much is told of a run
pub record IsTold (asked : Asked) (telling : Telling) : Type 0 where
  pub replies : telling.replies ≡ is_loud asked.voice
  pub every : telling.every ≡ asked.every

-- how a run that stopped ends
abbrev pub SaysEnd : LinesEnd → Status → List Event → List Event → Type 0
SaysEnd (ends.OutOfMemory) status log log_after = (status ≡ OutOfMemory) × (log_after ≡ log)
SaysEnd (ends.Fault) status log log_after = (status ≡ ReadFault) × (log_after ≡ log)
SaysEnd (ends.BadLine number) status log log_after = (status ≡ BadLine) × GivesLine (bad_line number) log log_after

abbrev pub SaysStopped : Stop → Status → List Event → List Event → Type 0
SaysStopped (stops.Lines why) status log log_after = SaysEnd why status log log_after
SaysStopped (stops.NotPlayed number) status log log_after = (status ≡ BadLine) × GivesLine (bad_line number) log log_after
SaysStopped (stops.Sink) status log log_after = (status ≡ WriteFault) × (log_after ≡ log)
SaysStopped (stops.OutOfMemory) status log log_after = (status ≡ OutOfMemory) × (log_after ≡ log)

-- ---- the image

-- how a call ends whose image was not read
abbrev pub SaysUnread : ImageReadError → Status → List Event → List Event → Type 0
SaysUnread images.Fault status log log_after = (status ≡ ReadFault) × (log_after ≡ log)
SaysUnread (images.Refused errors.OutOfMemory) status log log_after = (status ≡ OutOfMemory) × (log_after ≡ log)
SaysUnread (images.Refused why) status log log_after = (status ≡ BadImage) × GivesLine (bad_image why) log log_after

-- how a call ends whose lines were not all played and told
abbrev pub SaysHalted : Halt → Status → List Event → List Event → Type 0
SaysHalted halts.NoSpare status log log_after = (status ≡ BadImage) × GivesLine no_spare log log_after
SaysHalted (halts.Ended how) status log log_after = (status ≡ how) × (log_after ≡ log)

-- how a call ends behind all lines: the image of the die that came back, if one did, was given and handed on, or the sink failed
abbrev pub SaysLeft : ImageHead → Option MemDie → Status → List Event → List Event → Type 0
SaysLeft head None status log log_after = (status ≡ Done) × (log_after ≡ log)
SaysLeft head (Some die) status log log_after = (left : List ℕ) × HasCells left (mem_state die)
    × (((status ≡ Done) × HandsOn (image_pieces head left) log log_after) ⊎ ((status ≡ WriteFault) × StopsIn (image_pieces head left) log log_after))

-- the same for lines that were played on a blank die, or on that of an image
abbrev pub SettlesBlank : Result (Option MemDie) Halt → Status → List Event → List Event → Type 0
SettlesBlank (Ok left) status log log_after = (status ≡ Done) × (log_after ≡ log)
SettlesBlank (Err halt) status log log_after = SaysHalted halt status log log_after

abbrev pub Settles : ImageHead → Result (Option MemDie) Halt → Status → List Event → List Event → List Event → List Event → Type 0
Settles head (Ok left) status log log_after image image_after = (log_after ≡ log) × SaysLeft head left status image image_after
Settles head (Err halt) status log log_after image image_after = SaysHalted halt status log log_after × (image_after ≡ image)
