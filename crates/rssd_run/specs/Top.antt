-- What the top call does for each command, by the status that it answers, over the logs of its sources and sinks.
use Rattle.std.specs.Prelude.{◌≡◌, ◌≢◌, ◌⊎◌, ◌<◌, ◌≤◌, ◌++◌, ◌∷◌, ℕ, Bool, true, false, List, [], All, replicate, length, Ok}
use Rattle.cell_die.specs.DieState.{DieState}
use Rattle.page_codec.specs.Sound.{live_count}
use Rattle.mem_die.specs.MemState.{IsMade}
use Rattle.die_image.specs.declared.error.ImageError.{ImageError}
use Rattle.die_image.specs.declared.error.ImageError.TheVariants as images
use Rattle.die_image.specs.declared.head.ImageHead.{ImageHead}
use Rattle.die_image.specs.Image.{shape_of, die_bytes, image_read}
use Rattle.image_audit.specs.declared.verdict.Verdict.TheVariants.{Sound}
use Rattle.rssd_words.specs.declared.command.Command.{Command}
use Rattle.rssd_words.specs.declared.command.Command.TheVariants.{Replay, Run, Format, Upgrade, Make, Audit, Worn, Pair, Queue}
use Rattle.rssd_words.specs.Commands.{words_of, IsWithin}
use Rattle.rssd_io.specs.Event.{Event, flushed, failed}
use Rattle.rssd_script.specs.declared.lines.Line.{Line}
use Rattle.rssd_script.specs.Script.{FirstBadLine}
use Rattle.rssd_script.specs.Scripts.{Reads, most_bytes}
use Rattle.rssd_run.specs.declared.status.Status.{Status}
use Rattle.rssd_run.specs.declared.status.Status.TheVariants.{Done, BadWords, BadScript, BadImage, ReadFault, WriteFault, OutOfMemory, Unsound}
use Rattle.rssd_run.specs.Statuses.{Call, Input, Output, takes, taken, IsTakenWhole, ReadFailed, IsUntouched, Took, TookPart, TookNothing, GaveLine, WriteFailed, bad_words, too_long, bad_line}
use Rattle.rssd_run.specs.Statuses.{bad_image, no_spare}
use Rattle.rssd_run.specs.ReadScript.{ReadsAll, TakesScript}
use Rattle.rssd_run.specs.ReadImage.{ReadsImage, TakesImage, IsNoImageFor}
use Rattle.rssd_run.specs.GiveImage.{image_pieces}
use Rattle.rssd_run.specs.Heads.{numbers_named}
use Rattle.rssd_run.specs.Replays.{Replays, ReplaysFront}
use Rattle.rssd_run.specs.MakeRuns.{SaysMake}
use Rattle.rssd_run.specs.AuditRuns.{IsAuditOf, IsAudited, IsAuditCutOff, IsUnsound}
use Rattle.rssd_core.specs.DeviceValue.{Numbers}
use Rattle.rssd_run.specs.View.{View, Event as Step}
use Rattle.rssd_run.specs.Played.{IsPlayed}
use Rattle.rssd_run.specs.PlayRuns.{FirstUnplayed, EndsPlay, IsWornStart, IsWornStep, IsPairStart, NeverStops}
use Rattle.rssd_run.specs.QueueRuns.{Queues, QueuesFront}
use Rattle.rssd_run.specs.ImageRuns.{HasCells, RunsImage, RunsImageFront, IsFull}

-- the words spell this command, whose numbers are within its limits
pub record Spells (words : List (List ℕ)) (command : Command) : Type 0 where
  pub within : IsWithin command
  pub spelled : words ≡ words_of command

-- ---- the script

-- all of the script was taken, and it is a script of these lines
abbrev pub HasLines : Input → List Line → Type 0
HasLines script lines = ReadsAll script.before script.after lines

-- what was taken is too long, or is all of the script and has a first bad line, and `out` took the line that says so
abbrev pub IsRefused : Input → Output → Type 0
IsRefused script out = ((most_bytes < length (taken script)) × GaveLine out too_long)
    ⊎ ((k : ℕ) × (length (taken script) ≤ most_bytes) × FirstBadLine (taken script) k × IsTakenWhole script × GaveLine out (bad_line k))

-- ---- `replay`

-- `out` took the text of each reply in one piece, and then handed them on
pub record IsReplayed (head : ImageHead) (script : Input) (out : Output) : Type 0 where
  pub lines : List Line
  pub is_script : HasLines script lines
  pub given : List Event
  pub replays : Replays head lines out.before given
  pub handed_on : out.after ≡ given ++ flushed ∷ []

-- `out` failed: at the piece of some reply, after those before it; or at handing on, after all
abbrev pub StopsReplay : ImageHead → List Line → Output → Type 0
StopsReplay head lines out = ReplaysFront head lines out.before out.after
    ⊎ ((given : List Event) × Replays head lines out.before given × (out.after ≡ given ++ failed ∷ []))

pub record IsReplayCutOff (head : ImageHead) (script : Input) (out : Output) : Type 0 where
  pub lines : List Line
  pub is_script : HasLines script lines
  pub stops : StopsReplay head lines out

-- what each status says of a replay
abbrev pub SaysReplay : ImageHead → Input → Output → Status → Type 0
SaysReplay head script out Done = IsReplayed head script out
SaysReplay head script out BadScript = IsRefused script out
SaysReplay head script out ReadFault = ReadFailed script × TookNothing out
SaysReplay head script out WriteFault = IsReplayCutOff head script out
SaysReplay head script out OutOfMemory = TookNothing out
SaysReplay head script out status = ⊥

-- ---- `queue`

-- `out` took the text of each reply with its tag in one piece, and then handed them on
pub record IsQueued (head : ImageHead) (script : Input) (out : Output) : Type 0 where
  pub lines : List Line
  pub is_script : HasLines script lines
  pub given : List Event
  pub queues : Queues head lines out.before given
  pub handed_on : out.after ≡ given ++ flushed ∷ []

-- `out` failed: at the piece of some reply, after those before it; or at handing on, after all
abbrev pub StopsQueue : ImageHead → List Line → Output → Type 0
StopsQueue head lines out = QueuesFront head lines out.before out.after
    ⊎ ((given : List Event) × Queues head lines out.before given × (out.after ≡ given ++ failed ∷ []))

pub record IsQueueCutOff (head : ImageHead) (script : Input) (out : Output) : Type 0 where
  pub lines : List Line
  pub is_script : HasLines script lines
  pub stops : StopsQueue head lines out

-- what each status says of a queue run
abbrev pub SaysQueue : ImageHead → Input → Output → Status → Type 0
SaysQueue head script out Done = IsQueued head script out
SaysQueue head script out BadScript = IsRefused script out
SaysQueue head script out ReadFault = ReadFailed script × TookNothing out
SaysQueue head script out WriteFault = IsQueueCutOff head script out
SaysQueue head script out OutOfMemory = TookNothing out
SaysQueue head script out status = ⊥

-- ---- `run`

-- all of the image was taken, and it is the image of this head and these cells
abbrev pub IsImageOf : Bool → Input → ImageHead → List ℕ → Type 0
IsImageOf is_old image head cells = ReadsImage is_old image.before image.after head cells

-- all of the script and of the image was taken: a script of these lines, and the image of this head and these cells
pub record AreGiven (image script : Input) (lines : List Line) (head : ImageHead) (cells : List ℕ) : Type 0 where
  pub is_script : HasLines script lines
  pub is_image : IsImageOf false image head cells

-- the lines were run on a die of the image, and `out` took the text of each reply in one piece
pub record AllRun (image script : Input) (out : Output) (given : List Event) : Type 0 where
  pub lines : List Line
  pub head : ImageHead
  pub cells : List ℕ
  pub are_given : AreGiven image script lines head cells
  pub last : DieState
  pub runs : RunsImage head cells lines out.before given last

-- `out` handed the replies on, and then `image_out` took the image of the cells that are left, and handed it on
pub record IsRun (image script : Input) (out image_out : Output) : Type 0 where
  pub given : List Event
  pub all : AllRun image script out given
  pub handed_on : out.after ≡ given ++ flushed ∷ []
  pub left : List ℕ
  pub last_cells : HasCells left all.last
  pub written : Took image_out (image_pieces all.head left)

-- `out` failed at the piece of some reply, after those before it
pub record StopsRun (image script : Input) (out : Output) : Type 0 where
  pub lines : List Line
  pub head : ImageHead
  pub cells : List ℕ
  pub are_given : AreGiven image script lines head cells
  pub runs : RunsImageFront head cells lines out.before out.after
  pub failed : WriteFailed out

-- `out` failed there, or at handing on what it took
abbrev pub IsRunCutOff : Input → Input → Output → Type 0
IsRunCutOff image script out = StopsRun image script out ⊎ ((given : List Event) × AllRun image script out given × (out.after ≡ given ++ failed ∷ []))

-- `out` handed all replies on, and then `image_out` failed in taking the image
pub record IsImageCutOff (image script : Input) (out image_out : Output) : Type 0 where
  pub given : List Event
  pub all : AllRun image script out given
  pub handed_on : out.after ≡ given ++ flushed ∷ []
  pub left : List ℕ
  pub last_cells : HasCells left all.last
  pub written : TookPart image_out (image_pieces all.head left)

-- what was taken is no image of this version, whatever follows it, and `out` took the line that says why
pub record IsNoImage (is_old : Bool) (image : Input) (out : Output) : Type 0 where
  pub why : ImageError
  pub not_memory : why ≢ images.OutOfMemory
  pub refused : IsNoImageFor is_old (takes image) why
  pub line : GaveLine out (bad_image why)

-- every block of the image's die has a live record, and `out` took the line that says so
pub record IsFullImage (image : Input) (out : Output) : Type 0 where
  pub head : ImageHead
  pub cells : List ℕ
  pub is_image : IsImageOf false image head cells
  pub full : IsFull head cells
  pub line : GaveLine out no_spare

-- all of the script was taken and is one, and the image was refused
pub record IsBadImage (image script : Input) (out : Output) : Type 0 where
  pub lines : List Line
  pub is_script : HasLines script lines
  pub refused : IsNoImage false image out ⊎ IsFullImage image out

-- a take of the script failed and the image was not called; or a take of the image did, after a script that is one
abbrev pub IsUnread : Input → Input → Type 0
IsUnread image script = (ReadFailed script × IsUntouched image) ⊎ (ReadFailed image × ((lines : List Line) × HasLines script lines))

-- what each status says of a run
abbrev pub SaysRun : Input → Input → Output → Output → Status → Type 0
SaysRun image script out image_out Done = IsRun image script out image_out
SaysRun image script out image_out BadScript = IsRefused script out × IsUntouched image × TookNothing image_out
SaysRun image script out image_out BadImage = IsBadImage image script out × TookNothing image_out
SaysRun image script out image_out ReadFault = IsUnread image script × TookNothing out × TookNothing image_out
SaysRun image script out image_out WriteFault = (IsRunCutOff image script out × TookNothing image_out) ⊎ IsImageCutOff image script out image_out
SaysRun image script out image_out OutOfMemory = TookNothing out × TookNothing image_out
SaysRun image script out image_out status = ⊥

-- ---- `format`

-- the image of the head's die with no charged cell, in pieces
abbrev pub blank_image : ImageHead → List (List ℕ)
blank_image head = image_pieces head (replicate (die_bytes head) 0)

-- what each status says of a format
abbrev pub SaysFormat : ImageHead → Output → Status → Type 0
SaysFormat head image_out Done = Took image_out (blank_image head)
SaysFormat head image_out WriteFault = TookPart image_out (blank_image head)
SaysFormat head image_out OutOfMemory = TookNothing image_out
SaysFormat head image_out status = ⊥

-- ---- `upgrade`

-- `image_out` took the image of version 2 of the head and the cells of the old one, and handed it on
pub record IsUpgraded (image : Input) (image_out : Output) : Type 0 where
  pub head : ImageHead
  pub cells : List ℕ
  pub is_image : IsImageOf true image head cells
  pub written : Took image_out (image_pieces head cells)

-- `image_out` failed in taking it
pub record IsUpgradeCutOff (image : Input) (image_out : Output) : Type 0 where
  pub head : ImageHead
  pub cells : List ℕ
  pub is_image : IsImageOf true image head cells
  pub written : TookPart image_out (image_pieces head cells)

-- what each status says of an upgrade
abbrev pub SaysUpgrade : Input → Output → Output → Status → Type 0
SaysUpgrade image out image_out Done = IsUpgraded image image_out × TookNothing out
SaysUpgrade image out image_out BadImage = IsNoImage true image out × TookNothing image_out
SaysUpgrade image out image_out ReadFault = ReadFailed image × TookNothing out × TookNothing image_out
SaysUpgrade image out image_out WriteFault = IsUpgradeCutOff image image_out × TookNothing out
SaysUpgrade image out image_out OutOfMemory = TookNothing out × TookNothing image_out
SaysUpgrade image out image_out status = ⊥

-- ---- `audit`

-- what each status says of an audit
abbrev pub SaysAudit : Input → Output → Status → Type 0
SaysAudit image out Done = IsAudited image out
SaysAudit image out BadImage = IsNoImage false image out
SaysAudit image out ReadFault = ReadFailed image × TookNothing out
SaysAudit image out WriteFault = IsAuditCutOff image out
SaysAudit image out OutOfMemory = TookNothing out
SaysAudit image out Unsound = IsUnsound image out
SaysAudit image out status = ⊥

-- ---- `worn` and `pair`

-- every line is in the grammar, some line is not played, and `out` took the line that says which is the first
pub record HasUnplayed (script : Input) (out : Output) : Type 0 where
  pub lines : List Line
  pub is_script : HasLines script lines
  pub k : ℕ
  pub first : FirstUnplayed lines k
  pub line : GaveLine out (bad_line k)

-- all of the script was taken, each of its lines is played, and the play ended so
pub record PlaysScript (Start : View → Type 0) (P : Step → Type 0) (d : Numbers) (script : Input) (out : Output) (status : Status) : Type 0 where
  pub lines : List Line
  pub is_script : HasLines script lines
  pub played : All IsPlayed lines
  pub ends : EndsPlay Start P d lines out status

-- what each status says of a play
abbrev pub SaysPlay : (View → Type 0) → (Step → Type 0) → Numbers → Input → Output → Status → Type 0
SaysPlay Start P d script out Done = PlaysScript Start P d script out Done
SaysPlay Start P d script out BadScript = IsRefused script out ⊎ HasUnplayed script out
SaysPlay Start P d script out ReadFault = ReadFailed script × TookNothing out
SaysPlay Start P d script out WriteFault = PlaysScript Start P d script out WriteFault
SaysPlay Start P d script out OutOfMemory = TookNothing out
SaysPlay Start P d script out status = ⊥

abbrev pub SaysWorn : ImageHead → ℕ → ℕ → Input → Output → Status → Type 0
SaysWorn head reserve bad script out status = SaysPlay (IsWornStart head reserve bad) (IsWornStep head reserve bad) (numbers_named head) script out status

abbrev pub SaysPair : ImageHead → Input → Output → Status → Type 0
SaysPair head script out status = SaysPlay (IsPairStart head) NeverStops (numbers_named head) script out status

-- ---- all commands

-- `out` took the line for words that are no command
abbrev pub AreBad : Call → Status → Type 0
AreBad call status = (status ≡ BadWords) × GaveLine call.out bad_words

-- what a status says where the words spell this command
abbrev pub SaysOf : Command → Call → Status → Type 0
SaysOf (Replay head) call status = SaysReplay head call.script call.out status × TakesScript call.script.before call.script.after
SaysOf Run call status = SaysRun call.image call.script call.out call.image_out status × TakesScript call.script.before call.script.after × TakesImage false call.image.before call.image.after
SaysOf (Make seed count head) call status = SaysMake head seed count call.out status
SaysOf (Format head) call status = SaysFormat head call.image_out status × TookNothing call.out
SaysOf Upgrade call status = SaysUpgrade call.image call.out call.image_out status × TakesImage true call.image.before call.image.after
SaysOf Audit call status = SaysAudit call.image call.out status × TakesImage false call.image.before call.image.after
SaysOf (Worn head reserve bad) call status = SaysWorn head reserve bad call.script call.out status × TakesScript call.script.before call.script.after
SaysOf (Pair head) call status = SaysPair head call.script call.out status × TakesScript call.script.before call.script.after
SaysOf (Queue head) call status = SaysQueue head call.script call.out status × TakesScript call.script.before call.script.after

-- no source and no sink failed
pub record NoneFailed (call : Call) : Type 0 where
  pub no_image_fault : ReadFailed call.image → ⊥
  pub no_script_fault : ReadFailed call.script → ⊥
  pub no_out_fault : WriteFailed call.out → ⊥
  pub no_image_out_fault : WriteFailed call.image_out → ⊥

-- what was taken of the script is in its grammar
pub record HasScript (call : Call) : Type 0 where
  pub lines : List Line
  pub is_script : Reads (taken call.script) lines

-- what was taken of the script is in its grammar, and each line is played
pub record HasPlayed (call : Call) : Type 0 where
  pub lines : List Line
  pub is_script : Reads (taken call.script) lines
  pub played : All IsPlayed lines

-- what was taken of the image is in its grammar, and some block of its die has no live record
pub record HasImage (call : Call) : Type 0 where
  pub head : ImageHead
  pub cells : List ℕ
  pub is_image : image_read false (taken call.image) ≡ Ok (head, cells)
  pub free : (die : DieState) → IsMade (shape_of head) cells die → (block : ℕ) × (block < head.blocks) × (live_count (numbers_named head).geometry die.cells block ≡ 0)

-- what was taken of the image of version 1 is in its grammar
pub record HasOldImage (call : Call) : Type 0 where
  pub head : ImageHead
  pub cells : List ℕ
  pub is_image : image_read true (taken call.image) ≡ Ok (head, cells)

-- what was taken of the image is in its grammar, and an audit of it finds its cells sound
pub record HasSoundImage (call : Call) : Type 0 where
  pub head : ImageHead
  pub cells : List ℕ
  pub is_image : image_read false (taken call.image) ≡ Ok (head, cells)
  pub told : List (ℕ × List ℕ)
  pub audit : IsAuditOf head cells Sound told

-- all that a command reads is in its grammar
abbrev pub IsAsked : Command → Call → Type 0
IsAsked (Replay head) call = HasScript call
IsAsked Run call = HasScript call × HasImage call
IsAsked (Make seed count head) call = Unit {0}
IsAsked (Format head) call = Unit {0}
IsAsked Upgrade call = HasOldImage call
IsAsked Audit call = HasSoundImage call
IsAsked (Worn head reserve bad) call = HasPlayed call
IsAsked (Pair head) call = HasPlayed call
IsAsked (Queue head) call = HasScript call

-- then the status is 0, or 7
abbrev pub IsComplete : Command → Call → Status → Type 0
IsComplete command call status = IsAsked command call → NoneFailed call → (status ≡ Done) ⊎ (status ≡ OutOfMemory)

-- What the call answers: by the command that the words spell; or that they spell none.
pub record Says (call : Call) (status : Status) : Type 0 where
  pub command : (command : Command) → Spells call.words command → SaysOf command call status × IsComplete command call status
  pub none : ((command : Command) → Spells call.words command → ⊥) → AreBad call status

-- ---- sources that are not read, and sinks that are not written

abbrev pub LeavesScript : Command → Type 0
LeavesScript (Replay head) = ⊥
LeavesScript Run = ⊥
LeavesScript (Worn head reserve bad) = ⊥
LeavesScript (Pair head) = ⊥
LeavesScript (Queue head) = ⊥
LeavesScript command = Unit {0}

abbrev pub LeavesImage : Command → Type 0
LeavesImage Run = ⊥
LeavesImage Upgrade = ⊥
LeavesImage Audit = ⊥
LeavesImage command = Unit {0}

abbrev pub LeavesImageOut : Command → Type 0
LeavesImageOut Run = ⊥
LeavesImageOut (Format head) = ⊥
LeavesImageOut Upgrade = ⊥
LeavesImageOut command = Unit {0}

-- this holds of each command that the words spell
abbrev pub OfSpelled : (Command → Type 0) → List (List ℕ) → Type 0
OfSpelled P words = (command : Command) → Spells words command → P command
