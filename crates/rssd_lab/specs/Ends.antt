-- What the top call leaves, by the status that it answers, over the logs of its sources and its sinks.
use Rattle.std.specs.Prelude.{◌≡◌, ◌⊎◌, ℕ, ◌-◌, ◌^◌, ◌≤◌, List, [], ◌∷◌, ◌++◌, length, codes, false, Ok}
use Rattle.std.specs.List.{AllByRecursion}
use Rattle.cell_die.specs.Counts.{raised}
use Rattle.cell_die.specs.DieState.{DieState}
use Rattle.die_image.specs.declared.head.ImageHead.{ImageHead}
use Rattle.die_image.specs.Image.{image_read}
use Rattle.die_image.specs.Schemes.{row_of}
use Rattle.rssd_core.specs.DeviceValue.{DeviceValue}
use Rattle.rssd_core.specs.Mount.{Mounts}
use Rattle.rssd_io.specs.Event.{Event, HasEnded}
use Rattle.rssd_script.specs.declared.lines.Line.{Line}
use Rattle.rssd_script.specs.Script.{IsScript}
use Rattle.lab_lines.specs.declared.kind.Kind.{Kind}
use Rattle.lab_lines.specs.declared.lines.LinesEnd.TheVariants as ends
use Rattle.lab_lines.specs.Workload.{DrawPlan, drawn_lines}
use Rattle.lab_stream.specs.Spelled.{EndsOnce, Streamed, StreamedBad, StreamedUpTo}
use Rattle.lab_words.specs.declared.asked.Asked.{Asked}
use Rattle.lab_words.specs.declared.asked.AskedDie.{AskedDie}
use Rattle.lab_words.specs.declared.asked.DieFrom.{DieFrom}
use Rattle.lab_words.specs.declared.asked.DieFrom.TheVariants.{Blank, Image}
use Rattle.lab_words.specs.declared.asked.LinesFrom.{LinesFrom}
use Rattle.lab_words.specs.declared.asked.LinesFrom.TheVariants.{Stream, Drawn}
use Rattle.lab_words.specs.Orders.{words_of, IsWithin}
use Rattle.rssd_run.specs.Played.{IsPlayed}
use Rattle.rssd_run.specs.GiveImage.{image_pieces}
use Rattle.rssd_run.specs.Heads.{numbers_named}
use Rattle.rssd_run.specs.ImageRuns.{HasCells, IsFull}
use Rattle.rssd_run.specs.ReadImage.{TakesImage}
use Rattle.rssd_run.specs.Statuses.{Input, Output, takes, taken, ReadFailed, IsUntouched, Took, TookPart, TookNothing, GaveLine, WriteFailed, bad_line}
use Rattle.rssd_run.specs.Top.{IsNoImage, IsFullImage}
use Rattle.rssd_lab.specs.declared.telling.Telling.{Telling}
use Rattle.rssd_lab.specs.declared.status.Status.{Status}
use Rattle.rssd_lab.specs.declared.status.Status.TheVariants.{Done, BadWords, BadLine, BadImage, ReadFault, WriteFault, OutOfMemory}
use Rattle.rssd_lab.specs.declared.status.Stop.TheVariants as stops
use Rattle.rssd_lab.specs.Top.{IsTold}
use Rattle.rssd_lab.specs.declared.stage.Stage.{Stage}
use Rattle.rssd_lab.specs.declared.status.Halt.{Halt}
use Rattle.rssd_lab.specs.declared.status.Halt.TheVariants.{NoSpare, Ended}
use Rattle.rssd_lab.specs.Dies.{IsBlankDevice, IsReadyOf}
use Rattle.rssd_lab.specs.Stages.{AnyDie, StartOn, FullOn, head_on}
use Rattle.rssd_lab.specs.Listed.{PlaysList, StopsList}

-- what the call was given and what it left
pub record Call : Type 0 where
  pub words : List (List ℕ)
  pub input : Input
  pub image : Input
  pub out : Output
  pub image_out : Output

-- the words spell this order, whose numbers are within its limits
pub record Spells (words : List (List ℕ)) (asked : Asked) : Type 0 where
  pub within : IsWithin asked
  pub spelled : words ≡ words_of asked

-- ---- `play`

-- these lines came of the input, in order, and no take failed
abbrev pub Came : Input → List Line → Type 0
Came input lines = (ahead : List ℕ) × Streamed input.before input.after lines ahead

-- they are all lines of the input, which is at its end; or as many came as a count of 64 bits has
pub record AllCame (input : Input) (lines : List Line) : Type 0 where
  pub ahead : List ℕ
  pub streamed : Streamed input.before input.after lines ahead
  pub all : ((ahead ≡ []) × HasEnded input.after) ⊎ (length lines ≡ 2 ^ 64 - 1)

-- all lines of the input were played and told, and such a die was left
pub record PlaysInput (telling : Telling) (Start : DeviceValue → Type 0) (End : DieState → Type 0) (input : Input) (out : Output) : Type 0 where
  pub lines : List Line
  pub came : AllCame input lines
  pub plays : PlaysList telling Start End lines out.before out.after

-- the line of this number is outside the grammar; those before it were played and told, and then `out` took the line that says so
pub record IsOutside (telling : Telling) (Start : DeviceValue → Type 0) (input : Input) (out : Output) : Type 0 where
  pub lines : List Line
  pub number : ℕ
  pub bad : StreamedBad input.before input.after lines number
  pub between : List Event
  pub plays : StopsList telling Start (stops.Lines (ends.BadLine number)) lines out.before between
  pub line : GaveLine (record { before = between; after = out.after }) (bad_line number)

-- the line of this number is in the grammar, and no device plays it; those before it were played and told, and then `out` took the
-- line that says so
pub record IsUnplayed (telling : Telling) (Start : DeviceValue → Type 0) (input : Input) (out : Output) : Type 0 where
  pub lines : List Line
  pub last : Line
  pub came : Came input (lines ++ last ∷ [])
  pub unplayed : ¬ IsPlayed last
  pub number : ℕ
  pub number_is : number ≡ raised (length lines)
  pub between : List Event
  pub plays : StopsList telling Start (stops.NotPlayed number) (lines ++ last ∷ []) out.before between
  pub line : GaveLine (record { before = between; after = out.after }) (bad_line number)

-- the lines that came before a take failed were played and told
pub record IsCutOff (telling : Telling) (Start : DeviceValue → Type 0) (input : Input) (out : Output) : Type 0 where
  pub lines : List Line
  pub came : StreamedUpTo input.before input.after lines
  pub plays : StopsList telling Start (stops.Lines ends.Fault) lines out.before out.after

-- there was no memory for a line; those before it were played and told
pub record IsShortOfMemory (telling : Telling) (Start : DeviceValue → Type 0) (input : Input) (out : Output) : Type 0 where
  pub lines : List Line
  pub came : Came input lines
  pub plays : StopsList telling Start (stops.Lines ends.OutOfMemory) lines out.before out.after

-- a call of `out` failed; the lines that came before were played, and told but for what failed
pub record IsUntold (telling : Telling) (Start : DeviceValue → Type 0) (input : Input) (out : Output) : Type 0 where
  pub lines : List Line
  pub came : Came input lines
  pub plays : StopsList telling Start stops.Sink lines out.before out.after
  pub failed : WriteFailed out

-- what each status but 0 says of the lines of the input
abbrev pub StopsInput : Telling → (DeviceValue → Type 0) → Input → Output → Status → Type 0
StopsInput telling Start input out BadLine = IsOutside telling Start input out ⊎ IsUnplayed telling Start input out
StopsInput telling Start input out ReadFault = IsCutOff telling Start input out
StopsInput telling Start input out WriteFault = IsUntold telling Start input out
StopsInput telling Start input out OutOfMemory = (IsUntouched input × TookNothing out) ⊎ IsShortOfMemory telling Start input out
StopsInput telling Start input out status = ⊥

-- ---- `draw`

-- what lines are drawn for: the sectors of the head's device
abbrev pub plan_for : ImageHead → Kind → ℕ → DrawPlan
plan_for head kind idle = record { kind = kind; sectors = head.sectors; sector_bytes = (row_of head.scheme).sector_bytes; idle = idle }

-- there was no memory for a line; the first lines of the workload were played and told
pub record IsShortOfDrawn (telling : Telling) (Start : DeviceValue → Type 0) (plan : DrawPlan) (seed count : ℕ) (out : Output) : Type 0 where
  pub k : ℕ
  pub before : k ≤ count
  pub plays : StopsList telling Start (stops.Lines ends.OutOfMemory) (drawn_lines plan k seed) out.before out.after

-- a call of `out` failed; the first lines of the workload were played, and told but for what failed
pub record IsUntoldDrawn (telling : Telling) (Start : DeviceValue → Type 0) (plan : DrawPlan) (seed count : ℕ) (out : Output) : Type 0 where
  pub k : ℕ
  pub before : k ≤ count
  pub plays : StopsList telling Start stops.Sink (drawn_lines plan k seed) out.before out.after
  pub failed : WriteFailed out

-- so many lines of the workload of a seed, and no others, were played and told
abbrev pub PlaysDrawn : Telling → (DeviceValue → Type 0) → (DieState → Type 0) → DrawPlan → ℕ → ℕ → Output → Type 0
PlaysDrawn telling Start End plan seed count out = PlaysList telling Start End (drawn_lines plan count seed) out.before out.after

-- what each status but 0 says of so many lines of the workload of a seed; each of them is played
abbrev pub StopsDrawn : Telling → (DeviceValue → Type 0) → DrawPlan → ℕ → ℕ → Output → Status → Type 0
StopsDrawn telling Start plan seed count out WriteFault = IsUntoldDrawn telling Start plan seed count out
StopsDrawn telling Start plan seed count out OutOfMemory = TookNothing out ⊎ IsShortOfDrawn telling Start plan seed count out
StopsDrawn telling Start plan seed count out status = ⊥

-- ---- lines of either source

-- all lines were played and told, by where they come from; where they are drawn the input was not called
abbrev pub PlaysAllOf : LinesFrom → Telling → ImageHead → (DeviceValue → Type 0) → (DieState → Type 0) → Input → Output → Type 0
PlaysAllOf Stream telling head Start End input out = PlaysInput telling Start End input out
PlaysAllOf (Drawn kind seed count idle) telling head Start End input out =
    PlaysDrawn telling Start End (plan_for head kind idle) seed count out × IsUntouched input

-- what each status but 0 says of them
abbrev pub StopsOf : LinesFrom → Telling → ImageHead → (DeviceValue → Type 0) → Input → Output → Status → Type 0
StopsOf Stream telling head Start input out status = StopsInput telling Start input out status
StopsOf (Drawn kind seed count idle) telling head Start input out status = StopsDrawn telling Start (plan_for head kind idle) seed count out status × IsUntouched input

-- why lines on such a die were not all played and told
abbrev pub HaltsInput : Telling → Stage → Input → Output → Halt → Type 0
HaltsInput telling stage input out NoSpare = FullOn stage × IsUntouched input × TookNothing out
HaltsInput telling stage input out (Ended status) = StopsInput telling (StartOn stage) input out status

abbrev pub HaltsDrawn : Telling → Stage → DrawPlan → ℕ → ℕ → Output → Halt → Type 0
HaltsDrawn telling stage plan seed count out NoSpare = FullOn stage × TookNothing out
HaltsDrawn telling stage plan seed count out (Ended status) = StopsDrawn telling (StartOn stage) plan seed count out status

abbrev pub HaltsOf : LinesFrom → Telling → Stage → Input → Output → Halt → Type 0
HaltsOf from telling stage input out NoSpare = FullOn stage × IsUntouched input × TookNothing out
HaltsOf from telling stage input out (Ended status) = StopsOf from telling (head_on stage) (StartOn stage) input out status

-- what a status says of lines on a blank die
abbrev pub SaysOnBlank : LinesFrom → Telling → AskedDie → Input → Output → Status → Type 0
SaysOnBlank from telling die input out Done = PlaysAllOf from telling die.head (IsBlankDevice die) AnyDie input out
SaysOnBlank from telling die input out status = StopsOf from telling die.head (IsBlankDevice die) input out status

-- ---- the die of an image

-- all of the image was taken, and all lines were played on its die and told, which left a die of these cells
pub record PlaysOnImage (from : LinesFrom) (telling : Telling) (image input : Input) (out : Output) (left : List ℕ) : Type 0 where
  pub head : ImageHead
  pub die : DieState
  pub ready : IsReadyOf image.before image.after head die
  pub plays : PlaysAllOf from telling head (Mounts (numbers_named head) die) (HasCells left) input out

-- then `image_out` took the image of those cells and handed it on; or it failed
abbrev pub IsImageKept : LinesFrom → Telling → Input → Input → Output → Output → Type 0
IsImageKept from telling image input out image_out =
    (left : List ℕ) × (plays : PlaysOnImage from telling image input out left) × Took image_out (image_pieces plays.head left)

abbrev pub IsImageLost : LinesFrom → Telling → Input → Input → Output → Output → Type 0
IsImageLost from telling image input out image_out =
    (left : List ℕ) × (plays : PlaysOnImage from telling image input out left) × TookPart image_out (image_pieces plays.head left)

-- all of the image was taken, and the lines on its die ended with this status
pub record StopsOnImage (from : LinesFrom) (telling : Telling) (image input : Input) (out : Output) (status : Status) : Type 0 where
  pub head : ImageHead
  pub die : DieState
  pub ready : IsReadyOf image.before image.after head die
  pub stops : StopsOf from telling head (Mounts (numbers_named head) die) input out status

-- what a status says of lines on the die of an image, where `image_out` took nothing
abbrev pub HaltsOnImage : LinesFrom → Telling → Input → Input → Output → Status → Type 0
HaltsOnImage from telling image input out BadImage = (IsNoImage false image out ⊎ IsFullImage image out) × IsUntouched input
HaltsOnImage from telling image input out ReadFault = StopsOnImage from telling image input out ReadFault ⊎ (ReadFailed image × IsUntouched input × TookNothing out)
HaltsOnImage from telling image input out OutOfMemory = StopsOnImage from telling image input out OutOfMemory ⊎ (IsUntouched input × TookNothing out)
HaltsOnImage from telling image input out status = StopsOnImage from telling image input out status

-- what it says in all
abbrev pub SaysOnImage : LinesFrom → Telling → Input → Input → Output → Output → Status → Type 0
SaysOnImage from telling image input out image_out Done = IsImageKept from telling image input out image_out
SaysOnImage from telling image input out image_out WriteFault =
    IsImageLost from telling image input out image_out ⊎ (HaltsOnImage from telling image input out WriteFault × TookNothing image_out)
SaysOnImage from telling image input out image_out status = HaltsOnImage from telling image input out status × TookNothing image_out

-- ---- all orders

-- what a status says, by the die; where that is blank no image was read and none given
abbrev pub SaysOn : DieFrom → LinesFrom → Telling → Call → Status → Type 0
SaysOn (Blank die) from telling call status = SaysOnBlank from telling die call.input call.out status × IsUntouched call.image × TookNothing call.image_out
SaysOn Image from telling call status = SaysOnImage from telling call.image call.input call.out call.image_out status × TakesImage false call.image.before call.image.after

-- what a status says where the words spell this order
pub record SaysOf (asked : Asked) (call : Call) (status : Status) : Type 0 where
  pub telling : Telling
  pub told : IsTold asked telling
  pub says : SaysOn asked.die asked.from telling call status

-- what was taken of the input is a script, behind whose end no byte came, and each line of it is played
pub record HasPlayed (input : Input) : Type 0 where
  pub lines : List Line
  pub once : EndsOnce (takes input)
  pub script : IsScript (taken input) lines
  pub played : AllByRecursion IsPlayed lines

-- all lines of an order can be played
abbrev pub ArePlayed : LinesFrom → Input → Type 0
ArePlayed Stream input = HasPlayed input
ArePlayed (Drawn kind seed count idle) input = Unit {0}

-- what was taken of the image is one, no call of it or of `image_out` failed, and a block of its die has no live record
pub record HoldsImage (call : Call) : Type 0 where
  pub head : ImageHead
  pub cells : List ℕ
  pub reads : image_read false (taken call.image) ≡ Ok (head, cells)
  pub spare : IsFull head cells → ⊥
  pub read : ReadFailed call.image → ⊥
  pub given : WriteFailed call.image_out → ⊥

-- there is a die
abbrev pub IsThere : DieFrom → Call → Type 0
IsThere (Blank die) call = Unit {0}
IsThere Image call = HoldsImage call

-- then the status is 0, or 7, where no call of the input or of `out` failed
abbrev pub IsComplete : Asked → Call → Status → Type 0
IsComplete asked call status = ArePlayed asked.from call.input → IsThere asked.die call → (ReadFailed call.input → ⊥) → (WriteFailed call.out → ⊥)
    → (status ≡ Done) ⊎ (status ≡ OutOfMemory)

-- no source was called and no image given, and `out` took the line for words that are no order
pub record AreBad (call : Call) (status : Status) : Type 0 where
  pub status_is : status ≡ BadWords
  pub unread : IsUntouched call.input
  pub no_image : IsUntouched call.image
  pub none_given : TookNothing call.image_out
  pub line : GaveLine call.out (codes "bad words\n")

-- What the call answers: by the order that the words spell; or that they spell none.
pub record Says (call : Call) (status : Status) : Type 0 where
  pub order : (asked : Asked) → Spells call.words asked → SaysOf asked call status × IsComplete asked call status
  pub none : ((asked : Asked) → Spells call.words asked → ⊥) → AreBad call status
