-- The statuses of the top call, the lines of refusal, and what a call took of its sources and gave to its sinks.
use Rattle.std.specs.Prelude.{◌≡◌, ◌⊎◌, ℕ, ◌++◌, ◌∷◌, List, [], codes, decimal}
use Rattle.rssd_io.specs.Event.{Event, HasEnded, HasFailed, bytes_of, failures, since}
use Rattle.rssd_io.specs.Pieces.{HandsOn, StopsIn}
use Rattle.die_image.specs.declared.error.ImageError.{ImageError}
use Rattle.die_image.specs.declared.error.ImageError.TheVariants as images
use Rattle.rssd_run.specs.declared.status.Status.{Status}
use Rattle.rssd_run.specs.declared.status.Status.TheVariants.{Done, BadWords, BadScript, BadImage, ReadFault, WriteFault, OutOfMemory, Unsound}
use Rattle.rssd_script.specs.declared.error.ScriptError.{ScriptError}
use Rattle.rssd_script.specs.declared.error.ScriptError.TheVariants as errors

-- a source in a call: its log before and afterwards
pub record Input : Type 0 where
  pub before : List Event
  pub after : List Event

-- a sink in a call: its log before and afterwards
pub record Output : Type 0 where
  pub before : List Event
  pub after : List Event

-- the same by their fields in order
abbrev pub input : List Event → List Event → Input
input before after = record { before = before; after = after }

abbrev pub output : List Event → List Event → Output
output before after = record { before = before; after = after }

-- what the call was given and what it left
pub record Call : Type 0 where
  pub words : List (List ℕ)
  pub image : Input
  pub script : Input
  pub out : Output
  pub image_out : Output

-- ---- sources

-- the takes of the call
abbrev pub takes : Input → List Event
takes source = since source.before source.after

-- the bytes that were taken
abbrev pub taken : Input → List ℕ
taken source = bytes_of (takes source)

-- all of the input was taken: no take failed, and the last one found its end
pub record IsTakenWhole (source : Input) : Type 0 where
  pub served : failures (takes source) ≡ 0
  pub ended : HasEnded (takes source)

-- a take failed
abbrev pub ReadFailed : Input → Type 0
ReadFailed source = HasFailed source.before source.after

-- the source was not called
abbrev pub IsUntouched : Input → Type 0
IsUntouched source = source.after ≡ source.before

-- ---- sinks

-- the sink was given these pieces, each by one give, and then what waited was handed on
abbrev pub Took : Output → List (List ℕ) → Type 0
Took sink pieces = HandsOn pieces sink.before sink.after

-- a give of these pieces failed, after those before it and with a front of its own; or handing on what waited failed, after all
abbrev pub TookPart : Output → List (List ℕ) → Type 0
TookPart sink pieces = StopsIn pieces sink.before sink.after

-- the sink was not called
abbrev pub TookNothing : Output → Type 0
TookNothing sink = sink.after ≡ sink.before

-- the sink took the line; or it failed, and the status stays as it is
abbrev pub GaveLine : Output → List ℕ → Type 0
GaveLine sink line = Took sink (line ∷ []) ⊎ TookPart sink (line ∷ [])

-- a call of the sink failed
abbrev pub WriteFailed : Output → Type 0
WriteFailed sink = HasFailed sink.before sink.after

-- ---- the lines of refusal

abbrev pub bad_words : List ℕ
bad_words = codes "bad words\n"

abbrev pub too_long : List ℕ
too_long = codes "script too long\n"

abbrev pub bad_line : ℕ → List ℕ
bad_line k = codes "bad line " ++ decimal k ++ 10 ∷ []

-- the line for an image that is refused; want of memory has none
abbrev pub bad_image : ImageError → List ℕ
bad_image images.OutOfMemory = []
bad_image images.Magic = codes "bad image magic\n"
bad_image images.Version = codes "bad image version\n"
bad_image images.Shape = codes "bad image shape\n"
bad_image images.Short = codes "bad image short\n"
bad_image images.Long = codes "bad image long\n"
bad_image images.PadCells = codes "bad image pad\n"

-- the line for an image each of whose blocks has a live record
abbrev pub no_spare : List ℕ
no_spare = codes "bad image no spare\n"

-- the number of a status
abbrev pub number_of : Status → ℕ
number_of Done = 0
number_of BadWords = 2
number_of BadScript = 3
number_of BadImage = 4
number_of ReadFault = 5
number_of WriteFault = 6
number_of OutOfMemory = 7
number_of Unsound = 8

-- what a refused script is answered, and what it leaves of `out`
abbrev pub RefusesSo : ScriptError → Status → Output → Type 0
RefusesSo (errors.TooLong) status out = (status ≡ BadScript) × GaveLine out too_long
RefusesSo (errors.BadLine k) status out = (status ≡ BadScript) × GaveLine out (bad_line k)
RefusesSo (errors.OutOfMemory) status out = (status ≡ OutOfMemory) × TookNothing out

-- what a refused image is answered, and what it leaves of `out`
abbrev pub RefusesImageSo : ImageError → Status → Output → Type 0
RefusesImageSo images.OutOfMemory status out = (status ≡ OutOfMemory) × TookNothing out
RefusesImageSo why status out = (status ≡ BadImage) × GaveLine out (bad_image why)
