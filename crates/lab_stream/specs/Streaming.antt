-- What a stream of lines is to those that read it.
use Rattle.std.specs.Prelude.{◌≡◌, ◌⊎◌, ℕ, ◌<◌, Bool, true, false, List, [], ◌∷◌, ◌++◌, ◌≤◌, length, take, slice_range}
use Rattle.rssd_io.specs.Faults.{raised}
use Rattle.rssd_io.specs.Event.{Event, HasFailed, HasEnded, moved, bytes_of, failures}
use Rattle.rssd_script.specs.declared.lines.Line.{Line}
use Rattle.rssd_script.specs.Reading.{Lacks}
use Rattle.rssd_script.specs.Scripts.{Reads}
use Rattle.lab_lines.specs.declared.lines.LinesEnd.{LinesEnd}
use Rattle.lab_lines.specs.declared.lines.LinesEnd.TheVariants.{OutOfMemory, Fault, BadLine}
use Rattle.lab_stream.specs.declared.stream.Stream.{Stream}
use Rattle.lab_stream.specs.Texts.{IsEnded, IsText, ReadsNone}

-- the bytes that were taken and not read yet
abbrev pub ahead_of : {S : Type 0} → Stream S → List ℕ
ahead_of stream = slice_range stream.piece.items stream.at stream.end

-- how many lines came
abbrev pub lines_of : {S : Type 0} → Stream S → ℕ
lines_of stream = stream.lines

abbrev pub source_of : {S : Type 0} → Stream S → S
source_of stream = stream.source

-- ---- within a call

-- whether the next text ends with the first so many of these bytes, or goes on behind all of them
abbrev pub EndsOrGoesOn : List ℕ → ℕ → Bool → Type 0
EndsOrGoesOn more count true = IsEnded (take count more)
EndsOrGoesOn more count false = Lacks 10 more × (count ≡ length more)

-- so many of these bytes belong to the next text
pub record IsPart (more : List ℕ) (count : ℕ) (whole : Bool) : Type 0 where
  pub within : count ≤ length more
  pub ends : EndsOrGoesOn more count whole

-- the text got this part, which was ahead; the source was not asked, and no line was counted
pub record MovesPart {S : Type 0} (old : Stream S) (text : List ℕ) (new : Stream S) (more : List ℕ) : Type 0 where
  pub part : List ℕ
  pub more_is : more ≡ text ++ part
  pub order : ahead_of old ≡ part ++ ahead_of new
  pub source : new.source ≡ old.source
  pub lines : new.lines ≡ old.lines

-- whether the text is whole now
abbrev pub IsWhole : {S : Type 0} → Bool → List ℕ → Stream S → Type 0
IsWhole true text stream = IsEnded text
IsWhole false text stream = Lacks 10 text × (ahead_of stream ≡ [])

-- a text that is longer than any line came
pub record TooLong {S : Type 0} (old : Stream S) (text : List ℕ) (new : Stream S) : Type 0 where
  pub long : List ℕ
  pub moves : MovesPart old text new long
  pub is_text : IsText long
  pub is_long : 1049 < length long
  pub none : ReadsNone long

-- the next piece was taken, or the input is at its end
pub record TakesPiece {S : Type 0} (log : S → List Event) (old : Stream S) (some : Bool) (new : Stream S) : Type 0 where
  pub came : log new.source ≡ log old.source ++ moved (ahead_of new) ∷ []
  pub lines : new.lines ≡ old.lines
  pub has_some : some ≡ true → 0 < length (ahead_of new)
  pub has_none : some ≡ false → ahead_of new ≡ []

-- ---- a call

-- Between the two states the source was asked for more, no take failed, and this text was the next one.
pub record TakesText {S : Type 0} (log : S → List Event) (old : Stream S) (text : List ℕ) (new : Stream S) : Type 0 where
  pub events : List Event
  pub came : log new.source ≡ log old.source ++ events
  pub served : failures events ≡ 0
  pub order : ahead_of old ++ bytes_of events ≡ text ++ ahead_of new

-- the text has no line feed, and the last take between the two states found the end of the input behind it
pub record EndsInput {S : Type 0} (log : S → List Event) (old : Stream S) (text : List ℕ) (new : Stream S) : Type 0 where
  pub no_feed : Lacks 10 text
  pub none : ahead_of new ≡ []
  pub front : List Event
  pub came : log new.source ≡ log old.source ++ (front ++ moved [] ∷ [])
  pub ended : HasEnded (log new.source)

-- the text is whole: it ends with its line feed, or the input ends behind it
abbrev pub HasText : {S : Type 0} → (S → List Event) → Stream S → List ℕ → Stream S → Type 0
HasText log old text new = IsEnded text ⊎ EndsInput log old text new

-- the next text is whole and spelled this line
pub record TakesLine {S : Type 0} (log : S → List Event) (old : Stream S) (line : Line) (new : Stream S) : Type 0 where
  pub text : List ℕ
  pub takes : TakesText log old text new
  pub whole : HasText log old text new
  pub reads : Reads text (line ∷ [])
  pub counted : lines_of new ≡ raised (lines_of old)

-- nothing was left to read, and the source is at its end
pub record TakesNone {S : Type 0} (log : S → List Event) (old new : Stream S) : Type 0 where
  pub takes : TakesText log old [] new
  pub none : ahead_of new ≡ []
  pub ended : HasEnded (log new.source)

-- the next text spells no line, and this is its number; it is whole, or has more bytes already than any line
pub record TakesBad {S : Type 0} (log : S → List Event) (old : Stream S) (number : ℕ) (new : Stream S) : Type 0 where
  pub text : List ℕ
  pub takes : TakesText log old text new
  pub is_text : IsText text
  pub whole : HasText log old text new ⊎ (1049 < length text)
  pub none : ReadsNone text
  pub number_is : number ≡ raised (lines_of old)

-- a text came, and no take failed
pub record TakesSome {S : Type 0} (log : S → List Event) (old new : Stream S) : Type 0 where
  pub text : List ℕ
  pub takes : TakesText log old text new
  pub some : 0 < length text

-- why no line came
abbrev pub StopsStream : {S : Type 0} → (S → List Event) → Stream S → LinesEnd → Stream S → Type 0
StopsStream log old OutOfMemory new = TakesSome log old new
StopsStream log old Fault new = HasFailed (log old.source) (log new.source)
StopsStream log old (BadLine number) new = TakesBad log old number new
