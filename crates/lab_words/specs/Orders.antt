-- The words of a laboratory, and what they ask for.
use Rattle.std.specs.Prelude.{ℕ, ◌^◌, ◌<◌, ◌≤◌, List, ◌∷◌, codes, decimal}
use Rattle.die_image.specs.declared.head.ImageHead.{ImageHead}
use Rattle.rssd_words.specs.declared.command.Command.{Command}
use Rattle.rssd_words.specs.declared.command.Command.TheVariants as commands
use Rattle.rssd_words.specs.Commands.{head_words, words_of as command_words, IsWithin as IsCommandWithin}
use Rattle.lab_lines.specs.declared.kind.Kind.{Kind}
use Rattle.lab_lines.specs.declared.kind.Kind.TheVariants.{Uniform, Hot, Zipf, Sequential, Mixed}
use Rattle.lab_words.specs.declared.asked.Asked.{Asked}
use Rattle.lab_words.specs.declared.asked.AskedDie.{AskedDie}
use Rattle.lab_words.specs.declared.asked.DieFrom.{DieFrom}
use Rattle.lab_words.specs.declared.asked.DieFrom.TheVariants.{Blank, Image}
use Rattle.lab_words.specs.declared.asked.DieKind.{DieKind}
use Rattle.lab_words.specs.declared.asked.DieKind.TheVariants.{Plain, Worn, Pair}
use Rattle.lab_words.specs.declared.asked.LinesFrom.{LinesFrom}
use Rattle.lab_words.specs.declared.asked.LinesFrom.TheVariants.{Stream, Drawn}
use Rattle.lab_words.specs.declared.asked.Voice.{Voice}
use Rattle.lab_words.specs.declared.asked.Voice.TheVariants.{Loud, Quiet, Progress}

-- the name of a kind of workload
unfoldable pub kind_word : Kind → List ℕ
kind_word Uniform = codes "uniform"
kind_word Hot = codes "hot"
kind_word Zipf = codes "zipf"
kind_word Sequential = codes "sequential"
kind_word Mixed = codes "mixed"

-- the name of a voice
unfoldable pub voice_word : Voice → List ℕ
voice_word Loud = codes "loud"
voice_word Quiet = codes "quiet"
voice_word Progress = codes "progress"

-- the command of `rssd` that plays a script on such a die
abbrev pub command_on : ImageHead → DieKind → Command
command_on head Plain = commands.Replay head
command_on head (Worn reserve bad) = commands.Worn head reserve bad
command_on head Pair = commands.Pair head

-- the words of a die: of a plain one its head's, of another those of that command
abbrev pub words_with : ImageHead → DieKind → List (List ℕ)
words_with head Plain = head_words head
words_with head (Worn reserve bad) = command_words (commands.Worn head reserve bad)
words_with head Pair = command_words (commands.Pair head)

abbrev pub die_words : AskedDie → List (List ℕ)
die_words die = words_with die.head die.kind

-- the numbers of a die are within the limits of that command
abbrev pub IsDieWithin : AskedDie → Type 0
IsDieWithin die = IsCommandWithin (command_on die.head die.kind)

-- the words of the die: of a blank one its own, of that of an image those of the command `run`
abbrev pub from_words : DieFrom → List (List ℕ)
from_words (Blank die) = die_words die
from_words Image = command_words commands.Run

-- the numbers of a blank die are within limits
abbrev pub IsFromWithin : DieFrom → Type 0
IsFromWithin (Blank die) = IsDieWithin die
IsFromWithin Image = Unit {0}

-- the words of where the lines come from, with the words of a voice and of a number among them, and others behind
abbrev pub spelled_front : LinesFrom → List ℕ → List ℕ → List (List ℕ) → List (List ℕ)
spelled_front Stream voice every rest = codes "play" ∷ voice ∷ every ∷ rest
spelled_front (Drawn kind seed count idle) voice every rest = codes "draw" ∷ voice ∷ kind_word kind ∷ decimal seed ∷ decimal count ∷ decimal idle ∷ every ∷ rest

-- the one spelling of an order
abbrev pub words_of : Asked → List (List ℕ)
words_of asked = spelled_front asked.from (voice_word asked.voice) (decimal asked.every) (from_words asked.die)

-- the numbers of drawn lines are within limits
abbrev pub IsDrawnWithin : LinesFrom → Type 0
IsDrawnWithin Stream = Unit {0}
IsDrawnWithin (Drawn kind seed count idle) = (seed < 2 ^ 64) × (count < 2 ^ 64) × (idle ≤ 1_000)

-- the numbers of an order are within limits
pub record IsWithin (asked : Asked) : Type 0 where
  pub from : IsDrawnWithin asked.from
  pub some : 1 ≤ asked.every
  pub every : asked.every < 2 ^ 64
  pub die : IsFromWithin asked.die
