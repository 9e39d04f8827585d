-- Lines that are played one after another, and what is told of them.
use Rattle.std.specs.Prelude.{◌≡◌, ◌⊎◌, ℕ, ◌-◌, ◌^◌, ◌%◌, ◌==◌, Bool, List, [], ◌∷◌, ◌++◌, length, flat_map, codes, if◌then◌else◌}
use Rattle.cell_die.specs.Counts.{sum_of, raised}
use Rattle.count_die.specs.declared.tally.Totals.{Totals}
use Rattle.count_die.specs.declared.tally.Tally.{Tally}
use Rattle.count_die.specs.Tallies.{counted_of, blocks_of}
use Rattle.count_die.specs.Covers.{Covers}
use Rattle.rssd_core.specs.DeviceValue.{Numbers, DeviceValue}
use Rattle.rssd_io.specs.Event.{Event, HasFailed, moved, flushed}
use Rattle.rssd_io.specs.Pieces.{all_given}
use Rattle.rssd_script.specs.declared.lines.Line.{Line}
use Rattle.rssd_script.specs.declared.replies.Reply.{Reply}
use Rattle.rssd_script.specs.Replies.{reply_line}
use Rattle.rssd_run.specs.Played.{IsPlayed, Plays}
use Rattle.lab_tables.specs.Answered.{no_answers, answered_more}
use Rattle.lab_tables.specs.Tables.{run_row, kind_table, block_table}
use Rattle.rssd_lab.specs.declared.telling.Telling.{Telling}
use Rattle.lab_lines.specs.declared.lines.LinesEnd.{LinesEnd}
use Rattle.rssd_lab.specs.declared.score.Score.{Score}
use Rattle.rssd_lab.specs.declared.status.Stop.{Stop}
use Rattle.rssd_lab.specs.declared.status.Stop.TheVariants.{Lines, NotPlayed, Sink, OutOfMemory}
use Rattle.rssd_lab.specs.Chain.{Chain}

-- the totals are the sums of what this tally, of a die of the device, has counted
pub record SumsOf (tally : Tally) (device : DeviceValue) (totals : Totals) : Type 0 where
  pub covers : Covers device.view.die.shape tally
  pub reads : totals.reads ≡ sum_of (counted_of tally).reads
  pub programs : totals.programs ≡ sum_of (counted_of tally).programs
  pub charges : totals.charges ≡ sum_of (counted_of tally).charges
  pub erases : totals.erases ≡ sum_of (counted_of tally).erases

-- they are those of a tally of the device's die
abbrev pub IsCounted : DeviceValue → Totals → Type 0
IsCounted device totals = (tally : Tally) × SumsOf tally device totals

-- these pieces were given, and each was handed on at once
abbrev pub handed : List (List ℕ) → List Event
handed pieces = flat_map (λ piece. moved piece ∷ flushed ∷ []) pieces

-- a row is due after these lines
abbrev pub is_due : Telling → Score → Bool
is_due telling score = (score.answers.lines % telling.every) == 0

-- the row of what was counted
abbrev pub row_now : DeviceValue → Score → List ℕ
row_now device score = run_row score.answers device.view.moved score.totals

-- what is given for a line: its reply where that is wanted, and a row where one is due
abbrev pub told_for : Telling → DeviceValue → Score → Reply → List (List ℕ)
told_for telling device score reply =
    (if telling.replies then reply_line reply ∷ [] else []) ++ (if is_due telling score then row_now device score ∷ [] else [])

-- a line and its reply
pub record Answered : Type 0 where
  pub line : Line
  pub reply : Reply

-- all that moves: the lines to come, the device, what was counted, and what the sink was given
pub record At (L : Type 0) : Type 0 where
  pub lines : L
  pub device : DeviceValue
  pub score : Score
  pub log : List Event

-- the same by their fields in order
abbrev pub state_at : {L : Type 0} → L → DeviceValue → Score → List Event → At L
state_at lines device score log = record { lines = lines; device = device; score = score; log = log }

-- The next line came, the device played it, it was counted with what its die has counted then, and it was told.
pub record PlaysLine {L : Type 0} (gives : L → Line → L → Type 0) (d : Numbers) (telling : Telling) (old : At L) (answered : Answered) (new : At L) : Type 0 where
  pub given : gives old.lines answered.line new.lines
  pub plays : Plays d answered.line answered.reply old.device new.device
  pub counted : IsCounted new.device new.score.totals
  pub answers : new.score.answers ≡ answered_more old.score.totals new.score.totals old.score.answers answered.reply
  pub told : new.log ≡ old.log ++ handed (told_for telling new.device new.score answered.reply)

-- lines that were played one after another
abbrev pub PlaysLines : {L : Type 0} → (L → Line → L → Type 0) → Numbers → Telling → At L → List Answered → At L → Type 0
PlaysLines gives d telling = Chain (PlaysLine gives d telling)

-- All lines were played: none was left, or as many came as a count of 64 bits has.
pub record PlaysAll {L : Type 0} (gives : L → Line → L → Type 0) (ended : L → L → Type 0) (d : Numbers) (telling : Telling) (old new : At L) : Type 0 where
  pub answered : List Answered
  pub last : L
  pub plays : PlaysLines gives d telling old answered (record new { lines = last })
  pub ends : ended last new.lines ⊎ ((length answered ≡ 2 ^ 64 - 1) × (new.lines ≡ last))

-- what is given at the end: a last row where none was due, and the tables of the kinds of replies and of the blocks
pub record TellsAtEnd (telling : Telling) (device : DeviceValue) (score : Score) (old new : List Event) : Type 0 where
  pub tally : Tally
  pub covers : Covers device.view.die.shape tally
  pub log : new ≡ old ++ (handed (if is_due telling score then [] else row_now device score ∷ [])
      ++ all_given (kind_table score.answers ++ block_table (counted_of tally) (blocks_of tally)) ++ flushed ∷ [])

-- The lines of a run that stopped: those before were played, and then none came for this cause, or one came that no device plays.
pub record PlaysUpTo {L : Type 0} (gives : L → Line → L → Type 0) (After : L → L → Type 0) (d : Numbers) (telling : Telling) (old new : At L) : Type 0 where
  pub answered : List Answered
  pub last : L
  pub plays : PlaysLines gives d telling old answered (record new { lines = last })
  pub after : After last new.lines

-- a line came that no device plays
abbrev pub GivesOther : {L : Type 0} → (L → Line → L → Type 0) → L → L → Type 0
GivesOther gives old new = (line : Line) × gives old line new × (¬ IsPlayed line)

-- The lines of a run whose sink failed: those before one were played and told, that one came and was played, and then a call failed.
pub record TellsUpTo {L : Type 0} (gives : L → Line → L → Type 0) (d : Numbers) (telling : Telling) (old new : At L) : Type 0 where
  pub answered : List Answered
  pub last : At L
  pub plays : PlaysLines gives d telling old answered last
  pub line : Line
  pub reply : Reply
  pub given : gives last.lines line new.lines
  pub played : Plays d line reply last.device new.device
  pub failed : HasFailed last.log new.log

-- what a run of lines leaves that stopped for this cause
abbrev pub StopsLines : {L : Type 0} → (L → Line → L → Type 0) → (L → LinesEnd → L → Type 0) → Numbers → Telling → At L → Stop → At L → Type 0
StopsLines gives stops d telling old (Lines why) new = PlaysUpTo gives (λ last lines. stops last why lines) d telling old new
StopsLines gives stops d telling old (NotPlayed number) new = PlaysUpTo gives (GivesOther gives) d telling old new × (number ≡ raised new.score.answers.lines)
StopsLines gives stops d telling old Sink new = TellsUpTo gives d telling old new
StopsLines gives stops d telling old OutOfMemory new = ⊥

-- the head of a run's table
abbrev pub run_head : List ℕ
run_head = codes "lines,first,second,declined,read,trim,idle,other,moved,reads,programs,charges,erases,programs_per_1000_writes\n"

-- no line was answered, and what the device's die has counted is counted
pub record IsFirst (device : DeviceValue) (score : Score) : Type 0 where
  pub answers : score.answers ≡ no_answers
  pub counted : IsCounted device score.totals

-- A run of lines on a device: the head was given, all lines were played and told, and the tables were given.
pub record Runs {L : Type 0} (gives : L → Line → L → Type 0) (ended : L → L → Type 0) (telling : Telling) (device : DeviceValue) (lines lines_after : L) (log log_after : List Event) : Type 0 where
  pub score : Score
  pub first : IsFirst device score
  pub last : At L
  pub plays : PlaysAll gives ended device.numbers telling (state_at lines device score (log ++ handed (run_head ∷ []))) last
  pub lines_last : last.lines ≡ lines_after
  pub tells : TellsAtEnd telling last.device last.score last.log log_after

-- a run that left this device
abbrev pub RunsTo : {L : Type 0} → (L → Line → L → Type 0) → (L → L → Type 0) → Telling → DeviceValue → DeviceValue → L → L → List Event → List Event → Type 0
RunsTo gives ended telling device device_after lines lines_after log log_after =
    (runs : Runs gives ended telling device lines lines_after log log_after) × (runs.last.device ≡ device_after)

-- the same up to where it stopped, with no table at its end
pub record RunsUpTo {L : Type 0} (gives : L → Line → L → Type 0) (stops : L → LinesEnd → L → Type 0) (telling : Telling)
    (device : DeviceValue) (why : Stop) (lines lines_after : L) (log log_after : List Event) : Type 0 where
  pub score : Score
  pub first : IsFirst device score
  pub last : At L
  pub plays : StopsLines gives stops device.numbers telling (state_at lines device score (log ++ handed (run_head ∷ []))) why last
  pub lines_last : last.lines ≡ lines_after
  pub log_last : last.log ≡ log_after

-- all lines were played and told, and then a call failed at what is given at the end
pub record EndsUntold {L : Type 0} (gives : L → Line → L → Type 0) (ended : L → L → Type 0) (telling : Telling)
    (device : DeviceValue) (lines lines_after : L) (log log_after : List Event) : Type 0 where
  pub score : Score
  pub first : IsFirst device score
  pub last : At L
  pub plays : PlaysAll gives ended device.numbers telling (state_at lines device score (log ++ handed (run_head ∷ []))) last
  pub lines_last : last.lines ≡ lines_after
  pub failed : HasFailed last.log log_after

-- A call of the sink failed: at the head of the table, before a line was asked for; at what is told of a line; or at the end.
abbrev pub StopsAtSink : {L : Type 0} → (L → Line → L → Type 0) → (L → L → Type 0) → (L → LinesEnd → L → Type 0) → Telling → DeviceValue → L → L → List Event → List Event → Type 0
StopsAtSink gives ended stops telling device lines lines_after log log_after =
    ((lines_after ≡ lines) × HasFailed log log_after)
    ⊎ RunsUpTo gives stops telling device Sink lines lines_after log log_after
    ⊎ EndsUntold gives ended telling device lines lines_after log log_after

-- what a run leaves that stopped for this cause
abbrev pub StopsRun : {L : Type 0} → (L → Line → L → Type 0) → (L → L → Type 0) → (L → LinesEnd → L → Type 0) → Telling → DeviceValue → Stop → L → L → List Event → List Event → Type 0
StopsRun gives ended stops telling device (Lines why) lines lines_after log log_after = RunsUpTo gives stops telling device (Lines why) lines lines_after log log_after
StopsRun gives ended stops telling device (NotPlayed number) lines lines_after log log_after = RunsUpTo gives stops telling device (NotPlayed number) lines lines_after log log_after
StopsRun gives ended stops telling device Sink lines lines_after log log_after = StopsAtSink gives ended stops telling device lines lines_after log log_after
StopsRun gives ended stops telling device OutOfMemory lines lines_after log log_after = ⊥
