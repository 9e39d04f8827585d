-- What a session answers whatever the cells of its die, and whatever is armed: each reply is one of the device's own clauses.
use Rattle.std.specs.Prelude.{◌≡◌, ◌⊎◌, ℕ, ◌+◌, true, false, List, [], ◌∷◌, ◌++◌, map, take, length}
use Rattle.cell_die.specs.Counts.{sum_of}
use Rattle.cell_die.specs.DieState.{DieState}
use Rattle.cell_die.specs.Power.{told, with_cut, with_power, with_read_failure}
use Rattle.rssd_core.specs.declared.device.MountError.{MountError}
use Rattle.rssd_core.specs.DeviceValue.{Numbers, DeviceValue, with_die}
use Rattle.rssd_core.specs.Mount.{Mounts, Refuses}
use Rattle.rssd_io.specs.Event.{Event as Act, moved, failed}
use Rattle.rssd_io.specs.Pieces.{Gives, all_given}
use Rattle.rssd_script.specs.declared.lines.Line.{Line}
use Rattle.rssd_script.specs.declared.lines.Line.TheVariants.{Cut, FailRead, Mount, Stat}
use Rattle.rssd_script.specs.declared.replies.Reply.{Reply}
use Rattle.rssd_script.specs.declared.replies.Reply.TheVariants.{Done, Off as SaysOff, Stat as Counted}
use Rattle.rssd_script.specs.Replies.{reply_line}
use Rattle.rssd_run.specs.Armed.{form_of_word}
use Rattle.rssd_run.specs.Held.{Tallies, added_tallies, tallies_of}
use Rattle.rssd_run.specs.Played.{Answered}
use Rattle.rssd_run.specs.Shows.{Holding, Mounted, Closed, Nothing, SessionValue, HasDie, Starts}
use Rattle.rssd_run.specs.Steps.{refusal_reply}

-- a line on a device that runs; one that arms a failure sets what the die tells of it, and nothing else
abbrev pub AnsweredOn : Numbers → Line → Reply → DeviceValue → DeviceValue → Type 0
AnsweredOn d (Cut n torn) reply old new = (reply ≡ Done) × (new ≡ with_die (told (with_cut n (form_of_word torn))) old)
AnsweredOn d (FailRead n) reply old new = (reply ≡ Done) × (new ≡ with_die (told (with_read_failure n)) old)
AnsweredOn d line reply old new = Answered d line reply old new

-- a line on what a session has; where no device runs it is `off`, and nothing changes
abbrev pub AnsweredBy : Numbers → Line → Reply → Holding → Holding → Type 0
AnsweredBy d line reply (Mounted old) new = ((old.stopped ≡ true) × (reply ≡ SaysOff) × (new ≡ Mounted old))
    ⊎ ((old.stopped ≡ false) × ((device : DeviceValue) × (new ≡ Mounted device) × AnsweredOn d line reply old device))
AnsweredBy d line reply (Closed numbers die) new = (reply ≡ SaysOff) × (new ≡ Closed numbers die)
AnsweredBy d line reply Nothing new = ⊥

-- this die was given its power and mounted
pub record AnsweredDone (d : Numbers) (die : DieState) (reply : Reply) (new : Holding) : Type 0 where
  pub device : DeviceValue
  pub mounts : Mounts d (told with_power die) device
  pub holding : new ≡ Mounted device
  pub reply_is : reply ≡ Done

-- or the mount was refused, and left this die
pub record AnsweredRefused (d : Numbers) (die : DieState) (reply : Reply) (new : Holding) : Type 0 where
  pub left : DieState
  pub why : MountError
  pub refuses : Refuses d (told with_power die) left why
  pub holding : new ≡ Closed d left
  pub reply_is : reply ≡ refusal_reply why

-- the tallies of the session so far, with those of the device that it has
abbrev pub tallies_so_far : SessionValue → Holding → Tallies
tallies_so_far session (Mounted device) = added_tallies session.base (tallies_of device.view)
tallies_so_far session (Closed numbers die) = session.base
tallies_so_far session Nothing = session.base

-- the tallies and the sum of the erase counts
abbrev pub counted : Tallies → DieState → Reply
counted tallies die = Counted tallies.first tallies.second tallies.declined tallies.moved (sum_of die.erases)

abbrev pub AnswersSession : Numbers → Line → Reply → SessionValue → SessionValue → Type 0
AnswersSession d Mount reply old new = (new.base ≡ tallies_so_far old old.holding)
    × ((die : DieState) × HasDie die old.holding × (AnsweredDone d die reply new.holding ⊎ AnsweredRefused d die reply new.holding))
AnswersSession d Stat reply old new = (new ≡ old) × ((die : DieState) × HasDie die old.holding × (reply ≡ counted (tallies_so_far old old.holding) die))
AnswersSession d line reply old new = (new.base ≡ old.base) × AnsweredBy d line reply old.holding new.holding

-- ---- lines in order

-- a line, its reply, and the session before and after it
pub record Exchange : Type 0 where
  pub line : Line
  pub reply : Reply
  pub before : SessionValue
  pub after : SessionValue

-- each begins where the one before ended
unfoldable pub AreAnswered : Numbers → SessionValue → List Exchange → SessionValue → Type 0
AreAnswered d before [] after = after ≡ before
AreAnswered d before (x ∷ exchanges) after = (x.before ≡ before) × AnswersSession d x.line x.reply x.before x.after × AreAnswered d x.after exchanges after

abbrev pub asked_of : List Exchange → List Line
asked_of exchanges = map (λ x. x.line) exchanges

abbrev pub told_of : List Exchange → List (List ℕ)
told_of exchanges = map (λ x. reply_line x.reply) exchanges

-- Each of these lines was answered, and the text of each reply was given in one piece.
pub record AnswersAll (d : Numbers) (before : SessionValue) (lines : List Line) (after : SessionValue) (log log_after : List Act) : Type 0 where
  pub exchanges : List Exchange
  pub answered : AreAnswered d before exchanges after
  pub of_lines : asked_of exchanges ≡ lines
  pub given : Gives (told_of exchanges) log log_after

-- The first of these lines were, and the text of each reply was given in one piece, but of the last reply's text a front only, and the sink failed.
pub record AnswersFront (d : Numbers) (before : SessionValue) (lines : List Line) (after : SessionValue) (log log_after : List Act) : Type 0 where
  pub exchanges : List Exchange
  pub last : Exchange
  pub answered : AreAnswered d before (exchanges ++ last ∷ []) after
  pub of_lines : asked_of (exchanges ++ last ∷ []) ≡ take (length exchanges + 1) lines
  pub front : ℕ
  pub given : log_after ≡ log ++ (all_given (told_of exchanges) ++ moved (take front (reply_line last.reply)) ∷ failed ∷ [])

-- a session that was started on this die answered the lines, and has this die then
pub record AnswersOn (d : Numbers) (die : DieState) (lines : List Line) (log log_after : List Act) (last : DieState) : Type 0 where
  pub first : SessionValue
  pub starts : Starts d die first
  pub session : SessionValue
  pub has : HasDie last session.holding
  pub answers : AnswersAll d first lines session log log_after

-- it answered the first of them, up to the one whose reply was not given whole
pub record AnswersFrontOn (d : Numbers) (die : DieState) (lines : List Line) (log log_after : List Act) : Type 0 where
  pub first : SessionValue
  pub starts : Starts d die first
  pub session : SessionValue
  pub answers : AnswersFront d first lines session log log_after
