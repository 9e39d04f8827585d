-- What becomes of a script's lines that go through a queue to a session: one act after the other.
use Rattle.std.specs.Prelude.{◌≡◌, ◌⊎◌, ℕ, ◌+◌, ◌<◌, ◌≤◌, Bool, true, false, not, List, [], ◌∷◌, ◌++◌, length, take, None, Some, MatchOption}
use Rattle.page_codec.specs.Sound.{IsSound}
use Rattle.rssd_core.specs.DeviceValue.{Numbers}
use Rattle.rssd_io.specs.Event.{Event as Io, moved, failed}
use Rattle.rssd_io.specs.Pieces.{Gives, all_given}
use Rattle.rssd_queue.specs.declared.ask.Ask.{Ask}
use Rattle.rssd_queue.specs.declared.ask.Tagged.{Tagged}
use Rattle.rssd_queue.specs.Asks.{sector_of, is_long}
use Rattle.rssd_queue.specs.Waiting.{Waiting, Accepts}
use Rattle.rssd_queue.specs.Pick.{Takes}
use Rattle.rssd_script.specs.declared.lines.Line.{Line}
use Rattle.rssd_script.specs.Replies.{tagged_line}
use Rattle.rssd_run.specs.Moves.{is_off}
use Rattle.rssd_run.specs.View.{View, Event}
use Rattle.rssd_run.specs.Step.{IsStep}
use Rattle.rssd_run.specs.Shows.{SessionValue, Shows}
use Rattle.rssd_run.specs.Serves.{ask_of, line_of}

-- Between two acts: the lines that are left, the tag of their first, and what waits.
pub record Place : Type 0 where
  pub lines : List Line
  pub tag : ℕ
  pub queue : Waiting

-- the same by its fields in order
abbrev pub place : List Line → ℕ → Waiting → Place
place lines tag queue = record { lines = lines; tag = tag; queue = queue }

-- An act: a line's command is put into the queue; the next command is taken out of it and carried out; or a line is carried out
-- at once. What is carried out is a step of the session, and its reply is told with its tag.
pub data Act : Type 0 where
  Put : (command : Tagged) → Act
  Served : (command : Tagged) (event : Event) → Act
  AtOnce : (tag : ℕ) (event : Event) → Act

-- ---- which act comes next

abbrev pub is_on : View → Bool
is_on view = not (is_off view.array)

-- the queue has not the command's sector, or a write has more bytes than a sector: it is answered `range` or `long`
abbrev pub IsUnfit : Waiting → Ask → Type 0
IsUnfit queue ask = (queue.sectors ≤ sector_of ask) ⊎ (is_long queue.sector_bytes ask ≡ true)

-- The next command is served before a write, read or trim where the session is on and 32 wait; and before any other line, and
-- after the last, where any waits.
abbrev pub IsServeDue : Bool → Waiting → List Line → Type 0
IsServeDue on queue [] = Unit {0}
IsServeDue on queue (line ∷ lines) = MatchOption (ask_of line) (Unit {0}) (λ ask. (on ≡ true) × (length queue.commands ≡ 32))

-- no line is left, or the first is no write, read or trim
abbrev pub IsServeAllDue : List Line → Type 0
IsServeAllDue [] = Unit {0}
IsServeAllDue (line ∷ lines) = ask_of line ≡ None

-- A write, read or trim is carried out at once where the session is off; and where it is on and fewer than 32 wait, if it is
-- unfit. Any other line is where nothing waits.
abbrev pub IsAtOnceDue : Bool → Waiting → Line → Type 0
IsAtOnceDue on queue line = MatchOption (ask_of line) (queue.commands ≡ []) (λ ask. on ≡ true → (length queue.commands < 32) × IsUnfit queue ask)

-- ---- acts

-- a write, read or trim is put where the session is on and the queue accepts it, by the tag of its line
pub record IsPut (c : Tagged) (from : Place) (before : View) (to : Place) (after : View) : Type 0 where
  pub line : Line
  pub first : from.lines ≡ line ∷ to.lines
  pub asks : ask_of line ≡ Some c.ask
  pub its_tag : c.tag ≡ from.tag
  pub on : is_on before ≡ true
  pub accepted : Accepts from.queue c to.queue
  pub next_tag : to.tag ≡ from.tag + 1
  pub same_view : after ≡ before

-- the pick of the queue is taken out and carried out
pub record IsServed (d : Numbers) (c : Tagged) (e : Event) (from : Place) (before : View) (to : Place) (after : View) : Type 0 where
  pub due : IsServeDue (is_on before) from.queue from.lines
  pub taken : Takes from.queue c to.queue
  pub line : e.line ≡ line_of c.ask
  pub begins : e.before ≡ before
  pub step : IsStep d e
  pub ends : after ≡ e.after
  pub same_lines : to.lines ≡ from.lines
  pub same_tag : to.tag ≡ from.tag

-- the first line that is left is carried out
pub record IsAtOnce (d : Numbers) (tag : ℕ) (e : Event) (from : Place) (before : View) (to : Place) (after : View) : Type 0 where
  pub first : from.lines ≡ e.line ∷ to.lines
  pub due : IsAtOnceDue (is_on before) from.queue e.line
  pub its_tag : tag ≡ from.tag
  pub begins : e.before ≡ before
  pub step : IsStep d e
  pub ends : after ≡ e.after
  pub next_tag : to.tag ≡ from.tag + 1
  pub same_queue : to.queue ≡ from.queue

abbrev pub IsAct : Numbers → Act → Place → View → Place → View → Type 0
IsAct d (Put c) from before to after = IsPut c from before to after
IsAct d (Served c e) from before to after = IsServed d c e from before to after
IsAct d (AtOnce tag e) from before to after = IsAtOnce d tag e from before to after

-- each act begins where the one before ended
unfoldable pub AreActs : Numbers → Place → View → List Act → Place → View → Type 0
AreActs d from before [] to after = (to ≡ from) × (after ≡ before)
AreActs d from before (act ∷ acts) to after = (next : Place) × (now : View) × IsAct d act from before next now × AreActs d next now acts to after

-- ---- what is told

-- the texts of the replies, each one piece
abbrev pub texts_of : List Act → List (List ℕ)
texts_of [] = []
texts_of (Put c ∷ acts) = texts_of acts
texts_of (Served c e ∷ acts) = tagged_line c.tag e.reply ∷ texts_of acts
texts_of (AtOnce tag e ∷ acts) = tagged_line tag e.reply ∷ texts_of acts

-- the steps of the session, in the order in which they were carried out
abbrev pub steps_of : List Act → List Event
steps_of [] = []
steps_of (Put c ∷ acts) = steps_of acts
steps_of (Served c e ∷ acts) = e ∷ steps_of acts
steps_of (AtOnce tag e ∷ acts) = e ∷ steps_of acts

-- acts from one place to another, and the text of each reply was given in one piece
pub record ActsTo (d : Numbers) (from : Place) (before : View) (to : Place) (after : View) (log log_after : List Io) : Type 0 where
  pub acts : List Act
  pub run : AreActs d from before acts to after
  pub given : Gives (texts_of acts) log log_after

-- The same, but of the last text a front only was given, and the sink failed.
pub record ActsCutOff (d : Numbers) (from : Place) (before : View) (after : View) (log log_after : List Io) : Type 0 where
  pub to : Place
  pub acts : List Act
  pub run : AreActs d from before acts to after
  pub texts : List (List ℕ)
  pub last : List ℕ
  pub texts_are : texts_of acts ≡ texts ++ last ∷ []
  pub front : ℕ
  pub given : log_after ≡ log ++ (all_given texts ++ moved (take front last) ∷ failed ∷ [])

-- ---- on a session

-- From each view that the session stood for, over sound cells, acts lead to one that it stands for, and the cells are sound.
abbrev pub ActsSession : Numbers → Place → SessionValue → Place → SessionValue → List Io → List Io → Type 0
ActsSession d from old to new log log_after = (before : View) → Shows d old before → IsSound d.geometry before.device.die.cells
    → (after : View) × Shows d new after × IsSound d.geometry after.device.die.cells × ActsTo d from before to after log log_after

-- the same up to a text that was not given whole
abbrev pub CutsOffActs : Numbers → Place → SessionValue → SessionValue → List Io → List Io → Type 0
CutsOffActs d from old new log log_after = (before : View) → Shows d old before → IsSound d.geometry before.device.die.cells
    → (after : View) × Shows d new after × ActsCutOff d from before after log log_after

-- whether a command was taken out of the queue; none is exactly where nothing waits
abbrev pub TookOne : Bool → Waiting → Waiting → Type 0
TookOne true old new = (c : Tagged) × Takes old c new
TookOne false old new = (old.commands ≡ []) × (new ≡ old)
