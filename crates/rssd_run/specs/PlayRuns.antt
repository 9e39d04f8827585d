-- Plays: the lines of a script are played on a device over any die, which was blank before it was mounted. Here stand those of
-- `worn`, on a die with reserve blocks over one that wears, and of `pair`, on two dies as one.
use Rattle.std.specs.Prelude.{◌≡◌, ℕ, ◌+◌, ◌-◌, ◌<◌, ◌≤◌, ◌/◌, ◌⊎◌, ◌↔◌, List, [], ◌∷◌, ◌++◌, All, length, replicate, slice_index_or, take, Some}
use Rattle.zero_count.specs.declared.Header.{Header}
use Rattle.cell_die.specs.declared.shape.Shape.{Shape}
use Rattle.cell_die.specs.Cells.{blank_page}
use Rattle.cell_die.specs.DieState.{DieState, page_count, page_bytes, page_of}
use Rattle.cell_die.specs.Changes.{NeverFalls}
use Rattle.cell_die.specs.Calls.{Kept, IsQuiet}
use Rattle.mem_die.specs.declared.worn.WornMem.{WornMem}
use Rattle.mem_die.specs.declared.mem.MemDie.{MemDie}
use Rattle.mem_die.specs.MemState.{mem_state, IsNew}
use Rattle.mem_die.specs.WornState.{worn_state, bad_erases_of}
use Rattle.spare_die.specs.declared.tally.Tally.{Tally}
use Rattle.spare_die.specs.Book.{KeepsFacts}
use Rattle.spare_die.specs.Opening.{StartsAt}
use Rattle.spare_die.specs.Spare.{spare_state}
use Rattle.spare_die.specs.Table.{reserve_count}
use Rattle.spare_die.specs.Tallies.{own_of}
use Rattle.stripe_die.specs.Pair.{pair_state}
use Rattle.page_codec.specs.declared.place.Place.{Place}
use Rattle.page_codec.specs.Records.{header_in}
use Rattle.page_codec.specs.Sound.{IsSound}
use Rattle.die_image.specs.declared.head.ImageHead.{ImageHead}
use Rattle.die_image.specs.Image.{shape_of}
use Rattle.rssd_core.specs.DeviceValue.{Numbers, DeviceValue}
use Rattle.rssd_core.specs.Mount.{Mounts}
use Rattle.rssd_core.specs.Outcomes.{TrueWhileRunning}
use Rattle.rssd_core.specs.SectorArray.{filled_up}
use Rattle.rssd_core.specs.Writes.{OfferDeclines}
use Rattle.rssd_io.specs.Event.{Event as Act, moved, flushed, failed}
use Rattle.rssd_io.specs.Pieces.{Gives, all_given}
use Rattle.rssd_script.specs.declared.lines.Line.{Line}
use Rattle.rssd_script.specs.declared.lines.Line.TheVariants.{Mount}
use Rattle.rssd_script.specs.declared.replies.Reply.TheVariants.{Declined, Fault, Off as SaysOff}
use Rattle.rssd_script.specs.Replies.{reply_line}
use Rattle.rssd_run.specs.ArrayWithCuts.{On, Row}
use Rattle.rssd_run.specs.Headline.{IsWritten, FaultsRose}
use Rattle.rssd_run.specs.Placing.{IsTried}
use Rattle.rssd_run.specs.View.{View, Event}
use Rattle.rssd_run.specs.Held.{Tallies}
use Rattle.rssd_run.specs.Heads.{numbers_named, zero_sectors}
use Rattle.rssd_run.specs.Played.{IsPlayed, IsPlayedStep}
use Rattle.rssd_run.specs.Run.{lines_of, pieces_of}
use Rattle.rssd_run.specs.Shows.{Mounted, ShowsHolding}
use Rattle.rssd_run.specs.Statuses.{Output, TookNothing}
use Rattle.rssd_script.specs.declared.error.ScriptError.TheVariants.{BadLine}
use Rattle.rssd_run.specs.ReadScript.{ReadsAll, RefusesRead}
use Rattle.rssd_run.specs.declared.run.script.ReadError.{ReadError}
use Rattle.rssd_run.specs.declared.run.script.ReadError.TheVariants.{Refused}
use Rattle.rssd_run.specs.declared.status.Status.{Status}
use Rattle.rssd_run.specs.declared.status.Status.TheVariants.{Done, WriteFault, OutOfMemory}

-- ---- plays

-- Line k of a script, counted from 1, is the first that is not played: it is `cut`, `failread`, `mount` or `stat`.
pub record FirstUnplayed (lines : List Line) (k : ℕ) : Type 0 where
  pub before : (i : ℕ) → i + 1 < k → IsPlayed (slice_index_or lines i Mount)
  pub within : (1 ≤ k) × (k ≤ length lines)
  pub unplayed : IsPlayed (slice_index_or lines (k - 1) Mount) → ⊥

-- why a script was not read as one of lines that are played: it was refused, or each line is in the grammar and this is the first that is not played
abbrev pub RefusesPlayed : List Act → List Act → ReadError → Type 0
RefusesPlayed old new why = RefusesRead old new why
    ⊎ ((lines : List Line) × (k : ℕ) × (why ≡ Refused (BadLine k)) × ReadsAll old new lines × FirstUnplayed lines k)

-- a step of a play; the die keeps its fixed numbers, and on one that tells that it has power and nothing armed no line fails
pub record IsPlaying (d : Numbers) (e : Event) : Type 0 where
  pub played : IsPlayed e.line
  pub step : IsPlayedStep d e
  pub kept : Kept e.before.device.die e.after.device.die
  pub no_fault : IsQuiet e.before.device.die → e.reply ≡ Fault → ⊥
  pub quiet : IsQuiet e.before.device.die → IsQuiet e.after.device.die

-- a play from one view to another: each step begins where the one before ended
unfoldable pub IsPlay : Numbers → View → List Event → View → Type 0
IsPlay d before [] after = after ≡ before
IsPlay d before (e ∷ events) after = (e.before ≡ before) × IsPlaying d e × IsPlay d e.after events after

-- A play of these lines, of each step of which P holds, and the text of each reply was given in one piece.
pub record PlayOf (P : Event → Type 0) (d : Numbers) (before : View) (lines : List Line) (after : View) (log log_after : List Act) : Type 0 where
  pub events : List Event
  pub play : IsPlay d before events after
  pub each : All P events
  pub of_lines : lines_of events ≡ lines
  pub given : Gives (pieces_of events) log log_after

-- The same of the first of these lines, but of the last reply's text a front was given only, and the sink failed.
pub record PlayCutOff (P : Event → Type 0) (d : Numbers) (before : View) (lines : List Line) (after : View) (log log_after : List Act) : Type 0 where
  pub events : List Event
  pub last : Event
  pub play : IsPlay d before (events ++ last ∷ []) after
  pub each : All P (events ++ last ∷ [])
  pub of_lines : lines_of (events ++ last ∷ []) ≡ take (length events + 1) lines
  pub front : ℕ
  pub given : log_after ≡ log ++ (all_given (pieces_of events) ++ moved (take front (reply_line last.reply)) ∷ failed ∷ [])

-- a play that begins at such a view
pub record PlaysFrom (Start : View → Type 0) (P : Event → Type 0) (d : Numbers) (lines : List Line) (log log_after : List Act) : Type 0 where
  pub before : View
  pub start : Start before
  pub after : View
  pub play : PlayOf P d before lines after log log_after

-- and one whose sink failed
pub record PlaysFrontFrom (Start : View → Type 0) (P : Event → Type 0) (d : Numbers) (lines : List Line) (log log_after : List Act) : Type 0 where
  pub before : View
  pub start : Start before
  pub after : View
  pub play : PlayCutOff P d before lines after log log_after

-- ---- where a play begins

-- a die of this shape with no charged cell, none of whose blocks was erased and no call of which failed
pub record IsBlankDie (shape : Shape) (die : DieState) : Type 0 where
  pub same_shape : die.shape ≡ shape
  pub blank : (page : ℕ) → page < page_count shape → page_of die page ≡ blank_page (page_bytes shape)
  pub erases : die.erases ≡ replicate shape.blocks 0
  pub read_faults : die.read_faults ≡ 0
  pub change_faults : die.change_faults ≡ 0

-- The first view of a play: a device was mounted on this die. No header stands there, its cells are sound, and all sectors are
-- zeros.
pub record IsPlayStart (head : ImageHead) (die : DieState) (view : View) : Type 0 where
  pub device : DeviceValue
  pub mounts : Mounts (numbers_named head) die device
  pub same : view.device ≡ device.view
  pub zeros : view.array ≡ On (zero_sectors head)
  pub no_header : (place : Place) (header : Header) → header_in (numbers_named head).geometry view.device.die.cells place ≡ Some header → ⊥
  pub sound : IsSound (numbers_named head).geometry view.device.die.cells

-- ---- what a device over any die plays

-- the step leaves a die of this type
abbrev pub LeavesDie : {D : Type 0} → (D → DieState) → Event → Type 0
LeavesDie state e = (die : _) × (state die ≡ e.after.device.die)

-- From each view that the device stood for, over sound cells and where its book was true, a play of these lines, and its texts
-- were given.
abbrev pub PlaysLines : (Event → Type 0) → DeviceValue → List Line → List Act → List Act → Type 0
PlaysLines P old lines log log_after =
    (base : Tallies) (before : View) → ShowsHolding old.numbers base (Mounted old) before → IsSound old.numbers.geometry old.view.die.cells → TrueWhileRunning old.numbers old
    → (after : View) × PlayOf P old.numbers before lines after log log_after

-- The same up to the line whose text was not given whole.
abbrev pub CutsOffPlay : (Event → Type 0) → DeviceValue → List Line → List Act → List Act → Type 0
CutsOffPlay P old lines log log_after =
    (base : Tallies) (before : View) → ShowsHolding old.numbers base (Mounted old) before → IsSound old.numbers.geometry old.view.die.cells → TrueWhileRunning old.numbers old
    → (after : View) × PlayCutOff P old.numbers before lines after log log_after

-- What each status says of lines that were played from such a view: `out` took the text of each reply in one piece and handed
-- them on; or it failed at the piece of some reply, after those before it, or at handing on, after all; or memory was wanting.
abbrev pub EndsPlay : (View → Type 0) → (Event → Type 0) → Numbers → List Line → Output → Status → Type 0
EndsPlay Start P d lines out Done = (given : List Act) × PlaysFrom Start P d lines out.before given × (out.after ≡ given ++ flushed ∷ [])
EndsPlay Start P d lines out WriteFault = PlaysFrontFrom Start P d lines out.before out.after
    ⊎ ((given : List Act) × PlaysFrom Start P d lines out.before given × (out.after ≡ given ++ failed ∷ []))
EndsPlay Start P d lines out OutOfMemory = TookNothing out
EndsPlay Start P d lines out status = ⊥

-- ---- `pair`

-- the shape of each of the two dies
abbrev pub half_shape : ImageHead → Shape
half_shape head = record (shape_of head) { blocks = head.blocks / 2 }

-- two blank dies in memory as one
pub record IsBlankPair (head : ImageHead) (die : DieState) : Type 0 where
  pub first : MemDie
  pub second : MemDie
  pub first_blank : IsNew (half_shape head) (mem_state first)
  pub second_blank : IsNew (half_shape head) (mem_state second)
  pub as_one : die ≡ pair_state (mem_state first) (mem_state second)

abbrev pub IsPairStart : ImageHead → View → Type 0
IsPairStart head view = (die : DieState) × IsBlankPair head die × IsPlayStart head die view

-- no reply is `fault`, and none is `off`
pub record NeverStops (e : Event) : Type 0 where
  pub no_fault : e.reply ≡ Fault → ⊥
  pub not_off : e.reply ≡ SaysOff → ⊥

-- ---- `worn`

-- the shape of the inner die: a block for the table, the logical blocks and the reserve
abbrev pub worn_shape : ImageHead → ℕ → Shape
worn_shape head reserve = record (shape_of head) { blocks = head.blocks + reserve + 1 }

-- a die with so many logical blocks over this worn die, with this tally, and the facts that it keeps
pub record IsSpareOver (logical : ℕ) (inner : WornMem) (tally : Tally) (die : DieState) : Type 0 where
  pub shows : die ≡ spare_state (worn_state inner) logical (own_of tally)
  pub facts : KeepsFacts (worn_state inner) (bad_erases_of inner) logical tally

-- how many reserve blocks are left
abbrev pub left_of : ℕ → WornMem → Tally → ℕ
left_of logical inner tally = reserve_count (worn_state inner) logical - tally.named_at_opening - tally.written

-- a blank worn die each `bad`-th erase of which makes its block bad, opened with as many logical blocks as the head says
pub record IsBlankWorn (head : ImageHead) (reserve bad : ℕ) (die : DieState) : Type 0 where
  pub inner : WornMem
  pub tally : Tally
  pub blank : IsBlankDie (worn_shape head reserve) (worn_state inner)
  pub every : inner.every ≡ bad
  pub starts : StartsAt (worn_state inner) head.blocks tally
  pub spare : IsSpareOver head.blocks inner tally die

abbrev pub IsWornStart : ImageHead → ℕ → ℕ → View → Type 0
IsWornStart head reserve bad view = (die : DieState) × IsBlankWorn head reserve bad die × IsPlayStart head die view

-- A step on a die with reserve blocks over a worn one.
pub record IsWornStep (head : ImageHead) (reserve bad : ℕ) (e : Event) : Type 0 where
  pub leaves : (inner : WornMem) × (tally : Tally) × IsSpareOver head.blocks inner tally e.after.device.die
  -- `fault` comes only where afterwards no reserve block is left and more than RESERVE erases have answered Bad
  pub used_up : e.reply ≡ Fault → (inner : WornMem) (tally : Tally) → IsSpareOver head.blocks inner tally e.after.device.die
      → (left_of head.blocks inner tally ≡ 0) × (reserve < bad_erases_of inner)
  -- and hence never where no block goes bad
  pub never : bad ≡ 0 → e.reply ≡ Fault → ⊥

-- ---- the headline

-- what a line of a play keeps, over any die
pub record KeepsPlayHeadline (d : Numbers) (e : Event) : Type 0 where
  -- the reply is one of a plain sector array where only the write or trim under way at a stop is afterwards old or new
  pub replies : Row d.geometry.sector_bytes e.before.array e.line e.reply e.after.array
  -- no cell's charge falls between erases of its block
  pub charge : NeverFalls e.before.device.die e.after.device.die
  -- a second write is declined exactly where no cells above the old carry the sector, and the reply is no `fault`
  pub declined : (sector : ℕ) (bytes : List ℕ) → IsTried d e sector bytes
      → (e.reply ≡ Declined) ↔ ((e.reply ≡ Fault → ⊥) × OfferDeclines d e.before.device (filled_up d.geometry.sector_bytes bytes))
  -- a write fails only where die faults rose
  pub powered : (sector : ℕ) (bytes : List ℕ) → IsTried d e sector bytes → IsWritten e.reply ⊎ FaultsRose e
