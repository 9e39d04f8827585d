-- Where nothing is armed and no line arms anything, no reply is `fault` or `no spare`, and the array stays on while memory lasts.
use Rattle.std.proofs.Common.{◌≡◌, ◌⊎◌, inl, inr, ℕ, ◌<◌, false, All, IsTrue, List, [], ◌∷◌, length, slice_index_or, refl, sym, ap, ◌∙◌, arith, subst}
use Rattle.std.proofs.lemmas.Bool.{cases_lt, false≢true}
use Rattle.std.proofs.lemmas.List.{get_or_past}
use Rattle.rssd_core.specs.SectorArray.{written, trimmed}
use Rattle.std.specs.List.{AllByRecursion}
use Rattle.std.proofs.lemmas.List.Elements.{All-from_recursion, All-head, All-tail}
use Rattle.cell_die.specs.DieState.{DieState}
use Rattle.cell_die.specs.Calls.{IsQuiet}
use Rattle.page_codec.specs.Geometry.{Geometry}
use Rattle.page_codec.specs.Sound.{live_count}
use Rattle.page_codec.specs.TrueBook.{IsTrueState, IsTrueBook, live_map}
use Rattle.block_state.specs.declared.state.State.{State}
use Rattle.block_state.specs.declared.state.State.TheVariants.{Clean, Active, Used, Recycled, Reused, Spare}
use Rattle.block_state.specs.State.{is_spare}
use Rattle.block_state.specs.Book.{BookValue, IsSpare, state_at}
use Rattle.rssd_io.specs.Event.{Event as Act}
use Rattle.rssd_script.specs.declared.lines.Line.{Line}
use Rattle.rssd_script.specs.declared.lines.Line.TheVariants.{Write, Read, Trim, Idle, Cut, FailRead, Mount, Stat}
use Rattle.rssd_script.specs.declared.replies.Reply.{Reply}
use Rattle.rssd_script.specs.declared.replies.Reply.TheVariants.{First, Second, Declined, Bytes, Done, Moves, Stat as Counts, Range, Long, Off as SaysOff, Fault, Spent, NoSpare, NoMemory}
use Rattle.rssd_core.specs.DeviceValue.{Numbers, DeviceView}
use Rattle.rssd_core.specs.Failures.{cut_of, read_failure_of}
use Rattle.rssd_run.specs.ArrayWithCuts.{ArrayState, On, Off, Row, OnRow, OffRow, RefusedRow, WriteRow, TrimRow, ReadRow, IdleRow, ArmRow, StatRow, MountRow}
use Rattle.rssd_run.specs.View.{View, Event, IsOn, IsOff, IsCommand}
use Rattle.rssd_run.specs.Armed.{IsArming}
use Rattle.rssd_run.specs.Step.{IsStep, IsRefusal}
use Rattle.rssd_run.specs.Run.{IsRun, CalmFor, lines_of}
use Rattle.rssd_run.specs.Calm.{is_arming, NeverFails, OffAfterNoMemory, IsCalm}
use Rattle.rssd_run.specs.Heads.{numbers_named}
use Rattle.rssd_run.specs.DieRuns.{IsStart, RunsTo, RunsOn}
use Rattle.rssd_run.specs.Replays.{IsBlankStart, Replays}
use Rattle.rssd_run.proofs.DieStart.{quiet_after}
use Rattle.die_image.specs.declared.head.ImageHead.{ImageHead}

-- some block has no live record
abbrev HasFree : Geometry → List (List ℕ) → Type 0
HasFree g cells = (block : ℕ) × (block < g.blocks) × (live_count g cells block ≡ 0)

-- nothing is armed, and some block has no live record
pub record IsUnarmed (d : Numbers) (view : View) : Type 0 where
  pub cut : cut_of view.device.die ≡ 0
  pub read : read_failure_of view.device.die ≡ 0
  pub free : HasFree d.geometry view.device.die.cells

never_arming : (line : Line) (reply : Reply) → is_arming line ≡ false → IsArming line reply → ⊥
never_arming (Write sector bytes) reply e arming = arming
never_arming (Read sector) reply e arming = arming
never_arming (Trim sector) reply e arming = arming
never_arming (Idle n) reply e arming = arming
never_arming (Cut n torn) reply e arming = cc
never_arming (FailRead n) reply e arming = cc
never_arming Mount reply e arming = arming
never_arming Stat reply e arming = arming

pub step_fails : (d : Numbers) (e : Event) → IsStep d e → IsUnarmed d e.before → NeverFails e
step_fails d e step unarmed = record {
  no_fault = λ fault. elim (step.fault.came.0 fault) [
    | inl cut ↦ (let armed = cut.0 in let none = unarmed.cut in omega (arith, armed, none))
    | inr read ↦ (let armed = read.0 in let none = unarmed.read in omega (arith, armed, none))
  ];
  no_spare_found = λ said.
      let live = (step.answers.no_spare.only said).2 unarmed.free.0 unarmed.free.1 in
      let none = unarmed.free.2 in
      omega (arith, live, none);
}

-- ---- the array stays on

is_on : (rows : List (List ℕ)) (next : ArrayState) → next ≡ On rows → IsOn next
is_on rows next e = subst IsOn (sym e) tt

pub write_on : (rows new : List (List ℕ)) (reply : Reply) (next : ArrayState) → WriteRow rows new reply next → (reply ≡ Fault → ⊥) → IsOn next
write_on rows new First next row good = is_on new next row
write_on rows new Second next row good = is_on new next row
write_on rows new Declined next row good = is_on new next row
write_on rows new Fault next row good = absurd (good refl)
write_on rows new Range next row good = is_on rows next row
write_on rows new Long next row good = is_on rows next row
write_on rows new Spent next row good = is_on rows next row
write_on rows new reply next row good = absurd row

pub trim_on : (rows new : List (List ℕ)) (reply : Reply) (next : ArrayState) → TrimRow rows new reply next → (reply ≡ Fault → ⊥) → IsOn next
trim_on rows new Done next row good = is_on new next row
trim_on rows new Fault next row good = absurd (good refl)
trim_on rows new Range next row good = is_on rows next row
trim_on rows new Spent next row good = is_on rows next row
trim_on rows new reply next row good = absurd row

pub read_on : (rows : List (List ℕ)) (bytes : List ℕ) (reply : Reply) (next : ArrayState) → ReadRow rows bytes reply next → IsOn next
read_on rows bytes (Bytes told) next row = is_on rows next row.1
read_on rows bytes Fault next row = is_on rows next row
read_on rows bytes Range next row = is_on rows next row
read_on rows bytes reply next row = absurd row

pub idle_on : (rows : List (List ℕ)) (reply : Reply) (next : ArrayState) → IdleRow rows reply next → (reply ≡ Fault → ⊥) → IsOn next
idle_on rows (Moves n) next row good = is_on rows next row
idle_on rows Fault next row good = absurd (good refl)
idle_on rows reply next row good = absurd row

arm_on : (rows : List (List ℕ)) (reply : Reply) (next : ArrayState) → ArmRow rows reply next → IsOn next
arm_on rows Done next row = is_on rows next row
arm_on rows reply next row = absurd row

pub stat_on : (rows : List (List ℕ)) (reply : Reply) (next : ArrayState) → StatRow (On rows) reply next → IsOn next
stat_on rows (Counts first second declined moved erased) next row = is_on rows next row
stat_on rows reply next row = absurd row

mount_on : (rows : List (List ℕ)) (reply : Reply) (next : ArrayState) → MountRow rows reply next → (reply ≡ Fault → ⊥) → (reply ≡ NoSpare → ⊥) → (reply ≡ NoMemory → ⊥) → IsOn next
mount_on rows Done next row good spare memory = is_on rows next row
mount_on rows Fault next row good spare memory = absurd (good refl)
mount_on rows NoSpare next row good spare memory = absurd (spare refl)
mount_on rows NoMemory next row good spare memory = absurd (memory refl)
mount_on rows reply next row good spare memory = absurd row

line_on : (size : ℕ) (rows : List (List ℕ)) (line : Line) (reply : Reply) (next : ArrayState) → OnRow size rows line reply next → (reply ≡ Fault → ⊥) → (reply ≡ NoSpare → ⊥)
    → (reply ≡ NoMemory → ⊥) → IsOn next
line_on size rows (Write sector bytes) reply next row good spare memory = write_on rows (written size rows sector bytes) reply next row good
line_on size rows (Read sector) reply next row good spare memory = read_on rows (slice_index_or rows sector []) reply next row
line_on size rows (Trim sector) reply next row good spare memory = trim_on rows (trimmed size rows sector) reply next row good
line_on size rows (Idle n) reply next row good spare memory = idle_on rows reply next row good
line_on size rows (Cut n torn) reply next row good spare memory = arm_on rows reply next row
line_on size rows (FailRead n) reply next row good spare memory = arm_on rows reply next row
line_on size rows Mount reply next row good spare memory = mount_on rows reply next row good spare memory
line_on size rows Stat reply next row good spare memory = stat_on rows reply next row

row_on : (size : ℕ) (array : ArrayState) (line : Line) (reply : Reply) (next : ArrayState) → IsOn array → Row size array line reply next → (reply ≡ Fault → ⊥) → (reply ≡ NoSpare → ⊥)
    → (reply ≡ NoMemory → ⊥) → IsOn next
row_on size (On rows) line reply next on row good spare memory = line_on size rows line reply next row good spare memory
row_on size (Off old new) line reply next on row good spare memory = absurd on

not_both : (array : ArrayState) → IsOn array → IsOff array → ⊥
not_both (On rows) on off = off
not_both (Off old new) on off = on

-- ---- some block stays without a live record

spare_is_free : (g : Geometry) (cells : List (List ℕ)) (block : ℕ) (state : State) → IsTrue (is_spare state) → IsTrueState g cells block state → live_count g cells block ≡ 0
spare_is_free g cells block (Spare blank) is free = free.free
spare_is_free g cells block Clean is free = absurd (false≢true is)
spare_is_free g cells block (Active fill) is free = absurd (false≢true is)
spare_is_free g cells block (Used level) is free = absurd (false≢true is)
spare_is_free g cells block (Recycled level next) is free = absurd (false≢true is)
spare_is_free g cells block Reused is free = absurd (false≢true is)

spare_within : (book : BookValue) (block : ℕ) → IsSpare book block → block < length book.states
spare_within book block is = elim (cases_lt block (length book.states)) [
  | inl within ↦ within
  | inr past ↦ absurd (false≢true (subst (λ (state : State). IsTrue (is_spare state)) (get_or_past book.states block Clean past) is))
]

-- a true book has a Spare block
book_free : (d : Numbers) (cells : List (List ℕ)) (book : BookValue) (seq : ℕ) → IsTrueBook d.geometry d.reuse_max cells book (live_map d.geometry cells) seq → HasFree d.geometry cells
book_free d cells book seq true_book =
    let t = true_book.tables in
    let block = t.one_spare.0 in
    let within = spare_within book block t.one_spare.1 in
    let below : block < d.geometry.blocks = omega (arith, within, t.sizes.blocks) in
    (block, below, spare_is_free d.geometry cells block (state_at book block) t.one_spare.1 (t.states block below))

-- a line that leaves the array off is refused, or is no command
is_command : (line : Line) → IsCommand line ⊎ (IsCommand line → ⊥)
is_command (Write sector bytes) = inl tt
is_command (Read sector) = inr (λ command. command)
is_command (Trim sector) = inl tt
is_command (Idle n) = inl tt
is_command (Cut n torn) = inr (λ command. command)
is_command (FailRead n) = inr (λ command. command)
is_command Mount = inr (λ command. command)
is_command Stat = inr (λ command. command)

command_on : (size : ℕ) (rows : List (List ℕ)) (line : Line) (reply : Reply) (next : ArrayState) → IsCommand line → OnRow size rows line reply next → (reply ≡ Fault → ⊥) → IsOn next
command_on size rows (Write sector bytes) reply next command row good = write_on rows (written size rows sector bytes) reply next row good
command_on size rows (Trim sector) reply next command row good = trim_on rows (trimmed size rows sector) reply next row good
command_on size rows (Idle n) reply next command row good = idle_on rows reply next row good
command_on size rows (Read sector) reply next command row good = absurd command
command_on size rows (Cut n torn) reply next command row good = absurd command
command_on size rows (FailRead n) reply next command row good = absurd command
command_on size rows Mount reply next command row good = absurd command
command_on size rows Stat reply next command row good = absurd command

only_off : (state next : ArrayState) (reply : Reply) → RefusedRow state reply next → IsRefusal reply
only_off state next SaysOff row = tt
only_off state next reply row = absurd row

refused_off : (size : ℕ) (old new : List (List ℕ)) (line : Line) (reply : Reply) (next : ArrayState) → IsCommand line → OffRow old new line reply next → IsRefusal reply
refused_off size old new (Write sector bytes) reply next command row = only_off (Off old new) next reply row
refused_off size old new (Trim sector) reply next command row = only_off (Off old new) next reply row
refused_off size old new (Idle n) reply next command row = only_off (Off old new) next reply row
refused_off size old new (Read sector) reply next command row = absurd command
refused_off size old new (Cut n torn) reply next command row = absurd command
refused_off size old new (FailRead n) reply next command row = absurd command
refused_off size old new Mount reply next command row = absurd command
refused_off size old new Stat reply next command row = absurd command

on_or_refused : (size : ℕ) (array : ArrayState) (line : Line) (reply : Reply) (next : ArrayState) → IsCommand line → Row size array line reply next → (reply ≡ Fault → ⊥) → IsOn next ⊎ IsRefusal reply
on_or_refused size (On rows) line reply next command row good = inl (command_on size rows line reply next command row good)
on_or_refused size (Off old new) line reply next command row good = inr (refused_off size old new line reply next command row)

step_free : (d : Numbers) (e : Event) → IsStep d e → IsUnarmed d e.before → HasFree d.geometry e.after.device.die.cells
step_free d e step unarmed =
    let same : IsRefusal e.reply ⊎ (IsCommand e.line → ⊥) → HasFree d.geometry e.after.device.die.cells =
    λ stays. subst (HasFree d.geometry) (sym (step.answers.stays stays).cells) unarmed.free in
    elim (is_command e.line) [
      | inr other ↦ same (inr other)
      | inl command ↦ elim (on_or_refused d.geometry.sector_bytes e.before.array e.line e.reply e.after.array command step.row (step_fails d e step unarmed).no_fault) [
        | inl on ↦ book_free d e.after.device.die.cells e.after.device.book e.after.device.seq (step.true_book on)
        | inr refused ↦ same (inl refused)
      ]
    ]

pub step_unarmed : (d : Numbers) (e : Event) → IsStep d e → IsUnarmed d e.before → is_arming e.line ≡ false → IsUnarmed d e.after
step_unarmed d e step unarmed other =
    let low = step.armed.lowers (never_arming e.line e.reply other) (step_fails d e step unarmed).no_fault in
    let cut = low.cut.lower in
    let read = low.read_bound.no_later in
    let no_cut = unarmed.cut in
    let no_read = unarmed.read in
    record { cut = omega (arith, cut, no_cut); read = omega (arith, read, no_read); free = step_free d e step unarmed }

-- ---- whole runs

runs_on : (d : Numbers) (before : View) (events : List Event) (after : View) → IsRun d before events after → IsUnarmed d before → IsOn before.array
    → AllByRecursion (λ (e : Event). is_arming e.line ≡ false) events → OffAfterNoMemory events
unfolding IsRun
runs_on d before [] after run unarmed on none = tt
runs_on d before (e ∷ events) after run unarmed on none =
    let here : IsUnarmed d e.before = subst (IsUnarmed d) (sym run.0) unarmed in
    let on_here : IsOn e.before.array = subst (λ (view : View). IsOn view.array) (sym run.0) on in
    let never : NeverFails e = step_fails d e run.1 here in (
      λ said. not_both e.before.array on_here (run.1.answers.refused.off.0 said).0,
      λ memory. runs_on d e.after events after run.2 (step_unarmed d e run.1 here none.0)
          (row_on d.geometry.sector_bytes e.before.array e.line e.reply e.after.array on_here run.1.row never.no_fault never.no_spare_found memory) none.1,
    )

runs_never_fail : (d : Numbers) (before : View) (events : List Event) (after : View) → IsRun d before events after → IsUnarmed d before
    → AllByRecursion (λ (e : Event). is_arming e.line ≡ false) events → AllByRecursion NeverFails events
unfolding IsRun
runs_never_fail d before [] after run unarmed none = tt
runs_never_fail d before (e ∷ events) after run unarmed none =
    let here : IsUnarmed d e.before = subst (IsUnarmed d) (sym run.0) unarmed in
    (step_fails d e run.1 here, runs_never_fail d e.after events after run.2 (step_unarmed d e run.1 here none.0) none.1)

each_line : (events : List Event) → All (λ line. is_arming line ≡ false) (lines_of events) → AllByRecursion (λ (e : Event). is_arming e.line ≡ false) events
each_line [] none = tt
each_line (e ∷ events) none = (All-head (λ line. is_arming line ≡ false) e.line (lines_of events) none, each_line events (All-tail (λ line. is_arming line ≡ false) e.line (lines_of events) none))

pub runs_calmly : (d : Numbers) (before : View) (events : List Event) (after : View) → IsRun d before events after → IsUnarmed d before → IsOn before.array
    → All (λ line. is_arming line ≡ false) (lines_of events) → IsCalm events
runs_calmly d before events after run unarmed on none = record {
  never_fail = All-from_recursion NeverFails events (runs_never_fail d before events after run unarmed (each_line events none));
  off = runs_on d before events after run unarmed on (each_line events none);
}

-- ---- the first view of a run

pub start_unarmed : (head : ImageHead) (view : View) → IsBlankStart head view → IsUnarmed (numbers_named head) view
start_unarmed head view start =
    let same : view.device.die ≡ start.device.view.die = ap (λ (v : DeviceView). v.die) start.same in
    let q = quiet_after _ _ start.die.failures start.device.view.die.failures start.blank.quiet start.mounts.calls.failures in
    record { cut = ap cut_of same ∙ q.0; read = ap read_failure_of same ∙ q.1; free = start.sound.one_free }

pub replays_calmly : (head : ImageHead) (lines : List Line) (log log_after : List Act) (r : Replays head lines log log_after) → All (λ line. is_arming line ≡ false) lines → IsCalm r.run.events
replays_calmly head lines log log_after r none =
    runs_calmly (numbers_named head) r.before r.run.events r.after r.run.run (start_unarmed head r.before r.start)
    (subst IsOn (sym r.start.zeros) tt) (subst (All (λ line. is_arming line ≡ false)) (sym r.run.of_lines) none)

-- a device that was mounted on an image has a Spare block
image_unarmed : (head : ImageHead) (die : DieState) (view : View) → IsQuiet die → IsStart head die view → IsUnarmed (numbers_named head) view
image_unarmed head die view quiet start =
    let d = numbers_named head in
    let same : view.device.die ≡ start.device.view.die = ap (λ (v : DeviceView). v.die) start.same in
    let q = quiet_after _ _ die.failures start.device.view.die.failures quiet start.mounts.calls.failures in
    record {
      cut = ap cut_of same ∙ q.0;
      read = ap read_failure_of same ∙ q.1;
      free = subst (HasFree d.geometry) (ap (λ (die : DieState). die.cells) (sym same))
          (book_free d start.device.view.die.cells start.device.view.book start.device.view.seq (start.mounts.true_book start.mounts.running));
    }

pub images_calmly : (head : ImageHead) (die : DieState) (lines : List Line) (log log_after : List Act) (last : DieState) (quiet : IsQuiet die) (r : RunsOn head die lines log log_after last)
    (calm : CalmFor (numbers_named head) die lines) → All (λ line. is_arming line ≡ false) lines → IsCalm (r.run calm).run.events
images_calmly head die lines log log_after last quiet r calm none =
    let to : RunsTo (numbers_named head) r.before lines log log_after last = r.run calm in
    runs_calmly (numbers_named head) r.before to.run.events to.after to.run.run (image_unarmed head die r.before quiet r.start)
    (subst IsOn (sym r.start.rows) tt) (subst (All (λ line. is_arming line ≡ false)) (sym to.run.of_lines) none)
