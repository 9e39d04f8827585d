-- A workload on a blank die: what `stat` and the reads after it tell.
use Rattle.std.proofs.Common.{◌≡◌, ℕ, zero, suc, ◌<◌, ◌≤◌, false, All, List, [], ◌∷◌, length, get_or, refl, sym, ap, ap₂, ◌∙◌, arith, subst}
use Rattle.std.specs.List.{AllByRecursion}
use Rattle.std.proofs.lemmas.List.Elements.{All-from_recursion}
use Rattle.cell_die.specs.DieState.{DieState}
use Rattle.die_image.specs.declared.head.ImageHead.{ImageHead}
use Rattle.die_image.specs.Schemes.{row_of}
use Rattle.collector.proofs.Rows.{rows_long}
use Rattle.rssd_script.specs.declared.lines.Line.{Line}
use Rattle.rssd_script.specs.declared.lines.Line.TheVariants.{Read, Stat}
use Rattle.rssd_script.specs.Replies.{reply_line}
use Rattle.rssd_work.specs.Workload.{after_words, next_line, words_drawn, workload, workload_from}
use Rattle.rssd_script.specs.declared.replies.Reply.{Reply}
use Rattle.rssd_script.specs.declared.replies.Reply.TheVariants.{Bytes, Stat as Counts}
use Rattle.rssd_core.specs.DeviceValue.{Numbers, rows_of}
use Rattle.rssd_core.specs.SectorArray.{without_zeros}
use Rattle.rssd_run.specs.ArrayWithCuts.{ArrayState, On, Off, Row, StatRow, ReadRow}
use Rattle.rssd_run.specs.View.{View, Event, IsOn, IsArrayOf}
use Rattle.rssd_run.specs.Step.{IsStep, StatAnswer}
use Rattle.rssd_run.specs.Shows.{SessionValue, HasNumbers, StepsSession, stat_of}
use Rattle.rssd_run.specs.Heads.{numbers_named}
use Rattle.rssd_run.specs.DieRuns.{StartsOn}
use Rattle.rssd_run.specs.Workloads.{IsCalmAt, RunsLines, StepsLines, HasRows, held_count, byte_sum, held_line}
use Rattle.rssd_run.specs.Calm.{is_arming, IsCalm}
use Rattle.rssd_run.specs.MakeRuns.{Makes, lines_made, told_of}
use Rattle.rssd_run.proofs.BlankStart.{IsFresh, blank_start}
use Rattle.rssd_run.proofs.Calm.{runs_calmly, start_unarmed}
use Rattle.rssd_run.proofs.CalmLines.{IsCalmStep, calm_step, plain_arming}
use Rattle.rssd_run.proofs.WorkloadLines.{next_line_plain}
use Rattle.rssd_run.proofs.HeldRows.{read_told}

-- ---- the reply to `stat`

stat_row : (size : ℕ) (array : ArrayState) (reply : Reply) (next : ArrayState) → Row size array Stat reply next → StatRow array reply next
stat_row size (On rows) reply next row = row
stat_row size (Off old new) reply next row = row

stat_is : (e : Event) (reply : Reply) (next : ArrayState) → StatRow e.before.array reply next → StatAnswer e reply → (reply ≡ stat_of e.before) × (next ≡ e.before.array)
stat_is e (Counts first second declined moved erased) next row answer =
    (λ i. Counts (answer.0 i) (answer.1 i) (answer.2 i) (answer.3 i) (answer.4 i), row)
stat_is e reply next row answer = absurd row

-- ---- the rows

on_rows : (array : ArrayState) → IsOn array → (rows : List (List ℕ)) × (array ≡ On rows)
on_rows (On rows) on = (rows, refl)
on_rows (Off old new) on = absurd on

rows_stand : (d : Numbers) (rows : List (List ℕ)) (e : Event) → IsStep d e → e.after.array ≡ On rows → length rows ≡ d.geometry.sectors
rows_stand d rows e step on =
    let same : rows_of d e.after.device ≡ rows = subst (IsArrayOf (rows_of d e.after.device)) on step.stands_after in
    sym (ap (length {A = List ℕ}) same) ∙ rows_long d.geometry d.meaning.decoding e.after.device.die.cells

-- ---- a read of a row

pub record IsRowRead (d : Numbers) (session : SessionValue) (rows : List (List ℕ)) (sector : ℕ) (reply : Reply) : Type 0 where
  pub bytes : List ℕ
  pub reply_is : reply ≡ Bytes bytes
  pub row_is : bytes ≡ without_zeros (get_or rows sector [])
  pub has : HasRows d session rows

module _ (d : Numbers) (old new : SessionValue) (rows : List (List ℕ)) (has : HasRows d old rows) (numbers : HasNumbers d new.holding) where
  pub row_read : (sector : ℕ) (reply : Reply) → sector < length rows → StepsSession d (Read sector) reply old new → IsRowRead d new rows sector reply
  row_read sector reply within steps =
      let s : IsCalmStep d new has.view (Read sector) reply = calm_step d (Read sector) reply old new has.view has.calm tt numbers steps in
      let row : ReadRow rows (get_or rows sector []) reply s.after.array
      = subst (λ (array : ArrayState). Row d.geometry.sector_bytes array (Read sector) reply s.after.array) has.on s.step.row in
      let as_many = has.as_many in
      let told = read_told rows (get_or rows sector []) reply s.after.array row s.never.no_fault
      (λ range. let past : d.geometry.sectors ≤ sector = (s.step.answers.refused.range.0 range).1 in omega (arith, past, within, as_many)) in
      record {
        bytes = told.bytes;
        reply_is = told.reply_is;
        row_is = told.row_is;
        has = record { view = s.after; calm = s.calm; on = told.same; as_many = as_many };
      }

-- ---- the whole run

pub calm_start : (head : ImageHead) (die : DieState) → IsFresh head die → (session : SessionValue) → (starts : StartsOn head die session) → IsCalmAt (numbers_named head) session starts.view
calm_start head die fresh session starts =
    let blank = blank_start head die fresh starts.view starts.start in
    let unarmed = start_unarmed head starts.view blank in
    record {
      numbers = starts.numbers;
      shows = starts.shows;
      on = subst IsOn (sym starts.start.rows) tt;
      sound = blank.sound;
      no_cut = unarmed.cut;
      no_read_failure = unarmed.read;
    }

-- the lines that were stepped are those of the head
pub stepped_named : (head : ImageHead) (seed count sector_bytes : ℕ) → sector_bytes ≡ (row_of head.scheme).sector_bytes → (old mid : SessionValue)
    → StepsLines (numbers_named head) (workload seed count head.sectors sector_bytes) old mid → StepsLines (numbers_named head) (lines_made head seed count) old mid
stepped_named head seed count sector_bytes same old mid steps =
    subst (λ (n : ℕ). StepsLines (numbers_named head) (workload seed count head.sectors n) old mid) same steps

-- a run of the workload, the reply to `stat` after it, and the rows that are then read
pub record IsMade (head : ImageHead) (seed count : ℕ) (stat : Reply) (session : SessionValue) : Type 0 where
  pub made : Makes head seed count
  pub stat_is : stat ≡ stat_of made.after
  pub has : HasRows (numbers_named head) session made.rows

module _ (head : ImageHead) (die : DieState) (fresh : IsFresh head die) (seed count : ℕ) (old mid new : SessionValue) (starts : StartsOn head die old)
    (stepped : StepsLines (numbers_named head) (lines_made head seed count) old mid) (stat : Reply) where
  pub is_made : ((d : Numbers) → HasNumbers d mid.holding → HasNumbers d new.holding) → ((d : Numbers) → HasNumbers d mid.holding → StepsSession d Stat stat mid new) → IsMade head seed count stat new
  is_made numbers steps =
      let d = numbers_named head in
      let r : (after : View) × IsCalmAt d mid after × RunsLines d starts.view (lines_made head seed count) after = stepped starts.view (calm_start head die fresh old starts) in
      let s : IsCalmStep d new r.0 Stat stat = calm_step d Stat stat mid new r.0 r.1 tt (numbers d r.1.numbers) (steps d r.1.numbers) in
      let e : Event = record { line = Stat; reply = stat; before = r.0; after = s.after } in
      let told = stat_is e stat s.after.array (stat_row d.geometry.sector_bytes r.0.array stat s.after.array s.step.row) s.step.answers.stat in
      let rows = on_rows r.0.array r.1.on in
      let on : s.after.array ≡ On rows.0 = told.1 ∙ rows.1 in
      record {
        made = record {
          before = starts.view;
          start = blank_start head die fresh starts.view starts.start;
          after = r.0;
          run = r.2;
          rows = rows.0;
          on = rows.1;
        };
        stat_is = told.0;
        has = record { view = s.after; calm = s.calm; on = on; as_many = rows_stand d rows.0 e s.step on };
      }

-- the two lines tell it
pub told_same : {head : ImageHead} {seed count : ℕ} {stat : Reply} {session : SessionValue} (m : IsMade head seed count stat session) (first second : List ℕ) (held total : ℕ)
    → first ≡ reply_line stat → second ≡ held_line held total → held ≡ held_count m.made.rows → total ≡ byte_sum m.made.rows → (first ∷ second ∷ []) ≡ told_of m.made
told_same m first second held total first_is second_is held_is total_is =
    λ i. (first_is ∙ ap reply_line m.stat_is) i ∷ (second_is ∙ ap₂ held_line held_is total_is) i ∷ []

-- ---- no reply of it is a fault

plain_lines : (sectors sector_bytes count state : ℕ) → AllByRecursion (λ (line : Line). is_arming line ≡ false) (workload_from count sectors sector_bytes state)
unfolding workload_from
plain_lines sectors sector_bytes zero state = tt
plain_lines sectors sector_bytes (suc count) state = (
  plain_arming (next_line sectors sector_bytes state) (next_line_plain sectors sector_bytes state),
  plain_lines sectors sector_bytes count (after_words (words_drawn sector_bytes state) state),
)

pub makes_calmly : (head : ImageHead) (seed count : ℕ) (made : Makes head seed count) → IsCalm made.run.events
makes_calmly head seed count made =
    runs_calmly (numbers_named head) made.before made.run.events made.after made.run.run (start_unarmed head made.before made.start)
    (subst IsOn (sym made.start.zeros) tt)
    (subst (All (λ (line : Line). is_arming line ≡ false)) (sym made.run.of_lines)
    (All-from_recursion (λ (line : Line). is_arming line ≡ false) (lines_made head seed count) (plain_lines head.sectors (row_of head.scheme).sector_bytes count seed)))
