-- What was told, and failures behind it.
use Rattle.std.proofs.Common.{◌≡◌, true, false, List, [], ◌∷◌, ◌++◌, Result, Ok, Err, ap, sym, ◌∙◌, append_assoc, true≢false}
use Rattle.std.specs.Prelude.{OnOk, OnErr, is_err, if◌then◌else◌}
use Rattle.rssd_io.specs.Event.{Event, HasFailed, Flushed, flushed, failed}
use Rattle.rssd_io.specs.Pieces.{Gives, all_given}
use Rattle.rssd_io.proofs.Logs.{came_behind, given_append, failed_since}
use Rattle.count_die.specs.declared.tally.Tally.{Tally}
use Rattle.count_die.specs.Tallies.{counted_of, blocks_of}
use Rattle.count_die.specs.Covers.{Covers}
use Rattle.rssd_core.specs.DeviceValue.{DeviceValue}
use Rattle.lab_tables.specs.Tables.{kind_table, block_table}
use Rattle.lab_stream.proofs.Takes.{failed_later}
use Rattle.rssd_lab.specs.declared.telling.Telling.{Telling}
use Rattle.rssd_lab.specs.declared.score.Score.{Score}
use Rattle.rssd_lab.specs.Runs.{handed, is_due, row_now, TellsAtEnd}

pub at_err : {T E : Type 0} (r : Result T E) (P : Type 0) → is_err r ≡ true → OnErr r P → P
at_err (Ok x) P e holds = absurd (true≢false (sym e))
at_err (Err x) P e holds = holds

pub at_ok : {T E : Type 0} (r : Result T E) (P : Type 0) → is_err r ≡ false → OnOk r P → P
at_ok (Ok x) P e holds = holds
at_ok (Err x) P e holds = absurd (true≢false e)

-- a call that may have failed behind events
pub fault_later : {T E : Type 0} (r : Result T E) (old between new events : List Event) → between ≡ old ++ events → OnErr r (HasFailed between new) → OnErr r (HasFailed old new)
fault_later (Ok x) old between new events came holds = tt
fault_later (Err x) old between new events came failed = failed_later old between new events came failed

module _ (telling : Telling) (device : DeviceValue) (score : Score) (tally : Tally) (old row kinds blocks : List Event)
    (row_given : row ≡ old ++ handed (if is_due telling score then [] else row_now device score ∷ []))
    (kinds_given : Gives (kind_table score.answers) row kinds)
    (blocks_given : Gives (block_table (counted_of tally) (blocks_of tally)) kinds blocks) where
  tables : blocks ≡ old ++ (handed (if is_due telling score then [] else row_now device score ∷ []) ++ all_given (kind_table score.answers ++ block_table (counted_of tally) (blocks_of tally)))
  tables =
      let h = handed (if is_due telling score then [] else row_now device score ∷ []) in
      let k = all_given (kind_table score.answers) in
      let b = all_given (block_table (counted_of tally) (blocks_of tally)) in
      let two = came_behind old row kinds h k row_given kinds_given in
      came_behind old kinds blocks (h ++ k) b two blocks_given
      ∙ ap (λ (log : List Event). old ++ log) (append_assoc h k b
      ∙ ap (λ (log : List Event). h ++ log) (sym (given_append (kind_table score.answers) (block_table (counted_of tally) (blocks_of tally)))))

  pub tells_ok : {E : Type 0} (r : Result (Unit {0}) E) (new : List Event) → Covers device.view.die.shape tally → Flushed r blocks new → OnOk r (TellsAtEnd telling device score old new)
  tells_ok (Ok x) new covers flushes = record { tally = tally; covers = covers; log = came_behind old blocks new _ (flushed ∷ []) tables flushes }
  tells_ok (Err x) new covers flushes = tt

  pub tells_err : {E : Type 0} (r : Result (Unit {0}) E) (new : List Event) → Flushed r blocks new → OnErr r (HasFailed old new)
  tells_err (Ok x) new flushes = tt
  tells_err (Err x) new flushes = failed_since old new _ (came_behind old blocks new _ (failed ∷ []) tables flushes)
