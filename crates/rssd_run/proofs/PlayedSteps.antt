-- What a line on a device leaves is a played step, on a die that need not tell its power.
use Rattle.std.proofs.Common.{◌≡◌, ◌≢◌, ◌⊎◌, ◌^◌, ◌<◌, ◌≤◌, length, subst, Bool, inl, inr, ℕ, List, true, false, refl, arith, sym, ap, ◌∙◌}
use Rattle.std.proofs.lemmas.Option.{none-some}
use Rattle.cell_die.specs.Counts.{count_sum}
use Rattle.cell_die.specs.Changes.{SameCells}
use Rattle.rssd_script.specs.declared.lines.Line.{Line}
use Rattle.rssd_script.specs.declared.lines.Line.TheVariants.{Write, Read, Trim, Idle, Cut, FailRead, Mount, Stat}
use Rattle.rssd_script.specs.declared.replies.Reply.{Reply}
use Rattle.rssd_script.specs.declared.replies.Reply.TheVariants.{First, Second, Declined, Bytes, Done, Moves, Fault, NoSpare}
use Rattle.rssd_core.specs.declared.device.Placed.TheVariants.{First as PutFirst, Second as PutSecond, Declined as PutDeclined}
use Rattle.rssd_core.specs.SectorArray.{filled_up, written, trimmed}
use Rattle.rssd_core.specs.BookChanges.{Change}
use Rattle.rssd_core.specs.DeviceValue.{Numbers, DeviceView, DeviceValue, rows_of}
use Rattle.rssd_core.specs.Moves.{MovesBook}
use Rattle.rssd_core.specs.Outcomes.{ReadFault, ChangeFault}
use Rattle.rssd_core.specs.Outcomes.{}
use Rattle.rssd_core.specs.Within.{WithinWrite, WithinTrim, WithinIdle, holds_bytes, record_of}
use Rattle.rssd_run.specs.ArrayWithCuts.{On, Off}
use Rattle.rssd_run.specs.View.{View, Event}
use Rattle.rssd_run.specs.Held.{Tallies, plus, on, off}
use Rattle.rssd_run.specs.Moves.{BookMoves}
use Rattle.rssd_run.specs.Placing.{IsTried, PlacedExactly}
use Rattle.rssd_run.specs.Step.{IsStep, OffExactly, FaultExactly, OutOfRange, TooLong, NumbersSpent, RefusedExactly, IdleAnswer}
use Rattle.rssd_run.specs.Step.{StatAnswer, IsRefusal, TalliesRise, TrueWhileOn, firsts, seconds, declines}
use Rattle.rssd_run.specs.View.{StandsFor, IsOn, IsCommand, NoFailure, faults}
use Rattle.rssd_run.specs.Armed.{Arms, IsArming, Within, FaultWithin, change_calls, read_calls, BoundOnly}
use Rattle.rssd_run.specs.Moves.{ByRules, MovesRecords, MayChange}
use Rattle.rssd_run.specs.Leaves.{Leaves}
use Rattle.rssd_run.specs.Held.{reply_of}
use Rattle.rssd_run.specs.ArrayWithCuts.{ArrayState, Row}
use Rattle.rssd_core.specs.declared.device.Placed.{Placed}
use Rattle.rssd_core.specs.Outcomes.{firsts as put_firsts, seconds as put_seconds, declines as put_declines, SameCounts, Trimmed}
use Rattle.rssd_core.specs.Outcomes.{TrimFault, WriteFault, OnlyDie, RisesSealed, WriteFaultMay, TrimFaultMay}
use Rattle.rssd_core.specs.Writes.{WentTo}
use Rattle.rssd_core.specs.Within.{Went}
use Rattle.rssd_core.specs.Failures.{Tells, TellsPower, Lowers}
use Rattle.cell_die.specs.Counts.{Rose}
use Rattle.cell_die.specs.Calls.{ChangeFailed, ReadFailed}
use Rattle.rssd_run.proofs.Came.{ACutCame, change_came, AReadCame, read_came, went_lowers, none_came, went_power}
use Rattle.rssd_run.proofs.Parts.{no_fault}
use Rattle.rssd_run.specs.Played.{IsPlayed, WroteSo, WriteFailed, ReadSo, ReadWithFault, TrimmedSo, TrimFailed, PlacedSo, PlayedBook, IsPlayedStep}
use Rattle.rssd_core.specs.Outcomes.{Holds, Idled, IdleFault}
use Rattle.rssd_run.proofs.Came.{change_rose, read_rose, passed_went, went_tells, change_failed_tells, read_failed_tells}
use Rattle.rssd_run.proofs.Parts.{not_refused, keeps, plus_book, plus_seq, clean_plus, gets_plus, over_draws_plus, erased_plus, trim_plus_leaves, write_book_so, trim_book_so}
use Rattle.rssd_run.proofs.Still.{keeps_cells, same_book, same_seq}
use Rattle.rssd_run.proofs.Parts.{event_of, sector_in, bytes_in, offered_both, over_plus, neither, moves_plus, unfinished_plus, bounded}

-- ---- a step whose die tells its power is a played step too

pub book_at_cut : {d : Numbers} {old new : DeviceView} {May : List Change → Type 0} {Rises : List Change → ℕ → Type 0} {AtCut Then : ℕ → Type 0} (book : MovesBook d May Rises AtCut old new)
    → Then book.rise → MovesBook d May Rises Then old new
book_at_cut book at = record { changes = book.changes; leads = book.leads; may = book.may; rise = book.rise; rises = book.rises; tally = book.tally; at_cut = at }

pub played_book : (d : Numbers) (before after : View) (line : Line) (reply : Reply) → IsPlayed line → BookMoves d (event_of line reply before after) line reply
    → PlayedBook d (event_of line reply before after)
played_book d before after (Write sector bytes) reply is m = record { book = book_at_cut m.0.book tt; seq = m.0.seq; records = m.1 }
played_book d before after (Read sector) reply is m = record { book = book_at_cut m.0.book tt; seq = m.0.seq; records = m.1 }
played_book d before after (Trim sector) reply is m = record { book = book_at_cut m.0.book tt; seq = m.0.seq; records = m.1 }
played_book d before after (Idle n) reply is m = record { book = book_at_cut m.0.book tt; seq = m.0.seq; records = m.1 }
played_book d before after (Cut n torn) reply is m = absurd is
played_book d before after (FailRead n) reply is m = absurd is
played_book d before after Mount reply is m = absurd is
played_book d before after Stat reply is m = absurd is

pub step_played : (d : Numbers) (before after : View) (line : Line) (reply : Reply) → IsPlayed line → IsStep d (event_of line reply before after) → IsPlayedStep d (event_of line reply before after)
step_played d before after line reply is s = record {
  row = s.row;
  stands_before = s.stands_before;
  stands_after = s.stands_after;
  off = s.off;
  keeps = s.keeps;
  placed = λ sector bytes tried.
      let p : PlacedExactly d (event_of line reply before after) sector (filled_up d.geometry.sector_bytes bytes) = s.placed sector bytes tried in
      record {
        second = (λ h. (λ fault. (p.second.0 h).0 (s.fault.came.0 fault), (p.second.0 h).1), λ h. p.second.1 (λ came. h.0 (s.fault.came.1 came), h.1));
        declined = (λ h. (λ fault. (p.declined.0 h).0 (s.fault.came.0 fault), (p.declined.0 h).1), λ h. p.declined.1 (λ came. h.0 (s.fault.came.1 came), h.1));
        first = (λ h. (λ fault. (p.first.0 h).0 (s.fault.came.0 fault), (p.first.0 h).1), λ h. p.first.1 (λ came. h.0 (s.fault.came.1 came), h.1));
        over_unit = p.over_unit;
        on_clean = p.on_clean;
      };
  cause = s.fault.rose;
  refused = s.answers.refused;
  idle = s.answers.idle;
  stays = s.answers.stays;
  tallies = s.answers.tallies;
  true_book = s.true_book;
  moves = played_book d before after line reply is s.moves;
  leaves = s.leaves;
}

-- ---- what every line on a device shares, by how its call ended

-- nothing refuses the line
record Accepted (d : Numbers) (view : View) (line : Line) : Type 0 where
  in_range : OutOfRange d line → ⊥
  fits : TooLong d line → ⊥
  numbers : NumbersSpent view line → ⊥

-- the line's event over a call that passed, and over one in which the die failed
abbrev passed : Numbers → Tallies → DeviceValue → DeviceValue → Line → Reply → Event
passed d base old new line reply = event_of line reply (on d base old) (on d base new)

abbrev failed : Numbers → Tallies → DeviceValue → DeviceValue → Line → ArrayState → Event
failed d base old new line array = event_of line Fault (on d base old) (off base new array)

abbrev PlacedWhere : Numbers → Event → Type 0
PlacedWhere d e = (sector : ℕ) (bytes : List ℕ) → IsTried d e sector bytes → PlacedSo d e sector (filled_up d.geometry.sector_bytes bytes)

accepted_reply : (d : Numbers) (base : Tallies) (old : DeviceValue) (line : Line) (reply : Reply) (after : View) → Accepted d (on d base old) line → (IsRefusal reply → ⊥)
    → RefusedExactly d (event_of line reply (on d base old) after)
accepted_reply d base old line reply after accepted done =
    not_refused d (event_of line reply (on d base old) after) tt accepted.in_range accepted.fits accepted.numbers (λ h. done (subst IsRefusal (sym h) tt))
    (λ h. done (subst IsRefusal (sym h) tt)) (λ h. done (subst IsRefusal (sym h) tt)) (λ h. done (subst IsRefusal (sym h) tt))

module _ (d : Numbers) (base : Tallies) (old new : DeviceValue) (line : Line) (holds : Holds d old new) (command : IsCommand line) (accepted : Accepted d (on d base old) line) where
  -- the line may change the array, and the reply is no refusal
  taken : {A : Type 0} (reply : Reply) → (IsRefusal reply → ⊥) → IsRefusal reply ⊎ (IsCommand line → ⊥) → A
  taken reply done (inl refusal) = absurd (done refusal)
  taken reply done (inr other) = absurd (other command)

  passed_so : {changes reads : ℕ} {Bounded : Type 0} (reply : Reply) → Went changes reads Bounded old.view.die new.view.die → new.stopped ≡ false → reply ≢ Fault → (IsRefusal reply → ⊥)
      → Row d.geometry.sector_bytes (On (rows_of d old.view)) line reply (On (rows_of d new.view)) → PlacedWhere d (passed d base old new line reply)
      → IdleAnswer (passed d base old new line reply) line reply → TalliesRise (passed d base old new line reply) → PlayedBook d (passed d base old new line reply)
      → Leaves d (passed d base old new line reply) line reply → IsPlayedStep d (passed d base old new line reply)
  passed_so reply went running no_fault done row placed idle tallies moves leaves = record {
    stands_before = refl;
    stands_after = refl;
    row = row;
    off = λ h. absurd (no_fault h);
    keeps = keeps d base old new holds (went_tells old.view.die new.view.die went);
    placed = placed;
    cause = λ h. absurd (no_fault h);
    refused = accepted_reply d base old line reply (on d base new) accepted done;
    idle = idle;
    stays = taken reply done;
    tallies = tallies;
    true_book = λ h. holds.true_book running;
    moves = moves;
    leaves = leaves;
  }

  failed_so : (array : ArrayState) → (Tells old.view.die → Tells new.view.die) → Rose (faults old.view.die) (faults new.view.die) → StandsFor d (off base new array)
      → OffExactly (failed d base old new line array) → TrueWhileOn d (off base new array) → SameCounts old.view new.view
      → Row d.geometry.sector_bytes (On (rows_of d old.view)) line Fault array → PlacedWhere d (failed d base old new line array)
      → IdleAnswer (failed d base old new line array) line Fault → PlayedBook d (failed d base old new line array)
      → Leaves d (failed d base old new line array) line Fault → IsPlayedStep d (failed d base old new line array)
  failed_so array tells rose stands parts book counts row placed idle moves leaves = record {
    row = row;
    stands_before = refl;
    stands_after = stands;
    keeps = keeps d base old new holds tells;
    off = λ h c. parts;
    cause = λ h. rose;
    placed = placed;
    refused = accepted_reply d base old line Fault (off base new array) accepted (λ h. h);
    stays = taken Fault (λ h. h);
    idle = idle;
    tallies = record { first = omega (arith, counts.first); second = omega (arith, counts.second); declined = omega (arith, counts.declined) };
    moves = moves;
    true_book = book;
    leaves = leaves;
  }

  read_failed_so : {Within : ℕ → ℕ → Type 0} (f : ReadFault d Within old new) → SameCounts old.view new.view
      → Row d.geometry.sector_bytes (On (rows_of d old.view)) line Fault (On (rows_of d new.view)) → PlacedWhere d (passed d base old new line Fault)
      → IdleAnswer (passed d base old new line Fault) line Fault → PlayedBook d (passed d base old new line Fault) → Leaves d (passed d base old new line Fault) line Fault
      → IsPlayedStep d (passed d base old new line Fault)
  read_failed_so f =
      failed_so (On (rows_of d new.view)) (read_failed_tells old.view.die new.view.die f.failed) (read_rose old.view.die new.view.die f.failed) refl
      (record { only = λ off. absurd off; always = λ on more. omega (arith, f.failed.change_faults, more) }) (λ h. holds.true_book f.running)

  change_failed_so : {Within : ℕ → ℕ → Type 0} {done : List (List ℕ)} (f : ChangeFault d Within done old new) → (rows_of d new.view ≡ rows_of d old.view) ⊎ (rows_of d new.view ≡ done)
      → SameCounts old.view new.view
      → Row d.geometry.sector_bytes (On (rows_of d old.view)) line Fault (Off (rows_of d old.view) done) → PlacedWhere d (failed d base old new line (Off (rows_of d old.view) done))
      → IdleAnswer (failed d base old new line (Off (rows_of d old.view) done)) line Fault → PlayedBook d (failed d base old new line (Off (rows_of d old.view) done))
      → Leaves d (failed d base old new line (Off (rows_of d old.view) done)) line Fault → IsPlayedStep d (failed d base old new line (Off (rows_of d old.view) done))
  change_failed_so {done} f rows =
      failed_so (Off (rows_of d old.view) done) (change_failed_tells old.view.die new.view.die f.failed) (change_rose old.view.die new.view.die f.failed) rows
      (record { only = λ off. f.failed.change_faults; always = λ on. absurd on }) (λ on. absurd on)

-- ---- writes

of_line : (d : Numbers) (e : Event) (sector : ℕ) (bytes : List ℕ) → e.line ≡ Write sector bytes → PlacedSo d e sector (filled_up d.geometry.sector_bytes bytes) → PlacedWhere d e
of_line d e sector bytes line placed s b tried =
    let same : Write sector bytes ≡ Write s b = sym line ∙ tried.write in
    let same_sector : sector ≡ s = ap sector_in same in
    let same_bytes : bytes ≡ b = ap bytes_in same in
    rw (sym same_sector) (rw (sym same_bytes) placed)

not_placed : (d : Numbers) (e : Event) (sector : ℕ) (row : List ℕ) → e.reply ≡ Fault → PlacedSo d e sector row
not_placed d e sector row fault = record {
  second = (λ h. let same : Second ≡ Fault = sym h ∙ fault in cc, λ h. absurd (h.0 fault));
  declined = (λ h. let same : Declined ≡ Fault = sym h ∙ fault in cc, λ h. absurd (h.0 fault));
  first = (λ h. let same : First ≡ Fault = sym h ∙ fault in cc, λ h. absurd (h.0 fault));
  over_unit = λ h. let same : Second ≡ Fault = sym h ∙ fault in cc;
  on_clean = neither (λ h. let same : Declined ≡ Fault = sym h ∙ fault in cc) (λ h. let same : First ≡ Fault = sym h ∙ fault in cc);
}

module _ (d : Numbers) (base : Tallies) (old new : DeviceValue) (sector : ℕ) (bytes : List ℕ) where
  accepted_write : sector < d.geometry.sectors → length bytes ≤ d.geometry.sector_bytes → old.view.seq < 2 ^ 62 → Accepted d (on d base old) (Write sector bytes)
  accepted_write in_range fits fresh = record { in_range = λ h. omega (arith, in_range, h); fits = λ h. omega (arith, fits, h); numbers = λ h. omega (arith, fresh, h) }

  place_first : WentTo d old.view new.view sector (filled_up d.geometry.sector_bytes bytes) PutFirst
      → PlacedSo d (passed d base old new (Write sector bytes) First) sector (filled_up d.geometry.sector_bytes bytes)
  place_first place = record {
    second = (λ h. cc, λ h. absurd (none-some h.1.0 (sym place.0 ∙ h.1.1)));
    declined = (λ h. cc, λ h. absurd (none-some h.1.0 (sym place.0 ∙ h.1.1)));
    first = (λ h. (λ f. cc, place.0), λ h. refl);
    over_unit = λ h. cc;
    on_clean = λ h. clean_plus d base old.view new.view place.1;
  }

  place_second : WentTo d old.view new.view sector (filled_up d.geometry.sector_bytes bytes) PutSecond
      → PlacedSo d (passed d base old new (Write sector bytes) Second) sector (filled_up d.geometry.sector_bytes bytes)
  place_second place = record {
    second = (λ h. (λ f. cc, place.0), λ h. refl);
    declined = (λ h. cc, λ h. absurd (offered_both d old.view (filled_up d.geometry.sector_bytes bytes) place.0 h.1));
    first = (λ h. cc, λ h. absurd (none-some place.0.0 (sym h.1 ∙ place.0.1)));
    over_unit = λ h unit offered. over_plus d base old.view new.view sector (filled_up d.geometry.sector_bytes bytes) unit (place.1 unit offered);
    on_clean = neither (λ h. cc) (λ h. cc);
  }

  place_declined : WentTo d old.view new.view sector (filled_up d.geometry.sector_bytes bytes) PutDeclined
      → PlacedSo d (passed d base old new (Write sector bytes) Declined) sector (filled_up d.geometry.sector_bytes bytes)
  place_declined place = record {
    second = (λ h. cc, λ h. absurd (offered_both d old.view (filled_up d.geometry.sector_bytes bytes) h.1 place.0));
    declined = (λ h. (λ f. cc, place.0), λ h. refl);
    first = (λ h. cc, λ h. absurd (none-some place.0.0 (sym h.1 ∙ place.0.1)));
    over_unit = λ h. cc;
    on_clean = λ h. clean_plus d base old.view new.view place.1;
  }

  -- a write that passed, by what its reply says
  wrote_so : (placed : Placed) (reply : Reply) (a : WroteSo d sector bytes placed old new) → reply ≢ Fault → (IsRefusal reply → ⊥)
      → (firsts reply ≡ put_firsts placed) × (seconds reply ≡ put_seconds placed) × (declines reply ≡ put_declines placed)
      → Row d.geometry.sector_bytes (On (rows_of d old.view)) (Write sector bytes) reply (On (rows_of d new.view))
      → MovesBook d (MayChange (On (rows_of d new.view)) (Write sector bytes) reply) (RisesSealed old.view.book) (λ rise. Unit {0}) (plus base old.view) (plus base new.view)
      → Leaves d (passed d base old new (Write sector bytes) reply) (Write sector bytes) reply
      → PlacedSo d (passed d base old new (Write sector bytes) reply) sector (filled_up d.geometry.sector_bytes bytes)
      → IsPlayedStep d (passed d base old new (Write sector bytes) reply)
  wrote_so placed reply a no_fault done says row book leaves place =
      passed_so d base old new (Write sector bytes) a.holds tt (accepted_write a.in_range a.fits a.wrote.fresh) reply a.wrote.calls a.wrote.running no_fault done row
      (of_line d (passed d base old new (Write sector bytes) reply) sector bytes refl place) tt
      (record { first = omega (arith, a.wrote.counts.first, says.0); second = omega (arith, a.wrote.counts.second, says.1); declined = omega (arith, a.wrote.counts.declined, says.2) })
      (record { book = book; seq = plus_seq d base old.view new.view a.wrote.seq; records = tt }) leaves

  pub played_wrote : (placed : Placed) → WroteSo d sector bytes placed old new → IsPlayedStep d (passed d base old new (Write sector bytes) (reply_of placed))
  played_wrote PutFirst a =
      wrote_so PutFirst First a (λ h. cc) (λ h. h) (refl, refl, refl) (ap On a.wrote.rows) (plus_book d base old.view new.view (λ rise at. tt) a.wrote.book)
      (gets_plus base old.view new.view a.wrote.draws) (place_first a.wrote.place)
  played_wrote PutSecond a =
      wrote_so PutSecond Second a (λ h. cc) (λ h. h) (refl, refl, refl) (ap On a.wrote.rows) (plus_book d base old.view new.view (λ rise at. tt) a.wrote.book)
      (over_draws_plus base old.view new.view a.wrote.draws) (place_second a.wrote.place)
  played_wrote PutDeclined a =
      wrote_so PutDeclined Declined a (λ h. cc) (λ h. h) (refl, refl, refl) (ap On a.wrote.rows) (plus_book d base old.view new.view (λ rise at. tt) a.wrote.book)
      (gets_plus base old.view new.view a.wrote.draws) (place_declined a.wrote.place)

  -- the book after a write in which the die failed
  write_fault_book : (stopped : Bool) → new.stopped ≡ stopped → WriteFault d sector (filled_up d.geometry.sector_bytes bytes) old new
      → MovesBook d (WriteFaultMay stopped) (RisesSealed old.view.book) (λ rise. Unit {0}) (plus base old.view) (plus base new.view)
  write_fault_book stopped is w =
      plus_book d base old.view new.view (λ rise at. tt) (write_book_so d old new sector (filled_up d.geometry.sector_bytes bytes) stopped is w)

  pub played_write_read_fault : WriteFailed d sector bytes old new → ReadFault d (WithinWrite d old.view (filled_up d.geometry.sector_bytes bytes)) old new
      → IsPlayedStep d (passed d base old new (Write sector bytes) Fault)
  played_write_read_fault a f =
      read_failed_so d base old new (Write sector bytes) a.holds tt (accepted_write a.in_range a.fits a.fault.fresh) f a.fault.counts (inl (ap On f.rows))
      (of_line d (passed d base old new (Write sector bytes) Fault) sector bytes refl
      (not_placed d (passed d base old new (Write sector bytes) Fault) sector (filled_up d.geometry.sector_bytes bytes) refl)) tt
      (record { book = write_fault_book false f.running a.fault; seq = plus_seq d base old.view new.view a.fault.seq; records = tt })
      (erased_plus d base old.view new.view (filled_up d.geometry.sector_bytes bytes) a.fault.erased)

  pub played_write_change_fault : WriteFailed d sector bytes old new
      → ChangeFault d (WithinWrite d old.view (filled_up d.geometry.sector_bytes bytes)) (written d.geometry.sector_bytes (rows_of d old.view) sector bytes) old new
      → (rows_of d new.view ≡ rows_of d old.view) ⊎ (rows_of d new.view ≡ written d.geometry.sector_bytes (rows_of d old.view) sector bytes)
      → IsPlayedStep d (failed d base old new (Write sector bytes) (Off (rows_of d old.view) (written d.geometry.sector_bytes (rows_of d old.view) sector bytes)))
  played_write_change_fault a f rows =
      let e : Event = failed d base old new (Write sector bytes) (Off (rows_of d old.view) (written d.geometry.sector_bytes (rows_of d old.view) sector bytes)) in
      change_failed_so d base old new (Write sector bytes) a.holds tt (accepted_write a.in_range a.fits a.fault.fresh) f rows a.fault.counts (inr refl)
      (of_line d e sector bytes refl (not_placed d e sector (filled_up d.geometry.sector_bytes bytes) refl)) tt
      (record { book = write_fault_book true f.stopped a.fault; seq = plus_seq d base old.view new.view a.fault.seq; records = tt })
      (erased_plus d base old.view new.view (filled_up d.geometry.sector_bytes bytes) a.fault.erased)

-- ---- trims

module _ (d : Numbers) (base : Tallies) (old new : DeviceValue) (sector : ℕ) where
  accepted_trim : sector < d.geometry.sectors → old.view.seq < 2 ^ 62 → Accepted d (on d base old) (Trim sector)
  accepted_trim in_range fresh = record { in_range = λ h. omega (arith, in_range, h); fits = λ h. h; numbers = λ h. omega (arith, fresh, h) }

  pub played_trim : TrimmedSo d sector old new → IsPlayedStep d (passed d base old new (Trim sector) Done)
  played_trim a =
      let w : Trimmed d sector old new = a.trimmed in
      passed_so d base old new (Trim sector) a.holds tt (accepted_trim a.in_range w.fresh) Done w.calls w.running (λ h. cc) (λ h. h) (ap On w.rows) (λ s b t. absurd (let l = t.write in cc)) tt
      (record { first = omega (arith, w.counts.first); second = omega (arith, w.counts.second); declined = omega (arith, w.counts.declined) })
      (record { book = plus_book d base old.view new.view (λ rise at. tt) w.book; seq = plus_seq d base old.view new.view w.seq; records = tt })
      (trim_plus_leaves d base old.view new.view sector (holds_bytes (record_of d old.view sector)) w.leaves)

  trim_fault_book : (stopped : Bool) → new.stopped ≡ stopped → TrimFault d sector old new
      → MovesBook d (TrimFaultMay stopped) (RisesSealed old.view.book) (λ rise. Unit {0}) (plus base old.view) (plus base new.view)
  trim_fault_book stopped is w = plus_book d base old.view new.view (λ rise at. tt) (trim_book_so d old new sector stopped is w)

  pub played_trim_read_fault : TrimFailed d sector old new → ReadFault d (WithinTrim d old.view sector) old new → IsPlayedStep d (passed d base old new (Trim sector) Fault)
  played_trim_read_fault a f =
      read_failed_so d base old new (Trim sector) a.holds tt (accepted_trim a.in_range a.fault.fresh) f a.fault.counts (inl (ap On f.rows)) (λ s b t. absurd (let l = t.write in cc)) tt
      (record { book = trim_fault_book false f.running a.fault; seq = plus_seq d base old.view new.view a.fault.seq; records = tt }) a.fault.erased

  pub played_trim_change_fault : TrimFailed d sector old new → ChangeFault d (WithinTrim d old.view sector) (trimmed d.geometry.sector_bytes (rows_of d old.view) sector) old new
      → (rows_of d new.view ≡ rows_of d old.view) ⊎ (rows_of d new.view ≡ trimmed d.geometry.sector_bytes (rows_of d old.view) sector)
      → IsPlayedStep d (failed d base old new (Trim sector) (Off (rows_of d old.view) (trimmed d.geometry.sector_bytes (rows_of d old.view) sector)))
  played_trim_change_fault a f rows =
      change_failed_so d base old new (Trim sector) a.holds tt (accepted_trim a.in_range a.fault.fresh) f rows a.fault.counts (inr refl) (λ s b t. absurd (let l = t.write in cc)) tt
      (record { book = trim_fault_book true f.stopped a.fault; seq = plus_seq d base old.view new.view a.fault.seq; records = tt }) a.fault.erased

-- ---- idle calls

module _ (d : Numbers) (base : Tallies) (old new : DeviceValue) (n : ℕ) where
  accepted_idle : Accepted d (on d base old) (Idle n)
  accepted_idle = record { in_range = λ h. h; fits = λ h. h; numbers = λ h. h }

  pub played_idle : (k : ℕ) → Holds d old new → Idled d n k old new → IsPlayedStep d (passed d base old new (Idle n) (Moves k))
  played_idle k holds w =
      passed_so d base old new (Idle n) holds tt accepted_idle (Moves k) (bounded w.calls) w.running (λ h. cc) (λ h. h) (ap On w.rows) (λ s b t. absurd (let l = t.write in cc)) (w.at_most, w.all)
      (record { first = omega (arith, w.counts.first); second = omega (arith, w.counts.second); declined = omega (arith, w.counts.declined) })
      (record {
        book = plus_book d base old.view new.view (λ rise at. tt) w.book;
        seq = plus_seq d base old.view new.view w.seq;
        records = moves_plus d base old.view new.view k w.moves;
      }) w.erases

  pub played_idle_read_fault : Holds d old new → IdleFault d n old new → ReadFault d (WithinIdle d n old.view new.view) old new → IsPlayedStep d (passed d base old new (Idle n) Fault)
  played_idle_read_fault holds w f =
      read_failed_so d base old new (Idle n) holds tt accepted_idle f w.counts (inl (ap On f.rows)) (λ s b t. absurd (let l = t.write in cc)) tt
      (record {
        book = plus_book d base old.view new.view (λ rise at. tt) w.book;
        seq = plus_seq d base old.view new.view w.seq;
        records = unfinished_plus d base old.view new.view n w.moves;
      }) w.erases

  pub played_idle_change_fault : Holds d old new → IdleFault d n old new → ChangeFault d (WithinIdle d n old.view new.view) (rows_of d old.view) old new
      → (rows_of d new.view ≡ rows_of d old.view) ⊎ (rows_of d new.view ≡ rows_of d old.view)
      → IsPlayedStep d (failed d base old new (Idle n) (Off (rows_of d old.view) (rows_of d old.view)))
  played_idle_change_fault holds w f rows =
      change_failed_so d base old new (Idle n) holds tt accepted_idle f rows w.counts (inr refl) (λ s b t. absurd (let l = t.write in cc)) tt
      (record {
        book = plus_book d base old.view new.view (λ rise at. tt) w.book;
        seq = plus_seq d base old.view new.view w.seq;
        records = unfinished_plus d base old.view new.view n w.moves;
      }) w.erases

-- ---- reads

module _ (d : Numbers) (base : Tallies) (old new : DeviceValue) (sector : ℕ) where
  -- a read moves nothing but the die
  read_so : (reply : Reply) → sector < d.geometry.sectors → Holds d old new → OnlyDie old new → new.stopped ≡ false → (Tells old.view.die → Tells new.view.die)
      → (reply ≡ Fault → Rose (faults old.view.die) (faults new.view.die)) → (IsRefusal reply → ⊥) → (firsts reply ≡ 0) × (seconds reply ≡ 0) × (declines reply ≡ 0)
      → PlacedWhere d (passed d base old new (Read sector) reply)
      → (On (rows_of d new.view) ≡ On (rows_of d old.view) → Row d.geometry.sector_bytes (On (rows_of d old.view)) (Read sector) reply (On (rows_of d new.view)))
      → IsPlayedStep d (passed d base old new (Read sector) reply)
  read_so reply in_range holds only runs tells rose done none placed row =
      let rows : rows_of d new.view ≡ rows_of d old.view = rw only.cells.cells refl in
      let same : SameCells old.view.die new.view.die = only.cells in
      let still : (what : DeviceView → ℕ) → what new.view ≡ what (record old.view { die = new.view.die }) = λ what. ap (λ (device : DeviceValue). what device.view) only.rest in
      record {
        row = row (ap On rows);
        stands_before = refl;
        stands_after = refl;
        off = λ h c. absurd c;
        keeps = keeps_cells d (plus base old.view) (plus base new.view) holds.kept.shape same tells;
        placed = placed;
        cause = rose;
        refused = accepted_reply d base old (Read sector) reply (on d base new) (record { in_range = λ h. omega (arith, in_range, h); fits = λ h. h; numbers = λ h. h }) done;
        idle = tt;
        stays = λ h. same;
        tallies = record {
          first = omega (arith, still (λ v. v.first), none.0);
          second = omega (arith, still (λ v. v.second), none.1);
          declined = omega (arith, still (λ v. v.declined), none.2);
        };
        true_book = λ h. holds.true_book runs;
        moves = record {
          book =
              same_book d (plus base old.view) (plus base new.view) (ap (λ (device : DeviceValue). device.view.book) only.rest) (ap (λ n. count_sum base.moved n) (still (λ v. v.moved)))
              (omega arith) tt refl refl;
          seq = same_seq d (plus base old.view) (plus base new.view) (still (λ v. v.seq)) same.cells;
          records = tt;
        };
        leaves = same.erases;
      }

  pub played_read : (bytes : List ℕ) → ReadSo d sector bytes old new → new.stopped ≡ false → IsPlayedStep d (passed d base old new (Read sector) (Bytes bytes))
  played_read bytes a runs =
      read_so (Bytes bytes) a.in_range a.holds a.only_die runs (went_tells old.view.die new.view.die (passed_went {Bounded = ⊥} a.calls)) (λ h. cc) (λ h. h) (refl, refl, refl)
      (λ s b t. absurd (let l = t.write in cc)) (λ rows. (a.row, rows))

  pub played_read_fault : ReadWithFault d sector old new → new.stopped ≡ false → IsPlayedStep d (passed d base old new (Read sector) Fault)
  played_read_fault a runs =
      read_so Fault a.in_range a.holds a.only_die runs (read_failed_tells old.view.die new.view.die a.failed) (λ h. read_rose old.view.die new.view.die a.failed) (λ h. h) (refl, refl, refl)
      (λ s b t. absurd (let l = t.write in cc)) (λ rows. rows)

-- ---- a played step on a die that tells its power is a step

-- what a played line is not, and what it therefore owes no more
record IsPlain (d : Numbers) (e : Event) (line : Line) : Type 0 where
  no_mount : line ≢ Mount
  arms : Arms e line e.reply
  not_arming : IsArming line e.reply → ⊥
  moves : ByRules d e × MovesRecords d e line e.reply → BookMoves d e line e.reply

is_plain : (d : Numbers) (e : Event) (line : Line) → IsPlayed line → IsPlain d e line
is_plain d e (Write sector bytes) is = record { no_mount = λ h. cc; arms = tt; not_arming = λ h. h; moves = λ m. m }
is_plain d e (Read sector) is = record { no_mount = λ h. cc; arms = tt; not_arming = λ h. h; moves = λ m. m }
is_plain d e (Trim sector) is = record { no_mount = λ h. cc; arms = tt; not_arming = λ h. h; moves = λ m. m }
is_plain d e (Idle n) is = record { no_mount = λ h. cc; arms = tt; not_arming = λ h. h; moves = λ m. m }
is_plain d e line is = absurd is

module _ (d : Numbers) (line : Line) (reply : Reply) (before after : View) (is : IsPlayed line) (p : IsPlayedStep d (event_of line reply before after)) where
  -- where the armed failures moved as they must
  pub exact_step : StatAnswer (event_of line reply before after) reply → reply ≢ NoSpare → FaultExactly (event_of line reply before after)
      → ByRules d (event_of line reply before after)
      → ((reply ≡ Fault → ⊥)
      → Lowers (change_calls d before.device line reply) (read_calls d before.device line reply) (BoundOnly before.device line reply) before.device.die after.device.die)
      → (reply ≡ Fault → FaultWithin d (event_of line reply before after)) → (IsOn after.array → TellsPower after.device.die) → IsStep d (event_of line reply before after)
  exact_step stat no_spare fault rules lowers within power =
      let plain : IsPlain d (event_of line reply before after) line = is_plain d (event_of line reply before after) line is in
      record {
        row = p.row;
        stands_before = p.stands_before;
        stands_after = p.stands_after;
        fault = fault;
        off = p.off;
        keeps = p.keeps;
        placed = λ sector bytes tried.
            let so : PlacedSo d (event_of line reply before after) sector (filled_up d.geometry.sector_bytes bytes) = p.placed sector bytes tried in
            record {
              over_unit = so.over_unit;
              on_clean = so.on_clean;
              second = (λ h. (λ came. (so.second.0 h).0 (fault.came.1 came), (so.second.0 h).1), λ h. so.second.1 (λ f. h.0 (fault.came.0 f), h.1));
              declined = (λ h. (λ came. (so.declined.0 h).0 (fault.came.1 came), (so.declined.0 h).1), λ h. so.declined.1 (λ f. h.0 (fault.came.0 f), h.1));
              first = (λ h. (λ came. (so.first.0 h).0 (fault.came.1 came), (so.first.0 h).1), λ h. so.first.1 (λ f. h.0 (fault.came.0 f), h.1));
            };
        answers = record {
          refused = p.refused;
          idle = p.idle;
          no_spare = record { only = λ h. absurd (no_spare h); always = λ h. absurd (plain.no_mount h) };
          stays = p.stays;
          stat = stat;
          tallies = p.tallies;
        };
        true_book = p.true_book;
        moves = plain.moves (rules, p.moves.records);
        armed = record { arms = plain.arms; lowers = λ a. lowers; fault = within };
        power = λ on tells. power on;
        leaves = p.leaves;
      }

  -- a line whose call passed
  pub passed_step : TellsPower before.device.die
      → Went (change_calls d before.device line reply) (read_calls d before.device line reply) (BoundOnly before.device line reply) before.device.die after.device.die
      → reply ≢ Fault → reply ≢ NoSpare → StatAnswer (event_of line reply before after) reply → IsStep d (event_of line reply before after)
  passed_step power went done no_spare stat =
      let lowers = went_lowers before.device.die after.device.die power went in
      let none : NoFailure (event_of line reply before after) = none_came before.device.die after.device.die lowers in
      exact_step stat no_spare (no_fault (event_of line reply before after) done none)
      (record { book = book_at_cut p.moves.book (λ came. absurd (none (inl came))); seq = p.moves.seq }) (λ f. lowers) (λ h. absurd (done h))
      (λ on. went_power before.device.die after.device.die power went)

module _ (d : Numbers) (line : Line) (before after : View) (is : IsPlayed line) (p : IsPlayedStep d (event_of line Fault before after)) where
  -- a line in which a read failed
  pub read_failed_step : {changes reads : ℕ} → TellsPower before.device.die → ReadFailed changes reads before.device.die after.device.die
      → Within d (event_of line Fault before after) line changes reads → IsStep d (event_of line Fault before after)
  read_failed_step {changes} {reads} power failed within =
      let came : AReadCame changes reads before.device.die after.device.die = read_came before.device.die after.device.die power failed in
      exact_step d line Fault before after is p tt (λ h. cc) (record {
        came = (λ h. inr came.came, λ h. refl);
        one = λ cut read. omega (arith, came.cut.to_come cut.0, cut.1);
        rose = λ h. read_rose before.device.die after.device.die failed;
      }) (record { book = book_at_cut p.moves.book (λ cut. absurd (omega (arith, came.cut.to_come cut.0, cut.1))); seq = p.moves.seq }) (λ not. absurd (not refl)) (λ h. record {
        changes = changes;
        reads = reads;
        within = within;
        cut_came = λ cut. absurd (omega (arith, came.cut.to_come cut.0, cut.1));
        read_came = λ read. (came.within, came.cut, came.form);
      }) (λ on. came.power)

  -- a line in which a change call failed: the array is off
  pub change_failed_step : {changes reads : ℕ} → TellsPower before.device.die → (failed : ChangeFailed changes reads before.device.die after.device.die)
      → Within d (event_of line Fault before after) line changes reads → (IsOn after.array → ⊥) → ByRules d (event_of line Fault before after)
      → IsStep d (event_of line Fault before after)
  change_failed_step {changes} {reads} power failed within off rules =
      let came : ACutCame changes reads before.device.die after.device.die = change_came before.device.die after.device.die power failed in
      let fault : FaultWithin d (event_of line Fault before after) = record {
        changes = changes;
        reads = reads;
        within = within;
        cut_came = λ cut. (came.within, came.read, came.left);
        read_came = λ read. absurd (omega (arith, came.read.to_come read.0, read.1));
      } in
      exact_step d line Fault before after is p tt (λ h. cc) (record {
        came = (λ h. inl came.came, λ h. refl);
        one = λ cut read. omega (arith, came.read.to_come read.0, read.1);
        rose = λ h. change_rose before.device.die after.device.die failed;
      }) rules (λ not. absurd (not refl)) (λ h. fault) (λ on. absurd (off on))
