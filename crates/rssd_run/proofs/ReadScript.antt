-- What a reader has read of what was taken, and what its end says.
use Rattle.std.proofs.Common.{◌≡◌, ℕ, ◌+◌, ◌-◌, ◌≤◌, List, [], ◌∷◌, ◌++◌, length, take, refl, sym, ap, ◌∙◌, arith, subst, length-append, length-take-le, append-nil}
use Rattle.std.specs.Prelude.{OnOk, is_err, Result, Ok, Err, false}
use Rattle.std.proofs.lemmas.List.{take-append-le}
use Rattle.std.proofs.lemmas.Bool.{false≢true}
use Rattle.rssd_io.specs.Event.{Event, HasEnded, Adds, moved, failed, bytes_of, failures, since}
use Rattle.rssd_io.proofs.Logs.{since_is, grew, failures_append, bytes_append, bytes_more, ends_with, more_came}
use Rattle.rssd_script.specs.declared.lines.Line.{Line}
use Rattle.rssd_script.specs.declared.lines.Line.TheVariants.{Write, Read, Trim, Idle, Cut, FailRead, Mount, Stat}
use Rattle.rssd_script.specs.declared.reader.ScriptReader.{ScriptReader}
use Rattle.rssd_script.specs.declared.error.ScriptError.{ScriptError}
use Rattle.rssd_script.specs.declared.error.ScriptError.TheVariants.{TooLong, BadLine, OutOfMemory}
use Rattle.rssd_script.specs.Script.{IsWithinGrammar}
use Rattle.rssd_script.specs.Scripts.{Reads, Refuses, most_bytes}
use Rattle.rssd_script.specs.Readers.{HasRead}
use Rattle.rssd_run.specs.declared.run.script.ReadError.TheVariants.{Fault, Refused}
use Rattle.rssd_run.specs.ReadScript.{ReadsAll, RefusesRead, TakesScript, HasReadAll, HasReadSo}
use Rattle.rssd_run.specs.Shows.{CanStep}

-- nothing was taken yet
pub read_none : (log : List Event) (reader : ScriptReader) → HasRead reader [] → HasReadSo log log reader 1_048_577
read_none log reader read = record { events = []; came = sym (append-nil log); served = refl; read = read; counted = refl }

-- a piece more was taken and read
pub read_more : {old between new : List Event} {reader next : ScriptReader} {room : ℕ} (count : ℕ) (into : List ℕ) → HasReadSo old between reader room → Adds (moved (take count into)) between new
    → count ≤ length into → count ≤ room
    → ((text : List ℕ) → HasRead reader text → HasRead next (text ++ take count into)) → HasReadSo old new next (room - count)
read_more {old = old} {between = between} {new = new} {next = next} count into so adds short fits feeds =
    let piece = take count into in
    record {
      events = so.events ++ moved piece ∷ [];
      came = more_came old between new so.events (moved piece) so.came adds;
      served = omega (arith, failures_append so.events (moved piece ∷ []), so.served);
      read = subst (HasRead next) (sym (bytes_more so.events piece)) (feeds (bytes_of so.events) so.read);
      counted = omega (arith, so.counted, ap (length {A = ℕ}) (bytes_more so.events piece), length-append (bytes_of so.events) piece, length-take-le count into short, fits);
    }

-- so much is on record, by these events
read_all_by : (old new events : List Event) (reader : ScriptReader) → new ≡ old ++ events → failures events ≡ 0 → HasRead reader (bytes_of events)
    → (length (bytes_of events) ≤ most_bytes → HasEnded events) → HasReadAll old new reader
read_all_by old new events reader came served read whole =
    let is : events ≡ since old new = sym (since_is old new events came) in
    record {
      read = subst (λ (xs : List Event). HasRead reader (bytes_of xs)) is read;
      served = subst (λ (xs : List Event). failures xs ≡ 0) is served;
      whole = subst (λ (xs : List Event). length (bytes_of xs) ≤ most_bytes → HasEnded xs) is whole;
    }

-- the source is at its end
pub read_to_end : {old between new : List Event} {reader : ScriptReader} {room : ℕ} (count : ℕ) (into : List ℕ) → count ≡ 0 → HasReadSo old between reader room
    → Adds (moved (take count into)) between new → HasReadAll old new reader
read_to_end {old = old} {between = between} {new = new} {reader = reader} count into none so took =
    let adds : Adds (moved []) between new = subst (λ (n : ℕ). Adds (moved (take n into)) between new) none took in
    read_all_by old new (so.events ++ moved [] ∷ []) reader (more_came old between new so.events (moved []) so.came adds)
    (omega (arith, failures_append so.events (moved [] ∷ []), so.served))
    (subst (HasRead reader) (sym (bytes_more so.events [] ∙ append-nil (bytes_of so.events))) so.read) (λ _. ends_with so.events (moved []))

-- there is no room left
pub read_past : (old new : List Event) (reader : ScriptReader) (room : ℕ) → HasReadSo old new reader room → room ≤ 0 → HasReadAll old new reader
read_past old new reader room so none = read_all_by old new so.events reader so.came so.served so.read (λ short. absurd (omega (arith, so.counted, none, short)))

-- a take failed
pub read_failed : {old between new : List Event} {reader : ScriptReader} {room : ℕ} → HasReadSo old between reader room → Adds failed between new → RefusesRead old new Fault
read_failed {old = old} {between = between} {new = new} so adds =
    ap failures (since_is old new (so.events ++ failed ∷ []) (more_came old between new so.events failed so.came adds)) ∙ omega (arith, failures_append so.events (failed ∷ []), so.served)

-- a take was served, but there was no memory to read what came
pub read_stuck : {old between new : List Event} {reader : ScriptReader} {room : ℕ} (piece : List ℕ) → HasReadSo old between reader room → Adds (moved piece) between new
    → RefusesRead old new (Refused OutOfMemory)
read_stuck {old = old} {between = between} {new = new} piece so adds = (
  ap failures (since_is old new (so.events ++ moved piece ∷ []) (more_came old between new so.events (moved piece) so.came adds))
      ∙ omega (arith, failures_append so.events (moved piece ∷ []), so.served),
  tt,
)

-- ---- how much was taken

takes : (old new events : List Event) → new ≡ old ++ events → length (bytes_of events) ≤ most_bytes + 1 → TakesScript old new
takes old new events came most = record {
  grew = grew old new events came;
  most = subst (λ (xs : List Event). length (bytes_of xs) ≤ most_bytes + 1) (sym (since_is old new events came)) most;
}

pub takes_so : {old new : List Event} {reader : ScriptReader} {room : ℕ} → HasReadSo old new reader room → TakesScript old new
takes_so {old = old} {new = new} so = takes old new so.events so.came (omega (arith, so.counted))

-- one take more, of no more than there is room for, or one that failed
pub takes_more : {old between new : List Event} {reader : ScriptReader} {room : ℕ} (count : ℕ) (into : List ℕ) → HasReadSo old between reader room → Adds (moved (take count into)) between new
    → count ≤ length into → count ≤ room → TakesScript old new
takes_more {old = old} {between = between} {new = new} count into so adds short fits =
    let piece = take count into in
    takes old new (so.events ++ moved piece ∷ []) (more_came old between new so.events (moved piece) so.came adds)
    (omega (arith, so.counted, ap (length {A = ℕ}) (bytes_more so.events piece), length-append (bytes_of so.events) piece, length-take-le count into short, fits))

pub takes_failed : {old between new : List Event} {reader : ScriptReader} {room : ℕ} → HasReadSo old between reader room → Adds failed between new → TakesScript old new
takes_failed {old = old} {between = between} {new = new} so adds =
    takes old new (so.events ++ failed ∷ []) (more_came old between new so.events failed so.came adds)
    (omega (arith, so.counted, ap (length {A = ℕ}) (bytes_append so.events (failed ∷ []) ∙ append-nil (bytes_of so.events))))

-- ---- what the end of the reader says

-- the reader refuses what was taken
pub refuses : (old new : List Event) (reader : ScriptReader) (why : ScriptError) → HasReadAll old new reader → Refuses (bytes_of (since old new)) why → RefusesRead old new (Refused why)
refuses old new reader TooLong all why = (all.served, why)
refuses old new reader (BadLine k) all why = (all.served, (why.0, why.1, all.whole why.0))
refuses old new reader OutOfMemory all why = (all.served, tt)

pub reads_all : (old new : List Event) (reader : ScriptReader) (lines : List Line) → HasReadAll old new reader → Reads (bytes_of (since old new)) lines → ReadsAll old new lines
reads_all old new reader lines all reads = record { served = all.served; ended = all.whole reads.0; reads = reads }

-- a reader that did not fail has read what it was fed, a front of this buffer
pub fed : {E : Type 0} (result : Result (Unit {0}) E) (reader next : ScriptReader) (count : ℕ) (into rest : List ℕ)
    → ((text : List ℕ) → HasRead reader text → OnOk result (HasRead next (text ++ take count (into ++ rest)))) → false ≡ is_err result → count ≤ length into
    → (text : List ℕ) → HasRead reader text → HasRead next (text ++ take count into)
fed (Ok x) reader next count into rest reads served short text read = subst (λ (xs : List ℕ). HasRead next (text ++ xs)) (take-append-le count into rest short) (reads text read)
fed (Err e) reader next count into rest reads served short text read = absurd (false≢true served)

-- a line of the grammar may be stepped
pub can_step : (line : Line) → IsWithinGrammar line → CanStep line
unfolding IsWithinGrammar
can_step (Write sector bytes) within = tt
can_step (Read sector) within = tt
can_step (Trim sector) within = tt
can_step (Idle n) within = tt
can_step (Cut n torn) within = within.0.0
can_step (FailRead n) within = within.0
can_step Mount within = tt
can_step Stat within = tt
