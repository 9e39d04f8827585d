-- Where no served command is refused, the array's rows change by the served commands alone, as they do in the queue's own runs.
use Rattle.std.proofs.Common.{◌≡◌, ◌⊎◌, inl, inr, ℕ, ◌+◌, ◌-◌, ◌<◌, ◌≤◌, true, false, not, All, List, [], ◌∷◌, ◌++◌, length, replicate, get_or, set, Option, None, Some, MatchOption, refl, sym}
use Rattle.std.proofs.Common.{ap, ◌∙◌, subst, arith, length-append}
use Rattle.std.specs.List.{AllByRecursion}
use Rattle.std.proofs.lemmas.Bool.{cases_lt, ltb-true}
use Rattle.std.proofs.lemmas.List.{get_or_append_left, get_or-append_right}
use Rattle.std.proofs.lemmas.List.Edits.{length-remove, get_or-remove_below, get_or-remove_above}
use Rattle.std.proofs.lemmas.List.Elements.{recursion_from_All, All-from_recursion}
use Rattle.rssd_core.specs.SectorArray.{written, trimmed, without_zeros}
use Rattle.rssd_core.specs.DeviceValue.{Numbers}
use Rattle.rssd_core.specs.declared.device.Placed.TheVariants.{First as PutFirst}
use Rattle.rssd_queue.specs.declared.ask.Ask.{Ask}
use Rattle.rssd_queue.specs.declared.ask.Ask.TheVariants as asks
use Rattle.rssd_queue.specs.declared.ask.Tagged.{Tagged}
use Rattle.rssd_queue.specs.declared.serve.Answer.{Answer}
use Rattle.rssd_queue.specs.declared.serve.Answer.TheVariants.{Wrote, Bytes as Row, Trimmed}
use Rattle.rssd_queue.specs.Asks.{sector_of, is_long}
use Rattle.rssd_queue.specs.Waiting.{Waiting, Accepts, IsAsked, IsWhole, accepted, command_at, no_command}
use Rattle.rssd_queue.specs.Pick.{Takes}
use Rattle.rssd_queue.specs.Runs as queue_runs
use Rattle.rssd_queue.proofs.Fields.{accepted_fits}
use Rattle.rssd_queue.proofs.Rows.{reads_in_order}
use Rattle.rssd_script.specs.declared.lines.Line.{Line}
use Rattle.rssd_script.specs.declared.lines.Line.TheVariants.{Write, Read, Trim, Idle, Cut, FailRead, Mount, Stat}
use Rattle.rssd_script.specs.declared.replies.Reply.{Reply}
use Rattle.rssd_script.specs.declared.replies.Reply.TheVariants.{First, Second, Declined, Bytes, Done, Moves, Stat as Counts, Range, Long, Off as SaysOff, Fault, Spent, NoSpare, NoMemory}
use Rattle.rssd_run.specs.ArrayWithCuts.{ArrayState, On, Off, Row as IsRow, WriteRow, TrimRow, ReadRow, MayBeOff, RefusedRow}
use Rattle.rssd_run.specs.Moves.{is_off}
use Rattle.rssd_run.specs.View.{View, Event, IsOn}
use Rattle.rssd_run.specs.Step.{IsStep, OutOfRange, TooLong}
use Rattle.rssd_run.specs.Serves.{ask_of, line_of}
use Rattle.rssd_run.specs.QueueActs.{Place, Act, Put, Served, AtOnce, IsUnfit, IsAtOnceDue, IsServed, IsAct, AreActs}
use Rattle.rssd_run.specs.QueueLaws.{accepted_in, served_in, NotRefused, ReadsTheOrder}
use Rattle.rssd_run.proofs.ServedSteps.{filled_whole as filled_none}

-- the array has these rows, and an array that is off has no others
abbrev HasRows : List (List ℕ) → ArrayState → Type 0
HasRows rows (On a) = a ≡ rows
HasRows rows (Off a b) = (a ≡ rows) × (b ≡ rows)

-- ---- a line that is carried out at once changes no row

may_be_off : (rows a : List (List ℕ)) (next : ArrayState) → a ≡ rows → MayBeOff a a next → HasRows rows next
may_be_off rows a next has (inl on) = rw on has
may_be_off rows a next has (inr off) = rw off (has, has)

same_rows : (rows : List (List ℕ)) (array next : ArrayState) → HasRows rows array → next ≡ array → HasRows rows next
same_rows rows array next has same = subst (HasRows rows) (sym same) has

-- a line that is no write, read or trim
other_rows : (size : ℕ) (rows : List (List ℕ)) (array next : ArrayState) (line : Line) (reply : Reply) → ask_of line ≡ None → HasRows rows array → IsRow size array line reply next → HasRows rows next
other_rows size rows array next (Write sector bytes) reply other has row = cc
other_rows size rows array next (Read sector) reply other has row = cc
other_rows size rows array next (Trim sector) reply other has row = cc
other_rows size rows (On a) next (Idle n) (Moves k) other has row = rw row has
other_rows size rows (On a) next (Idle n) Fault other has row = may_be_off rows a next has row
other_rows size rows (On a) next (Idle n) reply other has row = absurd row
other_rows size rows (On a) next (Cut n torn) Done other has row = rw row has
other_rows size rows (On a) next (Cut n torn) reply other has row = absurd row
other_rows size rows (On a) next (FailRead n) Done other has row = rw row has
other_rows size rows (On a) next (FailRead n) reply other has row = absurd row
other_rows size rows (On a) next Mount Done other has row = rw row has
other_rows size rows (On a) next Mount Fault other has row = rw row (has, has)
other_rows size rows (On a) next Mount NoSpare other has row = rw row (has, has)
other_rows size rows (On a) next Mount NoMemory other has row = rw row (has, has)
other_rows size rows (On a) next Mount reply other has row = absurd row
other_rows size rows (On a) next Stat (Counts f s dc m er) other has row = rw row has
other_rows size rows (On a) next Stat reply other has row = absurd row
other_rows size rows (Off a b) next (Idle n) SaysOff other has row = rw row has
other_rows size rows (Off a b) next (Idle n) reply other has row = absurd row
other_rows size rows (Off a b) next (Cut n torn) SaysOff other has row = rw row has
other_rows size rows (Off a b) next (Cut n torn) reply other has row = absurd row
other_rows size rows (Off a b) next (FailRead n) SaysOff other has row = rw row has
other_rows size rows (Off a b) next (FailRead n) reply other has row = absurd row
other_rows size rows (Off a b) next Mount Done other has (inl on) = rw on has.0
other_rows size rows (Off a b) next Mount Done other has (inr on) = rw on has.1
other_rows size rows (Off a b) next Mount Fault other has row = rw row has
other_rows size rows (Off a b) next Mount NoSpare other has row = rw row has
other_rows size rows (Off a b) next Mount NoMemory other has row = rw row has
other_rows size rows (Off a b) next Mount reply other has row = absurd row
other_rows size rows (Off a b) next Stat (Counts f s dc m er) other has row = rw row has
other_rows size rows (Off a b) next Stat reply other has row = absurd row

refused_rows : (rows : List (List ℕ)) (array next : ArrayState) (reply : Reply) → HasRows rows array → RefusedRow array reply next → HasRows rows next
refused_rows rows array next SaysOff has row = same_rows rows array next has row
refused_rows rows array next reply has row = absurd row

-- a write, read or trim while the array is off
off_rows : (size : ℕ) (rows a b : List (List ℕ)) (next : ArrayState) (line : Line) (ask : Ask) (reply : Reply) → ask_of line ≡ Some ask → HasRows rows (Off a b)
    → IsRow size (Off a b) line reply next → HasRows rows next
off_rows size rows a b next (Write sector bytes) ask reply asks has row = refused_rows rows (Off a b) next reply has row
off_rows size rows a b next (Read sector) ask reply asks has row = refused_rows rows (Off a b) next reply has row
off_rows size rows a b next (Trim sector) ask reply asks has row = refused_rows rows (Off a b) next reply has row
off_rows size rows a b next (Idle n) ask reply asks has row = cc
off_rows size rows a b next (Cut n torn) ask reply asks has row = cc
off_rows size rows a b next (FailRead n) ask reply asks has row = cc
off_rows size rows a b next Mount ask reply asks has row = cc
off_rows size rows a b next Stat ask reply asks has row = cc

-- a write, read or trim that is answered `range` or `long`
ranged_rows : (size : ℕ) (rows a : List (List ℕ)) (next : ArrayState) (line : Line) (ask : Ask) (reply : Reply) → ask_of line ≡ Some ask → a ≡ rows → (reply ≡ Range) ⊎ (reply ≡ Long)
    → IsRow size (On a) line reply next
    → HasRows rows next
ranged_rows size rows a next (Write sector bytes) ask Range asks has is row = rw row has
ranged_rows size rows a next (Write sector bytes) ask Long asks has is row = rw row has
ranged_rows size rows a next (Write sector bytes) ask reply asks has (inl is) row = cc
ranged_rows size rows a next (Write sector bytes) ask reply asks has (inr is) row = cc
ranged_rows size rows a next (Read sector) ask Range asks has is row = rw row has
ranged_rows size rows a next (Read sector) ask Long asks has is row = absurd row
ranged_rows size rows a next (Read sector) ask reply asks has (inl is) row = cc
ranged_rows size rows a next (Read sector) ask reply asks has (inr is) row = cc
ranged_rows size rows a next (Trim sector) ask Range asks has is row = rw row has
ranged_rows size rows a next (Trim sector) ask Long asks has is row = absurd row
ranged_rows size rows a next (Trim sector) ask reply asks has (inl is) row = cc
ranged_rows size rows a next (Trim sector) ask reply asks has (inr is) row = cc
ranged_rows size rows a next (Idle n) ask reply asks has is row = cc
ranged_rows size rows a next (Cut n torn) ask reply asks has is row = cc
ranged_rows size rows a next (FailRead n) ask reply asks has is row = cc
ranged_rows size rows a next Mount ask reply asks has is row = cc
ranged_rows size rows a next Stat ask reply asks has is row = cc

-- ---- a served command that is not refused changes its row

pub record ServedRows (size : ℕ) (rows : List (List ℕ)) (ask : Ask) (reply : Reply) (next : ArrayState) : Type 0 where
  pub after : HasRows (queue_runs.carried size rows ask) next
  -- a read tells its row
  pub told : (bytes : List ℕ) → reply ≡ Bytes bytes → (sector : ℕ) × (ask ≡ asks.Read sector) × (bytes ≡ without_zeros (queue_runs.row_of rows sector))

-- not refused in any way
pub record IsDone (reply : Reply) : Type 0 where
  pub fault : reply ≡ Fault → ⊥
  pub spent : reply ≡ Spent → ⊥
  pub off : reply ≡ SaysOff → ⊥
  pub range : reply ≡ Range → ⊥
  pub long : reply ≡ Long → ⊥

write_done : (rows new : List (List ℕ)) (reply : Reply) (next : ArrayState) → IsDone reply → WriteRow rows new reply next → next ≡ On new
write_done rows new First next done row = row
write_done rows new Second next done row = row
write_done rows new Declined next done row = row
write_done rows new Fault next done row = absurd (done.fault refl)
write_done rows new Range next done row = absurd (done.range refl)
write_done rows new Long next done row = absurd (done.long refl)
write_done rows new Spent next done row = absurd (done.spent refl)
write_done rows new reply next done row = absurd row

write_tells : (rows new : List (List ℕ)) (reply : Reply) (next : ArrayState) (bytes : List ℕ) → reply ≡ Bytes bytes → WriteRow rows new reply next → ⊥
write_tells rows new (Bytes b) next bytes is row = row
write_tells rows new reply next bytes is row = cc

trim_done : (rows new : List (List ℕ)) (reply : Reply) (next : ArrayState) → IsDone reply → TrimRow rows new reply next → next ≡ On new
trim_done rows new Done next done row = row
trim_done rows new Fault next done row = absurd (done.fault refl)
trim_done rows new Range next done row = absurd (done.range refl)
trim_done rows new Spent next done row = absurd (done.spent refl)
trim_done rows new reply next done row = absurd row

trim_tells : (rows new : List (List ℕ)) (reply : Reply) (next : ArrayState) (bytes : List ℕ) → reply ≡ Bytes bytes → TrimRow rows new reply next → ⊥
trim_tells rows new (Bytes b) next bytes is row = row
trim_tells rows new reply next bytes is row = cc

read_done : (rows : List (List ℕ)) (row : List ℕ) (reply : Reply) (next : ArrayState) → IsDone reply → ReadRow rows row reply next → next ≡ On rows
read_done rows row (Bytes bytes) next done read = read.1
read_done rows row Fault next done read = absurd (done.fault refl)
read_done rows row Range next done read = absurd (done.range refl)
read_done rows row reply next done read = absurd read

read_tells : (rows : List (List ℕ)) (row : List ℕ) (reply : Reply) (next : ArrayState) (bytes : List ℕ) → reply ≡ Bytes bytes → ReadRow rows row reply next → bytes ≡ without_zeros row
read_tells rows row (Bytes b) next bytes is read = let same : b ≡ bytes = cc in sym same ∙ read.0
read_tells rows row reply next bytes is read = cc

module _ (size : ℕ) (rows : List (List ℕ)) (reply : Reply) (next : ArrayState) (done : IsDone reply) where
  served_on : (a : List (List ℕ)) (ask : Ask) → a ≡ rows → IsWhole size ask → IsRow size (On a) (line_of ask) reply next → ServedRows size rows ask reply next
  served_on a (asks.Write sector bytes) has whole row = record {
    after =
        rw (write_done a (written size a sector bytes) reply next done row)
        (ap (written size a sector) refl ∙ (ap (λ (b : List ℕ). set a sector b) (filled_none size bytes whole) ∙ ap (λ (r : List (List ℕ)). set r sector bytes) has));
    told = λ b is. absurd (write_tells a (written size a sector bytes) reply next b is row);
  }
  served_on a (asks.Read sector) has whole row = record {
    after = rw (read_done a (get_or a sector []) reply next done row) has;
    told = λ b is. (sector, refl, read_tells a (get_or a sector []) reply next b is row ∙ ap (λ (r : List (List ℕ)). without_zeros (queue_runs.row_of r sector)) has);
  }
  served_on a (asks.Trim sector) has whole row = record {
    after = rw (trim_done a (trimmed size a sector) reply next done row) (ap (λ (r : List (List ℕ)). set r sector (replicate size 0)) has);
    told = λ b is. absurd (trim_tells a (trimmed size a sector) reply next b is row);
  }

  refused_only : (array : ArrayState) → RefusedRow array reply next → ⊥
  refused_only array row = says_off reply done row
    where
      says_off : (r : Reply) → IsDone r → RefusedRow array r next → ⊥
      says_off SaysOff done row = done.off refl
      says_off r done row = row

  served_off : (a b : List (List ℕ)) (ask : Ask) → IsRow size (Off a b) (line_of ask) reply next → ⊥
  served_off a b (asks.Write sector bytes) row = refused_only (Off a b) row
  served_off a b (asks.Read sector) row = refused_only (Off a b) row
  served_off a b (asks.Trim sector) row = refused_only (Off a b) row

  pub served_rows : (array : ArrayState) (ask : Ask) → HasRows rows array → IsWhole size ask → IsRow size array (line_of ask) reply next → ServedRows size rows ask reply next
  served_rows (On a) ask has whole row = served_on a ask has whole row
  served_rows (Off a b) ask has whole row = absurd (served_off a b ask row)

-- ---- between two acts

record HasAll (d : Numbers) (queue : Waiting) (rows : List (List ℕ)) (view : View) : Type 0 where
  has : HasRows rows view.array
  sectors : queue.sectors ≡ d.geometry.sectors
  bytes : queue.sector_bytes ≡ d.geometry.sector_bytes
  asked : (k : ℕ) → k < length queue.commands → IsAsked d.geometry.sectors d.geometry.sector_bytes (command_at queue.commands k).ask

-- the rows after an act
abbrev rows_next : ℕ → List (List ℕ) → Act → List (List ℕ)
rows_next size rows (Put c) = rows
rows_next size rows (Served c e) = queue_runs.carried size rows c.ask
rows_next size rows (AtOnce tag e) = rows

asked_put : (d : Numbers) (old new : Waiting) (c : Tagged) → old.sectors ≡ d.geometry.sectors → old.sector_bytes ≡ d.geometry.sector_bytes
    → ((k : ℕ) → k < length old.commands → IsAsked d.geometry.sectors d.geometry.sector_bytes (command_at old.commands k).ask)
    → Accepts old c new → (k : ℕ) → k < length new.commands → IsAsked d.geometry.sectors d.geometry.sector_bytes (command_at new.commands k).ask
asked_put d old new c sectors bytes asked a k within =
    let size : ℕ = old.sector_bytes in
    let commands = ap (λ q. q.commands) a.last in
    let long = ap (length {A = Tagged}) commands ∙ length-append old.commands (accepted size c ∷ []) in
    elim (cases_lt k (length old.commands)) [
      | inl before ↦ subst (λ (t : Tagged). IsAsked d.geometry.sectors d.geometry.sector_bytes t.ask)
          (sym (ap (λ (cs : List Tagged). command_at cs k) commands ∙ get_or_append_left old.commands (accepted size c ∷ []) no_command k before)) (asked k before)
      | inr last ↦ (
          let here : k ≡ length old.commands = omega (arith, last, within, long) in
          let first : k - length old.commands ≡ 0 = omega (arith, here) in
          let fits = accepted_fits size old.sectors c (accepted size c) refl a.in_range a.fits in
          let is : command_at new.commands k ≡ accepted size c
          = ap (λ (cs : List Tagged). command_at cs k) commands
          ∙ (get_or-append_right old.commands (accepted size c ∷ []) (length old.commands) k no_command refl last ∙ ap (λ (i : ℕ). get_or (accepted size c ∷ []) i no_command) first) in
          subst (λ (t : Tagged). IsAsked d.geometry.sectors d.geometry.sector_bytes t.ask) (sym is) (record {
            in_range = subst (λ (n : ℕ). sector_of (accepted size c).ask < n) sectors fits.0;
            whole = subst (λ (n : ℕ). IsWhole n (accepted size c).ask) bytes fits.1;
          }))
    ]

asked_taken : (d : Numbers) (old new : Waiting) (c : Tagged) → ((k : ℕ) → k < length old.commands → IsAsked d.geometry.sectors d.geometry.sector_bytes (command_at old.commands k).ask)
    → Takes old c new → (k : ℕ) → k < length new.commands → IsAsked d.geometry.sectors d.geometry.sector_bytes (command_at new.commands k).ask
asked_taken d old new c asked t k within =
    let commands = ap (λ q. q.commands) t.rest in
    let less = length-remove old.commands t.place t.within in
    let long = ap (length {A = Tagged}) commands in
    elim (cases_lt k t.place) [
      | inl before ↦ subst (λ (x : Tagged). IsAsked d.geometry.sectors d.geometry.sector_bytes x.ask)
          (sym (ap (λ (cs : List Tagged). command_at cs k) commands ∙ get_or-remove_below old.commands t.place no_command k before t.within)) (asked k (omega (arith, within, less, long)))
      | inr after ↦ subst (λ (x : Tagged). IsAsked d.geometry.sectors d.geometry.sector_bytes x.ask)
          (sym (ap (λ (cs : List Tagged). command_at cs k) commands ∙ get_or-remove_above old.commands t.place no_command k after t.within)) (asked (k + 1) (omega (arith, within, less, long)))
    ]

-- ---- a line that is carried out at once

line_or : Option Ask → Line
line_or (Some ask) = line_of ask
line_or None = Stat

line_is : (line : Line) (ask : Ask) → ask_of line ≡ Some ask → line ≡ line_of ask
unfolding line_or
line_is (Write sector bytes) ask is = ap line_or is
line_is (Read sector) ask is = ap line_or is
line_is (Trim sector) ask is = ap line_or is
line_is (Idle n) ask is = cc
line_is (Cut n torn) ask is = cc
line_is (FailRead n) ask is = cc
line_is Mount ask is = cc
line_is Stat ask is = cc

out_of_range : (d : Numbers) (ask : Ask) → d.geometry.sectors ≤ sector_of ask → OutOfRange d (line_of ask)
out_of_range d (asks.Write sector bytes) far = far
out_of_range d (asks.Read sector) far = far
out_of_range d (asks.Trim sector) far = far

in_range : (d : Numbers) (ask : Ask) → sector_of ask < d.geometry.sectors → OutOfRange d (line_of ask) → ⊥
in_range d (asks.Write sector bytes) low far = omega (arith, low, far)
in_range d (asks.Read sector) low far = omega (arith, low, far)
in_range d (asks.Trim sector) low far = omega (arith, low, far)

too_long : (d : Numbers) (ask : Ask) → is_long d.geometry.sector_bytes ask ≡ true → TooLong d (line_of ask)
too_long d (asks.Write sector bytes) long = ltb-true d.geometry.sector_bytes (length bytes) long
too_long d (asks.Read sector) long = cc
too_long d (asks.Trim sector) long = cc

not_long : (d : Numbers) (ask : Ask) → IsWhole d.geometry.sector_bytes ask → TooLong d (line_of ask) → ⊥
not_long d (asks.Write sector bytes) whole long = omega (arith, whole, long)
not_long d (asks.Read sector) whole long = long
not_long d (asks.Trim sector) whole long = long

module _ (d : Numbers) (queue : Waiting) (e : Event) (step : IsStep d e) (sectors : queue.sectors ≡ d.geometry.sectors) (bytes : queue.sector_bytes ≡ d.geometry.sector_bytes) where
  unfit_reply : (ask : Ask) → e.line ≡ line_of ask → IsOn e.before.array → IsUnfit queue ask → (e.reply ≡ Range) ⊎ (e.reply ≡ Long)
  unfit_reply ask is on (inl far) =
      inl (step.answers.refused.range.1 (on, subst (OutOfRange d) (sym is) (out_of_range d ask (omega (arith, far, sectors)))))
  unfit_reply ask is on (inr long) = elim (cases_lt (sector_of ask) d.geometry.sectors) [
    | inr far ↦ inl (step.answers.refused.range.1 (on, subst (OutOfRange d) (sym is) (out_of_range d ask far)))
    | inl low ↦ inr (step.answers.refused.long.1 (
      on,
      (λ far. in_range d ask low (subst (OutOfRange d) is far)),
      subst (TooLong d) (sym is) (too_long d ask (subst (λ (n : ℕ). is_long n ask ≡ true) bytes long)),
    ))
  ]

  module _ (rows : List (List ℕ)) (has : HasRows rows e.before.array) where
    asked_rows : (ask : Ask) → ask_of e.line ≡ Some ask → (not (is_off e.before.array) ≡ true → (length queue.commands < 32) × IsUnfit queue ask)
        → (array : ArrayState) → e.before.array ≡ array → HasRows rows array → HasRows rows e.after.array
    asked_rows ask asks unfit (Off a b) is here =
        off_rows d.geometry.sector_bytes rows a b e.after.array e.line ask e.reply asks here (subst (λ (x : ArrayState). IsRow d.geometry.sector_bytes x e.line e.reply e.after.array) is step.row)
    asked_rows ask asks unfit (On a) is here =
        let runs : not (is_off e.before.array) ≡ true = ap (λ (x : ArrayState). not (is_off x)) is in
        let on : IsOn e.before.array = subst IsOn (sym is) tt in
        ranged_rows d.geometry.sector_bytes rows a e.after.array e.line ask e.reply asks here (unfit_reply ask (line_is e.line ask asks) on (unfit runs).1)
        (subst (λ (x : ArrayState). IsRow d.geometry.sector_bytes x e.line e.reply e.after.array) is step.row)

    at_once_rows : (o : Option Ask) → ask_of e.line ≡ o → MatchOption o (queue.commands ≡ []) (λ ask. not (is_off e.before.array) ≡ true → (length queue.commands < 32) × IsUnfit queue ask)
        → HasRows rows e.after.array
    at_once_rows None is due = other_rows d.geometry.sector_bytes rows e.before.array e.after.array e.line e.reply is has step.row
    at_once_rows (Some ask) is due = asked_rows ask is due e.before.array refl has

-- ---- act by act

-- a served command that is refused in no way
served_done : (d : Numbers) (c : Tagged) (e : Event) → IsStep d e → e.line ≡ line_of c.ask → IsAsked d.geometry.sectors d.geometry.sector_bytes c.ask → NotRefused (Served c e) → IsDone e.reply
served_done d c e step is asked not_refused = record {
  fault = not_refused.0;
  spent = not_refused.1;
  off = not_refused.2;
  range = λ r. in_range d c.ask asked.in_range (subst (OutOfRange d) is (step.answers.refused.range.0 r).1);
  long = λ r. not_long d c.ask asked.whole (subst (TooLong d) is (step.answers.refused.long.0 r).2);
}

module _ (d : Numbers) (from : Place) (before : View) (to : Place) (after : View) (rows : List (List ℕ)) (all : HasAll d from.queue rows before) where
  served_asked : (c : Tagged) → Takes from.queue c to.queue → IsAsked d.geometry.sectors d.geometry.sector_bytes c.ask
  served_asked c t = subst (λ (x : Tagged). IsAsked d.geometry.sectors d.geometry.sector_bytes x.ask) t.command (all.asked t.place t.within)

  served_so : (c : Tagged) (e : Event) → IsServed d c e from before to after → NotRefused (Served c e) → ServedRows d.geometry.sector_bytes rows c.ask e.reply e.after.array
  served_so c e s not_refused =
      let asked = served_asked c s.taken in
      let begins : HasRows rows e.before.array = subst (λ (v : View). HasRows rows v.array) (sym s.begins) all.has in
      served_rows d.geometry.sector_bytes rows e.reply e.after.array (served_done d c e s.step s.line asked not_refused) e.before.array c.ask begins asked.whole
      (subst (λ (l : Line). IsRow d.geometry.sector_bytes e.before.array l e.reply e.after.array) s.line s.step.row)

  act_keeps : (act : Act) → IsAct d act from before to after → NotRefused act → HasAll d to.queue (rows_next d.geometry.sector_bytes rows act) after
  act_keeps (Put c) is not_refused = record {
    has = subst (λ (v : View). HasRows rows v.array) (sym is.same_view) all.has;
    sectors = ap (λ q. q.sectors) is.accepted.last ∙ all.sectors;
    bytes = ap (λ q. q.sector_bytes) is.accepted.last ∙ all.bytes;
    asked = asked_put d from.queue to.queue c all.sectors all.bytes all.asked is.accepted;
  }
  act_keeps (Served c e) is not_refused = record {
    has = subst (λ (v : View). HasRows (queue_runs.carried d.geometry.sector_bytes rows c.ask) v.array) (sym is.ends) (served_so c e is not_refused).after;
    sectors = ap (λ q. q.sectors) is.taken.rest ∙ all.sectors;
    bytes = ap (λ q. q.sector_bytes) is.taken.rest ∙ all.bytes;
    asked = asked_taken d from.queue to.queue c all.asked is.taken;
  }
  act_keeps (AtOnce tag e) is not_refused =
      let begins : HasRows rows e.before.array = subst (λ (v : View). HasRows rows v.array) (sym is.begins) all.has in
      let due : IsAtOnceDue (not (is_off e.before.array)) from.queue e.line = subst (λ (v : View). IsAtOnceDue (not (is_off v.array)) from.queue e.line) (sym is.begins) is.due in
      subst (λ (q : Waiting). HasAll d q rows after) (sym is.same_queue) (record {
        has = subst (λ (v : View). HasRows rows v.array) (sym is.ends) (at_once_rows d from.queue e is.step all.sectors all.bytes rows begins (ask_of e.line) refl due);
        sectors = all.sectors;
        bytes = all.bytes;
        asked = all.asked;
      })

-- ---- the acts as a run of the queue over the rows

answer_of : List (List ℕ) → Ask → Answer
answer_of rows (asks.Write sector bytes) = Wrote PutFirst
answer_of rows (asks.Read sector) = Row (queue_runs.row_of rows sector)
answer_of rows (asks.Trim sector) = Trimmed

answers_so : (rows : List (List ℕ)) (ask : Ask) → queue_runs.AnswersOf rows ask (answer_of rows ask)
unfolding answer_of
answers_so rows (asks.Write sector bytes) = tt
answers_so rows (asks.Read sector) = refl
answers_so rows (asks.Trim sector) = tt

answered_well : (rows : List (List ℕ)) (ask : Ask) → queue_runs.is_refused (answer_of rows ask) ≡ false
unfolding answer_of
answered_well rows (asks.Write sector bytes) = refl
answered_well rows (asks.Read sector) = refl
answered_well rows (asks.Trim sector) = refl

answer_read : (rows : List (List ℕ)) (ask : Ask) (sector : ℕ) → ask ≡ asks.Read sector → answer_of rows ask ≡ Row (queue_runs.row_of rows sector)
unfolding answer_of
answer_read rows ask sector is = ap (answer_of rows) is

abbrev events_of : ℕ → List (List ℕ) → List Act → List queue_runs.Event
events_of size rows [] = []
events_of size rows (Put c ∷ acts) = queue_runs.Put c ∷ events_of size rows acts
events_of size rows (Served c e ∷ acts) = queue_runs.Served c (answer_of rows c.ask) ∷ events_of size (queue_runs.carried size rows c.ask) acts
events_of size rows (AtOnce tag e ∷ acts) = events_of size rows acts

abbrev rows_after : ℕ → List (List ℕ) → List Act → List (List ℕ)
rows_after size rows [] = rows
rows_after size rows (act ∷ acts) = rows_after size (rows_next size rows act) acts

abbrev seen : Waiting → List (List ℕ) → queue_runs.State
seen queue rows = record { queue = queue; rows = rows }

queue_run : (d : Numbers) (acts : List Act) (from to : Place) (before after : View) (rows : List (List ℕ)) → HasAll d from.queue rows before → AreActs d from before acts to after
    → AllByRecursion NotRefused acts
    → queue_runs.IsRun (seen from.queue rows) (events_of d.geometry.sector_bytes rows acts) (seen to.queue (rows_after d.geometry.sector_bytes rows acts))
unfolding AreActs
queue_run d [] from to before after rows all run none = ap (λ (p : Place). seen p.queue rows) run.0
queue_run d (Put c ∷ acts) from to before after rows all run none =
    (seen run.0.queue rows, (run.2.accepted, refl), queue_run d acts run.0 to run.1 after rows (act_keeps d from before run.0 run.1 rows all (Put c) run.2 none.0) run.3 none.1)
queue_run d (Served c e ∷ acts) from to before after rows all run none =
    let size : ℕ = d.geometry.sector_bytes in (
      seen run.0.queue (queue_runs.carried size rows c.ask),
      (run.2.taken, record { answer_is = answers_so rows c.ask; carried_so = λ h. ap (λ (n : ℕ). queue_runs.carried n rows c.ask) (sym all.bytes) }),
      queue_run d acts run.0 to run.1 after (queue_runs.carried size rows c.ask) (act_keeps d from before run.0 run.1 rows all (Served c e) run.2 none.0) run.3 none.1,
    )
queue_run d (AtOnce tag e ∷ acts) from to before after rows all run none =
    subst (λ (q : Waiting). queue_runs.IsRun (seen q rows) (events_of d.geometry.sector_bytes rows acts) (seen to.queue (rows_after d.geometry.sector_bytes rows acts))) run.2.same_queue
    (queue_run d acts run.0 to run.1 after rows (act_keeps d from before run.0 run.1 rows all (AtOnce tag e) run.2 none.0) run.3 none.1)

none_refused : (size : ℕ) (rows : List (List ℕ)) (acts : List Act) → AllByRecursion queue_runs.NotRefused (events_of size rows acts)
none_refused size rows [] = tt
none_refused size rows (Put c ∷ acts) = (tt, none_refused size rows acts)
none_refused size rows (Served c e ∷ acts) = (answered_well rows c.ask, none_refused size (queue_runs.carried size rows c.ask) acts)
none_refused size rows (AtOnce tag e ∷ acts) = none_refused size rows acts

same_accepted : (size n : ℕ) (rows : List (List ℕ)) (acts : List Act) → queue_runs.accepted_in size (events_of n rows acts) ≡ accepted_in size acts
same_accepted size n rows [] = refl
same_accepted size n rows (Put c ∷ acts) = ap (λ cs. accepted size c ∷ cs) (same_accepted size n rows acts)
same_accepted size n rows (Served c e ∷ acts) = same_accepted size n (queue_runs.carried n rows c.ask) acts
same_accepted size n rows (AtOnce tag e ∷ acts) = same_accepted size n rows acts

same_served : (size : ℕ) (rows : List (List ℕ)) (acts : List Act) → queue_runs.served_in (events_of size rows acts) ≡ served_in acts
same_served size rows [] = refl
same_served size rows (Put c ∷ acts) = same_served size rows acts
same_served size rows (Served c e ∷ acts) = ap (λ cs. c ∷ cs) (same_served size (queue_runs.carried size rows c.ask) acts)
same_served size rows (AtOnce tag e ∷ acts) = same_served size rows acts

events_append : (size : ℕ) (rows : List (List ℕ)) (acts more : List Act) → events_of size rows (acts ++ more) ≡ events_of size rows acts ++ events_of size (rows_after size rows acts) more
events_append size rows [] more = refl
events_append size rows (Put c ∷ acts) more = ap (λ es. queue_runs.Put c ∷ es) (events_append size rows acts more)
events_append size rows (Served c e ∷ acts) more = ap (λ es. queue_runs.Served c (answer_of rows c.ask) ∷ es) (events_append size (queue_runs.carried size rows c.ask) acts more)
events_append size rows (AtOnce tag e ∷ acts) more = events_append size rows acts more

-- ---- a read in a run

record ReadAt (size : ℕ) (rows : List (List ℕ)) (before : List Act) (c : Tagged) (bytes : List ℕ) : Type 0 where
  sector : ℕ
  read : c.ask ≡ asks.Read sector
  told : bytes ≡ without_zeros (queue_runs.row_of (rows_after size rows before) sector)

module _ (d : Numbers) (c : Tagged) (e : Event) (rest : List Act) (bytes : List ℕ) (is : e.reply ≡ Bytes bytes) where
  read_at : (acts : List Act) (from to : Place) (before after : View) (rows : List (List ℕ)) → HasAll d from.queue rows before → AreActs d from before (acts ++ Served c e ∷ rest) to after
      → AllByRecursion NotRefused (acts ++ Served c e ∷ rest) → ReadAt d.geometry.sector_bytes rows acts c bytes
  unfolding AreActs
  read_at [] from to before after rows all run none =
      let told = (served_so d from before run.0 run.1 rows all c e run.2 none.0).told bytes is in
      record { sector = told.0; read = told.1; told = told.2 }
  read_at (act ∷ acts) from to before after rows all run none =
      let next = read_at acts run.0 to run.1 after (rows_next d.geometry.sector_bytes rows act) (act_keeps d from before run.0 run.1 rows all act run.2 none.0) run.3 none.1 in
      record { sector = next.sector; read = next.read; told = next.told }

-- acts that begin where nothing waits and the array has these rows
pub reads_the_order : (d : Numbers) (acts : List Act) (from to : Place) (before after : View) (rows : List (List ℕ)) → before.array ≡ On rows → from.queue.commands ≡ [] → from.queue.passed ≡ 0
    → from.queue.sectors ≡ d.geometry.sectors → from.queue.sector_bytes ≡ d.geometry.sector_bytes → AreActs d from before acts to after → ReadsTheOrder d.geometry.sector_bytes rows acts
reads_the_order d acts from to before after rows on none passed sectors bytes_are run first rest c e bytes parts not_refused is =
    let size : ℕ = d.geometry.sector_bytes in
    let all : HasAll d from.queue rows before = record {
      has = subst (HasRows rows) (sym on) refl;
      sectors = sectors;
      bytes = bytes_are;
      asked = λ k within. absurd (let long = ap (length {A = Tagged}) none in omega (arith, within, long));
    } in
    let run' : AreActs d from before (first ++ Served c e ∷ rest) to after = subst (λ (xs : List Act). AreActs d from before xs to after) parts run in
    let none_of = recursion_from_All NotRefused (first ++ Served c e ∷ rest) (subst (All NotRefused) parts not_refused) in
    let read = read_at d c e rest bytes is first from to before after rows all run' none_of in
    let row : List ℕ = queue_runs.row_of (rows_after size rows first) read.sector in
    let last_rows : List (List ℕ) = rows_after size rows (first ++ Served c e ∷ rest) in
    let later : List queue_runs.Event = events_of size (queue_runs.carried size (rows_after size rows first) c.ask) rest in
    let events : List queue_runs.Event = events_of size rows (first ++ Served c e ∷ rest) in
    let events_are : events ≡ events_of size rows first ++ queue_runs.Served c (Row row) ∷ later
    =
    events_append size rows first (Served c e ∷ rest)
    ∙ ap (λ (a : Answer). events_of size rows first ++ queue_runs.Served c a ∷ later) (answer_read (rows_after size rows first) c.ask read.sector read.read) in
    let is_run =
    subst (λ (es : List queue_runs.Event). queue_runs.IsRun (seen from.queue rows) es (seen to.queue last_rows)) events_are
    (queue_run d (first ++ Served c e ∷ rest) from to before after rows all run' none_of) in
    let well = subst (All queue_runs.NotRefused) events_are (All-from_recursion queue_runs.NotRefused events (none_refused size rows (first ++ Served c e ∷ rest))) in
    let found = reads_in_order (seen from.queue rows) (seen to.queue last_rows) (events_of size rows first) later c row (record { none = none; passed = passed }) is_run well in
    let found' : queue_runs.ReadInOrder size rows (queue_runs.accepted_in size (events_of size rows first ++ queue_runs.Served c (Row row) ∷ later))
    (queue_runs.served_in (events_of size rows first)) c row
    =
    subst (λ (n : ℕ). queue_runs.ReadInOrder n rows (queue_runs.accepted_in n (events_of size rows first ++ queue_runs.Served c (Row row) ∷ later))
    (queue_runs.served_in (events_of size rows first)) c row) bytes_are found in
    let accepted_are : queue_runs.accepted_in size (events_of size rows first ++ queue_runs.Served c (Row row) ∷ later) ≡ accepted_in size acts
    = ap (queue_runs.accepted_in size) (sym events_are) ∙ (same_accepted size size rows (first ++ Served c e ∷ rest) ∙ ap (accepted_in size) (sym parts)) in (
      row,
      read.told,
      subst (λ (cs : List Tagged). queue_runs.ReadInOrder size rows cs (served_in first) c row) accepted_are
          (subst (λ (cs : List Tagged). queue_runs.ReadInOrder size rows (queue_runs.accepted_in size (events_of size rows first ++ queue_runs.Served c (Row row) ∷ later)) cs c row)
          (same_served size rows first) found'),
    )
