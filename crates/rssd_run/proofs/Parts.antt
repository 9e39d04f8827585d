-- The parts of a step that many lines share.
use Rattle.std.proofs.Common.{◌≡◌, ◌≢◌, ◌⊎◌, inl, inr, Option, None, Some, sym, ℕ, Bool, true, false, List, arith, refl, ap, ◌∙◌, subst, []}
use Rattle.cell_die.specs.DieState.{DieState}
use Rattle.cell_die.proofs.Sequences.{never_falls_refl, never_falls_trans}
use Rattle.rssd_script.specs.declared.replies.Reply.TheVariants.{Range, Long, Off as SaysOff, Fault, Spent}
use Rattle.cell_die.specs.Calls.{PassedWithin}
use Rattle.reuse_pool.specs.declared.unit.ReuseUnit.{ReuseUnit}
use Rattle.rssd_script.specs.declared.lines.Line.{Line}
use Rattle.rssd_script.specs.declared.lines.Line.TheVariants.{Write}
use Rattle.rssd_script.specs.declared.replies.Reply.{Reply}
use Rattle.rssd_core.specs.Within.{Went}
use Rattle.rssd_core.specs.IdleRule.{IdleMoves, IdleUnfinished}
use Rattle.rssd_core.specs.Writes.{OfferCarries, OfferDeclines, OverUnit}
use Rattle.rssd_core.specs.BookChanges.{Change}
use Rattle.rssd_core.specs.DeviceValue.{Numbers, DeviceView, DeviceValue}
use Rattle.rssd_core.specs.Failures.{Tells}
use Rattle.rssd_core.specs.Moves.{MovesBook, MovesSeq, WhereCut, CollectAtCut}
use Rattle.rssd_core.specs.Outcomes.{Holds, WriteFault, TrimFault, WriteFaultMay, TrimFaultMay, RisesSealed, WriteAtCut}
use Rattle.rssd_core.specs.Writes.{OnCleanPage, GetsPage, TakesOver, WriteErased, TrimLeaves}
use Rattle.rssd_run.specs.ArrayWithCuts.{ArrayState, On, Off}
use Rattle.rssd_run.specs.View.{View, Event, IsOn, IsOff, NoFailure}
use Rattle.rssd_run.specs.Held.{Tallies, plus}
use Rattle.rssd_run.specs.Step.{KeepsDie, RefusedExactly, FaultExactly, OutOfRange, TooLong, NumbersSpent}

pub not_both : (array : ArrayState) → IsOn array → IsOff array → ⊥
not_both (On rows) on off = off
not_both (Off a b) on off = on

pub not_refused : (d : Numbers) (e : Event) → IsOn e.before.array → (OutOfRange d e.line → ⊥) → (TooLong d e.line → ⊥) → (NumbersSpent e.before e.line → ⊥)
    → e.reply ≢ SaysOff → e.reply ≢ Range → e.reply ≢ Long → e.reply ≢ Spent → RefusedExactly d e
not_refused d e on range long spent o r l s = record {
  off = (λ h. absurd (o h), λ h. absurd (not_both e.before.array on h.0));
  range = (λ h. absurd (r h), λ h. absurd (range h.1));
  long = (λ h. absurd (l h), λ h. absurd (long h.2));
  spent = (λ h. absurd (s h), λ h. absurd (spent h.3));
}

pub no_fault : (e : Event) → e.reply ≢ Fault → NoFailure e → FaultExactly e
no_fault e reply none = record {
  came = (λ h. absurd (reply h), λ h. absurd (none h));
  one = λ c r. none (inl c);
  rose = λ h. absurd (reply h);
}

pub keeps : (d : Numbers) (base : Tallies) (old new : DeviceValue) → Holds d old new → (Tells old.view.die → Tells new.view.die) → KeepsDie d old.view.die new.view.die
keeps d base old new holds tells = record { shape = holds.kept.shape; tells = tells; never_falls = holds.kept.never_falls; no_pad = holds.no_pad; sound = holds.sound }

pub keeps_none : (d : Numbers) (die : DieState) → KeepsDie d die die
keeps_none d die = record { shape = refl; tells = λ h. h; never_falls = never_falls_refl die; no_pad = λ h. h; sound = λ h. h }

pub keeps_more : (d : Numbers) (old mid new : DieState) → KeepsDie d old mid → KeepsDie d mid new → KeepsDie d old new
keeps_more d old mid new first second = record {
  shape = second.shape ∙ first.shape;
  tells = λ h. second.tells (first.tells h);
  never_falls = never_falls_trans old mid new first.shape first.never_falls second.never_falls;
  no_pad = λ h. second.no_pad (first.no_pad h);
  sound = λ h. second.sound (first.sound h);
}

pub keeps_same : (d : Numbers) (view : DeviceView) → KeepsDie d view.die view.die
keeps_same d view = keeps_none d view.die

-- the book moves so under the session's tallies too, and a rise at a cut is one
pub plus_book : (d : Numbers) (base : Tallies) (old new : DeviceView) {May : List Change → Type 0} {Rises : List Change → ℕ → Type 0} {AtCut Then : ℕ → Type 0}
    → ((rise : ℕ) → AtCut rise → Then rise) → MovesBook d May Rises AtCut old new → MovesBook d May Rises Then (plus base old) (plus base new)
plus_book d base old new then book = record {
  changes = book.changes;
  leads = book.leads;
  may = book.may;
  rise = book.rise;
  rises = book.rises;
  tally = omega (arith, book.tally);
  at_cut = then book.rise book.at_cut;
}

pub plus_seq : (d : Numbers) (base : Tallies) (old new : DeviceView) → MovesSeq d old new → MovesSeq d (plus base old) (plus base new)
plus_seq d base old new seq = record { not_less = seq.not_less; few = seq.few; headers = seq.headers }

-- ---- what is drawn and erased, under the session's tallies

pub gets_plus : (base : Tallies) (old new : DeviceView) → GetsPage old new → GetsPage (plus base old) (plus base new)
gets_plus base old new g = record { drawn = g.drawn; erased = g.erased }

pub over_draws_plus : (base : Tallies) (old new : DeviceView) → TakesOver old new → TakesOver (plus base old) (plus base new)
over_draws_plus base old new t = record { drawn = t.drawn; erases = t.erases }

pub erased_plus : (d : Numbers) (base : Tallies) (old new : DeviceView) (row : List ℕ) → WriteErased d old row new → WriteErased d (plus base old) row (plus base new)
erased_plus d base old new row w = record { over = w.over; clean = w.clean }

pub clean_plus : {sector kind : ℕ} {bytes : List ℕ} → (d : Numbers) (base : Tallies) (old new : DeviceView)
    → OnCleanPage d old new sector bytes kind → OnCleanPage d (plus base old) (plus base new) sector bytes kind
clean_plus d base old new clean = record { live = clean.live; cells = clean.cells }

pub trim_plus_leaves : (d : Numbers) (base : Tallies) (old new : DeviceView) (sector : ℕ) (held : Bool) → TrimLeaves d old new sector held → TrimLeaves d (plus base old) (plus base new) sector held
trim_plus_leaves d base old new sector true t = (clean_plus d base old new t.0, gets_plus base old new t.1)
trim_plus_leaves d base old new sector false t = ap (plus base) t

-- ---- the book after a fault, by whether the device is stopped

pub write_book_so : (d : Numbers) (old new : DeviceValue) (sector : ℕ) (row : List ℕ) (stopped : Bool) → new.stopped ≡ stopped → WriteFault d sector row old new
    → MovesBook d (WriteFaultMay stopped) (RisesSealed old.view.book) (WhereCut (WriteAtCut d old.view row) old.view new.view) old.view new.view
write_book_so d old new sector row stopped is w =
    subst (λ (t : Bool). MovesBook d (WriteFaultMay t) (RisesSealed old.view.book) (WhereCut (WriteAtCut d old.view row) old.view new.view) old.view new.view) is w.book

pub trim_book_so : (d : Numbers) (old new : DeviceValue) (sector : ℕ) (stopped : Bool) → new.stopped ≡ stopped → TrimFault d sector old new
    → MovesBook d (TrimFaultMay stopped) (RisesSealed old.view.book) (WhereCut (CollectAtCut old.view.book) old.view new.view) old.view new.view
trim_book_so d old new sector stopped is w =
    subst (λ (t : Bool). MovesBook d (TrimFaultMay t) (RisesSealed old.view.book) (WhereCut (CollectAtCut old.view.book) old.view new.view) old.view new.view) is w.book

-- ---- a line's event

abbrev pub event_of : Line → Reply → View → View → Event
event_of line reply before after = record { line = line; reply = reply; before = before; after = after }

abbrev pub sector_in : Line → ℕ
sector_in (Write sector bytes) = sector
sector_in line = 0

abbrev pub bytes_in : Line → List ℕ
bytes_in (Write sector bytes) = bytes
bytes_in line = []

abbrev unit_in : ReuseUnit → Option ReuseUnit → ReuseUnit
unit_in other None = other
unit_in other (Some unit) = unit

-- the one offered unit cannot both carry the sector and not carry it
pub offered_both : (d : Numbers) (view : DeviceView) (row : List ℕ) → OfferCarries d view row → OfferDeclines d view row → ⊥
offered_both d view row carries declines =
    let same : carries.0 ≡ declines.0 = ap (unit_in carries.0) (sym carries.1 ∙ declines.1) in
    declines.2 (rw (sym same) carries.2)

pub over_plus : (d : Numbers) (base : Tallies) (old new : DeviceView) (sector : ℕ) (bytes : List ℕ) (unit : ReuseUnit)
    → OverUnit d old new sector bytes unit → OverUnit d (plus base old) (plus base new) sector bytes unit
over_plus d base old new sector bytes unit over = record { live = over.live; above = over.above; carries = over.carries; gives = over.gives }

pub neither : {A B C : Type 0} → (A → ⊥) → (B → ⊥) → A ⊎ B → C
neither f g (inl a) = absurd (f a)
neither f g (inr b) = absurd (g b)

pub moves_plus : (d : Numbers) (base : Tallies) (old new : DeviceView) (k : ℕ) → IdleMoves d old new k → IdleMoves d (plus base old) (plus base new) k
moves_plus d base old new k m = record {
  sectors = m.sectors;
  count = m.count;
  block = m.block;
  fill = m.fill;
  active = m.active;
  in_order = record { distinct = m.in_order.distinct; moved = m.in_order.moved; others = m.in_order.others };
  book = m.book;
  by_rule = m.by_rule;
  recycled = m.recycled;
}

pub unfinished_plus : (d : Numbers) (base : Tallies) (old new : DeviceView) (n : ℕ) → IdleUnfinished d n old new → IdleUnfinished d n (plus base old) (plus base new)
unfinished_plus d base old new n m = record {
  sectors = m.sectors;
  some_left = m.some_left;
  finished = m.finished;
  mid = m.mid;
  by_rule = m.by_rule;
  one_more = m.one_more;
  unfinished = elim m.unfinished [
    | inl u ↦ inl (record { cells = u.cells; seq = u.seq; recycled = u.recycled; victim = u.victim; is_victim = u.is_victim; failed = u.failed; by_then = u.by_then })
    | inr b ↦ inr (record { rows = b.rows; seq = b.seq; book = b.book; victim = b.victim; is_victim = b.is_victim; first = b.first; is_first = b.is_first; failed = b.failed })
  ];
}

pub bounded : {changes reads : ℕ} {old new : DieState} → PassedWithin changes reads old new → Went changes reads (Unit {0}) old new
bounded within = record { within = within; exact = λ not. absurd (not tt) }
