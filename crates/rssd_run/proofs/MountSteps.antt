-- Mounts.
use Rattle.std.proofs.Common.{◌≡◌, ◌≢◌, inl, inr, ℕ, ◌^◌, ◌<◌, List, refl, arith, sym, ap, ◌∙◌, subst}
use Rattle.cell_die.specs.DieState.{DieState}
use Rattle.cell_die.specs.Changes.{SameCells}
use Rattle.cell_die.specs.Calls.{Passed, ReadFailed}
use Rattle.cell_die.specs.Power.{told, with_power}
use Rattle.page_codec.specs.Geometry.{page_count, shape_of}
use Rattle.rssd_script.specs.declared.lines.Line.TheVariants.{Mount}
use Rattle.rssd_script.specs.declared.replies.Reply.TheVariants.{Done, Fault, NoSpare, NoMemory, Off as SaysOff, Range, Long, Spent}
use Rattle.rssd_core.specs.DeviceValue.{Numbers, DeviceView, DeviceValue, rows_of}
use Rattle.rssd_core.specs.Failures.{Lowers, Tells, TellsPower, cut_of, form_of, read_failure_of}
use Rattle.rssd_core.specs.Within.{Went}
use Rattle.cell_die.specs.declared.shape.Shape.{Shape}
use Rattle.striped.specs.Meaning.{Meaning}
use Rattle.rssd_core.specs.declared.device.Plan.{Plan}
use Rattle.rssd_core.specs.Mount.{numbers_of, Fits, IsMountedView, EveryBlockLive, Mounts, Refuses}
use Rattle.rssd_core.specs.declared.device.MountError.{MountError}
use Rattle.rssd_core.specs.declared.device.MountError.TheVariants.{OutOfMemory, Shape as BadShape, DieFault, NoSpare as NoSpareError}
use Rattle.rssd_run.specs.Steps.{MountDone, MountRefused}
use Rattle.rssd_run.specs.ArrayWithCuts.{ArrayState, On, Off, Row}
use Rattle.rssd_run.specs.View.{View, Event, NoFailure, StandsFor, IsArrayOf, IsOn}
use Rattle.rssd_run.specs.Held.{Tallies, plus, on, tallies_of, after_refusal, refused}
use Rattle.rssd_run.specs.Moves.{ByRules, BookMoves}
use Rattle.rssd_run.specs.Armed.{ArmedExactly}
use Rattle.rssd_script.specs.declared.replies.Reply.{Reply}
use Rattle.rssd_run.specs.Step.{IsRefusal, firsts, seconds, declines, StatAnswer, FaultExactly, NoSpareExactly}
use Rattle.rssd_run.specs.Step.{IsStep, RefusedExactly, OutOfRange, TooLong, NumbersSpent, AlwaysAnswered}
use Rattle.rssd_run.proofs.Came.{power_tells, went_power, went_lowers, none_came, AReadCame, read_came, read_rose, passed_went}
use Rattle.rssd_run.proofs.Parts.{no_fault}
use Rattle.rssd_run.proofs.Still.{keeps_cells, keeps_die, same_book, same_seq, lowers_none, lowers_powered, power_given, cut_powered, form_powered, read_powered}
use Rattle.rssd_run.proofs.Parts.{event_of}

pub mount_row : (size : ℕ) (array : ArrayState) (rows : List (List ℕ)) → IsArrayOf rows array → Row size array Mount Done (On rows)
mount_row size (On held) rows same = ap On same
mount_row size (Off old new) rows (inl same) = inl (ap On same)
mount_row size (Off old new) rows (inr same) = inr (ap On same)

refused_stands : (array : ArrayState) (rows : List (List ℕ)) → IsArrayOf rows array → IsArrayOf rows (after_refusal array)
refused_stands (On held) rows same = inl same
refused_stands (Off old new) rows same = same

refused_off : (array : ArrayState) → IsOn (after_refusal array) → ⊥
refused_off (On held) on = on
refused_off (Off old new) on = on

fault_row : (size : ℕ) (array : ArrayState) → Row size array Mount Fault (after_refusal array)
fault_row size (On held) = refl
fault_row size (Off old new) = refl

spare_row : (size : ℕ) (array : ArrayState) → Row size array Mount NoSpare (after_refusal array)
spare_row size (On held) = refl
spare_row size (Off old new) = refl

memory_row : (size : ℕ) (array : ArrayState) → Row size array Mount NoMemory (after_refusal array)
memory_row size (On held) = refl
memory_row size (Off old new) = refl

-- a line that is always answered is never refused
pub never_refused : (d : Numbers) (e : Event) → AlwaysAnswered e.line → (OutOfRange d e.line → ⊥) → (TooLong d e.line → ⊥) → (NumbersSpent e.before e.line → ⊥)
    → e.reply ≢ SaysOff → e.reply ≢ Range → e.reply ≢ Long → e.reply ≢ Spent → RefusedExactly d e
never_refused d e always range long spent o r l s = record {
  off = (λ h. absurd (o h), λ h. absurd (h.1 always));
  range = (λ h. absurd (r h), λ h. absurd (range h.1));
  long = (λ h. absurd (l h), λ h. absurd (long h.2));
  spent = (λ h. absurd (s h), λ h. absurd (spent h.3));
}

mounted_plus : (d : Numbers) (base : Tallies) (view : DeviceView) → IsMountedView d view → IsMountedView d (plus base view)
mounted_plus d base view m = record { found = m.found; mounted = m.mounted; recycled = m.recycled; seq = m.seq }

pub mount_step : (d : Numbers) (before : View) (new : DeviceValue) → StandsFor d before → before.device.moved < 2 ^ 64 → Tells before.device.die → Mounts d (told with_power before.device.die) new
    → IsStep d (event_of Mount Done before (on d (tallies_of before.device) new))
mount_step d before new stands small tells m =
    let die : DieState = new.view.die in
    let after : View = on d (tallies_of before.device) new in
    let e : Event = event_of Mount Done before after in
    let powered : DieState = told with_power before.device.die in
    let same : SameCells before.device.die die = record { cells = m.cells.cells; erases = m.cells.erases } in
    let went : Went 0 (page_count d.geometry) ⊥ powered die = passed_went m.calls in
    let power : TellsPower die = went_power powered die (power_given before.device.die tells) went in
    let lowers : Lowers 0 (page_count d.geometry) ⊥ before.device.die die = lowers_powered before.device.die die (went_lowers powered die (power_given before.device.die tells) went) in
    let none : NoFailure e = none_came before.device.die die lowers in
    let rows : rows_of d before.device ≡ rows_of d after.device = rw same.cells refl in
    let still : IsArrayOf (rows_of d after.device) before.array = rw (sym rows) stands in
    let free = rw same.cells at m.mounted.mounted.free.free in
    record {
      row = mount_row d.geometry.sector_bytes before.array (rows_of d after.device) still;
      stands_before = stands;
      stands_after = refl;
      off = λ h. cc;
      keeps = keeps_cells d before.device after.device m.kept.shape same (λ t. power_tells die power);
      placed = λ s b t. absurd (let l = t.write in cc);
      fault = no_fault e (λ h. cc) none;
      answers = record {
        refused = never_refused d e tt (λ h. h) (λ h. h) (λ h. h) (λ h. cc) (λ h. cc) (λ h. cc) (λ h. cc);
        idle = tt;
        no_spare = record { only = λ h. cc; always = λ line no full. absurd (omega (arith, full m.mounted.mounted.spare m.mounted.mounted.free.within, free)) };
        stays = λ h. same;
        stat = tt;
        tallies = record { first = omega (arith, m.counts.first); second = omega (arith, m.counts.second); declined = omega (arith, m.counts.declined) };
      };
      true_book = λ on. m.true_book m.running;
      moves = (mounted_plus d (tallies_of before.device) new.view m.mounted, omega (arith, small, m.counts.moved));
      armed = record { arms = tt; lowers = λ a f. lowers; fault = λ h. cc };
      power = λ on t. power;
      leaves = same.erases;
    }

read_came_powered : {changes reads : ℕ} (die new : DieState) → AReadCame changes reads (told with_power die) new → AReadCame changes reads die new
read_came_powered {changes} {reads} die new came =
    let cut : cut_of (told with_power die) ≡ cut_of die = cut_powered die.failures in
    let form : form_of (told with_power die) ≡ form_of die = form_powered die.failures in
    let read : read_failure_of (told with_power die) ≡ read_failure_of die = read_powered die.failures in
    record {
      came = rw read at came.came;
      within = rw read at came.within;
      cut = rw cut at came.cut;
      form = λ h. came.form h ∙ form;
      power = came.power;
    }

-- a mount that is refused leaves the cells as they were, and the array off
module _ (d : Numbers) (before : View) (die : DieState) (stands : StandsFor d before) (small_first : before.device.first < 2 ^ 64) (small_second : before.device.second < 2 ^ 64)
    (small_declined : before.device.declined < 2 ^ 64) (small : before.device.moved < 2 ^ 64) (shape : die.shape ≡ before.device.die.shape) (same : SameCells before.device.die die)
    (tells : Tells before.device.die → Tells die) where
  refused_step : (reply : Reply) → Row d.geometry.sector_bytes before.array Mount reply (after_refusal before.array) → (IsRefusal reply → ⊥)
      → (firsts reply ≡ 0) × (seconds reply ≡ 0) × (declines reply ≡ 0) → StatAnswer (event_of Mount reply before (refused before die)) reply
      → (ByRules d (event_of Mount reply before (refused before die)) → BookMoves d (event_of Mount reply before (refused before die)) Mount reply)
      → FaultExactly (event_of Mount reply before (refused before die)) → NoSpareExactly d (event_of Mount reply before (refused before die))
      → ArmedExactly d (event_of Mount reply before (refused before die)) → IsStep d (event_of Mount reply before (refused before die))
  refused_step reply row done none stat moves fault no_spare armed =
      let after : View = refused before die in
      let rows : rows_of d before.device ≡ rows_of d after.device = rw same.cells refl in
      let still : IsArrayOf (rows_of d after.device) before.array = rw (sym rows) stands in
      record {
        row = row;
        stands_before = stands;
        stands_after = refused_stands before.array (rows_of d after.device) still;
        off = λ h c. absurd c;
        keeps = keeps_cells d before.device after.device shape same tells;
        placed = λ s b t. absurd (let l = t.write in cc);
        fault = fault;
        answers = record {
          refused = never_refused d (event_of Mount reply before after) tt (λ h. h) (λ h. h) (λ h. h) (λ h. done (subst IsRefusal (sym h) tt)) (λ h. done (subst IsRefusal (sym h) tt))
              (λ h. done (subst IsRefusal (sym h) tt)) (λ h. done (subst IsRefusal (sym h) tt));
          idle = tt;
          no_spare = no_spare;
          stays = λ h. same;
          stat = stat;
          tallies = record { first = omega (arith, none.0, small_first); second = omega (arith, none.1, small_second); declined = omega (arith, none.2, small_declined) };
        };
        true_book = λ on. absurd (refused_off before.array on);
        moves = moves (record { book = same_book d before.device after.device refl refl small (λ c. tt) refl refl; seq = same_seq d before.device after.device refl same.cells });
        armed = armed;
        power = λ on. absurd (refused_off before.array on);
        leaves = same.erases;
      }

pub mount_fault_step : (d : Numbers) (before : View) (die : DieState) → StandsFor d before → before.device.first < 2 ^ 64 → before.device.second < 2 ^ 64 → before.device.declined < 2 ^ 64
    → before.device.moved < 2 ^ 64
    → Tells before.device.die → ReadFailed 0 (page_count d.geometry) (told with_power before.device.die) die → die.shape ≡ before.device.die.shape → SameCells before.device.die die
    → IsStep d (event_of Mount Fault before (refused before die))
mount_fault_step d before die stands small_first small_second small_declined small tells failed shape same =
    let powered : DieState = told with_power before.device.die in
    let came : AReadCame 0 (page_count d.geometry) before.device.die die = read_came_powered before.device.die die (read_came powered die (power_given before.device.die tells) failed) in
    refused_step d before die stands small_first small_second small_declined small shape same (λ t. power_tells die came.power) Fault (fault_row d.geometry.sector_bytes before.array) (λ h. h)
    (refl, refl, refl) tt (λ m. (m, tt))
    (record { came = (λ h. inr came.came, λ h. refl); one = λ cut read. omega (arith, came.cut.to_come cut.0, cut.1); rose = λ h. read_rose powered die failed })
    (record { only = λ h. cc; always = λ line no full. absurd (no (inr came.came)) })
    (record {
      arms = tt;
      lowers = λ a not. absurd (not refl);
      fault = λ h. record {
        changes = 0;
        reads = page_count d.geometry;
        within = (refl, omega arith);
        cut_came = λ cut. absurd (omega (arith, came.cut.to_come cut.0, cut.1));
        read_came = λ read. (came.within, came.cut, came.form);
      };
    })

pub no_spare_step : (d : Numbers) (before : View) (die : DieState) → StandsFor d before → before.device.first < 2 ^ 64 → before.device.second < 2 ^ 64 → before.device.declined < 2 ^ 64
    → before.device.moved < 2 ^ 64
    → Tells before.device.die → Passed 0 (page_count d.geometry) (told with_power before.device.die) die → die.shape ≡ before.device.die.shape → SameCells before.device.die die
    → EveryBlockLive d.geometry before.device.die → IsStep d (event_of Mount NoSpare before (refused before die))
no_spare_step d before die stands small_first small_second small_declined small tells passed shape same full =
    let e : Event = event_of Mount NoSpare before (refused before die) in
    let powered : DieState = told with_power before.device.die in
    let went : Went 0 (page_count d.geometry) ⊥ powered die = passed_went passed in
    let lowers : Lowers 0 (page_count d.geometry) ⊥ before.device.die die = lowers_powered before.device.die die (went_lowers powered die (power_given before.device.die tells) went) in
    let none : NoFailure e = none_came before.device.die die lowers in
    refused_step d before die stands small_first small_second small_declined small shape same (λ t. power_tells die (went_power powered die (power_given before.device.die tells) went)) NoSpare
    (spare_row d.geometry.sector_bytes before.array) (λ h. h) (refl, refl, refl) tt (λ m. (m, tt)) (no_fault e (λ h. cc) none)
    (record { only = λ h. (refl, none, full); always = λ line no full. inl refl }) (record { arms = tt; lowers = λ a f. lowers; fault = λ h. cc })

pub no_memory_step : (d : Numbers) (before : View) → StandsFor d before → before.device.first < 2 ^ 64 → before.device.second < 2 ^ 64 → before.device.declined < 2 ^ 64 → before.device.moved < 2 ^ 64
    → IsStep d (event_of Mount NoMemory before (refused before (told with_power before.device.die)))
no_memory_step d before stands small_first small_second small_declined small =
    let die : DieState = told with_power before.device.die in
    let e : Event = event_of Mount NoMemory before (refused before die) in
    let lowers : Lowers 0 0 ⊥ before.device.die die = lowers_powered before.device.die die (lowers_none die) in
    refused_step d before die stands small_first small_second small_declined small refl (record { cells = refl; erases = refl }) (λ t. power_tells die (power_given before.device.die t)) NoMemory
    (memory_row d.geometry.sector_bytes before.array) (λ h. h) (refl, refl, refl) tt (λ m. (m, tt)) (no_fault e (λ h. cc) (none_came before.device.die die lowers))
    (record { only = λ h. cc; always = λ line no full. inr refl }) (record { arms = tt; lowers = λ a f. lowers; fault = λ h. cc })

pub mounts_done : (d : Numbers) (die : DieState) (new : DeviceValue) → die.shape ≡ shape_of d.geometry → Mounts d (told with_power die) new → Tells die → MountDone d die new
mounts_done d die new shape m tells =
    let powered : DieState = told with_power die in
    let power : TellsPower new.view.die = went_power powered new.view.die (power_given die tells) (passed_went {Bounded = ⊥} m.calls) in
    record {
      kept = record { numbers = m.numbers; shape = m.kept.shape ∙ shape; tells = power_tells new.view.die power; power = λ r. power; book = m.true_book };
      keeps = keeps_die d die new.view.die m.kept.shape (record { cells = m.cells.cells; erases = m.cells.erases }) (λ t. power_tells new.view.die power);
      running = m.running;
      step = λ before is_die stands small. mount_step d before new stands small (rw is_die tells) (rw is_die m);
    }

pub mount_refused : (d : Numbers) (die new : DieState) (why : MountError) → (why ≡ BadShape → ⊥) → Refuses d (told with_power die) new why → Tells die → MountRefused d die new why
mount_refused d die new OutOfMemory fits r tells = record {
  tells = rw r (power_tells (told with_power die) (power_given die tells));
  shape = ap (λ state. state.shape) r;
  keeps = rw r (keeps_die d die (told with_power die) refl (record { cells = refl; erases = refl }) (λ t. power_tells (told with_power die) (power_given die t)));
  step = λ before is_die stands f s e m. rw r (rw (sym is_die) (no_memory_step d before stands f s e m));
}
mount_refused d die new BadShape fits r tells = absurd (fits refl)
mount_refused d die new DieFault fits r tells =
    let powered : DieState = told with_power die in
    let came : AReadCame 0 (page_count d.geometry) powered new = read_came powered new (power_given die tells) r.failed in
    let same : SameCells die new = record { cells = r.cells.cells; erases = r.cells.erases } in
    record {
      tells = power_tells new came.power;
      shape = r.kept.shape;
      keeps = keeps_die d die new r.kept.shape same (λ t. power_tells new came.power);
      step = λ before is_die stands f s e m. mount_fault_step d before new stands f s e m (rw is_die tells) (rw is_die r.failed) (rw is_die r.kept.shape) (rw is_die same);
    }
mount_refused d die new NoSpareError fits r tells =
    let powered : DieState = told with_power die in
    let same : SameCells die new = record { cells = r.cells.cells; erases = r.cells.erases } in
    record {
      tells = power_tells new (went_power powered new (power_given die tells) (passed_went {Bounded = ⊥} r.calls));
      shape = r.kept.shape;
      keeps = keeps_die d die new r.kept.shape same (λ t. power_tells new (went_power powered new (power_given die tells) (passed_went {Bounded = ⊥} r.calls)));
      step = λ before is_die stands f s e m. no_spare_step d before new stands f s e m (rw is_die tells) (rw is_die r.calls) (rw is_die r.kept.shape) (rw is_die same) (rw is_die r.full);
    }

-- a die that a device fits has the shape of the device's numbers
pub shape_is : (shape : Shape) (meaning : Meaning) (plan : Plan) → Fits shape meaning plan → shape ≡ shape_of (numbers_of shape meaning plan).geometry
shape_is shape meaning plan fits = λ i. record shape { spare_bytes = fits.spare_bytes i }
