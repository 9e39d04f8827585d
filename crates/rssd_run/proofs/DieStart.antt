-- A mount of a die of a head is refused only for want of memory or of a spare block, and leaves a session that stands for the sectors of its cells.
use Rattle.std.proofs.Common.{◌≡◌, ◌≢◌, ◌⊎◌, inl, inr, ℕ, ◌+◌, ◌-◌, ◌*◌, ◌^◌, min, Bool, true, false, List, length, Option, None, Some, IsSomeAnd, refl, sym, ap, ◌∙◌, arith, subst}
use Rattle.cell_die.specs.DieState.{DieState, Failures, page_count, page_bytes}
use Rattle.cell_die.specs.declared.shape.Shape.{Shape}
use Rattle.cell_die.specs.Calls.{IsQuiet, WhilePowered, Nearer, ReadFailureCame}
use Rattle.striped.specs.Meaning.{Meaning}
use Rattle.die_image.specs.declared.head.ImageHead.{ImageHead}
use Rattle.die_image.specs.Image.{is_within_limits, shape_of, die_bytes}
use Rattle.mem_die.specs.Limits.{IsWithinLimits as FitsDie}
use Rattle.page_codec.specs.Geometry.{shape_of as geometry_shape}
use Rattle.page_codec.specs.Sectors.{stored}
use Rattle.page_codec.specs.Sound.{IsSound}
use Rattle.rssd_core.specs.declared.device.MountError.{MountError}
use Rattle.rssd_core.specs.declared.device.MountError.TheVariants.{OutOfMemory, Shape as BadShape, DieFault, NoSpare}
use Rattle.rssd_core.specs.DeviceValue.{Numbers, DeviceView, DeviceValue, rows_of}
use Rattle.rssd_core.specs.Failures.{cut_of, cut_in, read_in}
use Rattle.rssd_core.specs.Mount.{Fits, Refuses, NoCounts, EveryBlockLive, numbers_of}
use Rattle.rssd_io.specs.Event.{Event as Act, Grows}
use Rattle.rssd_script.specs.declared.lines.Line.{Line}
use Rattle.rssd_run.specs.ArrayWithCuts.{On}
use Rattle.rssd_run.specs.View.{View}
use Rattle.rssd_run.specs.Held.{Tallies, plus, on}
use Rattle.rssd_run.specs.Steps.{ArrayIs}
use Rattle.rssd_run.specs.Run.{RunsSession, CutsOffSession, CalmFor}
use Rattle.schemes.specs.Schemes.{meaning_named, HasRow}
use Rattle.rssd_run.specs.Shows.{Holding, Mounted, Closed, Nothing, SessionValue, ShowsHolding, Starts, HasNumbers, HasDie, KeepsSession}
use Rattle.rssd_run.specs.Step.{KeepsDie}
use Rattle.rssd_run.specs.Exchanges.{AnswersAll, AnswersFront}
use Rattle.rssd_run.proofs.Came.{went_tells, passed_went}
use Rattle.rssd_run.proofs.Parts.{keeps_more}
use Rattle.rssd_run.proofs.Still.{keeps_die}
use Rattle.rssd_run.specs.Heads.{plan_of, numbers_named}
use Rattle.rssd_run.specs.DieRuns.{IsReady, IsStart, StartsOn, sectors_on, RunsOn, RunsFrontOn}
use Rattle.rssd_run.proofs.HeadLimits.{head_fits}
use Rattle.schemes.proofs.Rows.{named_row}

-- a die of a head that is within the limits, and a scheme of its meaning
pub record IsGiven (head : ImageHead) (meaning : Meaning) (die : DieState) : Type 0 where
  pub within : is_within_limits head ≡ true
  pub meaning_is : meaning ≡ meaning_named head.scheme
  pub ready : IsReady head die

-- the cells of an image are those of its head's die, which a die in memory may be
pub never_misshaped : (head : ImageHead) (shape : Shape) (cells : List ℕ) → shape ≡ shape_of head → FitsDie (shape_of head) → length cells ≡ die_bytes head
    → (¬ FitsDie shape) ⊎ (length cells ≢ page_count shape * page_bytes shape) → ⊥
unfolding die_bytes
never_misshaped head shape cells same fits whole bad = elim bad [
  | inl limits ↦ limits (subst FitsDie (sym same) fits)
  | inr other ↦ other (whole ∙ ap (λ (s : Shape). page_count s * page_bytes s) (sym same))
]

-- ---- what is refused

no_read_fails : (changes reads : ℕ) (old new : Option Failures) → IsSomeAnd old (λ failures. (failures.powered ≡ true) × (failures.cut ≡ 0) × (failures.read_failure ≡ 0))
    → WhilePowered old new (ReadFailureCame changes reads) → ⊥
no_read_fails changes reads None new quiet came = absurd quiet
no_read_fails changes reads (Some a) None quiet came = absurd came
no_read_fails changes reads (Some a) (Some b) quiet came = let armed = (came quiet.0).armed in let none = quiet.2 in omega (arith, armed, none)

module _ (head : ImageHead) (meaning : Meaning) (die : DieState) (given : IsGiven head meaning die) where
  numbers_same : numbers_of die.shape meaning (plan_of head) ≡ numbers_named head
  numbers_same = λ i. numbers_of (given.ready.shape i) (given.meaning_is i) (plan_of head)

  given_fits : Fits die.shape meaning (plan_of head)
  given_fits = subst (λ (s : Shape). Fits s meaning (plan_of head)) (sym given.ready.shape)
      (subst (λ (m : Meaning). Fits (shape_of head) m (plan_of head)) (sym given.meaning_is) (head_fits head given.within))

  refused_so : (new : DieState) (why : MountError) → (why ≡ BadShape → ¬ Fits die.shape meaning (plan_of head)) → Refuses (numbers_named head) die new why
      → (why ≡ OutOfMemory) ⊎ ((why ≡ NoSpare) × EveryBlockLive (numbers_named head).geometry die)
  refused_so new OutOfMemory shape refuses = inl refl
  refused_so new BadShape shape refuses = absurd (shape refl given_fits)
  refused_so new DieFault shape refuses = absurd (no_read_fails 0 _ die.failures new.failures given.ready.quiet refuses.failed.failures)
  refused_so new NoSpare shape refuses = inr (refl, refuses.full)

  pub never_refused : (new : DieState) (why : MountError) → (why ≡ BadShape → ¬ Fits die.shape meaning (plan_of head)) → Refuses (numbers_of die.shape meaning (plan_of head)) die new why
      → (why ≡ BadShape) ⊎ (why ≡ DieFault) → ⊥
  never_refused new why shape refuses is =
      elim (refused_so new why shape (subst (λ (d : Numbers). Refuses d die new why) numbers_same refuses)) [
        | inl memory ↦ elim is [ inl bad_shape ↦ cc | inr fault ↦ cc ]
        | inr full ↦ (let spare : why ≡ NoSpare = full.0 in elim is [ inl bad_shape ↦ cc | inr fault ↦ cc ])
      ]

-- ---- what is mounted

pub none_added : (view : DeviceView) → NoCounts view → plus (record { first = 0; second = 0; declined = 0; moved = 0 }) view ≡ view
none_added view none = λ i. record view {
  first = (ap (λ (n : ℕ). min (0 + n) (2 ^ 64 - 1)) none.first ∙ sym none.first) i;
  second = (ap (λ (n : ℕ). min (0 + n) (2 ^ 64 - 1)) none.second ∙ sym none.second) i;
  declined = (ap (λ (n : ℕ). min (0 + n) (2 ^ 64 - 1)) none.declined ∙ sym none.declined) i;
  moved = (ap (λ (n : ℕ). min (0 + n) (2 ^ 64 - 1)) none.moved ∙ sym none.moved) i;
}

pub runs : (stopped : Bool) → stopped ≡ false → (rows : List (List ℕ)) → ArrayIs stopped rows (On rows)
runs false e rows = refl
runs true e rows = cc

starts_named : (head : ImageHead) (die : DieState) (session : SessionValue) → Starts (numbers_named head) die session → StartsOn head die session
starts_named head die session starts =
    let d = numbers_named head in
    let device : DeviceValue = starts.device in
    let rows : rows_of d device.view ≡ sectors_on head die = ap (λ (cells : List (List ℕ)). stored d.geometry d.meaning.decoding cells) starts.mounts.cells.cells in
    let none : Tallies = record { first = 0; second = 0; declined = 0; moved = 0 } in
    record {
      view = on d none device;
      start = record {
        device = device;
        mounts = starts.mounts;
        same = none_added device.view starts.mounts.counts;
        rows = ap On rows;
      };
      starts = starts;
      shows = subst (λ (h : Holding). ShowsHolding d session.base h (on d none device)) (sym starts.holding)
          (subst (λ (b : Tallies). ShowsHolding d b (Mounted device) (on d none device)) (sym starts.base) (refl, runs device.stopped starts.mounts.running (rows_of d device.view)));
      numbers = subst (HasNumbers d) (sym starts.holding) starts.mounts.numbers;
      mounted = device.view.die;
      has = subst (HasDie device.view.die) (sym starts.holding) refl;
      keeps = keeps_die d die device.view.die starts.mounts.kept.shape (record { cells = starts.mounts.cells.cells; erases = starts.mounts.cells.erases })
          (went_tells die device.view.die (passed_went {Bounded = ⊥} starts.mounts.calls));
    }

pub starts_on : (head : ImageHead) (meaning : Meaning) (die : DieState) → IsGiven head meaning die → (session : SessionValue)
    → Starts (numbers_of die.shape meaning (plan_of head)) die session → StartsOn head die session
starts_on head meaning die given session starts = starts_named head die session (subst (λ (d : Numbers). Starts d die session) (numbers_same head meaning die given) starts)

-- ---- what a run of lines then is

pub quiet_after : (changes reads : ℕ) (old new : Option Failures) → IsSomeAnd old (λ failures. (failures.powered ≡ true) × (failures.cut ≡ 0) × (failures.read_failure ≡ 0))
    → WhilePowered old new (Nearer changes reads) → (cut_in new ≡ 0) × (read_in new ≡ 0)
quiet_after changes reads None new quiet passed = absurd quiet
quiet_after changes reads (Some a) None quiet passed = absurd passed
quiet_after changes reads (Some a) (Some b) quiet passed =
    let near = passed quiet.0 in
    let cut = near.cut in
    let read = near.read_failure in
    let no_cut = quiet.1 in
    let no_read = quiet.2 in
    (omega (arith, cut, no_cut), omega (arith, read, no_read))

pub start_cells : (head : ImageHead) (die : DieState) (view : View) → IsStart head die view → view.device.die.cells ≡ die.cells
start_cells head die view start = ap (λ (v : DeviceView). v.die.cells) start.same ∙ start.mounts.cells.cells

start_uncut : (head : ImageHead) (die : DieState) (view : View) → IsQuiet die → IsStart head die view → cut_of view.device.die ≡ 0
start_uncut head die view quiet start =
    ap (λ (v : DeviceView). cut_of v.die) start.same ∙ (quiet_after _ _ die.failures start.device.view.die.failures quiet start.mounts.calls.failures).0

calm_before : (head : ImageHead) (die : DieState) (view : View) (lines : List Line) → IsQuiet die → IsStart head die view → CalmFor (numbers_named head) die lines
    → CalmFor (numbers_named head) view.device.die lines
calm_before head die view lines quiet start calm = elim calm [
  | inl sound ↦ inl (subst (IsSound (numbers_named head).geometry) (sym (start_cells head die view start)) sound)
  | inr uncut ↦ inr (start_uncut head die view quiet start, uncut.1)
]

shown_die : (d : Numbers) (base : Tallies) (holding : Holding) (view : View) (die : DieState) → ShowsHolding d base holding view → HasDie die holding → view.device.die ≡ die
shown_die d base (Mounted device) view die shows has = ap (λ (v : DeviceView). v.die) shows.0 ∙ has
shown_die d base (Closed numbers other) view die shows has = shows.0 ∙ has
shown_die d base Nothing view die shows has = absurd shows

one_die : (holding : Holding) (a b : DieState) → HasDie a holding → HasDie b holding → a ≡ b
one_die (Mounted device) a b first second = sym first ∙ second
one_die (Closed numbers other) a b first second = sym first ∙ second
one_die Nothing a b first second = absurd first

pub named_shape : (head : ImageHead) → geometry_shape (numbers_named head).geometry ≡ shape_of head
named_shape head =
    let row : HasRow head.scheme (meaning_named head.scheme) = named_row head.scheme in
    λ i. record (shape_of head) { spare_bytes = 16 * row.generations i }

module _ (head : ImageHead) (die : DieState) (lines : List Line) (log log_after : List Act) (ready : IsReady head die) (old new : SessionValue) (starts : StartsOn head die old) where
  pub runs_on : (last : DieState) → last.shape ≡ geometry_shape (numbers_named head).geometry → HasDie last new.holding → KeepsSession (numbers_named head) old new → Grows log log_after
      → AnswersAll (numbers_named head) old lines new log log_after
      → RunsSession (numbers_named head) lines old new log log_after → RunsOn head die lines log log_after last
  runs_on last shape has keeps grew answers session_runs = record {
    shape = shape ∙ named_shape head;
    grew = grew;
    keeps = (
        let after = keeps starts.mounted starts.has in
        subst (λ (x : DieState). KeepsDie (numbers_named head) die x) (one_die new.holding after.0 last after.1 has)
        (keeps_more (numbers_named head) die starts.mounted after.0 starts.keeps after.2));
    answers = record { first = old; starts = starts.starts; session = new; has = has; answers = answers };
    before = starts.view;
    start = starts.start;
    run = λ calm.
        let to = session_runs starts.view starts.shows (calm_before head die starts.view lines ready.quiet starts.start calm) in
        record { after = to.0; die = shown_die (numbers_named head) new.base new.holding to.0 last to.1 has; run = to.2 };
  }

  pub runs_front_on : AnswersFront (numbers_named head) old lines new log log_after → CutsOffSession (numbers_named head) lines old new log log_after → RunsFrontOn head die lines log log_after
  runs_front_on answers cut_off = record {
    answers = record { first = old; starts = starts.starts; session = new; answers = answers };
    before = starts.view;
    start = starts.start;
    run = λ calm. let to = cut_off starts.view starts.shows (calm_before head die starts.view lines ready.quiet starts.start calm) in record { after = to.0; run = to.2 };
  }
