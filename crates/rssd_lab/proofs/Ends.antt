-- What came of a stream, or was drawn, and how the run of it ended, make what a status says.
use Rattle.std.proofs.Common.{◌≡◌, ◌⊎◌, inl, inr, ℕ, zero, suc, ◌+◌, ◌-◌, ◌^◌, ◌<◌, Bool, true, false, List, [], ◌∷◌, ◌++◌, length, Result, Ok, Err, ap, sym, ◌∙◌, subst, arith}
use Rattle.std.specs.Prelude.{IfOk, IfErr, if◌then◌else◌, ◌&&◌, ◌==◌, nat_lt}
use Rattle.cell_die.specs.DieState.{DieState}
use Rattle.rssd_core.specs.DeviceValue.{DeviceValue}
use Rattle.rssd_io.specs.Event.{Event, HasFailed}
use Rattle.rssd_script.specs.declared.lines.Line.{Line}
use Rattle.rssd_script.specs.declared.lines.Line.TheVariants.{Write, Read, Trim, Idle}
use Rattle.rssd_run.specs.Played.{IsPlayed}
use Rattle.rssd_run.specs.Statuses.{Input, Output, IsUntouched, bad_line, input, output}
use Rattle.die_image.specs.Schemes.{row_of}
use Rattle.die_image.specs.declared.head.ImageHead.{ImageHead}
use Rattle.lab_lines.specs.declared.drawn.Drawn.{Drawn}
use Rattle.lab_lines.specs.declared.drawn.Plan.{Plan}
use Rattle.lab_lines.specs.declared.lines.LinesEnd.{LinesEnd}
use Rattle.lab_lines.specs.declared.lines.LinesEnd.TheVariants as ends
use Rattle.lab_lines.specs.Given.{AllGiven}
use Rattle.lab_lines.specs.Workload.{DrawPlan, DrawState, drawn_line, drawn_from, drawn_lines, state_after, sector_line, is_mixed, is_idle, part_of}
use Rattle.lab_lines.specs.Drawing.{plan_of, state_of, left_of, DrawsLine, DrawsNone}
use Rattle.lab_lines.proofs.FirstLines.{first_lines}
use Rattle.lab_stream.specs.declared.stream.Stream.{Stream}
use Rattle.lab_stream.specs.Streaming.{ahead_of, lines_of, source_of, TakesLine, TakesNone, StopsStream}
use Rattle.lab_stream.specs.Spelled.{Streamed}
use Rattle.lab_stream.proofs.Spelled.{streamed, streamed_text, streamed_bad, counted}
use Rattle.lab_lines.specs.declared.kind.Kind.{Kind}
use Rattle.lab_words.specs.declared.asked.LinesFrom.{LinesFrom}
use Rattle.lab_words.specs.declared.asked.LinesFrom.TheVariants.{Stream as FromStream, Drawn as FromDrawn}
use Rattle.lab_words.specs.Orders.{IsDrawnWithin}
use Rattle.rssd_lab.specs.declared.telling.Telling.{Telling}
use Rattle.rssd_lab.specs.declared.stage.Stage.{Stage}
use Rattle.rssd_lab.specs.declared.status.Halt.{Halt}
use Rattle.rssd_lab.specs.declared.status.Halt.TheVariants.{NoSpare, Ended}
use Rattle.rssd_lab.specs.declared.status.Status.{Status}
use Rattle.rssd_lab.specs.declared.status.Stop.{Stop}
use Rattle.rssd_lab.specs.declared.status.Stop.TheVariants as stops
use Rattle.rssd_lab.specs.declared.pace.Paced.{Paced}
use Rattle.rssd_lab.specs.Pacing.{inner_of}
use Rattle.rssd_lab.specs.Stages.{StartOn, head_on}
use Rattle.rssd_lab.specs.Started.{RunsFrom, StopsFrom}
use Rattle.rssd_lab.specs.Top.{GivesLine, SaysStopped}
use Rattle.rssd_lab.specs.Listed.{RunHalts, PlaysList, StopsList}
use Rattle.rssd_lab.specs.Ends.{StopsInput, StopsDrawn, PlaysInput, PlaysDrawn, HaltsInput, HaltsDrawn, HaltsOf, StopsOf, plan_for, IsOutside, IsUnplayed, IsCutOff, IsShortOfMemory}
use Rattle.rssd_lab.specs.Ends.{IsShortOfDrawn, IsUntold, IsUntoldDrawn, PlaysAllOf}
use Rattle.rssd_lab.proofs.Stopped.{sink_failed}
use Rattle.rssd_lab.proofs.Listed.{AllListed, ListedUpTo, ListedUnplayed, ListedUntold, all_listed, listed_up_to, listed_unplayed, listed_untold}

pub where_ok : {T E : Type 0} {P Q : T → Type 0} (r : Result T E) → ((x : T) → P x → Q x) → IfOk r P → IfOk r Q
where_ok (Ok x) so holds = so x holds
where_ok (Err e) so holds = tt

pub where_err : {T E : Type 0} {P Q : E → Type 0} (r : Result T E) → ((e : E) → P e → Q e) → IfErr r P → IfErr r Q
where_err (Ok x) so holds = tt
where_err (Err e) so holds = so e holds

-- lines that came through a supply that passes them on
through : {L M : Type 0} (f : L → M) (gives : M → Line → M → Type 0) (old new : L) (lines : List Line)
    → AllGiven (λ a line b. gives (f a) line (f b)) old lines new → AllGiven gives (f old) lines (f new)
unfolding AllGiven
through f gives old new [] same = ap f same
through f gives old new (line ∷ lines) given = (f given.0, given.1, through f gives given.0 new lines given.2)

-- the run of what came of a stream
abbrev Gives : {S P : Type 0} → (S → List Event) → Paced (Stream S) P → Line → Paced (Stream S) P → Type 0
Gives log old line new = TakesLine log (inner_of old) line (inner_of new)

abbrev EndedBy : {S P : Type 0} → (S → List Event) → Paced (Stream S) P → Paced (Stream S) P → Type 0
EndedBy log old new = TakesNone log (inner_of old) (inner_of new)

abbrev Stops : {S P : Type 0} → (S → List Event) → Paced (Stream S) P → LinesEnd → Paced (Stream S) P → Type 0
Stops log old why new = StopsStream log (inner_of old) why (inner_of new)

-- ---- the lines of the input

-- what holds of the source of the lines at first and at last, holds of the input and of what comes back
pub of_input : {S P : Type 0} (Holds : S → S → Type 0) (old new : Paced (Stream S) P) {first last : Stream S} {from back : S}
    → inner_of old ≡ first → source_of first ≡ from → back ≡ source_of last → last ≡ inner_of new → Holds (source_of (inner_of old)) (source_of (inner_of new)) → Holds from back
of_input {S} Holds old new {first} {last} {from} {back} begins of_first of_last ends holds =
    subst (λ (s : S). Holds s back) (ap source_of begins ∙ of_first) (subst (λ (s : S). Holds (source_of (inner_of old)) s) (sym (of_last ∙ ap source_of ends)) holds)

module _ {S P : Type 0} (log : S → List Event) (telling : Telling) (Start : DeviceValue → Type 0) (old new : Paced (Stream S) P)
    (none_ahead : ahead_of (inner_of old) ≡ []) (none_counted : lines_of (inner_of old) ≡ 0) (out : List Event) where
  came : (last : Paced (Stream S) P) (lines : List Line) → AllGiven (Gives log) old lines last → AllGiven (TakesLine log) (inner_of old) lines (inner_of last)
  came last lines given = through inner_of (TakesLine log) old last lines given

  pub plays_input : (End : DieState → Type 0) (out_after : List Event) → AllListed (Gives log) (EndedBy log) telling Start End old new out out_after
      → PlaysInput telling Start End (input (log (inner_of old).source) (log (inner_of new).source)) (output out out_after)
  plays_input End out_after all = at all.ends
    where
      at : EndedBy log all.last new ⊎ ((length all.listed ≡ 2 ^ 64 - 1) × (new ≡ all.last))
          → PlaysInput telling Start End (input (log (inner_of old).source) (log (inner_of new).source)) (output out out_after)
      at (inl none) = record {
        lines = all.listed;
        came = record {
          ahead = ahead_of (inner_of new);
          streamed = streamed_text log (inner_of old) (inner_of all.last) (inner_of new) all.listed none_ahead (came all.last all.listed all.given) [] none.takes (inr (none.none, none.ended));
          all = inl (none.none, none.ended);
        };
        plays = all.plays;
      }
      at (inr many) = record {
        lines = all.listed;
        came = record {
          ahead = ahead_of (inner_of new);
          streamed = subst (λ (last : Paced (Stream S) P). Streamed (log (inner_of old).source) (log (inner_of last).source) all.listed (ahead_of (inner_of last))) (sym many.1)
              (streamed log (inner_of old) (inner_of all.last) all.listed none_ahead (came all.last all.listed all.given));
          all = inr many.0;
        };
        plays = all.plays;
      }

  cut_off : (out_after : List Event) → ListedUpTo (Gives log) (Stops log) telling Start ends.Fault old new out out_after
      → IsCutOff telling Start (input (log (inner_of old).source) (log (inner_of new).source)) (output out out_after)
  cut_off out_after upto = record {
    lines = upto.listed;
    came = record {
      between = log (inner_of upto.last).source;
      ahead = ahead_of (inner_of upto.last);
      streamed = streamed log (inner_of old) (inner_of upto.last) upto.listed none_ahead (came upto.last upto.listed upto.given);
      failed = upto.after;
    };
    plays = upto.plays;
  }

  short : (out_after : List Event) → ListedUpTo (Gives log) (Stops log) telling Start ends.OutOfMemory old new out out_after
      → IsShortOfMemory telling Start (input (log (inner_of old).source) (log (inner_of new).source)) (output out out_after)
  short out_after upto = record {
    lines = upto.listed;
    came = (
      upto.after.text ++ ahead_of (inner_of new),
      streamed_text log (inner_of old) (inner_of upto.last) (inner_of new) upto.listed none_ahead (came upto.last upto.listed upto.given) upto.after.text upto.after.takes (inl upto.after.some),
    );
    plays = upto.plays;
  }

  outside : (number : ℕ) (between out_after : List Event) → ListedUpTo (Gives log) (Stops log) telling Start (ends.BadLine number) old new out between → GivesLine (bad_line number) between out_after
      → IsOutside telling Start (input (log (inner_of old).source) (log (inner_of new).source)) (output out out_after)
  outside number between out_after upto line =
      let given = came upto.last upto.listed upto.given in
      let bad = upto.after in
      let many = counted log (inner_of old) (inner_of upto.last) upto.listed (omega (arith, none_counted)) given in
      record {
        lines = upto.listed;
        number = number;
        bad = streamed_bad log (inner_of old) (inner_of upto.last) (inner_of new) upto.listed none_ahead given bad.text bad.takes bad.is_text bad.none number
            (omega (arith, bad.number_is, many, none_counted)) bad.whole;
        between = between;
        plays = upto.plays;
        line = line;
      }

  unplayed : (number : ℕ) (between out_after : List Event) → ListedUnplayed (Gives log) telling Start number old new out between → GivesLine (bad_line number) between out_after
      → IsUnplayed telling Start (input (log (inner_of old).source) (log (inner_of new).source)) (output out out_after)
  unplayed number between out_after upto line = record {
    lines = upto.listed;
    last = upto.other;
    came = (ahead_of (inner_of new), streamed log (inner_of old) (inner_of new) (upto.listed ++ upto.other ∷ []) none_ahead (came new (upto.listed ++ upto.other ∷ []) upto.given));
    unplayed = upto.unplayed;
    number = number;
    number_is = upto.number_is;
    between = between;
    plays = upto.plays;
    line = line;
  }

  untold : (between : List Event) → ListedUntold (Gives log) (EndedBy log) telling Start old new out between → HasFailed out between
      → IsUntold telling Start (input (log (inner_of old).source) (log (inner_of new).source)) (output out between)
  untold between cut failed = record { lines = cut.listed; came = (ahead_of (inner_of new), streams cut.ends); plays = cut.plays; failed = failed }
    where
      streams : (new ≡ cut.last) ⊎ EndedBy log cut.last new → Streamed (log (inner_of old).source) (log (inner_of new).source) cut.listed (ahead_of (inner_of new))
      streams (inl same) =
          subst (λ (last : Paced (Stream S) P). Streamed (log (inner_of old).source) (log (inner_of last).source) cut.listed (ahead_of (inner_of last))) (sym same)
          (streamed log (inner_of old) (inner_of cut.last) cut.listed none_ahead (came cut.last cut.listed cut.given))
      streams (inr none) =
          streamed_text log (inner_of old) (inner_of cut.last) (inner_of new) cut.listed none_ahead (came cut.last cut.listed cut.given) [] none.takes (inr (none.none, none.ended))

  pub stopped : (why : Stop) (between out_after : List Event) (status : Status) → StopsFrom (Gives log) (EndedBy log) (Stops log) telling Start why old new out between
      → SaysStopped why status between out_after → StopsInput telling Start (input (log (inner_of old).source) (log (inner_of new).source)) (output out out_after) status
  stopped (stops.Lines (ends.OutOfMemory)) between out_after status run says =
      let listed = listed_up_to (Gives log) (EndedBy log) (Stops log) telling Start old new out between ends.OutOfMemory run in
      subst (StopsInput telling Start (input (log (inner_of old).source) (log (inner_of new).source)) (output out out_after)) (sym says.0)
      (inr (short out_after (subst (λ (after : List Event). ListedUpTo (Gives log) (Stops log) telling Start ends.OutOfMemory old new out after) (sym says.1) listed)))
  stopped (stops.Lines (ends.Fault)) between out_after status run says =
      let listed = listed_up_to (Gives log) (EndedBy log) (Stops log) telling Start old new out between ends.Fault run in
      subst (StopsInput telling Start (input (log (inner_of old).source) (log (inner_of new).source)) (output out out_after)) (sym says.0)
      (cut_off out_after (subst (λ (after : List Event). ListedUpTo (Gives log) (Stops log) telling Start ends.Fault old new out after) (sym says.1) listed))
  stopped (stops.Lines (ends.BadLine number)) between out_after status run says =
      subst (StopsInput telling Start (input (log (inner_of old).source) (log (inner_of new).source)) (output out out_after)) (sym says.0)
      (inl (outside number between out_after (listed_up_to (Gives log) (EndedBy log) (Stops log) telling Start old new out between (ends.BadLine number) run) says.1))
  stopped (stops.NotPlayed number) between out_after status run says =
      subst (StopsInput telling Start (input (log (inner_of old).source) (log (inner_of new).source)) (output out out_after)) (sym says.0)
      (inr (unplayed number between out_after (listed_unplayed (Gives log) (EndedBy log) (Stops log) telling Start old new out between number run) says.1))
  stopped (stops.Sink) between out_after status run says =
      let cut = untold between (listed_untold (Gives log) (EndedBy log) (Stops log) telling Start old new out between run)
      (sink_failed (Gives log) (EndedBy log) (Stops log) telling run.0 old new out between run.2) in
      subst (StopsInput telling Start (input (log (inner_of old).source) (log (inner_of new).source)) (output out out_after)) (sym says.0)
      (subst (λ (after : List Event). IsUntold telling Start (input (log (inner_of old).source) (log (inner_of new).source)) (output out after)) (sym says.1) cut)
  stopped (stops.OutOfMemory) between out_after status run says =
      subst (StopsInput telling Start (input (log (inner_of old).source) (log (inner_of new).source)) (output out out_after)) (sym says.0)
      (inl (ap (λ (lines : Paced (Stream S) P). log (inner_of lines).source) run.0, says.1 ∙ run.1))

  pub all_played : (End : DieState → Type 0) (out_after : List Event) → RunsFrom (Gives log) (EndedBy log) telling Start End old new out out_after
      → PlaysInput telling Start End (input (log (inner_of old).source) (log (inner_of new).source)) (output out out_after)
  all_played End out_after run = plays_input End out_after (all_listed (Gives log) (EndedBy log) (Stops log) telling Start old new out out_after End run)

-- ---- lines that are drawn

if_played : (b : Bool) (x y : Line) → IsPlayed x → IsPlayed y → IsPlayed (if b then x else y)
if_played true x y first second = first
if_played false x y first second = second

sector_played : (plan : DrawPlan) (words sector part : ℕ) → IsPlayed (sector_line plan words sector part)
sector_played plan words sector part =
    if_played (is_mixed plan.kind && nat_lt part 5) (Read sector) (if is_mixed plan.kind && (part == 5) then Trim sector else Write sector _) tt
    (if_played (is_mixed plan.kind && (part == 5)) (Trim sector) (Write sector _) tt tt)

line_played : (plan : DrawPlan) (state : DrawState) → IsPlayed (drawn_line plan state)
unfolding drawn_line
line_played plan state = if_played (is_idle plan state.words) (Idle 4) (sector_line plan _ _ (part_of state.words)) tt (sector_played plan _ _ (part_of state.words))

-- the last of drawn lines is played
last_played : (plan : DrawPlan) (state : DrawState) (k : ℕ) (lines : List Line) (other : Line) → lines ++ other ∷ [] ≡ drawn_from plan k state → IsPlayed other
unfolding drawn_from
last_played plan state zero [] other is = absurd cc
last_played plan state zero (line ∷ lines) other is = absurd cc
last_played plan state (suc k) [] other is = let same : other ≡ drawn_line plan state = cc in subst IsPlayed (sym same) (line_played plan state)
last_played plan state (suc k) (line ∷ lines) other is =
    let rest : lines ++ other ∷ [] ≡ drawn_from plan k (state_after plan state) = cc in
    last_played plan (state_after plan state) k lines other rest

abbrev Draws : {P : Type 0} → Paced Drawn P → Line → Paced Drawn P → Type 0
Draws old line new = DrawsLine (inner_of old) line (inner_of new)

abbrev DrawsNoMore : {P : Type 0} → Paced Drawn P → Paced Drawn P → Type 0
DrawsNoMore old new = DrawsNone (inner_of old) (inner_of new)

abbrev DrawsStop : {P : Type 0} → Paced Drawn P → LinesEnd → Paced Drawn P → Type 0
DrawsStop old why new = why ≡ ends.OutOfMemory

module _ {P : Type 0} (telling : Telling) (Start : DeviceValue → Type 0) (old new : Paced Drawn P) (seed : ℕ) (start : state_of (inner_of old) ≡ record { words = seed; turn = 0 })
    (few : left_of (inner_of old) < 2 ^ 64) (out : List Event) where
  first : (last : Paced Drawn P) (lines : List Line) → AllGiven Draws old lines last
      → (lines ≡ drawn_lines (plan_of (inner_of old)) (length lines) seed) × (left_of (inner_of last) + length lines ≡ left_of (inner_of old))
  first last lines given =
      let is = first_lines (inner_of old) (inner_of last) lines (through inner_of DrawsLine old last lines given) in
      (is.0 ∙ ap (drawn_from (plan_of (inner_of old)) (length lines)) start, is.1)

  plays_drawn : (End : DieState → Type 0) (out_after : List Event) → AllListed Draws DrawsNoMore telling Start End old new out out_after
      → PlaysList telling Start End (drawn_lines (plan_of (inner_of old)) (left_of (inner_of old)) seed) out out_after
  plays_drawn End out_after all =
      let is = first all.last all.listed all.given in
      let none : length all.listed ≡ left_of (inner_of old) = elim all.ends [ inl none ↦ omega (arith, none.none, is.1) | inr many ↦ omega (arith, many.0, is.1, few) ] in
      let lines : all.listed ≡ drawn_lines (plan_of (inner_of old)) (left_of (inner_of old)) seed = is.0 ∙ ap (λ (k : ℕ). drawn_lines (plan_of (inner_of old)) k seed) none in
      subst (λ (list : List Line). PlaysList telling Start End list out out_after) lines all.plays

  short_drawn : (out_after : List Event) → ListedUpTo Draws DrawsStop telling Start ends.OutOfMemory old new out out_after
      → IsShortOfDrawn telling Start (plan_of (inner_of old)) seed (left_of (inner_of old)) (output out out_after)
  short_drawn out_after upto =
      let is = first upto.last upto.listed upto.given in
      record {
        k = length upto.listed;
        before = omega (arith, is.1);
        plays = subst (λ (list : List Line). StopsList telling Start (stops.Lines ends.OutOfMemory) list out out_after) is.0 upto.plays;
      }

  untold_drawn : (between : List Event) → ListedUntold Draws DrawsNoMore telling Start old new out between → HasFailed out between
      → IsUntoldDrawn telling Start (plan_of (inner_of old)) seed (left_of (inner_of old)) (output out between)
  untold_drawn between cut failed =
      let is = first cut.last cut.listed cut.given in
      record {
        k = length cut.listed;
        before = omega (arith, is.1);
        plays = subst (λ (list : List Line). StopsList telling Start stops.Sink list out between) is.0 cut.plays;
        failed = failed;
      }

  stopped_drawn : (why : Stop) (between out_after : List Event) (status : Status) → StopsFrom Draws DrawsNoMore DrawsStop telling Start why old new out between
      → SaysStopped why status between out_after → StopsDrawn telling Start (plan_of (inner_of old)) seed (left_of (inner_of old)) (output out out_after) status
  stopped_drawn (stops.Lines (ends.OutOfMemory)) between out_after status run says =
      let listed = listed_up_to Draws DrawsNoMore DrawsStop telling Start old new out between ends.OutOfMemory run in
      subst (StopsDrawn telling Start (plan_of (inner_of old)) seed (left_of (inner_of old)) (output out out_after)) (sym says.0)
      (inr (short_drawn out_after (subst (λ (after : List Event). ListedUpTo Draws DrawsStop telling Start ends.OutOfMemory old new out after) (sym says.1) listed)))
  stopped_drawn (stops.Lines (ends.Fault)) between out_after status run says =
      let listed = listed_up_to Draws DrawsNoMore DrawsStop telling Start old new out between ends.Fault run in
      let bad : ends.Fault ≡ ends.OutOfMemory = listed.after in
      absurd cc
  stopped_drawn (stops.Lines (ends.BadLine number)) between out_after status run says =
      let listed = listed_up_to Draws DrawsNoMore DrawsStop telling Start old new out between (ends.BadLine number) run in
      let bad : ends.BadLine number ≡ ends.OutOfMemory = listed.after in
      absurd cc
  stopped_drawn (stops.NotPlayed number) between out_after status run says =
      let listed = listed_unplayed Draws DrawsNoMore DrawsStop telling Start old new out between number run in
      let is = first new (listed.listed ++ listed.other ∷ []) listed.given in
      absurd (listed.unplayed (last_played (plan_of (inner_of old)) _ (length (listed.listed ++ listed.other ∷ [])) listed.listed listed.other is.0))
  stopped_drawn (stops.Sink) between out_after status run says =
      let cut = untold_drawn between (listed_untold Draws DrawsNoMore DrawsStop telling Start old new out between run)
      (sink_failed Draws DrawsNoMore DrawsStop telling run.0 old new out between run.2) in
      subst (StopsDrawn telling Start (plan_of (inner_of old)) seed (left_of (inner_of old)) (output out out_after)) (sym says.0)
      (subst (λ (after : List Event). IsUntoldDrawn telling Start (plan_of (inner_of old)) seed (left_of (inner_of old)) (output out after)) (sym says.1) cut)
  stopped_drawn (stops.OutOfMemory) between out_after status run says =
      subst (StopsDrawn telling Start (plan_of (inner_of old)) seed (left_of (inner_of old)) (output out out_after)) (sym says.0) (inl (says.1 ∙ run.1))

  pub all_drawn : (End : DieState → Type 0) (out_after : List Event) → RunsFrom Draws DrawsNoMore telling Start End old new out out_after
      → PlaysDrawn telling Start End (plan_of (inner_of old)) seed (left_of (inner_of old)) (output out out_after)
  all_drawn End out_after run = plays_drawn End out_after (all_listed Draws DrawsNoMore DrawsStop telling Start old new out out_after End run)

-- ---- a stage

abbrev stage_input : {S P : Type 0} → (S → List Event) → Paced (Stream S) P → Paced (Stream S) P → Input
stage_input log old new = input (log (inner_of old).source) (log (inner_of new).source)

pub input_halts : {S P : Type 0} (log : S → List Event) (telling : Telling) (stage : Stage) (old new : Paced (Stream S) P)
    → ahead_of (inner_of old) ≡ [] → lines_of (inner_of old) ≡ 0 → (out out_after : List Event) (halt : Halt)
    → RunHalts (Gives log) (EndedBy log) (Stops log) telling stage halt old new out out_after → HaltsInput telling stage (stage_input log old new) (output out out_after) halt
input_halts {S} {P} log telling stage old new none_ahead none_counted out out_after NoSpare full =
    (full.0, ap (λ (lines : Paced (Stream S) P). log (inner_of lines).source) full.1, full.2)
input_halts log telling stage old new none_ahead none_counted out out_after (Ended status) stop =
    stopped log telling (StartOn stage) old new none_ahead none_counted out stop.0 stop.1 out_after status stop.2 stop.3

pub drawn_halts : {P : Type 0} (telling : Telling) (stage : Stage) (old new : Paced Drawn P) (seed : ℕ) → state_of (inner_of old) ≡ record { words = seed; turn = 0 }
    → left_of (inner_of old) < 2 ^ 64 → (out out_after : List Event) (halt : Halt)
    → RunHalts Draws DrawsNoMore DrawsStop telling stage halt old new out out_after
    → HaltsDrawn telling stage (plan_of (inner_of old)) seed (left_of (inner_of old)) (output out out_after) halt
drawn_halts telling stage old new seed start few out out_after NoSpare full = (full.0, full.2)
drawn_halts telling stage old new seed start few out out_after (Ended status) stop =
    stopped_drawn telling (StartOn stage) old new seed start few out stop.0 stop.1 out_after status stop.2 stop.3

-- ---- an order

pub order_halts : (from : LinesFrom) → from ≡ FromStream → (telling : Telling) (stage : Stage) (input : Input) (out : Output) (halt : Halt) → HaltsInput telling stage input out halt
    → HaltsOf from telling stage input out halt
order_halts from is telling stage input out NoSpare full = full
order_halts from is telling stage input out (Ended status) stops =
    subst (λ (f : LinesFrom). StopsOf f telling (head_on stage) (StartOn stage) input out status) (sym is) stops

-- lines that are drawn for an order are drawn for the device of its head
drawn_plan : (drawn : Drawn) {plan : Plan} {head on : ImageHead} {kind : Kind} {idle : ℕ}
    → plan_of drawn ≡ record { kind = plan.kind; sectors = plan.sectors; sector_bytes = plan.sector_bytes; idle = plan.idle }
    → plan ≡ record { kind = kind; sectors = head.sectors; sector_bytes = (row_of head.scheme).sector_bytes; idle = idle } → head ≡ on → plan_of drawn ≡ plan_for on kind idle
drawn_plan drawn {plan} {head} {on} {kind} {idle} drawn_is plan_is head_is =
    drawn_is ∙ ap (λ (p : Plan). let plan : DrawPlan = record { kind = p.kind; sectors = p.sectors; sector_bytes = p.sector_bytes; idle = p.idle } in plan) plan_is
    ∙ ap (λ (h : ImageHead). plan_for h kind idle) head_is

-- what is drawn for an order on a die of this head
pub record IsDrawnFor (from : LinesFrom) (head : ImageHead) (drawn : Drawn) : Type 0 where
  pub kind : Kind
  pub seed : ℕ
  pub idle : ℕ
  pub is : from ≡ FromDrawn kind seed (left_of drawn) idle
  pub plan : plan_of drawn ≡ plan_for head kind idle
  pub state : state_of drawn ≡ record { words = seed; turn = 0 }
  pub few : left_of drawn < 2 ^ 64

pub drawn_for : {from : LinesFrom} (drawn : Drawn) {plan : Plan} {head on : ImageHead} {kind : Kind} {seed count idle : ℕ} → from ≡ FromDrawn kind seed count idle → IsDrawnWithin from
    → plan_of drawn ≡ record { kind = plan.kind; sectors = plan.sectors; sector_bytes = plan.sector_bytes; idle = plan.idle } → state_of drawn ≡ record { words = seed; turn = 0 }
    → left_of drawn ≡ count → plan ≡ record { kind = kind; sectors = head.sectors; sector_bytes = (row_of head.scheme).sector_bytes; idle = idle } → head ≡ on → IsDrawnFor from on drawn
drawn_for {from} drawn {plan} {head} {on} {kind} {seed} {count} {idle} is within drawn_is state left plan_is head_is =
    let drawn_within : IsDrawnWithin (FromDrawn kind seed count idle) = subst IsDrawnWithin is within in
    record {
      kind = kind;
      seed = seed;
      idle = idle;
      is = is ∙ ap (λ (n : ℕ). FromDrawn kind seed n idle) (sym left);
      plan = drawn_plan drawn drawn_is plan_is head_is;
      state = state;
      few = subst (λ (n : ℕ). n < 2 ^ 64) (sym left) drawn_within.1;
    }

pub drawn_order_plays : {from : LinesFrom} (stage : Stage) {drawn : Drawn} (d : IsDrawnFor from (head_on stage) drawn) (telling : Telling) (End : DieState → Type 0) (read : Input) (out : Output)
    → IsUntouched read → PlaysDrawn telling (StartOn stage) End (plan_of drawn) d.seed (left_of drawn) out → PlaysAllOf from telling (head_on stage) (StartOn stage) End read out
drawn_order_plays {from} stage {drawn} d telling End read out unread plays =
    subst (λ (f : LinesFrom). PlaysAllOf f telling (head_on stage) (StartOn stage) End read out) (sym d.is)
    (subst (λ (p : DrawPlan). PlaysDrawn telling (StartOn stage) End p d.seed (left_of drawn) out) d.plan plays, unread)

pub drawn_order_halts : {from : LinesFrom} (stage : Stage) {drawn : Drawn} (d : IsDrawnFor from (head_on stage) drawn) (telling : Telling) (read : Input) (out : Output)
    → IsUntouched read → (halt : Halt) → HaltsDrawn telling stage (plan_of drawn) d.seed (left_of drawn) out halt → HaltsOf from telling stage read out halt
drawn_order_halts stage d telling read out unread NoSpare full = (full.0, unread, full.1)
drawn_order_halts {from} stage {drawn} d telling read out unread (Ended status) stops =
    subst (λ (f : LinesFrom). StopsOf f telling (head_on stage) (StartOn stage) read out status) (sym d.is)
    (subst (λ (p : DrawPlan). StopsDrawn telling (StartOn stage) p d.seed (left_of drawn) out status) d.plan stops, unread)
