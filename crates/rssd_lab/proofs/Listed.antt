-- A run of any supply of lines is a run of the list of those that came of it.
use Rattle.std.proofs.Common.{◌≡◌, ◌⊎◌, inl, inr, ℕ, ◌+◌, ◌-◌, ◌^◌, ◌≤◌, List, [], ◌∷◌, ◌++◌, length, refl, ap, sym, ◌∙◌, subst, arith}
use Rattle.std.specs.Prelude.{min}
use Rattle.cell_die.specs.Counts.{raised}
use Rattle.cell_die.specs.DieState.{DieState}
use Rattle.count_die.specs.declared.tally.Totals.{Totals}
use Rattle.rssd_core.specs.DeviceValue.{Numbers, DeviceValue}
use Rattle.rssd_io.specs.Event.{Event}
use Rattle.rssd_script.specs.declared.lines.Line.{Line}
use Rattle.rssd_script.specs.declared.replies.Reply.{Reply}
use Rattle.rssd_script.specs.declared.replies.Reply.TheVariants.{First, Second, Declined, Bytes, Done, Moves}
use Rattle.rssd_run.specs.Played.{IsPlayed}
use Rattle.lab_lines.specs.declared.lines.LinesEnd.{LinesEnd}
use Rattle.lab_lines.specs.Given.{AllGiven}
use Rattle.lab_tables.specs.declared.answers.Answers.{Answers}
use Rattle.lab_tables.specs.Answered.{answered_more}
use Rattle.rssd_lab.specs.declared.telling.Telling.{Telling}
use Rattle.rssd_lab.specs.declared.status.Stop.{Stop}
use Rattle.rssd_lab.specs.declared.status.Stop.TheVariants.{Lines, NotPlayed, Sink}
use Rattle.rssd_lab.specs.Chain.{Chain}
use Rattle.rssd_lab.specs.Runs.{Answered, At, PlaysAll, PlaysLines, RunsUpTo, StopsAtSink, StopsLines, handed, run_head, state_at}
use Rattle.rssd_lab.specs.Started.{RunsFrom, StopsFrom}
use Rattle.rssd_lab.specs.Listed.{NextOf, NoneOf, StopsBehind, PlaysList, StopsList}

-- the lines that were answered, and more behind them
abbrev lines_and : List Answered → List Line → List Line
lines_and [] more = more
lines_and (answered ∷ rest) more = answered.line ∷ lines_and rest more

length_lines : (answered : List Answered) → length (lines_and answered []) ≡ length answered
length_lines [] = refl
length_lines (first ∷ rest) = omega (arith, length_lines rest)

lines_behind : (answered : List Answered) (more : List Line) → lines_and answered more ≡ lines_and answered [] ++ more
lines_behind [] more = refl
lines_behind (first ∷ rest) more = ap (λ (lines : List Line). first.line ∷ lines) (lines_behind rest more)

lines_more : (before now : Totals) (a : Answers) (reply : Reply) → (answered_more before now a reply).lines ≡ raised a.lines
lines_more before now a First = refl
lines_more before now a Second = refl
lines_more before now a Declined = refl
lines_more before now a (Bytes bytes) = refl
lines_more before now a Done = refl
lines_more before now a (Moves n) = refl
lines_more before now a _ = refl

module _ {L : Type 0} (gives : L → Line → L → Type 0) (d : Numbers) (telling : Telling) where
  listed : (old new : At L) (answered : List Answered) (more : List Line) → PlaysLines gives d telling old answered new
      → PlaysLines NextOf d telling (state_at (lines_and answered more) old.device old.score old.log) answered (state_at more new.device new.score new.log)
  unfolding Chain
  listed old new [] more same = ap (λ (s : At L). state_at more s.device s.score s.log) same
  listed old new (first ∷ rest) more chain = (
    state_at (lines_and rest more) chain.0.device chain.0.score chain.0.log,
    record { given = refl; plays = chain.1.plays; counted = chain.1.counted; answers = chain.1.answers; told = chain.1.told },
    listed chain.0 new rest more chain.2,
  )

  came : (old new : At L) (answered : List Answered) (more : List Line) (after : L) → PlaysLines gives d telling old answered new
      → AllGiven gives new.lines more after → AllGiven gives old.lines (lines_and answered more) after
  unfolding Chain AllGiven
  came old new [] more after same given = subst (λ (s : At L). AllGiven gives s.lines more after) same given
  came old new (first ∷ rest) more after chain given = (chain.0.lines, chain.1.given, came chain.0 new rest more after chain.2 given)

  none_more : (old : L) → AllGiven gives old [] old
  unfolding AllGiven
  none_more old = refl

  one_more : (old new : L) (line : Line) → gives old line new → AllGiven gives old (line ∷ []) new
  unfolding AllGiven
  one_more old new line given = (new, given, refl)

  -- the lines that were answered came, and no other
  came_all : (old new : At L) (answered : List Answered) → PlaysLines gives d telling old answered new → AllGiven gives old.lines (lines_and answered []) new.lines
  came_all old new answered plays = came old new answered [] new.lines plays (none_more new.lines)

  -- and then one that was not answered
  came_one : (old last : At L) (answered : List Answered) (line : Line) (new : L) → PlaysLines gives d telling old answered last → gives last.lines line new
      → AllGiven gives old.lines (lines_and answered (line ∷ [])) new
  came_one old last answered line new plays given = came old last answered (line ∷ []) new plays (one_more last.lines new line given)

  -- all lines of the list were answered
  listed_all : (old new : At L) (answered : List Answered) → PlaysLines gives d telling old answered new
      → PlaysAll NextOf NoneOf d telling (state_at (lines_and answered []) old.device old.score old.log) (state_at [] new.device new.score new.log)
  listed_all old new answered plays = record { answered = answered; last = []; plays = listed old new answered [] plays; ends = inl (refl, refl) }

  counted : (old new : At L) (answered : List Answered) → old.score.answers.lines ≤ 2 ^ 64 - 1 → PlaysLines gives d telling old answered new
      → new.score.answers.lines ≡ min (old.score.answers.lines + length answered) (2 ^ 64 - 1)
  unfolding Chain
  counted old new [] few same = omega (arith, ap (λ (s : At L). s.score.answers.lines) same)
  counted old new (first ∷ rest) few chain =
      let one : chain.0.score.answers.lines ≡ raised old.score.answers.lines =
      ap (λ (a : Answers). a.lines) chain.1.answers ∙ lines_more old.score.totals chain.0.score.totals old.score.answers first.reply in
      omega (arith, one, counted chain.0 new rest (omega (arith, one)) chain.2)

-- all lines of a supply came, and were played and told
pub record AllListed {L : Type 0} (gives : L → Line → L → Type 0) (ended : L → L → Type 0) (telling : Telling)
    (Start : DeviceValue → Type 0) (End : DieState → Type 0) (lines lines_after : L) (log log_after : List Event) : Type 0 where
  pub listed : List Line
  pub last : L
  pub given : AllGiven gives lines listed last
  pub ends : ended last lines_after ⊎ ((length listed ≡ 2 ^ 64 - 1) × (lines_after ≡ last))
  pub plays : PlaysList telling Start End listed log log_after

-- the same up to where none came
pub record ListedUpTo {L : Type 0} (gives : L → Line → L → Type 0) (stops : L → LinesEnd → L → Type 0) (telling : Telling)
    (Start : DeviceValue → Type 0) (why : LinesEnd) (lines lines_after : L) (log log_after : List Event) : Type 0 where
  pub listed : List Line
  pub last : L
  pub given : AllGiven gives lines listed last
  pub after : stops last why lines_after
  pub plays : StopsList telling Start (Lines why) listed log log_after

-- the same up to one that no device plays
pub record ListedUnplayed {L : Type 0} (gives : L → Line → L → Type 0) (telling : Telling)
    (Start : DeviceValue → Type 0) (number : ℕ) (lines lines_after : L) (log log_after : List Event) : Type 0 where
  pub listed : List Line
  pub other : Line
  pub given : AllGiven gives lines (listed ++ other ∷ []) lines_after
  pub unplayed : ¬ IsPlayed other
  pub number_is : number ≡ raised (length listed)
  pub plays : StopsList telling Start (NotPlayed number) (listed ++ other ∷ []) log log_after

-- the same up to where a call of the sink failed
pub record ListedUntold {L : Type 0} (gives : L → Line → L → Type 0) (ended : L → L → Type 0) (telling : Telling)
    (Start : DeviceValue → Type 0) (lines lines_after : L) (log log_after : List Event) : Type 0 where
  pub listed : List Line
  pub last : L
  pub given : AllGiven gives lines listed last
  pub ends : (lines_after ≡ last) ⊎ ended last lines_after
  pub plays : StopsList telling Start Sink listed log log_after

-- a run that stopped, as one of a list
up_to_listed : {L : Type 0} (gives : L → Line → L → Type 0) (stops : L → LinesEnd → L → Type 0) (telling : Telling) (device : DeviceValue) (why : Stop) (lines lines_after : L)
    (log log_after : List Event) (runs : RunsUpTo gives stops telling device why lines lines_after log log_after) (list : List Line)
    → StopsLines NextOf StopsBehind device.numbers telling (state_at list device runs.score (log ++ handed (run_head ∷ []))) why (state_at [] runs.last.device runs.last.score runs.last.log)
    → RunsUpTo NextOf StopsBehind telling device why list [] log log_after
up_to_listed gives stops telling device why lines lines_after log log_after runs list plays = record {
  score = runs.score;
  first = runs.first;
  last = state_at [] runs.last.device runs.last.score runs.last.log;
  plays = plays;
  lines_last = refl;
  log_last = runs.log_last;
}

module _ {L : Type 0} (gives : L → Line → L → Type 0) (ended : L → L → Type 0) (stops : L → LinesEnd → L → Type 0) (telling : Telling)
    (Start : DeviceValue → Type 0) (lines lines_after : L) (log log_after : List Event) where
  pub all_listed : (End : DieState → Type 0) → RunsFrom gives ended telling Start End lines lines_after log log_after → AllListed gives ended telling Start End lines lines_after log log_after
  all_listed End run =
      let device : DeviceValue = run.0 in
      let runs = run.2 in
      let plays = runs.plays in
      record {
        listed = lines_and plays.answered [];
        last = plays.last;
        given = came_all gives device.numbers telling _ _ plays.answered plays.plays;
        ends = elim plays.ends [
          | inl none ↦ inl (subst (λ (l : L). ended plays.last l) runs.lines_last none)
          | inr many ↦ inr (length_lines plays.answered ∙ many.0, sym runs.lines_last ∙ many.1)
        ];
        plays = (
          device,
          run.1,
          record {
            score = runs.score;
            first = runs.first;
            last = state_at [] runs.last.device runs.last.score runs.last.log;
            plays = listed_all gives device.numbers telling _ _ plays.answered plays.plays;
            lines_last = refl;
            tells = runs.tells;
          },
          run.3,
        );
      }

  pub listed_up_to : (why : LinesEnd) → StopsFrom gives ended stops telling Start (Lines why) lines lines_after log log_after → ListedUpTo gives stops telling Start why lines lines_after log log_after
  listed_up_to why run =
      let device : DeviceValue = run.0 in
      let runs = run.2 in
      let plays = runs.plays in
      record {
        listed = lines_and plays.answered [];
        last = plays.last;
        given = came_all gives device.numbers telling _ _ plays.answered plays.plays;
        after = subst (λ (l : L). stops plays.last why l) runs.lines_last plays.after;
        plays = (
          device,
          run.1,
          up_to_listed gives stops telling device (Lines why) lines lines_after log log_after runs (lines_and plays.answered [])
              (record { answered = plays.answered; last = []; plays = listed gives device.numbers telling _ _ plays.answered [] plays.plays; after = (refl, refl) }),
        );
      }

  pub listed_unplayed : (number : ℕ) → StopsFrom gives ended stops telling Start (NotPlayed number) lines lines_after log log_after
      → ListedUnplayed gives telling Start number lines lines_after log log_after
  listed_unplayed number run =
      let device : DeviceValue = run.0 in
      let runs = run.2 in
      let plays = runs.plays.0 in
      let other : Line = plays.after.0 in
      let last : At L = record runs.last { lines = plays.last } in
      let start : At L = state_at lines device runs.score _ in
      let behind = lines_behind plays.answered (other ∷ []) in
      let many = counted gives device.numbers telling start last plays.answered (omega (arith, ap (λ (a : Answers). a.lines) runs.first.answers)) plays.plays in
      record {
        listed = lines_and plays.answered [];
        other = other;
        given = subst (λ (l : L). AllGiven gives lines (lines_and plays.answered [] ++ other ∷ []) l) runs.lines_last
            (subst (λ (all : List Line). AllGiven gives lines all runs.last.lines) behind
            (came_one gives device.numbers telling _ _ plays.answered other _ plays.plays plays.after.1));
        unplayed = plays.after.2;
        number_is = omega (arith, runs.plays.1, many, ap (λ (a : Answers). a.lines) runs.first.answers, length_lines plays.answered);
        plays = subst (λ (all : List Line). StopsList telling Start (NotPlayed number) all log log_after) behind (
          device,
          run.1,
          up_to_listed gives stops telling device (NotPlayed number) lines lines_after log log_after runs (lines_and plays.answered (other ∷ [])) (
            record {
              answered = plays.answered;
              last = other ∷ [];
              plays = listed gives device.numbers telling start last plays.answered (other ∷ []) plays.plays;
              after = (other, refl, plays.after.2);
            },
            runs.plays.1,
          ),
        );
      }

  untold : (device : DeviceValue) → Start device → StopsAtSink gives ended stops telling device lines lines_after log log_after → ListedUntold gives ended telling Start lines lines_after log log_after
  untold device blank (inl first) = record {
    listed = [];
    last = lines;
    given = none_more gives device.numbers telling lines;
    ends = inl first.0;
    plays = (device, blank, inl (refl, first.1));
  }
  untold device blank (inr (inl line)) =
      let told = line.plays in
      let start : At L = state_at lines device line.score _ in
      record {
        listed = lines_and told.answered (told.line ∷ []);
        last = lines_after;
        given = subst (λ (l : L). AllGiven gives lines (lines_and told.answered (told.line ∷ [])) l) line.lines_last
            (came_one gives device.numbers telling _ _ told.answered told.line _ told.plays told.given);
        ends = inl refl;
        plays = (
          device,
          blank,
          inr (inl (up_to_listed gives stops telling device Sink lines lines_after log log_after line (lines_and told.answered (told.line ∷ [])) (record {
            answered = told.answered;
            last = state_at (told.line ∷ []) told.last.device told.last.score told.last.log;
            plays = listed gives device.numbers telling start told.last told.answered (told.line ∷ []) told.plays;
            line = told.line;
            reply = told.reply;
            given = refl;
            played = told.played;
            failed = told.failed;
          }))),
        );
      }
  untold device blank (inr (inr end)) =
      let plays = end.plays in
      record {
        listed = lines_and plays.answered [];
        last = plays.last;
        given = came_all gives device.numbers telling _ _ plays.answered plays.plays;
        ends = elim plays.ends [
          | inl none ↦ inr (subst (λ (l : L). ended plays.last l) end.lines_last none)
          | inr many ↦ inl (sym end.lines_last ∙ many.1)
        ];
        plays = (
          device,
          blank,
          inr (inr (record {
            score = end.score;
            first = end.first;
            last = state_at [] end.last.device end.last.score end.last.log;
            plays = listed_all gives device.numbers telling _ _ plays.answered plays.plays;
            lines_last = refl;
            failed = end.failed;
          })),
        );
      }

  pub listed_untold : StopsFrom gives ended stops telling Start Sink lines lines_after log log_after → ListedUntold gives ended telling Start lines lines_after log log_after
  listed_untold run = untold run.0 run.1 run.2
