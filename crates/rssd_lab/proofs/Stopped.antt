-- What a run leaves that stopped, and that its log has grown.
use Rattle.std.proofs.Common.{◌≡◌, inl, inr, List, [], ◌∷◌, ◌++◌, refl, ap, sym, ◌∙◌, subst, append-nil}
use Rattle.cell_die.specs.DieState.{DieState}
use Rattle.rssd_core.specs.DeviceValue.{Numbers, DeviceValue}
use Rattle.rssd_io.specs.Event.{Event, Grows, HasFailed}
use Rattle.rssd_io.proofs.Logs.{came_behind}
use Rattle.rssd_script.specs.declared.lines.Line.{Line}
use Rattle.lab_lines.specs.declared.lines.LinesEnd.{LinesEnd}
use Rattle.lab_stream.proofs.Takes.{failed_later}
use Rattle.rssd_lab.specs.declared.telling.Telling.{Telling}
use Rattle.rssd_lab.specs.declared.score.Score.{Score}
use Rattle.rssd_lab.specs.declared.status.Stop.{Stop}
use Rattle.rssd_lab.specs.declared.status.Stop.TheVariants.{Lines, NotPlayed, Sink, OutOfMemory}
use Rattle.rssd_lab.specs.Chain.{Chain}
use Rattle.rssd_lab.specs.Runs.{Answered, At, PlaysAll, PlaysLines, StopsLines, RunsUpTo, StopsRun, IsFirst, handed, told_for, run_head, state_at}
use Rattle.rssd_lab.specs.Started.{RunsFrom, StopsFrom}

pub grew : {L : Type 0} (gives : L → Line → L → Type 0) (d : Numbers) (telling : Telling) (old new : At L) (answered : List Answered)
    → PlaysLines gives d telling old answered new → Grows old.log new.log
unfolding Chain
grew {L} gives d telling old new [] same = ([], ap (λ (s : At L). s.log) same ∙ sym (append-nil old.log))
grew gives d telling old new (first ∷ rest) chain =
    let more = grew gives d telling chain.0 new rest chain.2 in
    let given : List Event = handed (told_for telling chain.0.device chain.0.score first.reply) in
    (given ++ more.0, came_behind old.log chain.0.log new.log given more.0 chain.1.told more.1)

module _ {L : Type 0} (gives : L → Line → L → Type 0) (ended : L → L → Type 0) (stops : L → LinesEnd → L → Type 0) (telling : Telling) (device : DeviceValue) where
  run_up_to : (score : Score) → IsFirst device score → (lines : L) (log between : List Event) → between ≡ log ++ handed (run_head ∷ []) → (why : Stop) (last : At L)
      → StopsLines gives stops device.numbers telling (state_at lines device score between) why last → RunsUpTo gives stops telling device why lines last.lines log last.log
  run_up_to score first lines log between head why last stopped = record {
    score = score;
    first = first;
    last = last;
    plays = subst (λ (l : List Event). StopsLines gives stops device.numbers telling (state_at lines device score l) why last) head stopped;
    lines_last = refl;
    log_last = refl;
  }

  pub stops_run : (score : Score) → IsFirst device score → (lines : L) (log between : List Event) → between ≡ log ++ handed (run_head ∷ []) → (why : Stop) (last : At L)
      → StopsLines gives stops device.numbers telling (state_at lines device score between) why last → StopsRun gives ended stops telling device why lines last.lines log last.log
  stops_run score first lines log between head (Lines why) last stopped = run_up_to score first lines log between head (Lines why) last stopped
  stops_run score first lines log between head (NotPlayed number) last stopped = run_up_to score first lines log between head (NotPlayed number) last stopped
  stops_run score first lines log between head Sink last stopped = inr (inl (run_up_to score first lines log between head Sink last stopped))
  stops_run score first lines log between head OutOfMemory last stopped = absurd stopped

  -- all lines were played behind the head
  pub plays_behind : {score : Score} {lines : L} {last : At L} (log between : List Event) → between ≡ log ++ handed (run_head ∷ [])
      → PlaysAll gives ended device.numbers telling (state_at lines device score between) last
      → PlaysAll gives ended device.numbers telling (state_at lines device score (log ++ handed (run_head ∷ []))) last
  plays_behind {score} {lines} {last} log between head plays = subst (λ (l : List Event). PlaysAll gives ended device.numbers telling (state_at lines device score l) last) head plays

  -- a call of the sink failed, wherever it was
  pub sink_failed : (lines after : L) (log log_after : List Event) → StopsRun gives ended stops telling device Sink lines after log log_after → HasFailed log log_after
  sink_failed lines after log log_after (inl head) = head.1
  sink_failed lines after log log_after (inr (inl line)) =
      let told = line.plays in
      let start = log ++ handed (run_head ∷ []) in
      let more = grew gives device.numbers telling (state_at lines device line.score start) told.last told.answered told.plays in
      let failed : HasFailed told.last.log log_after = subst (λ (l : List Event). HasFailed told.last.log l) line.log_last told.failed in
      failed_later log told.last.log log_after (handed (run_head ∷ []) ++ more.0) (came_behind log start told.last.log (handed (run_head ∷ [])) more.0 refl more.1) failed
  sink_failed lines after log log_after (inr (inr end)) =
      let all = end.plays in
      let start = log ++ handed (run_head ∷ []) in
      let more = grew gives device.numbers telling (state_at lines device end.score start) (record end.last { lines = all.last }) all.answered all.plays in
      failed_later log end.last.log log_after (handed (run_head ∷ []) ++ more.0) (came_behind log start end.last.log (handed (run_head ∷ [])) more.0 refl more.1) end.failed

  pub started_stops : (Start : DeviceValue → Type 0) → Start device → (lines after : L) (log log_after : List Event) (why : Stop)
      → StopsRun gives ended stops telling device why lines after log log_after → StopsFrom gives ended stops telling Start why lines after log log_after
  started_stops Start begins lines after log log_after (Lines why) stopped = (device, begins, stopped)
  started_stops Start begins lines after log log_after (NotPlayed number) stopped = (device, begins, stopped)
  started_stops Start begins lines after log log_after Sink stopped = (device, begins, stopped)
  started_stops Start begins lines after log log_after OutOfMemory stopped = absurd stopped

-- where each device of the one start is one of the other
module _ {L : Type 0} (gives : L → Line → L → Type 0) (ended : L → L → Type 0) (telling : Telling)
    (S T : DeviceValue → Type 0) (each : (device : DeviceValue) → S device → T device) (lines after : L) (log log_after : List Event) where
  pub runs_so : (P Q : DieState → Type 0) → ((die : DieState) → P die → Q die) → RunsFrom gives ended telling S P lines after log log_after → RunsFrom gives ended telling T Q lines after log log_after
  runs_so P Q left run = (run.0, each run.0 run.1, run.2, left run.2.last.device.view.die run.3)
