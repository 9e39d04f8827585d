-- A queue run is a run of its queue, whose laws it has.
use Rattle.std.proofs.Common.{◌≡◌, ℕ, List, [], ◌∷◌, ◌++◌, refl, sym, ap, ◌∙◌, subst, append-nil}
use Rattle.std.specs.List.Sorted.{IsPermutation}
use Rattle.rssd_core.specs.DeviceValue.{Numbers}
use Rattle.rssd_core.specs.declared.device.FtlError.TheVariants.{DieFault}
use Rattle.rssd_queue.specs.declared.ask.Ask.{Ask}
use Rattle.rssd_queue.specs.declared.ask.Ask.TheVariants as asks
use Rattle.rssd_queue.specs.declared.ask.Tagged.{Tagged}
use Rattle.rssd_queue.specs.declared.serve.Answer.TheVariants.{Refused}
use Rattle.rssd_queue.specs.Waiting.{Waiting, accepted}
use Rattle.rssd_queue.specs.Runs as queue_runs
use Rattle.rssd_queue.proofs.Orders.{answered_once, sectors_in_order}
use Rattle.rssd_run.specs.View.{View}
use Rattle.rssd_run.specs.QueueActs.{Place, Act, Put, Served, AtOnce, AreActs}
use Rattle.rssd_run.specs.QueueLaws.{accepted_in, served_in, ServesAll}

-- what the queue sees of the acts; what a command was answered is nothing to it
abbrev pub events_of : List Act → List queue_runs.Event
events_of [] = []
events_of (Put c ∷ acts) = queue_runs.Put c ∷ events_of acts
events_of (Served c e ∷ acts) = queue_runs.Served c (Refused DieFault) ∷ events_of acts
events_of (AtOnce tag e ∷ acts) = events_of acts

abbrev pub seen : Waiting → queue_runs.State
seen queue = record { queue = queue; rows = [] }

any_answer : (ask : Ask) → queue_runs.AnswersOf [] ask (Refused DieFault)
any_answer (asks.Write sector bytes) = tt
any_answer (asks.Read sector) = tt
any_answer (asks.Trim sector) = tt

pub queue_run : (d : Numbers) (acts : List Act) (from to : Place) (before after : View) → AreActs d from before acts to after → queue_runs.IsRun (seen from.queue) (events_of acts) (seen to.queue)
unfolding AreActs
queue_run d [] from to before after run = ap (λ (p : Place). seen p.queue) run.0
queue_run d (Put c ∷ acts) from to before after run =
    (seen run.0.queue, (run.2.accepted, refl), queue_run d acts run.0 to run.1 after run.3)
queue_run d (Served c e ∷ acts) from to before after run =
    (seen run.0.queue, (run.2.taken, record { answer_is = any_answer c.ask; carried_so = λ h. cc }), queue_run d acts run.0 to run.1 after run.3)
queue_run d (AtOnce tag e ∷ acts) from to before after run =
    subst (λ (q : Waiting). queue_runs.IsRun (seen q) (events_of acts) (seen to.queue)) run.2.same_queue (queue_run d acts run.0 to run.1 after run.3)

same_accepted : (size : ℕ) (acts : List Act) → queue_runs.accepted_in size (events_of acts) ≡ accepted_in size acts
same_accepted size [] = refl
same_accepted size (Put c ∷ acts) = ap (λ cs. accepted size c ∷ cs) (same_accepted size acts)
same_accepted size (Served c e ∷ acts) = same_accepted size acts
same_accepted size (AtOnce tag e ∷ acts) = same_accepted size acts

pub same_served : (acts : List Act) → queue_runs.served_in (events_of acts) ≡ served_in acts
same_served [] = refl
same_served (Put c ∷ acts) = same_served acts
same_served (Served c e ∷ acts) = ap (λ cs. c ∷ cs) (same_served acts)
same_served (AtOnce tag e ∷ acts) = same_served acts

-- acts that begin and end where nothing waits
pub serves_all : (d : Numbers) (acts : List Act) (from to : Place) (before after : View) → from.queue.commands ≡ [] → from.queue.passed ≡ 0 → to.queue.commands ≡ []
    → AreActs d from before acts to after
    → ServesAll from.queue.sector_bytes acts
serves_all d acts from to before after none passed left run =
    let size : ℕ = from.queue.sector_bytes in
    let is_run = queue_run d acts from to before after run in
    let is_new : queue_runs.IsNew (seen from.queue) = record { none = none; passed = passed } in
    let served : List Tagged = queue_runs.served_in (events_of acts) in
    let once : IsPermutation (queue_runs.accepted_in size (events_of acts)) (served ++ to.queue.commands) = answered_once (seen from.queue) (seen to.queue) (events_of acts) is_new is_run in
    let once' : IsPermutation (queue_runs.accepted_in size (events_of acts)) served
    = subst (λ (cs : List Tagged). IsPermutation (queue_runs.accepted_in size (events_of acts)) cs) (ap (λ (cs : List Tagged). served ++ cs) left ∙ append-nil served) once in
    record {
      once = subst (λ (cs : List Tagged). IsPermutation cs (served_in acts)) (same_accepted size acts)
          (subst (λ (cs : List Tagged). IsPermutation (queue_runs.accepted_in size (events_of acts)) cs) (same_served acts) once');
      in_order = λ sector.
          ap (queue_runs.about sector) (sym (same_accepted size acts))
          ∙ (sectors_in_order (seen from.queue) (seen to.queue) (events_of acts) is_new is_run sector
          ∙ (ap (λ (cs : List Tagged). queue_runs.about sector served ++ queue_runs.about sector cs) left ∙ append-nil (queue_runs.about sector served))
          ∙ ap (queue_runs.about sector) (same_served acts));
    }
