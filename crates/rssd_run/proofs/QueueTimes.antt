-- In a queue run each command that is put is among the next 1,024 that are served.
use Rattle.std.proofs.Common.{◌≡◌, inl, inr, ℕ, suc, zero, ◌≤◌, List, [], ◌∷◌, ◌++◌, length, take, replicate, refl, sym, ap, ◌∙◌, subst, arith}
use Rattle.std.specs.List.{Contains}
use Rattle.std.proofs.lemmas.Bool.{cases_lt}
use Rattle.std.proofs.lemmas.List.{take_at, take_all, append_assoc}
use Rattle.rssd_core.specs.DeviceValue.{Numbers}
use Rattle.rssd_core.specs.declared.device.FtlError.TheVariants.{DieFault}
use Rattle.rssd_queue.specs.declared.ask.Tagged.{Tagged}
use Rattle.rssd_queue.specs.declared.serve.Answer.TheVariants.{Refused}
use Rattle.rssd_queue.specs.Waiting.{accepted}
use Rattle.rssd_queue.specs.Runs as queue_runs
use Rattle.rssd_queue.proofs.InTime.{served_in_time}
use Rattle.rssd_run.specs.View.{View}
use Rattle.rssd_run.specs.QueueActs.{Place, Act, Put, Served, AtOnce, AreActs}
use Rattle.rssd_run.specs.QueueLaws.{served_in, ServesSoon, ServesSoonWhereServed}
use Rattle.rssd_run.proofs.QueueLaws.{events_of, seen, queue_run, same_served}

-- ---- a front of the acts

-- the acts up to the last of n serves
record UpTo (n : ℕ) (acts : List Act) : Type 0 where
  first : List Act
  second : List Act
  split : acts ≡ first ++ second
  count : length (served_in first) ≡ n

up_to : (n : ℕ) (acts : List Act) → n ≤ length (served_in acts) → UpTo n acts
up_to zero acts enough = record { first = []; second = acts; split = refl; count = refl }
up_to (suc n) [] enough = absurd (omega arith)
up_to (suc n) (Put c ∷ acts) enough =
    let u = up_to (suc n) acts enough in
    record { first = Put c ∷ u.first; second = u.second; split = ap (λ xs. Put c ∷ xs) u.split; count = u.count }
up_to (suc n) (Served c e ∷ acts) enough =
    let u = up_to n acts (omega arith) in
    let count = u.count in
    record { first = Served c e ∷ u.first; second = u.second; split = ap (λ xs. Served c e ∷ xs) u.split; count = omega arith }
up_to (suc n) (AtOnce tag e ∷ acts) enough =
    let u = up_to (suc n) acts enough in
    record { first = AtOnce tag e ∷ u.first; second = u.second; split = ap (λ xs. AtOnce tag e ∷ xs) u.split; count = u.count }

served_append : (xs ys : List Act) → served_in (xs ++ ys) ≡ served_in xs ++ served_in ys
served_append [] ys = refl
served_append (Put c ∷ xs) ys = served_append xs ys
served_append (Served c e ∷ xs) ys = ap (λ cs. c ∷ cs) (served_append xs ys)
served_append (AtOnce tag e ∷ xs) ys = served_append xs ys

events_append : (xs ys : List Act) → events_of (xs ++ ys) ≡ events_of xs ++ events_of ys
events_append [] ys = refl
events_append (Put c ∷ xs) ys = ap (λ es. queue_runs.Put c ∷ es) (events_append xs ys)
events_append (Served c e ∷ xs) ys = ap (λ es. queue_runs.Served c (Refused DieFault) ∷ es) (events_append xs ys)
events_append (AtOnce tag e ∷ xs) ys = events_append xs ys

same_serves : (acts : List Act) → queue_runs.serves (events_of acts) ≡ length (served_in acts)
same_serves [] = refl
same_serves (Put c ∷ acts) = same_serves acts
same_serves (Served c e ∷ acts) = let rest = same_serves acts in omega arith
same_serves (AtOnce tag e ∷ acts) = same_serves acts

-- ---- runs of the queue

run_front : (xs ys : List queue_runs.Event) (first last : queue_runs.State) → queue_runs.IsRun first (xs ++ ys) last → (mid : queue_runs.State) × queue_runs.IsRun first xs mid
run_front [] ys first last run = (first, refl)
run_front (e ∷ xs) ys first last run =
    let rest = run_front xs ys run.0 last run.2 in
    (rest.0, (run.0, run.1, rest.1))

run_then : (xs ys : List queue_runs.Event) (first mid last : queue_runs.State) → queue_runs.IsRun first xs mid → queue_runs.IsRun mid ys last → queue_runs.IsRun first (xs ++ ys) last
run_then [] ys first mid last run then = subst (λ (v : queue_runs.State). queue_runs.IsRun v ys last) run then
run_then (e ∷ xs) ys first mid last run then = (run.0, run.1, run_then xs ys run.0 mid last run.2 then)

-- serves where nothing waits
none_found : (n : ℕ) (v : queue_runs.State) → v.queue.commands ≡ [] → queue_runs.IsRun v (replicate n queue_runs.FoundNone) v
none_found zero v none = refl
none_found (suc n) v none = (v, (none, refl), none_found n v none)

served_then_none : (xs : List queue_runs.Event) (n : ℕ) → queue_runs.served_in (xs ++ replicate n queue_runs.FoundNone) ≡ queue_runs.served_in xs
served_then_none [] zero = refl
served_then_none [] (suc n) = served_then_none [] n
served_then_none (queue_runs.Put c ∷ xs) n = served_then_none xs n
served_then_none (queue_runs.RefusedPut c why ∷ xs) n = served_then_none xs n
served_then_none (queue_runs.Served c answer ∷ xs) n = ap (λ cs. c ∷ cs) (served_then_none xs n)
served_then_none (queue_runs.FoundNone ∷ xs) n = served_then_none xs n

serves_then_none : (xs : List queue_runs.Event) (n : ℕ) → n ≤ queue_runs.serves (xs ++ replicate n queue_runs.FoundNone)
serves_then_none [] zero = omega arith
serves_then_none [] (suc n) = let rest = serves_then_none [] n in omega arith
serves_then_none (queue_runs.Put c ∷ xs) n = serves_then_none xs n
serves_then_none (queue_runs.RefusedPut c why ∷ xs) n = serves_then_none xs n
serves_then_none (queue_runs.Served c answer ∷ xs) n = let rest = serves_then_none xs n in omega arith
serves_then_none (queue_runs.FoundNone ∷ xs) n = let rest = serves_then_none xs n in omega arith

-- ---- acts that begin where nothing waits

module _ (d : Numbers) (acts : List Act) (from to : Place) (before after : View) (none : from.queue.commands ≡ []) (passed : from.queue.passed ≡ 0) (run : AreActs d from before acts to after) where
  is_run : queue_runs.IsRun (seen from.queue) (events_of acts) (seen to.queue)
  is_run = queue_run d acts from to before after run

  is_new : queue_runs.IsNew (seen from.queue)
  is_new = record { none = none; passed = passed }

  pub soon_where_served : ServesSoonWhereServed from.queue.sector_bytes acts
  soon_where_served earlier rest c split enough =
      let u : UpTo 1024 rest = up_to 1024 rest enough in
      let count = u.count in
      let front : List queue_runs.Event = events_of earlier ++ queue_runs.Put c ∷ events_of u.first in
      let all : events_of acts ≡ front ++ events_of u.second
      = ap events_of split
      ∙ (events_append earlier (Put c ∷ rest)
      ∙ (ap (λ (xs : List Act). events_of earlier ++ queue_runs.Put c ∷ events_of xs) u.split
      ∙ (ap (λ (es : List queue_runs.Event). events_of earlier ++ queue_runs.Put c ∷ es) (events_append u.first u.second)
      ∙ sym (append_assoc (events_of earlier) (queue_runs.Put c ∷ events_of u.first) (events_of u.second))))) in
      let part = run_front front (events_of u.second) (seen from.queue) (seen to.queue) (subst (λ (es : List queue_runs.Event). queue_runs.IsRun (seen from.queue) es (seen to.queue)) all is_run) in
      let serves = same_serves u.first in
      let served : Contains (queue_runs.served_in (events_of u.first)) (accepted from.queue.sector_bytes c)
      = served_in_time (seen from.queue) part.0 (events_of earlier) (events_of u.first) c is_new part.1 (omega arith) in
      let taken : take 1024 (served_in rest) ≡ served_in u.first
      = ap (λ (xs : List Act). take 1024 (served_in xs)) u.split ∙ (ap (take 1024) (served_append u.first u.second) ∙ take_at (served_in u.first) (served_in u.second) 1024 u.count) in
      subst (λ (cs : List Tagged). Contains cs (accepted from.queue.sector_bytes c)) (same_served u.first ∙ sym taken) served

  -- and end there
  pub soon : to.queue.commands ≡ [] → ServesSoon from.queue.sector_bytes acts
  soon left earlier rest c split = elim (cases_lt (length (served_in rest)) 1024) [
    | inl few ↦ (
        let nones : List queue_runs.Event = replicate 1024 queue_runs.FoundNone in
        let all : events_of acts ++ nones ≡ events_of earlier ++ queue_runs.Put c ∷ (events_of rest ++ nones)
        = ap (λ (xs : List Act). events_of xs ++ nones) split
        ∙ (ap (λ (es : List queue_runs.Event). es ++ nones) (events_append earlier (Put c ∷ rest))
        ∙ append_assoc (events_of earlier) (queue_runs.Put c ∷ events_of rest) nones) in
        let longer = run_then (events_of acts) nones (seen from.queue) (seen to.queue) (seen to.queue) is_run (none_found 1024 (seen to.queue) left) in
        let served : Contains (queue_runs.served_in (events_of rest ++ nones)) (accepted from.queue.sector_bytes c)
        = served_in_time (seen from.queue) (seen to.queue) (events_of earlier) (events_of rest ++ nones) c is_new
        (subst (λ (es : List queue_runs.Event). queue_runs.IsRun (seen from.queue) es (seen to.queue)) all longer) (serves_then_none (events_of rest) 1024) in
        subst (λ (cs : List Tagged). Contains cs (accepted from.queue.sector_bytes c))
        (served_then_none (events_of rest) 1024 ∙ (same_served rest ∙ sym (take_all 1024 (served_in rest) (omega arith)))) served)
    | inr many ↦ soon_where_served earlier rest c split (omega arith)
  ]
