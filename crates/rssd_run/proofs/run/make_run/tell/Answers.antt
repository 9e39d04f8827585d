-- The second line was given in part, behind the first.
use Rattle.std.proofs.Common.{◌≡◌, ℕ, List, [], ◌∷◌, ◌++◌, take, Result, Ok, Err, OnErr, ap, ◌∙◌, arith, append_assoc}
use Rattle.rssd_io.specs.Event.{Event, Gave, moved, failed}
use Rattle.rssd_io.specs.Pieces.{StopsAt}
use Rattle.rssd_run.proofs.run.make_run.tell.Goals as goal

stops_second : {E : Type 0} (result : Result (Unit {0}) E) (old between new : List Event) (first second : List ℕ) → between ≡ old ++ moved first ∷ [] → Gave result second between new
    → OnErr result (StopsAt (first ∷ second ∷ []) old new)
stops_second (Ok x) old between new first second came gave = tt
stops_second (Err e) old between new first second came gave = record {
  before = 1;
  inside = omega arith;
  n = gave.0;
  log = gave.1 ∙ (ap (λ (xs : List Event). xs ++ moved (take gave.0 second) ∷ failed ∷ []) came ∙ append_assoc old (moved first ∷ []) (moved (take gave.0 second) ∷ failed ∷ []));
}

pub returns-clause-stops : goal.returns-clause-stops
returns-clause-stops g c =
    let log = g.O.Sink.log in
    stops_second c.give-2.result (log c.args.out.now) (log c.give.new.self) (log c.give-2.new.self) c.args.stat.now c.args.held.now c.in_ok-give.ensures.log c.give-2.ensures.log
