-- What sources and sinks tell, call after call.
use Rattle.std.proofs.Common.{ℕ, List, [], ◌∷◌, ◌++◌, Option, None, Some, Result, Ok, Err, refl, sym, ap, ◌∙◌, subst, take, append-nil, append_assoc}
use Rattle.std.specs.Io.KnownBytes.{Consumes, Appends, Keeps, ReadConsumes}
use Rattle.rssd_io.specs.Event.{Event, Adds, took, moved, failed, bytes_of}
use Rattle.rssd_io.specs.Told.{TellsLeft, TellsHeld}
use Rattle.rssd_io.proofs.Appending.{appends_more, appends_none}
use Rattle.rssd_io.proofs.Logs.{bytes_append, came_behind}

consumes_more : (x y z : Option (List ℕ)) (a b : List ℕ) → Consumes x y a → Consumes y z b → Consumes x z (a ++ b)
consumes_more None y z a b first second = tt
consumes_more (Some xs) None z a b first second = absurd first
consumes_more (Some xs) (Some ys) None a b first second = second
consumes_more (Some xs) (Some ys) (Some zs) a b first second = first ∙ (ap (λ (rest : List ℕ). a ++ rest) second ∙ sym (append_assoc a b zs))

consumes_none : (x y : Option (List ℕ)) → Keeps x y → Consumes x y []
consumes_none None y keeps = tt
consumes_none (Some xs) None keeps = keeps
consumes_none (Some xs) (Some ys) keeps = sym keeps

keeps_same : (x : Option (List ℕ)) → Keeps x x
keeps_same None = tt
keeps_same (Some xs) = refl

-- a source that was not called
pub left_same : (x : Option (List ℕ)) (log : List Event) → TellsLeft x x log log
left_same x log = record { events = []; came = sym (append-nil log); left = consumes_none x x (keeps_same x) }

-- calls behind others
pub left_more : {x y z : Option (List ℕ)} {old between new : List Event} → TellsLeft x y old between → TellsLeft y z between new → TellsLeft x z old new
left_more {x} {y} {z} {old} {between} {new} first second = record {
  events = first.events ++ second.events;
  came = came_behind old between new first.events second.events first.came second.came;
  left = subst (λ (bytes : List ℕ). Consumes x z bytes) (sym (bytes_append first.events second.events)) (consumes_more x y z (bytes_of first.events) (bytes_of second.events) first.left second.left);
}

-- one take
pub left_take : {E : Type 0} (result : Result ℕ E) (into : List ℕ) (x y : Option (List ℕ)) (old new : List Event) → Adds (took result into) old new → ReadConsumes x y result into
    → TellsLeft x y old new
left_take (Ok n) into x y old new adds reads = record { events = moved (take n into) ∷ []; came = adds; left = subst (λ (bytes : List ℕ). Consumes x y bytes) (sym (append-nil (take n into))) reads.0 }
left_take (Err e) into x y old new adds keeps = record { events = failed ∷ []; came = adds; left = consumes_none x y keeps }

-- a sink that was not called
pub held_same : (x : Option (List ℕ)) (log : List Event) → TellsHeld x x log log
held_same x log = record { events = []; came = sym (append-nil log); held = appends_none x }

-- calls behind others
pub held_more : {x y z : Option (List ℕ)} {old between new : List Event} → TellsHeld x y old between → TellsHeld y z between new → TellsHeld x z old new
held_more {x} {y} {z} {old} {between} {new} first second = record {
  events = first.events ++ second.events;
  came = came_behind old between new first.events second.events first.came second.came;
  held = subst (λ (bytes : List ℕ). Appends x z bytes) (sym (bytes_append first.events second.events)) (appends_more x y z (bytes_of first.events) (bytes_of second.events) first.held second.held);
}
