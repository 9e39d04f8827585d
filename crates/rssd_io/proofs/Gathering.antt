-- What a sink that gathers pieces hands on, in order.
use Rattle.std.proofs.Common.{◌≡◌, ℕ, zero, suc, ◌+◌, List, [], ◌∷◌, ◌++◌, length, take, Result, Ok, Err, refl, sym, ap, ◌∙◌, subst, arith, append-nil}
use Rattle.std.proofs.Math.Seq.{take-length, take-append-add}
use Rattle.std.specs.Prelude.{OnOk, OnErr, is_ok, false}
use Rattle.std.proofs.lemmas.Bool.{false≢true}
use Rattle.rssd_io.specs.Event.{Event, Gave, Flushed, HasFlushed, moved, flushed, failed, bytes_of}
use Rattle.rssd_io.specs.Buffer.{HandsThrough, HandsFront}
use Rattle.rssd_io.proofs.Logs.{bytes_append, bytes_more, failures_append, more_came, came_behind, ends_with}

-- the piece was taken up
pub taken_up : (log : List Event) (waited waits piece : List ℕ) → waits ≡ waited ++ piece → HandsThrough log log waited waits piece
taken_up log waited waits piece is = record { events = []; came = sym (append-nil log); served = refl; order = is }

-- the piece was taken up behind what was handed on
pub taken_up_behind : (old new : List Event) (waited waits piece : List ℕ) → HandsThrough old new waited [] [] → waits ≡ piece → HandsThrough old new waited waits piece
taken_up_behind old new waited waits piece through is = record {
  events = through.events;
  came = through.came;
  served = through.served;
  order = ap (λ (xs : List ℕ). bytes_of through.events ++ xs) is ∙ ap (λ (xs : List ℕ). xs ++ piece) (sym (append-nil (bytes_of through.events)) ∙ (through.order ∙ append-nil waited));
}

-- what waited was given
pub given_on : {E : Type 0} (result : Result (Unit {0}) E) (old new : List Event) (waited : List ℕ) → Gave result waited old new → OnOk result (HandsThrough old new waited [] [])
given_on (Ok x) old new waited gave = record { events = moved waited ∷ []; came = gave; served = refl; order = append-nil (waited ++ []) }
given_on (Err e) old new waited gave = tt

-- and then the piece was
pub given_behind : {E : Type 0} (result : Result (Unit {0}) E) (old between new : List Event) (waited piece : List ℕ) → HandsThrough old between waited [] [] → Gave result piece between new
    → OnOk result (HandsThrough old new waited [] piece)
given_behind (Ok x) old between new waited piece through gave = record {
  events = through.events ++ moved piece ∷ [];
  came = more_came old between new through.events (moved piece) through.came gave;
  served = omega (arith, failures_append through.events (moved piece ∷ []), through.served);
  order =
      append-nil (bytes_of (through.events ++ moved piece ∷ []))
      ∙ (bytes_more through.events piece ∙ ap (λ (xs : List ℕ). xs ++ piece) (sym (append-nil (bytes_of through.events)) ∙ (through.order ∙ append-nil waited)));
}
given_behind (Err e) old between new waited piece through gave = tt

-- what waited was given, and the sink below was flushed
pub flushed_below : {E : Type 0} (result : Result (Unit {0}) E) (old between new : List Event) (waited : List ℕ) → HandsThrough old between waited [] [] → Flushed result between new
    → OnOk result (HandsThrough old new waited [] [])
flushed_below (Ok x) old between new waited through flushes = record {
  events = through.events ++ flushed ∷ [];
  came = more_came old between new through.events flushed through.came flushes;
  served = omega (arith, failures_append through.events (flushed ∷ []), through.served);
  order = ap (λ (xs : List ℕ). xs ++ []) (bytes_append through.events (flushed ∷ []) ∙ append-nil (bytes_of through.events)) ∙ through.order;
}
flushed_below (Err e) old between new waited through flushes = tt

pub ends_flushed : {E : Type 0} (result : Result (Unit {0}) E) (between new : List Event) → Flushed result between new → OnOk result (HasFlushed new)
ends_flushed (Ok x) between new flushes = subst HasFlushed (sym flushes) (ends_with between flushed)
ends_flushed (Err e) between new flushes = tt

-- a call that failed changed nothing
pub unchanged : {X E : Type 0} (result : Result (Unit {0}) E) (new old : X) → OnErr result (new ≡ old) → false ≡ is_ok result → new ≡ old
unchanged (Ok x) new old same was_err = absurd (false≢true was_err)
unchanged (Err e) new old same was_err = same

-- a front of a list is one of the list and another behind it
shorter : (n : ℕ) (xs ys : List ℕ) → (m : ℕ) × (take n xs ≡ take m (xs ++ ys))
shorter zero xs ys = (0, refl)
shorter (suc n) [] ys = (0, refl)
shorter (suc n) (x ∷ xs) ys = (suc (shorter n xs ys).0, ap (λ (zs : List ℕ). x ∷ zs) (shorter n xs ys).1)

-- the bytes that were handed on are all that waited
through_bytes : (old new : List Event) (waited : List ℕ) (through : HandsThrough old new waited [] []) → bytes_of through.events ≡ waited
through_bytes old new waited through = sym (append-nil (bytes_of through.events)) ∙ (through.order ∙ append-nil waited)

-- where a give failed, what it took is behind what a give or none handed on before
front_bytes : (events : List Event) (waited piece : List ℕ) (n : ℕ) → bytes_of events ≡ waited → bytes_of (events ++ moved (take n piece) ∷ failed ∷ []) ≡ take (length waited + n) (waited ++ piece)
front_bytes events waited piece n are =
    bytes_append events (moved (take n piece) ∷ failed ∷ [])
    ∙ (ap (λ (xs : List ℕ). bytes_of events ++ xs) (append-nil (take n piece)) ∙ (ap (λ (xs : List ℕ). xs ++ take n piece) are ∙ sym (take-append-add waited piece n)))

-- what waited was not given whole
pub front_given : {E : Type 0} (result : Result (Unit {0}) E) (old new : List Event) (waited : List ℕ) → Gave result waited old new → OnErr result (HandsFront old new waited)
front_given (Ok x) old new waited gave = tt
front_given (Err e) old new waited gave = record { events = moved (take gave.0 waited) ∷ failed ∷ []; came = gave.1; failed = omega arith; n = gave.0; front = append-nil (take gave.0 waited) }

-- a front of it is one of it and a piece behind it
pub front_before : (old new : List Event) (waited piece : List ℕ) → HandsFront old new waited → HandsFront old new (waited ++ piece)
front_before old new waited piece fronts = record {
  events = fronts.events;
  came = fronts.came;
  failed = fronts.failed;
  n = (shorter fronts.n waited piece).0;
  front = fronts.front ∙ (shorter fronts.n waited piece).1;
}

-- what waited was given, and the piece was not given whole
pub front_behind : {E : Type 0} (result : Result (Unit {0}) E) (old between new : List Event) (waited piece : List ℕ) → HandsThrough old between waited [] [] → Gave result piece between new
    → OnErr result (HandsFront old new (waited ++ piece))
front_behind (Ok x) old between new waited piece through gave = tt
front_behind (Err e) old between new waited piece through gave = record {
  events = through.events ++ moved (take gave.0 piece) ∷ failed ∷ [];
  came = came_behind old between new through.events (moved (take gave.0 piece) ∷ failed ∷ []) through.came gave.1;
  failed = omega (arith, failures_append through.events (moved (take gave.0 piece) ∷ failed ∷ []));
  n = length waited + gave.0;
  front = front_bytes through.events waited piece gave.0 (through_bytes old between waited through);
}

-- what waited was given, and the sink below was not flushed
pub front_flushed : {E : Type 0} (result : Result (Unit {0}) E) (old between new : List Event) (waited : List ℕ) → HandsThrough old between waited [] [] → Flushed result between new
    → OnErr result (HandsFront old new waited)
front_flushed (Ok x) old between new waited through flushes = tt
front_flushed (Err e) old between new waited through flushes = record {
  events = through.events ++ failed ∷ [];
  came = more_came old between new through.events failed through.came flushes;
  failed = omega (arith, failures_append through.events (failed ∷ []));
  n = length waited;
  front = bytes_append through.events (failed ∷ []) ∙ (append-nil (bytes_of through.events) ∙ (through_bytes old between waited through ∙ sym (take-length waited)));
}
