-- Logs that grow: what came after the old events, its bytes and its failures.
use Rattle.std.proofs.Common.{◌≡◌, ℕ, ◌+◌, List, [], ◌∷◌, ◌++◌, take, None, Some, refl, sym, ap, ◌∙◌, arith, append-nil, append_assoc}
use Rattle.std.proofs.lemmas.List.Concat.{flat_map-append}
use Rattle.rssd_io.specs.Event.{Event, EndsWith, HasFailed, Adds, moved, failed, bytes_in, bytes_of, failures, since}
use Rattle.rssd_io.specs.Pieces.{all_given}

pub since_append : (old events : List Event) → since old (old ++ events) ≡ events
since_append [] events = refl
since_append (event ∷ old) events = since_append old events

-- what came after the old events
pub since_is : (old new events : List Event) → new ≡ old ++ events → since old new ≡ events
since_is old new events came = ap (since old) came ∙ since_append old events

pub since_same : (old new : List Event) → new ≡ old → since old new ≡ []
since_same old new same = since_is old new [] (same ∙ sym (append-nil old))

-- a log that grew is the old events and what came after them
pub grew : (old new events : List Event) → new ≡ old ++ events → new ≡ old ++ since old new
grew old new events came = came ∙ ap (λ (xs : List Event). old ++ xs) (sym (since_is old new events came))

pub failures_append : (events more : List Event) → failures (events ++ more) ≡ failures events + failures more
failures_append [] more = omega arith
failures_append (None ∷ events) more = omega (arith, failures_append events more)
failures_append (Some moves ∷ events) more = failures_append events more

pub bytes_append : (events more : List Event) → bytes_of (events ++ more) ≡ bytes_of events ++ bytes_of more
bytes_append events more = flat_map-append bytes_in events more

pub bytes_more : (events : List Event) (bytes : List ℕ) → bytes_of (events ++ moved bytes ∷ []) ≡ bytes_of events ++ bytes
bytes_more events bytes = bytes_append events (moved bytes ∷ []) ∙ ap (λ (xs : List ℕ). bytes_of events ++ xs) (append-nil bytes)

pub ends_with : (events : List Event) (last : Event) → EndsWith last (events ++ last ∷ [])
ends_with [] last = refl
ends_with (event ∷ []) last = refl
ends_with (event ∷ next ∷ events) last = ends_with (next ∷ events) last

-- events behind others
pub came_behind : (old between new events more : List Event) → between ≡ old ++ events → new ≡ between ++ more → new ≡ old ++ (events ++ more)
came_behind old between new events more came adds = adds ∙ (ap (λ (xs : List Event). xs ++ more) came ∙ append_assoc old events more)

-- one event more
pub more_came : (old between new events : List Event) (event : Event) → between ≡ old ++ events → Adds event between new → new ≡ old ++ (events ++ event ∷ [])
more_came old between new events event came adds = adds ∙ (ap (λ (xs : List Event). xs ++ event ∷ []) came ∙ append_assoc old events (event ∷ []))

pub given_append : (pieces more : List (List ℕ)) → all_given (pieces ++ more) ≡ all_given pieces ++ all_given more
given_append [] more = refl
given_append (piece ∷ pieces) more = ap (λ (xs : List Event). moved piece ∷ xs) (given_append pieces more)

-- no give of these failed
pub none_failed : (pieces : List (List ℕ)) → failures (all_given pieces) ≡ 0
none_failed [] = refl
none_failed (piece ∷ pieces) = none_failed pieces

-- where a failure stands behind old events, a call failed since
pub failed_since : (old new front : List Event) → new ≡ old ++ (front ++ failed ∷ []) → HasFailed old new
failed_since old new front came = omega (arith, ap failures (since_is old new (front ++ failed ∷ []) came), failures_append front (failed ∷ []))

-- a give that failed
pub gave_failed : (old between new events : List Event) (piece : List ℕ) (n : ℕ) → between ≡ old ++ events → new ≡ between ++ moved (take n piece) ∷ failed ∷ [] → HasFailed old new
gave_failed old between new events piece n came gave = failed_since old new (events ++ moved (take n piece) ∷ [])
    (gave ∙ (ap (λ (xs : List Event). xs ++ moved (take n piece) ∷ failed ∷ []) came
    ∙ (append_assoc old events (moved (take n piece) ∷ failed ∷ []) ∙ ap (λ (xs : List Event). old ++ xs) (sym (append_assoc events (moved (take n piece) ∷ []) (failed ∷ []))))))
