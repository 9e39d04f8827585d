-- Pieces that were given, and then what waited was handed on, or was not.
use Rattle.std.proofs.Common.{◌≡◌, ℕ, List, [], ◌∷◌, ◌++◌, take, Result, Ok, Err, inl, inr, ap, ◌∙◌, arith, append_assoc}
use Rattle.std.specs.Prelude.{OnOk, OnErr}
use Rattle.rssd_io.specs.Event.{Event, Flushed, moved, flushed, failed}
use Rattle.rssd_io.specs.Pieces.{all_given, Gives, HandsOn, StopsIn}

-- an event behind the pieces
pub behind : (old between new : List Event) (pieces : List (List ℕ)) (last : Event) → Gives pieces old between → new ≡ between ++ last ∷ [] → new ≡ old ++ (all_given pieces ++ last ∷ [])
behind old between new pieces last gave came = came ∙ (ap (λ (xs : List Event). xs ++ last ∷ []) gave ∙ append_assoc old (all_given pieces) (last ∷ []))

pub flush_done : {E : Type 0} (result : Result (Unit {0}) E) (old between new : List Event) (pieces : List (List ℕ)) → Gives pieces old between → Flushed result between new
    → OnOk result (HandsOn pieces old new)
flush_done (Ok x) old between new pieces gave flushes = behind old between new pieces flushed gave flushes
flush_done (Err e) old between new pieces gave flushes = tt

pub flush_front : {E : Type 0} (result : Result (Unit {0}) E) (old between new : List Event) (pieces : List (List ℕ)) → Gives pieces old between → Flushed result between new
    → OnErr result (StopsIn pieces old new)
flush_front (Ok x) old between new pieces gave flushes = tt
flush_front (Err e) old between new pieces gave flushes = inr (behind old between new pieces failed gave flushes)

-- one piece alone, of which a front was given
pub stops_one : (old new : List Event) (piece : List ℕ) (n : ℕ) → new ≡ old ++ moved (take n piece) ∷ failed ∷ [] → StopsIn (piece ∷ []) old new
stops_one old new piece n came = inl (record { before = 0; inside = omega arith; n = n; log = came })

pub on_err : {T E : Type 0} (result : Result T E) (P : Type 0) → P → OnErr result P
on_err (Ok x) P holds = tt
on_err (Err e) P holds = holds
