-- Pieces that several gives gave, and a give that failed among them.
use Rattle.std.proofs.Common.{◌≡◌, ℕ, ◌+◌, List, [], ◌∷◌, ◌++◌, length, take, get_or, sym, ◌∙◌, ap, arith, Result, Ok, Err, IfErr, append_assoc}
use Rattle.std.proofs.Math.Seq.{take-append-add}
use Rattle.std.proofs.Math.ListN.{get_or-append}
use Rattle.std.proofs.lemmas.List.{length-append, take-append-le, get_or-append-add}
use Rattle.rssd_io.specs.Event.{Event, moved, failed}
use Rattle.rssd_io.specs.Pieces.{all_given, Gives, StopsAt}
use Rattle.rssd_io.proofs.Logs.{given_append}

-- the pieces before those of a second give, and those
pub gives_trans : (old mid new : List Event) (first second : List (List ℕ)) → Gives first old mid → Gives second mid new → Gives (first ++ second) old new
gives_trans old mid new first second f s =
    s ∙ ap (λ (l : List Event). l ++ all_given second) f ∙ append_assoc old (all_given first) (all_given second) ∙ ap (λ (l : List Event). old ++ l) (sym (given_append first second))

-- a give that failed is the same among more pieces
pub stops_front : {old new : List Event} (first second : List (List ℕ)) → StopsAt first old new → StopsAt (first ++ second) old new
stops_front {old} {new} first second s =
    let same : take s.before (first ++ second) ≡ take s.before first = take-append-le s.before first second (omega (arith, s.inside)) in
    let piece : get_or (first ++ second) s.before [] ≡ get_or first s.before [] = get_or-append first second [] s.before s.inside in
    record {
      before = s.before;
      inside = omega (arith, s.inside, length-append first second);
      n = s.n;
      log = s.log ∙ ap (λ (l : List (List ℕ)). old ++ (all_given l ++ moved (take s.n (get_or first s.before [])) ∷ failed ∷ [])) (sym same)
          ∙ ap (λ (l : List ℕ). old ++ (all_given (take s.before (first ++ second)) ++ moved (take s.n l) ∷ failed ∷ [])) (sym piece);
    }

-- and behind pieces that were given
pub stops_behind : {old mid new : List Event} (first second : List (List ℕ)) → Gives first old mid → StopsAt second mid new → StopsAt (first ++ second) old new
stops_behind {old} {mid} {new} first second f s =
    let end : List Event = moved (take s.n (get_or second s.before [])) ∷ failed ∷ [] in
    let pieces : take (length first + s.before) (first ++ second) ≡ first ++ take s.before second = take-append-add first second s.before in
    let piece : get_or (first ++ second) (length first + s.before) [] ≡ get_or second s.before [] = get_or-append-add first second s.before [] in
    record {
      before = length first + s.before;
      inside = omega (arith, s.inside, length-append first second);
      n = s.n;
      log = s.log ∙ ap (λ (l : List Event). l ++ (all_given (take s.before second) ++ end)) f
          ∙ append_assoc old (all_given first) (all_given (take s.before second) ++ end)
          ∙ ap (λ (l : List Event). old ++ l) (sym (append_assoc (all_given first) (all_given (take s.before second)) end))
          ∙ ap (λ (l : List Event). old ++ (l ++ end)) (sym (given_append first (take s.before second)))
          ∙ ap (λ (l : List (List ℕ)). old ++ (all_given l ++ end)) (sym pieces)
          ∙ ap (λ (l : List ℕ). old ++ (all_given (take (length first + s.before) (first ++ second)) ++ moved (take s.n l) ∷ failed ∷ [])) (sym piece);
    }

-- a front of one piece
pub stops_one : (old new : List Event) (piece : List ℕ) (n : ℕ) → new ≡ old ++ moved (take n piece) ∷ failed ∷ [] → StopsAt (piece ∷ []) old new
stops_one old new piece n came = record { before = 0; inside = omega arith; n = n; log = came }

-- ---- results

pub if_err : {T E P : Type 0} (r : Result T E) → P → IfErr r (λ (e : E). P)
if_err (Ok x) holds = tt
if_err (Err e) holds = holds

pub if_err_map : {T E P Q : Type 0} (r : Result T E) → (P → Q) → IfErr r (λ (e : E). P) → IfErr r (λ (e : E). Q)
if_err_map (Ok x) f holds = tt
if_err_map (Err e) f holds = f holds
