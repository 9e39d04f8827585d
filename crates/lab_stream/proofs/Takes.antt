-- How a text comes, part by part and piece by piece.
use Rattle.std.proofs.Common.{◌≡◌, inl, inr, ℕ, zero, suc, ◌+◌, ◌<◌, ◌≤◌, Bool, false, None, Some, drop, length-append, List, [], ◌∷◌, ◌++◌, length, refl, ap, sym, ◌∙◌, subst, arith}
use Rattle.std.proofs.Common.{append_assoc, append-nil}
use Rattle.rssd_io.specs.Event.{Event, HasEnded, HasFailed, moved, bytes_of, failures, since}
use Rattle.rssd_io.proofs.Logs.{more_came, failures_append, bytes_more, ends_with}
use Rattle.lab_stream.specs.declared.stream.Stream.{Stream}
use Rattle.lab_stream.specs.Texts.{IsText}
use Rattle.rssd_script.specs.Reading.{Lacks}
use Rattle.lab_stream.specs.Streaming.{ahead_of, MovesPart, TakesPiece, TakesText, TakesNone, EndsInput, HasText}

pub takes_none : {S : Type 0} (log : S → List Event) (now : Stream S) → TakesText log now [] now
takes_none log now = record { events = []; came = sym (append-nil (log now.source)); served = refl; order = append-nil (ahead_of now) }

-- a part more of the text
pub takes_part : {S : Type 0} (log : S → List Event) (old between new : Stream S) (text more : List ℕ) → TakesText log old text between → MovesPart between text new more → TakesText log old more new
takes_part log old between new text more takes moves = record {
  events = takes.events;
  came = ap log moves.source ∙ takes.came;
  served = takes.served;
  order = takes.order ∙ ap (λ (ahead : List ℕ). text ++ ahead) moves.order ∙ sym (append_assoc text moves.part (ahead_of new)) ∙ ap (λ (bytes : List ℕ). bytes ++ ahead_of new) (sym moves.more_is);
}

-- a piece more, where nothing was ahead
pub takes_piece : {S : Type 0} (log : S → List Event) (old between new : Stream S) (text : List ℕ) (some : Bool) → TakesText log old text between → ahead_of between ≡ []
    → TakesPiece log between some new → TakesText log old text new
takes_piece log old between new text some takes none piece = record {
  events = takes.events ++ moved (ahead_of new) ∷ [];
  came = more_came (log old.source) (log between.source) (log new.source) takes.events (moved (ahead_of new)) takes.came piece.came;
  served = failures_append takes.events (moved (ahead_of new) ∷ []) ∙ ap (λ (n : ℕ). n + 0) takes.served;
  order =
      ap (λ (bytes : List ℕ). ahead_of old ++ bytes) (bytes_more takes.events (ahead_of new))
      ∙ sym (append_assoc (ahead_of old) (bytes_of takes.events) (ahead_of new))
      ∙ ap (λ (bytes : List ℕ). bytes ++ ahead_of new) (takes.order ∙ ap (λ (ahead : List ℕ). text ++ ahead) none ∙ append-nil text);
}

-- the last piece was the end of the input
pub at_end : {S : Type 0} (log : S → List Event) (between new : Stream S) → TakesPiece log between false new → HasEnded (log new.source)
at_end log between new piece =
    subst HasEnded (sym piece.came) (subst (λ (bytes : List ℕ). HasEnded (log between.source ++ moved bytes ∷ [])) (sym (piece.has_none refl)) (ends_with (log between.source) (moved [])))

fewer : (k : ℕ) (events : List Event) → failures (drop k events) ≤ failures events
fewer zero events = omega arith
fewer (suc k) [] = omega arith
fewer (suc k) (None ∷ events) = omega (arith, fewer k events)
fewer (suc k) (Some moves ∷ events) = fewer k events

behind : (old events new : List Event) → failures (since (old ++ events) new) ≤ failures (since old new)
behind [] events new = fewer (length events) new
behind (event ∷ old) events [] = omega arith
behind (event ∷ old) events (first ∷ new) = behind old events new

-- where a call failed since later, one failed since earlier
pub failed_later : (old between new events : List Event) → between ≡ old ++ events → HasFailed between new → HasFailed old new
failed_later old between new events came failed =
    let same : failures (since between new) ≡ failures (since (old ++ events) new) = ap (λ (log : List Event). failures (since log new)) came in
    omega (arith, behind old events new, same, failed)

-- a text that is not empty is that of a line, and an empty one stands at the end of the input
pub text_is : {S : Type 0} (log : S → List Event) (old : Stream S) (text : List ℕ) (new : Stream S) → HasText log old text new → 0 < length text → IsText text
text_is log old text new (inl ended) some = inl ended
text_is log old text new (inr ends) some = inr (ends.no_feed, some)

pub none_is : {S : Type 0} (log : S → List Event) (old new : Stream S) (text : List ℕ) → HasText log old text new → TakesText log old text new → text ≡ [] → TakesNone log old new
none_is log old new text (inl ended) takes none = absurd (omega (arith, ap length (sym none ∙ ended.is), length-append ended.front (10 ∷ [])))
none_is log old new text (inr ends) takes none = record { takes = subst (λ (t : List ℕ). TakesText log old t new) none takes; none = ends.none; ended = ends.ended }

-- a text behind which a take found the end of the input
pub ends_input : {S : Type 0} (log : S → List Event) (old between new : Stream S) (text : List ℕ) → TakesText log old text between → Lacks 10 text → TakesPiece log between false new
    → EndsInput log old text new
ends_input log old between new text takes no_feed piece =
    let last : log new.source ≡ log between.source ++ moved [] ∷ [] = subst (λ (bytes : List ℕ). log new.source ≡ log between.source ++ moved bytes ∷ []) (piece.has_none refl) piece.came in
    record {
      no_feed = no_feed;
      none = piece.has_none refl;
      front = takes.events;
      came = more_came (log old.source) (log between.source) (log new.source) takes.events (moved []) takes.came last;
      ended = at_end log between new piece;
    }
