-- A sink that took a part of its pieces failed, and a script in its grammar is not refused.
use Rattle.std.proofs.Common.{◌≡◌, inl, inr, ℕ, List, [], ◌∷◌, ◌++◌, take, get_or, sym, ap, arith, ◌∙◌, append_assoc}
use Rattle.rssd_io.specs.Event.{Event, HasFailed, moved, failed}
use Rattle.rssd_io.specs.Pieces.{all_given, StopsIn}
use Rattle.rssd_io.proofs.Logs.{failed_since}
use Rattle.rssd_script.proofs.Unique.{no_bad}
use Rattle.rssd_run.specs.Statuses.{Call, taken}
use Rattle.rssd_run.specs.Top.{IsRefused, HasScript}

pub stopped : (pieces : List (List ℕ)) (old new : List Event) → StopsIn pieces old new → HasFailed old new
stopped pieces old new (inl at) =
    let given : List Event = all_given (take at.before pieces) in
    let part : List ℕ = take at.n (get_or pieces at.before []) in
    failed_since old new (given ++ moved part ∷ []) (at.log ∙ ap (λ (xs : List Event). old ++ xs) (sym (append_assoc given (moved part ∷ []) (failed ∷ []))))
stopped pieces old new (inr at_end) = failed_since old new (all_given pieces) at_end

-- a run whose pieces were not handed on
pub unflushed : (old given new pieces : List Event) → given ≡ old ++ pieces → new ≡ given ++ failed ∷ [] → HasFailed old new
unflushed old given new pieces came stops = failed_since old new pieces (stops ∙ (ap (λ (xs : List Event). xs ++ failed ∷ []) came ∙ append_assoc old pieces (failed ∷ [])))

pub never_refused : (call : Call) → HasScript call → IsRefused call.script call.out → ⊥
never_refused call script says = elim says [
  | inl long ↦ (let more = long.0 in let short = script.is_script.0 in omega (arith, more, short))
  | inr bad ↦ no_bad (taken call.script) script.lines bad.0 script.is_script.1 bad.2
]
