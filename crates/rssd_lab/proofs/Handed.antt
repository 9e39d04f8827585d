-- Pieces that were handed on, one after another.
use Rattle.std.proofs.Common.{◌≡◌, ℕ, List, [], ◌∷◌, ◌++◌, ap, sym, ◌∙◌, append_assoc}
use Rattle.std.proofs.lemmas.List.Concat.{flat_map-append}
use Rattle.rssd_io.specs.Event.{Event, moved, flushed}
use Rattle.rssd_lab.specs.Runs.{handed}

pub handed_append : (pieces more : List (List ℕ)) → handed (pieces ++ more) ≡ handed pieces ++ handed more
handed_append pieces more = flat_map-append (λ (piece : List ℕ). moved piece ∷ flushed ∷ []) pieces more

-- pieces that were handed on behind others
pub handed_behind : (old between new : List Event) (pieces more : List (List ℕ)) → between ≡ old ++ handed pieces → new ≡ between ++ handed more → new ≡ old ++ handed (pieces ++ more)
handed_behind old between new pieces more first second =
    second ∙ ap (λ (log : List Event). log ++ handed more) first ∙ append_assoc old (handed pieces) (handed more) ∙ ap (λ (log : List Event). old ++ log) (sym (handed_append pieces more))
