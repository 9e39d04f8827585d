-- One record more is told.
use Rattle.std.proofs.Common.{◌≡◌, ℕ, ◌+◌, ◌<◌, List, [], ◌∷◌, ◌++◌, map, take, length, get_or, sym, ap, ap₂, ◌∙◌}
use Rattle.std.proofs.lemmas.List.{map-append, take_more}
use Rattle.striped.specs.Meaning.{Decoding}
use Rattle.page_codec.specs.Geometry.{Geometry}
use Rattle.image_audit.specs.declared.mark.Mark.{Mark}
use Rattle.image_audit.specs.declared.row.Held.{Held}
use Rattle.image_audit.specs.Said.{told_of, told_by}

pub told_more : (g : Geometry) (d : Decoding) (cells : List (List ℕ)) (live : List Mark) (i : ℕ) (e : Mark) (old new : List Held) (held : Held)
    → i < length live → told_of held ≡ told_by g d cells (get_or live i e) → new ≡ old ++ held ∷ []
    → map told_of old ≡ map (told_by g d cells) (take i live) → map told_of new ≡ map (told_by g d cells) (take (i + 1) live)
told_more g d cells live i e old new held within same pushed told =
    ap (map told_of) pushed
    ∙ (map-append told_of old (held ∷ [])
    ∙ (ap₂ (λ (xs : List (ℕ × List ℕ)) (x : ℕ × List ℕ). xs ++ x ∷ []) told same
    ∙ (sym (map-append (told_by g d cells) (take i live) (get_or live i e ∷ [])) ∙ ap (map (told_by g d cells)) (sym (take_more live i e within)))))
