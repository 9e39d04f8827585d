-- What an offer answers.
use Rattle.std.specs.Prelude.{◌≡◌, ℕ, [], ◌∷◌, ◌++◌, length}
use Rattle.gf2_solve.specs.declared.Offered.{Offered}
use Rattle.gf2_solve.specs.declared.Offered.TheVariants.{Taken, Spanned}
use Rattle.gf2_solve.specs.Family.{Family, family}
use Rattle.gf2_solve.specs.Span.{IsSpanned}

-- what an offer answers, and the family that it leaves
abbrev pub IsOffered : Offered → ℕ → ℕ → Family → Family → Type 0
IsOffered Spanned column tag old new = IsSpanned old.columns column × (new ≡ old)
IsOffered (Taken place) column tag old new =
    ¬ (IsSpanned old.columns column)
    × (place ≡ length old.columns)
    × (new ≡ family (old.columns ++ column ∷ []) (old.tags ++ tag ∷ []))
