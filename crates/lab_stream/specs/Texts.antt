-- The text of one line.
use Rattle.std.specs.Prelude.{◌≡◌, ◌⊎◌, ℕ, ◌<◌, List, [], ◌∷◌, ◌++◌, length}
use Rattle.rssd_script.specs.declared.lines.Line.{Line}
use Rattle.rssd_script.specs.Reading.{Lacks}
use Rattle.rssd_script.specs.Scripts.{Reads}

-- it has one line feed, at its end
pub record IsEnded (text : List ℕ) : Type 0 where
  pub front : List ℕ
  pub no_feed : Lacks 10 front
  pub is : text ≡ front ++ 10 ∷ []

-- it has no line feed before its end, and is not empty
abbrev pub IsText : List ℕ → Type 0
IsText text = IsEnded text ⊎ (Lacks 10 text × (0 < length text))

-- it spells no line
abbrev pub ReadsNone : List ℕ → Type 0
ReadsNone text = (line : Line) → Reads text (line ∷ []) → ⊥
