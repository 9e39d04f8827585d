-- What `parse` and a script reader answer.
use Rattle.std.specs.Prelude.{◌≡◌, ℕ, ◌<◌, ◌≤◌, List, [], ◌++◌, ◌∷◌, length}
use Rattle.std.specs.List.{AllByRecursion}
use Rattle.rssd_script.specs.declared.lines.Line.{Line}
use Rattle.rssd_script.specs.declared.error.ScriptError.{ScriptError}
use Rattle.rssd_script.specs.declared.error.ScriptError.TheVariants.{TooLong, BadLine, OutOfMemory}
use Rattle.rssd_script.specs.Script.{IsScript, IsWithinGrammar, FirstBadLine, Spells, script_text}
use Rattle.rssd_script.specs.Reading.{Lacks}

-- the most bytes of a script
abbrev pub most_bytes : ℕ
most_bytes = 1_048_576

-- an error is given where the text is so
abbrev pub Refuses : List ℕ → ScriptError → Type 0
Refuses text TooLong = most_bytes < length text
Refuses text (BadLine k) = (length text ≤ most_bytes) × FirstBadLine text k
Refuses text OutOfMemory = Unit {0}

-- the lines of the text
abbrev pub Reads : List ℕ → List Line → Type 0
Reads text lines = (length text ≤ most_bytes) × IsScript text lines

-- lines, and less than a line after them
pub record Whole (text : List ℕ) (lines : List Line) (rest : List ℕ) : Type 0 where
  pub within : AllByRecursion IsWithinGrammar lines
  pub is : text ≡ script_text lines ++ rest
  pub no_feed : Lacks 10 rest

-- line k is the first bad one, however the text goes on
abbrev pub Broken : List ℕ → ℕ → Type 0
Broken text k = (more : List ℕ) → FirstBadLine (text ++ more) k

-- one more line, which the text spells
abbrev pub Adds : List Line → List Line → List ℕ → Type 0
Adds old new text = (line : Line) × Spells text line × (new ≡ old ++ line ∷ [])
