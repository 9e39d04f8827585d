-- What the making of a code answers.
use Rattle.std.specs.Prelude.{◌≡◌, ℕ, List, Result, Ok, Err}
use Rattle.coset_code.specs.declared.coset.CosetRefusal.{CosetRefusal}
use Rattle.coset_code.specs.declared.coset.CosetRefusal.TheVariants.{OutOfMemory, Shape}
use Rattle.coset_code.specs.Code.{IsShape}

-- a code of these columns, or why there is none: it is their shape exactly where they have not the one that is asked
abbrev pub IsMade : ℕ → ℕ → List ℕ → Result (List ℕ) CosetRefusal → Type 0
IsMade k n columns (Ok code) = (code ≡ columns) × IsShape k n columns
IsMade k n columns (Err OutOfMemory) = IsShape k n columns
IsMade k n columns (Err Shape) = ¬ (IsShape k n columns)
