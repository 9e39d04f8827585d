-- Lines that came one after another.
use Rattle.std.specs.Prelude.{◌≡◌, List, [], ◌∷◌}
use Rattle.rssd_script.specs.declared.lines.Line.{Line}

-- these lines came, in order, from the one state to the other
unfoldable pub AllGiven : {S : Type 0} → (S → Line → S → Type 0) → S → List Line → S → Type 0
AllGiven gives old [] new = new ≡ old
AllGiven {S} gives old (line ∷ lines) new = (between : S) × gives old line between × AllGiven gives between lines new
