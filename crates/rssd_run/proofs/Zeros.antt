-- Of zeros alone nothing stays.
use Rattle.std.proofs.Common.{◌≡◌, ℕ, List, [], ◌∷◌, true, refl}
use Rattle.std.proofs.lemmas.Bool.{and_parts}
use Rattle.std.specs.Prelude.{◌==◌}
use Rattle.cell_bits.specs.Cells.{is_blank}
use Rattle.rssd_core.specs.SectorArray.{without_zeros}

pub zeros_alone : (zeros : List ℕ) → is_blank zeros ≡ true → without_zeros zeros ≡ []
zeros_alone [] blank = refl
zeros_alone (byte ∷ bytes) blank = let parts = and_parts (byte == 0) (is_blank bytes) blank in rw (zeros_alone bytes parts.1, parts.0) refl
