-- Sixteen formulas of three bits each, computed.
use Rattle.std.proofs.Common.{ℕ, ◌+◌, ◌*◌, [], ◌∷◌, refl}
use Rattle.wom_code.specs.Groups.{chunk_of}
use Rattle.rivest_shamir.proofs.WordForms.{Form, given, masked, either, apart, up, down, Bit, bit, or, sum, lifted}
use Rattle.rivest_shamir.proofs.triples.others.Goals as goal

first : Form
first = masked (either (either (given 0) (down (given 0) 1)) (down (given 0) 2)) 40210710958665

formula : ℕ → ℕ → Bit
formula t c = sum (or (or (bit 0 (t * 3 + 0)) (bit 0 (t * 3 + 1))) (bit 0 (t * 3 + 2))) (bit 0 (t * 3 + c))

pub returns : goal.returns
unfolding chunk_of first formula
returns c = lifted (λ v. c.args.cells) (apart (either (either first (up first 1)) (up first 2)) (given 0)) 3 16 (λ t. formula t 0 ∷ formula t 1 ∷ formula t 2 ∷ []) refl
