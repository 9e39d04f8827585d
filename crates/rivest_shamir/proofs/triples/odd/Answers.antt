-- Sixteen formulas, computed.
use Rattle.std.proofs.Common.{ℕ, ◌+◌, ◌*◌, [], ◌∷◌, refl}
use Rattle.wom_code.specs.Groups.{chunk_of}
use Rattle.rivest_shamir.proofs.WordForms.{Form, given, masked, either, apart, up, down, Bit, bit, sum, lifted}
use Rattle.rivest_shamir.proofs.triples.odd.Goals as goal

first : Form
first = masked (apart (apart (given 0) (down (given 0) 1)) (down (given 0) 2)) 40210710958665

formula : ℕ → Bit
formula t = sum (sum (bit 0 (t * 3 + 0)) (bit 0 (t * 3 + 1))) (bit 0 (t * 3 + 2))

pub returns : goal.returns
unfolding chunk_of first formula
returns c = lifted (λ v. c.args.cells) (either (either first (up first 1)) (up first 2)) 3 16 (λ t. formula t ∷ formula t ∷ formula t ∷ []) refl
