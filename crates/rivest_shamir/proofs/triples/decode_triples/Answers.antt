-- Sixteen formulas of two bits each, computed.
use Rattle.std.proofs.Common.{ℕ, ◌+◌, ◌*◌, [], ◌∷◌, refl}
use Rattle.wom_code.specs.Groups.{chunk_of}
use Rattle.rivest_shamir.proofs.WordForms.{Form, given, masked, either, apart, up, down, bit, sum, lifted}
use Rattle.rivest_shamir.proofs.triples.decode_triples.Goals as goal

-- half of the pieces stay, and the others go down
joined : Form → ℕ → ℕ → ℕ → Form
joined f low high k = either (masked f low) (masked (down f k) high)

pairs : Form
pairs =
    either (masked (apart (down (given 0) 1) (down (given 0) 2)) 40210710958665) (up (masked (apart (given 0) (down (given 0) 2)) 40210710958665) 1)

pub returns : goal.returns
unfolding chunk_of joined pairs
returns c =
    lifted (λ v. c.args.cells)
    (joined (joined (joined (joined pairs 13403570319555 53614281278220 1) 1031043870735 16496701931760 2) 4278190335 1095216725760 4) 65535 4294901760 8) 2 16
    (λ t. sum (bit 0 (t * 3 + 1)) (bit 0 (t * 3 + 2)) ∷ sum (bit 0 (t * 3 + 0)) (bit 0 (t * 3 + 2)) ∷ []) refl
