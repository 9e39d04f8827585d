-- Nine formulas of three bits each, computed.
use Rattle.std.proofs.Common.{ℕ, ◌+◌, ◌*◌, [], ◌∷◌, ◌∙◌, refl}
use Rattle.wom_code.specs.Groups.{chunk_of}
use Rattle.wom_code.proofs.GroupLemmas.{length-chunk_of}
use Rattle.rivest_shamir.proofs.WordForms.{Form, given, masked, either, apart, down, Bit, bit, sum, lifted}
use Rattle.hamming_seven.proofs.ChunkLemmas.{message_as_parity}
use Rattle.hamming_seven.proofs.chunks.decode_chunks.Goals as goal

with_next : ℕ → Form
with_next k = apart (given 0) (down (given 0) k)

sums : ℕ → ℕ → Form
sums k l = apart (with_next k) (down (with_next k) l)

messages : Form
messages =
    either (either (masked (sums 2 4) 72624976668147841) (masked (sums 1 4) 145249953336295682)) (masked (down (sums 1 2) 1) 290499906672591364)

-- each piece, and the one above it moved down to it
joined : Form → ℕ → ℕ → Form
joined f k mask = masked (either f (down f k)) mask

formula : ℕ → ℕ → ℕ → ℕ → ℕ → Bit
formula j a b c d = sum (sum (bit 0 (j * 7 + a)) (bit 0 (j * 7 + b))) (sum (bit 0 (j * 7 + c)) (bit 0 (j * 7 + d)))

fours : Form
fours = joined (joined messages 4 504680252108161087) 8 504404257508691967

pub returns : goal.returns
unfolding chunk_of with_next sums messages joined formula fours
returns c = λ j h.
    lifted (λ v. c.args.cells) (either (joined fours 16 16777215) (masked (down fours 32) 117440512)) 3 9
    (λ i. formula i 0 2 4 6 ∷ formula i 1 2 5 6 ∷ formula i 3 4 5 6 ∷ []) refl j h
    ∙ message_as_parity (chunk_of 7 c.args.cells j) (length-chunk_of 7 c.args.cells j)
