-- Four bytes of messages, each by a table, joined.
use Rattle.std.proofs.Common.{◌≡◌, ℕ, zero, suc, ◌+◌, ◌*◌, ◌/◌, ◌%◌, ◌^◌, ◌<◌, Bool, List, [], ◌∷◌, bit_and, bit_or, sym, ◌∙◌, ap, ap₂, refl, arith}
use Rattle.std.specs.Int.{bit_at}
use Rattle.std.proofs.lemmas.Nat.{and_mask}
use Rattle.cell_bits.proofs.PieceLemmas.{piece_bit}
use Rattle.wom_code.specs.Groups.{chunk_of}
use Rattle.wom_code.proofs.GroupLemmas.{same_chunk_of}
use Rattle.rivest_shamir.proofs.WordForms.{Form, given, masked, either, up, bit, value, lifted}

four : ℕ → ℕ → ℕ → ℕ → ℕ → ℕ
four a b c d zero = a
four a b c d (suc zero) = b
four a b c d (suc (suc zero)) = c
four a b c d (suc (suc (suc k))) = d

form : Form
form = either (either (either (masked (given 0) 4095) (up (masked (given 1) 4095) 12)) (up (masked (given 2) 4095) 24)) (up (masked (given 3) 4095) 36)

kept : (a : ℕ) → a < 2 ^ 12 → bit_and a 4095 ≡ a
kept a h = and_mask a 12 ∙ omega arith

joined : (a b c d : ℕ) → a < 2 ^ 12 → b < 2 ^ 12 → c < 2 ^ 12 → d < 2 ^ 12 →
    bit_or (bit_or (bit_or a (b * 2 ^ 12 % 2 ^ 64)) (c * 2 ^ 24 % 2 ^ 64)) (d * 2 ^ 36 % 2 ^ 64) ≡ value (four a b c d) form
unfolding four form
joined a b c d p q r s =
    ap₂ (λ (x y : ℕ). bit_or x (y * 2 ^ 36 % 2 ^ 64))
    (ap₂ (λ (x y : ℕ). bit_or x (y * 2 ^ 24 % 2 ^ 64)) (ap₂ (λ (x y : ℕ). bit_or x (y * 2 ^ 12 % 2 ^ 64)) (sym (kept a p)) (sym (kept b q))) (sym (kept c r)))
    (sym (kept d s))

triple_of : (a b c d t : ℕ) → t < 16 → chunk_of 3 (value (four a b c d) form) t ≡ chunk_of 3 (four a b c d (t / 4)) (t % 4)
unfolding chunk_of form
triple_of a b c d t h = lifted (four a b c d) form 3 16 (λ t. bit (t / 4) (t % 4 * 3 + 0) ∷ bit (t / 4) (t % 4 * 3 + 1) ∷ bit (t / 4) (t % 4 * 3 + 2) ∷ []) refl t h

-- triple j of byte k
abbrev pub IsByte : (List Bool → List Bool) → ℕ → ℕ → ℕ → Type 0
IsByte f messages k word = (j : ℕ) → j < 4 → chunk_of 3 word j ≡ f (chunk_of 2 messages (4 * k + j))

byte_of : (f : List Bool → List Bool) (messages a b c d k : ℕ) → k < 4 → IsByte f messages 0 a → IsByte f messages 1 b → IsByte f messages 2 c → IsByte f messages 3 d →
    IsByte f messages k (four a b c d k)
unfolding four
byte_of f messages a b c d zero h p q r s = p
byte_of f messages a b c d (suc zero) h p q r s = q
byte_of f messages a b c d (suc (suc zero)) h p q r s = r
byte_of f messages a b c d (suc (suc (suc zero))) h p q r s = s
byte_of f messages a b c d (suc (suc (suc (suc k)))) h p q r s = absurd (omega arith)

pub joined_bytes : (f : List Bool → List Bool) (messages a b c d t : ℕ) → t < 16 → IsByte f messages 0 a → IsByte f messages 1 b → IsByte f messages 2 c → IsByte f messages 3 d →
    a < 2 ^ 12 → b < 2 ^ 12 → c < 2 ^ 12 → d < 2 ^ 12 →
    chunk_of 3 (bit_or (bit_or (bit_or a (b * 2 ^ 12 % 2 ^ 64)) (c * 2 ^ 24 % 2 ^ 64)) (d * 2 ^ 36 % 2 ^ 64)) t ≡ f (chunk_of 2 messages t)
joined_bytes f messages a b c d t h p q r s u v w x =
    let whole : 4 * (t / 4) + t % 4 ≡ t = omega arith in
    ap (λ n. chunk_of 3 n t) (joined a b c d u v w x) ∙ triple_of a b c d t h
    ∙ byte_of f messages a b c d (t / 4) (omega arith) p q r s (t % 4) (omega arith) ∙ ap (λ i. f (chunk_of 2 messages i)) whole

-- the messages of byte k of a word
pub messages_of_byte : (messages k first t : ℕ) → first ≡ 8 * k → t < 4 → chunk_of 2 (bit_and (messages / 2 ^ first) 255) t ≡ chunk_of 2 messages (4 * k + t)
messages_of_byte messages k first t e h = same_chunk_of 2 (bit_and (messages / 2 ^ first) 255) messages t (4 * k + t) (λ c l.
    let place : first + (t * 2 + c) ≡ (4 * k + t) * 2 + c = omega arith in
    piece_bit messages first 8 255 refl (t * 2 + c) (omega arith) ∙ ap (bit_at messages) place)
