-- The word is full, has the ones below what is left of the count, or is blank.
use Rattle.std.proofs.Common.{◌≡◌, ℕ, ◌+◌, ◌-◌, ◌*◌, ◌%◌, cond, nat_lt, sym, ◌∙◌, ap, arith}
use Rattle.std.specs.Int.{bit_at}
use Rattle.std.proofs.lemmas.Bool.{lt-ltb}
use Rattle.std.proofs.lemmas.Nat.{one_shl}
use Rattle.std.proofs.lemmas.Nat.Bits.{bit_at_ones}
use Rattle.wom_code.proofs.FrontLemmas.{ones_below}
use Rattle.wom_code.proofs.front.bits_below.Goals as goal

pub returns-then-word-last : goal.returns-then-word-last
returns-then-word-last c = λ i h. bit_at_ones 64 i h ∙ sym (ap (λ t. cond t 1 0) (lt-ltb (64 * c.args.word + i) c.args.count (omega arith)))

pub returns-then-word-last-2 : goal.returns-then-word-last-2
returns-then-word-last-2 c = λ i h.
    let k : ℕ = c.args.count % 64 in
    let whole : 64 * c.args.word + k ≡ c.args.count = omega arith in
    ap (λ x. bit_at (x - 1) i) (one_shl k 64 (omega arith))
    ∙ ones_below k (64 * c.args.word) i (omega arith)
    ∙ ap (λ n. cond (nat_lt (64 * c.args.word + i) n) 1 0) whole
