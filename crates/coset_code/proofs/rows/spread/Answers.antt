-- A mask of ones keeps a word, and no mask keeps nothing.
use Rattle.std.proofs.Common.{◌≡◌, ℕ, ◌*◌, ◌-◌, ◌^◌, ◌<◌, bit_and, sym, ◌∙◌, ap, arith}
use Rattle.std.specs.Int.{bit_at}
use Rattle.std.proofs.lemmas.Nat.{and_mask, and_comm}
use Rattle.std.proofs.lemmas.Nat.Bits.{shr_and_one, bit_at-lt}
use Rattle.coset_code.proofs.ChangeOfBasis.{and_zero}
use Rattle.coset_code.proofs.rows.spread.Goals as goal

whole : (row bit : ℕ) → row < 2 ^ 64 → bit ≡ 1 → bit_and row (2 ^ 64 - 1) ≡ bit * row
whole row bit h e = and_mask row 64 ∙ omega (arith) ∙ ap (λ b. b * row) (sym e)

nothing : (row bit : ℕ) → bit ≡ 0 → bit_and row 0 ≡ bit * row
nothing row bit e = let z : 0 ≡ 0 * row = omega arith in and_comm row 0 ∙ and_zero row ∙ z ∙ ap (λ b. b * row) (sym e)

pub returns-then-word-place-eq1 : goal.returns-then-word-place-eq1
returns-then-word-place-eq1 c = λ row h. whole row _ h (sym (shr_and_one c.args.word c.args.place) ∙ c.if-word-place-eq1.true)

pub returns-else-word-place-eq1 : goal.returns-else-word-place-eq1
returns-else-word-place-eq1 c =
    let e : bit_and _ 1 ≡ bit_at c.args.word c.args.place = shr_and_one c.args.word c.args.place in
    λ row h. nothing row _ (omega (arith, bit_at-lt c.args.word c.args.place, e, c.if-word-place-eq1.false))
