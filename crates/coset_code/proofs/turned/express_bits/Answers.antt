-- One bit after the other.
use Rattle.std.proofs.Common.{◌≡◌, ℕ, ◌+◌, ◌<◌, ◌^◌, List, length, get_or, set, ap, ◌∙◌, subst, sym, inl, inr, arith}
use Rattle.std.proofs.lemmas.Bool.{cases_lt}
use Rattle.std.proofs.lemmas.List.{get_or-set_same, get_or-set_other}
use Rattle.std.proofs.lemmas.Nat.{one_shl}
use Rattle.gf2_solve.specs.Span.{subset_sum}
use Rattle.coset_code.proofs.turned.express_bits.Goals as goal

more : (units vectors : List ℕ) (n x : ℕ) → ((b : ℕ) → b < n → subset_sum (get_or units b 0) vectors ≡ 2 ^ b) → n < length units → subset_sum x vectors ≡ 2 ^ n →
    (b : ℕ) → b < n + 1 → subset_sum (get_or (set units n x) b 0) vectors ≡ 2 ^ b
more units vectors n x h l e b below = elim (cases_lt b n) [
  | inl i ↦ ap (λ y. subset_sum y vectors) (get_or-set_other units n b x 0 (λ same. omega arith)) ∙ h b i
  | inr i ↦
      let same : b ≡ n = omega arith in
      subst (λ m. subset_sum (get_or (set units n x) m 0) vectors ≡ 2 ^ m) (sym same) (ap (λ y. subset_sum y vectors) (get_or-set_same units n x 0 l) ∙ e)
]

pub loop-place-preserved : goal.loop-place-preserved
loop-place-preserved c =
    more c.loop-place.units c.args.full.now.columns c.loop-place.place c.in-Some.set c.loop-place.invariant (omega arith) (c.in-Some.ensures.found ∙ one_shl c.loop-place.place 128 (omega arith))
