-- Each coordinate that was written is masked.
use Rattle.std.proofs.Common.{◌≡◌, ℕ, List, ◌<◌, length, get_or, bit_and, inl, inr, sym, ◌∙◌, ap, arith}
use Rattle.std.proofs.lemmas.Bool.{cases_lt}
use Rattle.std.proofs.lemmas.List.{get_or_past}
use Rattle.coset_code.specs.Coordinates.{IsMasked}
use Rattle.coset_code.proofs.ChangeOfBasis.{and_zero}
use Rattle.coset_code.proofs.coordinates.mask_all.Goals as goal

masked_of : (coords masked : List ℕ) (mask : ℕ) → length masked ≡ length coords → ((k : ℕ) → k < length coords → get_or masked k 0 ≡ bit_and (get_or coords k 0) mask) → IsMasked coords mask masked
masked_of coords masked mask len h = record {
  masked_len = len;
  masks = λ k. elim (cases_lt k (length coords)) [
    | inl l ↦ h k l
    | inr m ↦ get_or_past masked k 0 (omega arith) ∙ sym (ap (λ x. bit_and x mask) (get_or_past coords k 0 m) ∙ and_zero mask)
  ];
}

pub returns : goal.returns
returns c = masked_of c.args.coords.now c.loop-cell.masked c.args.mask (omega (arith, c.loop-cell.auto.masked, c.requires)) (λ k h. c.loop-cell.invariant k (omega arith))
