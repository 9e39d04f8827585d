-- The first four bytes, and the two after them.
use Rattle.std.proofs.Common.{◌≡◌, ◌+◌, ◌-◌, ◌*◌, ◌∙◌, ap, inl, inr, arith}
use Rattle.std.specs.Int.{bit_at}
use Rattle.std.proofs.lemmas.Bool.{cases_lt}
use Rattle.cell_bits.specs.Cells.{charge_at}
use Rattle.cell_bits.proofs.PieceLemmas.{bit_at_shr}
use Rattle.striped.proofs.bytes.put_six.Goals as goal

pub returns-clause-bits : goal.returns-clause-bits
returns-clause-bits c = λ i h. elim (cases_lt i 32) [
  | inl l ↦ c.put_two.ensures.below (8 * c.args.start + i) (omega arith) ∙ c.put_four.ensures.bits i l
  | inr m ↦
      let place : 8 * c.args.start + i ≡ 8 * (c.args.start + 4) + (i - 32) = omega arith in
      let back : 32 + (i - 32) ≡ i = omega arith in
      ap (charge_at c.put_two.new.row) place ∙ c.put_two.ensures.bits (i - 32) (omega arith) ∙ bit_at_shr c.args.word 32 (i - 32) ∙ ap (bit_at c.args.word) back
]

pub returns-clause-below : goal.returns-clause-below
returns-clause-below c = λ n h. c.put_two.ensures.below n (omega arith) ∙ c.put_four.ensures.below n h

pub returns-clause-above : goal.returns-clause-above
returns-clause-above c = λ n h. c.put_two.ensures.above n (omega arith) ∙ c.put_four.ensures.above n (omega arith)
