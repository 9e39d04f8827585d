-- Past the sector's end the number has no bits, and no cell is charged.
use Rattle.std.proofs.Common.{◌+◌, ◌∙◌, sym, inl, inr, arith}
use Rattle.std.proofs.lemmas.Bool.{cases_lt}
use Rattle.std.proofs.lemmas.Nat.Bits.{bit_at_above}
use Rattle.striped.proofs.RowSteps.{charge_at-past}
use Rattle.striped.proofs.groups.take_messages.Goals as goal

pub returns : goal.returns
returns c = λ i h. elim (cases_lt i c.args.here) [
  | inl l ↦ c.take_cells.ensures.bits i l
  | inr m ↦ bit_at_above c.take_cells.result c.args.here i c.take_cells.ensures.narrow m ∙ sym (charge_at-past c.args.sector.now (c.args.first + i) (let e = c.requires.here in omega arith))
]
