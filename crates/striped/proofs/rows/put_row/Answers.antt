-- One more piece of a word: its bits are put, and no other cell changes.
use Rattle.std.proofs.Common.{◌≡◌, ℕ, List, ◌<◌, ◌+◌, ◌-◌, ◌∙◌, ap, inl, inr, arith}
use Rattle.std.proofs.lemmas.Bool.{cases_lt}
use Rattle.cell_bits.specs.Cells.{charge_at}
use Rattle.cell_bits.proofs.PieceLemmas.{masked_narrow}
use Rattle.wom_code.specs.Packed.{word_bit}
use Rattle.striped.proofs.RowSteps.{word_piece}
use Rattle.striped.proofs.rows.put_row.Goals as goal

put_more : (old new words : List ℕ) (at start done more : ℕ) →
    ((i : ℕ) → i < more → charge_at new (at + done + i) ≡ word_bit words (start + done + i)) →
    ((c : ℕ) → c < at + done → charge_at new c ≡ charge_at old c) →
    ((i : ℕ) → i < done → charge_at old (at + i) ≡ word_bit words (start + i)) →
    (i : ℕ) → i < done + more → charge_at new (at + i) ≡ word_bit words (start + i)
put_more old new words at start done more here below before i h =
    elim (cases_lt i done) [
      | inl l ↦ below (at + i) (omega arith) ∙ before i l
      | inr m ↦
          let p : start + done + (i - done) ≡ start + i = omega arith in
          let q : at + i ≡ at + done + (i - done) = omega arith in
          ap (charge_at new) q ∙ here (i - done) (omega arith) ∙ ap (word_bit words) p
    ]

pub put_bits-requires-clause-narrow : goal.put_bits-requires-clause-narrow
put_bits-requires-clause-narrow c = masked_narrow _ c.min-more.result c.ones.result c.ones.ensures

pub loop-done-preserved : goal.loop-done-preserved
loop-done-preserved c =
    record {
      within = omega arith;
      put = put_more c.loop-done.bytes c.put_bits.new.row c.args.words.now c.args.at c.args.start c.loop-done.done c.min-more.result
          (λ i h. c.put_bits.ensures.bits i h ∙ word_piece c.args.words.now (c.args.start + c.loop-done.done) c.min-more.result c.ones.result c.ones.ensures (omega arith) i h)
          c.put_bits.ensures.below c.loop-done.invariant.put;
      below = λ n h. c.put_bits.ensures.below n (omega arith) ∙ c.loop-done.invariant.below n h;
      above = λ n h. c.put_bits.ensures.above n (omega arith) ∙ c.loop-done.invariant.above n (omega arith);
    }
