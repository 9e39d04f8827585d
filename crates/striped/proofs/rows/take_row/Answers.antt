-- One more piece of a word: it is joined above the bits taken so far.
use Rattle.std.proofs.Common.{◌≡◌, ℕ, List, ◌<◌, ◌+◌, ◌-◌, sym, ◌∙◌, ap, inl, inr, arith}
use Rattle.std.specs.Int.{bit_at}
use Rattle.std.proofs.lemmas.Bool.{cases_lt}
use Rattle.cell_bits.specs.Cells.{charge_at}
use Rattle.wom_code.specs.Packed.{word_bit}
use Rattle.striped.proofs.RowSteps.{IsNext, joined, joined_below, joined_here, joined_above}
use Rattle.striped.proofs.rows.take_row.Goals as goal

taken_more : (bytes words : List ℕ) (at start done more bits : ℕ) → IsNext words (start + done) more bits →
    ((i : ℕ) → i < more → bit_at bits i ≡ charge_at bytes (at + done + i)) →
    ((i : ℕ) → i < done → word_bit words (start + i) ≡ charge_at bytes (at + i)) →
    (i : ℕ) → i < done + more → word_bit (joined words (start + done) bits) (start + i) ≡ charge_at bytes (at + i)
taken_more bytes words at start done more bits n here before i h =
    elim (cases_lt i done) [
      | inl l ↦ joined_below words (start + done) more bits n (start + i) (omega arith) ∙ before i l
      | inr m ↦
          let p : start + done + (i - done) ≡ start + i = omega arith in
          let q : at + done + (i - done) ≡ at + i = omega arith in
          ap (word_bit (joined words (start + done) bits)) (sym p) ∙ joined_here words (start + done) more bits n (i - done) (omega arith)
          ∙ here (i - done) (omega arith) ∙ ap (charge_at bytes) q
    ]

pub loop-done-preserved : goal.loop-done-preserved
loop-done-preserved c =
    let n : IsNext c.loop-done.words (c.args.start + c.loop-done.done) c.min-more.result c.take_bits.result = record {
      room = omega arith;
      fits = omega arith;
      narrow = c.take_bits.ensures.narrow;
      blank = c.loop-done.invariant.above;
    } in
    record {
      within = omega arith;
      taken = taken_more c.args.bytes.now c.loop-done.words c.args.at c.args.start c.loop-done.done c.min-more.result c.take_bits.result n c.take_bits.ensures.bits c.loop-done.invariant.taken;
      below = λ i h. joined_below c.loop-done.words (c.args.start + c.loop-done.done) c.min-more.result c.take_bits.result n i (omega arith) ∙ c.loop-done.invariant.below i h;
      above = λ i h. joined_above c.loop-done.words (c.args.start + c.loop-done.done) c.min-more.result c.take_bits.result n i (omega arith);
    }
