-- One more page: its part of the chunk is taken after those of the earlier pages.
use Rattle.std.proofs.Common.{◌≡◌, ℕ, List, ◌<◌, ◌+◌, ◌-◌, ◌*◌, ◌/◌, ◌%◌, sym, ◌∙◌, ap, ap₂, inl, inr, arith}
use Rattle.std.proofs.lemmas.Bool.{cases_lt}
use Rattle.cell_bits.specs.Cells.{charge_at}
use Rattle.wom_code.specs.Packed.{word_bit}
use Rattle.striped.proofs.RowSteps.{on_page}
use Rattle.striped.proofs.rows.take_chunk.Goals as goal

taken_more : (bytes old new : List ℕ) (page_bytes page first cells : ℕ) →
    ((i : ℕ) → i < cells → word_bit new (page * cells + i) ≡ charge_at bytes (8 * page_bytes * page + first + i)) →
    ((i : ℕ) → i < page * cells → word_bit new i ≡ word_bit old i) →
    ((c : ℕ) → c < page * cells → word_bit old c ≡ charge_at bytes (8 * page_bytes * (c / cells) + first + c % cells)) →
    (c : ℕ) → c < page * cells + cells → word_bit new c ≡ charge_at bytes (8 * page_bytes * (c / cells) + first + c % cells)
taken_more bytes old new page_bytes page first cells here below before c h =
    elim (cases_lt c (page * cells)) [
      | inl l ↦ below c l ∙ before c l
      | inr m ↦
          let p : c ≡ page * cells + (c - page * cells) = omega arith in
          let on = on_page cells page c m h in
          ap (word_bit new) p ∙ here (c - page * cells) (omega arith)
          ∙ ap₂ (λ (q r : ℕ). charge_at bytes (8 * page_bytes * q + first + r)) (sym on.0) (sym on.1)
    ]

pub loop-page-preserved : goal.loop-page-preserved
loop-page-preserved c =
    record {
      taken = λ n h. taken_more c.args.bytes.now c.loop-page.words c.take_row.new.words c.args.page_bytes c.loop-page.page c.args.first c.args.cells
          c.take_row.ensures.taken c.take_row.ensures.below c.loop-page.invariant.taken n (omega arith);
      above = λ n h. c.take_row.ensures.above n (omega arith);
    }
