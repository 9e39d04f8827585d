-- One more page: its part of the chunk is put, and all else of the bytes stays.
use Rattle.std.proofs.Common.{◌≡◌, ℕ, List, ◌<◌, ◌≤◌, ◌+◌, ◌-◌, ◌*◌, ◌/◌, ◌%◌, ◌⊎◌, ◌∙◌, ap, ap₂, inl, inr, arith}
use Rattle.std.proofs.lemmas.Bool.{cases_lt}
use Rattle.std.proofs.lemmas.Nat.{mod_below, div_below}
use Rattle.cell_bits.specs.Cells.{charge_at}
use Rattle.wom_code.specs.Packed.{word_bit}
use Rattle.striped.proofs.RowSteps.{on_page, page_order, rows}
use Rattle.striped.proofs.rows.put_chunk.Goals as goal

put_more : (words old new : List ℕ) (page_bytes page first cells : ℕ) → 0 < cells → first + cells ≤ 8 * page_bytes →
    ((i : ℕ) → i < cells → charge_at new (8 * page_bytes * page + first + i) ≡ word_bit words (page * cells + i)) →
    ((c : ℕ) → c < 8 * page_bytes * page + first → charge_at new c ≡ charge_at old c) →
    ((c : ℕ) → c < page * cells → charge_at old (8 * page_bytes * (c / cells) + first + c % cells) ≡ word_bit words c) →
    (c : ℕ) → c < page * cells + cells → charge_at new (8 * page_bytes * (c / cells) + first + c % cells) ≡ word_bit words c
put_more words old new page_bytes page first cells some within here below before c h =
    elim (cases_lt c (page * cells)) [
      | inl l ↦
          let earlier : c / cells < page = div_below c cells page some l in
          let inner : c % cells < cells = mod_below c cells some in
          let up : 8 * page_bytes * (c / cells) + 8 * page_bytes ≤ 8 * page_bytes * page = rows (8 * page_bytes) (c / cells) page earlier in
          below (8 * page_bytes * (c / cells) + first + c % cells) (omega arith) ∙ before c l
      | inr m ↦
          let p : page * cells + (c - page * cells) ≡ c = omega arith in
          let on = on_page cells page c m h in
          ap₂ (λ (q r : ℕ). charge_at new (8 * page_bytes * q + first + r)) on.0 on.1
          ∙ here (c - page * cells) (omega arith) ∙ ap (word_bit words) p
    ]

others_more : (start old new : List ℕ) (size page first cells : ℕ) → first + cells ≤ size →
    ((c : ℕ) → c < size * page + first → charge_at new c ≡ charge_at old c) →
    ((c : ℕ) → size * page + first + cells ≤ c → charge_at new c ≡ charge_at old c) →
    ((p c : ℕ) → c < size → (c < first) ⊎ (first + cells ≤ c) → charge_at old (size * p + c) ≡ charge_at start (size * p + c)) →
    (p c : ℕ) → c < size → (c < first) ⊎ (first + cells ≤ c) → charge_at new (size * p + c) ≡ charge_at start (size * p + c)
others_more start old new size page first cells within below above before p c h s =
    elim (page_order p page size c first cells h within s) [
      | inl l ↦ below (size * p + c) l ∙ before p c h s
      | inr m ↦ above (size * p + c) m ∙ before p c h s
    ]

pub loop-page-preserved : goal.loop-page-preserved
loop-page-preserved c =
    record {
      put = λ n h. put_more c.args.words.now c.loop-page.bytes c.put_row.new.bytes c.args.page_bytes c.loop-page.page c.args.first c.args.cells c.requires.some c.requires.within
          c.put_row.ensures.put c.put_row.ensures.below c.loop-page.invariant.put n (omega arith);
      others = others_more c.args.bytes.now c.loop-page.bytes c.put_row.new.bytes (8 * c.args.page_bytes) c.loop-page.page c.args.first c.args.cells c.requires.within
          c.put_row.ensures.below c.put_row.ensures.above c.loop-page.invariant.others;
    }
