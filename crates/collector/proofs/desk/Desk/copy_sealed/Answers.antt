-- The copies are made, the seal is charged, and map and book are settled.
use Rattle.std.proofs.Common.{inl, inr, ◌*◌, ◌<◌, ℕ, sym, ap, ◌∙◌, subst, arith}
use Rattle.std.proofs.lemmas.List.{length-take-le}
use Rattle.cell_die.specs.declared.shape.Shape.{Shape}
use Rattle.cell_die.specs.DieState.{page_count}
use Rattle.cell_die.proofs.Sequences.{kept_trans}
use Rattle.collector.proofs.SealSteps.{copies_are, copies_within, book_pages, first_there, spare_now, none_live, none_active_now, sectors_in, holds_sealed, collected_so}
use Rattle.collector.proofs.SealSteps.{holds_unsealed, seal_failed, seal_failed_charged}
use Rattle.collector.proofs.desk.Desk.copy_sealed.Goals as goal

pub charge_seal-requires-clause-page : goal.charge_seal-requires-clause-page
charge_seal-requires-clause-page g c =
    let meaning = g.C.Scheme.meaning c.args.self.now.scheme.now in
    subst (λ (s : Shape). c.args.spare * c.pages.result < page_count s) (sym c.copy_block.ensures.stays.kept.shape)
    (subst (λ (k : ℕ). c.args.spare * k < page_count (g.D.Die.state c.args.self.now.die.now).shape)
    (sym (c.pages.ensures.value ∙ book_pages meaning c.requires.begun c.in-Ok.ensures.ends)) (first_there meaning c.requires.begun c.in-Ok.ensures.ends))

pub slice_bounds-settle-end : goal.slice_bounds-settle-end
slice_bounds-settle-end g c =
    let meaning = g.C.Scheme.meaning c.args.self.now.scheme.now in
    copies_within meaning c.requires.begun c.in-Ok.ensures.ends c.requires.room c.copy_block.auto.moves

pub slice_bounds-settle-end-in-Ok-charge_seal : goal.slice_bounds-settle-end-in-Ok-charge_seal
slice_bounds-settle-end-in-Ok-charge_seal g c =
    let meaning = g.C.Scheme.meaning c.args.self.now.scheme.now in
    let within = copies_within meaning c.requires.begun c.in-Ok.ensures.ends c.requires.room c.copy_block.auto.moves in
    sym (length-take-le c.in-Ok.copies c.copy_block.new.moves within)

pub settle-requires-clause-is_spare : goal.settle-requires-clause-is_spare
settle-requires-clause-is_spare g c =
    let meaning = g.C.Scheme.meaning c.args.self.now.scheme.now in
    spare_now meaning c.requires.begun c.in-Ok.ensures.ends

pub settle-requires-clause-none_live : goal.settle-requires-clause-none_live
settle-requires-clause-none_live g c =
    let meaning = g.C.Scheme.meaning c.args.self.now.scheme.now in
    none_live meaning c.requires.begun c.in-Ok.ensures.ends

pub settle-requires-clause-none_active : goal.settle-requires-clause-none_active
settle-requires-clause-none_active g c =
    let meaning = g.C.Scheme.meaning c.args.self.now.scheme.now in
    none_active_now meaning c.requires.begun c.in-Ok.ensures.ends

pub settle-requires-clause-few : goal.settle-requires-clause-few
settle-requires-clause-few g c =
    let meaning = g.C.Scheme.meaning c.args.self.now.scheme.now in
    let within = copies_within meaning c.requires.begun c.in-Ok.ensures.ends c.requires.room c.copy_block.auto.moves in
    let long = length-take-le c.in-Ok.copies c.copy_block.new.moves within in
    omega (arith, long, copies_are meaning c.requires.begun c.in-Ok.ensures.ends, c.requires.begun.few, book_pages meaning c.requires.begun c.in-Ok.ensures.ends)

pub settle-requires-clause-sectors : goal.settle-requires-clause-sectors
settle-requires-clause-sectors g c i h =
    let meaning = g.C.Scheme.meaning c.args.self.now.scheme.now in
    let within = copies_within meaning c.requires.begun c.in-Ok.ensures.ends c.requires.room c.copy_block.auto.moves in
    let long = length-take-le c.in-Ok.copies c.copy_block.new.moves within in
    sectors_in meaning c.requires.begun c.in-Ok.ensures.ends i (omega (arith, h, long))

pub returns-in-Ok-charge_seal-clause-holds : goal.returns-in-Ok-charge_seal-clause-holds
returns-in-Ok-charge_seal-clause-holds g c =
    let meaning = g.C.Scheme.meaning c.args.self.now.scheme.now in
    let first = ap (λ (k : ℕ). c.args.spare * k) (c.pages.ensures.value ∙ book_pages meaning c.requires.begun c.in-Ok.ensures.ends) in
    let shaped = g.met.D.Die.shaped c.copy_block.new.self.die.now in
    holds_sealed meaning c.requires.begun c.in-Ok.ensures.ends shaped first
    c.charge_seal.ensures.only_page c.in-Ok-charge_seal.ensures.charged c.settle.new.map c.settle.new.book c.charge_seal.ensures.kept

pub returns-in-Ok-charge_seal-clause-ends : goal.returns-in-Ok-charge_seal-clause-ends
returns-in-Ok-charge_seal-clause-ends g c =
    let meaning = g.C.Scheme.meaning c.args.self.now.scheme.now in
    let within = copies_within meaning c.requires.begun c.in-Ok.ensures.ends c.requires.room c.copy_block.auto.moves in
    let first = ap (λ (k : ℕ). c.args.spare * k) (c.pages.ensures.value ∙ book_pages meaning c.requires.begun c.in-Ok.ensures.ends) in
    let shaped = g.met.D.Die.shaped c.copy_block.new.self.die.now in (
      copies_are meaning c.requires.begun c.in-Ok.ensures.ends,
      collected_so meaning c.requires.begun c.in-Ok.ensures.ends shaped first
          c.charge_seal.ensures.only_page c.in-Ok-charge_seal.ensures.charged c.requires.some_live within (book_pages meaning c.requires.begun c.in-Ok.ensures.ends)
          c.settle.ensures.map c.settle.ensures.book c.settle.ensures.valid c.in-Ok-charge_seal.ensures.passed,
    )

pub returns-in-Err-charge_seal-clause-holds : goal.returns-in-Err-charge_seal-clause-holds
returns-in-Err-charge_seal-clause-holds g c =
    let meaning = g.C.Scheme.meaning c.args.self.now.scheme.now in
    let first = ap (λ (k : ℕ). c.args.spare * k) (c.pages.ensures.value ∙ book_pages meaning c.requires.begun c.in-Ok.ensures.ends) in
    let shaped = g.met.D.Die.shaped c.copy_block.new.self.die.now in
    elim c.in-Err-charge_seal.ensures.charged_or_not [
      | inl same ↦ holds_unsealed meaning c.requires.begun c.in-Ok.ensures.ends shaped (g.met.D.Die.shaped c.charge_seal.new.die)
          first
          c.charge_seal.ensures.only_page same c.charge_seal.ensures.kept
      | inr charged ↦ holds_sealed meaning c.requires.begun c.in-Ok.ensures.ends shaped first
          c.charge_seal.ensures.only_page charged c.args.map.now c.copy_block.new.self.book.now c.charge_seal.ensures.kept
    ]

pub returns-in-Err-charge_seal-clause-ends : goal.returns-in-Err-charge_seal-clause-ends
returns-in-Err-charge_seal-clause-ends g c =
    let meaning = g.C.Scheme.meaning c.args.self.now.scheme.now in
    let first = ap (λ (k : ℕ). c.args.spare * k) (c.pages.ensures.value ∙ book_pages meaning c.requires.begun c.in-Ok.ensures.ends) in
    let shaped = g.met.D.Die.shaped c.copy_block.new.self.die.now in
    elim c.in-Err-charge_seal.ensures.charged_or_not [
      | inl same ↦ seal_failed meaning c.requires.begun c.in-Ok.ensures.ends shaped (g.met.D.Die.shaped c.charge_seal.new.die)
          first
          c.charge_seal.ensures.only_page same c.charge_seal.ensures.kept c.in-Err-charge_seal.ensures.failed
      | inr charged ↦ seal_failed_charged meaning c.requires.begun c.in-Ok.ensures.ends shaped
          first
          c.charge_seal.ensures.only_page charged c.in-Err-charge_seal.ensures.failed
    ]

pub returns-in-Ok-charge_seal-clause-stays : goal.returns-in-Ok-charge_seal-clause-stays
returns-in-Ok-charge_seal-clause-stays g c = record {
  kept = kept_trans c.copy_block.ensures.stays.kept c.charge_seal.ensures.kept;
  erases = c.charge_seal.ensures.only_page.erases ∙ c.copy_block.ensures.stays.erases;
  scheme = c.copy_block.ensures.stays.scheme;
  work = c.copy_block.ensures.stays.work;
}

pub returns-in-Err-charge_seal-clause-stays : goal.returns-in-Err-charge_seal-clause-stays
returns-in-Err-charge_seal-clause-stays g c = record {
  kept = kept_trans c.copy_block.ensures.stays.kept c.charge_seal.ensures.kept;
  erases = c.charge_seal.ensures.only_page.erases ∙ c.copy_block.ensures.stays.erases;
  scheme = c.copy_block.ensures.stays.scheme;
  work = c.copy_block.ensures.stays.work;
}
