-- The bytes put are the header's word, and a blank slot has no charged cell that this word could lack.
use Rattle.std.proofs.Common.{◌≡◌, ℕ, ◌+◌, ◌-◌, ◌*◌, List, sym, subst, ◌∙◌, arith}
use borrow.Rule.Slice.PartMut.{put_mid}
use Rattle.cell_bits.specs.Cells.{IsAbove}
use Rattle.spare_gate.specs.Slots.{with_header}
use Rattle.spare_gate.proofs.Headers.{put_word}
use Rattle.spare_gate.proofs.Blank.{header_above}
use Rattle.spare_gate.proofs.slot.put_header.Goals as goal

pub returns-clause-above : goal.returns-clause-above
returns-clause-above c =
    let from : ℕ = 16 * c.args.slot + 1 in
    let put : put_mid from (from + 14 - from) c.args.spare.now c.copy_from_slice.new.self ≡ with_header c.args.spare.now c.args.slot c.args.header.now =
    put_word c.args.spare.now c.copy_from_slice.new.self c.args.slot (from + 14 - from) c.args.header.now (omega arith) (c.copy_from_slice.ensures.after ∙ c.spell.ensures.word) in
    subst (λ (row : List ℕ). IsAbove row c.args.spare.now) (sym put) (header_above c.args.spare.now c.args.slot c.args.header.now c.requires.within c.requires.blank)
