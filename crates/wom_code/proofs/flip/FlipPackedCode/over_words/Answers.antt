-- The tests say which of the two results is possible, and the choice takes the one of less charge.
use Rattle.std.proofs.Common.{nat_eq, sym, ◌∙◌, ap, subst, arith}
use Rattle.std.proofs.lemmas.List.Sums.{count_by-le-length}
use Rattle.wom_code.specs.Cells.{charge_of}
use Rattle.wom_code.specs.Packed.{cells_of}
use Rattle.wom_code.specs.Flip.{IsChoice}
use Rattle.wom_code.proofs.PackedLemmas.{length-cells_of}
use Rattle.wom_code.proofs.FrontLemmas.{laid_over}
use Rattle.wom_code.proofs.FlipLemmas.{IsFlagged, packed_tested, packed_above, unflagged, flip_none, flip_over}
use Rattle.wom_code.proofs.flip.FlipPackedCode.over_words.Goals as goal

pub choose-requires-clause-ones : goal.choose-requires-clause-ones
choose-requires-clause-ones g c = omega (arith, c.count_charged_words-ones.ensures, count_by-le-length (λ cell. cell) (cells_of g.row.K c.args.msg.now), length-cells_of g.row.K c.args.msg.now)

pub returns-in_default-clause-declined : goal.returns-in_default-clause-declined
returns-in_default-clause-declined g c = λ answer.
    flip_none g.row.K g.row.N (cells_of g.row.N c.args.old.now) (cells_of g.row.K c.args.msg.now) c.is_charged.result c.fits_front-straight.result c.fits_front-turned.result
    (packed_tested g.row.K g.row.N c.args.old.now c.args.msg.now c.is_charged.result c.fits_front-straight.result c.fits_front-turned.result c.args.self.now.fits
    c.is_charged.ensures c.fits_front-straight.ensures c.fits_front-turned.ensures) c.in_default.ensures.none.0 c.in_default.ensures.none.1

pub returns-then-flag-clause-row : goal.returns-then-flag-clause-row
returns-then-flag-clause-row g c = λ answer.
    let t = (packed_tested g.row.K g.row.N c.args.old.now c.args.msg.now c.is_charged.result c.fits_front-straight.result c.fits_front-turned.result c.args.self.now.fits
    c.is_charged.ensures c.fits_front-straight.ensures c.fits_front-turned.ensures) in
    let choice : IsChoice c.is_charged.result c.fits_front-straight.result c.fits_front-turned.result (charge_of (cells_of g.row.K c.args.msg.now)) g.row.K c.in-Some.flag =
    subst (λ ones. IsChoice c.is_charged.result c.fits_front-straight.result c.fits_front-turned.result ones g.row.K c.in-Some.flag) c.count_charged_words-ones.ensures c.in-Some.ensures.some in
    let laid = laid_over c.in-Some.flag g.row.K g.row.N c.args.old.now c.args.msg.now c.copy_from_slice.new.self c.lay_front.new.out (omega (arith, c.args.self.now.fits)) c.requires.old
    (packed_above g.row.K g.row.N c.args.old.now c.args.msg.now _ _ _ _ c.in-Some.flag c.args.self.now.fits t choice)
    c.copy_from_slice.ensures.after c.lay_front.ensures.length c.lay_front.ensures.laid in
    let flagged : IsFlagged g.row.K c.in-Some.flag c.lay_front.new.out c.charge.new.words = record {
      len = c.charge.auto.words;
      flag = ap (λ b. nat_eq b 1) c.charge.ensures.set ∙ sym c.if-flag.true;
      others = c.charge.ensures.others;
    } in
    (flip_over g.row.K g.row.N c.args.old.now c.args.msg.now c.lay_front.new.out c.charge.new.words _ _ _ c.in-Some.flag c.args.self.now.fits t choice laid flagged).row

pub returns-then-flag-clause-carried : goal.returns-then-flag-clause-carried
returns-then-flag-clause-carried g c = λ answer.
    let t = (packed_tested g.row.K g.row.N c.args.old.now c.args.msg.now c.is_charged.result c.fits_front-straight.result c.fits_front-turned.result c.args.self.now.fits
    c.is_charged.ensures c.fits_front-straight.ensures c.fits_front-turned.ensures) in
    let choice : IsChoice c.is_charged.result c.fits_front-straight.result c.fits_front-turned.result (charge_of (cells_of g.row.K c.args.msg.now)) g.row.K c.in-Some.flag =
    subst (λ ones. IsChoice c.is_charged.result c.fits_front-straight.result c.fits_front-turned.result ones g.row.K c.in-Some.flag) c.count_charged_words-ones.ensures c.in-Some.ensures.some in
    let laid = laid_over c.in-Some.flag g.row.K g.row.N c.args.old.now c.args.msg.now c.copy_from_slice.new.self c.lay_front.new.out (omega (arith, c.args.self.now.fits)) c.requires.old
    (packed_above g.row.K g.row.N c.args.old.now c.args.msg.now _ _ _ _ c.in-Some.flag c.args.self.now.fits t choice)
    c.copy_from_slice.ensures.after c.lay_front.ensures.length c.lay_front.ensures.laid in
    let flagged : IsFlagged g.row.K c.in-Some.flag c.lay_front.new.out c.charge.new.words = record {
      len = c.charge.auto.words;
      flag = ap (λ b. nat_eq b 1) c.charge.ensures.set ∙ sym c.if-flag.true;
      others = c.charge.ensures.others;
    } in
    (flip_over g.row.K g.row.N c.args.old.now c.args.msg.now c.lay_front.new.out c.charge.new.words _ _ _ c.in-Some.flag c.args.self.now.fits t choice laid flagged).carries

pub returns-then-flag-clause-given : goal.returns-then-flag-clause-given
returns-then-flag-clause-given g c = λ answer.
    let t = (packed_tested g.row.K g.row.N c.args.old.now c.args.msg.now c.is_charged.result c.fits_front-straight.result c.fits_front-turned.result c.args.self.now.fits
    c.is_charged.ensures c.fits_front-straight.ensures c.fits_front-turned.ensures) in
    let choice : IsChoice c.is_charged.result c.fits_front-straight.result c.fits_front-turned.result (charge_of (cells_of g.row.K c.args.msg.now)) g.row.K c.in-Some.flag =
    subst (λ ones. IsChoice c.is_charged.result c.fits_front-straight.result c.fits_front-turned.result ones g.row.K c.in-Some.flag) c.count_charged_words-ones.ensures c.in-Some.ensures.some in
    let laid = laid_over c.in-Some.flag g.row.K g.row.N c.args.old.now c.args.msg.now c.copy_from_slice.new.self c.lay_front.new.out (omega (arith, c.args.self.now.fits)) c.requires.old
    (packed_above g.row.K g.row.N c.args.old.now c.args.msg.now _ _ _ _ c.in-Some.flag c.args.self.now.fits t choice)
    c.copy_from_slice.ensures.after c.lay_front.ensures.length c.lay_front.ensures.laid in
    let flagged : IsFlagged g.row.K c.in-Some.flag c.lay_front.new.out c.charge.new.words = record {
      len = c.charge.auto.words;
      flag = ap (λ b. nat_eq b 1) c.charge.ensures.set ∙ sym c.if-flag.true;
      others = c.charge.ensures.others;
    } in
    (flip_over g.row.K g.row.N c.args.old.now c.args.msg.now c.lay_front.new.out c.charge.new.words _ _ _ c.in-Some.flag c.args.self.now.fits t choice laid flagged).given

pub returns-else-flag-clause-row : goal.returns-else-flag-clause-row
returns-else-flag-clause-row g c = λ answer.
    let t = (packed_tested g.row.K g.row.N c.args.old.now c.args.msg.now c.is_charged.result c.fits_front-straight.result c.fits_front-turned.result c.args.self.now.fits
    c.is_charged.ensures c.fits_front-straight.ensures c.fits_front-turned.ensures) in
    let choice : IsChoice c.is_charged.result c.fits_front-straight.result c.fits_front-turned.result (charge_of (cells_of g.row.K c.args.msg.now)) g.row.K c.in-Some.flag =
    subst (λ ones. IsChoice c.is_charged.result c.fits_front-straight.result c.fits_front-turned.result ones g.row.K c.in-Some.flag) c.count_charged_words-ones.ensures c.in-Some.ensures.some in
    let laid = laid_over c.in-Some.flag g.row.K g.row.N c.args.old.now c.args.msg.now c.copy_from_slice.new.self c.lay_front.new.out (omega (arith, c.args.self.now.fits)) c.requires.old
    (packed_above g.row.K g.row.N c.args.old.now c.args.msg.now _ _ _ _ c.in-Some.flag c.args.self.now.fits t choice)
    c.copy_from_slice.ensures.after c.lay_front.ensures.length c.lay_front.ensures.laid in
    let flagged = unflagged g.row.K g.row.N c.args.old.now c.args.msg.now c.lay_front.new.out _ _ _ _ c.in-Some.flag c.args.self.now.fits t choice laid c.if-flag.false in
    (flip_over g.row.K g.row.N c.args.old.now c.args.msg.now c.lay_front.new.out c.lay_front.new.out _ _ _ c.in-Some.flag c.args.self.now.fits t choice laid flagged).row

pub returns-else-flag-clause-carried : goal.returns-else-flag-clause-carried
returns-else-flag-clause-carried g c = λ answer.
    let t = (packed_tested g.row.K g.row.N c.args.old.now c.args.msg.now c.is_charged.result c.fits_front-straight.result c.fits_front-turned.result c.args.self.now.fits
    c.is_charged.ensures c.fits_front-straight.ensures c.fits_front-turned.ensures) in
    let choice : IsChoice c.is_charged.result c.fits_front-straight.result c.fits_front-turned.result (charge_of (cells_of g.row.K c.args.msg.now)) g.row.K c.in-Some.flag =
    subst (λ ones. IsChoice c.is_charged.result c.fits_front-straight.result c.fits_front-turned.result ones g.row.K c.in-Some.flag) c.count_charged_words-ones.ensures c.in-Some.ensures.some in
    let laid = laid_over c.in-Some.flag g.row.K g.row.N c.args.old.now c.args.msg.now c.copy_from_slice.new.self c.lay_front.new.out (omega (arith, c.args.self.now.fits)) c.requires.old
    (packed_above g.row.K g.row.N c.args.old.now c.args.msg.now _ _ _ _ c.in-Some.flag c.args.self.now.fits t choice)
    c.copy_from_slice.ensures.after c.lay_front.ensures.length c.lay_front.ensures.laid in
    let flagged = unflagged g.row.K g.row.N c.args.old.now c.args.msg.now c.lay_front.new.out _ _ _ _ c.in-Some.flag c.args.self.now.fits t choice laid c.if-flag.false in
    (flip_over g.row.K g.row.N c.args.old.now c.args.msg.now c.lay_front.new.out c.lay_front.new.out _ _ _ c.in-Some.flag c.args.self.now.fits t choice laid flagged).carries

pub returns-else-flag-clause-given : goal.returns-else-flag-clause-given
returns-else-flag-clause-given g c = λ answer.
    let t = (packed_tested g.row.K g.row.N c.args.old.now c.args.msg.now c.is_charged.result c.fits_front-straight.result c.fits_front-turned.result c.args.self.now.fits
    c.is_charged.ensures c.fits_front-straight.ensures c.fits_front-turned.ensures) in
    let choice : IsChoice c.is_charged.result c.fits_front-straight.result c.fits_front-turned.result (charge_of (cells_of g.row.K c.args.msg.now)) g.row.K c.in-Some.flag =
    subst (λ ones. IsChoice c.is_charged.result c.fits_front-straight.result c.fits_front-turned.result ones g.row.K c.in-Some.flag) c.count_charged_words-ones.ensures c.in-Some.ensures.some in
    let laid = laid_over c.in-Some.flag g.row.K g.row.N c.args.old.now c.args.msg.now c.copy_from_slice.new.self c.lay_front.new.out (omega (arith, c.args.self.now.fits)) c.requires.old
    (packed_above g.row.K g.row.N c.args.old.now c.args.msg.now _ _ _ _ c.in-Some.flag c.args.self.now.fits t choice)
    c.copy_from_slice.ensures.after c.lay_front.ensures.length c.lay_front.ensures.laid in
    let flagged = unflagged g.row.K g.row.N c.args.old.now c.args.msg.now c.lay_front.new.out _ _ _ _ c.in-Some.flag c.args.self.now.fits t choice laid c.if-flag.false in
    (flip_over g.row.K g.row.N c.args.old.now c.args.msg.now c.lay_front.new.out c.lay_front.new.out _ _ _ c.in-Some.flag c.args.self.now.fits t choice laid flagged).given
