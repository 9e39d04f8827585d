-- A block that is not taken is a reserve block that no entry names.
use Rattle.std.proofs.Common.{◌≡◌, ◌<◌, ◌||◌, true, false, ap, sym, ◌∙◌, arith, length}
use Rattle.std.proofs.lemmas.Result.{err_from_is_err_and}
use Rattle.std.proofs.lemmas.List.{get_or_read}
use Rattle.std.proofs.lemmas.Bool.{or_parts}
use Rattle.std.specs.Prelude.{nat_le}
use Rattle.cell_die.specs.declared.shape.Shape.{Shape}
use Rattle.spare_die.specs.Table.{is_named}
use Rattle.spare_die.proofs.Telling.{is_named_read, inside_read, cause_after}
use Rattle.spare_die.proofs.opening.read_reserve.Goals as goal

pub read_spare-requires-clause-free : goal.read_spare-requires-clause-free
read_spare-requires-clause-free g c =
    let past : c.args.logical < c.loop-block.block = omega (arith, c.loop-block.auto.block) in
    let long : c.loop-block.block < length c.args.book.now.taken.items = omega (arith, c.requires.rows.taken, ap (λ (shape : Shape). shape.blocks) c.shape-blocks.ensures, c.loop-block-test.true) in
    let inside : c.loop-block.block < (g.D.WornDie.state c.args.die.now).shape.blocks = omega (arith, c.requires.rows.taken) in
    let free : (nat_le c.loop-block.block c.args.logical || is_named (g.D.WornDie.state c.args.die.now) c.loop-block.block) ≡ false
    = sym (c.requires.book.taken c.loop-block.block inside) ∙ (sym (get_or_read c.args.book.now.taken.items _ _ long c.index.ensures true) ∙ c.if-not-index.true) in
    is_named_read c.loop-block.block (inside_read c.loop-block.invariant.reads) ∙ (or_parts _ _ free).1

pub returns-in_err-read_spare-clause-cause : goal.returns-in_err-read_spare-clause-cause
returns-in_err-read_spare-clause-cause g c =
    let exit = err_from_is_err_and c.from_residual.result c.from_residual.ensures.1 in
    rw (exit.1, exit.2)
    (cause_after (g.D.WornDie.state c.args.die.now) (g.D.WornDie.state c.loop-block.die)
    (g.D.WornDie.state c.read_spare.new.die) c.args.logical c.in_err-read_spare.field-0.0 c.loop-block.invariant.reads c.in_err-read_spare.ensures.cause)
