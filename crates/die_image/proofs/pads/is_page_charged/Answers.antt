-- Main bytes have no pad cell, and each slot is tested by its gate byte and its last byte.
use Rattle.std.proofs.Common.{◌<◌, ◌∙◌, arith}
use Rattle.std.proofs.lemmas.Bool.{lt-ltb}
use Rattle.die_image.specs.Image.{shape_of}
use Rattle.die_image.specs.Schemes.{row_of}
use Rattle.die_image.proofs.NoPad.{charged_somewhere}
use Rattle.die_image.proofs.PagePads.{main_byte, gate_byte, last_byte, slot_more}
use Rattle.die_image.proofs.pads.is_page_charged.Goals as goal
use Rattle.die_image.proofs.pads.is_page_charged.Goals.{then-cells-gate-gt1-via-then-cells-gate-gt1, then-cells-gate-gt1-via-else-cells-gate-gt1+then-cells-gate}

pub loop-slot-init : goal.loop-slot-init
loop-slot-init c = λ place lt.
    main_byte c.args.head.now.blocks c.args.head.now.pages _ _ c.args.page place _ (omega (arith, lt)) (c.type_inv.cells _).fits

pub returns-then-cells-gate-gt1-clause-charged : goal.returns-then-cells-gate-gt1-clause-charged
returns-then-cells-gate-gt1-clause-charged c = λ _.
    let head = c.args.head.now in
    let row = c.page_bytes-main_bytes.ensures.row in
    let gens = c.generations-slots.ensures.row in
    let lt : c.loop-slot.slot < (row_of head.scheme).generations = omega (arith, c.loop-slot-test.true, gens) in
    elim c.then-cells-gate-gt1.branch [
      | then-cells-gate-gt1-via-then-cells-gate-gt1 w ↦
          charged_somewhere (shape_of head) c.args.cells.now _ (omega (arith, lt, c.requires.within))
          (gate_byte head.blocks head.pages _ _ c.args.page c.loop-slot.slot _ lt (c.type_inv.cells _).fits
          ∙ lt-ltb _ _ (rw (row, gens) at w.if-cells-gate-gt1.true))
      | then-cells-gate-gt1-via-else-cells-gate-gt1+then-cells-gate w ↦
          charged_somewhere (shape_of head) c.args.cells.now _ (omega (arith, lt, c.requires.within))
          (last_byte head.blocks head.pages _ _ c.args.page c.loop-slot.slot _ lt (c.type_inv.cells _).fits
          ∙ lt-ltb _ _ (rw (row, gens, w.greatest_last.ensures) at w.if-cells-gate.true))
    ]

pub loop-slot-preserved : goal.loop-slot-preserved
loop-slot-preserved c =
    let head = c.args.head.now in
    let row = c.page_bytes-main_bytes.ensures.row in
    let gens = c.generations-slots.ensures.row in
    let lt : c.loop-slot.slot < (row_of head.scheme).generations = omega (arith, c.loop-slot-test.true, gens) in
    let gate = rw (row, gens) at c.if-cells-gate-gt1.false in
    let last = rw (row, gens, c.greatest_last.ensures) at c.if-cells-gate.false in
    slot_more head.blocks head.pages _ _ c.args.page c.loop-slot.slot c.args.cells.now lt (λ i. (c.type_inv.cells i).fits) c.loop-slot.invariant
    (omega (arith, gate)) (omega (arith, last))
