-- A row of seven cells is one word below 128, and the table has its message.
use Rattle.std.proofs.Common.{rules, ℕ, ◌<◌, ◌^◌, get_or, sym, ◌∙◌, ap, subst, arith}
use Rattle.wom_code.specs.Packed.{IsRow, cells_of}
use Rattle.wom_code.proofs.OneWord.{one_word, word_alone, set_alone, row_alone}
use Rattle.hamming_seven.specs.Words.{message_of}
use Rattle.hamming_seven.specs.declared.tables.TheConstants.{MESSAGE}
use Rattle.hamming_seven.proofs.TableLemmas.{message_at}
use Rattle.hamming_seven.proofs.HammingSevenPackedCode37.decode_words.Goals as goal

pub offset_bounds-cells : goal.offset_bounds-cells
offset_bounds-cells c = let w : get_or c.args.cells.now 0 0 < 2 ^ 7 = one_word 7 c.args.cells.now c.requires.cells (omega arith) (c.type_inv.cells 0).fits in search rules

pub bounds-cells : goal.bounds-cells
bounds-cells c = one_word 7 c.args.cells.now c.requires.cells (omega arith) (c.type_inv.cells 0).fits

pub returns-clause-row : goal.returns-clause-row
returns-clause-row c =
    let w : get_or c.args.cells.now 0 0 < 128 = one_word 7 c.args.cells.now c.requires.cells (omega arith) (c.type_inv.cells 0).fits in
    let m : ℕ = get_or MESSAGE (get_or c.args.cells.now 0 0) 0 in
    subst (IsRow 3) (sym (set_alone c.args.msg.now m c.requires.message)) (row_alone 3 m (omega arith) (omega arith) (message_at (get_or c.args.cells.now 0 0) w).0)

pub returns-clause-message : goal.returns-clause-message
returns-clause-message c =
    let w : get_or c.args.cells.now 0 0 < 128 = one_word 7 c.args.cells.now c.requires.cells (omega arith) (c.type_inv.cells 0).fits in
    let m : ℕ = get_or MESSAGE (get_or c.args.cells.now 0 0) 0 in
    ap (cells_of 3) (set_alone c.args.msg.now m c.requires.message)
    ∙ (message_at (get_or c.args.cells.now 0 0) w).1
    ∙ ap (λ ws. message_of (cells_of 7 ws)) (sym (word_alone c.args.cells.now c.requires.cells.count))
