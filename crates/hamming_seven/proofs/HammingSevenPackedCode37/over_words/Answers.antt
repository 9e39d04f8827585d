-- Both rows are one word each, and the table's entry for them is tested in `TableLemmas`.
use Rattle.std.proofs.Common.{rules, ◌≡◌, ℕ, ◌<◌, List, [], length, get_or, set, sym, subst, refl, arith}
use Rattle.wom_code.specs.Packed.{IsRow, cells_of}
use Rattle.wom_code.proofs.PackedLemmas.{length-cells_of}
use Rattle.wom_code.proofs.OneWord.{one_word}
use Rattle.wom_code.proofs.TableCodes.{IsWritten, entry_written, none_written}
use Rattle.hamming_seven.specs.Words.{message_of, is_first}
use Rattle.hamming_seven.specs.Stages.{IsStageOne}
use Rattle.hamming_seven.specs.declared.tables.TheConstants.{NEXT}
use Rattle.hamming_seven.proofs.TableLemmas.{none_at, entry_at}
use Rattle.hamming_seven.proofs.StageLemmas.{Leaves, first_write, second_write, third_write}
use Rattle.hamming_seven.proofs.HammingSevenPackedCode37.over_words.Goals as goal

written : (old message out : List ℕ) → IsRow 7 old → IsRow 3 message → length out ≡ 1 → get_or old 0 0 < 128 → get_or message 0 0 < 8 →
    (get_or (get_or NEXT (get_or message 0 0) []) (get_or old 0 0) 0 ≡ 128 → ⊥) →
    IsWritten message_of is_first 3 7 old message (set out 0 (get_or (get_or NEXT (get_or message 0 0) []) (get_or old 0 0) 0))
written old message out r s len h i n =
    entry_written message_of is_first 3 7 old message out _ (omega arith) (omega arith) r.count s.count len (entry_at (get_or old 0 0) (get_or message 0 0) h i n)

pub bounds-msg : goal.bounds-msg
bounds-msg c = one_word 3 c.args.msg.now c.requires.message (omega arith) (c.type_inv.msg 0).fits

pub bounds-old : goal.bounds-old
bounds-old c = one_word 7 c.args.old.now c.requires.old (omega arith) (c.type_inv.old 0).fits

pub offset_bounds-msg : goal.offset_bounds-msg
offset_bounds-msg c = let m : get_or c.args.msg.now 0 0 < 8 = one_word 3 c.args.msg.now c.requires.message (omega arith) (c.type_inv.msg 0).fits in search rules

pub offset_bounds-msg-old : goal.offset_bounds-msg-old
offset_bounds-msg-old c = let w : get_or c.args.old.now 0 0 < 128 = one_word 7 c.args.old.now c.requires.old (omega arith) (c.type_inv.old 0).fits in search rules

pub returns-then-next-eq-NONE-clause-declined : goal.returns-then-next-eq-NONE-clause-declined
returns-then-next-eq-NONE-clause-declined c = λ answer.
    let w = one_word 7 c.args.old.now c.requires.old (omega arith) (c.type_inv.old 0).fits in
    let m = one_word 3 c.args.msg.now c.requires.message (omega arith) (c.type_inv.msg 0).fits in
    none_written message_of 3 7 c.args.old.now c.args.msg.now c.requires.old.count c.requires.message.count
    (none_at (get_or c.args.old.now 0 0) (get_or c.args.msg.now 0 0) w m c.if-next-eq-NONE.true)

pub returns-clause-row : goal.returns-clause-row
returns-clause-row c = λ answer.
    (written c.args.old.now c.args.msg.now c.args.out.now c.requires.old c.requires.message c.requires.out
    (one_word 7 c.args.old.now c.requires.old (omega arith) (c.type_inv.old 0).fits) (one_word 3 c.args.msg.now c.requires.message (omega arith) (c.type_inv.msg 0).fits) c.if-next-eq-NONE.false).row

pub returns-clause-carried : goal.returns-clause-carried
returns-clause-carried c = λ answer.
    (written c.args.old.now c.args.msg.now c.args.out.now c.requires.old c.requires.message c.requires.out
    (one_word 7 c.args.old.now c.requires.old (omega arith) (c.type_inv.old 0).fits) (one_word 3 c.args.msg.now c.requires.message (omega arith) (c.type_inv.msg 0).fits)
    c.if-next-eq-NONE.false).carries

pub returns-clause-given : goal.returns-clause-given
returns-clause-given c = λ answer.
    (written c.args.old.now c.args.msg.now c.args.out.now c.requires.old c.requires.message c.requires.out
    (one_word 7 c.args.old.now c.requires.old (omega arith) (c.type_inv.old 0).fits) (one_word 3 c.args.msg.now c.requires.message (omega arith) (c.type_inv.msg 0).fits) c.if-next-eq-NONE.false).given

pub returns-then-next-eq-NONE-clause-first_write : goal.returns-then-next-eq-NONE-clause-first_write
returns-then-next-eq-NONE-clause-first_write c = λ stage.
    let law = subst (λ o. Leaves o (cells_of 3 c.args.msg.now) IsStageOne) (sym stage) (first_write (cells_of 3 c.args.msg.now) (length-cells_of 3 c.args.msg.now)) in
    absurd (law.carried (none_written message_of 3 7 c.args.old.now c.args.msg.now c.requires.old.count c.requires.message.count
    (none_at (get_or c.args.old.now 0 0) (get_or c.args.msg.now 0 0)
    (one_word 7 c.args.old.now c.requires.old (omega arith) (c.type_inv.old 0).fits) (one_word 3 c.args.msg.now c.requires.message (omega arith) (c.type_inv.msg 0).fits) c.if-next-eq-NONE.true)))

pub returns-clause-first_write : goal.returns-clause-first_write
returns-clause-first_write c = λ stage.
    let law = subst (λ o. Leaves o (cells_of 3 c.args.msg.now) IsStageOne) (sym stage) (first_write (cells_of 3 c.args.msg.now) (length-cells_of 3 c.args.msg.now)) in
    let w = (written c.args.old.now c.args.msg.now c.args.out.now c.requires.old c.requires.message c.requires.out
    (one_word 7 c.args.old.now c.requires.old (omega arith) (c.type_inv.old 0).fits) (one_word 3 c.args.msg.now c.requires.message (omega arith) (c.type_inv.msg 0).fits) c.if-next-eq-NONE.false) in
    (refl, law.leaves _ (length-cells_of 7 _) w.carries w.given)

pub returns-then-next-eq-NONE-clause-second_write : goal.returns-then-next-eq-NONE-clause-second_write
returns-then-next-eq-NONE-clause-second_write c = λ stage.
    let law = second_write (cells_of 7 c.args.old.now) (cells_of 3 c.args.msg.now) (length-cells_of 7 c.args.old.now) (length-cells_of 3 c.args.msg.now) stage in
    absurd (law.carried (none_written message_of 3 7 c.args.old.now c.args.msg.now c.requires.old.count c.requires.message.count
    (none_at (get_or c.args.old.now 0 0) (get_or c.args.msg.now 0 0)
    (one_word 7 c.args.old.now c.requires.old (omega arith) (c.type_inv.old 0).fits) (one_word 3 c.args.msg.now c.requires.message (omega arith) (c.type_inv.msg 0).fits) c.if-next-eq-NONE.true)))

pub returns-clause-second_write : goal.returns-clause-second_write
returns-clause-second_write c = λ stage.
    let law = second_write (cells_of 7 c.args.old.now) (cells_of 3 c.args.msg.now) (length-cells_of 7 c.args.old.now) (length-cells_of 3 c.args.msg.now) stage in
    let w = (written c.args.old.now c.args.msg.now c.args.out.now c.requires.old c.requires.message c.requires.out
    (one_word 7 c.args.old.now c.requires.old (omega arith) (c.type_inv.old 0).fits) (one_word 3 c.args.msg.now c.requires.message (omega arith) (c.type_inv.msg 0).fits) c.if-next-eq-NONE.false) in
    (refl, law.leaves _ (length-cells_of 7 _) w.carries w.given)

pub returns-then-next-eq-NONE-clause-third_write : goal.returns-then-next-eq-NONE-clause-third_write
returns-then-next-eq-NONE-clause-third_write c = λ stage.
    absurd (third_write (cells_of 7 c.args.old.now) (cells_of 3 c.args.msg.now) (length-cells_of 7 c.args.old.now) (length-cells_of 3 c.args.msg.now) stage
    (none_written message_of 3 7 c.args.old.now c.args.msg.now c.requires.old.count c.requires.message.count
    (none_at (get_or c.args.old.now 0 0) (get_or c.args.msg.now 0 0)
    (one_word 7 c.args.old.now c.requires.old (omega arith) (c.type_inv.old 0).fits) (one_word 3 c.args.msg.now c.requires.message (omega arith) (c.type_inv.msg 0).fits) c.if-next-eq-NONE.true)))
