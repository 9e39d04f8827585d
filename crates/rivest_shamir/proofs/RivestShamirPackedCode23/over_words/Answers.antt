-- Both rows are one word each, and the table's entry for them is tested in `TableLemmas`.
use Rattle.std.proofs.Common.{rules, ◌≡◌, ℕ, ◌<◌, List, [], length, get_or, set, arith}
use Rattle.wom_code.specs.Packed.{IsRow}
use Rattle.wom_code.proofs.OneWord.{one_word}
use Rattle.wom_code.proofs.TableCodes.{IsWritten, entry_written, none_written}
use Rattle.rivest_shamir.specs.Words.{message_of, is_least}
use Rattle.rivest_shamir.specs.declared.TheConstants.{NEXT}
use Rattle.rivest_shamir.proofs.TableLemmas.{none_at, entry_at}
use Rattle.rivest_shamir.proofs.RivestShamirPackedCode23.over_words.Goals as goal

written : (old message out : List ℕ) → IsRow 3 old → IsRow 2 message → length out ≡ 1 → get_or old 0 0 < 8 → get_or message 0 0 < 4 →
    (get_or (get_or NEXT (get_or message 0 0) []) (get_or old 0 0) 0 ≡ 8 → ⊥) →
    IsWritten message_of is_least 2 3 old message (set out 0 (get_or (get_or NEXT (get_or message 0 0) []) (get_or old 0 0) 0))
written old message out r s len h i n =
    entry_written message_of is_least 2 3 old message out _ (omega arith) (omega arith) r.count s.count len (entry_at (get_or old 0 0) (get_or message 0 0) h i n)

pub bounds-msg : goal.bounds-msg
bounds-msg c = one_word 2 c.args.msg.now c.requires.message (omega arith) (c.type_inv.msg 0).fits

pub bounds-old : goal.bounds-old
bounds-old c = one_word 3 c.args.old.now c.requires.old (omega arith) (c.type_inv.old 0).fits

pub offset_bounds-msg : goal.offset_bounds-msg
offset_bounds-msg c = let m : get_or c.args.msg.now 0 0 < 4 = one_word 2 c.args.msg.now c.requires.message (omega arith) (c.type_inv.msg 0).fits in search rules

pub offset_bounds-msg-old : goal.offset_bounds-msg-old
offset_bounds-msg-old c = let w : get_or c.args.old.now 0 0 < 8 = one_word 3 c.args.old.now c.requires.old (omega arith) (c.type_inv.old 0).fits in search rules

pub returns-then-next-eq-NONE-clause-declined : goal.returns-then-next-eq-NONE-clause-declined
returns-then-next-eq-NONE-clause-declined c = λ answer.
    let w = one_word 3 c.args.old.now c.requires.old (omega arith) (c.type_inv.old 0).fits in
    let m = one_word 2 c.args.msg.now c.requires.message (omega arith) (c.type_inv.msg 0).fits in
    none_written message_of 2 3 c.args.old.now c.args.msg.now c.requires.old.count c.requires.message.count
    (none_at (get_or c.args.old.now 0 0) (get_or c.args.msg.now 0 0) w m c.if-next-eq-NONE.true)

pub returns-clause-row : goal.returns-clause-row
returns-clause-row c = λ answer.
    (written c.args.old.now c.args.msg.now c.args.out.now c.requires.old c.requires.message c.requires.out
    (one_word 3 c.args.old.now c.requires.old (omega arith) (c.type_inv.old 0).fits) (one_word 2 c.args.msg.now c.requires.message (omega arith) (c.type_inv.msg 0).fits) c.if-next-eq-NONE.false).row

pub returns-clause-carried : goal.returns-clause-carried
returns-clause-carried c = λ answer.
    (written c.args.old.now c.args.msg.now c.args.out.now c.requires.old c.requires.message c.requires.out
    (one_word 3 c.args.old.now c.requires.old (omega arith) (c.type_inv.old 0).fits) (one_word 2 c.args.msg.now c.requires.message (omega arith) (c.type_inv.msg 0).fits)
    c.if-next-eq-NONE.false).carries

pub returns-clause-given : goal.returns-clause-given
returns-clause-given c = λ answer.
    (written c.args.old.now c.args.msg.now c.args.out.now c.requires.old c.requires.message c.requires.out
    (one_word 3 c.args.old.now c.requires.old (omega arith) (c.type_inv.old 0).fits) (one_word 2 c.args.msg.now c.requires.message (omega arith) (c.type_inv.msg 0).fits) c.if-next-eq-NONE.false).given
