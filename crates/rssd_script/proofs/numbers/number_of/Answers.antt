-- Digits without a needless 0 in front are the text of the number that they write.
use Rattle.std.proofs.Common.{◌≡◌, ◌^◌, ◌<◌, ◌⊎◌, decimal, get_or, length, take, sym, ap, ◌∙◌, refl, inl, inr, arith}
use Rattle.std.proofs.lemmas.List.{take_more, take_all}
use Rattle.rssd_script.proofs.Texts.{digits-push, read_on-push, read_on, read_short, decimal_short, decimal_at, decimal_zero, decimal_value, number_text}
use Rattle.rssd_script.proofs.numbers.number_of.Goals as goal
use Rattle.rssd_script.proofs.numbers.number_of.Goals.{then-is_empty-via-then-is_empty, then-is_empty-via-else-is_empty+then-text-gt10, then-byte-lt48-via-then-byte-lt48}
use Rattle.rssd_script.proofs.numbers.number_of.Goals.{then-byte-lt48-via-else-byte-lt48+then-byte-gt57, else-text-eq48-via-then-text-eq48+else-text-gt1, else-text-eq48-via-else-text-eq48}

pub returns-then-is_empty-clause-none : goal.returns-then-is_empty-clause-none
returns-then-is_empty-clause-none c n small e =
    let short = decimal_short c.args.text.now n small e in
    elim c.then-is_empty.branch [
      | then-is_empty-via-then-is_empty w ↦ grind (arith, short.0)
      | then-is_empty-via-else-is_empty+then-text-gt10 w ↦ omega (arith, short.1)
    ]

pub returns-then-text-gt1-clause-none : goal.returns-then-text-gt1-clause-none
returns-then-text-gt1-clause-none c n small e =
    omega (arith, decimal_zero c.args.text.now n small e c.if-text-eq48.true)

pub returns-then-byte-lt48-clause-none : goal.returns-then-byte-lt48-clause-none
returns-then-byte-lt48-clause-none c n small e =
    let at : (get_or c.args.text.now c.loop-byte.byte-index 0 < 48) ⊎ (57 < get_or c.args.text.now c.loop-byte.byte-index 0) =
    elim c.then-byte-lt48.branch [
      | then-byte-lt48-via-then-byte-lt48 w ↦ inl w.if-byte-lt48.true
      | then-byte-lt48-via-else-byte-lt48+then-byte-gt57 w ↦ inr w.if-byte-gt57.true
    ] in
    decimal_at c.args.text.now n small e c.loop-byte.byte-index (omega arith) at

pub overflow_mul-number : goal.overflow_mul-number
overflow_mul-number c =
    let s = read_short c.args.text.now c.loop-byte.byte-index (omega arith) (omega arith) c.loop-byte.invariant.digits in
    omega (arith, s, c.loop-byte.invariant.number)

pub overflow_add-number : goal.overflow_add-number
overflow_add-number c =
    let s = read_short c.args.text.now c.loop-byte.byte-index (omega arith) (omega arith) c.loop-byte.invariant.digits in
    omega (arith, s, c.loop-byte.invariant.number)

pub loop-byte-preserved : goal.loop-byte-preserved
loop-byte-preserved c =
    let more = take_more c.args.text.now c.loop-byte.byte-index 0 (omega arith) in record {
      digits = rw more (digits-push (take c.loop-byte.byte-index c.args.text.now) (get_or c.args.text.now c.loop-byte.byte-index 0) c.loop-byte.invariant.digits (omega arith) (omega arith));
      number = rw (more, read_on-push, ← c.loop-byte.invariant.number) refl;
      some = c.loop-byte.invariant.some;
      short = c.loop-byte.invariant.short;
    }

pub returns-then-number-clause-none : goal.returns-then-number-clause-none
returns-then-number-clause-none c n small e =
    let all = take_all c.loop-byte.byte-index c.args.text.now (omega arith) in
    let v = decimal_value c.args.text.now n small e in
    let is : c.loop-byte.number ≡ n = c.loop-byte.invariant.number ∙ ap (read_on 0) all ∙ v in
    omega arith

pub returns-clause-found : goal.returns-clause-found
returns-clause-found c =
    let all = take_all c.loop-byte.byte-index c.args.text.now (omega arith) in
    let is : c.loop-byte.number ≡ read_on 0 c.args.text.now = c.loop-byte.invariant.number ∙ ap (read_on 0) all in
    let small : read_on 0 c.args.text.now < 2 ^ 32 = omega arith in
    let first : get_or c.args.text.now 0 0 ≡ 48 → length c.args.text.now ≡ 1 = λ z.
    elim c.else-text-eq48.branch [
      | else-text-eq48-via-then-text-eq48+else-text-gt1 w ↦ omega (arith, c.loop-byte.invariant.some)
      | else-text-eq48-via-else-text-eq48 w ↦ absurd (w.if-text-eq48.false z)
    ] in
    (omega arith, number_text c.args.text.now (rw all at c.loop-byte.invariant.digits) c.loop-byte.invariant.some first small ∙ ap decimal (sym is))
