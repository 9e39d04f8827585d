-- The words of `worn` have their places.
use Rattle.std.proofs.Common.{◌≡◌, true, string_bytes, sym, subst, ◌∙◌}
use Rattle.die_image.specs.declared.head.ImageHead.{ImageHead}
use Rattle.rssd_words.specs.Commands.{IsReserve}
use Rattle.rssd_words.proofs.Spelling.{worn_is}
use Rattle.rssd_words.proofs.reading.read_worn.Goals as goal

pub returns-in_err-reserve-in-len2-up-clause-only : goal.returns-in_err-reserve-in-len2-up-clause-only
returns-in_err-reserve-in-len2-up-clause-only c command within e =
    let w = worn_is string_bytes c.args.words.now command within e in
    let bad = c.in_err-reserve-in-len2-up.ensures.only w.reserve w.small (c.as_str.ensures.value ∙ w.reserve_is _ c.reserve-item.is) in
    absurd cc

pub returns-in_err-bad-in-len2-up-clause-only : goal.returns-in_err-bad-in-len2-up-clause-only
returns-in_err-bad-in-len2-up-clause-only c command within e =
    let w = worn_is string_bytes c.args.words.now command within e in
    let bad = c.in_err-bad-in-len2-up.ensures.only w.bad w.within.2 (c.as_str-in-len2-up.ensures.value ∙ w.bad_is _ c.bad-item.is) in
    absurd cc

pub returns-in_ok-bad-in-len2-up-clause-only : goal.returns-in_ok-bad-in-len2-up-clause-only
returns-in_ok-bad-in-len2-up-clause-only c command within e =
    let w = worn_is string_bytes c.args.words.now command within e in
    let heads = c.in_ok-head-in-len2-up.ensures.only w.head w.within.0 w.front in
    let reserves = c.in_ok-reserve-in-len2-up.ensures.only w.reserve w.small (c.as_str.ensures.value ∙ w.reserve_is _ c.reserve-item.is) in
    let bads = c.in_ok-bad-in-len2-up.ensures.only w.bad w.within.2 (c.as_str-in-len2-up.ensures.value ∙ w.bad_is _ c.bad-item.is) in
    let head : c.in_ok-head-in-len2-up.head ≡ w.head = cc in
    let reserve : c.in_ok-reserve-in-len2-up.reserve ≡ w.reserve = cc in
    let may : c.is_reserve.result ≡ true =
    c.is_reserve.ensures.1 (subst (λ (h : ImageHead). IsReserve h c.in_ok-reserve-in-len2-up.reserve) (sym head) (subst (IsReserve w.head) (sym reserve) w.within.1)) in
    let made = rw may at c.then_some.ensures in
    let is = w.is in
    cc
