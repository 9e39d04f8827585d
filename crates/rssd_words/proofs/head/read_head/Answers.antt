-- Each word is a name or a number within its limit, or no head within limits has these words.
use Rattle.std.proofs.Common.{◌≡◌, true, [], ◌∷◌, length, map, Option, Some, None, sym, ap, subst, ◌∙◌, arith, string_bytes, IfSome, Global}
use Rattle.die_image.specs.declared.head.ImageHead.{ImageHead}
use Rattle.die_image.specs.Schemes.{row_of, scheme_of_name}
use Rattle.die_image.specs.Image.{is_within_limits}
use Rattle.die_image.proofs.Again.{are_words}
use Rattle.rssd_words.specs.Commands.{head_words}
use Rattle.rssd_words.proofs.Names.{name_again, name_found}
use Rattle.rssd_words.proofs.Heads.{found_where, only_where}
use Rattle.rssd_words.proofs.Items.{word_at, five_items}
use Rattle.rssd_words.proofs.head.read_head.Goals as goal

pub returns-in_err-of_name-in-len5-clause-only : goal.returns-in_err-of_name-in-len5-clause-only
returns-in_err-of_name-in-len5-clause-only c head within e =
    let name : c.as_str.result.now ≡ (row_of head.scheme).name = c.as_str.ensures.value ∙ word_at _ _ e 0 (omega arith) c.scheme-item.is in
    let bad : None ≡ Some head.scheme = c.in_err-of_name-in-len5.ensures ∙ ap scheme_of_name name ∙ name_again head.scheme in
    absurd cc

pub returns-in_err-read_small-in-len5-clause-only : goal.returns-in_err-read_small-in-len5-clause-only
returns-in_err-read_small-in-len5-clause-only c head within e =
    let word = c.as_str-in-len5.ensures.value ∙ word_at _ _ e 1 (omega arith) c.blocks-item.is in
    let bad = c.in_err-read_small-in-len5.ensures.only head.blocks (are_words head within).blocks word in
    absurd cc

pub returns-in_err-read_small-in-len5-2-clause-only : goal.returns-in_err-read_small-in-len5-2-clause-only
returns-in_err-read_small-in-len5-2-clause-only c head within e =
    let word = c.as_str-in-len5-2.ensures.value ∙ word_at _ _ e 2 (omega arith) c.pages-item.is in
    let bad = c.in_err-read_small-in-len5-2.ensures.only head.pages (are_words head within).pages word in
    absurd cc

pub returns-in_err-read_small-in-len5-3-clause-only : goal.returns-in_err-read_small-in-len5-3-clause-only
returns-in_err-read_small-in-len5-3-clause-only c head within e =
    let word = c.as_str-in-len5-3.ensures.value ∙ word_at _ _ e 3 (omega arith) c.sectors-item.is in
    let bad = c.in_err-read_small-in-len5-3.ensures.only head.sectors (are_words head within).sectors word in
    absurd cc

pub returns-in_err-read_small-in-len5-4-clause-only : goal.returns-in_err-read_small-in-len5-4-clause-only
returns-in_err-read_small-in-len5-4-clause-only c head within e =
    let word = c.as_str-in-len5-4.ensures.value ∙ word_at _ _ e 4 (omega arith) c.reuse_max-item.is in
    let bad = c.in_err-read_small-in-len5-4.ensures.only head.reuse_max (are_words head within).reuse_max word in
    absurd cc

pub returns-in_ok-read_small-in-len5-4-clause-found : goal.returns-in_ok-read_small-in-len5-4-clause-found
returns-in_ok-read_small-in-len5-4-clause-found c =
    let five : length c.args.words.now ≡ 5 = omega arith in
    let items = five_items (string_bytes {Z = Global}) c.args.words.now five c.scheme-item.is c.blocks-item.is c.pages-item.is c.sectors-item.is c.reuse_max-item.is in
    let scheme = sym c.as_str.ensures.value ∙ name_found c.as_str.result.now _ c.in_ok-of_name-in-len5.ensures in
    let blocks = sym c.as_str-in-len5.ensures.value ∙ c.in_ok-read_small-in-len5.ensures.found in
    let pages = sym c.as_str-in-len5-2.ensures.value ∙ c.in_ok-read_small-in-len5-2.ensures.found in
    let sectors = sym c.as_str-in-len5-3.ensures.value ∙ c.in_ok-read_small-in-len5-3.ensures.found in
    let reuse_max = sym c.as_str-in-len5-4.ensures.value ∙ c.in_ok-read_small-in-len5-4.ensures.found in
    let spelled = items ∙ (λ i. scheme i ∷ blocks i ∷ pages i ∷ sectors i ∷ reuse_max i ∷ []) in
    let words = map (string_bytes {Z = Global}) c.args.words.now in
    subst (λ (found : Option ImageHead). IfSome found (λ head. (is_within_limits head ≡ true) × (words ≡ head_words head))) (sym c.then_some.ensures)
    (found_where c.within_limits.result _ words c.within_limits.ensures.limits spelled)

pub returns-in_ok-read_small-in-len5-4-clause-only : goal.returns-in_ok-read_small-in-len5-4-clause-only
returns-in_ok-read_small-in-len5-4-clause-only c head within e =
    let words = are_words head within in
    let name : c.as_str.result.now ≡ (row_of head.scheme).name = c.as_str.ensures.value ∙ word_at _ _ e 0 (omega arith) c.scheme-item.is in
    let scheme : Some c.in_ok-of_name-in-len5.field-0 ≡ Some head.scheme = c.in_ok-of_name-in-len5.ensures ∙ ap scheme_of_name name ∙ name_again head.scheme in
    let blocks = c.in_ok-read_small-in-len5.ensures.only head.blocks words.blocks (c.as_str-in-len5.ensures.value ∙ word_at _ _ e 1 (omega arith) c.blocks-item.is) in
    let pages = c.in_ok-read_small-in-len5-2.ensures.only head.pages words.pages (c.as_str-in-len5-2.ensures.value ∙ word_at _ _ e 2 (omega arith) c.pages-item.is) in
    let sectors = c.in_ok-read_small-in-len5-3.ensures.only head.sectors words.sectors (c.as_str-in-len5-3.ensures.value ∙ word_at _ _ e 3 (omega arith) c.sectors-item.is) in
    let reuse_max = c.in_ok-read_small-in-len5-4.ensures.only head.reuse_max words.reuse_max (c.as_str-in-len5-4.ensures.value ∙ word_at _ _ e 4 (omega arith) c.reuse_max-item.is) in
    let a : c.in_ok-of_name-in-len5.field-0 ≡ head.scheme = cc in
    let b : c.in_ok-read_small-in-len5.field-0 ≡ head.blocks = cc in
    let p : c.in_ok-read_small-in-len5-2.field-0 ≡ head.pages = cc in
    let s : c.in_ok-read_small-in-len5-3.field-0 ≡ head.sectors = cc in
    let r : c.in_ok-read_small-in-len5-4.field-0 ≡ head.reuse_max = cc in
    c.then_some.ensures
    ∙ only_where c.within_limits.result _ head c.within_limits.ensures.limits (λ i. record { scheme = a i; blocks = b i; pages = p i; sectors = s i; reuse_max = r i }) within
