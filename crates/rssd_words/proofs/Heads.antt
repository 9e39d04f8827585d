-- Heads within limits and their words.
use Rattle.std.proofs.Common.{◌≡◌, ℕ, ◌^◌, ◌<◌, Bool, true, false, List, Some, refl, sym, ap, ◌∙◌, arith}
use Rattle.std.specs.Bool.{then_some}
use Rattle.std.specs.Prelude.{IfSome, decimal}
use Rattle.std.specs.Str.Parse.{digits_value}
use Rattle.std.proofs.lemmas.Fmt.{decimal_is_IsNumeral}
use Rattle.die_image.specs.declared.head.ImageHead.{ImageHead}
use Rattle.die_image.specs.Image.{is_within_limits}
use Rattle.die_image.proofs.Again.{are_words}
use Rattle.rssd_words.specs.Commands.{head_words}
use Rattle.rssd_words.proofs.Names.{names_same}

pub decimals_same : (m n : ℕ) → m < 2 ^ 64 → n < 2 ^ 64 → decimal m ≡ decimal n → m ≡ n
decimals_same m n hm hn e = sym (decimal_is_IsNumeral m hm).1 ∙ ap (digits_value 10) e ∙ (decimal_is_IsNumeral n hn).1

pub heads_same : (a b : ImageHead) → is_within_limits a ≡ true → is_within_limits b ≡ true → head_words a ≡ head_words b → a ≡ b
heads_same a b ha hb e =
    let wa = are_words a ha in
    let wb = are_words b hb in
    let scheme = names_same a.scheme b.scheme (cc) in
    let blocks = decimals_same a.blocks b.blocks (omega (arith, wa.blocks)) (omega (arith, wb.blocks)) (cc) in
    let pages = decimals_same a.pages b.pages (omega (arith, wa.pages)) (omega (arith, wb.pages)) (cc) in
    let sectors = decimals_same a.sectors b.sectors (omega (arith, wa.sectors)) (omega (arith, wb.sectors)) (cc) in
    let reuse_max = decimals_same a.reuse_max b.reuse_max (omega (arith, wa.reuse_max)) (omega (arith, wb.reuse_max)) (cc) in
    λ i. record { scheme = scheme i; blocks = blocks i; pages = pages i; sectors = sectors i; reuse_max = reuse_max i }

-- the head that was made is the one that its words spell, where it is within limits
pub found_where : (b : Bool) (head : ImageHead) (words : List (List ℕ)) → b ≡ is_within_limits head → words ≡ head_words head →
    IfSome (then_some b head) (λ found. (is_within_limits found ≡ true) × (words ≡ head_words found))
found_where true head words within spelled = (sym within, spelled)
found_where false head words within spelled = tt

pub only_where : (b : Bool) (made head : ImageHead) → b ≡ is_within_limits made → made ≡ head → is_within_limits head ≡ true → then_some b made ≡ Some head
only_where b made head is same within =
    let holds : b ≡ true = is ∙ ap is_within_limits same ∙ within in
    rw (holds, same) refl
