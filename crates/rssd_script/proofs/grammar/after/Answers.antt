-- A text begins with a word exactly where `strip_prefix` finds it.
use Rattle.std.proofs.Common.{◌≡◌, ℕ, ◌+◌, List, ◌++◌, length, take, drop, true, false, true≢false, ap, sym, ◌∙◌, refl, eqb, Option, Some, None, IfSome, IfNone}
use Rattle.std.specs.Option.{MatchOption}
use Rattle.std.specs.Borrow.{Bor}
use Rattle.std.specs.Cmp.Lexicographic.{pointwise, bytes_decides}
use Rattle.std.proofs.lemmas.List.{take-append-drop, take_at}
use Rattle.rssd_script.proofs.grammar.after.Goals as goal

front : (text word rest : List ℕ) → pointwise eqb (take (length word) text) word ≡ true → rest ≡ drop (length word) text → text ≡ word ++ rest
front text word rest h e =
    let w : take (length word) text ≡ word = (bytes_decides _ _).0 h in
    sym (take-append-drop (length word) text) ∙ (λ i. w i ++ sym e i)

no_front : (text word rest : List ℕ) → pointwise eqb (take (length word) text) word ≡ false → text ≡ word ++ rest → ⊥
no_front text word rest h e =
    let t : take (length word) text ≡ word = ap (take (length word)) e ∙ take_at word rest (length word) refl in
    true≢false (sym ((bytes_decides _ _).1 t) ∙ h)

found : (text word : List ℕ) (r : Option (Bor (List ℕ)))
    → MatchOption r (pointwise eqb (take (length word) text) word ≡ false)
    (λ x. (pointwise eqb (take (length word) text) word ≡ true) × (x.now ≡ drop (length word) text) × (length x.now + length word ≡ length text)) → IfSome r (λ rest. text ≡ word ++ rest.now)
found text word None h = tt
found text word (Some x) h = front text word x.now h.0 h.1

none : (text word : List ℕ) (r : Option (Bor (List ℕ)))
    → MatchOption r (pointwise eqb (take (length word) text) word ≡ false)
    (λ x. (pointwise eqb (take (length word) text) word ≡ true) × (x.now ≡ drop (length word) text) × (length x.now + length word ≡ length text)) → IfNone r ((rest : List ℕ) → text ≡ word ++ rest → ⊥)
none text word None h = λ rest e. no_front text word rest h e
none text word (Some x) h = tt

pub returns-clause-found : goal.returns-clause-found
returns-clause-found c = found c.args.text.now c.args.word.now c.strip_prefix.result c.strip_prefix.ensures.cases

pub returns-clause-none : goal.returns-clause-none
returns-clause-none c = none c.args.text.now c.args.word.now c.strip_prefix.result c.strip_prefix.ensures.cases
