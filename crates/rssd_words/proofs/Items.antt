-- The words of a list, item by item.
use Rattle.std.proofs.Common.{◌≡◌, ℕ, ◌<◌, List, [], ◌∷◌, length, map, get_or, sym, ap, ◌∙◌, arith}
use Rattle.std.proofs.lemmas.List.{get_or-map}

-- the item at an index has the word that stands there
pub word_at : {A : Type 0} (f : A → List ℕ) (xs : List A) {words : List (List ℕ)} {x : A} → map f xs ≡ words → (i : ℕ) → i < length xs → x ≡ get_or xs i x → f x ≡ get_or words i []
word_at f xs {x = x} spelled i inside is = ap f is ∙ sym (get_or-map f xs i x [] inside) ∙ ap (λ (list : List (List ℕ)). get_or list i []) spelled

pub five_items : {A : Type 0} (f : A → List ℕ) (xs : List A) {a b c d e : A} → length xs ≡ 5
    → a ≡ get_or xs 0 a → b ≡ get_or xs 1 b → c ≡ get_or xs 2 c → d ≡ get_or xs 3 d → e ≡ get_or xs 4 e
    → map f xs ≡ f a ∷ f b ∷ f c ∷ f d ∷ f e ∷ []
five_items f (x0 ∷ x1 ∷ x2 ∷ x3 ∷ x4 ∷ []) len pa pb pc pd pe =
    λ i. f (sym pa i) ∷ f (sym pb i) ∷ f (sym pc i) ∷ f (sym pd i) ∷ f (sym pe i) ∷ []
five_items f xs len pa pb pc pd pe = absurd (omega arith)
