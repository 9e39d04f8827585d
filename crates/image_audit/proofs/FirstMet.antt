-- Numbers as they are first met: one number more goes last, where it is not there yet, and none is lost.
use Rattle.std.proofs.Common.{◌≡◌, inl, inr, ℕ, Bool, true, false, List, [], ◌∷◌, ◌++◌, filter, ◌||◌, ◌==◌, if◌then◌else◌, refl, sym, ap, ◌∙◌, subst}
use Rattle.std.specs.Prelude.{not, nat_eq}
use Rattle.std.specs.List.{list_any}
use Rattle.std.proofs.lemmas.Bool.{cases_Bool, cases_eq, eqb-true, eq-eqb, ne_eqb, false≢true}
use Rattle.std.proofs.lemmas.List.{append-nil}
use Rattle.std.proofs.lemmas.List.Elements.{filter-append}
use Rattle.page_codec.proofs.Newest.{Member}
use Rattle.image_audit.specs.Held.{first_met}

abbrev others : ℕ → List ℕ → List ℕ
others n ns = filter (λ m. not (n == m)) ns

abbrev any : ℕ → List ℕ → Bool
any k ns = list_any (nat_eq k) ns

keeps : (n m : ℕ) (ms : List ℕ) (t : Bool) → (n == m) ≡ t → others n (m ∷ ms) ≡ (if t then others n ms else m ∷ others n ms)
keeps n m ms true e = ap (λ (t : Bool). if not t then m ∷ others n ms else others n ms) e
keeps n m ms false e = ap (λ (t : Bool). if not t then m ∷ others n ms else others n ms) e

-- another number is among the others exactly where it was there
any_others : (k n : ℕ) (ns : List ℕ) → (k == n) ≡ false → any k (others n ns) ≡ any k ns
any_others k n [] apart = refl
any_others k n (m ∷ ms) apart = elim (cases_Bool (n == m)) [
  | inl same ↦ (
      let here : (k == m) ≡ false = subst (λ (x : ℕ). (k == x) ≡ false) (eqb-true n m same) apart in
      ap (any k) (keeps n m ms true same) ∙ (any_others k n ms apart ∙ sym (ap (λ (t : Bool). t || any k ms) here)))
  | inr other ↦ ap (any k) (keeps n m ms false other) ∙ ap (λ (t : Bool). (k == m) || t) (any_others k n ms apart)
]

-- how a front stands before and after one number more, by whether the number is in the rest and in the front
abbrev Pushed : ℕ → ℕ → List ℕ → Bool → Bool → Type 0
Pushed n k ms b t = n ∷ others n (if b then ms else ms ++ k ∷ []) ≡ (if t then n ∷ others n ms else (n ∷ others n ms) ++ k ∷ [])

-- one number more
pub first_met-push : (ns : List ℕ) (k : ℕ) → first_met (ns ++ k ∷ []) ≡ (if any k (first_met ns) then first_met ns else first_met ns ++ k ∷ [])
unfolding first_met
first_met-push [] k = refl
first_met-push (n ∷ ns) k =
    ap (λ (ms : List ℕ). n ∷ others n ms) (first_met-push ns k) ∙ at (any k (first_met ns)) refl
  where
    ms : List ℕ
    ms = first_met ns

    same : (k == n) ≡ true → n ∷ others n (ms ++ k ∷ []) ≡ n ∷ others n ms
    same e = ap (λ (xs : List ℕ). n ∷ xs) (filter-append (λ m. not (n == m)) ms (k ∷ [])
        ∙ (ap (λ (xs : List ℕ). others n ms ++ xs) (keeps n k [] true (eq-eqb n k (sym (eqb-true k n e)))) ∙ append-nil (others n ms)))

    apart : (k == n) ≡ false → n ∷ others n (ms ++ k ∷ []) ≡ (n ∷ others n ms) ++ k ∷ []
    apart e = ap (λ (xs : List ℕ). n ∷ xs) (filter-append (λ m. not (n == m)) ms (k ∷ [])
        ∙ ap (λ (xs : List ℕ). others n ms ++ xs) (keeps n k [] false (ne_eqb n k (λ s. false≢true (sym e ∙ eq-eqb k n (sym s))))))

    known : (b : Bool) → (k == n) ≡ true → Pushed n k ms b true
    known true is = refl
    known false is = same is

    new : (b : Bool) → (k == n) ≡ false → Pushed n k ms b b
    new true isnt = refl
    new false isnt = apart isnt

    at : (b : Bool) → any k ms ≡ b → Pushed n k ms b ((k == n) || any k (others n ms))
    at b e = elim (cases_Bool (k == n)) [
      | inl is ↦ subst (Pushed n k ms b) (sym (ap (λ (t : Bool). t || any k (others n ms)) is)) (known b is)
      | inr isnt ↦ subst (Pushed n k ms b) (sym (ap (λ (t : Bool). t || any k (others n ms)) isnt ∙ (any_others k n ms isnt ∙ e))) (new b isnt)
    ]

-- a number that was met is there
member_others : (k n : ℕ) (ns : List ℕ) → Member k ns → (k ≡ n → ⊥) → Member k (others n ns)
member_others k n [] m apart = absurd m
member_others k n (x ∷ xs) m apart = elim (cases_Bool (n == x)) [
  | inl same ↦ subst (Member k) (sym (keeps n x xs true same)) (elim m [
    | inl here ↦ absurd (apart (here ∙ sym (eqb-true n x same)))
    | inr later ↦ member_others k n xs later apart
  ])
  | inr other ↦ subst (Member k) (sym (keeps n x xs false other)) (elim m [
    | inl here ↦ inl here
    | inr later ↦ inr (member_others k n xs later apart)
  ])
]

pub member_met : (k : ℕ) (ns : List ℕ) → Member k ns → Member k (first_met ns)
unfolding first_met
member_met k [] m = absurd m
member_met k (n ∷ ns) m = elim (cases_eq k n) [
  | inl same ↦ inl same
  | inr apart ↦ elim m [
    | inl here ↦ inl here
    | inr later ↦ inr (member_others k n (first_met ns) (member_met k ns later) apart)
  ]
]

-- and none is there that was not met
others_member : (k n : ℕ) (ns : List ℕ) → Member k (others n ns) → Member k ns
others_member k n [] m = m
others_member k n (x ∷ xs) m = elim (cases_Bool (n == x)) [
  | inl same ↦ inr (others_member k n xs (subst (Member k) (keeps n x xs true same) m))
  | inr other ↦ elim (subst (Member k) (keeps n x xs false other) m) [
    | inl here ↦ inl here
    | inr later ↦ inr (others_member k n xs later)
  ]
]

pub met_member : (k : ℕ) (ns : List ℕ) → Member k (first_met ns) → Member k ns
unfolding first_met
met_member k [] m = m
met_member k (n ∷ ns) m = elim m [
  | inl here ↦ inl here
  | inr later ↦ inr (met_member k ns (others_member k n (first_met ns) later))
]
