-- All nodes become unused, one by one.
use Rattle.std.proofs.Common.{◌≡◌, ℕ, zero, suc, ◌+◌, ◌<◌, ◌≤◌, inl, inr, [], ◌∷◌, ◌++◌, length, refl, sym, ap, ◌∙◌, subst, arith, length-append}
use Rattle.std.proofs.lemmas.Bool.{cases_eq, cases_lt}
use Rattle.std.proofs.lemmas.List.{get_or_past}
use Rattle.block_links.specs.Lists.{Lists, times, list_at, appended, IsFree}
use Rattle.block_links.proofs.Times.{times-append, times-head, times-tail}
use Rattle.rssd_queue.specs.Kept.{HasNodes, order_in, unused_in}

-- the nodes below this one are unused
pub record IsUnusedBelow (o : Lists) (n : ℕ) : Type 0 where
  pub nodes : o.nodes ≡ 32
  pub two_lists : o.lists ≡ [] ∷ unused_in o ∷ []
  pub once : (m : ℕ) → times m (unused_in o) ≤ 1
  pub below : (m : ℕ) → 0 < times m (unused_in o) → m < n
  pub count : length (unused_in o) ≡ n

-- the node after them stands in no list
pub next_free : (o : Lists) (n : ℕ) → IsUnusedBelow o n → IsFree o.lists n
next_free o n unused zero = ap (λ ls. times n (list_at ls 0)) unused.two_lists
next_free o n unused (suc zero) = elim (cases_lt 0 (times n (unused_in o))) [
  | inl some ↦ absurd (let b = unused.below n some in omega arith)
  | inr none ↦ omega arith
]
next_free o n unused (suc (suc b)) = ap (times n) (get_or_past o.lists (suc (suc b)) [] (let l = ap length unused.two_lists in omega arith))

pub next_unused : (o p : Lists) (n : ℕ) → IsUnusedBelow o n → p ≡ record o { lists = appended o.lists 1 n } → IsUnusedBelow p (n + 1)
next_unused o p n unused is =
    let free = next_free o n unused 1 in
    subst (λ q. IsUnusedBelow q (n + 1)) (sym (is ∙ ap (λ ls. record o { lists = appended ls 1 n }) unused.two_lists))
    (record {
      nodes = unused.nodes;
      two_lists = refl;
      once = λ m. elim (cases_eq m n) [
        | inl same ↦ subst (λ (k : ℕ). times k (unused_in o ++ n ∷ []) ≤ 1) (sym same) (omega (arith, times-append n (unused_in o) (n ∷ []), times-head n [], free))
        | inr other ↦ omega (arith, times-append m (unused_in o) (n ∷ []), times-tail m n [] (λ s. other (sym s)), unused.once m)
      ];
      below = λ m some. elim (cases_eq m n) [
        | inl same ↦ omega arith
        | inr other ↦ let b = unused.below m (let t = times-append m (unused_in o) (n ∷ []) in let u = times-tail m n [] (λ s. other (sym s)) in omega arith) in omega arith
      ];
      count = length-append (unused_in o) (n ∷ []) ∙ ap (λ (k : ℕ). k + 1) unused.count;
    })

pub all_unused : (o : Lists) → IsUnusedBelow o 32 → HasNodes o × (order_in o ≡ [])
all_unused o unused =
    let none : order_in o ≡ [] = ap (λ ls. list_at ls 0) unused.two_lists in (
      record {
        nodes = unused.nodes;
        two_lists = unused.two_lists ∙ ap (λ xs. xs ∷ unused_in o ∷ []) (sym none);
        once = λ m. let t = ap (times m) none in let u = unused.once m in omega arith;
        below = λ m some. unused.below m (let t = ap (times m) none in omega arith);
        all = let l = ap length none in let u = unused.count in omega arith;
      },
      none,
    )
