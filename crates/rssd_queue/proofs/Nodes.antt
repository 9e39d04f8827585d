-- A node moves from one list of the order to its back, or to the back of the other list: the two lists have each node once.
use Rattle.std.proofs.Common.{◌≡◌, ℕ, ◌+◌, ◌<◌, ◌≤◌, inl, inr, List, [], ◌∷◌, ◌++◌, length, drop, refl, sym, ap, ◌∙◌, subst, arith, length-append}
use Rattle.std.proofs.lemmas.Bool.{cases_eq, eq-eqb, ne_eqb}
use Rattle.block_links.specs.Lists.{Lists, times, without, appended, removed, IsListed, IsFront}
use Rattle.block_links.proofs.Times.{times-append, times-head, times-tail, times-without_same, times-without_other, without_absent}
use Rattle.rssd_queue.specs.Kept.{HasNodes, order_in, unused_in}

pub length-without : (n : ℕ) (xs : List ℕ) → length xs ≡ length (without n xs) + times n xs
length-without n [] = refl
length-without n (x ∷ xs) = elim (cases_eq x n) [
  | inl same ↦ rw (eq-eqb x n same) (omega (arith, length-without n xs))
  | inr other ↦ rw (ne_eqb x n other) (omega (arith, length-without n xs))
]

times-one : (n m : ℕ) → times m (n ∷ []) ≤ 1
times-one n m = elim (cases_eq n m) [
  | inl same ↦ rw (eq-eqb n m same) (omega arith)
  | inr other ↦ rw (ne_eqb n m other) (omega arith)
]

-- these are the two lists of the order
pub with_lists : (o : Lists) (a b : List ℕ) → o.nodes ≡ 32 → ((m : ℕ) → times m a + times m b ≤ 1) → ((m : ℕ) → 0 < times m a + times m b → m < 32) → length a + length b ≡ 32
    → HasNodes (record o { lists = a ∷ b ∷ [] })
with_lists o a b nodes once below all = record { nodes = nodes; two_lists = refl; once = once; below = below; all = all }

module _ (o : Lists) (h : HasNodes o) (n : ℕ) where
  abbrev a : List ℕ
  a = order_in o

  abbrev b : List ℕ
  b = unused_in o

  -- how often a node stands in the lists is the same after one moved
  moved_times : (xs ys : List ℕ) → times n xs + times n ys ≡ 1 → (m : ℕ) → times m (without n xs) + times m (without n ys) + times m (n ∷ []) ≡ times m xs + times m ys
  moved_times xs ys one m = elim (cases_eq m n) [
    | inl same ↦ subst (λ (k : ℕ). times k (without n xs) + times k (without n ys) + times k (n ∷ []) ≡ times k xs + times k ys) (sym same)
        (omega (arith, times-without_same n xs, times-without_same n ys, times-head n []))
    | inr other ↦ omega (arith, times-without_other m n xs other, times-without_other m n ys other, times-tail m n [] (λ s. other (sym s)))
  ]

  module _ (waits : 0 < times n a) where
    pub order_within : n < 32
    order_within = h.below n (omega arith)

    once_in_order : times n a ≡ 1
    once_in_order = let o' = h.once n in omega arith

    not_unused : times n b ≡ 0
    not_unused = let o' = h.once n in omega arith

    pub order_listed : IsListed o.lists n
    order_listed = (0, waits)

    pub order_removed : removed o.lists n ≡ without n a ∷ b ∷ []
    order_removed = ap (λ ls. removed ls n) h.two_lists ∙ ap (λ y. without n a ∷ y ∷ []) (without_absent n b not_unused)

    times_moved : (m : ℕ) → times m (without n a) + times m b + times m (n ∷ []) ≡ times m a + times m b
    times_moved m = ap (λ y. times m (without n a) + times m y + times m (n ∷ [])) (sym (without_absent n b not_unused)) ∙ moved_times a b (omega (arith, once_in_order, not_unused)) m

    -- to the back of the order
    pub to_back : (p q : Lists) → p ≡ record o { lists = removed o.lists n } → q ≡ record p { lists = appended p.lists 0 n } → q ≡ record o { lists = (without n a ++ n ∷ []) ∷ b ∷ [] }
    to_back p q unlinked pushed = pushed ∙ ap (λ (r : Lists). record r { lists = appended r.lists 0 n }) unlinked ∙ ap (λ (ls : List (List ℕ)). record o { lists = appended ls 0 n }) order_removed

    pub has_turned : HasNodes (record o { lists = (without n a ++ n ∷ []) ∷ b ∷ [] })
    has_turned = with_lists o (without n a ++ n ∷ []) b h.nodes
        (λ m. let t = times_moved m in let u = times-append m (without n a) (n ∷ []) in let o' = h.once m in omega arith)
        (λ m some. h.below m (let t = times_moved m in let u = times-append m (without n a) (n ∷ []) in omega arith))
        (let l = length-without n a in let u = length-append (without n a) (n ∷ []) in let o' = once_in_order in let all = h.all in omega arith)

    -- to the unused ones
    pub to_unused : (p q : Lists) → p ≡ record o { lists = removed o.lists n } → q ≡ record p { lists = appended p.lists 1 n } → q ≡ record o { lists = without n a ∷ (b ++ n ∷ []) ∷ [] }
    to_unused p q unlinked pushed = pushed ∙ ap (λ (r : Lists). record r { lists = appended r.lists 1 n }) unlinked ∙ ap (λ (ls : List (List ℕ)). record o { lists = appended ls 1 n }) order_removed

    pub has_freed : HasNodes (record o { lists = without n a ∷ (b ++ n ∷ []) ∷ [] })
    has_freed = with_lists o (without n a) (b ++ n ∷ []) h.nodes
        (λ m. let t = times_moved m in let u = times-append m b (n ∷ []) in let o' = h.once m in omega arith)
        (λ m some. h.below m (let t = times_moved m in let u = times-append m b (n ∷ []) in omega arith))
        (let l = length-without n a in let u = length-append b (n ∷ []) in let o' = once_in_order in let all = h.all in omega arith)

  module _ (free : 0 < times n b) where
    pub unused_within : n < 32
    unused_within = h.below n (omega arith)

    once_unused : times n b ≡ 1
    once_unused = let o' = h.once n in omega arith

    pub not_in_order : times n a ≡ 0
    not_in_order = let o' = h.once n in omega arith

    pub unused_listed : IsListed o.lists n
    unused_listed = (1, free)

    pub unused_removed : removed o.lists n ≡ a ∷ without n b ∷ []
    unused_removed = ap (λ ls. removed ls n) h.two_lists ∙ ap (λ y. y ∷ without n b ∷ []) (without_absent n a not_in_order)

    times_used : (m : ℕ) → times m a + times m (without n b) + times m (n ∷ []) ≡ times m a + times m b
    times_used m = ap (λ y. times m y + times m (without n b) + times m (n ∷ [])) (sym (without_absent n a not_in_order)) ∙ moved_times a b (omega (arith, once_unused, not_in_order)) m

    -- to the back of the order
    pub to_order : (p q : Lists) → p ≡ record o { lists = removed o.lists n } → q ≡ record p { lists = appended p.lists 0 n } → q ≡ record o { lists = (a ++ n ∷ []) ∷ without n b ∷ [] }
    to_order p q unlinked pushed = pushed ∙ ap (λ (r : Lists). record r { lists = appended r.lists 0 n }) unlinked ∙ ap (λ (ls : List (List ℕ)). record o { lists = appended ls 0 n }) unused_removed

    pub has_used : HasNodes (record o { lists = (a ++ n ∷ []) ∷ without n b ∷ [] })
    has_used = with_lists o (a ++ n ∷ []) (without n b) h.nodes
        (λ m. let t = times_used m in let u = times-append m a (n ∷ []) in let o' = h.once m in omega arith)
        (λ m some. h.below m (let t = times_used m in let u = times-append m a (n ∷ []) in omega arith))
        (let l = length-without n b in let u = length-append a (n ∷ []) in let o' = once_unused in let all = h.all in omega arith)

-- the first of a list stands in it
pub front_stands : (xs : List ℕ) (n : ℕ) → IsFront xs n → 0 < times n xs
front_stands [] n front = absurd (omega (arith, front.0))
front_stands (x ∷ xs) n front = subst (λ (m : ℕ). 0 < times m (x ∷ xs)) front.1 (omega (arith, times-head x xs))

-- a list without its first, which stands in it once, is its rest
pub without-front : (xs : List ℕ) (n : ℕ) → IsFront xs n → times n xs ≤ 1 → without n xs ≡ drop 1 xs
without-front [] n front once = refl
without-front (x ∷ xs) n front once =
    let head = times-head x xs in
    let few : times x (x ∷ xs) ≤ 1 = subst (λ (m : ℕ). times m (x ∷ xs) ≤ 1) (sym front.1) once in
    rw (eq-eqb x n front.1) (without_absent n xs (subst (λ (m : ℕ). times m xs ≡ 0) front.1 (omega arith)))
