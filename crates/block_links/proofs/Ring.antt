-- What holds of fields that hold lists: rings share no place, and the walk over each ring finds its list.
use Rattle.std.proofs.Common.{◌≡◌, ℕ, ◌+◌, ◌-◌, ◌<◌, ◌≤◌, inl, inr, Option, Some, None, List, [], ◌∷◌, length, refl, sym, ap, ◌∙◌, subst, arith}
use Rattle.std.proofs.lemmas.List.{get_or_past, get_or-map, length-map}
use Rattle.std.proofs.lemmas.List.FromFn.{fill_by_all}
use Rattle.std.proofs.lemmas.Bool.{cases_eq, cases_lt, eq-eqb, ne_eqb}
use Rattle.block_links.specs.Lists.{IsValid, times, without, list_at, removed, IsFree}
use Rattle.block_links.specs.Ring.{list_of, lists_of, times_at, home_of, IsLinked}
use Rattle.block_links.proofs.Times.{times-head, times-tail, times-without_same, length-le_from_below}
use Rattle.block_links.proofs.Leads.{walk_is}

times_at-le : (o : Option ℕ) (b : ℕ) → times_at o b ≤ 1
times_at-le None b = omega arith
times_at-le (Some c) b = elim (cases_eq c b) [
  | inl same ↦ rw (eq-eqb c b same) (omega arith)
  | inr other ↦ rw (ne_eqb c b other) (omega arith)
]

-- no home is two lists
pub times_at_apart : (o : Option ℕ) (b c : ℕ) → (b ≡ c → ⊥) → times_at o b + times_at o c ≤ 1
times_at_apart None b c apart = omega arith
times_at_apart (Some a) b c apart = elim (cases_eq a b) [
  | inl same ↦ rw (eq-eqb a b same, ne_eqb a c (λ e. apart (sym same ∙ e))) (omega arith)
  | inr other ↦ rw (ne_eqb a b other) (omega (arith, times_at-le (Some a) c))
]

-- where a home is counted, it is that home
times_at_some : (o : Option ℕ) (b : ℕ) → 0 < times_at o b → o ≡ Some b
times_at_some None b some = absurd (omega arith)
times_at_some (Some c) b some = elim (cases_eq c b) [
  | inl same ↦ ap (λ v. Some v) same
  | inr other ↦ absurd (let e : times_at (Some c) b ≡ 0 = rw (ne_eqb c b other) refl in omega arith)
]

list_at_past : (ls : List (List ℕ)) (b v : ℕ) → length ls ≤ b → times v (list_at ls b) ≡ 0
list_at_past ls b v past = ap (times v) (get_or_past ls b [] past)

pub list_at-removed : (ls : List (List ℕ)) (n b : ℕ) → list_at (removed ls n) b ≡ without n (list_at ls b)
list_at-removed ls n b = elim (cases_lt b (length ls)) [
  | inl within ↦ get_or-map (without n) ls b [] [] within
  | inr past ↦ get_or_past (removed ls n) b [] (omega (arith, length-map ls (without n))) ∙ sym (ap (without n) (get_or_past ls b [] past))
]

pub IsFree-removed : (ls : List (List ℕ)) (n : ℕ) → IsFree (removed ls n) n
IsFree-removed ls n b = ap (times n) (list_at-removed ls n b) ∙ times-without_same n (list_at ls b)

module _ (next prev : List ℕ) (home : List (Option ℕ)) (ls : List (List ℕ)) (linked : IsLinked next prev home ls) where
  -- an end is no node
  pub ends_apart : (v b : ℕ) → length home ≤ v → times v (list_at ls b) ≡ 0
  ends_apart v b end = linked.stands v b ∙ ap (λ o. times_at o b) (get_or_past home v None end)

  pub once : (v b : ℕ) → times v (list_at ls b) ≤ 1
  once v b = omega (arith, linked.stands v b, times_at-le (home_of home v) b)

  pub ring_once : (v b : ℕ) → times v ((length home + b) ∷ list_at ls b) ≤ 1
  ring_once v b = elim (cases_eq (length home + b) v) [
    | inl same ↦ subst (λ (w : ℕ). times w ((length home + b) ∷ list_at ls b) ≤ 1) same (omega (arith, times-head (length home + b) (list_at ls b), ends_apart (length home + b) b (omega arith)))
    | inr other ↦ omega (arith, times-tail v (length home + b) (list_at ls b) other, once v b)
  ]

  -- a number is on one ring at most
  pub rings_apart : (v b c : ℕ) → (b ≡ c → ⊥) → 0 < times v ((length home + b) ∷ list_at ls b) → times v ((length home + c) ∷ list_at ls c) ≡ 0
  rings_apart v b c apart here = elim (cases_lt v (length home)) [
    | inl node ↦ omega (
      arith,
      times-tail v (length home + b) (list_at ls b) (λ e. omega arith),
      times-tail v (length home + c) (list_at ls c) (λ e. omega arith),
      linked.stands v b,
      linked.stands v c,
      times_at_apart (home_of home v) b c apart,
    )
    | inr end ↦ elim (cases_eq (length home + c) v) [
      | inl same ↦ let t = times-tail v (length home + b) (list_at ls b) (λ e. apart (omega arith)) in absurd (omega (arith, ends_apart v b end))
      | inr other ↦ times-tail v (length home + c) (list_at ls c) other ∙ ends_apart v c end
    ]
  ]

  -- what is on a ring is a place
  pub on_ring : (v b : ℕ) → b < length ls → 0 < times v ((length home + b) ∷ list_at ls b) → v < length home + length ls
  on_ring v b within here = elim (cases_lt v (length home + length ls)) [
    | inl lt ↦ lt
    | inr past ↦ absurd (omega (arith, times-tail v (length home + b) (list_at ls b) (λ e. omega arith), ends_apart v b (omega arith)))
  ]

  -- the fields give the lists
  pub lists_of_is : lists_of next (length home) ≡ ls
  lists_of_is =
      let few = linked.next_len in
      sym (fill_by_all (list_of next (length home)) ls (length next - length home) [] (omega arith) (λ k within. sym (walk_is next (length home + k) (length home + k) (list_at ls k) (length home + 1)
      (ends_apart (length home + k) k (omega arith))
      (omega (arith, length-le_from_below (length home) (list_at ls k) (λ v. once v k) (λ v end. ends_apart v k end)))
      (linked.forward k (omega arith)))))

  module _ (n b : ℕ) (here : 0 < times n (list_at ls b)) where
    home_here : home_of home n ≡ Some b
    home_here = times_at_some (home_of home n) b (omega (arith, linked.stands n b))

    pub node_within : n < length home
    node_within = elim (cases_lt n (length home)) [
      | inl lt ↦ lt
      | inr past ↦ absurd (omega (arith, ends_apart n b past))
    ]

    pub bucket_within : b < length ls
    bucket_within = elim (cases_lt b (length ls)) [
      | inl lt ↦ lt
      | inr past ↦ absurd (omega (arith, list_at_past ls b n past))
    ]

  -- so no node stands twice
  pub is_valid : IsValid (record { nodes = length home; lists = ls })
  is_valid = record {
    once = once;
    one_list = λ n b c here there. elim (cases_eq b c) [
      | inl same ↦ same
      | inr other ↦ absurd (omega (arith, linked.stands n b, linked.stands n c, times_at_apart (home_of home n) b c other))
    ];
    in_range = node_within;
  }
