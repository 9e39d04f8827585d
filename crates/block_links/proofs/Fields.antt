-- What the writes of `Links` leave in its fields, in the form in which its functions read and write them.
use Rattle.std.proofs.Common.{◌≡◌, ℕ, ◌+◌, ◌^◌, ◌<◌, ◌≤◌, inl, inr, Option, Some, None, List, [], ◌∷◌, length, replicate, get_or, set, refl, sym, ap, ◌∙◌, subst, arith}
use Rattle.std.proofs.lemmas.List.{get_or_past, get_or_default, length-replicate, get_or-replicate}
use Rattle.std.proofs.lemmas.Bool.{cases_lt}
use Rattle.block_links.specs.Lists.{times, list_at, appended, removed, IsFree, IsListed}
use Rattle.block_links.specs.Ring.{lists_of, times_at, home_of, IsLinked}
use Rattle.block_links.proofs.Times.{times-head}
use Rattle.block_links.proofs.Leads.{Leads-first}
use Rattle.block_links.proofs.Ring.{ends_apart, lists_of_is, node_within}
use Rattle.block_links.proofs.Unlinked.{before_within, after_within, unlinked}
use Rattle.block_links.proofs.Pushed.{last_within, pushed}

-- The fields after writes hold the lists, as the fields themselves give them.
pub record Holds (next prev : List ℕ) (home : List (Option ℕ)) (ls : List (List ℕ)) : Type 0 where
  pub kept : IsLinked next prev home (lists_of next (length home))
  pub lists : lists_of next (length home) ≡ ls

pub holds : (next prev : List ℕ) (home : List (Option ℕ)) (ls : List (List ℕ)) → IsLinked next prev home ls → Holds next prev home ls
holds next prev home ls linked = record {
  kept = subst (IsLinked next prev home) (sym (lists_of_is next prev home ls linked)) linked;
  lists = lists_of_is next prev home ls linked;
}

-- a read at any default
read_at : (xs : List ℕ) (i x : ℕ) → i < length xs → x ≡ get_or xs i x → x ≡ get_or xs i 0
read_at xs i x within read = read ∙ get_or_default xs i x 0 within

module _ (next prev : List ℕ) (home : List (Option ℕ)) (linked : IsLinked next prev home (lists_of next (length home))) where
  module _ (n before after : ℕ) (listed : IsListed (lists_of next (length home)) n) (reads_before : before ≡ get_or prev n before) (reads_after : after ≡ get_or next n after) where
    within : n < length home
    within = node_within next prev home (lists_of next (length home)) linked n listed.0 listed.1

    before_at : before ≡ get_or prev n 0
    before_at = read_at prev n before (omega (arith, linked.prev_len, within)) reads_before

    after_at : after ≡ get_or next n 0
    after_at = read_at next n after (omega (arith, linked.next_len, within)) reads_after

    pub unlink_before : before < length next
    unlink_before = omega (arith, before_at, before_within next prev home (lists_of next (length home)) linked n listed.0 listed.1, linked.next_len)

    pub unlink_after : after < length prev
    unlink_after = omega (arith, after_at, after_within next prev home (lists_of next (length home)) linked n listed.0 listed.1, linked.prev_len)

    pub unlink_holds : Holds (set next before after) (set prev after before) (set home n None) (removed (lists_of next (length home)) n)
    unlink_holds = rw (before_at, after_at) (holds _ _ _ _ (unlinked next prev home (lists_of next (length home)) linked n listed.0 listed.1))

  module _ (n b end last : ℕ) (bucket : b < length (lists_of next (length home))) (node : n < length home) (free : IsFree (lists_of next (length home)) n) (end_is : end ≡ length home + b)
      (reads_last : last ≡ get_or prev end last) where
    last_at : last ≡ get_or prev (length home + b) 0
    last_at = read_at prev (length home + b) last (omega (arith, linked.prev_len)) (rw (← end_is) reads_last)

    pub push_last : last < length next
    push_last = omega (arith, last_at, last_within next prev home (lists_of next (length home)) linked n b bucket node free, linked.next_len)

    pub push_holds : Holds (set (set next last n) n end) (set (set prev n last) end n) (set home n (Some b)) (appended (lists_of next (length home)) b n)
    push_holds = rw (last_at, end_is) (holds _ _ _ _ (pushed next prev home (lists_of next (length home)) linked n b bucket node free))

  module _ (b end first : ℕ) (bucket : b < length (lists_of next (length home))) (end_is : end ≡ length home + b) (reads_first : first ≡ get_or next end first) where
    first_at : first ≡ get_or (list_at (lists_of next (length home)) b) 0 end
    first_at = read_at next end first (omega (arith, linked.next_len)) reads_first ∙ rw end_is (Leads-first next (length home + b) _ (length home + b) (linked.forward b bucket))

    -- the list is empty where its end leads to itself
    pub front_none : first ≡ end → list_at (lists_of next (length home)) b ≡ []
    front_none same = empty (list_at (lists_of next (length home)) b) (λ v. ends_apart next prev home (lists_of next (length home)) linked v b) first_at
      where
        empty : (xs : List ℕ) → ((v : ℕ) → length home ≤ v → times v xs ≡ 0) → first ≡ get_or xs 0 end → xs ≡ []
        empty [] off at = refl
        empty (x ∷ xs) off at = absurd (let h = times-head x xs in omega (arith, off x (omega arith)))

    -- else its end leads to its first node
    pub front_some : (first ≡ end → ⊥) → (0 < length (list_at (lists_of next (length home)) b)) × (get_or (list_at (lists_of next (length home)) b) 0 0 ≡ first) × (first < length home)
    front_some apart = found (list_at (lists_of next (length home)) b) (λ v. ends_apart next prev home (lists_of next (length home)) linked v b) first_at
      where
        found : (xs : List ℕ) → ((v : ℕ) → length home ≤ v → times v xs ≡ 0) → first ≡ get_or xs 0 end → (0 < length xs) × (get_or xs 0 0 ≡ first) × (first < length home)
        found [] off at = absurd (apart at)
        found (x ∷ xs) off at = (
          omega arith,
          sym at,
          elim (cases_lt first (length home)) [
            | inl lt ↦ lt
            | inr past ↦ absurd (let h = times-head x xs in omega (arith, off x (omega arith)))
          ],
        )

-- new fields hold empty lists
module _ (next prev : List ℕ) (home : List (Option ℕ)) (nodes buckets : ℕ) (next_is : (length next ≡ nodes + buckets) × ((k : ℕ) → k < length next → get_or next k 0 ≡ k))
    (prev_is : (length prev ≡ nodes + buckets) × ((k : ℕ) → k < length prev → get_or prev k 0 ≡ k)) (home_is : home ≡ replicate nodes None) where
  home_len : length home ≡ nodes
  home_len = ap length home_is ∙ length-replicate nodes None

  at_empty : (b : ℕ) → list_at (replicate buckets []) b ≡ []
  at_empty b = elim (cases_lt b buckets) [
    | inl within ↦ get_or-replicate buckets b [] [] within
    | inr past ↦ get_or_past (replicate {A = List ℕ} buckets []) b [] (omega (arith, length-replicate {A = List ℕ} buckets []))
  ]

  none_home : (n : ℕ) → home_of home n ≡ None
  none_home n = ap (λ h. home_of h n) home_is ∙ elim (cases_lt n nodes) [
    | inl within ↦ get_or-replicate nodes n None None within
    | inr past ↦ get_or_past (replicate {A = Option ℕ} nodes None) n None (omega (arith, length-replicate {A = Option ℕ} nodes None))
  ]

  pub new_holds : nodes < 2 ^ 32 → buckets < 2 ^ 32 → Holds next prev home (replicate buckets [])
  new_holds few_nodes few_buckets =
      let count = length-replicate {A = List ℕ} buckets [] in
      holds next prev home (replicate buckets []) (record {
        forward = λ b within. rw at_empty (next_is.1 (length home + b) (omega (arith, home_len, next_is.0)));
        backward = λ b within. rw at_empty (prev_is.1 (length home + b) (omega (arith, home_len, prev_is.0)));
        stands = λ n b. ap (times n) (at_empty b) ∙ sym (ap (λ o. times_at o b) (none_home n));
        next_len = omega (arith, home_len, next_is.0);
        prev_len = omega (arith, home_len, prev_is.0);
        few_nodes = omega (arith, home_len);
        few_lists = omega arith;
      })
