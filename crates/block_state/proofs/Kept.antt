-- The fields of `Book` keep its value over each change: list `k` of `by_live` stays the part of the order with live count `k`.
use Rattle.std.proofs.Common.{◌≡◌, ℕ, ◌+◌, ◌*◌, ◌<◌, ◌≤◌, inl, inr, Bool, true, false, cond, if◌then◌else◌, IfSome, eqb, Option, Some, None, List, [], ◌∷◌, ◌++◌, length, replicate, get_or, set}
use Rattle.std.proofs.Common.{refl, sym, ap, ◌∙◌, subst, arith, get_or-set_same, get_or-set_other, length-set}
use Rattle.std.specs.List.{filter}
use Rattle.std.proofs.lemmas.Bool.{cases_eq, cases_lt, cases_Bool, eq-eqb, eqb-true, ne_eqb, false≢true}
use Rattle.std.proofs.lemmas.List.{get_or_past, get_or_default, length-map, length-replicate, get_or-replicate}
use Rattle.std.proofs.lemmas.List.Elements.{filter-append}
use Rattle.block_links.specs.Lists.{Lists, times, without, list_at, appended, removed, IsFree, IsListed}
use Rattle.block_links.proofs.Times.{without_absent, times-head}
use Rattle.block_links.proofs.Ring.{list_at-removed}
use Rattle.block_state.specs.declared.state.State.{State}
use Rattle.block_state.specs.declared.state.State.TheVariants.{Clean}
use Rattle.block_state.specs.State.{is_closed, is_active, InRange}
use Rattle.block_state.specs.Book.{BookValue, IsValid, IsClosed, IsActive, state_at, live_at, reordered, with_state}
use Rattle.block_state.specs.Victim.{IsLeast}
use Rattle.block_state.specs.Kept.{IsKept, is_at, relisted}
use Rattle.block_state.proofs.Order.{filter-without, times-filter, times-filter-le, times-filter_none, first_of_filter, times-reordered_same, times-reordered_other, times-moved_back}

list_at_past : (ls : List (List ℕ)) (b v : ℕ) → length ls ≤ b → times v (list_at ls b) ≡ 0
list_at_past ls b v past = ap (times v) (get_or_past ls b [] past)

at_appended_same : (ls : List (List ℕ)) (b n : ℕ) → b < length ls → list_at (appended ls b n) b ≡ list_at ls b ++ n ∷ []
at_appended_same ls b n within = get_or-set_same ls b (list_at ls b ++ n ∷ []) [] within

at_appended_other : (ls : List (List ℕ)) (b c n : ℕ) → (c ≡ b → ⊥) → list_at (appended ls b n) c ≡ list_at ls c
at_appended_other ls b c n other = get_or-set_other ls b c (list_at ls b ++ n ∷ []) [] other

filter_one : (p : ℕ → Bool) (b : ℕ) → p b ≡ true → filter p (b ∷ []) ≡ b ∷ []
filter_one p b passes = rw passes refl

filter_none : (p : ℕ → Bool) (b : ℕ) → p b ≡ false → filter p (b ∷ []) ≡ []
filter_none p b fails = rw fails refl

append-nil : (xs : List ℕ) → xs ++ [] ≡ xs
append-nil [] = refl
append-nil (x ∷ xs) = ap (λ ys. x ∷ ys) (append-nil xs)

-- where the Active block is kept, there is one at most
one_from : (v : BookValue) (o : Option ℕ) → ((b : ℕ) → is_active (state_at v b) ≡ is_at o b) → (b c : ℕ) → IsActive v b → IsActive v c → b ≡ c
one_from v None is b c b_is c_is = absurd (false≢true (sym (is b) ∙ b_is))
one_from v (Some a) is b c b_is c_is = sym (eqb-true a b (sym (is b) ∙ b_is)) ∙ eqb-true a c (sym (is c) ∙ c_is)

module _ (v : BookValue) (order by_live : Lists) (active : Option ℕ) (kept : IsKept v order by_live active) where
  once_closed : (b : ℕ) → IsClosed v b → times b v.order ≡ 1
  once_closed b closed = kept.valid.ordered b ∙ ap (λ t. cond t 1 0) closed

  none_open : (b : ℕ) → is_closed (state_at v b) ≡ false → times b v.order ≡ 0
  none_open b open' = kept.valid.ordered b ∙ ap (λ t. cond t 1 0) open'

  part_of : (b : ℕ) → IsClosed v b → times b (list_at by_live.lists (live_at v b)) ≡ 1
  part_of b closed = ap (times b) (kept.parts (live_at v b)) ∙ times-filter (λ c. eqb (live_at v c) (live_at v b)) b v.order (eq-eqb (live_at v b) (live_at v b) refl) ∙ once_closed b closed

  -- a closed block stands in both
  pub order_listed : (b : ℕ) → IsClosed v b → IsListed order.lists b
  order_listed b closed = (0, omega (arith, ap (times b) kept.order_is, once_closed b closed))

  pub live_listed : (b : ℕ) → IsClosed v b → IsListed by_live.lists b
  live_listed b closed = (live_at v b, omega (arith, part_of b closed))

  -- any other in neither
  pub order_free : (b : ℕ) → is_closed (state_at v b) ≡ false → IsFree order.lists b
  order_free b open' c = elim (cases_lt 0 c) [
    | inl past ↦ list_at_past order.lists c b (omega (arith, kept.order_lists))
    | inr first ↦ let zero_is : 0 ≡ c = omega arith in subst (λ (d : ℕ). times b (list_at order.lists d) ≡ 0) zero_is (ap (times b) kept.order_is ∙ none_open b open')
  ]

  pub live_free : (b : ℕ) → is_closed (state_at v b) ≡ false → IsFree by_live.lists b
  live_free b open' k = omega (arith, ap (times b) (kept.parts k), times-filter-le (λ c. eqb (live_at v c) k) b v.order, none_open b open')

  pub state_read : (b : ℕ) (s : State) → b < length v.states → s ≡ get_or v.states b s → s ≡ state_at v b
  state_read b s within read = read ∙ get_or_default v.states b s Clean within

  pub state_is : (b : ℕ) (s : State) (w : Bool) → b < length v.states → s ≡ get_or v.states b s → w ≡ is_closed s → w ≡ is_closed (state_at v b)
  state_is b s w within read is = is ∙ ap is_closed (state_read b s within read)

  pub state_in_range : (b : ℕ) (s : State) → b < length v.states → s ≡ get_or v.states b s → InRange v.pages v.units v.generations s
  state_in_range b s within read = subst (InRange v.pages v.units v.generations) (sym (state_read b s within read)) (kept.valid.in_range b)

  pub count_is : (b n : ℕ) → b < length v.states → n ≡ get_or v.live b n → n ≡ live_at v b
  count_is b n within read = read ∙ get_or_default v.live b n 0 (omega (arith, kept.valid.counts))

  pub live_within : (b : ℕ) → b < length v.states → b < length v.live
  live_within b within = omega (arith, kept.valid.counts)

  -- the Active block is one of the blocks
  pub active_within : (o : Option ℕ) → o ≡ active → IfSome o (λ b. b < length v.states)
  active_within None same = tt
  active_within (Some b) same = elim (cases_lt b (length v.states)) [
    | inl within ↦ within
    | inr past ↦ absurd (false≢true (sym (ap is_active (get_or_past v.states b Clean past)) ∙ kept.active_is b ∙ ap (λ o. is_at o b) (sym same) ∙ eq-eqb b b refl))
  ]

  bucket_within : (n : ℕ) → n ≤ v.generations * v.pages → n < length by_live.lists
  bucket_within n few = omega (arith, kept.live_lists)

  -- a block gets another state
  module _ (b : ℕ) (s : State) (within : b < length v.states) (fits : InRange v.pages v.units v.generations s)
      (active' : Option ℕ) (active_is : (c : ℕ) → is_at active' c ≡ (if eqb b c then is_active s else is_at active c)) where
    abbrev was : Bool
    was = is_closed (state_at v b)

    abbrev now : Bool
    now = is_closed s

    abbrev next : BookValue
    next = with_state v b s

    state_here : state_at next b ≡ s
    state_here = get_or-set_same v.states b s Clean within

    state_there : (c : ℕ) → (c ≡ b → ⊥) → state_at next c ≡ state_at v c
    state_there c other = get_or-set_other v.states b c s Clean other

    new_active : (c : ℕ) → is_active (state_at next c) ≡ is_at active' c
    new_active c = elim (cases_eq b c) [
      | inl same ↦ subst (λ (d : ℕ). is_active (state_at next d) ≡ is_at active' d) same (ap is_active state_here ∙ sym (active_is b ∙ rw (eq-eqb b b refl) refl))
      | inr other ↦ ap is_active (state_there c (λ e. other (sym e))) ∙ kept.active_is c ∙ sym (active_is c ∙ rw (ne_eqb b c other) refl)
    ]

    state_valid : IsValid next
    state_valid = record {
      few_blocks = omega (arith, length-set v.states b s, kept.valid.few_blocks);
      few_pages = kept.valid.few_pages;
      few_units = kept.valid.few_units;
      two_generations = kept.valid.two_generations;
      three_generations = kept.valid.three_generations;
      counts = kept.valid.counts ∙ sym (length-set v.states b s);
      few_live = kept.valid.few_live;
      in_range = λ c. elim (cases_eq c b) [
        | inl same ↦ subst (λ (d : ℕ). InRange v.pages v.units v.generations (state_at next d)) (sym same) (rw state_here fits)
        | inr other ↦ rw (state_there c other) (kept.valid.in_range c)
      ];
      ordered = λ c. elim (cases_eq c b) [
        | inl same ↦ subst (λ (d : ℕ). times d next.order ≡ cond (is_closed (state_at next d)) 1 0) (sym same) (rw state_here (times-reordered_same was now b v.order (kept.valid.ordered b)))
        | inr other ↦ rw (state_there c other) (times-reordered_other was now b c v.order other ∙ kept.valid.ordered c)
      ];
      one_active = one_from next active' new_active;
    }

    order_relisted : (w n : Bool) → list_at (relisted w n order.lists 0 b) 0 ≡ reordered w n b v.order
    order_relisted false false = kept.order_is
    order_relisted false true = at_appended_same order.lists 0 b (omega (arith, kept.order_lists)) ∙ ap (λ xs. xs ++ b ∷ []) kept.order_is
    order_relisted true false = list_at-removed order.lists b 0 ∙ ap (without b) kept.order_is
    order_relisted true true = kept.order_is

    -- each part follows the order
    parts_relisted : (w n : Bool) (k : ℕ) → list_at (relisted w n by_live.lists (live_at v b) b) k ≡ filter (λ c. eqb (live_at v c) k) (reordered w n b v.order)
    parts_relisted false false k = kept.parts k
    parts_relisted true true k = kept.parts k
    parts_relisted true false k = list_at-removed by_live.lists b k ∙ ap (without b) (kept.parts k)
        ∙ sym (filter-without (λ c. eqb (live_at v c) k) (λ c. eqb (live_at v c) k) b (λ x other. refl) v.order)
    parts_relisted false true k = elim (cases_eq (live_at v b) k) [
      | inl same ↦ subst (λ (j : ℕ). list_at (appended by_live.lists (live_at v b) b) j ≡ filter (λ c. eqb (live_at v c) j) (v.order ++ b ∷ [])) same
          (at_appended_same by_live.lists (live_at v b) b (bucket_within (live_at v b) (kept.valid.few_live b)) ∙ ap (λ xs. xs ++ b ∷ []) (kept.parts (live_at v b))
          ∙ sym (filter-append (λ c. eqb (live_at v c) (live_at v b)) v.order (b ∷ [])
          ∙ ap (λ ys. filter (λ c. eqb (live_at v c) (live_at v b)) v.order ++ ys) (filter_one (λ c. eqb (live_at v c) (live_at v b)) b (eq-eqb (live_at v b) (live_at v b) refl))))
      | inr other ↦ at_appended_other by_live.lists (live_at v b) k b (λ e. other (sym e)) ∙ kept.parts k
          ∙ sym (filter-append (λ c. eqb (live_at v c) k) v.order (b ∷ [])
          ∙ ap (λ ys. filter (λ c. eqb (live_at v c) k) v.order ++ ys) (filter_none (λ c. eqb (live_at v c) k) b (ne_eqb (live_at v b) k other)) ∙ append-nil _)
    ]

    length-relisted : (w n : Bool) (ls : List (List ℕ)) (k : ℕ) → length (relisted w n ls k b) ≡ length ls
    length-relisted false false ls k = refl
    length-relisted false true ls k = length-set ls k (list_at ls k ++ b ∷ [])
    length-relisted true false ls k = length-map ls (without b)
    length-relisted true true ls k = refl

    pub kept_state :
        IsKept next (record order { lists = relisted was now order.lists 0 b }) (record by_live { lists = relisted was now by_live.lists (live_at v b) b }) active'
    kept_state = record {
      valid = state_valid;
      order_nodes = kept.order_nodes ∙ sym (length-set v.states b s);
      order_lists = length-relisted was now order.lists 0 ∙ kept.order_lists;
      order_is = order_relisted was now;
      live_nodes = kept.live_nodes ∙ sym (length-set v.states b s);
      live_lists = length-relisted was now by_live.lists (live_at v b) ∙ kept.live_lists;
      parts = parts_relisted was now;
      active_is = new_active;
    }

  -- a block gets another live count
  module _ (b n : ℕ) (within : b < length v.states) (few : n ≤ v.generations * v.pages) where
    count_here : get_or (set v.live b n) b 0 ≡ n
    count_here = get_or-set_same v.live b n 0 (omega (arith, kept.valid.counts))

    count_there : (c : ℕ) → (c ≡ b → ⊥) → get_or (set v.live b n) c 0 ≡ live_at v c
    count_there c other = get_or-set_other v.live b c n 0 other

    few_after : (c : ℕ) → get_or (set v.live b n) c 0 ≤ v.generations * v.pages
    few_after c = elim (cases_eq c b) [
      | inl same ↦ subst (λ (d : ℕ). get_or (set v.live b n) d 0 ≤ v.generations * v.pages) (sym same) (rw count_here few)
      | inr other ↦ rw (count_there c other) (kept.valid.few_live c)
    ]

    -- the part of a list without the block stays
    filter_after : (k : ℕ) (xs : List ℕ) → filter (λ c. eqb (get_or (set v.live b n) c 0) k) (without b xs) ≡ without b (filter (λ c. eqb (live_at v c) k) xs)
    filter_after k xs = filter-without (λ c. eqb (live_at v c) k) (λ c. eqb (get_or (set v.live b n) c 0) k) b (λ x other. ap (λ m. eqb m k) (count_there x other)) xs

    parts_moved : (k : ℕ) → list_at (appended (removed by_live.lists b) n b) k ≡ filter (λ c. eqb (get_or (set v.live b n) c 0) k) (without b v.order ++ b ∷ [])
    parts_moved k = elim (cases_eq n k) [
      | inl same ↦ subst (λ (j : ℕ). list_at (appended (removed by_live.lists b) n b) j ≡ filter (λ c. eqb (get_or (set v.live b n) c 0) j) (without b v.order ++ b ∷ [])) same
          (at_appended_same (removed by_live.lists b) n b (omega (arith, length-map by_live.lists (without b), bucket_within n few))
          ∙ ap (λ xs. xs ++ b ∷ []) (list_at-removed by_live.lists b n ∙ ap (without b) (kept.parts n) ∙ sym (filter_after n v.order))
          ∙ sym (filter-append (λ c. eqb (get_or (set v.live b n) c 0) n) (without b v.order) (b ∷ [])
          ∙ ap (λ ys. filter (λ c. eqb (get_or (set v.live b n) c 0) n) (without b v.order) ++ ys) (filter_one (λ c. eqb (get_or (set v.live b n) c 0) n) b (eq-eqb _ n count_here))))
      | inr other ↦ at_appended_other (removed by_live.lists b) n k b (λ e. other (sym e))
          ∙ list_at-removed by_live.lists b k ∙ ap (without b) (kept.parts k) ∙ sym (filter_after k v.order)
          ∙ sym (filter-append (λ c. eqb (get_or (set v.live b n) c 0) k) (without b v.order) (b ∷ [])
          ∙ ap (λ ys. filter (λ c. eqb (get_or (set v.live b n) c 0) k) (without b v.order) ++ ys)
          (filter_none (λ c. eqb (get_or (set v.live b n) c 0) k) b (ne_eqb _ k (λ e. other (sym count_here ∙ e)))) ∙ append-nil _)
    ]

    -- a block that is not closed is in no part
    parts_kept : is_closed (state_at v b) ≡ false → (k : ℕ) → list_at by_live.lists k ≡ filter (λ c. eqb (get_or (set v.live b n) c 0) k) v.order
    parts_kept open' k =
        let absent = none_open b open' in
        kept.parts k ∙ sym (without_absent b _ (omega (arith, times-filter-le (λ c. eqb (live_at v c) k) b v.order)))
        ∙ sym (filter_after k v.order) ∙ ap (filter (λ c. eqb (get_or (set v.live b n) c 0) k)) (without_absent b v.order absent)

    valid_with : (xs : List ℕ) → ((c : ℕ) → times c xs ≡ times c v.order) → IsValid (record v { live = set v.live b n; order = xs })
    valid_with xs same_times = record {
      few_blocks = kept.valid.few_blocks;
      few_pages = kept.valid.few_pages;
      few_units = kept.valid.few_units;
      two_generations = kept.valid.two_generations;
      three_generations = kept.valid.three_generations;
      counts = length-set v.live b n ∙ kept.valid.counts;
      few_live = few_after;
      in_range = kept.valid.in_range;
      ordered = λ c. same_times c ∙ kept.valid.ordered c;
      one_active = kept.valid.one_active;
    }

    pub kept_moved : IsClosed v b → IsKept (record v { live = set v.live b n; order = without b v.order ++ b ∷ [] })
        (record order { lists = appended (removed order.lists b) 0 b }) (record by_live { lists = appended (removed by_live.lists b) n b }) active
    kept_moved closed = record {
      valid = valid_with (without b v.order ++ b ∷ []) (λ c. times-moved_back b c v.order (once_closed b closed));
      order_nodes = kept.order_nodes;
      order_lists = length-set (removed order.lists b) 0 _ ∙ length-map order.lists (without b) ∙ kept.order_lists;
      order_is = at_appended_same (removed order.lists b) 0 b (omega (arith, length-map order.lists (without b), kept.order_lists))
          ∙ ap (λ xs. xs ++ b ∷ []) (list_at-removed order.lists b 0 ∙ ap (without b) kept.order_is);
      live_nodes = kept.live_nodes;
      live_lists = length-set (removed by_live.lists b) n _ ∙ length-map by_live.lists (without b) ∙ kept.live_lists;
      parts = parts_moved;
      active_is = kept.active_is;
    }

    pub kept_counted : is_closed (state_at v b) ≡ false → IsKept (record v { live = set v.live b n }) order by_live active
    kept_counted open' = record {
      valid = valid_with v.order (λ c. refl);
      order_nodes = kept.order_nodes;
      order_lists = kept.order_lists;
      order_is = kept.order_is;
      live_nodes = kept.live_nodes;
      live_lists = kept.live_lists;
      parts = parts_kept open';
      active_is = kept.active_is;
    }

  module _ (low most : ℕ) where
    -- what stands in a part is closed, with that live count
    in_part : (b k : ℕ) → 0 < times b (list_at by_live.lists k) → IsClosed v b × (live_at v b ≡ k)
    in_part b k here =
        let part = ap (times b) (kept.parts k) in (
          elim (cases_Bool (is_closed (state_at v b))) [
            | inl closed ↦ closed
            | inr open' ↦ absurd (omega (arith, part, times-filter-le (λ c. eqb (live_at v c) k) b v.order, none_open b open'))
          ],
          elim (cases_eq (live_at v b) k) [
            | inl same ↦ same
            | inr other ↦ absurd (omega (arith, part, times-filter_none (λ c. eqb (live_at v c) k) b v.order (ne_eqb (live_at v b) k other)))
          ],
        )

    not_empty : (c : ℕ) → IsClosed v c → list_at by_live.lists (live_at v c) ≡ [] → ⊥
    not_empty c closed empty = let e = ap (times c) empty in omega (arith, e, part_of c closed)

    -- the front of the first part that is not empty
    pub least_found : (count b : ℕ) → low ≤ count → count ≤ most → ((k : ℕ) → low ≤ k → k < count → list_at by_live.lists k ≡ []) →
        (0 < length (list_at by_live.lists count)) × (get_or (list_at by_live.lists count) 0 0 ≡ b) → IsLeast v low b × (live_at v b ≤ most)
    least_found count b low_le le_most empty front =
        let head = head_is (list_at by_live.lists count) b front in
        let here : 0 < times b (list_at by_live.lists count) = omega (arith, ap (times b) head.1, times-head b head.0) in
        let is = in_part b count here in (
          record {
            closed = is.0;
            enough = omega (arith, is.1);
            fewest = λ c closed enough. elim (cases_lt (live_at v c) count) [
              | inl fewer ↦ absurd (not_empty c closed (empty (live_at v c) enough fewer))
              | inr more ↦ omega (arith, is.1)
            ];
            oldest = λ c closed same. first_of_filter (λ x. eqb (live_at v x) count) b c head.0 v.order (sym (kept.parts count) ∙ head.1)
                (eq-eqb (live_at v b) count is.1) (eq-eqb (live_at v c) count (same ∙ is.1));
          },
          omega (arith, is.1),
        )
      where
        head_is : (xs : List ℕ) (b : ℕ) → (0 < length xs) × (get_or xs 0 0 ≡ b) → (ys : List ℕ) × (xs ≡ b ∷ ys)
        head_is [] b front = absurd (omega (arith, front.0))
        head_is (x ∷ xs) b front = (xs, ap (λ y. y ∷ xs) front.1)

    pub least_none : (count : ℕ) → most < count → ((k : ℕ) → low ≤ k → k < count → list_at by_live.lists k ≡ []) → (b : ℕ) → IsClosed v b → low ≤ live_at v b → most < live_at v b
    least_none count past empty b closed enough = elim (cases_lt most (live_at v b)) [
      | inl more ↦ more
      | inr within ↦ absurd (not_empty b closed (empty (live_at v b) enough (omega arith)))
    ]

-- the order as the lists have it
pub settled : (v : BookValue) (order by_live : Lists) (active : Option ℕ) → IsKept v order by_live active → IsKept (record v { order = list_at order.lists 0 }) order by_live active
settled v order by_live active kept = subst (λ (xs : List ℕ). IsKept (record v { order = xs }) order by_live active) (sym kept.order_is) kept

-- a new book
module _ (blocks pages units generations : ℕ) (few_blocks : blocks ≤ 1024) (few_pages : pages ≤ 128) (few_units : units ≤ pages) (two : 2 ≤ generations) (three : generations ≤ 3) where
  abbrev made : BookValue
  made = record { states = replicate blocks Clean; live = replicate blocks 0; order = []; pages = pages; units = units; generations = generations }

  state_made : (b : ℕ) → state_at made b ≡ Clean
  state_made b = elim (cases_lt b blocks) [
    | inl within ↦ get_or-replicate blocks b Clean Clean within
    | inr past ↦ get_or_past (replicate {A = State} blocks Clean) b Clean (omega (arith, length-replicate {A = State} blocks Clean))
  ]

  live_made : (b : ℕ) → live_at made b ≡ 0
  live_made b = elim (cases_lt b blocks) [
    | inl within ↦ get_or-replicate blocks b 0 0 within
    | inr past ↦ get_or_past (replicate {A = ℕ} blocks 0) b 0 (omega (arith, length-replicate {A = ℕ} blocks 0))
  ]

  at_empty : (n k : ℕ) → list_at (replicate n []) k ≡ []
  at_empty n k = elim (cases_lt k n) [
    | inl within ↦ get_or-replicate n k [] [] within
    | inr past ↦ get_or_past (replicate {A = List ℕ} n []) k [] (omega (arith, length-replicate {A = List ℕ} n []))
  ]

  pub new_kept : IsKept made (record { nodes = blocks; lists = replicate 1 [] }) (record { nodes = blocks; lists = replicate (generations * pages + 1) [] }) None
  new_kept = record {
    valid = record {
      few_blocks = omega (arith, length-replicate {A = State} blocks Clean);
      few_pages = few_pages;
      few_units = few_units;
      two_generations = two;
      three_generations = three;
      counts = length-replicate {A = ℕ} blocks 0 ∙ sym (length-replicate {A = State} blocks Clean);
      few_live = λ b. omega (arith, live_made b);
      in_range = λ b. rw state_made tt;
      ordered = λ b. rw state_made refl;
      one_active = λ b c b_is c_is. absurd (false≢true (sym (ap is_active (state_made b)) ∙ b_is));
    };
    order_nodes = sym (length-replicate {A = State} blocks Clean);
    order_lists = refl;
    order_is = refl;
    live_nodes = sym (length-replicate {A = State} blocks Clean);
    live_lists = length-replicate {A = List ℕ} (generations * pages + 1) [];
    parts = λ k. at_empty (generations * pages + 1) k;
    active_is = λ b. ap is_active (state_made b);
  }
