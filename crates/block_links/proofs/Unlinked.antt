-- A node that is taken out of its ring leaves the lists without it: the ring is cut there, and no other ring has that place.
use Rattle.std.proofs.Common.{◌≡◌, ℕ, ◌+◌, ◌<◌, ◌≤◌, inl, inr, not, eqb, Option, None, List, [], ◌∷◌, ◌++◌, length, reverse, get_or, set, refl, sym, ap, ap₂, ◌∙◌, subst, arith, get_or-set_same}
use Rattle.std.proofs.Common.{get_or-set_other, length-set}
use Rattle.std.proofs.lemmas.List.{reverse-append, reverse-reverse, append_assoc, length-map}
use Rattle.std.proofs.lemmas.List.Elements.{filter-append}
use Rattle.std.proofs.lemmas.Bool.{cases_eq, eq-eqb}
use Rattle.block_links.specs.Lists.{times, without, list_at, removed}
use Rattle.block_links.specs.Ring.{Leads, times_at, home_of, IsLinked}
use Rattle.block_links.proofs.Times.{times-head, times-append, times-reverse, without_absent, times-without_same, times-without_other, CutAt, cut_at}
use Rattle.block_links.proofs.Leads.{last_or, last_or_is, times-last_or, Leads-first, Leads-parts, Leads-set, Leads-cut}
use Rattle.block_links.proofs.Ring.{times_at_apart, list_at-removed, once, ring_once, rings_apart, on_ring, node_within, bucket_within}

reverse_cut : (xs : List ℕ) (n : ℕ) (ys : List ℕ) → reverse (xs ++ n ∷ ys) ≡ reverse ys ++ n ∷ reverse xs
reverse_cut xs n ys = reverse-append xs (n ∷ ys) ∙ ap (λ zs. zs ++ reverse xs) (reverse-append (n ∷ []) ys) ∙ append_assoc (reverse ys) (n ∷ []) (reverse xs)

module _ (next prev : List ℕ) (home : List (Option ℕ)) (ls : List (List ℕ)) (linked : IsLinked next prev home ls) where
  module _ (n b : ℕ) (here : 0 < times n (list_at ls b)) where
    -- the list, cut at the node
    abbrev cut : CutAt n (list_at ls b)
    cut = cut_at n (list_at ls b) here

    abbrev end : ℕ
    end = length home + b

    reverse_parts : reverse (list_at ls b) ≡ reverse cut.rest ++ n ∷ reverse cut.front
    reverse_parts = ap reverse cut.parts ∙ reverse_cut cut.front n cut.rest

    way_next : Leads next end (cut.front ++ n ∷ cut.rest) end
    way_next = subst (λ (xs : List ℕ). Leads next end xs end) cut.parts (linked.forward b (bucket_within next prev home ls linked n b here))

    way_prev : Leads prev end (reverse cut.rest ++ n ∷ reverse cut.front) end
    way_prev = subst (λ (xs : List ℕ). Leads prev end xs end) reverse_parts (linked.backward b (bucket_within next prev home ls linked n b here))

    before_is : get_or prev n 0 ≡ last_or end cut.front
    before_is = Leads-first prev n (reverse cut.front) end (Leads-parts prev end (reverse cut.rest) n (reverse cut.front) end way_prev).1 ∙ last_or_is cut.front end

    after_is : get_or next n 0 ≡ last_or end (reverse cut.rest)
    after_is =
        Leads-first next n cut.rest end (Leads-parts next end cut.front n cut.rest end way_next).1 ∙ sym (ap (λ xs. get_or xs 0 end) (reverse-reverse cut.rest)) ∙ last_or_is (reverse cut.rest) end

    times_parts : (v : ℕ) → times v (list_at ls b) ≡ times v cut.front + times v (n ∷ cut.rest)
    times_parts v = ap (times v) cut.parts ∙ times-append v cut.front (n ∷ cut.rest)

    before_on : 0 < times (get_or prev n 0) (end ∷ list_at ls b)
    before_on = subst (λ (v : ℕ). 0 < times v (end ∷ list_at ls b)) (sym before_is)
        (omega (arith, times-last_or end cut.front, times_parts (last_or end cut.front)))

    after_on : 0 < times (get_or next n 0) (end ∷ list_at ls b)
    after_on = subst (λ (v : ℕ). 0 < times v (end ∷ list_at ls b)) (sym after_is)
        (let v = last_or end (reverse cut.rest) in omega (arith, times-last_or end (reverse cut.rest), times-reverse v cut.rest, times_parts v))

    pub before_within : get_or prev n 0 < length home + length ls
    before_within = on_ring next prev home ls linked (get_or prev n 0) b (bucket_within next prev home ls linked n b here) before_on

    pub after_within : get_or next n 0 < length home + length ls
    after_within = on_ring next prev home ls linked (get_or next n 0) b (bucket_within next prev home ls linked n b here) after_on

    -- the list without the node
    without_parts : without n (list_at ls b) ≡ cut.front ++ cut.rest
    without_parts =
        let t = times_parts n in
        let o = once next prev home ls linked n b in
        let h = times-head n cut.rest in
        ap (without n) cut.parts ∙ filter-append (λ x. not (eqb x n)) cut.front (n ∷ cut.rest)
        ∙ ap₂ ◌++◌ (without_absent n cut.front (omega arith)) (rw (eq-eqb n n refl) (without_absent n cut.rest (omega arith)))

    once_parts : (v : ℕ) → times v (end ∷ (cut.front ++ n ∷ cut.rest)) ≤ 1
    once_parts v = subst (λ (xs : List ℕ). times v (end ∷ xs) ≤ 1) cut.parts (ring_once next prev home ls linked v b)

    once_reversed : (v : ℕ) → times v (end ∷ (reverse cut.rest ++ n ∷ reverse cut.front)) ≤ 1
    once_reversed v = subst (λ (xs : List ℕ). times v (end ∷ xs) ≤ 1) reverse_parts (omega (arith, times-reverse v (list_at ls b), ring_once next prev home ls linked v b))

    -- what `unlink` writes
    abbrev next_without : List ℕ
    next_without = set next (get_or prev n 0) (get_or next n 0)

    abbrev prev_without : List ℕ
    prev_without = set prev (get_or next n 0) (get_or prev n 0)

    forward_here : Leads next_without end (without n (list_at ls b)) end
    forward_here = subst (λ (xs : List ℕ). Leads next_without end xs end) (sym without_parts)
        (subst (λ (v : ℕ). Leads (set next v (get_or next n 0)) end (cut.front ++ cut.rest) end) (sym before_is)
        (Leads-cut next end cut.front n cut.rest end once_parts (subst (λ (v : ℕ). v < length next) before_is (omega (arith, linked.next_len, before_within))) way_next))

    backward_here : Leads prev_without end (reverse (without n (list_at ls b))) end
    backward_here = subst (λ (xs : List ℕ). Leads prev_without end xs end) (sym (ap reverse without_parts ∙ reverse-append cut.front cut.rest))
        (subst (λ (v : ℕ). Leads (set prev v (get_or prev n 0)) end (reverse cut.rest ++ reverse cut.front) end) (sym after_is)
        (Leads-cut prev end (reverse cut.rest) n (reverse cut.front) end once_reversed (subst (λ (v : ℕ). v < length prev) after_is (omega (arith, linked.prev_len, after_within))) way_prev))

    -- another list stays
    module _ (c : ℕ) (other : b ≡ c → ⊥) (within : c < length ls) where
      without_other : without n (list_at ls c) ≡ list_at ls c
      without_other = without_absent n (list_at ls c) (omega (arith, linked.stands n b, linked.stands n c, times_at_apart (home_of home n) b c other))

      forward_there : Leads next_without (length home + c) (without n (list_at ls c)) (length home + c)
      forward_there = subst (λ (xs : List ℕ). Leads next_without (length home + c) xs (length home + c)) (sym without_other)
          (Leads-set next (length home + c) (list_at ls c) (length home + c) (get_or prev n 0) (get_or next n 0) (rings_apart next prev home ls linked (get_or prev n 0) b c other before_on)
          (linked.forward c within))

      backward_there : Leads prev_without (length home + c) (reverse (without n (list_at ls c))) (length home + c)
      backward_there = subst (λ (xs : List ℕ). Leads prev_without (length home + c) (reverse xs) (length home + c)) (sym without_other)
          (Leads-set prev (length home + c) (reverse (list_at ls c)) (length home + c) (get_or next n 0) (get_or prev n 0)
          (omega (arith, times-reverse (get_or next n 0) (list_at ls c), rings_apart next prev home ls linked (get_or next n 0) b c other after_on)) (linked.backward c within))

    stands_without : (v c : ℕ) → times v (without n (list_at ls c)) ≡ times_at (home_of (set home n None) v) c
    stands_without v c = elim (cases_eq v n) [
      | inl same ↦ subst (λ (w : ℕ). times w (without n (list_at ls c)) ≡ times_at (home_of (set home n None) w) c) (sym same)
          (times-without_same n (list_at ls c) ∙ sym (ap (λ o. times_at o c) (get_or-set_same home n None None (node_within next prev home ls linked n b here))))
      | inr other ↦ times-without_other v n (list_at ls c) other ∙ linked.stands v c ∙ sym (ap (λ o. times_at o c) (get_or-set_other home n v None None other))
    ]

    -- the node is out of its list, and the fields hold what is left
    pub unlinked : IsLinked next_without prev_without (set home n None) (removed ls n)
    unlinked = record {
      forward = λ c within. at_length c (λ (e : ℕ). Leads next_without e (list_at (removed ls n) c) e) (rw list_at-removed (elim (cases_eq b c) [
        | inl same ↦ subst (λ (d : ℕ). Leads next_without (length home + d) (without n (list_at ls d)) (length home + d)) same forward_here
        | inr other ↦ forward_there c other (omega (arith, length-map ls (without n)))
      ]));
      backward = λ c within. at_length c (λ (e : ℕ). Leads prev_without e (reverse (list_at (removed ls n) c)) e) (rw list_at-removed (elim (cases_eq b c) [
        | inl same ↦ subst (λ (d : ℕ). Leads prev_without (length home + d) (reverse (without n (list_at ls d))) (length home + d)) same backward_here
        | inr other ↦ backward_there c other (omega (arith, length-map ls (without n)))
      ]));
      stands = λ v c. rw list_at-removed (stands_without v c);
      next_len = omega (arith, length-set next (get_or prev n 0) (get_or next n 0), length-set home n None, length-map ls (without n), linked.next_len);
      prev_len = omega (arith, length-set prev (get_or next n 0) (get_or prev n 0), length-set home n None, length-map ls (without n), linked.prev_len);
      few_nodes = omega (arith, length-set home n None, linked.few_nodes);
      few_lists = omega (arith, length-map ls (without n), linked.few_lists);
    }
      where
        at_length : (c : ℕ) (P : ℕ → Type 0) → P (length home + c) → P (length (set home n None) + c)
        at_length c P = subst P (ap (λ l. l + c) (sym (length-set home n None)))
