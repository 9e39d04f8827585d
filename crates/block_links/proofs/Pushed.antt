-- A node that is put between the last place of a ring and its end stands at the back of that list, and no other ring has these places.
use Rattle.std.proofs.Common.{◌≡◌, ℕ, ◌+◌, ◌<◌, inl, inr, Option, Some, None, List, [], ◌∷◌, ◌++◌, length, reverse, get_or, set, refl, sym, ap, ◌∙◌, subst, arith, get_or-set_same}
use Rattle.std.proofs.Common.{get_or-set_other, length-set}
use Rattle.std.proofs.lemmas.List.{reverse-append}
use Rattle.std.proofs.lemmas.Bool.{cases_eq, eq-eqb, ne_eqb}
use Rattle.block_links.specs.Lists.{times, list_at, appended, IsFree}
use Rattle.block_links.specs.Ring.{Leads, times_at, home_of, IsLinked}
use Rattle.block_links.proofs.Times.{times-head, times-tail, times-append, times-reverse}
use Rattle.block_links.proofs.Leads.{last_or, last_or_is, times-last_or, Leads-first, Leads-start, Leads-append, Leads-set, Leads-set_last}
use Rattle.block_links.proofs.Ring.{ends_apart, ring_once, rings_apart, on_ring}

module _ (next prev : List ℕ) (home : List (Option ℕ)) (ls : List (List ℕ)) (linked : IsLinked next prev home ls) where
  module _ (n b : ℕ) (bucket : b < length ls) (node : n < length home) (free : IsFree ls n) where
    abbrev tip : ℕ
    tip = length home + b

    abbrev last : ℕ
    last = get_or prev tip 0

    last_is : last ≡ last_or tip (list_at ls b)
    last_is = Leads-first prev tip (reverse (list_at ls b)) tip (linked.backward b bucket) ∙ last_or_is (list_at ls b) tip

    last_on : 0 < times last (tip ∷ list_at ls b)
    last_on = subst (λ (v : ℕ). 0 < times v (tip ∷ list_at ls b)) (sym last_is) (times-last_or tip (list_at ls b))

    pub last_within : last < length home + length ls
    last_within = on_ring next prev home ls linked last b bucket last_on

    -- the node is on no ring
    node_off : (c : ℕ) → times n ((length home + c) ∷ list_at ls c) ≡ 0
    node_off c = times-tail n (length home + c) (list_at ls c) (λ e. omega arith) ∙ free c

    -- what `push_back` writes
    abbrev next_with : List ℕ
    next_with = set (set next last n) n tip

    abbrev prev_with : List ℕ
    prev_with = set (set prev n last) tip n

    forward_pushed : Leads next_with tip (list_at ls b ++ n ∷ []) tip
    forward_pushed =
        let to_node = subst (λ (v : ℕ). Leads (set next v n) tip (list_at ls b) n) (sym last_is)
        (Leads-set_last next tip (list_at ls b) tip n (λ v. ring_once next prev home ls linked v b) (subst (λ (v : ℕ). v < length next) last_is (omega (arith, linked.next_len, last_within)))
        (linked.forward b bucket)) in
        Leads-append next_with tip (list_at ls b) n [] tip
        (Leads-set (set next last n) tip (list_at ls b) n n tip (node_off b) to_node)
        (get_or-set_same (set next last n) n tip 0 (omega (arith, length-set next last n, linked.next_len)))

    backward_pushed : Leads prev_with tip (reverse (list_at ls b ++ n ∷ [])) tip
    backward_pushed =
        let apart : (tip ≡ n → ⊥) = λ e. omega arith in
        let off : times n (tip ∷ reverse (list_at ls b)) ≡ 0 = omega (arith, times-reverse n (list_at ls b), node_off b) in
        let from_tip = Leads-set prev tip (reverse (list_at ls b)) tip n last off (linked.backward b bucket) in
        let from_node = Leads-start (set prev n last) tip n (reverse (list_at ls b)) tip
        (get_or-set_same prev n last 0 (omega (arith, linked.prev_len)) ∙ sym (get_or-set_other prev n tip last 0 apart)) from_tip in
        subst (λ (xs : List ℕ). Leads prev_with tip xs tip) (sym (reverse-append (list_at ls b) (n ∷ []))) (
          get_or-set_same (set prev n last) tip n 0 (omega (arith, length-set prev n last, linked.prev_len)),
          Leads-set (set prev n last) n (reverse (list_at ls b)) tip tip n
              (times-tail tip n (reverse (list_at ls b)) (λ e. apart (sym e)) ∙ times-reverse tip (list_at ls b) ∙ ends_apart next prev home ls linked tip b (omega arith)) from_node,
        )

    -- another list stays
    module _ (c : ℕ) (other : b ≡ c → ⊥) (within : c < length ls) where
      forward_kept : Leads next_with (length home + c) (list_at ls c) (length home + c)
      forward_kept = Leads-set (set next last n) (length home + c) (list_at ls c) (length home + c) n tip (node_off c)
          (Leads-set next (length home + c) (list_at ls c) (length home + c) last n (rings_apart next prev home ls linked last b c other last_on) (linked.forward c within))

      backward_kept : Leads prev_with (length home + c) (reverse (list_at ls c)) (length home + c)
      backward_kept =
          let off_tip = rings_apart next prev home ls linked tip b c other (omega (arith, times-head tip (list_at ls b))) in
          Leads-set (set prev n last) (length home + c) (reverse (list_at ls c)) (length home + c) tip n (omega (arith, times-reverse tip (list_at ls c), off_tip))
          (Leads-set prev (length home + c) (reverse (list_at ls c)) (length home + c) n last (omega (arith, times-reverse n (list_at ls c), node_off c)) (linked.backward c within))

    at_here : list_at (appended ls b n) b ≡ list_at ls b ++ n ∷ []
    at_here = get_or-set_same ls b (list_at ls b ++ n ∷ []) [] bucket

    at_other : (c : ℕ) → (b ≡ c → ⊥) → list_at (appended ls b n) c ≡ list_at ls c
    at_other c other = get_or-set_other ls b c (list_at ls b ++ n ∷ []) [] (λ e. other (sym e))

    stands_pushed : (v c : ℕ) → times v (list_at (appended ls b n) c) ≡ times_at (home_of (set home n (Some b)) v) c
    stands_pushed v c = elim (cases_eq v n) [
      | inl same ↦ subst (λ (w : ℕ). times w (list_at (appended ls b n) c) ≡ times_at (home_of (set home n (Some b)) w) c) (sym same)
          (elim (cases_eq b c) [
            | inl here ↦ subst (λ (d : ℕ). times n (list_at (appended ls b n) d) ≡ times_at (Some b) d) here
                (ap (times n) at_here ∙ times-append n (list_at ls b) (n ∷ []) ∙ rw (eq-eqb n n refl, eq-eqb b b refl, free b) refl)
            | inr other ↦ ap (times n) (at_other c other) ∙ free c ∙ sym (rw (ne_eqb b c other) refl)
          ] ∙ sym (ap (λ o. times_at o c) (get_or-set_same home n (Some b) None node)))
      | inr apart ↦ (elim (cases_eq b c) [
        | inl here ↦ subst (λ (d : ℕ). times v (list_at (appended ls b n) d) ≡ times v (list_at ls d)) here
            (ap (times v) at_here ∙ times-append v (list_at ls b) (n ∷ []) ∙ omega (arith, times-tail v n [] (λ e. apart (sym e))))
        | inr other ↦ ap (times v) (at_other c other)
      ]) ∙ linked.stands v c ∙ sym (ap (λ o. times_at o c) (get_or-set_other home n v (Some b) None apart))
    ]

    -- the node is at the end of its list, and the fields hold the lists
    pub pushed : IsLinked next_with prev_with (set home n (Some b)) (appended ls b n)
    pushed = record {
      forward = λ c within. at_size c (λ (e : ℕ). Leads next_with e (list_at (appended ls b n) c) e) (elim (cases_eq b c) [
        | inl same ↦ subst (λ (d : ℕ). Leads next_with (length home + d) (list_at (appended ls b n) d) (length home + d)) same (rw at_here forward_pushed)
        | inr other ↦ rw (at_other c other) (forward_kept c other (omega (arith, length-set ls b (list_at ls b ++ n ∷ []))))
      ]);
      backward = λ c within. at_size c (λ (e : ℕ). Leads prev_with e (reverse (list_at (appended ls b n) c)) e) (elim (cases_eq b c) [
        | inl same ↦ subst (λ (d : ℕ). Leads prev_with (length home + d) (reverse (list_at (appended ls b n) d)) (length home + d)) same (rw at_here backward_pushed)
        | inr other ↦ rw (at_other c other) (backward_kept c other (omega (arith, length-set ls b (list_at ls b ++ n ∷ []))))
      ]);
      stands = stands_pushed;
      next_len = omega (arith, length-set (set next last n) n tip, length-set next last n, length-set home n (Some b), length-set ls b (list_at ls b ++ n ∷ []), linked.next_len);
      prev_len = omega (arith, length-set (set prev n last) tip n, length-set prev n last, length-set home n (Some b), length-set ls b (list_at ls b ++ n ∷ []), linked.prev_len);
      few_nodes = omega (arith, length-set home n (Some b), linked.few_nodes);
      few_lists = omega (arith, length-set ls b (list_at ls b ++ n ∷ []), linked.few_lists);
    }
      where
        at_size : (c : ℕ) (P : ℕ → Type 0) → P (length home + c) → P (length (set home n (Some b)) + c)
        at_size c P = subst P (ap (λ l. l + c) (sym (length-set home n (Some b))))
