-- The fields of a queue hold what waits over each change: chain s stays the part of the order whose commands are of sector s.
use Rattle.std.proofs.Common.{◌≡◌, ◌≢◌, ℕ, zero, suc, ◌+◌, ◌-◌, ◌<◌, ◌≤◌, inl, inr, true, false, eqb, List, [], ◌∷◌, ◌++◌, length, map, take, drop, remove, get_or, set, replicate, refl, sym, ap}
use Rattle.std.proofs.Common.{ap₂, ◌∙◌, subst, arith, get_or-set_same, get_or-set_other, length-set, length-append}
use Rattle.std.proofs.lemmas.Bool.{cases_eq, eq-eqb, ne_eqb, ltb-false}
use Rattle.std.proofs.lemmas.List.{length-map, length-replicate, take-map, drop-map, map-append}
use Rattle.std.proofs.lemmas.List.Elements.{filter-append}
use Rattle.block_links.specs.Lists.{Lists, times, without, list_at, appended, removed, IsFree, IsListed}
use Rattle.block_links.proofs.Times.{times-append, times-head, times-tail, times-without_same, times-without_other, without_absent}
use Rattle.block_links.proofs.Ring.{list_at-removed}
use Rattle.block_state.proofs.Order.{filter-without, times-filter, times-filter-le}
use Rattle.rssd_queue.proofs.Filters.{filter-agree}
use Rattle.rssd_queue.specs.declared.ask.Ask.{Ask}
use Rattle.rssd_queue.specs.declared.ask.Ask.TheVariants.{Write, Read, Trim}
use Rattle.rssd_queue.specs.declared.ask.Tagged.{Tagged}
use Rattle.rssd_queue.specs.Asks.{sector_of, is_long, filled}
use Rattle.rssd_queue.specs.Waiting.{no_command, IsAsked, IsWhole, accepted}
use Rattle.rssd_queue.specs.Pick.{IsPick, passed_after}
use Rattle.rssd_queue.specs.Kept.{HasNodes, HasChains, IsKept, IsPickedNode, in_node, sector_in, commands_in, of_sector, order_in, unused_in}
use Rattle.rssd_queue.proofs.Nodes.{length-without, order_within, unused_within, not_in_order}
use Rattle.rssd_queue.proofs.FreeReads.{stands_at}

-- ---- lists

map-agree : (f g : ℕ → Tagged) (xs : List ℕ) → ((n : ℕ) → 0 < times n xs → f n ≡ g n) → map f xs ≡ map g xs
map-agree f g [] agree = refl
map-agree f g (x ∷ xs) agree = ap₂ (λ y ys. y ∷ ys) (agree x (let t = times-head x xs in omega arith)) (map-agree f g xs (λ n some. agree n (omega arith)))

-- a list without the number at a place, where it stands once
without-place : (xs : List ℕ) (k n : ℕ) → k < length xs → get_or xs k 0 ≡ n → times n xs ≤ 1 → without n xs ≡ remove xs k
without-place [] k n within is once = absurd (omega arith)
without-place (x ∷ xs) zero n within is once =
    let head : times n (x ∷ xs) ≡ 1 + times n xs = subst (λ (m : ℕ). times m (x ∷ xs) ≡ 1 + times m xs) is (times-head x xs) in
    rw (eq-eqb x n is) (without_absent n xs (omega arith))
without-place (x ∷ xs) (suc k) n within is once =
    let stands = stands_at xs k n (omega arith) is in
    let other : x ≢ n = λ same. let head : times n (x ∷ xs) ≡ 1 + times n xs = subst (λ (m : ℕ). times m (x ∷ xs) ≡ 1 + times m xs) same (times-head x xs) in omega arith in
    let t = times-tail n x xs other in
    rw (ne_eqb x n other) (ap (λ ys. x ∷ ys) (without-place xs k n (omega arith) is (omega arith)))

zero_is : (xs : List ℕ) (k n : ℕ) → k < length xs → get_or xs k 0 ≡ n → times n xs ≤ 1 → eqb (get_or xs 0 32) n ≡ eqb k 0
zero_is [] k n within is once = absurd (omega arith)
zero_is (x ∷ xs) zero n within is once = eq-eqb x n is
zero_is (x ∷ xs) (suc k) n within is once =
    let stands = stands_at xs k n (omega arith) is in
    let other : x ≢ n = λ same. let head : times n (x ∷ xs) ≡ 1 + times n xs = subst (λ (m : ℕ). times m (x ∷ xs) ≡ 1 + times m xs) same (times-head x xs) in omega arith in
    ne_eqb x n other ∙ sym (ne_eqb (suc k) 0 (λ zero_is'. omega arith))

map-remove : (f : ℕ → Tagged) (xs : List ℕ) (k : ℕ) → map f (remove xs k) ≡ remove (map f xs) k
map-remove f xs k = map-append f (take k xs) (drop (suc k) xs) ∙ ap₂ (λ ys zs. ys ++ zs) (sym (take-map f k xs)) (sym (drop-map f (suc k) xs))

few_passed_after : (cs : List Tagged) (passed k : ℕ) → IsPick cs passed k → passed ≤ 32 → passed_after k passed ≤ 32
few_passed_after cs passed k (inl free) few = elim (cases_eq k 0) [
  | inl here ↦ rw (eq-eqb k 0 here) (omega arith)
  | inr later ↦ rw (ne_eqb k 0 later) (let f = free.0 in omega arith)
]
few_passed_after cs passed k (inr oldest) few = rw (eq-eqb k 0 oldest.0) (omega arith)

-- ---- a command is taken out

module _ (nodes : List Tagged) (order chains : Lists) (waiting passed sectors bytes : ℕ) (kept : IsKept nodes order chains waiting passed sectors bytes) where
  abbrev ws : List ℕ
  ws = order_in order

  once : (m : ℕ) → times m ws ≤ 1
  once m = let o = kept.has_nodes.once m in omega arith

  module _ (n : ℕ) (picked : IsPickedNode nodes ws passed n) where
    pub picked_waits : 0 < times n ws
    picked_waits = stands_at ws picked.place n picked.within picked.node

    pub picked_within : n < length nodes
    picked_within = let w = order_within order kept.has_nodes n picked_waits in let c = kept.node_count in omega arith

    -- the node stands in its sector's chain
    pub picked_listed : IsListed chains.lists n
    picked_listed =
        let s : ℕ = sector_in nodes n in
        let part = ap (times n) (kept.has_chains.parts s) ∙ times-filter (λ m. eqb (sector_in nodes m) s) n ws (eq-eqb s s refl) in
        let w = picked_waits in
        (s, omega arith)

    pub picked_asked : IsAsked sectors bytes (in_node nodes n).ask
    picked_asked = kept.asked n picked_waits

    abbrev nodes' : List Tagged
    nodes' = set nodes n no_command

    others_stay : (m : ℕ) → m ≢ n → in_node nodes' m ≡ in_node nodes m
    others_stay m other = get_or-set_other nodes n m no_command no_command other

    left_stay : (m : ℕ) → 0 < times m (without n ws) → in_node nodes' m ≡ in_node nodes m
    left_stay m some = others_stay m (λ same. let none = times-without_same n ws in let t = ap (λ (k : ℕ). times k (without n ws)) same in absurd (omega arith))

    left_waits : (m : ℕ) → 0 < times m (without n ws) → 0 < times m ws
    left_waits m some = elim (cases_eq m n) [
      | inl same ↦ let none = times-without_same n ws in let t = ap (λ (k : ℕ). times k (without n ws)) same in absurd (omega arith)
      | inr other ↦ let t = times-without_other m n ws other in omega arith
    ]

    -- the oldest is taken exactly where the node is the first
    pub place_zero : eqb (get_or ws 0 32) n ≡ eqb picked.place 0
    place_zero = zero_is ws picked.place n picked.within picked.node (once n)

    pub commands_left : commands_in nodes' (without n ws) ≡ remove (commands_in nodes ws) picked.place
    commands_left = map-agree (in_node nodes') (in_node nodes) (without n ws) left_stay
        ∙ ap (map (in_node nodes)) (without-place ws picked.place n picked.within picked.node (once n)) ∙ map-remove (in_node nodes) ws picked.place

    parts_left : (s : ℕ) → list_at (removed chains.lists n) s ≡ of_sector nodes' s (without n ws)
    parts_left s = list_at-removed chains.lists n s ∙ ap (without n) (kept.has_chains.parts s)
        ∙ sym (filter-without (λ m. eqb (sector_in nodes m) s) (λ m. eqb (sector_in nodes' m) s) n (λ m other. ap (λ c. eqb (sector_of c.ask) s) (others_stay m other)) ws)

    abbrev order' : Lists
    order' = record order { lists = without n ws ∷ (unused_in order ++ n ∷ []) ∷ [] }

    -- all of it, after the changes
    pub kept_taken : (order2 chains2 : Lists) (waiting2 passed2 : ℕ) → order2 ≡ order' → HasNodes order2 → chains2 ≡ record chains { lists = removed chains.lists n }
        → waiting2 ≡ waiting - 1 → passed2 ≡ passed_after picked.place passed → IsKept nodes' order2 chains2 waiting2 passed2 sectors bytes
    kept_taken order2 chains2 waiting2 passed2 order_is has chains_is waiting_is passed_is =
        let left : order_in order2 ≡ without n ws = ap order_in order_is in
        record {
          node_count = length-set nodes n no_command ∙ kept.node_count;
          has_nodes = has;
          has_chains = subst (λ xs. HasChains nodes' xs chains2 sectors) (sym left) (subst (λ ch. HasChains nodes' (without n ws) ch sectors) (sym chains_is) (record {
            nodes_are = kept.has_chains.nodes_are;
            buckets = length-map chains.lists (without n) ∙ kept.has_chains.buckets;
            parts = parts_left;
          }));
          waiting_is = let l = length-without n ws in let o = once n in let w = picked_waits in let k = kept.waiting_is in let e = ap length left in omega arith;
          few_passed = let f = few_passed_after (commands_in nodes ws) passed picked.place picked.pick kept.few_passed in omega arith;
          few_bytes = kept.few_bytes;
          asked = λ m some.
              let some' : 0 < times m (without n ws) = subst (λ xs. 0 < times m xs) left some in
              subst (λ c. IsAsked sectors bytes c.ask) (sym (left_stay m some')) (kept.asked m (left_waits m some'));
        }

  -- ---- a command is put in an unused node

  module _ (n : ℕ) (c : Tagged) (unused : 0 < times n (unused_in order)) (in_range : sector_of c.ask < sectors) (whole : IsWhole bytes c.ask) where
    abbrev nodes+ : List Tagged
    nodes+ = set nodes n c

    pub put_within : n < length nodes
    put_within = let w = unused_within order kept.has_nodes n unused in let k = kept.node_count in omega arith

    pub put_free : IsFree chains.lists n
    put_free s =
        let le = times-filter-le (λ m. eqb (sector_in nodes m) s) n ws in
        let none = not_in_order order kept.has_nodes n unused in
        let e = ap (times n) (kept.has_chains.parts s) in
        omega arith

    not_here : (m : ℕ) → 0 < times m ws → m ≢ n
    not_here m some same = let none = not_in_order order kept.has_nodes n unused in let t = ap (λ (k : ℕ). times k ws) same in omega arith

    here_is : in_node nodes+ n ≡ c
    here_is = get_or-set_same nodes n c no_command put_within

    there_is : (m : ℕ) → m ≢ n → in_node nodes+ m ≡ in_node nodes m
    there_is m other = get_or-set_other nodes n m c no_command other

    pub commands_more : commands_in nodes+ (ws ++ n ∷ []) ≡ commands_in nodes ws ++ c ∷ []
    commands_more = map-append (in_node nodes+) ws (n ∷ [])
        ∙ ap₂ (λ xs d. xs ++ d ∷ []) (map-agree (in_node nodes+) (in_node nodes) ws (λ m some. there_is m (not_here m some))) here_is

    old_part : (s : ℕ) → of_sector nodes+ s ws ≡ of_sector nodes s ws
    old_part s = filter-agree (λ m. eqb (sector_in nodes+ m) s) (λ m. eqb (sector_in nodes m) s) ws (λ m some. ap (λ d. eqb (sector_of d.ask) s) (there_is m (not_here m some)))

    more_is : (s : ℕ) → of_sector nodes+ s (ws ++ n ∷ []) ≡ of_sector nodes s ws ++ of_sector nodes+ s (n ∷ [])
    more_is s = filter-append (λ m. eqb (sector_in nodes+ m) s) ws (n ∷ []) ∙ ap (λ xs. xs ++ of_sector nodes+ s (n ∷ [])) (old_part s)

    sector_here : sector_in nodes+ n ≡ sector_of c.ask
    sector_here = ap (λ d. sector_of d.ask) here_is

    append_none : (xs : List ℕ) → xs ++ [] ≡ xs
    append_none [] = refl
    append_none (x ∷ xs) = ap (λ ys. x ∷ ys) (append_none xs)

    parts_more : (s : ℕ) → list_at (appended chains.lists (sector_of c.ask) n) s ≡ of_sector nodes+ s (ws ++ n ∷ [])
    parts_more s =
        let sector : ℕ = sector_of c.ask in
        elim (cases_eq s sector) [
          | inl same ↦ subst (λ (k : ℕ). list_at (appended chains.lists sector n) k ≡ of_sector nodes+ k (ws ++ n ∷ [])) (sym same)
              (get_or-set_same chains.lists sector (list_at chains.lists sector ++ n ∷ []) [] (let b = kept.has_chains.buckets in omega arith)
              ∙ ap (λ xs. xs ++ n ∷ []) (kept.has_chains.parts sector)
              ∙ sym (more_is sector ∙ ap (λ xs. of_sector nodes sector ws ++ xs) (kept_one sector (eq-eqb (sector_in nodes+ n) sector sector_here))))
          | inr other ↦ get_or-set_other chains.lists sector s (list_at chains.lists sector ++ n ∷ []) [] other
              ∙ kept.has_chains.parts s
              ∙ sym (more_is s ∙ ap (λ xs. of_sector nodes s ws ++ xs) (kept_none s (ne_eqb (sector_in nodes+ n) s (λ same. other (sym same ∙ sector_here)))) ∙ append_none (of_sector nodes s ws))
        ]
      where
        kept_one : (s : ℕ) → eqb (sector_in nodes+ n) s ≡ true → of_sector nodes+ s (n ∷ []) ≡ n ∷ []
        kept_one s hit = rw hit refl

        kept_none : (s : ℕ) → eqb (sector_in nodes+ n) s ≡ false → of_sector nodes+ s (n ∷ []) ≡ []
        kept_none s miss = rw miss refl

    pub kept_put : (order2 chains2 : Lists) (waiting2 : ℕ) → order2 ≡ record order { lists = (ws ++ n ∷ []) ∷ without n (unused_in order) ∷ [] } → HasNodes order2
        → chains2 ≡ record chains { lists = appended chains.lists (sector_of c.ask) n } → waiting2 ≡ waiting + 1 → IsKept nodes+ order2 chains2 waiting2 passed sectors bytes
    kept_put order2 chains2 waiting2 order_is has chains_is waiting_is =
        let all : order_in order2 ≡ ws ++ n ∷ [] = ap order_in order_is in
        record {
          node_count = length-set nodes n c ∙ kept.node_count;
          has_nodes = has;
          has_chains = subst (λ xs. HasChains nodes+ xs chains2 sectors) (sym all) (subst (λ ch. HasChains nodes+ (ws ++ n ∷ []) ch sectors) (sym chains_is) (record {
            nodes_are = kept.has_chains.nodes_are;
            buckets = length-set chains.lists (sector_of c.ask) (list_at chains.lists (sector_of c.ask) ++ n ∷ []) ∙ kept.has_chains.buckets;
            parts = parts_more;
          }));
          waiting_is = let l = length-append ws (n ∷ []) in let k = kept.waiting_is in let e = ap length all in omega arith;
          few_passed = kept.few_passed;
          few_bytes = kept.few_bytes;
          asked = λ m some. elim (cases_eq m n) [
            | inl same ↦ subst (λ d. IsAsked sectors bytes d.ask) (sym (ap (in_node nodes+) same ∙ here_is)) (record { in_range = in_range; whole = whole })
            | inr other ↦ subst (λ d. IsAsked sectors bytes d.ask) (sym (there_is m other))
                (kept.asked m (let t = times-append m ws (n ∷ []) in let u = times-tail m n [] (λ e. other (sym e)) in let e = ap (times m) all in omega arith))
          ];
        }

-- a write that fits is whole when it is filled up
filled_whole : (bytes : ℕ) (ask : Ask) → is_long bytes ask ≡ false → IsWhole bytes (filled bytes ask)
filled_whole bytes (Write sector row) fits =
    let few = ltb-false bytes (length row) fits in
    length-append row (replicate (bytes - length row) 0) ∙ ap (λ (n : ℕ). length row + n) (length-replicate (bytes - length row) 0) ∙ omega arith
filled_whole bytes (Read sector) fits = tt
filled_whole bytes (Trim sector) fits = tt

-- filling up keeps the sector
sector-filled : (bytes : ℕ) (ask : Ask) → sector_of (filled bytes ask) ≡ sector_of ask
sector-filled bytes (Write sector row) = refl
sector-filled bytes (Read sector) = refl
sector-filled bytes (Trim sector) = refl

-- a command that was accepted is of the sector that it was given for, and whole
pub accepted_fits : (bytes sectors : ℕ) (given command : Tagged) → command ≡ accepted bytes given → sector_of given.ask < sectors → is_long bytes given.ask ≡ false
    → (sector_of command.ask < sectors) × IsWhole bytes command.ask
accepted_fits bytes sectors given command is inside fits =
    subst (λ (d : Tagged). (sector_of d.ask < sectors) × IsWhole bytes d.ask) (sym is)
    (subst (λ (s : ℕ). s < sectors) (sym (sector-filled bytes given.ask)) inside, filled_whole bytes given.ask fits)
