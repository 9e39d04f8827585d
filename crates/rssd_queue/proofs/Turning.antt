-- The order, turned by some nodes.
use Rattle.std.proofs.Common.{◌≡◌, ℕ, ◌+◌, ◌<◌, List, [], ◌∷◌, ◌++◌, length, take, drop, get_or, sym, ap, ◌∙◌, append_assoc}
use Rattle.std.proofs.lemmas.List.{take_more, drop_more}
use Rattle.block_links.specs.Lists.{Lists, IsFront}
use Rattle.rssd_queue.specs.Kept.{order_in, unused_in}

-- this order, turned by k nodes
abbrev pub turned_by : Lists → ℕ → Lists
turned_by o k = record o { lists = (drop k (order_in o) ++ take k (order_in o)) ∷ unused_in o ∷ [] }

module _ (o p q : Lists) (k n : ℕ) (within : k < length (order_in o)) (is : p ≡ turned_by o k)
    (front : IsFront (order_in p) n) (turned : q ≡ record p { lists = (drop 1 (order_in p) ++ n ∷ []) ∷ unused_in p ∷ [] }) where
  abbrev ws : List ℕ
  ws = order_in o

  head_is : order_in p ≡ get_or ws k 0 ∷ (drop (k + 1) ws ++ take k ws)
  head_is = ap order_in is ∙ ap (λ xs. xs ++ take k ws) (drop_more ws k 0 within)

  -- the node that went to the back
  pub turned_node : get_or ws k 0 ≡ n
  turned_node = sym (ap (λ xs. get_or xs 0 0) head_is) ∙ front.1

  rest_is : drop 1 (order_in p) ++ n ∷ [] ≡ drop (k + 1) ws ++ take (k + 1) ws
  rest_is = ap (λ xs. drop 1 xs ++ n ∷ []) head_is ∙ append_assoc (drop (k + 1) ws) (take k ws) (n ∷ [])
      ∙ ap (λ m. drop (k + 1) ws ++ (take k ws ++ m ∷ [])) (sym turned_node) ∙ ap (λ xs. drop (k + 1) ws ++ xs) (sym (take_more ws k 0 within))

  pub turned_more : q ≡ turned_by o (k + 1)
  turned_more = turned ∙ ap (λ (r : Lists). record r { lists = (drop 1 (order_in p) ++ n ∷ []) ∷ unused_in r ∷ [] }) is
      ∙ ap (λ (xs : List ℕ). record o { lists = xs ∷ unused_in o ∷ [] }) rest_is
