-- How the fields of `Book` hold its value.
use Rattle.std.specs.Prelude.{ℕ, ◌≡◌, ◌+◌, ◌*◌, ◌==◌, Bool, true, false, Option, Some, None, List, length, slice_index}
use Rattle.std.specs.List.{filter}
use Rattle.block_links.specs.Lists.{Lists, list_at, appended, removed}
use Rattle.block_state.specs.declared.kinds.Kinds.{Kinds}
use Rattle.block_state.specs.State.{is_active}
use Rattle.block_state.specs.Book.{BookValue, IsValid, state_at}
use Rattle.block_state.specs.Kinds.{AreKinds}

-- whether the one block that is kept is this one
abbrev pub is_at : Option ℕ → ℕ → Bool
is_at None b = false
is_at (Some c) b = c == b

-- the fields hold the value: the one list of `order` is its order, and list k of `by_live` is the part of that order with live count k
pub record IsKept (v : BookValue) (order by_live : Lists) (active : Option ℕ) : Type 0 where
  pub valid : IsValid v
  pub order_nodes : order.nodes ≡ length v.states
  pub order_lists : length order.lists ≡ 1
  pub order_is : list_at order.lists 0 ≡ v.order
  pub live_nodes : by_live.nodes ≡ length v.states
  pub live_lists : length by_live.lists ≡ v.generations * v.pages + 1
  pub parts : (k : ℕ) → list_at by_live.lists k ≡ filter (λ b. slice_index v.live b == k) v.order
  pub active_is : (b : ℕ) → is_active (state_at v b) ≡ is_at active b

-- the fields hold the value, and the sets have the blocks of their kinds
pub record IsBook (v : BookValue) (order by_live : Lists) (active : Option ℕ) (kinds : Kinds) : Type 0 where
  pub kept : IsKept v order by_live active
  pub kinds_are : AreKinds v.states v.live kinds

-- the lists after a node, listed or not, is listed or not: what is newly listed goes to the back, what no longer is leaves
abbrev pub relisted : Bool → Bool → List (List ℕ) → ℕ → ℕ → List (List ℕ)
relisted false false ls bucket node = ls
relisted false true ls bucket node = appended ls bucket node
relisted true false ls bucket node = removed ls node
relisted true true ls bucket node = ls
