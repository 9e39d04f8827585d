-- How the fields of a queue hold what waits: the nodes of the order hold the commands, and each chain is the part of the order
-- whose commands are of its sector.
use Rattle.std.specs.Prelude.{◌≡◌, ℕ, ◌+◌, ◌<◌, ◌≤◌, ◌==◌, ◌&&◌, Bool, List, [], ◌∷◌, map, length, slice_index, slice_index_or}
use Rattle.std.specs.List.{filter}
use Rattle.block_links.specs.Lists.{Lists, times, list_at}
use Rattle.rssd_queue.specs.declared.ask.Tagged.{Tagged}
use Rattle.rssd_queue.specs.Asks.{sector_of, is_read}
use Rattle.rssd_queue.specs.Waiting.{no_command, IsAsked}
use Rattle.rssd_queue.specs.Pick.{IsPick}

-- the command in a node
abbrev pub in_node : List Tagged → ℕ → Tagged
in_node nodes n = slice_index_or nodes n no_command

abbrev pub sector_in : List Tagged → ℕ → ℕ
sector_in nodes n = sector_of (in_node nodes n).ask

-- the commands in these nodes
abbrev pub commands_in : List Tagged → List ℕ → List Tagged
commands_in nodes order = map (in_node nodes) order

-- the nodes whose commands are of a sector
abbrev pub of_sector : List Tagged → ℕ → List ℕ → List ℕ
of_sector nodes sector order = filter (λ n. sector_in nodes n == sector) order

-- list 0 of the order are the nodes in which commands wait, and list 1 the others
abbrev pub order_in : Lists → List ℕ
order_in order = list_at order.lists 0

abbrev pub unused_in : Lists → List ℕ
unused_in order = list_at order.lists 1

-- the two lists of the order have each of the 32 nodes once
pub record HasNodes (order : Lists) : Type 0 where
  pub nodes : order.nodes ≡ 32
  pub two_lists : order.lists ≡ order_in order ∷ unused_in order ∷ []
  pub once : (n : ℕ) → times n (order_in order) + times n (unused_in order) ≤ 1
  pub below : (n : ℕ) → 0 < times n (order_in order) + times n (unused_in order) → n < 32
  pub all : length (order_in order) + length (unused_in order) ≡ 32

-- the chains are those of the sectors
pub record HasChains (nodes : List Tagged) (order : List ℕ) (chains : Lists) (sectors : ℕ) : Type 0 where
  pub nodes_are : chains.nodes ≡ 32
  pub buckets : length chains.lists ≡ sectors
  pub parts : (sector : ℕ) → list_at chains.lists sector ≡ of_sector nodes sector order

pub record IsKept (nodes : List Tagged) (order chains : Lists) (waiting passed sectors sector_bytes : ℕ) : Type 0 where
  pub node_count : length nodes ≡ 32
  pub has_nodes : HasNodes order
  pub has_chains : HasChains nodes (order_in order) chains sectors
  pub waiting_is : waiting ≡ length (order_in order)
  pub few_passed : passed ≤ 32
  pub few_bytes : sector_bytes ≤ 512
  pub asked : (n : ℕ) → 0 < times n (order_in order) → IsAsked sectors sector_bytes (in_node nodes n).ask

-- the node's command is a read, and the first of its sector
abbrev pub is_free_node : List Tagged → Lists → ℕ → Bool
is_free_node nodes chains n = is_read (in_node nodes n).ask && (slice_index_or (list_at chains.lists (sector_in nodes n)) 0 32 == n)

-- the node holds the pick of the commands in the order
pub record IsPickedNode (nodes : List Tagged) (order : List ℕ) (passed n : ℕ) : Type 0 where
  pub place : ℕ
  pub within : place < length order
  pub node : slice_index order place ≡ n
  pub pick : IsPick (commands_in nodes order) passed place
