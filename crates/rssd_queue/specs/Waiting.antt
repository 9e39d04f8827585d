-- What a contract sees of a queue: the waiting commands in the order in which they were accepted, and how often the oldest was
-- passed. And what a put makes of it, or why it is refused.
use Rattle.std.specs.Prelude.{◌≡◌, ℕ, ◌<◌, ◌≤◌, ◌==◌, Bool, true, false, List, [], ◌∷◌, ◌++◌, length, slice_index_or}
use Rattle.std.specs.List.{list_any}
use Rattle.rssd_queue.specs.declared.ask.Ask.{Ask}
use Rattle.rssd_queue.specs.declared.ask.Ask.TheVariants.{Write, Read, Trim}
use Rattle.rssd_queue.specs.declared.ask.Tagged.{Tagged}
use Rattle.rssd_queue.specs.declared.queue.PutRefusal.{PutRefusal}
use Rattle.rssd_queue.specs.declared.queue.PutRefusal.TheVariants.{Full, TagBusy, BadSector, Long}
use Rattle.rssd_queue.specs.Asks.{sector_of, is_long, filled}

pub record Waiting : Type 0 where
  pub commands : List Tagged
  pub passed : ℕ
  pub sectors : ℕ
  pub sector_bytes : ℕ

-- nothing waits, and the oldest was not passed
abbrev pub empty : ℕ → ℕ → Waiting
empty sectors sector_bytes = record { commands = []; passed = 0; sectors = sectors; sector_bytes = sector_bytes }

-- a command for places past the last
abbrev pub no_command : Tagged
no_command = record { tag = 0; ask = Read 0 }

-- the command at a place, the oldest at place 0
abbrev pub command_at : List Tagged → ℕ → Tagged
command_at commands k = slice_index_or commands k no_command

-- the tag waits
abbrev pub waits : List Tagged → ℕ → Bool
waits commands tag = list_any (λ c. c.tag == tag) commands

-- the command as it waits: a write's bytes are filled up with zero bytes
abbrev pub accepted : ℕ → Tagged → Tagged
accepted sector_bytes c = record { tag = c.tag; ask = filled sector_bytes c.ask }

-- A put is accepted where fewer than 32 wait, its tag does not wait, its sector is one of the queue's and a write's bytes fit it.
-- The command then waits last.
pub record Accepts (old : Waiting) (c : Tagged) (new : Waiting) : Type 0 where
  pub room : length old.commands < 32
  pub new_tag : waits old.commands c.tag ≡ false
  pub in_range : sector_of c.ask < old.sectors
  pub fits : is_long old.sector_bytes c.ask ≡ false
  pub last : new ≡ record old { commands = old.commands ++ accepted old.sector_bytes c ∷ [] }

-- Why a put is refused: each refusal exactly where those before it do not apply.
abbrev pub Refuses : Waiting → Tagged → PutRefusal → Type 0
Refuses v c Full = length v.commands ≡ 32
Refuses v c TagBusy = (length v.commands < 32) × (waits v.commands c.tag ≡ true)
Refuses v c BadSector = (length v.commands < 32) × (waits v.commands c.tag ≡ false) × (v.sectors ≤ sector_of c.ask)
Refuses v c Long = (length v.commands < 32) × (waits v.commands c.tag ≡ false) × (sector_of c.ask < v.sectors) × (is_long v.sector_bytes c.ask ≡ true)

-- a waiting command asks for a sector of the queue, and a write has all bytes of a sector
abbrev pub IsWhole : ℕ → Ask → Type 0
IsWhole sector_bytes (Write sector bytes) = length bytes ≡ sector_bytes
IsWhole sector_bytes (Read sector) = Unit {0}
IsWhole sector_bytes (Trim sector) = Unit {0}

pub record IsAsked (sectors sector_bytes : ℕ) (ask : Ask) : Type 0 where
  pub in_range : sector_of ask < sectors
  pub whole : IsWhole sector_bytes ask
