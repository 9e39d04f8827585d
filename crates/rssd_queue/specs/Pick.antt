-- The pick: which waiting command is served next.
use Rattle.std.specs.Prelude.{◌≡◌, ◌≢◌, ◌⊎◌, ℕ, ◌+◌, ◌<◌, ◌==◌, true, if◌then◌else◌, List, length, remove}
use Rattle.rssd_queue.specs.declared.ask.Tagged.{Tagged}
use Rattle.rssd_queue.specs.Asks.{sector_of, is_read}
use Rattle.rssd_queue.specs.Waiting.{Waiting, command_at}

-- the sector of the command at a place
abbrev pub sector_at : List Tagged → ℕ → ℕ
sector_at commands k = sector_of (command_at commands k).ask

-- the command at this place is a read, and no earlier one is of its sector
pub record IsFree (commands : List Tagged) (k : ℕ) : Type 0 where
  pub within : k < length commands
  pub read : is_read (command_at commands k).ask ≡ true
  pub first_of_sector : (j : ℕ) → j < k → sector_at commands j ≢ sector_at commands k

-- no waiting command is such a read
abbrev pub NoneFree : List Tagged → Type 0
NoneFree commands = (k : ℕ) → IsFree commands k → ⊥

-- the first such read
pub record IsFirstFree (commands : List Tagged) (k : ℕ) : Type 0 where
  pub free : IsFree commands k
  pub first : (j : ℕ) → j < k → IsFree commands j → ⊥

-- The pick: where the oldest was passed fewer than 32 times and some read is free, the first such read; otherwise the oldest.
abbrev pub IsPick : List Tagged → ℕ → ℕ → Type 0
IsPick commands passed k = ((passed < 32) × IsFirstFree commands k) ⊎ ((k ≡ 0) × (passed < 32 → NoneFree commands))

-- how often the oldest was passed after the command at this place is taken
abbrev pub passed_after : ℕ → ℕ → ℕ
passed_after k passed = if k == 0 then 0 else passed + 1

-- the command is the pick, and is taken out
pub record Takes (old : Waiting) (c : Tagged) (new : Waiting) : Type 0 where
  pub place : ℕ
  pub within : place < length old.commands
  pub pick : IsPick old.commands old.passed place
  pub command : command_at old.commands place ≡ c
  pub rest : new ≡ record old { commands = remove old.commands place; passed = passed_after place old.passed }
