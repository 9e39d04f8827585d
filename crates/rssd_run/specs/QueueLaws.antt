-- What is true of every queue run: each command that was put is served once, those of a sector in their order, and each soon; and what
-- reads tell.
use Rattle.std.specs.Prelude.{◌≡◌, ℕ, ◌≤◌, List, [], ◌∷◌, ◌++◌, length, take}
use Rattle.std.specs.List.{All, Contains}
use Rattle.std.specs.List.Sorted.{IsPermutation}
use Rattle.rssd_queue.specs.declared.ask.Tagged.{Tagged}
use Rattle.rssd_queue.specs.Waiting.{accepted}
use Rattle.rssd_queue.specs.Runs.{about, ReadInOrder}
use Rattle.rssd_core.specs.SectorArray.{without_zeros}
use Rattle.rssd_script.specs.declared.replies.Reply.TheVariants.{Bytes, Off, Fault, Spent}
use Rattle.rssd_run.specs.View.{Event}
use Rattle.rssd_run.specs.QueueActs.{Act, Put, Served, AtOnce}

-- the commands that were put, as they wait, in their order; a sector has so many bytes
abbrev pub accepted_in : ℕ → List Act → List Tagged
accepted_in size [] = []
accepted_in size (Put c ∷ acts) = accepted size c ∷ accepted_in size acts
accepted_in size (Served c e ∷ acts) = accepted_in size acts
accepted_in size (AtOnce tag e ∷ acts) = accepted_in size acts

-- the commands that were served, in their order
abbrev pub served_in : List Act → List Tagged
served_in [] = []
served_in (Put c ∷ acts) = served_in acts
served_in (Served c e ∷ acts) = c ∷ served_in acts
served_in (AtOnce tag e ∷ acts) = served_in acts

pub record ServesAll (size : ℕ) (acts : List Act) : Type 0 where
  -- each command that was put is served exactly once, with its tag, and no other is
  pub once : IsPermutation (accepted_in size acts) (served_in acts)
  -- of each sector the commands are served in the order in which they were put
  pub in_order : (sector : ℕ) → about sector (accepted_in size acts) ≡ about sector (served_in acts)

-- ---- how soon

-- each command that is put is among the next 1,024 that are served
abbrev pub ServesSoon : ℕ → List Act → Type 0
ServesSoon size acts = (before rest : List Act) (c : Tagged) → acts ≡ before ++ Put c ∷ rest → Contains (take 1024 (served_in rest)) (accepted size c)

-- the same where so many are served, as of a run whose sink failed
abbrev pub ServesSoonWhereServed : ℕ → List Act → Type 0
ServesSoonWhereServed size acts = (before rest : List Act) (c : Tagged) → acts ≡ before ++ Put c ∷ rest → 1024 ≤ length (served_in rest)
    → Contains (take 1024 (served_in rest)) (accepted size c)

-- ---- reads

-- a served command is not answered `fault`, `spent` or `off`
abbrev pub NotRefused : Act → Type 0
NotRefused (Put c) = Unit {0}
NotRefused (Served c e) = (e.reply ≡ Fault → ⊥) × (e.reply ≡ Spent → ⊥) × (e.reply ≡ Off → ⊥)
NotRefused (AtOnce tag e) = Unit {0}

-- Where no served command is refused, each read that is served tells the row that the array has where the commands are carried
-- out in the order in which they were put.
abbrev pub ReadsTheOrder : ℕ → List (List ℕ) → List Act → Type 0
ReadsTheOrder size rows acts = (before rest : List Act) (c : Tagged) (e : Event) (bytes : List ℕ) → acts ≡ before ++ Served c e ∷ rest → All NotRefused acts → e.reply ≡ Bytes bytes
    → (row : List ℕ) × (bytes ≡ without_zeros row) × ReadInOrder size rows (accepted_in size acts) (served_in before) c row
