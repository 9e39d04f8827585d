-- A queue run: a list of puts and serves over a queue and a sector array, and what is true of all of them.
use Rattle.std.specs.Prelude.{◌≡◌, ℕ, ◌+◌, ◌≤◌, ◌==◌, Bool, true, false, List, [], ◌∷◌, ◌++◌, replicate, slice_set, slice_index_or}
use Rattle.std.specs.List.{filter, All, Contains}
use Rattle.std.specs.List.Sorted.{IsPermutation}
use Rattle.rssd_queue.specs.declared.ask.Ask.{Ask}
use Rattle.rssd_queue.specs.declared.ask.Ask.TheVariants.{Write, Read, Trim}
use Rattle.rssd_queue.specs.declared.ask.Tagged.{Tagged}
use Rattle.rssd_queue.specs.declared.queue.PutRefusal.{PutRefusal}
use Rattle.rssd_queue.specs.declared.serve.Answer.{Answer}
use Rattle.rssd_queue.specs.declared.serve.Answer.TheVariants.{Wrote, Bytes, Trimmed, Refused}
use Rattle.rssd_queue.specs.Asks.{sector_of}
use Rattle.rssd_queue.specs.Waiting.{Waiting, Accepts, Refuses, accepted}
use Rattle.rssd_queue.specs.Pick.{Takes}

-- ---- the sector array

-- the row of a sector
abbrev pub row_of : List (List ℕ) → ℕ → List ℕ
row_of rows sector = slice_index_or rows sector []

-- the rows after a command is carried out
abbrev pub carried : ℕ → List (List ℕ) → Ask → List (List ℕ)
carried size rows (Write sector bytes) = slice_set rows sector bytes
carried size rows (Read sector) = rows
carried size rows (Trim sector) = slice_set rows sector (replicate size 0)

-- the rows after these commands are carried out in this order
abbrev pub carried_out : ℕ → List (List ℕ) → List Tagged → List (List ℕ)
carried_out size rows [] = rows
carried_out size rows (c ∷ commands) = carried_out size (carried size rows c.ask) commands

-- the answer is that of the array; what the rows are after a refused command is not said here
abbrev pub AnswersOf : List (List ℕ) → Ask → Answer → Type 0
AnswersOf rows (Write sector bytes) (Wrote placed) = Unit {0}
AnswersOf rows (Read sector) (Bytes bytes) = bytes ≡ row_of rows sector
AnswersOf rows (Trim sector) Trimmed = Unit {0}
AnswersOf rows ask (Refused why) = Unit {0}
AnswersOf rows ask answer = ⊥

abbrev pub is_refused : Answer → Bool
is_refused (Refused why) = true
is_refused answer = false

pub record Answers (size : ℕ) (rows : List (List ℕ)) (ask : Ask) (answer : Answer) (rows_after : List (List ℕ)) : Type 0 where
  pub answer_is : AnswersOf rows ask answer
  pub carried_so : is_refused answer ≡ false → rows_after ≡ carried size rows ask

-- ---- runs

pub data Event : Type 0 where
  -- a put that was accepted
  Put : (command : Tagged) → Event
  RefusedPut : (command : Tagged) (why : PutRefusal) → Event
  -- a serve
  Served : (command : Tagged) (answer : Answer) → Event
  -- a serve where nothing waits
  FoundNone : Event

-- a queue, and the rows of the array
pub record State : Type 0 where
  pub queue : Waiting
  pub rows : List (List ℕ)

abbrev pub IsStep : Event → State → State → Type 0
IsStep (Put c) old new = Accepts old.queue c new.queue × (new.rows ≡ old.rows)
IsStep (RefusedPut c why) old new = Refuses old.queue c why × (new ≡ old)
IsStep (Served c answer) old new = Takes old.queue c new.queue × Answers old.queue.sector_bytes old.rows c.ask answer new.rows
IsStep FoundNone old new = (old.queue.commands ≡ []) × (new ≡ old)

-- each event begins where the one before ended
abbrev pub IsRun : State → List Event → State → Type 0
IsRun first [] last = last ≡ first
IsRun first (e ∷ events) last = (next : State) × IsStep e first next × IsRun next events last

-- nothing waits, and the oldest was not passed
pub record IsNew (first : State) : Type 0 where
  pub none : first.queue.commands ≡ []
  pub passed : first.queue.passed ≡ 0

-- the commands that were accepted, as they wait, in their order
abbrev pub accepted_in : ℕ → List Event → List Tagged
accepted_in size [] = []
accepted_in size (Put c ∷ events) = accepted size c ∷ accepted_in size events
accepted_in size (e ∷ events) = accepted_in size events

-- the commands that were served, in their order
abbrev pub served_in : List Event → List Tagged
served_in [] = []
served_in (Served c answer ∷ events) = c ∷ served_in events
served_in (e ∷ events) = served_in events

-- how many serves there were
abbrev pub serves : List Event → ℕ
serves [] = 0
serves (Served c answer ∷ events) = 1 + serves events
serves (FoundNone ∷ events) = 1 + serves events
serves (e ∷ events) = serves events

-- those of some commands that are about a sector
abbrev pub about : ℕ → List Tagged → List Tagged
about sector commands = filter (λ c. sector_of c.ask == sector) commands

abbrev pub NotRefused : Event → Type 0
NotRefused (Served c answer) = is_refused answer ≡ false
NotRefused e = Unit {0}

-- ---- laws

-- Each accepted command is answered once or still waits, with its tag, and no other command is answered.
abbrev pub AnsweredOnce : Type 0
AnsweredOnce = (first last : State) (events : List Event) → IsNew first → IsRun first events last
    → IsPermutation (accepted_in first.queue.sector_bytes events) (served_in events ++ last.queue.commands)

-- Of each sector the served commands, and then those that wait, are the accepted ones in their order.
abbrev pub SectorsInOrder : Type 0
SectorsInOrder = (first last : State) (events : List Event) → IsNew first → IsRun first events last → (sector : ℕ)
    → about sector (accepted_in first.queue.sector_bytes events) ≡ about sector (served_in events) ++ about sector last.queue.commands

-- A read's bytes are the row of its sector where the accepted commands before it were carried out in the order of acceptance.
-- Those of its sector before it are those that were served before it, so it is this very read.
pub record ReadInOrder (size : ℕ) (rows : List (List ℕ)) (commands before : List Tagged) (read : Tagged) (bytes : List ℕ) : Type 0 where
  pub earlier : List Tagged
  pub later : List Tagged
  pub all : commands ≡ earlier ++ read ∷ later
  pub same_before : about (sector_of read.ask) earlier ≡ about (sector_of read.ask) before
  pub row : bytes ≡ row_of (carried_out size rows earlier) (sector_of read.ask)

-- Where no served command is refused, each read gives the row that the array has in the order of acceptance.
abbrev pub ReadsInOrder : Type 0
ReadsInOrder = (first last : State) (events rest : List Event) (read : Tagged) (bytes : List ℕ)
    → IsNew first → IsRun first (events ++ Served read (Bytes bytes) ∷ rest) last → All NotRefused (events ++ Served read (Bytes bytes) ∷ rest)
    → ReadInOrder first.queue.sector_bytes first.rows (accepted_in first.queue.sector_bytes (events ++ Served read (Bytes bytes) ∷ rest)) (served_in events) read bytes

-- After a put is accepted, its command is among those of the next 1,024 serves, if so many are made.
abbrev pub ServedInTime : Type 0
ServedInTime = (first last : State) (before after : List Event) (c : Tagged) → IsNew first → IsRun first (before ++ Put c ∷ after) last
    → 1024 ≤ serves after → Contains (served_in after) (accepted first.queue.sector_bytes c)
