-- Which views a session stands for.
use Rattle.std.specs.Prelude.{◌≡◌, ◌<◌, ◌≤◌, ◌^◌, Option, None, Some}
use Rattle.std.specs.Option.{option_map}
use Rattle.cell_die.specs.DieState.{DieState}
use Rattle.page_codec.specs.Geometry.{shape_of}
use Rattle.striped.specs.Meaning.{Meaning}
use Rattle.rssd_core.specs.declared.device.Counts.{Counts}
use Rattle.rssd_core.specs.declared.device.Plan.{Plan}
use Rattle.rssd_core.specs.DeviceValue.{Numbers, DeviceValue, rows_of}
use Rattle.rssd_core.specs.Failures.{Tells}
use Rattle.rssd_core.specs.Mount.{Fits, Mounts, numbers_of}
use Rattle.rssd_script.specs.declared.lines.Line.{Line}
use Rattle.rssd_script.specs.declared.lines.Line.TheVariants.{Cut, FailRead, Mount, Stat}
use Rattle.rssd_script.specs.declared.replies.Reply.{Reply}
use Rattle.rssd_script.specs.declared.replies.Reply.TheVariants.{Stat as Counted}
use Rattle.rssd_run.specs.View.{View, IsOff, StandsFor, erased}
use Rattle.rssd_run.specs.Held.{Tallies, plus, tallies_of, Calm}
use Rattle.rssd_run.specs.Steps.{ArrayIs, IsKept}
use Rattle.rssd_run.specs.Step.{IsStep, KeepsDie}

-- What a session has: a device; or, after a mount that was refused, a die alone, on which a device would have these numbers;
-- or nothing, while it mounts.
pub data Holding : Type 0 where
  Mounted : (device : DeviceValue) → Holding
  Closed : (numbers : Numbers) (die : DieState) → Holding
  Nothing : Holding

-- a session, and the tallies of the devices that it had before
pub record SessionValue : Type 0 where
  pub base : Tallies
  pub holding : Holding

-- the device of the session has these numbers
abbrev pub HasNumbers : Numbers → Holding → Type 0
HasNumbers d (Mounted device) = device.numbers ≡ d
HasNumbers d (Closed numbers die) = numbers ≡ d
HasNumbers d Nothing = ⊥

-- the session's die
abbrev pub HasDie : DieState → Holding → Type 0
HasDie die (Mounted device) = device.view.die ≡ die
HasDie die (Closed numbers other) = other ≡ die
HasDie die Nothing = ⊥

abbrev pub ShowsHolding : Numbers → Tallies → Holding → View → Type 0
ShowsHolding d base (Mounted device) view = (view.device ≡ plus base device.view) × ArrayIs device.stopped (rows_of d device.view) view.array
ShowsHolding d base (Closed numbers die) view = (view.device.die ≡ die) × (tallies_of view.device ≡ base) × IsOff view.array × StandsFor d view
ShowsHolding d base Nothing view = ⊥

-- The views that a session stands for. One that is on stands for exactly one.
abbrev pub Shows : Numbers → SessionValue → View → Type 0
Shows d session view = ShowsHolding d session.base session.holding view

-- Whatever the cells: the session's die keeps its shape and goes on telling its armed failures, no cell's charge falls between
-- erases of its block, no pad cell is charged, and sound cells stay sound.
abbrev pub KeepsSession : Numbers → SessionValue → SessionValue → Type 0
KeepsSession d old new = (die : DieState) → HasDie die old.holding → (after : DieState) × HasDie after new.holding × KeepsDie d die after

-- The session keeps its die. From each view that it stood for, the line and its reply are a step to one that it stands for, over
-- sound cells or with no cut armed.
pub record StepsSession (d : Numbers) (line : Line) (reply : Reply) (old new : SessionValue) : Type 0 where
  pub keeps : KeepsSession d old new
  pub step : (before : View) → Shows d old before → Calm d before.device.die
      → (after : View) × Shows d new after × IsStep d (record { line = line; reply = reply; before = before; after = after })

-- a line that may be stepped: one that arms a failure names at least the next call
abbrev pub CanStep : Line → Type 0
CanStep (Cut n torn) = 1 ≤ n
CanStep (FailRead n) = 1 ≤ n
CanStep _ = Unit {0}

-- a line that a device answers
abbrev pub IsDeviceLine : Line → Type 0
IsDeviceLine Mount = ⊥
IsDeviceLine Stat = ⊥
IsDeviceLine _ = Unit {0}

-- the die of these numbers fits the plan, which gives them
pub record IsPlanned (d : Numbers) (plan : Plan) : Type 0 where
  pub fits : Fits (shape_of d.geometry) d.meaning plan
  pub numbers : numbers_of (shape_of d.geometry) d.meaning plan ≡ d

-- the tallies are numbers of 64 bits
pub record AreSmall (base : Tallies) : Type 0 where
  pub first : base.first < 2 ^ 64
  pub second : base.second < 2 ^ 64
  pub declined : base.declined < 2 ^ 64
  pub moved : base.moved < 2 ^ 64

-- what a session keeps of what it has
abbrev pub IsHeld : Plan → Holding → Type 0
IsHeld plan (Mounted device) = IsPlanned device.numbers plan × IsKept device.numbers device
IsHeld plan (Closed numbers die) = IsPlanned numbers plan × (die.shape ≡ shape_of numbers.geometry) × Tells die
IsHeld plan Nothing = ⊥

-- a session's fields
pub record Parts (D C F : Type 0) : Type 0 where
  pub mounted : Option F
  pub closed : Option (D × C)
  pub plan : Plan
  pub base : Counts

-- what the fields of a session hold: a device, or else a die with its scheme
abbrev pub holding_of : Plan → Option DeviceValue → Option (DieState × Meaning) → Holding
holding_of plan (Some device) closed = Mounted device
holding_of plan None (Some held) = Closed (numbers_of held.0.shape held.1 plan) held.0
holding_of plan None None = Nothing

-- the tallies of counts
abbrev pub tallies : Counts → Tallies
tallies counts = record { first = counts.first; second = counts.second; declined = counts.declined; moved = counts.moved }

-- the session that these fields are
abbrev pub session_of : {D C F : Type 0} → (D → DieState) → (C → Meaning) → (F → DeviceValue) → Parts D C F → SessionValue
session_of state meaning device parts = record {
  base = tallies parts.base;
  holding = holding_of parts.plan (option_map device parts.mounted) (option_map (λ held. (state held.0, meaning held.1)) parts.closed);
}

-- what is true of a session
pub record IsSession (plan : Plan) (session : SessionValue) : Type 0 where
  pub small : AreSmall session.base
  pub held : IsHeld plan session.holding

-- the reply to `stat` has the tallies of each view, and the sum of its erase counts
abbrev pub stat_of : View → Reply
stat_of view = Counted view.device.first view.device.second view.device.declined view.device.moved (erased view)

abbrev pub SaysStat : Numbers → SessionValue → Reply → Type 0
SaysStat d session reply = (view : View) → Shows d session view → reply ≡ stat_of view

-- a session that was started on this die: it is on, with no tallies, and its device is that of a mount
pub record Starts (d : Numbers) (die : DieState) (session : SessionValue) : Type 0 where
  pub device : DeviceValue
  pub holding : session.holding ≡ Mounted device
  pub mounts : Mounts d die device
  pub base : session.base ≡ record { first = 0; second = 0; declined = 0; moved = 0 }
