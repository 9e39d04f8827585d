-- The power of a die in memory, its armed failures, and its counts of faults.
use Rattle.std.specs.Prelude.{◌≡◌, ◌≤◌, ◌&&◌, ◌==◌, not, Bool, true, false}
use Rattle.cell_die.specs.declared.shape.Torn.{Torn}
use Rattle.cell_die.specs.Counts.{raised}
use Rattle.cell_die.specs.DieState.{Failures}
use Rattle.cell_die.specs.Calls.{Nearer, CutCame, ReadFailureCame}
use Rattle.mem_die.specs.declared.supply.Supply.{Supply}
use Rattle.mem_die.specs.declared.supply.Change.{Change}
use Rattle.mem_die.specs.declared.supply.Change.TheVariants.{Whole, Cut, Refused}

-- what the die tells of its failures to come
abbrev pub failures_of : Supply → Failures
failures_of supply = record { powered = supply.powered; cut = supply.cut; form = supply.torn; read_failure = supply.read_failure }

-- whether a change call answers Ok: the die has power, and its armed cut does not come with this call
abbrev pub change_passes : Failures → Bool
change_passes failures = failures.powered && not (failures.cut == 1)

-- whether a read answers Ok: the die has power, and its armed read failure does not come with this read
abbrev pub read_passes : Failures → Bool
read_passes failures = failures.powered && not (failures.read_failure == 1)

-- a change call of a die with power, with which no cut comes
pub record ChangePasses (old new : Supply) : Type 0 where
  pub passes : change_passes (failures_of old) ≡ true
  pub powered : old.powered ≡ true
  pub nearer : Nearer 1 0 (failures_of old) (failures_of new)
  pub read_faults : new.read_faults ≡ old.read_faults
  pub change_faults : new.change_faults ≡ old.change_faults

-- a change call of a die with power, with which the cut of this form comes
pub record ChangeIsCut (torn : Torn) (old new : Supply) : Type 0 where
  pub passes_not : change_passes (failures_of old) ≡ false
  pub powered : old.powered ≡ true
  pub form : torn ≡ old.torn
  pub came : CutCame 1 0 (failures_of old) (failures_of new)
  pub off : new.powered ≡ false
  pub read_faults : new.read_faults ≡ old.read_faults
  pub change_faults : new.change_faults ≡ raised old.change_faults
  pub no_lower : old.change_faults ≤ new.change_faults

-- a change call of a die without power
pub record ChangeIsRefused (old new : Supply) : Type 0 where
  pub passes_not : change_passes (failures_of old) ≡ false
  pub off : old.powered ≡ false
  pub same : failures_of new ≡ failures_of old
  pub read_faults : new.read_faults ≡ old.read_faults
  pub change_faults : new.change_faults ≡ raised old.change_faults
  pub no_lower : old.change_faults ≤ new.change_faults

-- how a change call begins, by what it is told to do
abbrev pub ChangeBegins : Change → Supply → Supply → Type 0
ChangeBegins Whole old new = ChangePasses old new
ChangeBegins (Cut torn) old new = ChangeIsCut torn old new
ChangeBegins Refused old new = ChangeIsRefused old new

-- a read of a die with power, with which no failure comes
pub record ReadPasses (old new : Supply) : Type 0 where
  pub passes : read_passes (failures_of old) ≡ true
  pub powered : old.powered ≡ true
  pub nearer : Nearer 0 1 (failures_of old) (failures_of new)
  pub read_faults : new.read_faults ≡ old.read_faults
  pub change_faults : new.change_faults ≡ old.change_faults

-- a read fails: without power, or as the armed read failure
pub record ReadFails (old new : Supply) : Type 0 where
  pub passes_not : read_passes (failures_of old) ≡ false
  pub came : old.powered ≡ true → ReadFailureCame 0 1 (failures_of old) (failures_of new)
  pub refused : old.powered ≡ false → failures_of new ≡ failures_of old
  pub same_power : new.powered ≡ old.powered
  pub read_faults : new.read_faults ≡ raised old.read_faults
  pub no_lower : old.read_faults ≤ new.read_faults
  pub change_faults : new.change_faults ≡ old.change_faults

-- how a read begins, by whether it is served
abbrev pub ReadBegins : Bool → Supply → Supply → Type 0
ReadBegins true old new = ReadPasses old new
ReadBegins false old new = ReadFails old new
