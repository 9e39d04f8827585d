-- The sector array with power cuts: which replies may come, and what it holds after them.
use Rattle.std.specs.Prelude.{◌≡◌, ◌⊎◌, ℕ, List, [], slice_index_or}
use Rattle.rssd_script.specs.declared.lines.Line.{Line}
use Rattle.rssd_script.specs.declared.lines.Line.TheVariants.{Write, Read, Trim, Idle, Cut, FailRead, Mount, Stat}
use Rattle.rssd_script.specs.declared.replies.Reply.{Reply}
use Rattle.rssd_script.specs.declared.replies.Reply.TheVariants.{First, Second, Declined, Bytes, Done, Moves, Stat as Counts, Range, Long, Off as SaysOff, Fault, Spent, NoSpare, NoMemory}
use Rattle.rssd_core.specs.SectorArray.{written, trimmed, without_zeros}

-- On: what the array holds. Off: what it held, and what it would hold had the cut command been done
pub data ArrayState : Type 0 where
  On : (rows : List (List ℕ)) → ArrayState
  Off : (old new : List (List ℕ)) → ArrayState

-- after a fault the array goes on as it was, or is off until a mount settles it
abbrev pub MayBeOff : List (List ℕ) → List (List ℕ) → ArrayState → Type 0
MayBeOff rows new next = (next ≡ On rows) ⊎ (next ≡ Off rows new)

-- a write that would leave the rows new
abbrev pub WriteRow : List (List ℕ) → List (List ℕ) → Reply → ArrayState → Type 0
WriteRow rows new First next = next ≡ On new
WriteRow rows new Second next = next ≡ On new
WriteRow rows new Declined next = next ≡ On new
WriteRow rows new Fault next = MayBeOff rows new next
WriteRow rows new Range next = next ≡ On rows
WriteRow rows new Long next = next ≡ On rows
WriteRow rows new Spent next = next ≡ On rows
WriteRow rows new reply next = ⊥

-- a trim that would leave the rows new
abbrev pub TrimRow : List (List ℕ) → List (List ℕ) → Reply → ArrayState → Type 0
TrimRow rows new Done next = next ≡ On new
TrimRow rows new Fault next = MayBeOff rows new next
TrimRow rows new Range next = next ≡ On rows
TrimRow rows new Spent next = next ≡ On rows
TrimRow rows new reply next = ⊥

-- a read of a row
abbrev pub ReadRow : List (List ℕ) → List ℕ → Reply → ArrayState → Type 0
ReadRow rows row (Bytes bytes) next = (bytes ≡ without_zeros row) × (next ≡ On rows)
ReadRow rows row Fault next = next ≡ On rows
ReadRow rows row Range next = next ≡ On rows
ReadRow rows row reply next = ⊥

abbrev pub IdleRow : List (List ℕ) → Reply → ArrayState → Type 0
IdleRow rows (Moves n) next = next ≡ On rows
IdleRow rows Fault next = MayBeOff rows rows next
IdleRow rows reply next = ⊥

-- `cut` and `failread`
abbrev pub ArmRow : List (List ℕ) → Reply → ArrayState → Type 0
ArmRow rows Done next = next ≡ On rows
ArmRow rows reply next = ⊥

abbrev pub StatRow : ArrayState → Reply → ArrayState → Type 0
StatRow state (Counts first second declined moved erased) next = next ≡ state
StatRow state reply next = ⊥

abbrev pub MountRow : List (List ℕ) → Reply → ArrayState → Type 0
MountRow rows Done next = next ≡ On rows
MountRow rows Fault next = next ≡ Off rows rows
MountRow rows NoSpare next = next ≡ Off rows rows
MountRow rows NoMemory next = next ≡ Off rows rows
MountRow rows reply next = ⊥

-- while it is on
abbrev pub OnRow : ℕ → List (List ℕ) → Line → Reply → ArrayState → Type 0
OnRow size rows (Write sector bytes) reply next = WriteRow rows (written size rows sector bytes) reply next
OnRow size rows (Trim sector) reply next = TrimRow rows (trimmed size rows sector) reply next
OnRow size rows (Read sector) reply next = ReadRow rows (slice_index_or rows sector []) reply next
OnRow size rows (Idle n) reply next = IdleRow rows reply next
OnRow size rows (Cut n torn) reply next = ArmRow rows reply next
OnRow size rows (FailRead n) reply next = ArmRow rows reply next
OnRow size rows Mount reply next = MountRow rows reply next
OnRow size rows Stat reply next = StatRow (On rows) reply next

-- a mount of an array that is off: it is what it was or what it would have been
abbrev pub RemountRow : List (List ℕ) → List (List ℕ) → Reply → ArrayState → Type 0
RemountRow old new Done next = (next ≡ On old) ⊎ (next ≡ On new)
RemountRow old new Fault next = next ≡ Off old new
RemountRow old new NoSpare next = next ≡ Off old new
RemountRow old new NoMemory next = next ≡ Off old new
RemountRow old new reply next = ⊥

-- any other line while it is off
abbrev pub RefusedRow : ArrayState → Reply → ArrayState → Type 0
RefusedRow state SaysOff next = next ≡ state
RefusedRow state reply next = ⊥

abbrev pub OffRow : List (List ℕ) → List (List ℕ) → Line → Reply → ArrayState → Type 0
OffRow old new Mount reply next = RemountRow old new reply next
OffRow old new Stat reply next = StatRow (Off old new) reply next
OffRow old new line reply next = RefusedRow (Off old new) reply next

-- one line, its reply and the state after it; size is the bytes of a sector
abbrev pub Row : ℕ → ArrayState → Line → Reply → ArrayState → Type 0
Row size (On rows) line reply next = OnRow size rows line reply next
Row size (Off old new) line reply next = OffRow old new line reply next
