-- How states, the next seq and the tally of moved records change in one step.
use Rattle.std.specs.Prelude.{◌≡◌, ℕ, Bool, true, false, List, length}
use Rattle.rssd_script.specs.declared.lines.Line.{Line}
use Rattle.rssd_script.specs.declared.lines.Line.TheVariants.{Write, Trim, Idle, Mount}
use Rattle.rssd_script.specs.declared.replies.Reply.{Reply}
use Rattle.rssd_script.specs.declared.replies.Reply.TheVariants.{First, Second, Declined, Done, Moves, Fault}
use Rattle.rssd_core.specs.declared.device.Placed.TheVariants.{First as PutFirst, Second as PutSecond, Declined as PutDeclined}
use Rattle.rssd_core.specs.SectorArray.{filled_up}
use Rattle.rssd_core.specs.BookChanges.{Change}
use Rattle.rssd_core.specs.DeviceValue.{Numbers}
use Rattle.rssd_core.specs.Moves.{MovesBook, MovesSeq, CollectAtCut}
use Rattle.rssd_core.specs.IdleRule.{IdleMoves, IdleUnfinished}
use Rattle.rssd_core.specs.Outcomes.{WriteMay, WriteFaultMay, TrimMay, TrimFaultMay, IdleMay, RisesSealed, RisesTo, RisesFinished, WriteAtCut, IdleAtCut}
use Rattle.rssd_core.specs.Mount.{IsMountedView}
use Rattle.rssd_core.specs.Failures.{cut_of}
use Rattle.rssd_run.specs.ArrayWithCuts.{ArrayState, On, Off}
use Rattle.rssd_run.specs.View.{Event, ACut}

-- whether the array is off, as after a failed change call
abbrev pub is_off : ArrayState → Bool
is_off (On rows) = false
is_off (Off old new) = true

-- which changes a line may make of the book, by its reply and by the state after it
abbrev pub MayChange : ArrayState → Line → Reply → List Change → Type 0
MayChange after (Write sector bytes) First changes = WriteMay PutFirst changes
MayChange after (Write sector bytes) Second changes = WriteMay PutSecond changes
MayChange after (Write sector bytes) Declined changes = WriteMay PutDeclined changes
MayChange after (Write sector bytes) Fault changes = WriteFaultMay (is_off after) changes
MayChange after (Trim sector) Done changes = TrimMay changes
MayChange after (Trim sector) Fault changes = TrimFaultMay (is_off after) changes
MayChange after (Idle n) (Moves k) changes = IdleMay changes
MayChange after (Idle n) Fault changes = IdleMay changes
MayChange after line reply changes = length changes ≡ 0

-- by how much the tally of moved records rises: a collection's records at its seal, an idle move at its gate
abbrev pub RisesBy : Event → Line → Reply → List Change → ℕ → Type 0
RisesBy e (Idle n) (Moves k) changes rise = RisesTo k changes rise
RisesBy e (Idle n) Fault changes rise = RisesFinished e.before.device e.after.device changes rise
RisesBy e line reply changes rise = RisesSealed e.before.device.book changes rise

-- the rise of the tally where an armed cut came, by its number before the step
abbrev pub AtCut : Numbers → Event → Line → ℕ → ℕ → Type 0
AtCut d e (Write sector bytes) c rise = WriteAtCut d e.before.device (filled_up d.geometry.sector_bytes bytes) c rise
AtCut d e (Trim sector) c rise = CollectAtCut e.before.device.book c rise
AtCut d e (Idle n) c rise = IdleAtCut c rise
AtCut d e line c rise = Unit {0}

abbrev pub WhereCutCame : Numbers → Event → ℕ → Type 0
WhereCutCame d e rise = ACut e → AtCut d e e.line (cut_of e.before.device.die) rise

-- the book moves by uses of rules, and the next seq as they draw it
pub record ByRules (d : Numbers) (e : Event) : Type 0 where
  pub book : MovesBook d (MayChange e.after.array e.line e.reply) (RisesBy e e.line e.reply) (WhereCutCame d e) e.before.device e.after.device
  pub seq : MovesSeq d e.before.device e.after.device

-- an idle call that answers k moves the live records of exactly k sectors by the idle-move rule; before a fault some were moved
-- by it, and one more was not finished
abbrev pub MovesRecords : Numbers → Event → Line → Reply → Type 0
MovesRecords d e (Idle n) (Moves k) = IdleMoves d e.before.device e.after.device k
MovesRecords d e (Idle n) Fault = IdleUnfinished d n e.before.device e.after.device
MovesRecords d e line reply = Unit {0}

-- a mount with ok makes its own book; any other line moves the book, the seqs and the tally by rules
abbrev pub BookMoves : Numbers → Event → Line → Reply → Type 0
BookMoves d e Mount Done = IsMountedView d e.after.device × (e.after.device.moved ≡ e.before.device.moved)
BookMoves d e line reply = ByRules d e × MovesRecords d e line reply
