-- Where a run begins: a device that was mounted on a die of its head, as that of the head and kind that were asked for.
use Rattle.std.proofs.Common.{◌≡◌, ◌⊎◌, inl, inr, ℕ, ◌+◌, ◌*◌, ◌<◌, List, true, replicate, refl, sym, ap, ◌∙◌, arith, subst}
use Rattle.cell_die.specs.DieState.{DieState, IsShaped, page_count}
use Rattle.cell_die.proofs.Quiet.{quiet_read}
use Rattle.mem_die.specs.MemState.{IsMade, IsNew}
use Rattle.striped.specs.Meaning.{Meaning}
use Rattle.die_image.specs.declared.head.ImageHead.{ImageHead}
use Rattle.die_image.specs.Image.{is_within_limits, shape_of}
use Rattle.cell_die.specs.declared.shape.Shape.{Shape}
use Rattle.rssd_core.specs.DeviceValue.{Numbers, DeviceValue}
use Rattle.rssd_core.specs.declared.device.MountError.{MountError}
use Rattle.rssd_core.specs.declared.device.MountError.TheVariants.{OutOfMemory, Shape as BadShape, DieFault, NoSpare}
use Rattle.rssd_core.specs.Mount.{Fits, Mounts, MountFails, Refuses, EveryBlockLive, numbers_of}
use Rattle.rssd_words.specs.Commands.{IsWithin}
use Rattle.rssd_run.specs.Heads.{numbers_named, plan_of}
use Rattle.rssd_run.specs.PlayRuns.{IsBlankDie}
use Rattle.schemes.specs.Schemes.{meaning_named, HasRow}
use Rattle.rssd_run.proofs.BlankCells.{IsBlank, blank_counts}
use Rattle.rssd_run.proofs.HeadLimits.{head_limits, head_fits}
use Rattle.rssd_run.proofs.PairPlays.{pair_blank}
use Rattle.rssd_run.proofs.WornPlays.{worn_blank}
use Rattle.schemes.proofs.Rows.{named_row}
use Rattle.lab_words.specs.declared.asked.AskedDie.{AskedDie}
use Rattle.lab_words.specs.declared.asked.DieKind.{DieKind}
use Rattle.lab_words.specs.declared.asked.DieKind.TheVariants.{Plain, Worn, Pair}
use Rattle.lab_words.specs.Orders.{command_on, IsDieWithin}
use Rattle.rssd_lab.specs.declared.stage.Stage.{Stage}
use Rattle.rssd_lab.specs.declared.stage.Stage.TheVariants.{Blank, Image}
use Rattle.rssd_lab.specs.Dies.{IsBlankOf}
use Rattle.rssd_lab.specs.Stages.{IsStageWithin, head_on}

-- a new die has no charged cell, and no mount of it fails
new_blank : (shape : Shape) (die : DieState) → IsNew shape die → IsBlankDie shape die
new_blank shape die new = record { same_shape = new.same_shape; blank = new.blank; erases = new.erases; read_faults = new.read_faults; change_faults = new.change_faults }

pub new_mounts : (shape : Shape) (d : Numbers) (die new : DieState) → IsNew shape die → MountFails d die new → ⊥
new_mounts shape d die new is fails = quiet_read is.quiet fails.failed

pub made_mounts : (shape : Shape) (cells : List ℕ) (d : Numbers) (die new : DieState) → IsMade shape cells die → MountFails d die new → ⊥
made_mounts shape cells d die new is fails = quiet_read is.quiet fails.failed

-- A mount of a die of a head is refused only for want of memory or of a spare block.
module _ (head : ImageHead) (within : is_within_limits head ≡ true) (die : DieState) (shape : die.shape ≡ shape_of head)
    (meaning : Meaning) (meaning_is : meaning ≡ meaning_named head.scheme) where
  numbers_same : numbers_of die.shape meaning (plan_of head) ≡ numbers_named head
  numbers_same = λ i. numbers_of (shape i) (meaning_is i) (plan_of head)

  given_fits : Fits die.shape meaning (plan_of head)
  given_fits = subst (λ (s : Shape). Fits s meaning (plan_of head)) (sym shape)
      (subst (λ (m : Meaning). Fits (shape_of head) m (plan_of head)) (sym meaning_is) (head_fits head within))

  refused_so : (new : DieState) (why : MountError) → (MountFails (numbers_named head) die new → ⊥) → (why ≡ BadShape → ¬ Fits die.shape meaning (plan_of head))
      → Refuses (numbers_named head) die new why → (why ≡ OutOfMemory) ⊎ ((why ≡ NoSpare) × EveryBlockLive (numbers_named head).geometry die)
  refused_so new OutOfMemory never misshaped refuses = inl refl
  refused_so new BadShape never misshaped refuses = absurd (misshaped refl given_fits)
  refused_so new DieFault never misshaped refuses = absurd (never refuses)
  refused_so new NoSpare never misshaped refuses = inr (refl, refuses.full)

  refused : (new : DieState) (why : MountError) → (MountFails (numbers_named head) die new → ⊥) → (why ≡ BadShape → ¬ Fits die.shape meaning (plan_of head))
      → Refuses (numbers_of die.shape meaning (plan_of head)) die new why → (why ≡ OutOfMemory) ⊎ ((why ≡ NoSpare) × EveryBlockLive (numbers_named head).geometry die)
  refused new why never misshaped refuses = refused_so new why never misshaped (subst (λ (d : Numbers). Refuses d die new why) numbers_same refuses)

  mounts_so : (device : DeviceValue) → Mounts (numbers_of die.shape meaning (plan_of head)) die device → Mounts (numbers_named head) die device
  mounts_so device mounts = subst (λ (d : Numbers). Mounts d die device) numbers_same mounts

-- The same of a die that stands within another one.
module _ {D : Type 0} (state : D → DieState) {inner die : D} (same : inner ≡ die) (head : ImageHead) (within : is_within_limits head ≡ true)
    (shape : (state die).shape ≡ shape_of head) (meaning : Meaning) (meaning_is : meaning ≡ meaning_named head.scheme) where
  inner_shape : (state inner).shape ≡ shape_of head
  inner_shape = subst (λ (d : D). (state d).shape ≡ shape_of head) (sym same) shape

  pub refused_within : (new : D) (why : MountError) → ((new : D) → MountFails (numbers_named head) (state die) (state new) → ⊥)
      → (why ≡ BadShape → ¬ Fits (state inner).shape meaning (plan_of head)) → Refuses (numbers_of (state inner).shape meaning (plan_of head)) (state inner) (state new) why
      → (why ≡ OutOfMemory) ⊎ ((why ≡ NoSpare) × EveryBlockLive (numbers_named head).geometry (state die))
  refused_within new why never misshaped refuses =
      subst (λ (d : D). (why ≡ OutOfMemory) ⊎ ((why ≡ NoSpare) × EveryBlockLive (numbers_named head).geometry (state d))) same
      (refused head within (state inner) inner_shape meaning meaning_is (state new) why
      (λ fails. never new (subst (λ (d : D). MountFails (numbers_named head) (state d) (state new)) same fails)) misshaped refuses)

  pub mounts_within : (device : DeviceValue) → Mounts (numbers_of (state inner).shape meaning (plan_of head)) (state inner) device → Mounts (numbers_named head) (state die) device
  mounts_within device mounts = subst (λ (d : D). Mounts (numbers_named head) (state d) device) same (mounts_so head within (state inner) inner_shape meaning meaning_is device mounts)

-- the head of a die that is within the limits
pub kind_within : (head : ImageHead) (kind : DieKind) → IsWithin (command_on head kind) → is_within_limits head ≡ true
kind_within head Plain within = within
kind_within head (Worn reserve bad) within = within.0
kind_within head Pair within = within.0

pub head_within : (asked : AskedDie) → IsDieWithin asked → is_within_limits asked.head ≡ true
head_within asked within = kind_within asked.head asked.kind within

-- no cell of a blank die is charged, of whichever kind it is
kind_blank : (head : ImageHead) (kind : DieKind) → IsWithin (command_on head kind) → (die : DieState) → IsBlankOf head kind die → IsBlankDie (shape_of head) die
kind_blank head Plain within die blank = new_blank (shape_of head) die blank
kind_blank head (Worn reserve bad) within die blank = worn_blank head reserve bad within.0 within.1 die blank
kind_blank head Pair within die blank = pair_blank head die within.1 blank

pub blank_of : (asked : AskedDie) → IsDieWithin asked → (head : ImageHead) → head ≡ asked.head → (die : DieState) → IsBlankOf asked.head asked.kind die → IsBlankDie (shape_of head) die
blank_of asked within head of_head die blank = subst (λ (h : ImageHead). IsBlankDie (shape_of h) die) (sym of_head) (kind_blank asked.head asked.kind within die blank)

-- no block of a blank die has a live record
pub never_full : (head : ImageHead) → is_within_limits head ≡ true → (die : DieState) → IsShaped die → IsBlankDie (shape_of head) die → EveryBlockLive (numbers_named head).geometry die → ⊥
never_full head within die shaped blank full =
    let row : HasRow head.scheme (meaning_named head.scheme) = named_row head.scheme in
    let some_blocks : 0 < head.blocks = omega (arith, (head_limits head within).some_blocks) in
    let cells : IsBlank (numbers_named head).geometry die.cells = record {
      pages = shaped.pages ∙ ap page_count blank.same_shape;
      blank = λ page inside. blank.blank page inside ∙ ap (λ (n : ℕ). replicate ((shape_of head).main_bytes + 16 * n) 0) (sym row.generations);
    } in
    omega (arith, full 0 some_blocks, blank_counts (numbers_named head).geometry die.cells cells 0)

pub stage_within : (stage : Stage) → IsStageWithin stage → is_within_limits (head_on stage) ≡ true
stage_within (Blank asked) within = head_within asked within
stage_within (Image ready) within = ready.within
