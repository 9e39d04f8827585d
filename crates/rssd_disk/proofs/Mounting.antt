-- A disk over a device, before and after a mount of its die.
use Rattle.std.proofs.Common.{◌≡◌, ℕ, ◌-◌, ◌*◌, ◌≤◌, false, List, arith, sym, ◌∙◌, ap, refl, subst, Option, Some, None, IfSome, IfNone}
use Rattle.std.proofs.lemmas.Nat.{mul-le}
use Rattle.cell_die.specs.declared.shape.Shape.{Shape}
use Rattle.cell_die.specs.DieState.{DieState}
use Rattle.nbd_wire.specs.declared.reply.Errno.{Errno}
use Rattle.nbd_wire.specs.declared.reply.Errno.TheVariants.{InputOutput}
use Rattle.nbd_wire.specs.declared.request.Request.{Request}
use Rattle.striped.specs.Meaning.{Meaning}
use Rattle.rssd_core.specs.declared.device.MountError.{MountError}
use Rattle.rssd_core.specs.declared.device.MountError.TheVariants as errors
use Rattle.rssd_core.specs.declared.device.Plan.{Plan}
use Rattle.rssd_core.specs.DeviceValue.{Numbers, DeviceValue}
use Rattle.rssd_core.specs.Mount.{Fits, Mounts, Refuses, numbers_of}
use Rattle.rssd_disk.specs.declared.device_disk.DeviceDisk.{DeviceDisk}
use Rattle.rssd_disk.specs.Answers.{Answers}
use Rattle.rssd_disk.specs.Disk.{disk_size, IsDisk}
use Rattle.rssd_disk.specs.Held.{Holding, holding_of, held_by, numbers_held, SameHeld, IsHeld, IsPlanned, IsTold, IsReady, Runs, Gives, ComesFrom, AnswersHeld}
use Rattle.rssd_disk.specs.DeviceBytes.{bytes_of_cells, sector_bytes_on}
use Rattle.rssd_disk.specs.DeviceDisks.{holding, IsDeviceDisk, DeviceAnswers}
use Rattle.rssd_disk.proofs.Carried.{ready_parts, some_of}
use Rattle.rssd_disk.proofs.Plainly.{HasSectors, Stepped}
use Rattle.rssd_disk.proofs.PlainSessions.{Good, stepped, sectors_told, size_told}

-- ---- a mount

pub mounts_planned : (shape : Shape) (meaning : Meaning) (plan : Plan) (die : DieState) (new : DeviceValue) → shape ≡ die.shape → Mounts (numbers_of shape meaning plan) die new
    → new.numbers ≡ numbers_held plan (holding_of new)
mounts_planned shape meaning plan die new own m =
    let means : new.numbers.meaning ≡ meaning = ap (λ (d : Numbers). d.meaning) m.numbers in
    m.numbers ∙ sym (ap (λ s. numbers_of s new.numbers.meaning plan) (m.kept.shape ∙ sym own) ∙ ap (λ n. numbers_of shape n plan) means)

pub mounts_told : (shape : Shape) (meaning : Meaning) (plan : Plan) (die : DieState) (new : DeviceValue) → Mounts (numbers_of shape meaning plan) die new
    → disk_size new.numbers ≡ plan.sectors * new.numbers.meaning.sector_bytes
mounts_told shape meaning plan die new m = ap disk_size m.numbers ∙ sym (ap (λ (d : Numbers). plan.sectors * d.meaning.sector_bytes) m.numbers)

pub mounts_bytes : (shape : Shape) (meaning : Meaning) (plan : Plan) (die : DieState) (new : DeviceValue) → shape ≡ die.shape → Mounts (numbers_of shape meaning plan) die new
    → bytes_of_cells (numbers_held plan (holding_of new)) new.view.die.cells ≡ bytes_of_cells (numbers_of shape meaning plan) die.cells
mounts_bytes shape meaning plan die new own m =
    ap (λ d. bytes_of_cells d new.view.die.cells) (sym (mounts_planned shape meaning plan die new own m) ∙ m.numbers) ∙ ap (λ c. bytes_of_cells (numbers_of shape meaning plan) c) m.cells.cells

pub fits_disk : (shape : Shape) (meaning : Meaning) (plan : Plan) (die : DieState) (new : DeviceValue) → Fits shape meaning plan → Mounts (numbers_of shape meaning plan) die new → IsDisk new.numbers
fits_disk shape meaning plan die new fits m =
    let product : (shape.blocks - 1) * shape.pages ≤ 1023 * 128 = mul-le (shape.blocks - 1) shape.pages 1023 128 (omega (arith, fits.few_blocks)) fits.few_pages in
    let sizes : IsDisk (numbers_of shape meaning plan) = record {
      some = fits.served.some_sector_bytes;
      few = fits.served.few_sector_bytes;
      small = omega (arith, fits.few_sectors, product);
    } in
    subst IsDisk (sym m.numbers) sizes

-- a device that was mounted is a disk
pub mounts_disk : {D C F : Type 0} (state : D → DieState) (meaning : C → Meaning) (device : F → DeviceValue) (shape : Shape) (means : Meaning) (die : DieState) (disk : DeviceDisk D C F) (ftl : F)
    → disk.mounted ≡ Some ftl → shape ≡ die.shape
    → Fits shape means disk.plan → Mounts (numbers_of shape means disk.plan) die (device ftl) → disk.size ≡ disk_size (device ftl).numbers → IsDeviceDisk state meaning device disk
mounts_disk {D} {C} {F} state meaning device shape means die disk ftl is own fits m sized =
    let Held : Option F → Type 0 = λ x. IsHeld device x disk.closed in
    let Planned : Option F → Type 0 = λ x. IsPlanned device disk.plan x in
    let Told : Option F → Type 0 = λ x. IsTold disk.plan disk.size (held_by state meaning device x disk.closed) in
    record {
      held = subst Held (sym is) (fits_disk shape means disk.plan die (device ftl) fits m);
      planned = subst Planned (sym is) (mounts_planned shape means disk.plan die (device ftl) own m);
      told = subst Told (sym is) (sized ∙ mounts_told shape means disk.plan die (device ftl) m);
    }

-- ---- a mount that is refused

-- the die that is handed back has the same cells
pub record SameDie (old new : DieState) : Type 0 where
  pub shape : new.shape ≡ old.shape
  pub cells : new.cells ≡ old.cells

refuses_same : (d : Numbers) (die new : DieState) (why : MountError) → Refuses d die new why → SameDie die new
refuses_same d die new (errors.OutOfMemory) h = record { shape = ap (λ (x : DieState). x.shape) h; cells = ap (λ (x : DieState). x.cells) h }
refuses_same d die new (errors.Shape) h = record { shape = ap (λ (x : DieState). x.shape) h; cells = ap (λ (x : DieState). x.cells) h }
refuses_same d die new (errors.DieFault) h = record { shape = h.kept.shape; cells = h.cells.cells }
refuses_same d die new (errors.NoSpare) h = record { shape = h.kept.shape; cells = h.cells.cells }

pub refused_same : {D C F : Type 0} (state : D → DieState) (meaning : C → Meaning) (device : F → DeviceValue) (mounted : Option F) (closed : Option (D × C)) (held left : D × C) (d : Numbers)
    (why : MountError)
    → Gives state meaning device mounted closed held → Refuses d (state held.0) (state left.0) why → meaning left.1 ≡ meaning held.1
    → SameHeld (held_by state meaning device mounted closed) (held_by state meaning device None (Some left))
refused_same state meaning device (Some ftl) closed held left d why gives refuses means =
    let same : SameDie (state held.0) (state left.0) = refuses_same d (state held.0) (state left.0) why refuses in
    record {
      shape = same.shape ∙ ap (λ (x : DieState). x.shape) gives.0;
      cells = same.cells ∙ ap (λ (x : DieState). x.cells) gives.0;
      meaning = means ∙ gives.1;
    }
refused_same {D} {C} state meaning device None (Some own) held left d why gives refuses means =
    let same : SameDie (state held.0) (state left.0) = refuses_same d (state held.0) (state left.0) why refuses in
    let e : held ≡ own = cc in
    record {
      shape = same.shape ∙ ap (λ (x : D × C). (state x.0).shape) e;
      cells = same.cells ∙ ap (λ (x : D × C). (state x.0).cells) e;
      meaning = means ∙ ap (λ (x : D × C). meaning x.1) e;
    }
refused_same state meaning device None None held left d why gives refuses means = absurd (let no : ⊥ = cc in no)

-- ---- a request

-- what is told stays true
told_after : (plan : Plan) (size sector_bytes : ℕ) (held : Option Holding) → size ≡ plan.sectors * sector_bytes → HasSectors sector_bytes held → IsTold plan size held
told_after plan size sector_bytes (Some h) sized sectors = sized ∙ ap (λ n. plan.sectors * n) (sym sectors)
told_after plan size sector_bytes None sized sectors = absurd sectors

-- a disk that answered can answer again
pub answers_again : {D C F : Type 0} (state : D → DieState) (meaning : C → Meaning) (device : F → DeviceValue) (old new : DeviceDisk D C F) (r : Request) (before after : List ℕ) (reply : Errno)
    → IsDeviceDisk state meaning device old
    → IsHeld device new.mounted new.closed → DeviceAnswers state meaning device old new r before after reply → IsDeviceDisk state meaning device new
answers_again state meaning device old new r before after reply is held answers =
    let holds : Option Holding = holding state meaning device old in
    let sized : old.size ≡ old.plan.sectors * sector_bytes_on holds = size_told old.plan old.size holds is.told in
    let good : Good state meaning device old.plan (sector_bytes_on holds) ⊥ old
    = record { plan_is = refl; planned = is.planned; sectors = sectors_told old.plan old.size holds is.told; is_sound = λ no. absurd no } in
    let s : Stepped device old.plan old.size (sector_bytes_on holds) ⊥ holds (holding state meaning device new) new.mounted r before after reply
    = stepped state meaning device old.plan old.size (sector_bytes_on holds) ⊥ sized old new r before after reply good answers in
    record {
      held = held;
      planned = subst (λ (p : Plan). IsPlanned device p new.mounted) (sym answers.plan) s.planned;
      told = told_after new.plan new.size (sector_bytes_on holds) (holding state meaning device new) (answers.size ∙ sized ∙ ap (λ (p : Plan). p.sectors * sector_bytes_on holds) (sym answers.plan))
          s.sectors;
    }

-- a request was asked of the device that is ready
pub asks_answered : {D C F : Type 0} (state : D → DieState) (meaning : C → Meaning) (device : F → DeviceValue) (old ready : DeviceDisk D C F) (ftl left : F) (r : Request) (before after : List ℕ)
    (reply : Errno)
    → ready.plan ≡ old.plan → ready.size ≡ old.size → ready.mounted ≡ Some ftl → IsReady device ready.mounted ready.closed
    → IfSome ready.mounted (λ f. ComesFrom state meaning device old.plan old.mounted old.closed (device f)) → Answers (device ftl).numbers r before after (device ftl) (device left) reply
    → DeviceAnswers state meaning device old (record ready { mounted = Some left }) r before after reply
asks_answered state meaning device old ready ftl left r before after reply plan size is is_ready comes answers =
    let parts : (IsDisk (device ftl).numbers) × ((device ftl).stopped ≡ false) = ready_parts device ready.mounted ready.closed ftl is is_ready in
    record {
      plan = plan;
      size = size;
      answered = record {
        device = device ftl;
        comes = some_of (λ f. ComesFrom state meaning device old.plan old.mounted old.closed (device f)) ready.mounted ftl is comes;
        sizes = parts.0;
        running = parts.1;
        answered = answers;
      };
    }

-- no device is ready, and none is asked
none_held : {D C F : Type 0} (state : D → DieState) (meaning : C → Meaning) (device : F → DeviceValue) (plan : Plan) (mounted : Option F) (closed : Option (D × C)) (now : Option F)
    (left : Option (D × C)) (r : Request) (bytes : List ℕ) → now ≡ None
    → IfNone now (SameHeld (held_by state meaning device mounted closed) (held_by state meaning device now left))
    → AnswersHeld state meaning device plan mounted closed now left r bytes bytes InputOutput
none_held state meaning device plan mounted closed None left r bytes is same = record { reply_is = refl; data_are = refl; same = same }
none_held state meaning device plan mounted closed (Some ftl) left r bytes is same = absurd (let no : ⊥ = cc in no)

pub none_answered : {D C F : Type 0} (state : D → DieState) (meaning : C → Meaning) (device : F → DeviceValue) (old ready : DeviceDisk D C F) (r : Request) (bytes : List ℕ) → ready.plan ≡ old.plan
    → ready.size ≡ old.size → ready.mounted ≡ None
    → IfNone ready.mounted (SameHeld (holding state meaning device old) (holding state meaning device ready)) → DeviceAnswers state meaning device old ready r bytes bytes InputOutput
none_answered state meaning device old ready r bytes plan size is same =
    record { plan = plan; size = size; answered = none_held state meaning device old.plan old.mounted old.closed ready.mounted ready.closed r bytes is same }

-- a device that runs is there, and one that is ready is held
pub runs_none : {F : Type 0} (device : F → DeviceValue) (P : Type 0) (mounted : Option F) → Runs device mounted → IfNone mounted P
runs_none device P None runs = absurd runs
runs_none device P (Some ftl) runs = tt

pub ready_held : {F P : Type 0} (device : F → DeviceValue) (mounted : Option F) (closed : Option P) → IsReady device mounted closed → IsHeld device mounted closed
ready_held device None closed ready = ready
ready_held device (Some ftl) closed ready = ready.0
