-- An audit of an image is one of the cells of its head's die, by the numbers of its head's device: what it finds, a run starts with.
use Rattle.std.proofs.Common.{◌≡◌, ◌⊎◌, inl, inr, ℕ, ◌+◌, ◌*◌, ◌-◌, ◌<◌, ◌≤◌, true, false, List, [], ◌∷◌, take, replicate, Ok, refl, sym, ap, ◌∙◌, arith, subst}
use Rattle.std.specs.Fork.{slice_chunk}
use Rattle.std.proofs.lemmas.List.{take-replicate, drop-replicate, length-replicate}
use Rattle.std.proofs.lemmas.List.FromFn.{length-map-range_with_len}
use Rattle.std.proofs.Math.Nat.{mul-le-mul_right}
use Rattle.cell_die.specs.DieState.{DieState, page_count, page_bytes}
use Rattle.cell_die.specs.declared.shape.Shape.{Shape}
use Rattle.mem_die.specs.MemState.{IsMade}
use Rattle.mem_die.specs.Pages.{pages_of}
use Rattle.mem_die.specs.PageLaws.{page_at-pages}
use Rattle.striped.specs.Meaning.{Meaning}
use Rattle.die_image.specs.declared.head.ImageHead.{ImageHead}
use Rattle.die_image.specs.Image.{is_within_limits, shape_of, die_bytes, image_read}
use Rattle.page_codec.specs.Geometry.{Geometry}
use Rattle.page_codec.specs.Sectors.{stored}
use Rattle.page_codec.specs.Sound.{IsSound}
use Rattle.image_audit.specs.declared.verdict.Verdict.{Verdict}
use Rattle.image_audit.specs.declared.verdict.Verdict.TheVariants.{Sound}
use Rattle.image_audit.specs.Held.{array_told}
use Rattle.image_audit.specs.Images.{geometry_of, pages_in, IsServed}
use Rattle.rssd_io.specs.Event.{Event as Act}
use Rattle.rssd_core.specs.DeviceValue.{Numbers}
use Rattle.rssd_script.specs.declared.lines.Line.{Line}
use Rattle.rssd_run.specs.declared.status.Status.{Status}
use Rattle.rssd_run.specs.declared.status.Status.TheVariants.{Done, BadWords, BadScript, BadImage, ReadFault, WriteFault, OutOfMemory, Unsound}
use Rattle.rssd_run.specs.AuditRuns.{IsAuditOf, IsRead, IsFoundSound, HasUnsoundImage}
use Rattle.rssd_run.specs.DieRuns.{sectors_on}
use Rattle.rssd_run.specs.Heads.{numbers_named}
use Rattle.rssd_run.specs.ImageRuns.{HasCells, RunsImage}
use Rattle.rssd_run.specs.Run.{IsRun}
use Rattle.schemes.specs.Schemes.{meaning_named, HasRow}
use Rattle.rssd_run.specs.Statuses.{Input, Output, taken}
use Rattle.rssd_run.specs.Top.{SaysAudit}
use Rattle.rssd_run.specs.View.{View, Event}
use Rattle.rssd_run.proofs.BlankCells.{IsBlank, blank_sound}
use Rattle.rssd_run.proofs.HeadLimits.{head_limits}
use Rattle.schemes.proofs.Rows.{named_row}

-- ---- the numbers of a head

pub geometry_named : (head : ImageHead) → geometry_of head ≡ (numbers_named head).geometry
geometry_named head =
    let row : HasRow head.scheme (meaning_named head.scheme) = named_row head.scheme in
    λ i. record (geometry_of head) { generations = sym row.generations i; span = sym row.span i; sector_bytes = sym row.sector_bytes i }

-- the cells are sound by the head's own numbers exactly where they are by those of its device
pub sound_named : (head : ImageHead) (cells : List (List ℕ)) → IsSound (geometry_of head) cells → IsSound (numbers_named head).geometry cells
sound_named head cells sound = subst (λ (g : Geometry). IsSound g cells) (geometry_named head) sound

pub sound_of_head : (head : ImageHead) (cells : List (List ℕ)) → IsSound (numbers_named head).geometry cells → IsSound (geometry_of head) cells
sound_of_head head cells sound = subst (λ (g : Geometry). IsSound g cells) (sym (geometry_named head)) sound

-- a scheme of the head's meaning has the sizes of its device
pub served_named : (head : ImageHead) (meaning : Meaning) → meaning ≡ meaning_named head.scheme → IsServed (geometry_of head) meaning
served_named head meaning same =
    let row : HasRow head.scheme (meaning_named head.scheme) = named_row head.scheme in
    record {
      sector_bytes = ap (λ (m : Meaning). m.sector_bytes) same ∙ row.sector_bytes;
      page_bytes = ap (λ (m : Meaning). m.page_bytes) same ∙ row.page_bytes;
      span = ap (λ (m : Meaning). m.span) same ∙ row.span;
      generations = ap (λ (m : Meaning). m.generations) same ∙ row.generations;
    }

-- ---- an audit that finds cells sound

pub found_sound : (head : ImageHead) (cells : List ℕ) → IsSound (geometry_of head) (pages_in (geometry_of head) cells) → IsFoundSound head cells
found_sound head cells sound = λ found told audit. audit.sound.1 sound

-- two audits of what was taken agree
pub found_again : {found : Verdict} {told others : List (ℕ × List ℕ)} (image : Input) → IsRead image found told
    → (head : ImageHead) (cells : List ℕ) → image_read false (taken image) ≡ Ok (head, cells) → IsAuditOf head cells Sound others → found ≡ Sound
found_again {found} {told} {others} image read head cells is audit =
    let here = read.is_image.reads in
    let same : ◌≡◌ {A = ImageHead × List ℕ} (read.head, read.cells) (head, cells) = cc in
    (subst (λ (p : ImageHead × List ℕ). IsFoundSound p.0 p.1) (sym same) (found_sound head cells (audit.sound.0 refl))) found told read.audit

-- the cells of a die that is made of them are sound, and stand for the sectors that are told
module _ (head : ImageHead) (cells : List ℕ) (told : List (ℕ × List ℕ)) (audit : IsAuditOf head cells Sound told) (die : DieState) (made : IsMade (shape_of head) cells die) where
  pub die_sound : IsSound (numbers_named head).geometry die.cells
  die_sound = sound_named head die.cells (subst (IsSound (geometry_of head)) (sym made.same_cells) (audit.sound.0 refl))

  pub die_told : array_told (geometry_of head) told ≡ sectors_on head die
  die_told =
      audit.array refl
      ∙ (ap (λ (pages : List (List ℕ)). stored (geometry_of head) (meaning_named head.scheme).decoding pages) (sym made.same_cells)
      ∙ ap (λ (g : Geometry). stored g (meaning_named head.scheme).decoding die.cells) (geometry_named head))

-- what a run on an image of sound cells leaves is sound
pub left_sound : (head : ImageHead) (cells left : List ℕ) (told : List (ℕ × List ℕ)) (last : DieState) (lines : List Line) (log after : List Act)
    → IsAuditOf head cells Sound told → RunsImage head cells lines log after last → HasCells left last → IsFoundSound head left
left_sound head cells left told last lines log after audit given has =
    let pages : last.cells ≡ pages_of (page_bytes (shape_of head)) (page_count (shape_of head)) left =
    has.cells ∙ ap (λ (s : Shape). pages_of (page_bytes s) (page_count s) left) given.runs.shape in
    let sound = given.runs.keeps.sound (die_sound head cells told audit given.die given.made) in
    found_sound head left (sound_of_head head (pages_in (geometry_of head) left) (subst (IsSound (numbers_named head).geometry) pages sound))

-- ---- cells with no charge

zero_chunk : (size count page : ℕ) → page < count → slice_chunk {X = ℕ} (replicate (count * size) 0) size page ≡ replicate size 0
zero_chunk size count page inside =
    let room : (page + 1) * size ≤ count * size = mul-le-mul_right size (let h : page + 1 ≤ count = omega arith in h) in
    ap (take size) (drop-replicate (page * size) (count * size) 0) ∙ take-replicate size (count * size - page * size) 0 (omega arith)

pub blank_found_sound : (head : ImageHead) → is_within_limits head ≡ true → IsFoundSound head (replicate (die_bytes head) 0)
unfolding die_bytes
blank_found_sound head within =
    let size = page_bytes (shape_of head) in
    let count = page_count (shape_of head) in
    let blank : IsBlank (geometry_of head) (pages_in (geometry_of head) (replicate (die_bytes head) 0)) = record {
      pages = length-map-range_with_len (slice_chunk (replicate (die_bytes head) 0) size) 0 count;
      blank = λ page inside. page_at-pages (replicate (die_bytes head) 0) size count page (length-replicate (count * size) 0) ∙ zero_chunk size count page inside;
    } in
    found_sound head (replicate (die_bytes head) 0) (blank_sound (geometry_of head) _ (omega (arith, (head_limits head within).some_blocks)) blank)

-- ---- a run of lines

pub run_sound : (d : Numbers) (before : View) (events : List Event) (after : View) → IsRun d before events after
    → IsSound d.geometry before.device.die.cells → IsSound d.geometry after.device.die.cells
unfolding IsRun
run_sound d before [] after run sound = subst (λ (v : View). IsSound d.geometry v.device.die.cells) (sym run) sound
run_sound d before (e ∷ events) after run sound = run_sound d e.after events after run.2 (run.1.keeps.sound (subst (λ (v : View). IsSound d.geometry v.device.die.cells) (sym run.0) sound))

-- ---- status 8

pub unsound_only : (image : Input) (out : Output) → SaysAudit image out Unsound → HasUnsoundImage image
unsound_only image out says = record {
  head = says.read.head;
  cells = says.read.cells;
  is_image = says.read.is_image;
  not_sound = λ sound. says.not_sound (says.read.audit.sound.1 sound);
}

sound_read : (image : Input) (told : List (ℕ × List ℕ)) → IsRead image Sound told → HasUnsoundImage image → ⊥
sound_read image told read unsound =
    let here = read.is_image.reads in
    let there = unsound.is_image.reads in
    let same : ◌≡◌ {A = ImageHead × List ℕ} (read.head, read.cells) (unsound.head, unsound.cells) = cc in
    unsound.not_sound (subst (λ (p : ImageHead × List ℕ). IsSound (geometry_of p.0) (pages_in (geometry_of p.0) p.1)) same (read.audit.sound.0 refl))

pub unsound_always : (image : Input) (out : Output) (status : Status) → SaysAudit image out status → HasUnsoundImage image → (status ≡ Unsound) ⊎ (status ≡ OutOfMemory)
unsound_always image out Unsound says unsound = inl refl
unsound_always image out OutOfMemory says unsound = inr refl
unsound_always image out Done says unsound = absurd (sound_read image says.told says.read unsound)
unsound_always image out WriteFault says unsound = absurd (sound_read image says.told says.read unsound)
unsound_always image out BadImage says unsound = absurd (let is = unsound.is_image.reads in let not = says.refused.refused in cc)
unsound_always image out ReadFault says unsound = absurd (let none = unsound.is_image.served in let some = says.0 in omega (arith, none, some))
unsound_always image out BadWords says unsound = absurd says
unsound_always image out BadScript says unsound = absurd says
