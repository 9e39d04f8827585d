-- A disk over a device answers as a server over a plain list of bytes does.
use Rattle.std.proofs.Common.{◌≡◌, ℕ, ◌*◌, Bool, true, false, List, sym, ◌∙◌, ap, refl, inl, inr, arith, subst, Option, Some, None}
use Rattle.cell_die.specs.declared.shape.Shape.{Shape}
use Rattle.cell_die.specs.DieState.{DieState}
use Rattle.nbd_wire.specs.declared.request.Request.{Request}
use Rattle.nbd_wire.specs.declared.reply.Errno.{Errno}
use Rattle.nbd_wire.specs.declared.reply.Errno.TheVariants.{Done, InputOutput, Invalid, NoSpace}
use Rattle.page_codec.specs.Sound.{IsSound}
use Rattle.striped.specs.Meaning.{Meaning}
use Rattle.rssd_core.specs.declared.device.Plan.{Plan}
use Rattle.rssd_core.specs.DeviceValue.{Numbers, DeviceValue}
use Rattle.rssd_core.specs.Mount.{Mounts, numbers_of}
use Rattle.rssd_disk.specs.Disk.{disk, disk_size}
use Rattle.rssd_disk.specs.Puts.{Keeps}
use Rattle.rssd_disk.specs.Rules.{refusal}
use Rattle.rssd_disk.specs.Answers.{AnswersBy, Answers}
use Rattle.rssd_disk.specs.Held.{Holding, holding_of, held_by, numbers_held, SameHolding, IsPlanned, GoesOn, ComesFrom, AsksNone, AnswersHeld}
use Rattle.rssd_disk.specs.PlainServer.{ServesPlainly, PlainlyBy, AnswersPlainly}
use Rattle.rssd_disk.specs.DeviceBytes.{bytes_of_cells, bytes_on, HasSound}
use Rattle.rssd_disk.proofs.Joined.{put_nothing}
use Rattle.rssd_disk.proofs.Rows.{keeps_same}

-- ---- where the device comes from

-- a device has the cells that the disk holds
pub record IsOf (plan : Plan) (h : Holding) (device : DeviceValue) : Type 0 where
  pub numbers : device.numbers ≡ numbers_held plan h
  pub shape : device.view.die.shape ≡ h.die.shape
  pub cells : device.view.die.cells ≡ h.die.cells

pub mounts_is : (plan : Plan) (h : Holding) (device : DeviceValue) → Mounts (numbers_held plan h) h.die device → IsOf plan h device
mounts_is plan h device m = record { numbers = m.numbers; shape = m.kept.shape; cells = m.cells.cells }

same_is : (plan : Plan) (old now : DeviceValue) → old.numbers ≡ numbers_held plan (holding_of old) → now ≡ old → IsOf plan (holding_of old) now
same_is plan old now planned same = subst (λ (device : DeviceValue). IsOf plan (holding_of old) device) (sym same) (record { numbers = planned; shape = refl; cells = refl })

goes_by : (plan : Plan) (old now : DeviceValue) (stopped : Bool) → old.numbers ≡ numbers_held plan (holding_of old) → GoesOn plan old now → old.stopped ≡ stopped → IsOf plan (holding_of old) now
goes_by plan old now true planned goes e = mounts_is plan (holding_of old) now (goes.mounted e)
goes_by plan old now false planned goes e = same_is plan old now planned (goes.same e)

-- it is that of the holding, which there is
pub record ComesOf (plan : Plan) (held : Option Holding) (device : DeviceValue) : Type 0 where
  pub h : Holding
  pub held_is : held ≡ Some h
  pub is_of : IsOf plan h device

pub comes_of : {D C F : Type 0} (state : D → DieState) (meaning : C → Meaning) (device : F → DeviceValue) (plan : Plan) (mounted : Option F) (closed : Option (D × C)) (now : DeviceValue)
    → IsPlanned device plan mounted
    → ComesFrom state meaning device plan mounted closed now → ComesOf plan (held_by state meaning device mounted closed) now
comes_of state meaning device plan (Some ftl) closed now planned comes = record {
  h = holding_of (device ftl);
  held_is = refl;
  is_of = goes_by plan (device ftl) now (device ftl).stopped planned comes refl;
}
comes_of state meaning device plan None (Some held) now planned comes = record {
  h = record { die = state held.0; meaning = meaning held.1 };
  held_is = refl;
  is_of = mounts_is plan (record { die = state held.0; meaning = meaning held.1 }) now comes;
}
comes_of state meaning device plan None None now planned comes = absurd comes

-- ---- one request on a device

keeps_by : (why : Option Errno) (d : Numbers) (r : Request) (before after : List ℕ) (old new : DeviceValue) (reply : Errno) → AnswersBy why d r before after old new reply → Keeps d old new
keeps_by (Some why) d r before after old new reply h = keeps_same d old new h.device_is
keeps_by None d r before after old new Done h = h.keeps
keeps_by None d r before after old new InputOutput h = h.keeps
keeps_by None d r before after old new Invalid h = absurd h
keeps_by None d r before after old new NoSpace h = absurd h

plainly_by : (why : Option Errno) (d : Numbers) (r : Request) (before after : List ℕ) (old new : DeviceValue) (reply : Errno) → AnswersBy why d r before after old new reply
    → PlainlyBy why (IsSound d.geometry old.view.die.cells) d.geometry.sector_bytes r before after (disk d old.view) (disk d new.view) reply
plainly_by (Some why) d r before after old new reply h = record {
  reply_is = inl h.reply_is;
  bytes_are = ap (λ (device : DeviceValue). disk d device.view) h.device_is;
  data_are = h.data_is;
}
plainly_by None d r before after old new Done h = record { bytes_are = h.disk_is; data_are = h.data_is }
plainly_by None d r before after old new InputOutput h = λ sound. record {
  n = (h.front sound).n;
  within = (h.front sound).within;
  at_sector = (h.front sound).at_sector;
  bytes_are = (h.front sound).put;
}
plainly_by None d r before after old new Invalid h = absurd h
plainly_by None d r before after old new NoSpace h = absurd h

-- where no device could be asked
none_by : (why : Option Errno) (sound : Type 0) (sector_bytes : ℕ) (r : Request) (before after old new : List ℕ) (reply : Errno) → reply ≡ InputOutput → after ≡ before → new ≡ old
    → PlainlyBy why sound sector_bytes r before after old new reply
none_by (Some why) sound sector_bytes r before after old new reply failed told same = record { reply_is = inr failed; bytes_are = same; data_are = told }
none_by None sound sector_bytes r before after old new reply failed told same =
    let front : ServesPlainly sound sector_bytes r before after old new InputOutput = λ holds. record {
      n = 0;
      within = omega arith;
      at_sector = λ some below. absurd (omega arith);
      bytes_are = same ∙ sym (put_nothing r.offset old);
    } in
    subst (λ (e : Errno). ServesPlainly sound sector_bytes r before after old new e) (sym failed) front

weaker_by : (why : Option Errno) (sound more : Type 0) (sector_bytes : ℕ) (r : Request) (before after old new : List ℕ) (reply : Errno) → (more → sound)
    → PlainlyBy why sound sector_bytes r before after old new reply
    → PlainlyBy why more sector_bytes r before after old new reply
weaker_by (Some why) sound more sector_bytes r before after old new reply f h = h
weaker_by None sound more sector_bytes r before after old new Done f h = h
weaker_by None sound more sector_bytes r before after old new InputOutput f h = λ holds. h (f holds)
weaker_by None sound more sector_bytes r before after old new Invalid f h = absurd h
weaker_by None sound more sector_bytes r before after old new NoSpace f h = absurd h

-- ---- one request on a disk

-- a sector has so many bytes
abbrev pub HasSectors : ℕ → Option Holding → Type 0
HasSectors sector_bytes (Some h) = h.meaning.sector_bytes ≡ sector_bytes
HasSectors sector_bytes None = ⊥

-- what a request leaves of a disk: its bytes as a plain server's, and what later requests need
pub record Stepped {F : Type 0} (device : F → DeviceValue) (plan : Plan) (size sector_bytes : ℕ) (sound : Type 0) (old new : Option Holding) (mounted : Option F) (r : Request)
    (before after : List ℕ) (reply : Errno) : Type 0 where
  pub plainly : AnswersPlainly sound size sector_bytes (bytes_on plan old) (bytes_on plan new) r before after reply
  pub planned : IsPlanned device plan mounted
  pub sectors : HasSectors sector_bytes new
  pub still_sound : sound → HasSound plan new

-- the same cells stand for the same bytes
same_bytes : (plan : Plan) (old new : Holding) → SameHolding old new → bytes_of_cells (numbers_held plan new) new.die.cells ≡ bytes_of_cells (numbers_held plan old) old.die.cells
same_bytes plan old new same =
    ap (λ s. bytes_of_cells (numbers_of s new.meaning plan) new.die.cells) same.shape
    ∙ ap (λ m. bytes_of_cells (numbers_of old.die.shape m plan) new.die.cells) same.meaning
    ∙ ap (λ c. bytes_of_cells (numbers_held plan old) c) same.cells

same_sound : (plan : Plan) (old new : Holding) → SameHolding old new → IsSound (numbers_held plan old).geometry old.die.cells → IsSound (numbers_held plan new).geometry new.die.cells
same_sound plan old new same sound =
    subst (λ (s : Shape). IsSound (numbers_of s new.meaning plan).geometry new.die.cells) (sym same.shape)
    (subst (λ (m : Meaning). IsSound (numbers_of old.die.shape m plan).geometry new.die.cells) (sym same.meaning)
    (subst (λ (c : List (List ℕ)). IsSound (numbers_held plan old).geometry c) (sym same.cells) sound))

none_stepped : {F : Type 0} (device : F → DeviceValue) (plan : Plan) (size sector_bytes : ℕ) (sound : Type 0) (old new : Option Holding) (r : Request) (before after : List ℕ) (reply : Errno)
    → HasSectors sector_bytes old
    → (sound → HasSound plan old) → AsksNone old new before after reply → Stepped device plan size sector_bytes sound old new None r before after reply
none_stepped device plan size sector_bytes sound (Some old) (Some new) r before after reply sectors holds asks = record {
  plainly = none_by (refusal size r) sound sector_bytes r before after (bytes_on plan (Some old)) (bytes_on plan (Some new)) reply asks.reply_is asks.data_are (same_bytes plan old new asks.same);
  planned = tt;
  sectors = ap (λ (m : Meaning). m.sector_bytes) asks.same.meaning ∙ sectors;
  still_sound = λ s. same_sound plan old new asks.same (holds s);
}
none_stepped device plan size sector_bytes sound (Some old) None r before after reply sectors holds asks = absurd asks.same
none_stepped device plan size sector_bytes sound None (Some new) r before after reply sectors holds asks = absurd asks.same
none_stepped device plan size sector_bytes sound None None r before after reply sectors holds asks = absurd asks.same

-- a device that is asked keeps its numbers, which are those of what it holds afterwards
pub record Later (plan : Plan) (h : Holding) (device new : DeviceValue) : Type 0 where
  pub numbers : new.numbers ≡ numbers_held plan h
  pub same : numbers_held plan (holding_of new) ≡ numbers_held plan h

later : (plan : Plan) (h : Holding) (device new : DeviceValue) → IsOf plan h device → Keeps device.numbers device new → Later plan h device new
later plan h device new is keeps =
    let numbers : new.numbers ≡ numbers_held plan h = keeps.numbers ∙ is.numbers in
    let meaning : new.numbers.meaning ≡ h.meaning = ap (λ (d : Numbers). d.meaning) numbers in
    let shape : new.view.die.shape ≡ h.die.shape = keeps.kept.shape ∙ is.shape in
    record {
      numbers = numbers;
      same = ap (λ s. numbers_of s new.numbers.meaning plan) shape ∙ ap (λ m. numbers_of h.die.shape m plan) meaning;
    }

asked_stepped : {F : Type 0} (device : F → DeviceValue) (plan : Plan) (size sector_bytes : ℕ) (sound : Type 0) (h : Holding) (ftl : F) (r : Request) (before after : List ℕ) (reply : Errno)
    (asked : DeviceValue)
    → size ≡ plan.sectors * sector_bytes → h.meaning.sector_bytes ≡ sector_bytes → (sound → IsSound (numbers_held plan h).geometry h.die.cells) → IsOf plan h asked
    → Answers asked.numbers r before after asked (device ftl) reply → Stepped device plan size sector_bytes sound (Some h) (Some (holding_of (device ftl))) (Some ftl) r before after reply
asked_stepped device plan size sector_bytes sound h ftl r before after reply asked sized sectors holds is answers =
    let new : DeviceValue = device ftl in
    let keeps : Keeps asked.numbers asked new = keeps_by (refusal (disk_size asked.numbers) r) asked.numbers r before after asked new reply answers in
    let l : Later plan h asked new = later plan h asked new is keeps in
    let whole : disk_size asked.numbers ≡ size = ap disk_size is.numbers ∙ ap (λ n. plan.sectors * n) sectors ∙ sym sized in
    let width : asked.numbers.geometry.sector_bytes ≡ sector_bytes = ap (λ (d : Numbers). d.geometry.sector_bytes) is.numbers ∙ sectors in
    let bytes : disk asked.numbers asked.view ≡ bytes_of_cells (numbers_held plan h) h.die.cells
    = ap (λ d. bytes_of_cells d asked.view.die.cells) is.numbers ∙ ap (λ c. bytes_of_cells (numbers_held plan h) c) is.cells in
    let bytes' : disk asked.numbers new.view ≡ bytes_of_cells (numbers_held plan (holding_of new)) new.view.die.cells
    = ap (λ d. bytes_of_cells d new.view.die.cells) (is.numbers ∙ sym l.same) in
    let sound_asked : IsSound (numbers_held plan h).geometry h.die.cells → IsSound asked.numbers.geometry asked.view.die.cells
    = λ s. subst (λ (d : Numbers). IsSound d.geometry asked.view.die.cells) (sym is.numbers) (subst (λ (c : List (List ℕ)). IsSound (numbers_held plan h).geometry c) (sym is.cells) s) in
    let sound_new : IsSound asked.numbers.geometry new.view.die.cells → IsSound (numbers_held plan (holding_of new)).geometry new.view.die.cells
    = λ s. subst (λ (d : Numbers). IsSound d.geometry new.view.die.cells) (is.numbers ∙ sym l.same) s in
    let first : PlainlyBy (refusal (disk_size asked.numbers) r) (IsSound asked.numbers.geometry asked.view.die.cells) asked.numbers.geometry.sector_bytes r before after
    (disk asked.numbers asked.view) (disk asked.numbers new.view) reply
    = plainly_by (refusal (disk_size asked.numbers) r) asked.numbers r before after asked new reply answers in
    let second : PlainlyBy (refusal (disk_size asked.numbers) r) sound asked.numbers.geometry.sector_bytes r before after (disk asked.numbers asked.view) (disk asked.numbers new.view) reply
    = weaker_by (refusal (disk_size asked.numbers) r) (IsSound asked.numbers.geometry asked.view.die.cells) sound asked.numbers.geometry.sector_bytes r before after (disk asked.numbers asked.view)
    (disk asked.numbers new.view) reply
    (λ s. sound_asked (holds s)) first in
    record {
      plainly = subst (λ (n : ℕ). PlainlyBy (refusal n r) sound sector_bytes r before after (bytes_of_cells (numbers_held plan h) h.die.cells)
          (bytes_of_cells (numbers_held plan (holding_of new)) new.view.die.cells) reply) whole
          (subst (λ (n : ℕ). PlainlyBy (refusal (disk_size asked.numbers) r) sound n r before after (bytes_of_cells (numbers_held plan h) h.die.cells)
          (bytes_of_cells (numbers_held plan (holding_of new)) new.view.die.cells) reply) width
          (subst (λ (b : List ℕ). PlainlyBy (refusal (disk_size asked.numbers) r) sound asked.numbers.geometry.sector_bytes r before after (bytes_of_cells (numbers_held plan h) h.die.cells) b
          reply) bytes'
          (subst (λ (b : List ℕ). PlainlyBy (refusal (disk_size asked.numbers) r) sound asked.numbers.geometry.sector_bytes r before after b (disk asked.numbers new.view) reply) bytes second)));
      planned = l.numbers ∙ sym l.same;
      sectors = ap (λ (d : Numbers). d.meaning.sector_bytes) l.numbers ∙ sectors;
      still_sound = λ s. sound_new (keeps.sound (sound_asked (holds s)));
    }

comes_stepped : {F : Type 0} (device : F → DeviceValue) (plan : Plan) (size sector_bytes : ℕ) (sound : Type 0) (held : Option Holding) (h : Holding) (ftl : F) (r : Request) (before after : List ℕ)
    (reply : Errno) (asked : DeviceValue)
    → held ≡ Some h → size ≡ plan.sectors * sector_bytes → HasSectors sector_bytes held → (sound → HasSound plan held) → IsOf plan h asked
    → Answers asked.numbers r before after asked (device ftl) reply
    → Stepped device plan size sector_bytes sound held (Some (holding_of (device ftl))) (Some ftl) r before after reply
comes_stepped device plan size sector_bytes sound (Some old) h ftl r before after reply asked e sized sectors holds is answers =
    let same : h ≡ old = cc in
    let is' : IsOf plan old asked = subst (λ (x : Holding). IsOf plan x asked) same is in
    asked_stepped device plan size sector_bytes sound old ftl r before after reply asked sized sectors holds is' answers
comes_stepped device plan size sector_bytes sound None h ftl r before after reply asked e sized sectors holds is answers = absurd sectors

-- a request on a disk over a device
pub answers_stepped : {D C F : Type 0} (state : D → DieState) (meaning : C → Meaning) (device : F → DeviceValue) (plan : Plan) (size sector_bytes : ℕ) (sound : Type 0) (mounted next : Option F)
    (closed left : Option (D × C))
    (r : Request) (before after : List ℕ) (reply : Errno) → size ≡ plan.sectors * sector_bytes → IsPlanned device plan mounted → HasSectors sector_bytes (held_by state meaning device mounted closed)
    → (sound → HasSound plan (held_by state meaning device mounted closed)) → AnswersHeld state meaning device plan mounted closed next left r before after reply
    → Stepped device plan size sector_bytes sound (held_by state meaning device mounted closed) (held_by state meaning device next left) next r before after reply
answers_stepped state meaning device plan size sector_bytes sound mounted None closed left r before after reply sized planned sectors holds answers =
    none_stepped device plan size sector_bytes sound (held_by state meaning device mounted closed) (held_by state meaning device None left) r before after reply sectors holds answers
answers_stepped state meaning device plan size sector_bytes sound mounted (Some ftl) closed left r before after reply sized planned sectors holds answers =
    let comes : ComesOf plan (held_by state meaning device mounted closed) answers.device = comes_of state meaning device plan mounted closed answers.device planned answers.comes in
    comes_stepped device plan size sector_bytes sound (held_by state meaning device mounted closed) comes.h ftl r before after reply answers.device comes.held_is sized sectors holds comes.is_of
    answers.answered
