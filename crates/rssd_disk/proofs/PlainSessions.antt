-- A session over a disk is the same session over what stands for it, where each answer is.
use Rattle.std.proofs.Common.{◌≡◌, ℕ, ◌*◌, Bool, List, length, sym, ◌∙◌, ap, refl, subst, Option, Some, None}
use Rattle.cell_die.specs.DieState.{DieState}
use Rattle.nbd_wire.specs.declared.reply.Errno.{Errno}
use Rattle.nbd_wire.specs.declared.request.Request.{Request}
use Rattle.rssd_io.specs.Event.{Event}
use Rattle.striped.specs.Meaning.{Meaning}
use Rattle.rssd_core.specs.declared.device.Plan.{Plan}
use Rattle.rssd_core.specs.DeviceValue.{DeviceValue}
use Rattle.rssd_disk.specs.declared.device_disk.DeviceDisk.{DeviceDisk}
use Rattle.rssd_disk.specs.declared.serving.Ended.{Ended}
use Rattle.rssd_disk.specs.declared.serving.Ended.TheVariants.{Left, Cut, NotProtocol, ReadFault, WriteFault, NoPower}
use Rattle.rssd_disk.specs.Sessions.{Answering, Asks, AnswersOne, AnswersAll, none, more, EndsBehind, EndsAfter}
use Rattle.rssd_disk.specs.Handshakes.{Session, unmet, met}
use Rattle.rssd_disk.specs.Held.{Holding, numbers_held, IsPlanned, IsTold, AnswersHeld}
use Rattle.rssd_disk.specs.DeviceBytes.{bytes_on, HasSound, sector_bytes_on}
use Rattle.rssd_disk.specs.DeviceDisks.{holding, IsDeviceDisk, DeviceAnswers, disk_bytes, HasSoundCells, sector_bytes_of, power_of}
use Rattle.rssd_disk.specs.PlainServer.{AnswersPlainly}
use Rattle.page_codec.specs.Sectors.{stored}
use Rattle.rssd_disk.proofs.Joined.{length-joined}
use Rattle.rssd_disk.proofs.Plainly.{HasSectors, Stepped, answers_stepped}

-- ---- any disk and what stands for it

-- each answer of the one is one of the other, while something holds
pub record Follows {K L : Type 0} (answers : Answering K) (plain : Answering L) (f : K → L) (Good : K → Type 0) : Type 0 where
  pub step : (old new : K) (r : Request) (before after : List ℕ) (reply : Errno) → Good old → answers old new r before after reply → plain (f old) (f new) r before after reply
  pub good : (old new : K) (r : Request) (before after : List ℕ) (reply : Errno) → Good old → answers old new r before after reply → Good new

abbrev pub asks_map : {K L : Type 0} {answers : Answering K} {plain : Answering L} {f : K → L} {Good : K → Type 0} {old new : K} {from left : List Event} → Follows answers plain f Good → Good old
    → Asks answers old new from left → Asks plain (f old) (f new) from left
asks_map {K} {L} {answers} {plain} {f} {Good} {old} {new} {from} {left} follows good a = record {
  request = a.request;
  spelled = a.spelled;
  before = a.before;
  after = a.after;
  long = a.long;
  behind = a.behind;
  is_behind = a.is_behind;
  taken = a.taken;
  reply = a.reply;
  asked = follows.step old new a.request a.before a.after a.reply good a.asked;
}

one_map : {K L : Type 0} {answers : Answering K} {power : K → Option Bool} {plain : Answering L} {f : K → L} {Good : K → Type 0} {old new : K} {from left to given : List Event}
    → Follows answers plain f Good → Good old
    → AnswersOne answers power old new from left to given → AnswersOne plain (λ _. None) (f old) (f new) from left to given
one_map follows good a = record { asks = asks_map follows good a.asks; powered = tt; replied = a.replied }

-- what holds after requests that were answered
all_good : {K L : Type 0} {answers : Answering K} {power : K → Option Bool} {plain : Answering L} {f : K → L} {Good : K → Type 0} {old : K} {from to : List Event} {count : ℕ} {new : K}
    {left given : List Event} → Follows answers plain f Good → Good old
    → AnswersAll answers power old from to count new left given → Good new
all_good follows good none = good
all_good follows good (more {mid = mid} {next = next} all one) =
    follows.good mid next one.asks.request one.asks.before one.asks.after one.asks.reply (all_good follows good all) one.asks.asked

all_map : {K L : Type 0} {answers : Answering K} {power : K → Option Bool} {plain : Answering L} {f : K → L} {Good : K → Type 0} {old : K} {from to : List Event} {count : ℕ} {new : K}
    {left given : List Event} → Follows answers plain f Good → Good old
    → AnswersAll answers power old from to count new left given → AnswersAll plain (λ _. None) (f old) from to count (f new) left given
all_map follows good none = none
all_map follows good (more all one) = more (all_map follows good all) (one_map follows (all_good follows good all) one)

ends_map : {K L : Type 0} {answers : Answering K} {plain : Answering L} {f : K → L} {Good : K → Type 0} (power : K → Option Bool) (count : ℕ) (ended : Ended) (old new : K)
    (from left to given : List Event) → Follows answers plain f Good → Good old
    → EndsBehind answers power count ended old new from left to given → EndsBehind plain (λ _. None) count ended (f old) (f new) from left to given
ends_map {f = f} power count WriteFault old new from left to given follows good h = asks_map follows good h
ends_map {f = f} power count NoPower old new from left to given follows good h = (asks_map follows good h.0, h.1, tt)
ends_map {f = f} power count Left old new from left to given follows good h = (h.0, ap f h.1, h.2)
ends_map {f = f} power count Cut old new from left to given follows good h = (h.0, ap f h.1, h.2)
ends_map {f = f} power count NotProtocol old new from left to given follows good h = (h.0, ap f h.1, h.2)
ends_map {f = f} power count ReadFault old new from left to given follows good h = (h.0, ap f h.1, h.2)

after_map : {K L : Type 0} {answers : Answering K} {power : K → Option Bool} {plain : Answering L} {f : K → L} {Good : K → Type 0} {ended : Ended} {old new : K} {from left to given : List Event}
    → Follows answers plain f Good → Good old
    → EndsAfter answers power ended old new from left to given → EndsAfter plain (λ _. None) ended (f old) (f new) from left to given
after_map {power = power} {f = f} {ended = ended} {new = new} {left = left} {given = given} follows good h = record {
  count = h.count;
  mid = f h.mid;
  taken = h.taken;
  told_to = h.told_to;
  answered = all_map follows good h.answered;
  ends = ends_map power h.count ended h.mid new h.taken left h.told_to given follows (all_good follows good h.answered) h.ends;
}

pub session_map : {K L : Type 0} {answers : Answering K} {power : K → Option Bool} {plain : Answering L} {f : K → L} {Good : K → Type 0} {size : ℕ} {ended : Ended} {old new : K}
    {from left to given : List Event} → Follows answers plain f Good
    → Good old → Session answers power size ended old new from left to given → Session plain (λ _. None) size ended (f old) (f new) from left to given
session_map {f = f} follows good (unmet ends same) = unmet ends (ap f same)
session_map follows good (met agrees after) = met agrees (after_map follows good after)

-- ---- a disk over a device

-- what requests need of it, and keep
pub record Good {D C F : Type 0} (state : D → DieState) (meaning : C → Meaning) (device : F → DeviceValue) (plan : Plan) (sector_bytes : ℕ) (sound : Type 0) (disk : DeviceDisk D C F) : Type 0 where
  pub plan_is : disk.plan ≡ plan
  pub planned : IsPlanned device plan disk.mounted
  pub sectors : HasSectors sector_bytes (holding state meaning device disk)
  pub is_sound : sound → HasSound plan (holding state meaning device disk)

pub stepped : {D C F : Type 0} (state : D → DieState) (meaning : C → Meaning) (device : F → DeviceValue) (plan : Plan) (size sector_bytes : ℕ) (sound : Type 0) → size ≡ plan.sectors * sector_bytes
    → (old new : DeviceDisk D C F)
    (r : Request) (before after : List ℕ) (reply : Errno) → Good state meaning device plan sector_bytes sound old → DeviceAnswers state meaning device old new r before after reply
    → Stepped device plan size sector_bytes sound (holding state meaning device old) (holding state meaning device new) new.mounted r before after reply
stepped state meaning device plan size sector_bytes sound sized old new r before after reply good answers =
    answers_stepped state meaning device plan size sector_bytes sound old.mounted new.mounted old.closed new.closed r before after reply sized good.planned good.sectors good.is_sound
    (subst (λ (p : Plan). AnswersHeld state meaning device p old.mounted old.closed new.mounted new.closed r before after reply) good.plan_is answers.answered)

device_follows : {D C F : Type 0} (state : D → DieState) (meaning : C → Meaning) (device : F → DeviceValue) (plan : Plan) (size sector_bytes : ℕ) (sound : Type 0) → size ≡ plan.sectors * sector_bytes
    → Follows (DeviceAnswers state meaning device) (AnswersPlainly sound size sector_bytes) (disk_bytes state meaning device) (Good state meaning device plan sector_bytes sound)
device_follows state meaning device plan size sector_bytes sound sized = record {
  step = λ old new r before after reply good answers.
      subst (λ (p : Plan). AnswersPlainly sound size sector_bytes (bytes_on p (holding state meaning device old)) (bytes_on new.plan (holding state meaning device new)) r before after reply)
      (sym good.plan_is)
      (subst (λ (p : Plan). AnswersPlainly sound size sector_bytes (bytes_on plan (holding state meaning device old)) (bytes_on p (holding state meaning device new)) r before after reply)
      (sym (answers.plan ∙ good.plan_is))
      (stepped state meaning device plan size sector_bytes sound sized old new r before after reply good answers).plainly);
  good = λ old new r before after reply good answers.
      let s : Stepped device plan size sector_bytes sound (holding state meaning device old) (holding state meaning device new) new.mounted r before after reply
      = stepped state meaning device plan size sector_bytes sound sized old new r before after reply good answers in
      record { plan_is = answers.plan ∙ good.plan_is; planned = s.planned; sectors = s.sectors; is_sound = s.still_sound };
}

-- the sizes that are told, and what there is of a holding
pub sectors_told : (plan : Plan) (size : ℕ) (held : Option Holding) → IsTold plan size held → HasSectors (sector_bytes_on held) held
sectors_told plan size (Some h) told = refl
sectors_told plan size None told = absurd told

pub size_told : (plan : Plan) (size : ℕ) (held : Option Holding) → IsTold plan size held → size ≡ plan.sectors * sector_bytes_on held
size_told plan size (Some h) told = told
size_told plan size None told = absurd told

length_told : (plan : Plan) (size : ℕ) (held : Option Holding) → IsTold plan size held → length (bytes_on plan held) ≡ size
length_told plan size (Some h) told = length-joined h.meaning.sector_bytes plan.sectors (stored (numbers_held plan h).geometry h.meaning.decoding h.die.cells) ∙ sym told
length_told plan size None told = absurd told

pub device_length : {D C F : Type 0} (state : D → DieState) (meaning : C → Meaning) (device : F → DeviceValue) (disk : DeviceDisk D C F) → IsDeviceDisk state meaning device disk
    → length (disk_bytes state meaning device disk) ≡ disk.size
device_length state meaning device disk is = length_told disk.plan disk.size (holding state meaning device disk) is.told

pub device_sessions : {D C F : Type 0} (state : D → DieState) (meaning : C → Meaning) (device : F → DeviceValue) (disk last : DeviceDisk D C F) (ended : Ended) (from left to given : List Event)
    → IsDeviceDisk state meaning device disk
    → Session (DeviceAnswers state meaning device) (power_of state device) disk.size ended disk last from left to given
    → Session (AnswersPlainly (HasSoundCells state meaning device disk) disk.size (sector_bytes_of state meaning device disk)) (λ _. None) disk.size ended (disk_bytes state meaning device disk)
    (disk_bytes state meaning device last) from left to given
device_sessions state meaning device disk last ended from left to given is session =
    let held : Option Holding = holding state meaning device disk in
    session_map (device_follows state meaning device disk.plan disk.size (sector_bytes_on held) (HasSoundCells state meaning device disk) (size_told disk.plan disk.size held is.told))
    (record { plan_is = refl; planned = is.planned; sectors = sectors_told disk.plan disk.size held is.told; is_sound = λ s. s }) session
