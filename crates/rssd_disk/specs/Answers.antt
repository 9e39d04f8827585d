-- What a request leaves of a device, by its reply.
use Rattle.std.specs.Prelude.{◌≡◌, ℕ, false, List, Option, None, Some}
use Rattle.nbd_wire.specs.declared.reply.Errno.{Errno}
use Rattle.nbd_wire.specs.declared.reply.Errno.TheVariants.{Done, InputOutput}
use Rattle.nbd_wire.specs.declared.request.Request.{Request}
use Rattle.page_codec.specs.Sound.{IsSound}
use Rattle.rssd_core.specs.DeviceValue.{Numbers, DeviceValue}
use Rattle.rssd_disk.specs.Bytes.{put}
use Rattle.rssd_disk.specs.Disk.{disk, disk_size}
use Rattle.rssd_disk.specs.Puts.{Keeps, HasCause, HasFront}
use Rattle.rssd_disk.specs.Rules.{refusal, bytes_put, data_after}

-- It was carried out: the disk is that of a server over a plain list of bytes, and so are the data that a read answers.
pub record Serves (d : Numbers) (r : Request) (brought after : List ℕ) (old new : DeviceValue) : Type 0 where
  pub keeps : Keeps d old new
  pub running : new.stopped ≡ false
  pub disk_is : disk d new.view ≡ put r.offset (bytes_put r brought r.command) (disk d old.view)
  pub data_is : after ≡ data_after r brought (disk d old.view) r.command

-- A call of the device failed: over sound cells a front of the bytes was put, which ends where a sector ends.
pub record Fails (d : Numbers) (r : Request) (brought : List ℕ) (old new : DeviceValue) : Type 0 where
  pub keeps : Keeps d old new
  pub cause : HasCause old new
  pub front : IsSound d.geometry old.view.die.cells → HasFront d r.offset (bytes_put r brought r.command) old new

-- a request within its rules is carried out, or a call of the device failed
abbrev pub CarriedOut : Numbers → Request → List ℕ → List ℕ → DeviceValue → DeviceValue → Errno → Type 0
CarriedOut d r brought after old new Done = Serves d r brought after old new
CarriedOut d r brought after old new InputOutput = Fails d r brought old new
CarriedOut d r brought after old new _ = ⊥

-- a request that is refused changes nothing
pub record Refuses (why reply : Errno) (brought after : List ℕ) (old new : DeviceValue) : Type 0 where
  pub reply_is : reply ≡ why
  pub device_is : new ≡ old
  pub data_is : after ≡ brought

abbrev pub AnswersBy : Option Errno → Numbers → Request → List ℕ → List ℕ → DeviceValue → DeviceValue → Errno → Type 0
AnswersBy (Some why) d r brought after old new reply = Refuses why reply brought after old new
AnswersBy None d r brought after old new reply = CarriedOut d r brought after old new reply

-- how a request is answered
abbrev pub Answers : Numbers → Request → List ℕ → List ℕ → DeviceValue → DeviceValue → Errno → Type 0
Answers d r brought after old new reply = AnswersBy (refusal (disk_size d) r) d r brought after old new reply
