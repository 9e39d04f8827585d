-- A server over a plain list of bytes. A disk over a device answers as it does, but that a call of the device may fail.
use Rattle.std.specs.Prelude.{◌≡◌, ◌⊎◌, ℕ, ◌+◌, ◌%◌, ◌<◌, ◌≤◌, List, length, take, Option, None, Some}
use Rattle.nbd_wire.specs.declared.reply.Errno.{Errno}
use Rattle.nbd_wire.specs.declared.reply.Errno.TheVariants.{Done, InputOutput}
use Rattle.nbd_wire.specs.declared.request.Request.{Request}
use Rattle.rssd_disk.specs.Bytes.{put}
use Rattle.rssd_disk.specs.Rules.{refusal, bytes_put, data_after}

-- the request was carried out: the bytes that it puts stand where it says, and a read answers what stands there
pub record IsServed (r : Request) (brought after old new : List ℕ) : Type 0 where
  pub bytes_are : new ≡ put r.offset (bytes_put r brought r.command) old
  pub data_are : after ≡ data_after r brought old r.command

-- The first bytes were put, some, all or none: they end where a sector ends. So each sector is as it was or as it was to be.
pub record PutsFront (sector_bytes place : ℕ) (bytes old new : List ℕ) : Type 0 where
  pub n : ℕ
  pub within : n ≤ length bytes
  pub at_sector : 0 < n → n < length bytes → (place + n) % sector_bytes ≡ 0
  pub bytes_are : new ≡ put place (take n bytes) old

-- a request that is refused, or that no device could be asked, changes nothing
pub record IsRefused (why reply : Errno) (brought after old new : List ℕ) : Type 0 where
  pub reply_is : (reply ≡ why) ⊎ (reply ≡ InputOutput)
  pub bytes_are : new ≡ old
  pub data_are : after ≡ brought

-- A request within its rules is served, or the device failed: then, from sound cells, a front of its bytes was put.
abbrev pub ServesPlainly : Type 0 → ℕ → Request → List ℕ → List ℕ → List ℕ → List ℕ → Errno → Type 0
ServesPlainly sound sector_bytes r brought after old new Done = IsServed r brought after old new
ServesPlainly sound sector_bytes r brought after old new InputOutput = sound → PutsFront sector_bytes r.offset (bytes_put r brought r.command) old new
ServesPlainly sound sector_bytes r brought after old new _ = ⊥

abbrev pub PlainlyBy : Option Errno → Type 0 → ℕ → Request → List ℕ → List ℕ → List ℕ → List ℕ → Errno → Type 0
PlainlyBy (Some why) sound sector_bytes r brought after old new reply = IsRefused why reply brought after old new
PlainlyBy None sound sector_bytes r brought after old new reply = ServesPlainly sound sector_bytes r brought after old new reply

-- how a server over so many bytes answers
abbrev pub AnswersPlainly : Type 0 → ℕ → ℕ → List ℕ → List ℕ → Request → List ℕ → List ℕ → Errno → Type 0
AnswersPlainly sound size sector_bytes old new r brought after reply = PlainlyBy (refusal size r) sound sector_bytes r brought after old new reply
