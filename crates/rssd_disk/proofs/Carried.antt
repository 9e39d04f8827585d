-- What is read or put answers a request.
use Rattle.std.proofs.Common.{◌≡◌, ◌⊎◌, ℕ, false, List, [], length, replicate, sym, ◌∙◌, ap, inl, inr, arith, subst, Option, Some, None, IfSome}
use Rattle.nbd_wire.specs.declared.command.Command.TheVariants.{Read, Write, Flush, Trim, WriteZeroes}
use Rattle.nbd_wire.specs.declared.request.Request.{Request}
use Rattle.nbd_wire.specs.declared.reply.Errno.{Errno}
use Rattle.nbd_wire.specs.declared.reply.Errno.TheVariants.{Done, InputOutput, Invalid, NoSpace}
use Rattle.rssd_core.specs.DeviceValue.{Numbers, DeviceValue}
use Rattle.rssd_disk.specs.Bytes.{joined, put, part_of}
use Rattle.rssd_disk.specs.Disk.{disk, disk_size, IsDisk}
use Rattle.rssd_disk.specs.Puts.{Same, ReadFails, HasPut, PutFails, HasFront}
use Rattle.rssd_disk.specs.Rules.{refusal, bytes_put, data_after}
use Rattle.rssd_disk.specs.Answers.{Serves, Fails, AnswersBy, Answers}
use Rattle.rssd_disk.specs.Held.{IsReady}
use Rattle.rssd_disk.proofs.Joined.{put_nothing}
use Rattle.rssd_disk.proofs.Loops.{same_refl}

-- the disk that is as it was is the disk with nothing put
same_disk : (d : Numbers) (place : ℕ) (old new : DeviceValue) → Same d old new → disk d new.view ≡ put place [] (disk d old.view)
same_disk d place old new same = ap (joined d.geometry.sector_bytes d.geometry.sectors) same.rows ∙ sym (put_nothing place (disk d old.view))

pub serves_read : (d : Numbers) (r : Request) (brought after : List ℕ) (old new : DeviceValue) → r.command ≡ Read → length brought ≡ r.length → Same d old new
    → after ≡ part_of r.offset (length brought) (disk d old.view) → Serves d r brought after old new
serves_read d r brought after old new e long same read = record {
  keeps = same.keeps;
  running = same.running;
  disk_is = same_disk d r.offset old new same ∙ ap (λ k. put r.offset (bytes_put r brought k) (disk d old.view)) (sym e);
  data_is = read ∙ ap (λ n. part_of r.offset n (disk d old.view)) long ∙ ap (λ k. data_after r brought (disk d old.view) k) (sym e);
}

pub fails_read : (d : Numbers) (r : Request) (brought : List ℕ) (old new : DeviceValue) → r.command ≡ Read → ReadFails d old new → Fails d r brought old new
fails_read d r brought old new e fails = record {
  keeps = fails.same.keeps;
  cause = fails.cause;
  front = λ sound.
      let none : bytes_put r brought r.command ≡ [] = ap (λ k. bytes_put r brought k) e in
      record {
        n = 0;
        within = omega arith;
        at_sector = λ some below. absurd (omega arith);
        put = same_disk d r.offset old new fails.same;
      };
}

-- what a request puts is put
pub serves_put : (d : Numbers) (r : Request) (brought bytes : List ℕ) (old new : DeviceValue) → bytes ≡ bytes_put r brought r.command → data_after r brought (disk d old.view) r.command ≡ brought
    → HasPut d r.offset bytes old new → Serves d r brought brought old new
serves_put d r brought bytes old new puts answers has = record {
  keeps = has.keeps;
  running = has.running;
  disk_is = has.put ∙ ap (λ l. put r.offset l (disk d old.view)) puts;
  data_is = sym answers;
}

pub fails_put : (d : Numbers) (r : Request) (brought bytes : List ℕ) (old new : DeviceValue) → bytes ≡ bytes_put r brought r.command → PutFails d r.offset bytes old new → Fails d r brought old new
fails_put d r brought bytes old new puts fails = record {
  keeps = fails.keeps;
  cause = fails.cause;
  front = λ sound. subst (λ (l : List ℕ). HasFront d r.offset l old new) puts (fails.front sound);
}

pub write_puts : (r : Request) (brought : List ℕ) → r.command ≡ Write → brought ≡ bytes_put r brought r.command
write_puts r brought e = ap (λ k. bytes_put r brought k) (sym e)

pub write_answers : (r : Request) (brought all : List ℕ) → r.command ≡ Write → data_after r brought all r.command ≡ brought
write_answers r brought all e = ap (λ k. data_after r brought all k) e

pub zeroes_put : (r : Request) (brought : List ℕ) → (r.command ≡ Trim) ⊎ (r.command ≡ WriteZeroes) → replicate r.length 0 ≡ bytes_put r brought r.command
zeroes_put r brought which = elim which [
  | inl e ↦ ap (λ k. bytes_put r brought k) (sym e)
  | inr e ↦ ap (λ k. bytes_put r brought k) (sym e)
]

pub zeroes_answer : (r : Request) (brought all : List ℕ) → (r.command ≡ Trim) ⊎ (r.command ≡ WriteZeroes) → data_after r brought all r.command ≡ brought
zeroes_answer r brought all which = elim which [
  | inl e ↦ ap (λ k. data_after r brought all k) e
  | inr e ↦ ap (λ k. data_after r brought all k) e
]

pub serves_flush : (d : Numbers) (r : Request) (brought : List ℕ) (device : DeviceValue) → r.command ≡ Flush → device.stopped ≡ false → Serves d r brought brought device device
serves_flush d r brought device e running =
    let same : Same d device device = same_refl d device running in
    record {
      keeps = same.keeps;
      running = running;
      disk_is = same_disk d r.offset device device same ∙ ap (λ k. put r.offset (bytes_put r brought k) (disk d device.view)) (sym e);
      data_is = ap (λ k. data_after r brought (disk d device.view) k) (sym e);
    }

-- ---- the numbers stay

by_numbers : (why : Option Errno) (d : Numbers) (r : Request) (before after : List ℕ) (old new : DeviceValue) (reply : Errno) → AnswersBy why d r before after old new reply → new.numbers ≡ old.numbers
by_numbers (Some why) d r before after old new reply h = ap (λ (device : DeviceValue). device.numbers) h.device_is
by_numbers None d r before after old new Done h = h.keeps.numbers
by_numbers None d r before after old new InputOutput h = h.keeps.numbers
by_numbers None d r before after old new Invalid h = absurd h
by_numbers None d r before after old new NoSpace h = absurd h

pub answers_numbers : (d : Numbers) (r : Request) (before after : List ℕ) (old new : DeviceValue) (reply : Errno) → Answers d r before after old new reply → new.numbers ≡ old.numbers
answers_numbers d r before after old new reply h = by_numbers (refusal (disk_size d) r) d r before after old new reply h

-- a device that is ready has sizes that are served, and runs
pub ready_parts : {F P : Type 0} (device : F → DeviceValue) (mounted : Option F) (closed : Option P) (ftl : F) → mounted ≡ Some ftl → IsReady device mounted closed
    → (IsDisk (device ftl).numbers) × ((device ftl).stopped ≡ false)
ready_parts {F} device mounted closed ftl e ready = let P : Option F → Type 0 = λ m. IsReady device m closed in subst P e ready

pub some_of : {F : Type 0} (P : F → Type 0) (mounted : Option F) (ftl : F) → mounted ≡ Some ftl → IfSome mounted P → P ftl
some_of {F} P mounted ftl e holds = let Q : Option F → Type 0 = λ m. IfSome m P in subst Q e holds
