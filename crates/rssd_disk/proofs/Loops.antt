-- Turns of the loops over sectors: each puts or reads what is next.
use Rattle.std.proofs.Common.{◌≡◌, ℕ, ◌+◌, ◌-◌, ◌*◌, ◌/◌, ◌%◌, ◌^◌, ◌<◌, ◌≤◌, false, min, List, [], ◌++◌, length, take, drop, replicate, sym, ◌∙◌, ap, refl, inl, inr, arith, subst, Result, Ok}
use Rattle.std.proofs.Common.{Err, OnErr}
use borrow.Rule.Slice.PartMut.{put_mid}
use Rattle.std.proofs.Math.Nat.{mul-mod_left, add-mul, one-mul}
use Rattle.std.proofs.Math.Seq.{take-add}
use Rattle.std.proofs.lemmas.List.{drop-drop, length-take, length-drop, length-replicate, take-replicate, drop-replicate}
use Rattle.std.proofs.lemmas.Slice.{take-put_mid}
use Rattle.std.proofs.lemmas.Nat.{div-add-mod', mod_below, div_below, mul-le}
use Rattle.rssd_core.specs.DeviceValue.{Numbers, DeviceView, DeviceValue, rows_of}
use Rattle.rssd_disk.specs.declared.bytes.Data.{Data}
use Rattle.rssd_disk.specs.declared.bytes.Data.TheVariants.{Zeros}
use Rattle.rssd_disk.specs.declared.part.Part.{Part}
use Rattle.rssd_disk.specs.Bytes.{joined, put, part_of}
use Rattle.rssd_disk.specs.Data.{bytes_in}
use Rattle.rssd_disk.specs.Disk.{disk, disk_size, IsDisk, IsNext, place_of}
use Rattle.rssd_disk.specs.Puts.{Same, ReadFails, HasPut, PartFails, PutFails}
use Rattle.rssd_disk.proofs.Joined.{length-joined, put-put, put_nothing}
use Rattle.rssd_disk.proofs.Rows.{keeps_refl, keeps_trans, later_cause}

pub length-disk : (d : Numbers) (view : DeviceView) → length (disk d view) ≡ disk_size d
length-disk d view = length-joined d.geometry.sector_bytes d.geometry.sectors (rows_of d view)

-- ---- the part that is next

-- a place on the disk lies in one of its sectors
pub sector_below : (d : Numbers) (place size : ℕ) → IsDisk d → size ≡ d.geometry.sector_bytes → place < disk_size d → place / size < d.geometry.sectors
sector_below d place size sizes size_is inside =
    let inside' : place < d.geometry.sectors * size = subst (λ (s : ℕ). place < d.geometry.sectors * s) (sym size_is) inside in
    div_below place size d.geometry.sectors (omega (arith, sizes.some)) inside'

-- places of the disk are small
pub small_place : (d : Numbers) (place : ℕ) → IsDisk d → place ≤ disk_size d → place < 2 ^ 63
small_place d place sizes inside =
    let product : d.geometry.sectors * d.geometry.sector_bytes ≤ 4294967296 * 512 = mul-le d.geometry.sectors d.geometry.sector_bytes 4294967296 512 (omega (arith, sizes.small)) sizes.few in
    let top : place ≤ 4294967296 * 512 = omega arith in
    omega arith

pub is_next : (d : Numbers) (place count done size : ℕ) (part : Part) → IsDisk d → size ≡ d.geometry.sector_bytes → place + count ≤ disk_size d → done < count
    → part.sector ≡ (place + done) / size → part.start ≡ (place + done) % size → part.count ≡ min (count - done) (size - (place + done) % size) → IsNext d place count done part
is_next d place count done size part sizes size_is room more sector start counted =
    let low : (place + done) % size < size = mod_below (place + done) size (omega (arith, sizes.some)) in
    let split : (place + done) / size * size + (place + done) % size ≡ place + done = div-add-mod' (place + done) size in
    let below : (place + done) / size < d.geometry.sectors = sector_below d (place + done) size sizes size_is (omega arith) in
    record {
      fits = record { sector = omega (arith, sector, below); within = omega (arith, start, counted, low, size_is) };
      begins = ap (λ s. s * d.geometry.sector_bytes + part.start) sector
          ∙ ap (λ s. (place + done) / size * s + part.start) (sym size_is) ∙ ap (λ s. (place + done) / size * size + s) start ∙ split;
      some = omega (arith, counted, low);
      within = omega (arith, counted);
      to_end = λ less.
          let rest : part.count ≡ size - (place + done) % size = omega (arith, counted) in
          let next : ((place + done) / size + 1) * size ≡ (place + done) / size * size + size
          = add-mul ((place + done) / size) 1 size ∙ ap (λ s. (place + done) / size * size + s) (one-mul size) in
          let whole : place + (done + part.count) ≡ ((place + done) / size + 1) * size = omega arith in
          ap (λ s. (place + (done + part.count)) % s) (sym size_is) ∙ ap (λ p. p % size) whole ∙ mul-mod_left ((place + done) / size + 1) size;
    }

-- ---- puts

pub start_put : (d : Numbers) (place : ℕ) (device : DeviceValue) → device.stopped ≡ false → HasPut d place [] device device
start_put d place device running = record { keeps = keeps_refl d device; put = sym (put_nothing place (disk d device.view)); running = running }

-- zeros that lie among zeros
pub part_of_zeros : {bytes : Data} {all : ℕ} (place count : ℕ) → bytes ≡ Zeros all → place + count ≤ length (bytes_in bytes) → replicate count 0 ≡ part_of place count (bytes_in bytes)
part_of_zeros {bytes} {all} place count is within =
    let inside : place + count ≤ length (replicate {A = ℕ} all 0) = subst (λ (b : Data). place + count ≤ length (bytes_in b)) is within in
    let few : count ≤ all - place = omega (arith, length-replicate {A = ℕ} all 0) in
    subst (λ (b : Data). replicate count 0 ≡ part_of place count (bytes_in b)) (sym is)
    (sym (ap (take count) (drop-replicate place all 0) ∙ take-replicate count (all - place) 0 few))

-- The part that is next is put, behind bytes that stand there already. It is known by the numbers of the device between.
module _ {place done : ℕ} {part : Part} (all : List ℕ) {old mid : DeviceValue} (new : DeviceValue) (room : place + length all ≤ disk_size old.numbers)
    (first : HasPut old.numbers place (take done all) old mid)
    (next : IsNext mid.numbers place (length all) done part) where
  next_of_old : IsNext old.numbers place (length all) done part
  next_of_old = subst (λ (n : Numbers). IsNext n place (length all) done part) first.keeps.numbers next

  put_behind : put (place + done) (part_of done part.count all) (put place (take done all) (disk old.numbers old.view)) ≡ put place (take (done + part.count) all) (disk old.numbers old.view)
  put_behind =
      let front : length (take done all) ≡ done = length-take done all ∙ omega (arith, next.within) in
      let behind : length (part_of done part.count all) ≡ part.count = length-take part.count (drop done all) ∙ omega (arith, length-drop done all, next.within) in
      let whole : length (disk old.numbers old.view) ≡ disk_size old.numbers = length-disk old.numbers old.view in
      ap (λ n. put (place + n) (part_of done part.count all) (put place (take done all) (disk old.numbers old.view))) (sym front)
      ∙ put-put place (take done all) (part_of done part.count all) (disk old.numbers old.view) (omega (arith, room, front, behind, whole, next.within))
      ∙ ap (λ l. put place l (disk old.numbers old.view)) (sym (take-add done part.count all))

  pub step_put : HasPut mid.numbers (place_of mid.numbers part) (part_of done part.count all) mid new → HasPut old.numbers place (take (done + part.count) all) old new
  step_put second =
      let of_old : HasPut old.numbers (place_of old.numbers part) (part_of done part.count all) mid new
      = subst (λ (n : Numbers). HasPut n (place_of n part) (part_of done part.count all) mid new) first.keeps.numbers second in
      let there : HasPut old.numbers (place + done) (part_of done part.count all) mid new = subst (λ (p : ℕ). HasPut old.numbers p (part_of done part.count all) mid new) next_of_old.begins of_old in
      record {
        keeps = keeps_trans first.keeps there.keeps;
        put = there.put ∙ ap (put (place + done) (part_of done part.count all)) first.put ∙ put_behind;
        running = there.running;
      }

  pub step_fails : (0 < done → done < length all → (place + done) % old.numbers.geometry.sector_bytes ≡ 0)
      → PartFails mid.numbers (place_of mid.numbers part) (part_of done part.count all) mid new → PutFails old.numbers place all old new
  step_fails at_sector second =
      let of_old : PartFails old.numbers (place_of old.numbers part) (part_of done part.count all) mid new
      = subst (λ (n : Numbers). PartFails n (place_of n part) (part_of done part.count all) mid new) first.keeps.numbers second in
      let there : PartFails old.numbers (place + done) (part_of done part.count all) mid new
      = subst (λ (p : ℕ). PartFails old.numbers p (part_of done part.count all) mid new) next_of_old.begins of_old in
      record {
        keeps = keeps_trans first.keeps there.keeps;
        front = λ sound. elim (there.either (first.keeps.sound sound)) [
          | inl stays ↦ record { n = done; within = omega (arith, next.within); at_sector = at_sector; put = stays ∙ first.put }
          | inr done_too ↦ record {
            n = done + part.count;
            within = next.within;
            at_sector = λ some below. next_of_old.to_end below;
            put = done_too ∙ ap (put (place + done) (part_of done part.count all)) first.put ∙ put_behind;
          }
        ];
        cause = later_cause old.numbers old mid new first.keeps there.cause;
      }

-- ---- reads

pub same_refl : (d : Numbers) (device : DeviceValue) → device.stopped ≡ false → Same d device device
same_refl d device running = record { keeps = keeps_refl d device; rows = refl; running = running }

module _ {old mid : DeviceValue} (new : DeviceValue) (first : Same old.numbers old mid) where
  pub step_same : Same mid.numbers mid new → Same old.numbers old new
  step_same second =
      let of_old : Same old.numbers mid new = subst (λ (n : Numbers). Same n mid new) first.keeps.numbers second in
      record { keeps = keeps_trans first.keeps of_old.keeps; rows = of_old.rows ∙ first.rows; running = of_old.running }

  pub step_read_fails : ReadFails mid.numbers mid new → ReadFails old.numbers old new
  step_read_fails second = record { same = step_same second.same; cause = later_cause old.numbers old mid new first.keeps second.cause }

-- what is read of a part stands behind what was read before
pub step_read : (place done k : ℕ) (part : Part) (into piece : List ℕ) (old mid : DeviceValue) → Same old.numbers old mid → IsNext mid.numbers place (length into) done part → length piece ≡ part.count
    → take done into ≡ part_of place done (disk old.numbers old.view) → piece ≡ part_of (place_of mid.numbers part) part.count (disk mid.numbers mid.view)
    → take (done + part.count) (put_mid done k into piece) ≡ part_of place (done + part.count) (disk old.numbers old.view)
step_read place done k part into piece old mid first next whole front read =
    let d : Numbers = old.numbers in
    let all : List ℕ = disk d old.view in
    let next_d : IsNext d place (length into) done part = subst (λ (n : Numbers). IsNext n place (length into) done part) first.keeps.numbers next in
    let read_d : piece ≡ part_of (place_of d part) part.count (disk d mid.view) = subst (λ (n : Numbers). piece ≡ part_of (place_of n part) part.count (disk n mid.view)) first.keeps.numbers read in
    let piece_is : piece ≡ part_of (place + done) part.count all
    = read_d ∙ ap (λ p. part_of p part.count (disk d mid.view)) next_d.begins
    ∙ ap (λ rows. part_of (place + done) part.count (joined d.geometry.sector_bytes d.geometry.sectors rows)) first.rows in
    take-put_mid done k into piece (done + part.count) (omega (arith, whole)) (omega (arith, next.within))
    ∙ ap (λ l. l ++ piece) front
    ∙ ap (λ l. part_of place done all ++ l) (piece_is ∙ ap (take part.count) (sym (drop-drop done place all)))
    ∙ sym (take-add done part.count (drop place all))

-- ---- results

pub on_err : {T E P : Type 0} (r : Result T E) → P → OnErr r P
on_err (Ok x) h = tt
on_err (Err e) h = h
