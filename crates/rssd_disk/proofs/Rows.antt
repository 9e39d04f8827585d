-- What a call of the device leaves of one sector, and so of the disk.
use Rattle.std.proofs.Common.{◌≡◌, ◌⊎◌, ℕ, ◌+◌, ◌*◌, ◌^◌, ◌<◌, ◌≤◌, false, List, [], length, set, get_or, sym, ◌∙◌, ap, refl, inl, inr, arith, subst}
use Rattle.std.proofs.lemmas.List.FromFn.{length-map-range_with_len}
use Rattle.cell_die.specs.Counts.{Rose}
use Rattle.cell_die.proofs.Sequences.{kept_refl, kept_trans}
use Rattle.page_codec.specs.Sectors.{stored, said_by}
use Rattle.page_codec.specs.Records.{live_record}
use Rattle.page_codec.specs.Sound.{IsSound}
use Rattle.rssd_core.specs.DeviceValue.{Numbers, DeviceView, DeviceValue, rows_of}
use Rattle.rssd_core.specs.Outcomes.{Holds, Faulted, Wrote, WriteFault, Trimmed, TrimFault, OnlyDie, zeros}
use Rattle.rssd_core.specs.declared.device.Placed.{Placed}
use Rattle.rssd_disk.specs.Bytes.{joined, put, part_of}
use Rattle.rssd_disk.specs.declared.part.Part.{Part}
use Rattle.rssd_disk.specs.Disk.{disk, IsDisk, IsPart, place_of}
use Rattle.rssd_disk.specs.Puts.{Keeps, HasCause, Same, ReadFails, HasRow, RowFails, HasPut, PartFails}
use Rattle.rssd_disk.proofs.Joined.{PutsIn, puts_row, puts_whole, joined_set, joined_part}

pub length-rows_of : (d : Numbers) (view : DeviceView) → length (rows_of d view) ≡ d.geometry.sectors
unfolding stored
length-rows_of d view = length-map-range_with_len (λ sector. said_by d.geometry d.meaning.decoding view.die.cells (live_record d.geometry view.die.cells sector)) 0 d.geometry.sectors

-- ---- what calls keep

pub keeps_refl : (d : Numbers) (device : DeviceValue) → Keeps d device device
keeps_refl d device = record { numbers = refl; kept = kept_refl device.view.die; sound = λ sound. sound }

pub keeps_same : (d : Numbers) (old new : DeviceValue) → new ≡ old → Keeps d old new
keeps_same d old new e = let P : DeviceValue → Type 0 = λ device. Keeps d old device in subst P (sym e) (keeps_refl d old)

pub keeps_trans : {d : Numbers} {old mid new : DeviceValue} → Keeps d old mid → Keeps d mid new → Keeps d old new
keeps_trans first second = record {
  numbers = second.numbers ∙ first.numbers;
  kept = kept_trans first.kept second.kept;
  sound = λ sound. second.sound (first.sound sound);
}

pub keeps_held : {d : Numbers} {old new : DeviceValue} → Holds d old new → Keeps d old new
keeps_held holds = record { numbers = holds.numbers; kept = holds.kept; sound = holds.sound }

later_rise : (a b c : ℕ) → a ≤ b → Rose b c → Rose a c
later_rise a b c h rose = omega arith

pub later_cause : (d : Numbers) (old mid new : DeviceValue) → Keeps d old mid → HasCause mid new → HasCause old new
later_cause d old mid new keeps cause = elim cause [
  | inl read ↦ inl (later_rise _ _ _ keeps.kept.read_faults read)
  | inr rest ↦ (elim rest [
    | inl change ↦ inr (inl (later_rise _ _ _ keeps.kept.change_faults change))
    | inr spent ↦ inr (inr spent)
  ])
]

-- ---- a failed call of the die

pub fault_cause : {d : Numbers} {Within : ℕ → ℕ → Type 0} {done : List (List ℕ)} {old new : DeviceValue} → Faulted d Within done old new → HasCause old new
fault_cause fault = elim fault [
  | inl read ↦ inl read.failed.read_faults
  | inr change ↦ inr (inl change.failed.change_faults)
]

pub fault_rows : {d : Numbers} {Within : ℕ → ℕ → Type 0} {done : List (List ℕ)} {old new : DeviceValue} → Faulted d Within done old new → IsSound d.geometry old.view.die.cells
    → (rows_of d new.view ≡ rows_of d old.view) ⊎ (rows_of d new.view ≡ done)
fault_rows fault sound = elim fault [
  | inl read ↦ inl read.rows
  | inr change ↦ change.rows sound
]

pub wrote_row : (d : Numbers) (sector : ℕ) (row : List ℕ) (placed : Placed) (old new : DeviceValue) → Holds d old new → Wrote d sector row placed old new → HasRow d sector row old new
wrote_row d sector row placed old new holds wrote = record { keeps = keeps_held holds; rows = wrote.rows; running = wrote.running }

pub write_fault_row : (d : Numbers) (sector : ℕ) (row : List ℕ) (old new : DeviceValue) → Holds d old new → WriteFault d sector row old new → RowFails d sector row old new
write_fault_row d sector row old new holds failed = record { keeps = keeps_held holds; either = fault_rows failed.fault; cause = fault_cause failed.fault }

pub trimmed_row : (d : Numbers) (sector : ℕ) (old new : DeviceValue) → Holds d old new → Trimmed d sector old new → HasRow d sector (zeros d) old new
trimmed_row d sector old new holds trimmed = record { keeps = keeps_held holds; rows = trimmed.rows; running = trimmed.running }

pub trim_fault_row : (d : Numbers) (sector : ℕ) (old new : DeviceValue) → Holds d old new → TrimFault d sector old new → RowFails d sector (zeros d) old new
trim_fault_row d sector old new holds failed = record { keeps = keeps_held holds; either = fault_rows failed.fault; cause = fault_cause failed.fault }

-- the record numbers are spent: nothing changed
pub spent_row : (d : Numbers) (sector : ℕ) (row : List ℕ) (old new : DeviceValue) → 2 ^ 62 ≤ old.view.seq → new ≡ old → RowFails d sector row old new
spent_row d sector row old new spent same = record {
  keeps = keeps_same d old new same;
  either = λ sound. inl (ap (λ device. rows_of d device.view) same);
  cause = inr (inr (let P : DeviceValue → Type 0 = λ device. 2 ^ 62 ≤ device.view.seq in subst P (sym same) spent));
}

-- ---- a row is part of the disk

pub put_row : (d : Numbers) (sector start : ℕ) (bytes row : List ℕ) (view : DeviceView) → IsDisk d → sector < d.geometry.sectors → start + length bytes ≤ d.geometry.sector_bytes
    → PutsIn d.geometry.sector_bytes start bytes (get_or (rows_of d view) sector []) row
    → joined d.geometry.sector_bytes d.geometry.sectors (set (rows_of d view) sector row) ≡ put (sector * d.geometry.sector_bytes + start) bytes (disk d view)
put_row d sector start bytes row view sizes inside fits puts =
    let long : length (rows_of d view) ≡ d.geometry.sectors = length-rows_of d view in
    joined_set d.geometry.sector_bytes d.geometry.sectors sector start bytes row (rows_of d view) (omega (arith, sizes.some)) inside (omega arith) fits puts

module _ {d : Numbers} {sector start : ℕ} {bytes row : List ℕ} {old new : DeviceValue} (sizes : IsDisk d) (inside : sector < d.geometry.sectors) (fits : start + length bytes ≤ d.geometry.sector_bytes)
    (puts : PutsIn d.geometry.sector_bytes start bytes (get_or (rows_of d old.view) sector []) row) where
  pub has_put_row : HasRow d sector row old new → HasPut d (sector * d.geometry.sector_bytes + start) bytes old new
  has_put_row has = record {
    keeps = has.keeps;
    put = ap (joined d.geometry.sector_bytes d.geometry.sectors) has.rows ∙ put_row d sector start bytes row old.view sizes inside fits puts;
    running = has.running;
  }

  pub part_fails_row : RowFails d sector row old new → PartFails d (sector * d.geometry.sector_bytes + start) bytes old new
  part_fails_row fails = record {
    keeps = fails.keeps;
    either = λ sound. elim (fails.either sound) [
      | inl same ↦ inl (ap (joined d.geometry.sector_bytes d.geometry.sectors) same)
      | inr done ↦ inr (ap (joined d.geometry.sector_bytes d.geometry.sectors) done ∙ put_row d sector start bytes row old.view sizes inside fits puts)
    ];
    cause = fails.cause;
  }

-- ---- reads

pub read_same : (d : Numbers) (old new : DeviceValue) → old.stopped ≡ false → Holds d old new → OnlyDie old new → Same d old new
read_same d old new running holds only = record {
  keeps = keeps_held holds;
  rows = ap (λ cells. stored d.geometry d.meaning.decoding cells) only.cells.cells;
  running = ap (λ device. device.stopped) only.rest ∙ running;
}

-- what is read of a row is read of the disk
pub read_row : (d : Numbers) (sector start n : ℕ) (view : DeviceView) (row into : List ℕ) → IsDisk d → sector < d.geometry.sectors → start + n ≤ d.geometry.sector_bytes
    → row ≡ get_or (rows_of d view) sector [] → length row ≡ d.geometry.sector_bytes → into ≡ part_of start n row → into ≡ part_of (sector * d.geometry.sector_bytes + start) n (disk d view)
read_row d sector start n view row into sizes inside fits is long copied =
    copied ∙ ap (part_of start n) is
    ∙ joined_part d.geometry.sector_bytes d.geometry.sectors sector start n (rows_of d view) (omega (arith, sizes.some)) inside fits (sym (ap length is) ∙ long)

-- ---- a change of a whole sector

module _ (d : Numbers) (part : Part) (bytes row : List ℕ) (old new : DeviceValue) (sizes : IsDisk d) (fits : IsPart d part) (whole : part.count ≡ d.geometry.sector_bytes) (same : bytes ≡ row)
    (long : length row ≡ part.count) where
  first : part.start ≡ 0
  first = omega (arith, fits.within)

  all_put : PutsIn d.geometry.sector_bytes 0 row (get_or (rows_of d old.view) part.sector []) row
  all_put = puts_whole d.geometry.sector_bytes row (get_or (rows_of d old.view) part.sector []) (long ∙ whole)

  pub whole_put : HasRow d part.sector row old new → HasPut d (place_of d part) bytes old new
  whole_put has =
      let P : ℕ → List ℕ → Type 0 = λ start put. HasPut d (part.sector * d.geometry.sector_bytes + start) put old new in
      subst (λ (start : ℕ). P start bytes) (sym first) (subst (P 0) (sym same) (has_put_row sizes fits.sector (omega (arith, long, whole)) all_put has))

  pub whole_fails : RowFails d part.sector row old new → PartFails d (place_of d part) bytes old new
  whole_fails fails =
      let P : ℕ → List ℕ → Type 0 = λ start put. PartFails d (part.sector * d.geometry.sector_bytes + start) put old new in
      subst (λ (start : ℕ). P start bytes) (sym first) (subst (P 0) (sym same) (part_fails_row sizes fits.sector (omega (arith, long, whole)) all_put fails))

-- ---- a change of a part: the sector is read, bytes of it are changed, and it is written

pub record Changes (d : Numbers) (part : Part) (bytes row changed : List ℕ) (old mid : DeviceValue) : Type 0 where
  pub sizes : IsDisk d
  pub fits : IsPart d part
  pub whole : length bytes ≡ part.count
  pub same : Same d old mid
  pub numbers : mid.numbers ≡ d
  pub row_is : row ≡ get_or (rows_of d old.view) part.sector []
  pub long : length row ≡ d.geometry.sector_bytes
  pub changed_is : changed ≡ put part.start bytes row

module _ (d : Numbers) (part : Part) (bytes row changed : List ℕ) (old mid new : DeviceValue) (h : Changes d part bytes row changed old mid) where
  changed_row : PutsIn d.geometry.sector_bytes part.start bytes (get_or (rows_of d mid.view) part.sector []) changed
  changed_row =
      let is : row ≡ get_or (rows_of d mid.view) part.sector [] = h.row_is ∙ ap (λ rows. get_or rows part.sector []) (sym h.same.rows) in
      let P : List ℕ → List ℕ → Type 0 = λ was now. PutsIn d.geometry.sector_bytes part.start bytes was now in
      subst (λ (was : List ℕ). P was changed) is (subst (P row) (sym h.changed_is) (puts_row d.geometry.sector_bytes part.start bytes row h.long (omega (arith, h.fits.within, h.whole))))

  as_before : disk d mid.view ≡ disk d old.view
  as_before = ap (joined d.geometry.sector_bytes d.geometry.sectors) h.same.rows

  pub change_put : HasRow mid.numbers part.sector changed mid new → HasPut d (place_of d part) bytes old new
  change_put has =
      let has_d : HasRow d part.sector changed mid new = subst (λ (n : Numbers). HasRow n part.sector changed mid new) h.numbers has in
      let put_d : HasPut d (place_of d part) bytes mid new = has_put_row h.sizes h.fits.sector (omega (arith, h.fits.within, h.whole)) changed_row has_d in
      record { keeps = keeps_trans h.same.keeps put_d.keeps; put = put_d.put ∙ ap (put (place_of d part) bytes) as_before; running = put_d.running }

  pub change_fails : RowFails mid.numbers part.sector changed mid new → PartFails d (place_of d part) bytes old new
  change_fails fails =
      let fails_d : RowFails d part.sector changed mid new = subst (λ (n : Numbers). RowFails n part.sector changed mid new) h.numbers fails in
      let part_d : PartFails d (place_of d part) bytes mid new = part_fails_row h.sizes h.fits.sector (omega (arith, h.fits.within, h.whole)) changed_row fails_d in
      record {
        keeps = keeps_trans h.same.keeps part_d.keeps;
        either = λ sound. elim (part_d.either (h.same.keeps.sound sound)) [
          | inl stays ↦ inl (stays ∙ as_before)
          | inr done ↦ inr (done ∙ ap (put (place_of d part) bytes) as_before)
        ];
        cause = later_cause d old mid new h.same.keeps part_d.cause;
      }

pub read_fails_part : {d : Numbers} {place : ℕ} {bytes : List ℕ} {old new : DeviceValue} → ReadFails d old new → PartFails d place bytes old new
read_fails_part {d} fails = record { keeps = fails.same.keeps; either = λ sound. inl (ap (joined d.geometry.sector_bytes d.geometry.sectors) fails.same.rows); cause = fails.cause }
