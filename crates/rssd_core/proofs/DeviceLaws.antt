-- A call of a device over its store: what the store's calls left meets the contract.
use Rattle.std.proofs.Common.{◌≡◌, inl, inr, ℕ, ◌^◌, ◌<◌, ◌≤◌, Bool, true, false, List, Option, Some, None, Result, Ok, Err, refl, sym, ap, ◌∙◌, subst}
use Rattle.std.specs.Prelude.{IsTrue, ◌↔◌}
use Rattle.std.proofs.lemmas.Bool.{false≢true, cases_lt}
use Rattle.cell_die.specs.DieState.{DieState}
use Rattle.cell_die.specs.Changes.{SameCells}
use Rattle.cell_die.specs.Counts.{count_sum}
use Rattle.striped.specs.Meaning.{Meaning}
use Rattle.sector_map.specs.declared.entry.Entry.{Entry}
use Rattle.sector_map.specs.Entry.{entry_at}
use Rattle.block_state.specs.Book.{BookValue}
use Rattle.reuse_pool.specs.Recycling.{Recycles}
use Rattle.page_codec.specs.Geometry.{Geometry}
use Rattle.page_codec.specs.Records.{live_record}
use Rattle.page_codec.specs.TrueBook.{IsTrueBook, RecyclingDone}
use Rattle.page_codec.specs.declared.fault.PutFault.{PutFault}
use Rattle.page_codec.specs.declared.fault.PutFault.TheVariants.{Read, Change}
use Rattle.collector.specs.Store.{IsTrueStore}
use Rattle.rssd_core.specs.declared.device.Placed.{Placed}
use Rattle.rssd_core.specs.declared.whole.Tallies.{Tallies}
use Rattle.rssd_core.specs.Clearing.{is_held, ClearEnds}
use Rattle.rssd_core.specs.DeviceValue.{Numbers, DeviceValue, with_die}
use Rattle.rssd_core.specs.Held.{Held, Keeps, Stands, stops, on_die}
use Rattle.rssd_core.specs.Idle.{MovesEnd, stopped_by}
use Rattle.rssd_core.specs.Outcomes.{Holds, Wrote, WriteFault, Trimmed, TrimFault, Idled, IdleFault, OnlyDie, firsts, seconds, declines}
use Rattle.rssd_core.specs.Parts.{Parts, device_of}
use Rattle.rssd_core.specs.Placing.{PlaceEnds}
use Rattle.rssd_core.specs.Within.{holds_bytes}
use Rattle.rssd_core.proofs.IdleLaws.{device_at, with_book, idled, idle_read_failed, idle_change_failed}
use Rattle.rssd_core.proofs.PlacedLaws.{FewCounts, written, unread, unchanged}
use Rattle.rssd_core.proofs.StoreLaws.{keeps_refl, keeps_trans}
use Rattle.rssd_core.proofs.TrimLaws.{told_is, trimmed_nothing, trimmed, trim_unread, trim_unchanged}
use Rattle.rssd_core.proofs.WroteFirst.{view_at}

-- a device by its parts
abbrev pub parts_of : {C : Type 0} → Held C → ℕ → Tallies → Parts C
parts_of store reuse_max tallies = record { store = store; reuse_max = reuse_max; tallies = tallies }

-- the numbers of a device with such a store
abbrev pub numbers_in : {C : Type 0} → (C → Meaning) → ℕ → Held C → Numbers
numbers_in meaning reuse_max store = record { geometry = store.geometry; meaning = meaning store.scheme; reuse_max = reuse_max }

-- the numbers are not spent where the test says so
pub not_spent : (seq : ℕ) {spent : Bool} → (IsTrue spent ↔ (2 ^ 62 ≤ seq)) → spent ≡ false → seq < 2 ^ 62
not_spent seq tells not = elim (cases_lt seq (2 ^ 62)) [ inl below ↦ below | inr high ↦ absurd (false≢true (sym not ∙ tells.1 high)) ]

-- ---- what every call keeps

pub device_holds : {C : Type 0} {meaning : C → Meaning} {old new : Held C} {reuse_max : ℕ} {tallies : Tallies} {before : Parts C} → parts_of old reuse_max tallies ≡ before
    → (tallies' : Tallies) → Keeps meaning old new → Stands new → (new.stopped ≡ false → RecyclingDone reuse_max new.cells.book)
    → Holds (device_of meaning before).numbers (device_of meaning before) (device_of meaning (parts_of new reuse_max tallies'))
device_holds {C = C} {meaning = meaning} {old = old} {new = new} {reuse_max = reuse_max} is tallies' keeps stands done =
    subst (λ (p : Parts C). Holds (device_of meaning p).numbers (device_of meaning p) (device_of meaning (parts_of new reuse_max tallies'))) is (record {
      numbers = λ i. record { geometry = keeps.same_numbers i; meaning = keeps.same_scheme i; reuse_max = reuse_max };
      kept = keeps.holds.kept;
      no_pad = keeps.holds.pads;
      sound = keeps.holds.sound;
      true_book = λ running.
          let tables : IsTrueStore old.geometry new.cells = subst (λ (g : Geometry). IsTrueStore g new.cells) keeps.same_numbers (stands.tables running) in
          subst (λ (table : List (Option Entry)). IsTrueBook old.geometry reuse_max new.cells.die.cells new.cells.book table new.cells.seq) tables.entries
          (record { tables = tables; recycling_done = done running });
    })

-- a call that was refused
pub device_stays : {C : Type 0} (meaning : C → Meaning) {old : Held C} {reuse_max : ℕ} {tallies : Tallies} {before : Parts C} → parts_of old reuse_max tallies ≡ before
    → Stands old → (old.stopped ≡ false → RecyclingDone reuse_max old.cells.book) → Holds (device_of meaning before).numbers (device_of meaning before) (device_of meaning before)
device_stays {C = C} meaning {old = old} {reuse_max = reuse_max} {tallies = tallies} is stands settled =
    subst (λ (p : Parts C). Holds (device_of meaning p).numbers (device_of meaning p) (device_of meaning p)) is
    (device_holds {meaning = meaning} {before = parts_of old reuse_max tallies} refl tallies (keeps_refl {meaning = meaning} old) stands settled)

-- where nothing moves but the die
pub device_read : {C : Type 0} (meaning : C → Meaning) {old new : Held C} {reuse_max : ℕ} {tallies : Tallies} {before : Parts C} → parts_of old reuse_max tallies ≡ before
    → SameCells old.cells.die new.cells.die → new ≡ on_die (λ _. new.cells.die) old → OnlyDie (device_of meaning before) (device_of meaning (parts_of new reuse_max tallies))
device_read {C = C} meaning {old = old} {new = new} {reuse_max = reuse_max} {tallies = tallies} is cells same =
    subst (λ (p : Parts C). OnlyDie (device_of meaning p) (device_of meaning (parts_of new reuse_max tallies))) is
    (record { cells = cells; rest = ap (λ (x : Held C). device_of meaning (parts_of x reuse_max tallies)) same })

-- what is set of the die alone is set of the device's
pub device_told : {C : Type 0} (meaning : C → Meaning) (change : DieState → DieState) {old new : Held C} {reuse_max : ℕ} {tallies : Tallies} {before : Parts C}
    → parts_of old reuse_max tallies ≡ before
    → new ≡ on_die change old → device_of meaning (parts_of new reuse_max tallies) ≡ with_die change (device_of meaning before)
device_told {C = C} meaning change {new = new} {reuse_max = reuse_max} {tallies = tallies} is same =
    subst (λ (p : Parts C). device_of meaning (parts_of new reuse_max tallies) ≡ with_die change (device_of meaning p)) is
    (ap (λ (x : Held C). device_of meaning (parts_of x reuse_max tallies)) same)

-- a change of the die alone makes no block due
pub still_settled : {C : Type 0} (change : DieState → DieState) (old : Held C) {new : Held C} (reuse_max : ℕ)
    → new ≡ on_die change old → (old.stopped ≡ false → RecyclingDone reuse_max old.cells.book) → new.stopped ≡ false → RecyclingDone reuse_max new.cells.book
still_settled {C = C} change old reuse_max same settled = subst (λ (x : Held C). x.stopped ≡ false → RecyclingDone reuse_max x.cells.book) (sym same) settled

-- ---- a device that runs

-- what its test said of it
pub record Running {C : Type 0} (before : Parts C) (reuse_max : ℕ) (tallies : Tallies) (old : Held C) : Type 0 where
  pub is : parts_of old reuse_max tallies ≡ before
  pub stands : Stands old
  pub running : old.stopped ≡ false

module _ {C : Type 0} {before : Parts C} {reuse_max : ℕ} {tallies : Tallies} {old : Held C} (run : Running before reuse_max tallies old) where
  tables_before : IsTrueStore old.geometry old.cells
  tables_before = run.stands.tables run.running

  -- what is so of the store is so of the device
  as_device : (meaning : C → Meaning) (P : DeviceValue → Type 0)
      → P (device_at (numbers_in meaning reuse_max old) old.cells tallies.first tallies.second tallies.declined old.moved false) → P (device_of meaning before)
  as_device meaning P law = subst (λ (p : Parts C). P (device_of meaning p)) run.is
      (subst (λ (t : Bool). P (device_at (numbers_in meaning reuse_max old) old.cells tallies.first tallies.second tallies.declined old.moved t)) (sym run.running) law)

-- ---- a call of the store, and then the recycling that ends it

-- the store before, what the call left, and the store at the end
pub record Called {C : Type 0} (meaning : C → Meaning) (before : Parts C) (reuse_max : ℕ) (tallies : Tallies) (old mid new : Held C) : Type 0 where
  pub run : Running before reuse_max tallies old
  pub keeps : Keeps meaning old mid
  pub settles : Keeps meaning mid new
  pub recycles : mid.stopped ≡ false → Recycles reuse_max mid.cells.book new.cells.book
  pub halted : mid.stopped ≡ true → new ≡ mid
  pub same : new ≡ record mid { cells = record mid.cells { book = new.cells.book } }

module _ {C : Type 0} {meaning : C → Meaning} {before : Parts C} {reuse_max : ℕ} {tallies : Tallies} {old mid new : Held C} (call : Called meaning before reuse_max tallies old mid new) where
  halted_book : mid.stopped ≡ true → new.cells.book ≡ mid.cells.book
  halted_book stopped = ap (λ (x : Held C). x.cells.book) (call.halted stopped)

  module _ (tallies' : Tallies) {first second declined moved : ℕ} {stopped : Bool} {book : BookValue}
      (firsts_are : tallies'.first ≡ first) (seconds_are : tallies'.second ≡ second) (declined_are : tallies'.declined ≡ declined)
      (moved_are : mid.moved ≡ moved) (stopped_is : mid.stopped ≡ stopped) (book_is : new.cells.book ≡ book) where
    -- the device at the end, by the numbers and the scheme before
    device_new : device_at (numbers_in meaning reuse_max old) (with_book mid.cells book) first second declined moved stopped ≡ device_of meaning (parts_of new reuse_max tallies')
    device_new =
        let keeps = keeps_trans call.keeps call.settles in
        let cells : new.cells ≡ with_book mid.cells book = ap (λ (x : Held C). x.cells) call.same ∙ ap (with_book mid.cells) book_is in
        let moves : new.moved ≡ moved = ap (λ (x : Held C). x.moved) call.same ∙ moved_are in
        let stops_so : new.stopped ≡ stopped = ap (λ (x : Held C). x.stopped) call.same ∙ stopped_is in
        λ i. record {
          numbers = record { geometry = sym keeps.same_numbers i; meaning = sym keeps.same_scheme i; reuse_max = reuse_max };
          view = view_at (sym cells i) (sym firsts_are i) (sym seconds_are i) (sym declined_are i) (sym moves i);
          stopped = sym stops_so i;
        }

    -- what is so of the stores is so of the devices
    over : (P : DeviceValue → DeviceValue → Type 0)
        → P (device_at (numbers_in meaning reuse_max old) old.cells tallies.first tallies.second tallies.declined old.moved false)
        (device_at (numbers_in meaning reuse_max old) (with_book mid.cells book) first second declined moved stopped)
        → P (device_of meaning before) (device_of meaning (parts_of new reuse_max tallies'))
    over P law = as_device call.run meaning (λ (a : DeviceValue). P a (device_of meaning (parts_of new reuse_max tallies')))
        (subst (P (device_at (numbers_in meaning reuse_max old) old.cells tallies.first tallies.second tallies.declined old.moved false)) device_new law)

-- ---- write

-- the tallies count a write that was placed so
pub record Counted (placed : Placed) (tallies tallies' : Tallies) : Type 0 where
  pub first : tallies'.first ≡ count_sum tallies.first (firsts placed)
  pub second : tallies'.second ≡ count_sum tallies.second (seconds placed)
  pub declined : tallies'.declined ≡ count_sum tallies.declined (declines placed)

-- a write that was not refused, and how its put ended
pub record Writing {C : Type 0} (meaning : C → Meaning) (before : Parts C) (reuse_max : ℕ) (tallies : Tallies) (old mid new : Held C) (sector : ℕ) (bytes : List ℕ)
    (ended : Result Placed PutFault) : Type 0 where
  pub call : Called meaning before reuse_max tallies old mid new
  pub fresh : old.cells.seq < 2 ^ 62
  pub few_moved : old.moved < 2 ^ 64
  pub few_first : tallies.first < 2 ^ 64
  pub few_second : tallies.second < 2 ^ 64
  pub few_declined : tallies.declined < 2 ^ 64
  pub ends : PlaceEnds old.geometry (meaning old.scheme).decoding sector bytes ended old.cells mid.cells old.moved mid.moved
  pub stopped : mid.stopped ≡ stops ended

module _ {C : Type 0} {meaning : C → Meaning} {before : Parts C} {reuse_max : ℕ} {tallies : Tallies} {old mid new : Held C} {sector : ℕ} {bytes : List ℕ} {ended : Result Placed PutFault}
    (w : Writing meaning before reuse_max tallies old mid new sector bytes ended) where
  few_counts : FewCounts tallies.first tallies.second tallies.declined old.moved
  few_counts = record { few_first = w.few_first; few_second = w.few_second; few_declined = w.few_declined; few_moved = w.few_moved }

  pub wrote_so : {placed : Placed} {tallies' : Tallies} → ended ≡ Ok placed → Counted placed tallies tallies'
      → Wrote (device_of meaning before).numbers sector bytes placed (device_of meaning before) (device_of meaning (parts_of new reuse_max tallies'))
  wrote_so {placed = placed} {tallies' = tallies'} is counted =
      let running : mid.stopped ≡ false = w.stopped ∙ ap stops is in
      let ends = subst (λ (result : Result Placed PutFault). PlaceEnds old.geometry (meaning old.scheme).decoding sector bytes result old.cells mid.cells old.moved mid.moved) is w.ends in
      over w.call tallies' counted.first counted.second counted.declined refl running refl (λ (a b : DeviceValue). Wrote a.numbers sector bytes placed a b)
      (written (numbers_in meaning reuse_max old) sector bytes old.cells mid.cells tallies.first tallies.second tallies.declined old.moved mid.moved few_counts w.fresh
      (tables_before w.call.run) w.call.keeps.holds new.cells.book (w.call.recycles running) placed ends)

  pub write_failed : (fault : PutFault) → ended ≡ Err fault → WriteFault (device_of meaning before).numbers sector bytes (device_of meaning before) (device_of meaning (parts_of new reuse_max tallies))
  write_failed Read is =
      let running : mid.stopped ≡ false = w.stopped ∙ ap stops is in
      let ends = subst (λ (result : Result Placed PutFault). PlaceEnds old.geometry (meaning old.scheme).decoding sector bytes result old.cells mid.cells old.moved mid.moved) is w.ends in
      over w.call tallies refl refl refl refl running refl (λ (a b : DeviceValue). WriteFault a.numbers sector bytes a b)
      (unread (numbers_in meaning reuse_max old) sector bytes old.cells mid.cells tallies.first tallies.second tallies.declined old.moved mid.moved few_counts w.fresh
      (tables_before w.call.run) w.call.keeps.holds new.cells.book (w.call.recycles running) ends)
  write_failed Change is =
      let halted : mid.stopped ≡ true = w.stopped ∙ ap stops is in
      let ends = subst (λ (result : Result Placed PutFault). PlaceEnds old.geometry (meaning old.scheme).decoding sector bytes result old.cells mid.cells old.moved mid.moved) is w.ends in
      over w.call tallies refl refl refl refl halted (halted_book w.call halted) (λ (a b : DeviceValue). WriteFault a.numbers sector bytes a b)
      (unchanged (numbers_in meaning reuse_max old) sector bytes old.cells mid.cells tallies.first tallies.second tallies.declined old.moved mid.moved few_counts w.fresh
      (tables_before w.call.run) w.call.keeps.holds ends)

-- ---- trim

-- a trim that was not refused, of a sector that holds bytes, and how its put ended
pub record Trimming {C : Type 0} (meaning : C → Meaning) (before : Parts C) (reuse_max : ℕ) (tallies : Tallies) (old mid new : Held C) (sector : ℕ) (ended : Result (Unit {0}) PutFault) : Type 0 where
  pub call : Called meaning before reuse_max tallies old mid new
  pub fresh : old.cells.seq < 2 ^ 62
  pub few_moved : old.moved < 2 ^ 64
  pub within : sector < old.geometry.sectors
  pub held : is_held (entry_at old.cells.table sector) ≡ true
  pub ends : ClearEnds old.geometry (meaning old.scheme).decoding sector ended old.cells mid.cells old.moved mid.moved
  pub stopped : mid.stopped ≡ stops ended

module _ {C : Type 0} {meaning : C → Meaning} {before : Parts C} {reuse_max : ℕ} {tallies : Tallies} {old mid new : Held C} {sector : ℕ} {ended : Result (Unit {0}) PutFault}
    (t : Trimming meaning before reuse_max tallies old mid new sector ended) where
  some_bytes : holds_bytes (live_record old.geometry old.cells.die.cells sector) ≡ true
  some_bytes = told_is old.geometry old.cells sector (tables_before t.call.run) t.within ∙ t.held

  pub trimmed_so : {done : Unit {0}} → ended ≡ Ok done → Trimmed (device_of meaning before).numbers sector (device_of meaning before) (device_of meaning (parts_of new reuse_max tallies))
  trimmed_so is =
      let running : mid.stopped ≡ false = t.stopped ∙ ap stops is in
      let ends = subst (λ (result : Result (Unit {0}) PutFault). ClearEnds old.geometry (meaning old.scheme).decoding sector result old.cells mid.cells old.moved mid.moved) is t.ends in
      over t.call tallies refl refl refl refl running refl (λ (a b : DeviceValue). Trimmed a.numbers sector a b)
      (trimmed (numbers_in meaning reuse_max old) sector old.cells tallies.first tallies.second tallies.declined old.moved t.fresh mid.cells t.call.keeps.holds some_bytes mid.moved
      new.cells.book ends (t.call.recycles running))

  pub trim_failed : (fault : PutFault) → ended ≡ Err fault → TrimFault (device_of meaning before).numbers sector (device_of meaning before) (device_of meaning (parts_of new reuse_max tallies))
  trim_failed Read is =
      let running : mid.stopped ≡ false = t.stopped ∙ ap stops is in
      let ends = subst (λ (result : Result (Unit {0}) PutFault). ClearEnds old.geometry (meaning old.scheme).decoding sector result old.cells mid.cells old.moved mid.moved) is t.ends in
      over t.call tallies refl refl refl refl running refl (λ (a b : DeviceValue). TrimFault a.numbers sector a b)
      (trim_unread (numbers_in meaning reuse_max old) sector old.cells tallies.first tallies.second tallies.declined old.moved t.fresh mid.cells t.call.keeps.holds some_bytes mid.moved
      new.cells.book t.few_moved ends (t.call.recycles running))
  trim_failed Change is =
      let halted : mid.stopped ≡ true = t.stopped ∙ ap stops is in
      let ends = subst (λ (result : Result (Unit {0}) PutFault). ClearEnds old.geometry (meaning old.scheme).decoding sector result old.cells mid.cells old.moved mid.moved) is t.ends in
      over t.call tallies refl refl refl refl halted (halted_book t.call halted) (λ (a b : DeviceValue). TrimFault a.numbers sector a b)
      (trim_unchanged (numbers_in meaning reuse_max old) sector old.cells tallies.first tallies.second tallies.declined old.moved t.fresh mid.cells t.call.keeps.holds some_bytes mid.moved
      t.few_moved ends)

-- of a sector that holds no bytes nothing is changed
pub nothing_trimmed : {C : Type 0} {before : Parts C} {reuse_max sector : ℕ} {tallies : Tallies} {old : Held C} (meaning : C → Meaning)
    → Running before reuse_max tallies old → old.cells.seq < 2 ^ 62 → old.moved < 2 ^ 64 → sector < old.geometry.sectors
    → is_held (entry_at old.cells.table sector) ≡ false → Trimmed (device_of meaning before).numbers sector (device_of meaning before) (device_of meaning before)
nothing_trimmed {reuse_max = reuse_max} {sector = sector} {tallies = tallies} {old = old} meaning run fresh few within none = as_device run meaning (λ (a : DeviceValue). Trimmed a.numbers sector a a)
    (trimmed_nothing (numbers_in meaning reuse_max old) sector old.cells tallies.first tallies.second tallies.declined old.moved fresh few within
    (told_is old.geometry old.cells sector (tables_before run) within ∙ none))

-- ---- idle

-- the moves of an idle call, and how they ended
pub record Idling {C : Type 0} (meaning : C → Meaning) (before : Parts C) (reuse_max : ℕ) (tallies : Tallies) (old mid new : Held C) (n count : ℕ) (fault : Option PutFault) : Type 0 where
  pub call : Called meaning before reuse_max tallies old mid new
  pub ends : MovesEnd old.geometry (meaning old.scheme).decoding n count fault old.cells mid.cells
  pub tally : mid.moved ≡ count_sum old.moved count
  pub stopped : mid.stopped ≡ stopped_by fault

module _ {C : Type 0} {meaning : C → Meaning} {before : Parts C} {reuse_max : ℕ} {tallies : Tallies} {old mid new : Held C} {n count : ℕ} {fault : Option PutFault}
    (m : Idling meaning before reuse_max tallies old mid new n count fault) where
  moves_end : {end : Option PutFault} → fault ≡ end → MovesEnd old.geometry (meaning old.scheme).decoding n count end old.cells mid.cells
  moves_end is = subst (λ (end : Option PutFault). MovesEnd old.geometry (meaning old.scheme).decoding n count end old.cells mid.cells) is m.ends

  pub idled_so : fault ≡ None → Idled (device_of meaning before).numbers n count (device_of meaning before) (device_of meaning (parts_of new reuse_max tallies))
  idled_so is =
      let running : mid.stopped ≡ false = m.stopped ∙ ap stopped_by is in
      over m.call tallies refl refl refl m.tally running refl (λ (a b : DeviceValue). Idled a.numbers n count a b)
      (idled (numbers_in meaning reuse_max old) n count old.cells mid.cells new.cells.book tallies.first tallies.second tallies.declined old.moved false
      (tables_before m.call.run) (moves_end is) (m.call.recycles running))

  pub idle_failed : (why : PutFault) → fault ≡ Some why → IdleFault (device_of meaning before).numbers n (device_of meaning before) (device_of meaning (parts_of new reuse_max tallies))
  idle_failed Read is =
      let running : mid.stopped ≡ false = m.stopped ∙ ap stopped_by is in
      over m.call tallies refl refl refl m.tally running refl (λ (a b : DeviceValue). IdleFault a.numbers n a b)
      (idle_read_failed (numbers_in meaning reuse_max old) n count old.cells mid.cells new.cells.book tallies.first tallies.second tallies.declined old.moved false
      (tables_before m.call.run) (moves_end is) (m.call.recycles running))
  idle_failed Change is =
      let halted : mid.stopped ≡ true = m.stopped ∙ ap stopped_by is in
      over m.call tallies refl refl refl m.tally halted (halted_book m.call halted) (λ (a b : DeviceValue). IdleFault a.numbers n a b)
      (idle_change_failed (numbers_in meaning reuse_max old) n count old.cells mid.cells tallies.first tallies.second tallies.declined old.moved false (tables_before m.call.run) (moves_end is))
