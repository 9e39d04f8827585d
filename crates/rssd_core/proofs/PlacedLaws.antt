-- How the put of a write ends is what the contract says of the whole write.
use Rattle.std.proofs.Common.{◌≡◌, inl, inr, ℕ, ◌^◌, ◌<◌, Bool, true, false, List, Ok, Err, refl, sym, ◌∙◌, subst, arith}
use Rattle.std.proofs.lemmas.Option.{none-some}
use Rattle.cell_die.specs.Counts.{count_sum}
use Rattle.block_state.specs.Book.{BookValue}
use Rattle.reuse_pool.specs.Recycling.{Recycles}
use Rattle.page_codec.specs.declared.fault.PutFault.{PutFault}
use Rattle.page_codec.specs.declared.fault.PutFault.TheVariants as faults
use Rattle.collector.specs.Store.{Store, IsTrueStore}
use Rattle.collector.specs.Store as stores
use Rattle.rssd_core.specs.declared.device.Placed.{Placed}
use Rattle.rssd_core.specs.declared.device.Placed.TheVariants.{First, Second, Declined}
use Rattle.rssd_core.specs.DeviceValue.{Numbers}
use Rattle.rssd_core.specs.Outcomes.{Wrote, WriteFault, firsts, seconds, declines}
use Rattle.striped.specs.Meaning.{Decoding}
use Rattle.page_codec.specs.Geometry.{Geometry}
use Rattle.reuse_pool.specs.declared.unit.ReuseUnit.{ReuseUnit}
use Rattle.reuse_pool.specs.Offer.{IsOffer}
use Rattle.rssd_core.specs.Steps.{OverEnds, OverDeclined}
use Rattle.rssd_core.specs.Placing.{header_at, CleanEnds, PlaceEnds, NotOffered, Turned, Carried}
use Rattle.rssd_core.proofs.Declining.{declines_not, offer_declines, offer_reads_are, declined_opened, declined_read_failed, declined_change_failed, over_read_failed, over_change_failed}
use Rattle.rssd_core.proofs.FirstFailed.{put_failed, open_failed, open_read_failed}
use Rattle.rssd_core.proofs.Rules.{no_offer_is}
use Rattle.rssd_core.proofs.WroteFirst.{view_at, wrote_first, wrote_declined}
use Rattle.rssd_core.proofs.WroteSecond.{wrote_second}

-- the tallies before a write
pub record FewCounts (first second declined moved : ℕ) : Type 0 where
  pub few_first : first < 2 ^ 64
  pub few_second : second < 2 ^ 64
  pub few_declined : declined < 2 ^ 64
  pub few_moved : moved < 2 ^ 64

abbrev pub Writes : Numbers → ℕ → List ℕ → Placed → Store → Store → BookValue → ℕ → ℕ → ℕ → ℕ → ℕ → Type 0
Writes d sector bytes placed old new book first second declined moved moved' = Wrote d sector bytes placed
    (record { numbers = d; view = view_at old first second declined moved; stopped = false })
    (record {
      numbers = d;
      view = view_at (record new { book = book }) (count_sum first (firsts placed)) (count_sum second (seconds placed)) (count_sum declined (declines placed)) moved';
      stopped = false;
    })

abbrev pub Faults : Numbers → ℕ → List ℕ → Store → Store → BookValue → Bool → ℕ → ℕ → ℕ → ℕ → ℕ → Type 0
Faults d sector bytes old new book stopped first second declined moved moved' = WriteFault d sector bytes
    (record { numbers = d; view = view_at old first second declined moved; stopped = false })
    (record { numbers = d; view = view_at (record new { book = book }) first second declined moved'; stopped = stopped })

module _ (d : Numbers) (sector : ℕ) (bytes : List ℕ) (old new : Store) (first second declined moved moved' : ℕ) (few : FewCounts first second declined moved) (fresh : old.seq < 2 ^ 62)
    (t : IsTrueStore d.geometry old) (holds : stores.Holds d.geometry old new) where
  none_first : (n : ℕ) → n < 2 ^ 64 → count_sum n 0 ≡ n
  none_first n small = omega arith

  module _ (book : BookValue) (recycles : Recycles d.reuse_max new.book book) where
    first_written : NotOffered d.geometry d.meaning.decoding sector bytes (Ok tt) old new moved moved' → Writes d sector bytes First old new book first second declined moved moved'
    first_written p = subst (λ (m : ℕ). Writes d sector bytes First old new book first second declined moved m) (sym p.ends.tally)
        (subst (λ (s : ℕ). Wrote d sector bytes First (record { numbers = d; view = view_at old first second declined moved; stopped = false })
        (record { numbers = d; view = view_at (record new { book = book }) (count_sum first 1) s (count_sum declined 0) (count_sum moved p.ends.rise); stopped = false }))
        (sym (none_first second few.few_second))
        (subst (λ (c : ℕ). Wrote d sector bytes First (record { numbers = d; view = view_at old first second declined moved; stopped = false })
        (record { numbers = d; view = view_at (record new { book = book }) (count_sum first 1) second c (count_sum moved p.ends.rise); stopped = false })) (sym (none_first declined few.few_declined))
        (wrote_first d sector p.ends.page p.ends.rise bytes old p.ends.mid new book first second declined moved fresh few.few_second few.few_declined
        (no_offer_is old.book p.none) holds p.ends.opened p.ends.put recycles)))

    second_written : Carried d.geometry d.meaning.decoding sector bytes old new moved moved' → Writes d sector bytes Second old new book first second declined moved moved'
    second_written p = subst (λ (m : ℕ). Writes d sector bytes Second old new book first second declined moved m) (sym p.tally)
        (subst (λ (s : ℕ). Wrote d sector bytes Second (record { numbers = d; view = view_at old first second declined moved; stopped = false })
        (record { numbers = d; view = view_at (record new { book = book }) s (count_sum second 1) (count_sum declined 0) moved; stopped = false })) (sym (none_first first few.few_first))
        (subst (λ (c : ℕ). Wrote d sector bytes Second (record { numbers = d; view = view_at old first second declined moved; stopped = false })
        (record { numbers = d; view = view_at (record new { book = book }) first (count_sum second 1) c moved; stopped = false })) (sym (none_first declined few.few_declined))
        (wrote_second d sector p.unit bytes old new book first second declined moved fresh few.few_first few.few_second few.few_declined few.few_moved p.offer holds p.put recycles)))

    declined_written : Turned d.geometry d.meaning.decoding sector bytes (Ok tt) old new moved moved' → Writes d sector bytes Declined old new book first second declined moved moved'
    declined_written p = subst (λ (m : ℕ). Writes d sector bytes Declined old new book first second declined moved m) (sym p.ends.tally)
        (subst (λ (f : ℕ). Wrote d sector bytes Declined (record { numbers = d; view = view_at old first second declined moved; stopped = false })
        (record { numbers = d; view = view_at (record new { book = book }) f (count_sum second 0) (count_sum declined 1) (count_sum moved p.ends.rise); stopped = false }))
        (sym (none_first first few.few_first))
        (subst (λ (s : ℕ). Wrote d sector bytes Declined (record { numbers = d; view = view_at old first second declined moved; stopped = false })
        (record { numbers = d; view = view_at (record new { book = book }) first s (count_sum declined 1) (count_sum moved p.ends.rise); stopped = false })) (sym (none_first second few.few_second))
        (wrote_declined d sector p.ends.page p.ends.rise bytes old p.ends.mid new book first second declined moved fresh few.few_first few.few_second
        (offer_declines d p.unit bytes old p.start first second declined moved p.offer p.declined) holds
        (declined_opened d p.unit bytes old p.start p.offer p.declined p.ends.page p.ends.rise p.ends.mid p.ends.opened) p.ends.put recycles)))

    -- however it was placed
    pub written : (placed : Placed) → PlaceEnds d.geometry d.meaning.decoding sector bytes (Ok placed) old new moved moved'
        → Writes d sector bytes placed old new book first second declined moved moved'
    written First p = first_written p
    written Second p = second_written p
    written Declined p = declined_written p

    -- a read failed
    pub unread : PlaceEnds d.geometry d.meaning.decoding sector bytes (Err (faults.Read)) old new moved moved' → Faults d sector bytes old new book false first second declined moved moved'
    unread (inl p) = subst (λ (m : ℕ). Faults d sector bytes old new book false first second declined moved m) (sym p.ends.1)
        (open_read_failed d sector 0 0 bytes old new book first second declined moved fresh few.few_moved (λ carries. none-some carries.0 (sym (no_offer_is old.book p.none) ∙ carries.1))
        (omega arith) (omega arith) holds p.ends.0 recycles)
    unread (inr (inl p)) = subst (λ (m : ℕ). Faults d sector bytes old new book false first second declined moved m) (sym p.ends.1)
        (open_read_failed d sector 1 d.geometry.span bytes old new book first second declined moved fresh few.few_moved
        (declines_not d p.unit bytes old p.start first second declined moved p.offer p.declined) (omega arith)
        (offer_reads_are d p.unit old p.offer) holds (declined_read_failed d p.unit bytes old p.start p.offer p.declined new p.ends.0) recycles)
    unread (inr (inr p)) = subst (λ (m : ℕ). Faults d sector bytes old new book false first second declined moved m) (sym p.tally)
        (over_read_failed d sector p.unit bytes old new book first second declined moved fresh few.few_moved p.offer holds p.put recycles)

  -- a change call failed
  pub unchanged : PlaceEnds d.geometry d.meaning.decoding sector bytes (Err (faults.Change)) old new moved moved' → Faults d sector bytes old new new.book true first second declined moved moved'
  unchanged (inl p) = elim p.ends [
    | inl failed ↦ subst (λ (m : ℕ). Faults d sector bytes old new new.book true first second declined moved m) (sym failed.1)
        (open_failed d sector 0 0 bytes old new first second declined moved fresh few.few_moved (λ carries. none-some carries.0 (sym (no_offer_is old.book p.none) ∙ carries.1)) (omega arith)
        (omega arith) holds failed.0)
    | inr failed ↦ subst (λ (m : ℕ). Faults d sector bytes old new new.book true first second declined moved m) (sym failed.tally)
        (put_failed d sector failed.page failed.rise 1 0 0 bytes old failed.mid new first second declined moved fresh
        (λ carries. none-some carries.0 (sym (no_offer_is old.book p.none) ∙ carries.1)) (omega arith) (omega arith) holds failed.opened failed.put)
  ]
  unchanged (inr (inl p)) = elim p.ends [
    | inl failed ↦ subst (λ (m : ℕ). Faults d sector bytes old new new.book true first second declined moved m) (sym failed.1)
        (open_failed d sector 1 d.geometry.span bytes old new first second declined moved fresh few.few_moved
        (declines_not d p.unit bytes old p.start first second declined moved p.offer p.declined) (omega arith)
        (offer_reads_are d p.unit old p.offer) holds (declined_change_failed d p.unit bytes old p.start p.offer p.declined new failed.0))
    | inr failed ↦ subst (λ (m : ℕ). Faults d sector bytes old new new.book true first second declined moved m) (sym failed.tally)
        (put_failed d sector failed.page failed.rise 1 1 d.geometry.span bytes old failed.mid new first second declined moved fresh
        (declines_not d p.unit bytes old p.start first second declined moved p.offer p.declined) (omega arith)
        (offer_reads_are d p.unit old p.offer) holds (declined_opened d p.unit bytes old p.start p.offer p.declined failed.page failed.rise failed.mid failed.opened) failed.put)
  ]
  unchanged (inr (inr p)) = subst (λ (m : ℕ). Faults d sector bytes old new new.book true first second declined moved m) (sym p.tally)
      (over_change_failed d sector p.unit bytes old new first second declined moved fresh few.few_moved p.offer holds p.put)

-- ---- from the calls that were made

pub over_faults : (g : Geometry) (d : Decoding) (sector : ℕ) (bytes : List ℕ) (unit : ReuseUnit) (fault : PutFault) (old new : Store) (moved : ℕ) → IsOffer old.book unit
    → OverEnds g d unit (header_at sector old.seq) bytes (Err fault) old new
    → PlaceEnds g d sector bytes (Err fault) old new moved moved
over_faults g d sector bytes unit (faults.Read) old new moved offer ends = inr (inr (record { unit = unit; offer = offer; put = ends; tally = refl }))
over_faults g d sector bytes unit (faults.Change) old new moved offer ends = inr (inr (record { unit = unit; offer = offer; put = ends; tally = refl }))

pub turned_faults : (g : Geometry) (d : Decoding) (sector : ℕ) (bytes : List ℕ) (unit : ReuseUnit) (fault : PutFault) (old start new : Store) (moved moved' : ℕ) → IsOffer old.book unit
    → OverDeclined g d unit bytes old start
    → CleanEnds g d sector bytes (Err fault) start new moved moved' → PlaceEnds g d sector bytes (Err fault) old new moved moved'
turned_faults g d sector bytes unit (faults.Read) old start new moved moved' offer declined ends = inr (inl (record { unit = unit; offer = offer; start = start; declined = declined; ends = ends }))
turned_faults g d sector bytes unit (faults.Change) old start new moved moved' offer declined ends = inr (inl (record { unit = unit; offer = offer; start = start; declined = declined; ends = ends }))
