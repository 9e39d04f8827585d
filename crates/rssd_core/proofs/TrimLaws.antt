-- A trim, from its steps to the contract: a page was got, zeros put on it, and blocks recycled. Where a sector holds no bytes
-- nothing changes.
use Rattle.std.proofs.Common.{◌≡◌, ◌≢◌, ◌⊎◌, inl, inr, ℕ, ◌+◌, ◌^◌, ◌<◌, ◌≤◌, Bool, true, false, List, [], ◌∷◌, ◌++◌, length, nat_lt, not, if◌then◌else◌, Option, Some, None, Err, refl, sym, ap}
use Rattle.std.proofs.Common.{◌∙◌, subst, arith, get_or-set_same, get_or-set_other, length-set}
use Rattle.std.specs.Prelude.{slice_set, slice_index_or}
use Rattle.std.proofs.lemmas.Bool.{lt-ltb, cases_eq, false≢true}
use Rattle.std.proofs.lemmas.Bool.Decides.{nat_tests}
use Rattle.std.proofs.lemmas.List.{same_lists, get_or_default}
use Rattle.cell_die.specs.Counts.{count_sum}
use Rattle.cell_die.proofs.Sequences.{passed_none}
use Rattle.striped.specs.Meaning.{Decoding}
use Rattle.sector_map.specs.declared.entry.Entry.{Entry}
use Rattle.sector_map.specs.Entry.{entry_at}
use Rattle.block_state.specs.Book.{BookValue, live_at}
use Rattle.page_alloc.specs.declared.next_page.NextPage.{NextPage}
use Rattle.reuse_pool.specs.Recycling.{Recycles}
use Rattle.page_codec.specs.Geometry.{Geometry}
use Rattle.page_codec.specs.Records as records
use Rattle.page_codec.specs.Records.{live_record}
use Rattle.page_codec.specs.Sectors.{says_zeros, said_by, zero_sector, stored}
use Rattle.page_codec.specs.TrueBook.{entry_of}
use Rattle.page_codec.specs.declared.fault.PutFault.TheVariants as faults
use Rattle.collector.specs.Store.{Store, store, IsTrueStore}
use Rattle.collector.specs.Store as stores
use Rattle.collector.proofs.Rows.{row_of, rows_long}
use Rattle.rssd_core.specs.Rules.{next_page}
use Rattle.rssd_core.specs.BookChanges.{Offers, Leads, is_pass}
use Rattle.rssd_core.specs.Calls.{calls_before, clean_calls, collection_calls, collection_reads}
use Rattle.rssd_core.specs.Erases.{erase_due}
use Rattle.rssd_core.proofs.ErasesLaws.{erased_then}
use Rattle.rssd_core.specs.Clearing.{is_held, zeros_header, ClearEnds, Cleared}
use Rattle.rssd_core.specs.DeviceValue.{Numbers}
use Rattle.rssd_core.specs.Failures.{cut_of}
use Rattle.rssd_core.specs.Outcomes.{Trimmed, TrimFault}
use Rattle.rssd_core.specs.Steps.{Opened, OpenReadFailed, OpenChangeFailed, PutNext, PutNextFailed}
use Rattle.rssd_core.specs.Within.{Went, IsCollect, holds_bytes, trim_calls, trim_reads}
use Rattle.rssd_core.proofs.Chained.{change_failed_then, cut_later, cut_within, no_cut_came, read_failed_no_cut, leads_append, leads_one, leads_none, went_passed, count_by-append}
use Rattle.rssd_core.proofs.RecordLaws.{entry_is}
use Rattle.rssd_core.proofs.WroteFirst.{view_at, moves_seq, once_append, sealed_offers, wrote_clean}

-- ---- whether the sector holds bytes

held_is : (o : Option records.Placed) → is_held (entry_of o) ≡ holds_bytes o
held_is None = refl
held_is (Some placed) = at (says_zeros placed.header) refl
  where
    at : (t : Bool) → says_zeros placed.header ≡ t → is_held (entry_of (Some placed)) ≡ holds_bytes (Some placed)
    at true zeros = rw zeros refl
    at false bytes = rw bytes refl

held_record : (g : Geometry) (s : Store) (sector : ℕ) → IsTrueStore g s → sector < g.sectors → is_held (entry_at s.table sector) ≡ holds_bytes (live_record g s.die.cells sector)
held_record g s sector t within =
    ap (λ (table : List (Option Entry)). is_held (entry_at table sector)) t.entries
    ∙ (ap is_held (entry_is g s.die.cells sector within) ∙ held_is (live_record g s.die.cells sector))

-- whether the map's entry holds bytes tells whether the live record does
pub told_is : (g : Geometry) (s : Store) (sector : ℕ) → IsTrueStore g s → sector < g.sectors → holds_bytes (live_record g s.die.cells sector) ≡ is_held (entry_at s.table sector)
told_is g s sector t within = sym (held_record g s sector t within)

-- a sector without bytes is zeros
said_zeros : (g : Geometry) (d : Decoding) (cells : List (List ℕ)) (o : Option records.Placed) → holds_bytes o ≡ false → said_by g d cells o ≡ zero_sector g
said_zeros g d cells None none = refl
said_zeros g d cells (Some placed) none = at (says_zeros placed.header) refl
  where
    at : (t : Bool) → says_zeros placed.header ≡ t → said_by g d cells (Some placed) ≡ zero_sector g
    at true zeros = rw zeros refl
    at false bytes = absurd (false≢true (sym none ∙ ap not bytes))

-- a row that is set to what it is
set_same : (rows : List (List ℕ)) (sector : ℕ) (row : List ℕ) → sector < length rows → slice_index_or rows sector [] ≡ row → rows ≡ slice_set rows sector row
set_same rows sector row within is = same_lists rows (slice_set rows sector row) (sym (length-set rows sector row))
    (λ k e in_rows. get_or_default rows k e [] in_rows ∙ (at k (cases_eq k sector) ∙ sym (get_or_default (slice_set rows sector row) k e [] (omega (arith, in_rows, length-set rows sector row)))))
  where
    at : (k : ℕ) → (k ≡ sector) ⊎ (k ≢ sector) → slice_index_or rows k [] ≡ slice_index_or (slice_set rows sector row) k []
    at k (inl same) =
        ap (λ (n : ℕ). slice_index_or rows n []) same ∙ (is ∙ (sym (get_or-set_same rows sector row [] within) ∙ ap (λ (n : ℕ). slice_index_or (slice_set rows sector row) n []) (sym same)))
    at k (inr other) = sym (get_or-set_other rows sector k row [] other)

-- ---- the device before and after

abbrev pub Trims : Numbers → ℕ → Store → Store → BookValue → ℕ → ℕ → ℕ → ℕ → ℕ → Type 0
Trims d sector old new book first second declined moved moved' = Trimmed d sector
    (record { numbers = d; view = view_at old first second declined moved; stopped = false })
    (record { numbers = d; view = view_at (record new { book = book }) first second declined moved'; stopped = false })

abbrev pub TrimFaults : Numbers → ℕ → Store → Store → BookValue → Bool → ℕ → ℕ → ℕ → ℕ → ℕ → Type 0
TrimFaults d sector old new book stopped first second declined moved moved' = TrimFault d sector
    (record { numbers = d; view = view_at old first second declined moved; stopped = false })
    (record { numbers = d; view = view_at (record new { book = book }) first second declined moved'; stopped = stopped })

module _ (d : Numbers) (sector : ℕ) (old : Store) (first second declined moved : ℕ) (fresh : old.seq < 2 ^ 62) where
  -- ---- nothing is put

  pub trimmed_nothing : moved < 2 ^ 64 → sector < d.geometry.sectors → holds_bytes (live_record d.geometry old.die.cells sector) ≡ false
      → Trims d sector old old old.book first second declined moved moved
  trimmed_nothing few within none = record {
    fresh = fresh;
    rows = set_same (stored d.geometry d.meaning.decoding old.die.cells) sector (zero_sector d.geometry) (omega (arith, within, rows_long d.geometry d.meaning.decoding old.die.cells))
        (row_of d.geometry d.meaning.decoding old.die.cells sector within ∙ said_zeros d.geometry d.meaning.decoding old.die.cells (live_record d.geometry old.die.cells sector) none);
    leaves = rw none refl;
    calls = rw none (went_passed 0 0 (IsCollect (next_page old.book)) old.die old.die (passed_none old.die));
    book = record {
      changes = [];
      leads = leads_none d.reuse_max old.book;
      may = (refl, record { takes = omega arith; wipes = omega arith; erases = omega arith; copies = omega arith; seals = omega arith }, inr refl);
      rise = 0;
      rises = refl;
      tally = omega arith;
      at_cut = λ power came. absurd (omega (arith, came.0, came.1));
    };
    seq = record { not_less = omega arith; few = omega arith; headers = λ why place h e. inl e };
    counts = record { first = refl; second = refl; declined = refl };
    running = refl;
  }

  -- ---- zeros are put

  module _ (new : Store) (holds : stores.Holds d.geometry old new) (held : holds_bytes (live_record d.geometry old.die.cells sector) ≡ true) where
    calls_are : trim_calls d (view_at old first second declined moved) sector ≡ clean_calls old.book
    calls_are = rw held refl

    reads_are : trim_reads d (view_at old first second declined moved) sector ≡ collection_reads d.geometry old.die.cells (next_page old.book)
    reads_are = rw held refl

    trimmed_one : (page rise : ℕ) (mid : Store) (book : BookValue) → Opened d.geometry d.meaning.decoding page rise old mid
        → PutNext d.geometry d.meaning.decoding page (zeros_header sector mid.seq) (zero_sector d.geometry) mid new
        → Recycles d.reuse_max new.book book → Trims d sector old new book first second declined moved (count_sum moved rise)
    trimmed_one page rise mid book o p recycles =
        let w = wrote_clean d sector page rise 3 0 0 (zero_sector d.geometry) old mid new book first second declined moved first second declined holds o p recycles in
        record {
          fresh = fresh;
          rows = w.rows;
          leaves = rw held (w.page, w.gets);
          calls =
              rw held (subst (λ (n : ℕ). Went (clean_calls old.book) n (IsCollect (next_page old.book)) old.die new.die)
              (none_plus (collection_reads d.geometry old.die.cells (next_page old.book))) w.calls);
          book = record {
            changes = w.book.changes;
            leads = w.book.leads;
            may = (w.book.may.0, w.book.may.1, inl w.book.may.2);
            rise = w.book.rise;
            rises = w.book.rises;
            tally = w.book.tally;
            at_cut = λ power came. absurd (no_cut_came (clean_calls old.book) (0 + collection_reads d.geometry old.die.cells (next_page old.book)) old.die new.die w.calls.within power came);
          };
          seq = w.seq;
          counts = record { first = refl; second = refl; declined = refl };
          running = refl;
        }
      where
        none_plus : (n : ℕ) → 0 + n ≡ n
        none_plus n = omega arith

    -- The put failed on the page that was got.
    put_failed : (page rise : ℕ) (mid : Store) → Opened d.geometry d.meaning.decoding page rise old mid
        → PutNextFailed d.geometry d.meaning.decoding (zeros_header sector mid.seq) (zero_sector d.geometry) mid new
        → TrimFaults d sector old new new.book true first second declined moved (count_sum moved rise)
    put_failed page rise mid o f = record {
      fresh = fresh;
      fault = inr (record {
        changes = calls_before old.book (next_page old.book) + 2;
        reads = 0 + collection_reads d.geometry old.die.cells (next_page old.book) + 0;
        within = record { changes_at_most = omega (arith, calls_are); reads_at_most = omega (arith, reads_are) };
        failed =
            change_failed_then (calls_before old.book (next_page old.book)) (0 + collection_reads d.geometry old.die.cells (next_page old.book)) 2 0 old.die mid.die new.die o.calls.within f.failed;
        rows = λ sound. elim f.rows [ inl same ↦ inl (same ∙ o.rows) | inr done ↦ inr (done ∙ ap (λ (rows : List (List ℕ)). slice_set rows sector (zero_sector d.geometry)) o.rows) ];
        stopped = refl;
      });
      erased = inl (erased_then (erase_due old.book (next_page old.book)) old.die mid.die new.die o.erased f.erases);
      book = record {
        changes = o.changes;
        leads = subst (λ (v : BookValue). Leads d.reuse_max old.book o.changes v) (sym (ap (λ (s : Store). s.book) f.same)) (o.leads d.reuse_max);
        may = (o.passed_so, o.once, o.none_offered);
        rise = rise;
        rises = o.rises;
        tally = refl;
        at_cut = λ power came victim spare is.
            o.collected victim spare is
            ∙ sym (ap (λ (t : Bool). if t then live_at old.book victim else 0) (lt-ltb (collection_calls old.book (next_page old.book)) (cut_of old.die)
            (subst (λ (n : NextPage). collection_calls old.book n < cut_of old.die) (sym is)
            (subst (λ (n : NextPage). calls_before old.book n < cut_of old.die) is
            (cut_later (calls_before old.book (next_page old.book))
            (0 + collection_reads d.geometry old.die.cells (next_page old.book)) 2 0 old.die mid.die new.die o.calls.within f.failed power came)))));
      };
      seq =
          moves_seq d old new (view_at old first second declined moved) (view_at new first second declined (count_sum moved rise)) refl refl refl refl holds
          (omega (arith, o.few, ap (λ (s : Store). s.seq) f.same));
      counts = record { first = refl; second = refl; declined = refl };
    }

    -- A change call failed before the page was got.
    open_failed : moved < 2 ^ 64 → OpenChangeFailed d.geometry d.meaning.decoding 0 0 old new → TrimFaults d sector old new new.book true first second declined moved moved
    open_failed few f = record {
      fresh = fresh;
      fault = inr (record {
        changes = calls_before old.book (next_page old.book);
        reads = 0 + collection_reads d.geometry old.die.cells (next_page old.book);
        within = record { changes_at_most = omega (arith, calls_are); reads_at_most = omega (arith, reads_are) };
        failed = f.failed;
        rows = λ sound. inl (f.rows sound);
        stopped = refl;
      });
      erased = f.erased;
      book = record {
        changes = f.changes;
        leads = f.leads d.reuse_max;
        may = (f.passed_so, f.once, f.none_offered);
        rise = 0;
        rises = sym f.none_sealed;
        tally = omega arith;
        at_cut = λ power came victim spare is.
            sym (ap (λ (t : Bool). if t then live_at old.book victim else 0) (not_below (collection_calls old.book (next_page old.book)) (cut_of old.die)
            (subst (λ (n : NextPage). cut_of old.die ≤ collection_calls old.book n) (sym is)
            (subst (λ (n : NextPage). cut_of old.die ≤ calls_before old.book n) is
            (cut_within (calls_before old.book (next_page old.book)) (0 + collection_reads d.geometry old.die.cells (next_page old.book)) old.die new.die f.failed power came)))));
      };
      seq = moves_seq d old new (view_at old first second declined moved) (view_at new first second declined moved) refl refl refl refl holds (omega (arith, f.few));
      counts = record { first = refl; second = refl; declined = refl };
    }
      where
        not_below : (a b : ℕ) → b ≤ a → nat_lt a b ≡ false
        not_below a b h = grind (arith, nat_tests)

    -- A read failed before the page was got: the device goes on.
    read_failed : (book : BookValue) → moved < 2 ^ 64 → OpenReadFailed d.geometry d.meaning.decoding 0 0 old new → Recycles d.reuse_max new.book book
        → TrimFaults d sector old new book false first second declined moved moved
    read_failed book few f recycles = record {
      fresh = fresh;
      fault = inl (record {
        changes = calls_before old.book (next_page old.book);
        reads = 0 + collection_reads d.geometry old.die.cells (next_page old.book);
        within = record { changes_at_most = omega (arith, calls_are); reads_at_most = omega (arith, reads_are) };
        failed = f.failed;
        rows = f.rows;
        running = refl;
      });
      erased = inl f.erased;
      book = record {
        changes = f.changes ++ (Offers ∷ []);
        leads = leads_append d.reuse_max old.book new.book book f.changes (Offers ∷ []) (f.leads d.reuse_max) (leads_one d.reuse_max new.book book Offers recycles);
        may = (
          omega (arith, count_by-append is_pass f.changes (Offers ∷ []), f.passed_so),
          once_append f.changes (Offers ∷ []) f.once (refl, refl, refl, refl, refl),
          record { before = f.changes; last = refl; none_before = f.none_offered },
        );
        rise = 0;
        rises = sym (sealed_offers old.book f.changes ∙ f.none_sealed);
        tally = omega arith;
        at_cut =
            λ power came. absurd (read_failed_no_cut (calls_before old.book (next_page old.book))
            (0 + collection_reads d.geometry old.die.cells (next_page old.book)) old.die new.die f.failed power came);
      };
      seq = moves_seq d old new (view_at old first second declined moved) (view_at (record new { book = book }) first second declined moved) refl refl refl refl holds (omega (arith, f.few));
      counts = record { first = refl; second = refl; declined = refl };
    }

    -- ---- however the put ended

    pub trimmed : (moved' : ℕ) (book : BookValue) → Cleared d.geometry d.meaning.decoding sector old new moved moved' → Recycles d.reuse_max new.book book
        → Trims d sector old new book first second declined moved moved'
    trimmed moved' book p recycles = subst (λ (m : ℕ). Trims d sector old new book first second declined moved m) (sym p.tally) (trimmed_one p.page p.rise p.mid book p.opened p.put recycles)

    pub trim_unread : (moved' : ℕ) (book : BookValue) → moved < 2 ^ 64 → ClearEnds d.geometry d.meaning.decoding sector (Err (faults.Read)) old new moved moved' → Recycles d.reuse_max new.book book
        → TrimFaults d sector old new book false first second declined moved moved'
    trim_unread moved' book few p recycles = subst (λ (m : ℕ). TrimFaults d sector old new book false first second declined moved m) (sym p.1) (read_failed book few p.0 recycles)

    pub trim_unchanged : (moved' : ℕ) → moved < 2 ^ 64 → ClearEnds d.geometry d.meaning.decoding sector (Err (faults.Change)) old new moved moved'
        → TrimFaults d sector old new new.book true first second declined moved moved'
    trim_unchanged moved' few (inl p) = subst (λ (m : ℕ). TrimFaults d sector old new new.book true first second declined moved m) (sym p.1) (open_failed few p.0)
    trim_unchanged moved' few (inr p) = subst (λ (m : ℕ). TrimFaults d sector old new new.book true first second declined moved m) (sym p.tally) (put_failed p.page p.rise p.mid p.opened p.put)
