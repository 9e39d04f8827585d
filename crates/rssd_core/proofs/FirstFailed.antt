-- A write to a clean page that failed, from its steps to the contract.
use Rattle.std.proofs.Common.{◌≡◌, inl, inr, ℕ, ◌+◌, ◌^◌, ◌<◌, ◌≤◌, Bool, true, false, List, [], ◌∷◌, ◌++◌, nat_lt, if◌then◌else◌, refl, sym, ap, ◌∙◌, subst, arith}
use Rattle.std.specs.Prelude.{slice_set}
use Rattle.std.proofs.lemmas.Bool.{lt-ltb}
use Rattle.std.proofs.lemmas.Bool.Decides.{nat_tests}
use Rattle.cell_die.specs.Counts.{count_sum}
use Rattle.block_state.specs.Book.{BookValue, live_at}
use Rattle.page_alloc.specs.declared.next_page.NextPage.{NextPage}
use Rattle.reuse_pool.specs.Recycling.{Recycles}
use Rattle.collector.specs.Store.{Store, store, IsTrueStore}
use Rattle.collector.specs.Store as stores
use Rattle.rssd_core.specs.Rules.{next_page, offer_of}
use Rattle.rssd_core.specs.BookChanges.{Offers, Leads, is_pass}
use Rattle.rssd_core.specs.Calls.{calls_before, collection_calls, collection_reads, offer_reads}
use Rattle.rssd_core.specs.Erases.{erase_due}
use Rattle.rssd_core.proofs.ErasesLaws.{erased_then, failed_within}
use Rattle.rssd_core.specs.DeviceValue.{Numbers}
use Rattle.rssd_core.specs.Failures.{cut_of}
use Rattle.rssd_core.specs.Outcomes.{WriteFault}
use Rattle.rssd_core.specs.Steps.{OpenedAfter, OpenReadFailed, OpenChangeFailed, PutNextFailed}
use Rattle.rssd_core.specs.Writes.{OfferCarries}
use Rattle.rssd_core.proofs.Chained.{change_failed_then, cut_later, cut_within, read_failed_no_cut, leads_append, leads_one, count_by-append}
use Rattle.rssd_core.proofs.WroteFirst.{view_at, moves_seq, once_append, sealed_offers}

-- The put failed on the page that was got.
pub put_failed : (d : Numbers) (sector page rise kind passed before : ℕ) (bytes : List ℕ) (old mid new : Store) (first second declined moved : ℕ)
    → old.seq < 2 ^ 62 → (OfferCarries d (view_at old first second declined moved) bytes → ⊥) → passed ≤ 1 → before ≤ offer_reads d.geometry (offer_of old.book) → stores.Holds d.geometry old new
    → OpenedAfter d.geometry d.meaning.decoding passed before page rise old mid → PutNextFailed d.geometry d.meaning.decoding (record { sector = sector; seq = mid.seq; kind = kind }) bytes mid new
    → WriteFault d sector bytes
    (record { numbers = d; view = view_at old first second declined moved; stopped = false })
    (record { numbers = d; view = view_at new first second declined (count_sum moved rise); stopped = true })
put_failed d sector page rise kind passed before bytes old mid new first second declined moved fresh cannot few_passed few_before holds o f = record {
  fresh = fresh;
  fault = inr (record {
    changes = calls_before old.book (next_page old.book) + 2;
    reads = before + collection_reads d.geometry old.die.cells (next_page old.book) + 0;
    within = record {
      over = λ carries. absurd (cannot carries);
      clean = λ _. (omega arith, omega (arith, few_before));
    };
    failed =
        change_failed_then (calls_before old.book (next_page old.book)) (before + collection_reads d.geometry old.die.cells (next_page old.book)) 2 0 old.die mid.die new.die o.calls.within f.failed;
    rows = λ sound. elim f.rows [ inl same ↦ inl (same ∙ o.rows) | inr done ↦ inr (done ∙ ap (λ (rows : List (List ℕ)). slice_set rows sector bytes) o.rows) ];
    stopped = refl;
  });
  over = λ carries. absurd (cannot carries);
  erased = record { over = λ carries. absurd (cannot carries); clean = λ _. inl (erased_then (erase_due old.book (next_page old.book)) old.die mid.die new.die o.erased f.erases) };
  book = record {
    changes = o.changes;
    leads = subst (λ (v : BookValue). Leads d.reuse_max old.book o.changes v) (sym (ap (λ (s : Store). s.book) f.same)) (o.leads d.reuse_max);
    may = (omega (arith, o.passed_so), o.once, o.none_offered);
    rise = rise;
    rises = o.rises;
    tally = refl;
    at_cut = λ power came _ victim spare is.
        o.collected victim spare is
        ∙ sym (ap (λ (t : Bool). if t then live_at old.book victim else 0) (lt-ltb (collection_calls old.book (next_page old.book)) (cut_of old.die)
        (subst (λ (n : NextPage). collection_calls old.book n < cut_of old.die) (sym is)
        (subst (λ (n : NextPage). calls_before old.book n < cut_of old.die) is
        (cut_later (calls_before old.book (next_page old.book))
        (before + collection_reads d.geometry old.die.cells (next_page old.book)) 2 0 old.die mid.die new.die o.calls.within f.failed power came)))));
  };
  seq =
      moves_seq d old new (view_at old first second declined moved) (view_at new first second declined (count_sum moved rise)) refl refl refl refl holds
      (omega (arith, o.few, ap (λ (s : Store). s.seq) f.same));
  counts = record { first = refl; second = refl; declined = refl };
}

-- A change call failed before the page was got.
pub open_failed : (d : Numbers) (sector passed before : ℕ) (bytes : List ℕ) (old new : Store) (first second declined moved : ℕ)
    → old.seq < 2 ^ 62 → moved < 2 ^ 64 → (OfferCarries d (view_at old first second declined moved) bytes → ⊥) → passed ≤ 1 → before ≤ offer_reads d.geometry (offer_of old.book)
    → stores.Holds d.geometry old new
    → OpenChangeFailed d.geometry d.meaning.decoding passed before old new
    → WriteFault d sector bytes
    (record { numbers = d; view = view_at old first second declined moved; stopped = false })
    (record { numbers = d; view = view_at new first second declined moved; stopped = true })
open_failed d sector passed before bytes old new first second declined moved fresh few_moved cannot few_passed few_before holds f = record {
  fresh = fresh;
  fault = inr (record {
    changes = calls_before old.book (next_page old.book);
    reads = before + collection_reads d.geometry old.die.cells (next_page old.book);
    within = record {
      over = λ carries. absurd (cannot carries);
      clean = λ _. (omega arith, omega (arith, few_before));
    };
    failed = f.failed;
    rows = λ sound. inl (f.rows sound);
    stopped = refl;
  });
  over = λ carries. absurd (cannot carries);
  erased =
      record {
        over = λ carries. absurd (cannot carries);
        clean = λ _. failed_within (erase_due old.book (next_page old.book)) before (offer_reads d.geometry (offer_of old.book)) old.die new.die few_before f.erased;
      };
  book = record {
    changes = f.changes;
    leads = f.leads d.reuse_max;
    may = (omega (arith, f.passed_so), f.once, f.none_offered);
    rise = 0;
    rises = sym f.none_sealed;
    tally = omega arith;
    at_cut = λ power came _ victim spare is.
        sym (ap (λ (t : Bool). if t then live_at old.book victim else 0) (not_below (collection_calls old.book (next_page old.book)) (cut_of old.die)
        (subst (λ (n : NextPage). cut_of old.die ≤ collection_calls old.book n) (sym is)
        (subst (λ (n : NextPage). cut_of old.die ≤ calls_before old.book n) is
        (cut_within (calls_before old.book (next_page old.book)) (before + collection_reads d.geometry old.die.cells (next_page old.book)) old.die new.die f.failed power came)))));
  };
  seq = moves_seq d old new (view_at old first second declined moved) (view_at new first second declined moved) refl refl refl refl holds (omega (arith, f.few));
  counts = record { first = refl; second = refl; declined = refl };
}
  where
    not_below : (a b : ℕ) → b ≤ a → nat_lt a b ≡ false
    not_below a b h = grind (arith, nat_tests)

-- A read failed before the page was got: the device goes on.
pub open_read_failed : (d : Numbers) (sector passed before : ℕ) (bytes : List ℕ) (old new : Store) (book : BookValue) (first second declined moved : ℕ)
    → old.seq < 2 ^ 62 → moved < 2 ^ 64 → (OfferCarries d (view_at old first second declined moved) bytes → ⊥) → passed ≤ 1 → before ≤ offer_reads d.geometry (offer_of old.book)
    → stores.Holds d.geometry old new
    → OpenReadFailed d.geometry d.meaning.decoding passed before old new → Recycles d.reuse_max new.book book
    → WriteFault d sector bytes
    (record { numbers = d; view = view_at old first second declined moved; stopped = false })
    (record { numbers = d; view = view_at (record new { book = book }) first second declined moved; stopped = false })
open_read_failed d sector passed before bytes old new book first second declined moved fresh few_moved cannot few_passed few_before holds f recycles = record {
  fresh = fresh;
  fault = inl (record {
    changes = calls_before old.book (next_page old.book);
    reads = before + collection_reads d.geometry old.die.cells (next_page old.book);
    within = record {
      over = λ carries. absurd (cannot carries);
      clean = λ _. (omega arith, omega (arith, few_before));
    };
    failed = f.failed;
    rows = f.rows;
    running = refl;
  });
  over = λ carries. absurd (cannot carries);
  erased = record { over = λ carries. absurd (cannot carries); clean = λ _. inl f.erased };
  book = record {
    changes = f.changes ++ (Offers ∷ []);
    leads = leads_append d.reuse_max old.book new.book book f.changes (Offers ∷ []) (f.leads d.reuse_max) (leads_one d.reuse_max new.book book Offers recycles);
    may = (
      omega (arith, count_by-append is_pass f.changes (Offers ∷ []), f.passed_so),
      once_append f.changes (Offers ∷ []) f.once (refl, refl, refl, refl, refl),
      record { before = f.changes; last = refl; none_before = f.none_offered },
    );
    rise = 0;
    rises = sym (sealed_offers old.book f.changes ∙ f.none_sealed);
    tally = omega arith;
    at_cut =
        λ power came. absurd (read_failed_no_cut (calls_before old.book (next_page old.book))
        (before + collection_reads d.geometry old.die.cells (next_page old.book)) old.die new.die f.failed power came);
  };
  seq = moves_seq d old new (view_at old first second declined moved) (view_at (record new { book = book }) first second declined moved) refl refl refl refl holds (omega (arith, f.few));
  counts = record { first = refl; second = refl; declined = refl };
}
