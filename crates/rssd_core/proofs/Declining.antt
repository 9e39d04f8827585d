-- A declined unit and what follows it, and a put over a unit that failed, from their steps to the contract.
use Rattle.std.proofs.Common.{◌≡◌, inl, inr, ℕ, ◌+◌, ◌^◌, ◌<◌, ◌≤◌, true, false, List, [], ◌∷◌, Option, refl, sym, ap, ap₂, ◌∙◌, subst, arith}
use Rattle.std.proofs.lemmas.Option.{same_Some}
use Rattle.cell_die.specs.Calls.{Passed, PassedWithin, ChangeFailed, ReadFailed}
use Rattle.cell_die.proofs.Sequences.{passed_trans, passed_within, change_failed_after, read_failed_after, read_failed_within}
use Rattle.block_state.specs.Book.{BookValue, live_at}
use Rattle.page_alloc.specs.declared.next_page.NextPage.{NextPage}
use Rattle.reuse_pool.specs.declared.unit.ReuseUnit.{ReuseUnit}
use Rattle.reuse_pool.specs.Offer.{IsOffer}
use Rattle.reuse_pool.specs.Recycling.{Recycles}
use Rattle.page_codec.specs.Sectors.{stored}
use Rattle.page_codec.specs.Sound.{IsSound}
use Rattle.collector.specs.Store.{Store, IsTrueStore}
use Rattle.collector.specs.Store as stores
use Rattle.rssd_core.specs.Rules.{next_page, offer_of}
use Rattle.rssd_core.specs.BookChanges.{Change, Passes, Offers, Leads, EachOnce, is_pass, is_offer}
use Rattle.rssd_core.specs.Calls.{calls_before, collection_reads, copies_due, named_page, offer_reads}
use Rattle.rssd_core.specs.Erases.{erase_due, Erased, ErasedOrFailed}
use Rattle.rssd_core.specs.Given.{InPart}
use Rattle.rssd_core.proofs.ErasesLaws.{erased_after, failed_after}
use Rattle.rssd_core.specs.DeviceValue.{Numbers}
use Rattle.rssd_core.specs.Moves.{sealed_records}
use Rattle.rssd_core.specs.Outcomes.{WriteFault}
use Rattle.rssd_core.specs.Steps.{Opened, OpenedAfter, OpenReadFailed, OpenChangeFailed, OverDeclined, OverReadFailed, OverChangeFailed, passing}
use Rattle.rssd_core.specs.Within.{Went, IsCollect}
use Rattle.rssd_core.specs.Writes.{OfferCarries, OfferDeclines, CanCarry, page_of_unit}
use Rattle.rssd_core.proofs.Chained.{leads_append, leads_one, leads_none, within_trans, read_failed_no_cut, count_by-append}
use Rattle.rssd_core.proofs.PassedBook.{next_same, calls_same, due_same, copies_same, sealed_same}
use Rattle.rssd_core.proofs.Rules.{offer_is}
use Rattle.rssd_core.proofs.WroteFirst.{view_at, moves_seq}

-- a unit that declines is offered, and none of it carries the sector
pub offer_declines : (d : Numbers) (unit : ReuseUnit) (bytes : List ℕ) (old start : Store) (first second declined moved : ℕ) → IsOffer old.book unit
    → OverDeclined d.geometry d.meaning.decoding unit bytes old start
    → OfferDeclines d (view_at old first second declined moved) bytes
offer_declines d unit bytes old start first second declined moved offer o = (unit, offer_is old.book unit offer, λ carries. o.none carries.0 carries.1 carries.2)

pub declines_not : (d : Numbers) (unit : ReuseUnit) (bytes : List ℕ) (old start : Store) (first second declined moved : ℕ) → IsOffer old.book unit
    → OverDeclined d.geometry d.meaning.decoding unit bytes old start
    → OfferCarries d (view_at old first second declined moved) bytes → ⊥
declines_not d unit bytes old start first second declined moved offer o carries =
    let same : unit ≡ carries.0 = same_Some unit carries.0 (sym (offer_is old.book unit offer) ∙ carries.1) in
    let cells = subst (λ (u : ReuseUnit). CanCarry d (view_at old first second declined moved) u bytes) (sym same) carries.2 in
    o.none cells.0 cells.1 cells.2

-- what an offer reads
pub offer_reads_are : (d : Numbers) (unit : ReuseUnit) (old : Store) → IsOffer old.book unit → d.geometry.span ≤ offer_reads d.geometry (offer_of old.book)
offer_reads_are d unit old offer = subst (λ (o : Option ReuseUnit). d.geometry.span ≤ offer_reads d.geometry o) (sym (offer_is old.book unit offer)) (omega arith)

module _ (d : Numbers) (unit : ReuseUnit) (bytes : List ℕ) (old start : Store) (offer : IsOffer old.book unit) (o : OverDeclined d.geometry d.meaning.decoding unit bytes old start) where
  book_is : start.book ≡ passing old.book unit
  book_is = ap (λ (s : Store). s.book) o.same

  seq_is : start.seq ≡ old.seq
  seq_is = ap (λ (s : Store). s.seq) o.same

  next_is_same : next_page start.book ≡ next_page old.book
  next_is_same = ap next_page book_is ∙ next_same old.book unit offer

  calls_are : calls_before start.book (next_page start.book) ≡ calls_before old.book (next_page old.book)
  calls_are = ap₂ calls_before book_is next_is_same ∙ calls_same old.book unit offer (next_page old.book) refl

  due_is : erase_due start.book (next_page start.book) ≡ erase_due old.book (next_page old.book)
  due_is = ap₂ erase_due book_is next_is_same ∙ due_same old.book unit offer (next_page old.book) refl

  copies_are : copies_due start.book (next_page start.book) ≡ copies_due old.book (next_page old.book)
  copies_are = ap₂ copies_due book_is next_is_same ∙ copies_same old.book (passing old.book unit) refl (next_page old.book)

  reads_are : collection_reads d.geometry start.die.cells (next_page start.book) ≡ collection_reads d.geometry old.die.cells (next_page old.book)
  reads_are = ap₂ (λ (cells : List (List ℕ)) (n : NextPage). collection_reads d.geometry cells n) o.cells.cells next_is_same

  sealed_are : (changes : List Change) → sealed_records old.book (Passes unit ∷ changes) ≡ sealed_records start.book changes
  sealed_are changes = sym (ap (λ (v : BookValue). sealed_records v changes) book_is ∙ sealed_same old.book (passing old.book unit) refl changes)

  leads_pass : (r : ℕ) (changes : List Change) (w : BookValue) → Leads r start.book changes w → Leads r old.book (Passes unit ∷ changes) w
  leads_pass r changes w then = leads_append r old.book start.book w (Passes unit ∷ []) changes (leads_one r old.book start.book (Passes unit) (offer_is old.book unit offer, book_is)) then

  once_pass : (changes : List Change) → EachOnce changes → EachOnce (Passes unit ∷ changes)
  once_pass changes once =
      record { takes = omega (arith, once.takes); wipes = omega (arith, once.wipes); erases = omega (arith, once.erases); copies = omega (arith, once.copies); seals = omega (arith, once.seals) }

  -- a page that came to hand after it
  pub declined_opened : (page rise : ℕ) (mid : Store) → Opened d.geometry d.meaning.decoding page rise start mid → OpenedAfter d.geometry d.meaning.decoding 1 d.geometry.span page rise old mid
  declined_opened page rise mid p = record {
    changes = Passes unit ∷ p.changes;
    leads = λ r. leads_pass r p.changes mid.book (p.leads r);
    once = once_pass p.changes p.once;
    passed_so = omega (arith, p.passed_so, count_by-append is_pass (Passes unit ∷ []) p.changes);
    none_offered = omega (arith, p.none_offered, count_by-append is_offer (Passes unit ∷ []) p.changes);
    rises = p.rises ∙ sym (sealed_are p.changes);
    copied = p.copied ∙ copies_are;
    collected = λ victim spare is. p.collected victim spare (next_is_same ∙ is) ∙ ap (λ (v : BookValue). live_at v victim) book_is;
    named = p.named ∙ (ap₂ named_page book_is next_is_same);
    branch = p.branch;
    rows = p.rows ∙ ap (stored d.geometry d.meaning.decoding) o.cells.cells;
    few = omega (arith, p.few, seq_is);
    drawn = omega (arith, p.drawn, seq_is);
    erased = erased_after (erase_due old.book (next_page old.book)) old.die start.die mid.die o.cells.erases (subst (λ (due : Option ℕ). Erased due start.die mid.die) due_is p.erased);
    tables = p.tables;
    calls = record {
      within = subst (λ (r : ℕ). PassedWithin (calls_before old.book (next_page old.book)) r old.die mid.die) (plus d.geometry.span)
          (subst (λ (c : ℕ). PassedWithin c (d.geometry.span + (0 + collection_reads d.geometry old.die.cells (next_page old.book))) old.die mid.die)
          (none_plus (calls_before old.book (next_page old.book)))
          (within_trans 0 d.geometry.span (calls_before old.book (next_page old.book)) (0 + collection_reads d.geometry old.die.cells (next_page old.book)) old.die start.die mid.die
          (passed_within d.geometry.span (omega arith) o.calls) went.within));
      exact = λ free. subst (λ (r : ℕ). Passed (calls_before old.book (next_page old.book)) r old.die mid.die) (plus d.geometry.span)
          (subst (λ (c : ℕ). Passed c (d.geometry.span + (0 + collection_reads d.geometry old.die.cells (next_page old.book))) old.die mid.die)
          (none_plus (calls_before old.book (next_page old.book))) (passed_trans o.calls (went.exact free)));
    };
  }
    where
      none_plus : (n : ℕ) → 0 + n ≡ n
      none_plus n = omega arith

      plus : (n : ℕ) → n + (0 + collection_reads d.geometry old.die.cells (next_page old.book)) ≡ n + collection_reads d.geometry old.die.cells (next_page old.book)
      plus n = omega arith

      went : Went (calls_before old.book (next_page old.book)) (0 + collection_reads d.geometry old.die.cells (next_page old.book)) (IsCollect (next_page old.book)) start.die mid.die
      went =
          subst (λ (n : NextPage). Went (calls_before old.book (next_page old.book)) (0 + collection_reads d.geometry old.die.cells (next_page old.book)) (IsCollect n) start.die mid.die) next_is_same
          (subst (λ (r : ℕ). Went (calls_before old.book (next_page old.book)) (0 + r) (IsCollect (next_page start.book)) start.die mid.die) reads_are
          (subst (λ (c : ℕ). Went c (0 + collection_reads d.geometry start.die.cells (next_page start.book)) (IsCollect (next_page start.book)) start.die mid.die) calls_are p.calls))

  -- the calls of a failure after it
  failed_calls : (P : ℕ → ℕ → Type 0) → P (0 + calls_before start.book (next_page start.book)) (d.geometry.span + (0 + collection_reads d.geometry start.die.cells (next_page start.book)))
      → P (calls_before old.book (next_page old.book)) (d.geometry.span + collection_reads d.geometry old.die.cells (next_page old.book))
  failed_calls P p = subst (λ (c : ℕ). P c (d.geometry.span + collection_reads d.geometry old.die.cells (next_page old.book))) (none_plus (calls_before start.book (next_page start.book)) ∙ calls_are)
      (subst (λ (r : ℕ). P (0 + calls_before start.book (next_page start.book)) (d.geometry.span + r)) (none_plus (collection_reads d.geometry start.die.cells (next_page start.book)) ∙ reads_are) p)
    where
      none_plus : (n : ℕ) → 0 + n ≡ n
      none_plus n = omega arith

  -- a failed read after it
  pub declined_read_failed : (new : Store) → OpenReadFailed d.geometry d.meaning.decoding 0 0 start new → OpenReadFailed d.geometry d.meaning.decoding 1 d.geometry.span old new
  declined_read_failed new f = record {
    changes = Passes unit ∷ f.changes;
    leads = λ r. leads_pass r f.changes new.book (f.leads r);
    once = once_pass f.changes f.once;
    passed_so = omega (arith, f.passed_so, count_by-append is_pass (Passes unit ∷ []) f.changes);
    none_offered = omega (arith, f.none_offered, count_by-append is_offer (Passes unit ∷ []) f.changes);
    none_sealed = sealed_are f.changes ∙ f.none_sealed;
    rows = f.rows ∙ ap (stored d.geometry d.meaning.decoding) o.cells.cells;
    few = omega (arith, f.few, seq_is);
    erased = erased_after (erase_due old.book (next_page old.book)) old.die start.die new.die o.cells.erases (subst (λ (due : Option ℕ). Erased due start.die new.die) due_is f.erased);
    tables = f.tables;
    failed = failed_calls (λ c r. ReadFailed c r old.die new.die) (read_failed_after o.calls f.failed);
  }

  -- a failed change call after it
  pub declined_change_failed : (new : Store) → OpenChangeFailed d.geometry d.meaning.decoding 0 0 start new → OpenChangeFailed d.geometry d.meaning.decoding 1 d.geometry.span old new
  declined_change_failed new f = record {
    changes = Passes unit ∷ f.changes;
    leads = λ r. leads_pass r f.changes new.book (f.leads r);
    once = once_pass f.changes f.once;
    passed_so = omega (arith, f.passed_so, count_by-append is_pass (Passes unit ∷ []) f.changes);
    none_offered = omega (arith, f.none_offered, count_by-append is_offer (Passes unit ∷ []) f.changes);
    none_sealed = sealed_are f.changes ∙ f.none_sealed;
    rows = λ sound. f.rows (subst (IsSound d.geometry) (sym o.cells.cells) sound) ∙ ap (stored d.geometry d.meaning.decoding) o.cells.cells;
    few = omega (arith, f.few, seq_is);
    erased =
        failed_after (erase_due old.book (next_page old.book)) d.geometry.span old.die start.die new.die o.cells.erases o.calls
        (subst (λ (due : Option ℕ). ErasedOrFailed due 0 start.die new.die) due_is f.erased);
    failed = failed_calls (λ c r. ChangeFailed c r old.die new.die) (change_failed_after o.calls f.failed);
  }

-- ---- a put over a unit that failed

-- a read of the unit failed: the device goes on
pub over_read_failed : (d : Numbers) (sector : ℕ) (unit : ReuseUnit) (bytes : List ℕ) (old new : Store) (book : BookValue) (first second declined moved : ℕ) → old.seq < 2 ^ 62 → moved < 2 ^ 64
    → IsOffer old.book unit → stores.Holds d.geometry old new → OverReadFailed d.geometry old new → Recycles d.reuse_max new.book book
    → WriteFault d sector bytes
    (record { numbers = d; view = view_at old first second declined moved; stopped = false })
    (record { numbers = d; view = view_at (record new { book = book }) first second declined moved; stopped = false })
over_read_failed d sector unit bytes old new book first second declined moved fresh few_moved offer holds f recycles = record {
  fresh = fresh;
  fault = inl (record {
    changes = 0;
    reads = d.geometry.span;
    within = record { over = λ carries. (omega arith, omega arith); clean = λ cannot. (omega arith, omega (arith, offer_reads_are d unit old offer)) };
    failed = f.failed;
    rows = ap (stored d.geometry d.meaning.decoding) f.cells.cells;
    running = refl;
  });
  over = λ carries. f.cells;
  erased = record {
    over = λ carries. f.cells.erases;
    clean = λ cannot. inr (f.cells.erases, inl (read_failed_within 0 (offer_reads d.geometry (offer_of old.book)) (omega arith) (offer_reads_are d unit old offer) f.failed));
  };
  book = record {
    changes = Offers ∷ [];
    leads = leads_one d.reuse_max old.book book Offers (subst (λ (v : BookValue). Recycles d.reuse_max v book) (ap (λ (s : Store). s.book) f.same) recycles);
    may = (omega arith, record { takes = omega arith; wipes = omega arith; erases = omega arith; copies = omega arith; seals = omega arith }, record { before = []; last = refl; none_before = refl });
    rise = 0;
    rises = refl;
    tally = omega arith;
    at_cut = λ power came. absurd (read_failed_no_cut 0 d.geometry.span old.die new.die f.failed power came);
  };
  seq =
      moves_seq d old new (view_at old first second declined moved) (view_at (record new { book = book }) first second declined moved) refl refl refl refl holds
      (omega (arith, ap (λ (s : Store). s.seq) f.same));
  counts = record { first = refl; second = refl; declined = refl };
}

-- a change call failed: the device stops
pub over_change_failed : (d : Numbers) (sector : ℕ) (unit : ReuseUnit) (bytes : List ℕ) (old new : Store) (first second declined moved : ℕ) → old.seq < 2 ^ 62 → moved < 2 ^ 64
    → IsOffer old.book unit → stores.Holds d.geometry old new → OverChangeFailed d.geometry d.meaning.decoding unit (record { sector = sector; seq = old.seq; kind = 1 }) bytes old new
    → WriteFault d sector bytes
    (record { numbers = d; view = view_at old first second declined moved; stopped = false })
    (record { numbers = d; view = view_at new first second declined moved; stopped = true })
over_change_failed d sector unit bytes old new first second declined moved fresh few_moved offer holds f = record {
  fresh = fresh;
  fault = inr (record {
    changes = d.geometry.span + 1;
    reads = d.geometry.span;
    within = record { over = λ _. (omega arith, omega arith); clean = λ cannot. absurd (cannot carries) };
    failed = f.failed;
    rows = λ sound. f.rows;
    stopped = refl;
  });
  over = λ _ other is. in_part other (same_Some unit other (sym (offer_is old.book unit offer) ∙ is));
  erased = record { over = λ _. f.erases; clean = λ cannot. absurd (cannot carries) };
  book = record {
    changes = [];
    leads = subst (λ (v : BookValue). Leads d.reuse_max old.book [] v) (sym (ap (λ (s : Store). s.book) f.same)) (leads_none d.reuse_max old.book);
    may = (omega arith, record { takes = omega arith; wipes = omega arith; erases = omega arith; copies = omega arith; seals = omega arith }, refl);
    rise = 0;
    rises = refl;
    tally = omega arith;
    at_cut = λ power came cannot. absurd (cannot carries);
  };
  seq = moves_seq d old new (view_at old first second declined moved) (view_at new first second declined moved) refl refl refl refl holds (omega (arith, ap (λ (s : Store). s.seq) f.same));
  counts = record { first = refl; second = refl; declined = refl };
}
  where
    carries : OfferCarries d (view_at old first second declined moved) bytes
    carries = (unit, offer_is old.book unit offer, (f.cells, f.above, f.carries))

    in_part : (other : ReuseUnit) → unit ≡ other → InPart d.geometry d.meaning.decoding (page_of_unit d other) bytes old.die.cells new.die.cells
    in_part other same = subst (λ (u : ReuseUnit). InPart d.geometry d.meaning.decoding (page_of_unit d u) bytes old.die.cells new.die.cells) same f.part
