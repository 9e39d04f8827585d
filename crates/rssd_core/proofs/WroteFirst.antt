-- A write to a clean page, from its steps to the contract: a page was got, the record put, and blocks recycled.
use Rattle.std.proofs.Common.{◌≡◌, ◌⊎◌, inl, inr, ℕ, ◌+◌, ◌*◌, ◌^◌, ◌<◌, false, List, [], ◌∷◌, ◌++◌, Option, Some, None, refl, sym, ap, ◌∙◌, subst, arith, append_assoc, ◌-◌}
use Rattle.std.specs.Prelude.{slice_set}
use Rattle.std.specs.List.{count_by}
use Rattle.std.proofs.lemmas.Bool.{cases_lt}
use Rattle.std.proofs.lemmas.List.Sums.{sum_by-append}
use Rattle.zero_count.specs.declared.Header.{Header}
use Rattle.cell_die.specs.DieState.{DieState}
use Rattle.cell_die.specs.Counts.{count_sum, raised, Rose, Stayed}
use Rattle.block_state.specs.State.{is_active}
use Rattle.block_state.specs.Book.{BookValue}
use Rattle.page_alloc.specs.declared.next_page.NextPage.TheVariants.{Page}
use Rattle.reuse_pool.specs.Recycling.{Recycles}
use Rattle.page_codec.specs.Geometry.{Geometry}
use Rattle.page_codec.specs.Puts.{first_slot}
use Rattle.page_codec.specs.Records.{header_in}
use Rattle.page_codec.specs.Sectors.{InCells}
use Rattle.page_codec.specs.Sound.{IsSound}
use Rattle.collector.specs.Store.{Store, store, IsTrueStore}
use Rattle.collector.specs.Store as stores
use Rattle.rssd_core.specs.declared.device.Placed.TheVariants.{First, Declined}
use Rattle.rssd_core.specs.Rules.{first_block, next_page, offer_of}
use Rattle.rssd_core.specs.BookChanges.{Change, Fills, Offers, Leads, EachOnce, OffersLast, passes, is_offer, filled_in, is_take, is_wipe, is_erase, is_copy, is_seal, is_pass}
use Rattle.rssd_core.specs.Calls.{calls_before, clean_calls, collection_reads, named_page}
use Rattle.rssd_core.specs.DeviceValue.{Numbers, DeviceView, rows_of}
use Rattle.rssd_core.specs.Moves.{MovesBook, MovesSeq, WhereCut, sealed_records, ChangesRose}
use Rattle.rssd_core.specs.Outcomes.{Wrote, WriteAtCut, RisesSealed}
use Rattle.rssd_core.specs.Steps.{Opened, OpenedAfter, PutNext, former_block}
use Rattle.rssd_core.specs.Within.{Went, IsCollect}
use Rattle.rssd_core.specs.Writes.{OnCleanPage, GetsPage, OfferDeclines}
use Rattle.rssd_core.specs.Erases.{erase_due}
use Rattle.rssd_core.proofs.ErasesLaws.{erased_then}
use Rattle.rssd_core.proofs.Chained.{leads_append, leads_one, went_trans, no_cut_came, count_by-append}
use Rattle.rssd_core.proofs.Rules.{next_is, active_is}

-- the view of a store, with these tallies
abbrev pub view_at : Store → ℕ → ℕ → ℕ → ℕ → DeviceView
view_at s first second declined moved = record { die = s.die; book = s.book; seq = s.seq; first = first; second = second; declined = declined; moved = moved }

-- ---- the book changes

-- once each in two lists of which the second has none of them
abbrev IsPlain : List Change → Type 0
IsPlain changes = (count_by is_take changes ≡ 0) × (count_by is_wipe changes ≡ 0) × (count_by is_erase changes ≡ 0) × (count_by is_copy changes ≡ 0) × (count_by is_seal changes ≡ 0)

pub once_append : (xs ys : List Change) → EachOnce xs → IsPlain ys → EachOnce (xs ++ ys)
once_append xs ys once plain = record {
  takes = omega (arith, count_by-append is_take xs ys, once.takes, plain.0);
  wipes = omega (arith, count_by-append is_wipe xs ys, once.wipes, plain.1);
  erases = omega (arith, count_by-append is_erase xs ys, once.erases, plain.2);
  copies = omega (arith, count_by-append is_copy xs ys, once.copies, plain.3);
  seals = omega (arith, count_by-append is_seal xs ys, once.seals, plain.4);
}

-- a record on the Active block's next page is one use of its rule
pub fills_one : (r : ℕ) (g : Geometry) (d : Numbers) (page : ℕ) (h : Header) (row : List ℕ) (old new : Store) → IsTrueStore g old → PutNext g d.meaning.decoding page h row old new
    → Leads r old.book (Fills (former_block old.book old.table h.sector) ∷ []) new.book
fills_one r g d page h row old new t p = leads_one r old.book new.book (Fills (former_block old.book old.table h.sector)) (page, next, fills)
  where
    next : next_page old.book ≡ Page page
    next = next_is old.book t.kept t.one_spare (Page page) (p.block, p.fill, p.active, p.page_is ∙ ap (λ (n : ℕ). p.block * n + p.fill) (sym t.sizes.pages))

    fills : new.book ≡ filled_in old.book (first_block is_active old.book) (former_block old.book old.table h.sector)
    fills = p.book ∙ sym (ap (λ (o : Option ℕ). filled_in old.book o (former_block old.book old.table h.sector)) (active_is old.book t.kept p.block (ap is_active p.active)))

-- ---- the seqs

-- where the count did not rise it stayed
pub not_rose : (before now : ℕ) → (Rose before now → ⊥) → Stayed before now
not_rose before now never = elim (cases_lt now (raised before)) [ inl stayed ↦ stayed | inr rose ↦ absurd (never rose) ]

pub moves_seq : (d : Numbers) (old new : Store) (a b : DeviceView) → a.die ≡ old.die → b.die ≡ new.die → a.seq ≡ old.seq → b.seq ≡ new.seq → stores.Holds d.geometry old new
    → new.seq < old.seq + 2 ^ 8 → MovesSeq d a b
moves_seq d old new a b a_die b_die a_seq b_seq holds few = record {
  not_less = omega (arith, holds.seqs);
  few = omega arith;
  headers = λ why place h e. elim (holds.drew (stored why) place h (ap (λ (die : DieState). header_in d.geometry die.cells place) (sym b_die) ∙ e)) [
    | inl stood ↦ inl (ap (λ (die : DieState). header_in d.geometry die.cells place) a_die ∙ stood)
    | inr drawn ↦ inr (omega (arith, drawn.0), omega (arith, drawn.1))
  ];
}
  where
    stored : IsSound d.geometry a.die.cells ⊎ (ChangesRose a b → ⊥) → IsSound d.geometry old.die.cells ⊎ Stayed old.die.change_faults new.die.change_faults
    stored (inl sound) = inl (subst (λ (die : DieState). IsSound d.geometry die.cells) a_die sound)
    stored (inr never) = inr (not_rose old.die.change_faults new.die.change_faults
        (subst (λ (x : DieState). Rose x.change_faults new.die.change_faults → ⊥) a_die (subst (λ (y : DieState). Rose a.die.change_faults y.change_faults → ⊥) b_die never)))

-- the changes of a record on the page at hand, and of the recycling that ends a call
abbrev pub ending : Option ℕ → List Change
ending former = Fills former ∷ Offers ∷ []

-- they seal nothing
pub sealed_ending : (v : BookValue) (changes : List Change) (former : Option ℕ) → sealed_records v (changes ++ ending former) ≡ sealed_records v changes
sealed_ending v changes former = sum_by-append _ changes (ending former) ∙ plus_none _
  where
    plus_none : (n : ℕ) → n + 0 ≡ n
    plus_none n = omega arith

pub sealed_offers : (v : BookValue) (changes : List Change) → sealed_records v (changes ++ (Offers ∷ [])) ≡ sealed_records v changes
sealed_offers v changes = sum_by-append _ changes (Offers ∷ []) ∙ plus_none _
  where
    plus_none : (n : ℕ) → n + 0 ≡ n
    plus_none n = omega arith

-- ---- the write

-- what a write to a clean page gives, whether a unit was declined before or not
pub record WroteClean (d : Numbers) (sector kind : ℕ) (bytes : List ℕ) (passed before : ℕ) (old new : DeviceView) : Type 0 where
  pub rows : rows_of d new ≡ slice_set (rows_of d old) sector bytes
  pub page : OnCleanPage d old new sector bytes kind
  pub gets : GetsPage old new
  pub calls : Went (clean_calls old.book) (before + collection_reads d.geometry old.die.cells (next_page old.book)) (IsCollect (next_page old.book)) old.die new.die
  pub book : MovesBook d (λ changes. (passes changes ≡ passed) × EachOnce changes × OffersLast changes) (RisesSealed old.book) (WhereCut (WriteAtCut d old bytes) old new) old new
  pub seq : MovesSeq d old new

pub wrote_clean : (d : Numbers) (sector page rise kind passed before : ℕ) (bytes : List ℕ) (old mid new : Store) (book : BookValue) (first second declined moved first' second' declined' : ℕ)
    → stores.Holds d.geometry old new
    → OpenedAfter d.geometry d.meaning.decoding passed before page rise old mid → PutNext d.geometry d.meaning.decoding page (record { sector = sector; seq = mid.seq; kind = kind }) bytes mid new
    → Recycles d.reuse_max new.book book
    → WroteClean d sector kind bytes passed before (view_at old first second declined moved) (view_at (record new { book = book }) first' second' declined' (count_sum moved rise))
wrote_clean d sector page rise kind passed before bytes old mid new book first second declined moved first' second' declined' holds o p recycles = record {
  rows = p.rows ∙ ap (λ (rows : List (List ℕ)). slice_set rows sector bytes) o.rows;
  page = record {
    live = p.live ∙ (λ i. Some (record { place = first_slot (o.named i); header = record { sector = sector; seq = last_drawn i; kind = kind } }));
    cells = subst (λ (seq : ℕ). InCells d.geometry d.meaning.decoding new.die.cells (named_page old.book (next_page old.book)) (record { sector = sector; seq = seq; kind = kind }) bytes) last_drawn
        (subst (λ (q : ℕ). InCells d.geometry d.meaning.decoding new.die.cells q (record { sector = sector; seq = mid.seq; kind = kind }) bytes) o.named p.cells);
  };
  gets = record { drawn = omega (arith, p.seq, o.drawn, o.copied); erased = erased_then (erase_due old.book (next_page old.book)) old.die mid.die new.die o.erased p.erases };
  calls = subst (λ (n : ℕ). Went (clean_calls old.book) n (IsCollect (next_page old.book)) old.die new.die) (plus_none (before + collection_reads d.geometry old.die.cells (next_page old.book))) went;
  book = record {
    changes = o.changes ++ ending (former_block mid.book mid.table sector);
    leads = leads_append d.reuse_max old.book mid.book book o.changes (ending (former_block mid.book mid.table sector)) (o.leads d.reuse_max)
        (leads_append d.reuse_max mid.book new.book book (Fills (former_block mid.book mid.table sector) ∷ []) (Offers ∷ [])
        (fills_one d.reuse_max d.geometry d page (record { sector = sector; seq = mid.seq; kind = kind }) bytes mid new o.tables p)
        (leads_one d.reuse_max new.book book Offers recycles));
    may = (
      omega (arith, count_by-append is_pass o.changes (ending (former_block mid.book mid.table sector)), o.passed_so),
      once_append o.changes (ending (former_block mid.book mid.table sector)) o.once (refl, refl, refl, refl, refl),
      record {
        before = o.changes ++ (Fills (former_block mid.book mid.table sector) ∷ []);
        last = sym (append_assoc o.changes (Fills (former_block mid.book mid.table sector) ∷ []) (Offers ∷ []));
        none_before = omega (arith, count_by-append is_offer o.changes (Fills (former_block mid.book mid.table sector) ∷ []), o.none_offered);
      },
    );
    rise = rise;
    rises = o.rises ∙ sym (sealed_ending old.book o.changes (former_block mid.book mid.table sector));
    tally = refl;
    at_cut =
        λ power came. absurd (no_cut_came (calls_before old.book (next_page old.book) + 2)
        (before + collection_reads d.geometry old.die.cells (next_page old.book) + 0) old.die new.die went.within power came);
  };
  seq =
      moves_seq d old new (view_at old first second declined moved) (view_at (record new { book = book }) first' second' declined' (count_sum moved rise)) refl refl refl refl holds
      (omega (arith, o.few, p.seq));
}
  where
    plus_none : (n : ℕ) → n + 0 ≡ n
    plus_none n = omega arith

    last_drawn : mid.seq ≡ new.seq - 1
    last_drawn = omega (arith, p.seq)

    went : Went (calls_before old.book (next_page old.book) + 2) (before + collection_reads d.geometry old.die.cells (next_page old.book) + 0) (IsCollect (next_page old.book)) old.die new.die
    went =
        went_trans (calls_before old.book (next_page old.book)) (before + collection_reads d.geometry old.die.cells (next_page old.book)) 2 0
        (IsCollect (next_page old.book)) old.die mid.die new.die o.calls p.calls

-- no unit was offered
pub wrote_first : (d : Numbers) (sector page rise : ℕ) (bytes : List ℕ) (old mid new : Store) (book : BookValue) (first second declined moved : ℕ)
    → old.seq < 2 ^ 62 → second < 2 ^ 64 → declined < 2 ^ 64 → offer_of old.book ≡ None → stores.Holds d.geometry old new
    → Opened d.geometry d.meaning.decoding page rise old mid → PutNext d.geometry d.meaning.decoding page (record { sector = sector; seq = mid.seq; kind = 1 }) bytes mid new
    → Recycles d.reuse_max new.book book
    → Wrote d sector bytes First
    (record { numbers = d; view = view_at old first second declined moved; stopped = false })
    (record { numbers = d; view = view_at (record new { book = book }) (count_sum first 1) second declined (count_sum moved rise); stopped = false })
wrote_first d sector page rise bytes old mid new book first second declined moved fresh few_second few_declined none holds o p recycles =
    let w = wrote_clean d sector page rise 1 0 0 bytes old mid new book first second declined moved (count_sum first 1) second declined holds o p recycles in
    record {
      fresh = fresh;
      rows = w.rows;
      place = (none, w.page);
      draws = w.gets;
      calls = subst (λ (n : ℕ). Went (clean_calls old.book) n (IsCollect (next_page old.book)) old.die new.die) (none_plus (collection_reads d.geometry old.die.cells (next_page old.book))) w.calls;
      book = w.book;
      seq = w.seq;
      counts = record { first = refl; second = omega arith; declined = omega arith };
      running = refl;
    }
  where
    none_plus : (n : ℕ) → 0 + n ≡ n
    none_plus n = omega arith

-- a unit was offered, and no cells above it carry the sector
pub wrote_declined : (d : Numbers) (sector page rise : ℕ) (bytes : List ℕ) (old mid new : Store) (book : BookValue) (first second declined moved : ℕ)
    → old.seq < 2 ^ 62 → first < 2 ^ 64 → second < 2 ^ 64 → OfferDeclines d (view_at old first second declined moved) bytes → stores.Holds d.geometry old new
    → OpenedAfter d.geometry d.meaning.decoding 1 d.geometry.span page rise old mid → PutNext d.geometry d.meaning.decoding page (record { sector = sector; seq = mid.seq; kind = 1 }) bytes mid new
    → Recycles d.reuse_max new.book book
    → Wrote d sector bytes Declined
    (record { numbers = d; view = view_at old first second declined moved; stopped = false })
    (record { numbers = d; view = view_at (record new { book = book }) first second (count_sum declined 1) (count_sum moved rise); stopped = false })
wrote_declined d sector page rise bytes old mid new book first second declined moved fresh few_first few_second declines holds o p recycles =
    let w = wrote_clean d sector page rise 1 1 d.geometry.span bytes old mid new book first second declined moved first second (count_sum declined 1) holds o p recycles in
    record {
      fresh = fresh;
      rows = w.rows;
      place = (declines, w.page);
      draws = w.gets;
      calls = w.calls;
      book = w.book;
      seq = w.seq;
      counts = record { first = omega arith; second = omega arith; declined = refl };
      running = refl;
    }
