-- A page that a collection gives, and a collection that failed, as the ways to a page at hand.
use Rattle.std.proofs.Common.{◌≡◌, ◌≢◌, ℕ, ◌+◌, ◌*◌, ◌^◌, ◌<◌, Bool, true, false, List, [], ◌∷◌, length, Option, Some, None, refl, sym, ap, ◌∙◌, subst, arith}
use Rattle.std.specs.List.{reduce, count_by}
use Rattle.std.proofs.lemmas.Bool.{false≢true}
use Rattle.cell_die.specs.Calls.{PassedWithin, ReadFailed, ChangeFailed}
use Rattle.striped.specs.Meaning.{Decoding}
use Rattle.block_state.specs.declared.state.State.{State}
use Rattle.block_state.specs.declared.state.State.TheVariants.{Active, Spare}
use Rattle.block_state.specs.State.{is_active, is_closed, is_spare}
use Rattle.block_state.specs.Book.{BookValue, state_at, live_at, with_state, with_live, reordered}
use Rattle.page_alloc.specs.declared.next_page.NextPage.{NextPage}
use Rattle.page_alloc.specs.declared.next_page.NextPage.TheVariants.{Page, Collect}
use Rattle.page_alloc.specs.CleanPage.{IsPageBranch, IsCollectBranch}
use Rattle.mount_scan.specs.Settled.{is_clean}
use Rattle.page_codec.specs.Geometry.{Geometry}
use Rattle.collector.specs.Store.{Store, IsTrueStore}
use Rattle.collector.specs.Effects.{sealed, fill_of}
use Rattle.collector.specs.Collections.{Collected, CollectReadFailed, CollectChangeFailed, Marks, as_it_was, erased, copied_to, erased_and_copied_to}
use Rattle.collector.proofs.Books.{state_here, state_there}
use Rattle.rssd_core.specs.Rules.{first_block, fewer, victim_of, from_active, from_clean, from_victim, next_page}
use Rattle.rssd_core.specs.BookChanges.{Change, Erases, Copies, Seals, Leads, EachOnce, passes, is_offer}
use Rattle.rssd_core.specs.Calls.{calls_before, collection_reads, copies_due, named_page}
use Rattle.collector.specs.Erases.{erased_in, ErasedOrBroken}
use Rattle.rssd_core.specs.Erases.{erase_due, Erased, ErasedOrFailed}
use Rattle.rssd_core.proofs.ErasesLaws.{broken_failed}
use Rattle.rssd_core.specs.Moves.{sealed_records}
use Rattle.rssd_core.specs.Steps.{Opened, OpenReadFailed, OpenChangeFailed}
use Rattle.rssd_core.specs.Within.{IsCollect}
use Rattle.rssd_core.proofs.Chained.{leads_none, leads_one, leads_append}
use Rattle.rssd_core.proofs.ClosedBlocks.{closed_not_spare, within_blocks}
use Rattle.rssd_core.proofs.PassedBook.{first_same, first_passes}
use Rattle.rssd_core.proofs.Rules.{next_is}

-- ---- the mark of the Spare changes nothing of what comes next

module _ (v : BookValue) (b : ℕ) (mark mark' : Bool) (is : state_at v b ≡ Spare mark) where
  abbrev marked : BookValue
  marked = with_state v b (Spare mark')

  order_same : (with_state v b (Spare mark')).order ≡ v.order
  order_same = ap (λ (was : Bool). reordered was false b v.order) (ap is_closed is)

  from_clean_same : (o : Option ℕ) → from_clean (with_state v b (Spare mark')) o ≡ from_clean v o
  from_clean_same (Some block) = refl
  from_clean_same None =
      ap (λ (o : Option ℕ). from_victim (with_state v b (Spare mark')) o (first_block is_spare (with_state v b (Spare mark')))) (ap (reduce (fewer v)) order_same)
      ∙ (ap (from_victim (with_state v b (Spare mark')) (victim_of v)) (first_same is_spare v b (Spare mark') (sym (ap is_spare is))) ∙ from_same (victim_of v) (first_block is_spare v))
    where
      from_same : (victim spare : Option ℕ) → from_victim (with_state v b (Spare mark')) victim spare ≡ from_victim v victim spare
      from_same None spare = refl
      from_same (Some victim) None = refl
      from_same (Some victim) (Some spare) = refl

  from_active_same : (o : Option ℕ) → first_block is_active v ≡ o → from_active (with_state v b (Spare mark')) o ≡ from_active v o
  from_active_same None e = ap (from_clean (with_state v b (Spare mark'))) (first_same is_clean v b (Spare mark') (sym (ap is_clean is))) ∙ from_clean_same (first_block is_clean v)
  from_active_same (Some block) e = ap (λ (s : State). Page (block * v.pages + fill_of s))
      (state_there v b block (Spare mark') (λ same. false≢true (sym (ap is_active (ap (state_at v) same ∙ is)) ∙ first_passes is_active v block e)))

  next_marked : next_page (with_state v b (Spare mark')) ≡ next_page v
  unfolding next_page
  next_marked = ap (from_active (with_state v b (Spare mark'))) (first_same is_active v b (Spare mark') (sym (ap is_active is))) ∙ from_active_same (first_block is_active v) refl

-- ---- the changes up to the seal

-- the marks of a collection are uses of its rules that seal nothing
record MarksSo (v w : BookValue) : Type 0 where
  changes : List Change
  leads : (r : ℕ) → Leads r v changes w
  once : EachOnce changes
  passed_so : passes changes ≡ 0
  none_offered : count_by is_offer changes ≡ 0
  none_sealed : sealed_records v changes ≡ 0

marks_so : (v w : BookValue) (victim spare : ℕ) → spare < length v.states → next_page v ≡ Collect victim spare → Marks v spare w → MarksSo v w
marks_so _ _ victim spare within next as_it_was = record {
  changes = [];
  leads = λ r. leads_none r _;
  once = record { takes = omega arith; wipes = omega arith; erases = omega arith; copies = omega arith; seals = omega arith };
  passed_so = refl;
  none_offered = refl;
  none_sealed = refl;
}
marks_so v _ victim spare within next (erased is) = record {
  changes = Erases spare ∷ [];
  leads = λ r. leads_one r v (with_state v spare (Spare true)) (Erases spare) ((victim, next), is, refl);
  once = record { takes = omega arith; wipes = omega arith; erases = omega arith; copies = omega arith; seals = omega arith };
  passed_so = refl;
  none_offered = refl;
  none_sealed = refl;
}
marks_so v _ victim spare within next (copied_to is) = record {
  changes = Copies spare ∷ [];
  leads = λ r. leads_one r v (with_state v spare (Spare false)) (Copies spare) ((victim, next), is, refl);
  once = record { takes = omega arith; wipes = omega arith; erases = omega arith; copies = omega arith; seals = omega arith };
  passed_so = refl;
  none_offered = refl;
  none_sealed = refl;
}
marks_so v _ victim spare within next (erased_and_copied_to is) = record {
  changes = Erases spare ∷ Copies spare ∷ [];
  leads = λ r. leads_append r v (with_state v spare (Spare true)) (with_state (with_state v spare (Spare true)) spare (Spare false)) (Erases spare ∷ []) (Copies spare ∷ [])
      (leads_one r v (with_state v spare (Spare true)) (Erases spare) ((victim, next), is, refl))
      (leads_one r (with_state v spare (Spare true)) (with_state (with_state v spare (Spare true)) spare (Spare false)) (Copies spare)
      ((victim, next_marked v spare false true is ∙ next), state_here v spare (Spare true) within, refl));
  once = record { takes = omega arith; wipes = omega arith; erases = omega arith; copies = omega arith; seals = omega arith };
  passed_so = refl;
  none_offered = refl;
  none_sealed = refl;
}

module _ (g : Geometry) (d : Decoding) (victim spare : ℕ) (old new : Store) (t : IsTrueStore g old) (branch : IsCollectBranch old.book victim spare) (few : live_at old.book victim < g.pages) where
  next : next_page old.book ≡ Collect victim spare
  next = next_is old.book t.kept t.one_spare (Collect victim spare) branch

  spare_within : spare < length old.book.states
  spare_within = within_blocks old.book spare (λ clean. false≢true (sym (ap is_spare clean) ∙ branch.3))

  apart : spare ≢ victim
  apart same = false≢true (sym (closed_not_spare (state_at old.book victim) branch.1.closed) ∙ (ap (λ (b : ℕ). is_spare (state_at old.book b)) (sym same) ∙ branch.3))

  few_live : live_at old.book victim < 2 ^ 7
  few_live = omega (arith, few, t.sizes.pages, t.kept.few_pages)

  none_plus : (n : ℕ) → n ≡ 0 + n
  none_plus n = omega arith

  -- a collection that was sealed
  pub opened_collect : (page : ℕ) → Erased (erased_in (state_at old.book spare) spare) old.die new.die → Collected g d victim spare old new → page ≡ spare * old.book.pages + live_at old.book victim
      → Opened g d page (live_at old.book victim) old new
  opened_collect page erased_so c at = record {
    changes = Seals victim spare ∷ [];
    leads = λ r. leads_one r old.book new.book (Seals victim spare) (next, c.book);
    once = record { takes = omega arith; wipes = omega arith; erases = omega arith; copies = omega arith; seals = omega arith };
    passed_so = refl;
    none_offered = refl;
    rises = none_plus (live_at old.book victim);
    copied = ap (copies_due old.book) (sym next);
    collected = λ x y is. (let same : victim ≡ x = collect_victim x y (sym next ∙ is) in ap (live_at old.book) same);
    named = at ∙ ap (named_page old.book) (sym next);
    branch = subst (λ (v : BookValue). IsPageBranch v page) (sym c.book) (spare, live_at old.book victim, state_spare, at);
    rows = c.rows;
    few = omega (arith, c.seq, few_live);
    drawn = c.seq;
    erased = subst (λ (n : NextPage). Erased (erase_due old.book n) old.die new.die) (sym next) erased_so;
    tables = c.tables;
    calls = record {
      within = subst (λ (n : NextPage). PassedWithin (calls_before old.book n) (0 + collection_reads g old.die.cells n) old.die new.die) (sym next)
          (subst (λ (r : ℕ). PassedWithin (calls_before old.book (Collect victim spare)) r old.die new.die) (none_plus (collection_reads g old.die.cells (Collect victim spare))) c.calls);
      exact = λ free. absurd (free (subst IsCollect (sym next) tt));
    };
  }
    where
      collect_victim : (x y : ℕ) → Collect victim spare ≡ Collect x y → victim ≡ x
      collect_victim x y is = cc

      state_spare : state_at (sealed old.book victim spare) spare ≡ Active (live_at old.book victim)
      state_spare = state_there (with_live (with_live (with_state old.book spare (Active (live_at old.book victim))) spare (live_at old.book victim)) victim 0) victim spare (Spare false) apart
          ∙ state_here old.book spare (Active (live_at old.book victim)) spare_within

  calls_so : (P : ℕ → ℕ → Type 0) → P (calls_before old.book (Collect victim spare)) (collection_reads g old.die.cells (Collect victim spare))
      → P (calls_before old.book (next_page old.book)) (0 + collection_reads g old.die.cells (next_page old.book))
  calls_so P p = subst (λ (n : NextPage). P (calls_before old.book n) (0 + collection_reads g old.die.cells n)) (sym next)
      (subst (λ (r : ℕ). P (calls_before old.book (Collect victim spare)) r) (none_plus (collection_reads g old.die.cells (Collect victim spare))) p)

  -- one whose read failed
  pub collect_unread : Erased (erased_in (state_at old.book spare) spare) old.die new.die → CollectReadFailed g d victim spare old new → OpenReadFailed g d 0 0 old new
  collect_unread erased_so f =
      let m = marks_so old.book new.book victim spare spare_within next f.book in
      record {
        changes = m.changes;
        leads = m.leads;
        once = m.once;
        passed_so = m.passed_so;
        none_offered = m.none_offered;
        none_sealed = m.none_sealed;
        rows = f.rows;
        few = omega (arith, f.seq, f.few, few_live);
        erased = subst (λ (n : NextPage). Erased (erase_due old.book n) old.die new.die) (sym next) erased_so;
        tables = f.tables;
        failed = calls_so (λ c r. ReadFailed c r old.die new.die) f.failed;
      }

  -- one whose change call failed
  pub collect_failed : ErasedOrBroken (erased_in (state_at old.book spare) spare) old.die new.die → CollectChangeFailed g d victim spare old new → OpenChangeFailed g d 0 0 old new
  collect_failed erased_so f =
      let m = marks_so old.book new.book victim spare spare_within next f.book in
      record {
        changes = m.changes;
        leads = m.leads;
        once = m.once;
        passed_so = m.passed_so;
        none_offered = m.none_offered;
        none_sealed = m.none_sealed;
        rows = f.rows;
        few = omega (arith, f.seq, f.few, few_live);
        erased = subst (λ (n : NextPage). ErasedOrFailed (erase_due old.book n) 0 old.die new.die) (sym next) (broken_failed (erased_in (state_at old.book spare) spare) old.die new.die erased_so);
        failed = calls_so (λ c r. ChangeFailed c r old.die new.die) f.failed;
      }
