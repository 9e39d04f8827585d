-- True tables to begin with: those of a die with no charged cell, and a Clean block that becomes Active.
use Rattle.std.proofs.Common.{◌≡◌, inl, inr, ℕ, zero, suc, ◌+◌, ◌*◌, ◌<◌, Bool, true, List, length, replicate, Option, Some, None, refl, sym, ap, ◌∙◌, arith, subst}
use Rattle.std.specs.List.{range_with_len, list_all}
use Rattle.std.proofs.lemmas.Bool.{cases_eq, and_parts, and_from}
use Rattle.std.proofs.lemmas.List.{same_lists, get_or_default, get_or-replicate, length-replicate, length-set}
use Rattle.std.proofs.lemmas.Option.{none-some}
use Rattle.zero_count.specs.declared.Header.{Header}
use Rattle.cell_die.specs.Cells.{page_at, is_blank}
use Rattle.sector_map.specs.declared.entry.Entry.{Entry}
use Rattle.block_state.specs.declared.state.State.{State}
use Rattle.block_state.specs.declared.state.State.TheVariants.{Clean, Active, Used, Recycled, Reused, Spare}
use Rattle.block_state.specs.State.{is_spare}
use Rattle.block_state.specs.Book.{BookValue, IsValid, NoneActive, HasOneSpare, state_at, live_at, with_state}
use Rattle.page_codec.specs.declared.place.Place.{Place}
use Rattle.page_codec.specs.Geometry.{Geometry, unit_page, spare_at}
use Rattle.page_codec.specs.Records.{Placed, header_in, live_record}
use Rattle.page_codec.specs.Sound.{live_count, stands_in}
use Rattle.page_codec.specs.TrueBook.{IsTrue, IsTrueState, IsTrueActive, HasSizes, is_block_blank, entry_of, live_map}
use Rattle.page_codec.proofs.Live.{live_counts}
use Rattle.collector.proofs.Blanks.{blank_page_slot, blank_slot_header, committed_header}
use Rattle.collector.proofs.Books.{state_here, state_there, valid_state, spare_stays}
use Rattle.collector.proofs.Counting.{none_pass}
use Rattle.collector.proofs.Tables.{entry_live, live_map_long, unit_inside}

-- ---- a Clean block becomes Active

all_at : (p : ℕ → Bool) (a n i : ℕ) → list_all p (range_with_len a n) ≡ true → i < n → p (a + i) ≡ true
all_at p a zero i all h = absurd (omega arith)
all_at p a (suc n) zero all h = subst (λ (z : ℕ). p z ≡ true) (omega arith) (and_parts (p a) (list_all p (range_with_len (a + 1) n)) all).0
all_at p a (suc n) (suc i) all h = subst (λ (z : ℕ). p z ≡ true) (omega arith) (all_at p (a + 1) n i (and_parts (p a) (list_all p (range_with_len (a + 1) n)) all).1 (omega arith))

-- a page of a blank block is blank
pub blank_block_page : (g : Geometry) (cells : List (List ℕ)) (block i : ℕ) → is_block_blank g cells block ≡ true → i < g.pages → is_blank (page_at cells (block * g.pages + i)) ≡ true
blank_block_page g cells block i blank within = all_at (λ page. is_blank (page_at cells page)) (block * g.pages) g.pages i blank within

blank_active : (g : Geometry) (cells : List (List ℕ)) (block : ℕ) → is_block_blank g cells block ≡ true → 0 < g.pages → IsTrueActive g cells block 0
blank_active g cells block blank pages = record {
  room = pages;
  blank = λ i from to. blank_block_page g cells block i blank to;
  above = λ u slot within low high. blank_page_slot g cells (unit_page g block u) slot (blank_block_page g cells block (u * g.span) blank (unit_inside g u within));
}

-- Where no block is Active, a Clean block becomes Active with fill 0.
pub opened_true : (g : Geometry) (cells : List (List ℕ)) (book : BookValue) (table : List (Option Entry)) (seq block : ℕ) → IsTrue g cells book table seq → state_at book block ≡ Clean
    → block < g.blocks → 0 < g.pages → NoneActive book
    → IsTrue g cells (with_state book block (Active 0)) table seq
opened_true g cells book table seq block t clean within pages inactive = record {
  live_counts = t.live_counts;
  entries = t.entries;
  one_spare = spare_stays book block (Active 0) in_book (ap is_spare clean) refl t.one_spare;
  states = λ b below. elim (cases_eq b block) [
    | inl same ↦ subst (λ (c : ℕ). IsTrueState g cells c (state_at (with_state book block (Active 0)) c)) (sym same)
        (subst (IsTrueState g cells block) (sym (state_here book block (Active 0) in_book)) (blank_active g cells block (subst (IsTrueState g cells block) clean (t.states block within)) pages))
    | inr other ↦ subst (IsTrueState g cells b) (sym (state_there book block b (Active 0) other)) (t.states b below)
  ];
  kept = valid_state book block (Active 0) t.kept in_book (omega (arith, t.sizes.pages)) (λ _ c active. absurd (inactive c active));
  next_seq = t.next_seq;
  sizes = record {
    blocks = length-set book.states block (Active 0) ∙ t.sizes.blocks;
    pages = t.sizes.pages;
    units = t.sizes.units;
    generations = t.sizes.generations;
  };
}
  where
    in_book : block < length book.states
    in_book = omega (arith, t.sizes.blocks)

-- ---- a die with no charged cell

module _ (g : Geometry) (cells : List (List ℕ)) (blank : (page : ℕ) → is_blank (page_at cells page) ≡ true) where
  no_header : (place : Place) (h : Header) → header_in g cells place ≡ Some h → ⊥
  no_header place h e = none-some h (sym (blank_slot_header (spare_at g cells place.page) place.slot (blank_page_slot g cells place.page place.slot (blank place.page))) ∙ e)

  pub blank_live : (sector : ℕ) → live_record g cells sector ≡ None
  blank_live sector = at (live_record g cells sector) refl
    where
      at : (o : Option Placed) → live_record g cells sector ≡ o → o ≡ None
      at None e = refl
      at (Some x) e = absurd (no_header x.place x.header (committed_header g cells x.place x.header (live_counts g cells sector x e)))

  blank_count : (block : ℕ) → live_count g cells block ≡ 0
  unfolding live_count
  blank_count block = none_pass (λ sector. stands_in g block (live_record g cells sector)) g.sectors (λ k h. ap (stands_in g block) (blank_live k))

  blank_map : replicate g.sectors None ≡ live_map g cells
  blank_map = same_lists (replicate g.sectors None) (live_map g cells) (length-replicate {A = Option Entry} g.sectors None ∙ sym (live_map_long g cells))
      (λ k d h. let below : k < g.sectors = omega (arith, length-replicate {A = Option Entry} g.sectors None) in
      get_or-replicate g.sectors k None d below ∙ sym (get_or_default (live_map g cells) k d None (omega (arith, live_map_long g cells)) ∙ (entry_live g cells k below ∙ ap entry_of (blank_live k))))

  blank_block : (a n : ℕ) → list_all (λ page. is_blank (page_at cells page)) (range_with_len a n) ≡ true
  blank_block a zero = refl
  blank_block a (suc n) = and_from _ _ (blank a) (blank_block (a + 1) n)

  -- a state that a block of such a die may have
  abbrev pub MayBegin : State → Type 0
  MayBegin Clean = Unit {0}
  MayBegin (Active fill) = fill ≡ 0
  MayBegin (Spare marked) = Unit {0}
  MayBegin _ = ⊥

  begins : (block : ℕ) (s : State) → 0 < g.pages → MayBegin s → IsTrueState g cells block s
  begins block Clean pages may = blank_block (block * g.pages) g.pages
  begins block (Active fill) pages may = subst (IsTrueActive g cells block) (sym may) (blank_active g cells block (blank_block (block * g.pages) g.pages) pages)
  begins block (Used level) pages may = absurd may
  begins block (Recycled level next) pages may = absurd may
  begins block Reused pages may = absurd may
  begins block (Spare marked) pages may = record { free = blank_count block; blank = λ _. blank_block (block * g.pages) g.pages }

  -- A book without live records and an empty map are true to a die with no charged cell.
  pub blank_true : (book : BookValue) → IsValid book → HasSizes g book → HasOneSpare book → 0 < g.pages → ((block : ℕ) → live_at book block ≡ 0)
      → ((block : ℕ) → block < g.blocks → MayBegin (state_at book block))
      → IsTrue g cells book (replicate g.sectors None) 1
  blank_true book valid sizes spare pages live may = record {
    live_counts = λ block within. live block ∙ sym (blank_count block);
    entries = blank_map;
    one_spare = spare;
    states = λ block within. begins block (state_at book block) pages (may block within);
    kept = valid;
    next_seq = inl (λ place h e. absurd (no_header place h e));
    sizes = sizes;
  }
