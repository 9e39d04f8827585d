-- A block without live records and without charged cells becomes Active with its first page next: the tables stay true.
use Rattle.std.proofs.Common.{◌≡◌, ◌≢◌, inl, inr, ℕ, ◌+◌, ◌*◌, ◌<◌, true, false, List, length, map, Option, Some, refl, sym, ap, ◌∙◌, subst, length-set}
use Rattle.std.specs.List.{range_with_len}
use Rattle.std.proofs.lemmas.Bool.{cases_eq}
use Rattle.zero_count.specs.declared.Header.{Header}
use Rattle.cell_die.specs.Cells.{page_at, is_blank}
use Rattle.sector_map.specs.declared.entry.Entry.{Entry}
use Rattle.block_state.specs.declared.state.State.{State}
use Rattle.block_state.specs.declared.state.State.TheVariants.{Active}
use Rattle.block_state.specs.State.{is_spare}
use Rattle.block_state.specs.Book.{BookValue, state_at, with_state, NoneActive}
use Rattle.page_alloc.specs.CleanPage.{IsTakeBranch}
use Rattle.page_codec.specs.declared.place.Place.{Place}
use Rattle.page_codec.specs.Geometry.{Geometry, block_of, unit_page}
use Rattle.page_codec.specs.Records.{header_in, live_record}
use Rattle.page_codec.specs.TrueBook.{IsTrue, IsTrueState, IsNextSeq, HasSizes, entry_of, live_map}
use Rattle.page_codec.proofs.SoundErase.{live_count_same}
use Rattle.collector.proofs.Books.{valid_state, state_here, state_there, spare_stays}
use Rattle.rssd_core.proofs.BlankPages.{blank_slot}
use Rattle.rssd_core.specs.Steps.{IsSized}
use Rattle.rssd_core.proofs.BlockLaws.{state_stays, block_of_page, block_of_unit, blank_in_block}

-- no live record changes, headers only vanish, and the pages of this block alone change: they are blank
pub record Blanks (g : Geometry) (old new : List (List ℕ)) (block : ℕ) : Type 0 where
  pub live : (sector : ℕ) → live_record g new sector ≡ live_record g old sector
  pub headers : (place : Place) (h : Header) → header_in g new place ≡ Some h → header_in g old place ≡ Some h
  pub others : (page : ℕ) → block_of g page ≢ block → page_at new page ≡ page_at old page
  pub blank : (page : ℕ) → block_of g page ≡ block → is_blank (page_at new page) ≡ true

-- the map of the same live records is the same
pub same_map : (g : Geometry) (old new : List (List ℕ)) → ((sector : ℕ) → live_record g new sector ≡ live_record g old sector) → live_map g new ≡ live_map g old
unfolding live_map
same_map g old new same = λ i. map (λ sector. entry_of (same sector i)) (range_with_len 0 g.sectors)

-- the next seq is still greater than all
pub next_seq_stays : (g : Geometry) (old new : List (List ℕ)) (seq : ℕ) → ((place : Place) (h : Header) → header_in g new place ≡ Some h → header_in g old place ≡ Some h) → IsNextSeq g old seq
    → IsNextSeq g new seq
next_seq_stays g old new seq back next = elim next [
  | inl greater ↦ inl (λ place h e. greater place h (back place h e))
  | inr last ↦ inr last
]

pub sizes_with_state : (g : Geometry) (v : BookValue) (b : ℕ) (s : State) → HasSizes g v → HasSizes g (with_state v b s)
sizes_with_state g v b s sizes = record { blocks = length-set v.states b s ∙ sizes.blocks; pages = sizes.pages; units = sizes.units; generations = sizes.generations }

blanked_active : (g : Geometry) (old new : List (List ℕ)) (block : ℕ) → IsSized g → Blanks g old new block → IsTrueState g new block (Active 0)
blanked_active g old new block sized blanks = record {
  room = sized.pages;
  blank = λ i from within. blanks.blank (block * g.pages + i) (block_of_page g block i within);
  above = λ u slot within above few. blank_slot g.main_bytes slot _ (blanks.blank (unit_page g block u) (block_of_unit g block u sized.span within));
}

pub opened_true : (g : Geometry) (old new : List (List ℕ)) (book : BookValue) (table : List (Option Entry)) (seq block : ℕ) → IsSized g → Blanks g old new block
    → IsTrue g old book table seq → block < length book.states → is_spare (state_at book block) ≡ false → NoneActive book
    → IsTrue g new (with_state book block (Active 0)) table seq
opened_true g old new book table seq block sized blanks true_tables within not_spare none = record {
  live_counts = λ c inside. true_tables.live_counts c inside ∙ sym (live_count_same g old new blanks.live c);
  entries = true_tables.entries ∙ sym (same_map g old new blanks.live);
  one_spare = spare_stays book block (Active 0) within not_spare refl true_tables.one_spare;
  states = λ c inside. elim (cases_eq c block) [
    | inl here ↦ subst (λ (d : ℕ). IsTrueState g new d (state_at (with_state book block (Active 0)) d)) (sym here)
        (subst (IsTrueState g new block) (sym (state_here book block (Active 0) within)) (blanked_active g old new block sized blanks))
    | inr there ↦ subst (IsTrueState g new c) (sym (state_there book block c (Active 0) there))
        (state_stays g old new c (state_at book c) sized
        (record { pages = λ page e. blanks.others page (λ h. there (sym e ∙ h)); live = λ sector placed few e h. sym (blanks.live sector) ∙ e })
        (true_tables.states c inside))
  ];
  kept = valid_state book block (Active 0) true_tables.kept within (subst (λ (p : ℕ). 0 < p) (sym true_tables.sizes.pages) sized.pages) (λ active c is. absurd (none c is));
  next_seq = next_seq_stays g old new seq blanks.headers true_tables.next_seq;
  sizes = sizes_with_state g book block (Active 0) true_tables.sizes;
}

-- where the lowest Clean block is taken
pub take_true : (g : Geometry) (cells : List (List ℕ)) (book : BookValue) (table : List (Option Entry)) (seq block : ℕ) → IsSized g
    → IsTrue g cells book table seq → IsTakeBranch book block → IsTrue g cells (with_state book block (Active 0)) table seq
take_true g cells book table seq block sized true_tables take =
    let inside : block < g.blocks = subst (λ (n : ℕ). block < n) true_tables.sizes.blocks take.1.0 in
    opened_true g cells cells book table seq block sized (record {
      live = λ sector. refl;
      headers = λ place h e. e;
      others = λ page apart. refl;
      blank = λ page here. blank_in_block g cells block page sized.pages (subst (IsTrueState g cells block) take.1.1 (true_tables.states block inside)) here;
    }) true_tables take.1.0 (ap is_spare take.1.1) take.0
