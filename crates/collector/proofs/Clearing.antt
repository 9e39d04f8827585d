-- An erase of the Spare: whole, it leaves the tables true and every stored sector; torn, it does so on sound cells.
use Rattle.std.proofs.Common.{◌≡◌, ◌⊎◌, inl, inr, ℕ, ◌+◌, ◌*◌, ◌<◌, ◌≤◌, true, List, drop, Option, Some, refl, sym, ap, ◌∙◌, subst, arith}
use Rattle.std.proofs.lemmas.Bool.{cases_eq, false≢true, false_from_ne_true}
use Rattle.zero_count.specs.declared.Header.{Header}
use Rattle.zero_count.specs.HeaderWord.{header_of}
use Rattle.cell_die.specs.Cells.{page_at, is_blank, IsAbove, is_charged}
use Rattle.cell_die.specs.Pads.{NoPadCharged}
use Rattle.cell_die.specs.Counts.{Rose, Stayed}
use Rattle.cell_die.specs.DieState.{DieState, IsShaped, page_of, page_bytes}
use Rattle.cell_die.specs.Changes.{SameCells, OnlyBlock, IsErased, ErasedInPart}
use Rattle.cell_die.specs.Calls.{Kept, ChangeFailed}
use Rattle.cell_die.proofs.CellLaws.{above_blank}
use Rattle.cell_die.proofs.Sequences.{kept_refl}
use Rattle.cell_bits.proofs.Above.{keeps}
use Rattle.cell_bits.proofs.Slices.{above_drop, above_take, bytes_drop, bytes_take}
use Rattle.spare_gate.specs.Slots.{word_at}
use Rattle.spare_gate.proofs.Fallen.{fallen_valid}
use Rattle.striped.specs.Meaning.{Decoding}
use Rattle.sector_map.specs.declared.entry.Entry.{Entry}
use Rattle.block_state.specs.declared.state.State.{State}
use Rattle.block_state.specs.declared.state.State.TheVariants.{Clean, Active, Used, Recycled, Reused, Spare}
use Rattle.block_state.specs.State.{is_spare}
use Rattle.block_state.specs.Book.{BookValue, IsSpare, state_at}
use Rattle.page_codec.specs.declared.place.Place.{Place}
use Rattle.page_codec.specs.Geometry.{Geometry, HasShape, shape_of, block_of}
use Rattle.page_codec.specs.Records.{header_in, live_record}
use Rattle.page_codec.specs.Sound.{IsSound, live_count}
use Rattle.page_codec.specs.Sectors.{stored}
use Rattle.page_codec.specs.TrueBook.{IsTrueState, IsNextSeq}
use Rattle.page_codec.proofs.Live.{live_counts, vanishing_keeps}
use Rattle.page_codec.proofs.PutFirst.{blank_zeros}
use Rattle.page_codec.proofs.SoundErase.{TearsBlock, tear_keeps_live, tear_keeps_sound}
use Rattle.page_codec.proofs.Within.{header_valid, header_within}
use Rattle.collector.specs.Store.{Store, store, IsTrueStore, SameRows, Holds}
use Rattle.collector.specs.Steps.{MadeBlank, was_blank, was_erased}
use Rattle.collector.proofs.BlankPages.{blank_header}
use Rattle.collector.proofs.Books.{state_here, spare_within}
use Rattle.collector.proofs.Committed.{committed_so}
use Rattle.collector.proofs.Elsewhere.{OnlyIn, rows_stay, committed_elsewhere}
use Rattle.collector.proofs.Shapes.{has_shape, some_pages, same_block, page_there}
use Rattle.collector.proofs.Sparing.{none_stands, spare_changes}
use Rattle.collector.proofs.States.{block_blank, page_in_block}

-- ---- cells that fall in one block

pub record Falls (g : Geometry) (old new : List (List ℕ)) (block : ℕ) : Type 0 where
  pub others : OnlyIn g old new block
  pub fell : (page : ℕ) → block_of g page ≡ block → IsAbove (page_at old page) (page_at new page)

pads_fell : (g : Geometry) (old new : List (List ℕ)) (block : ℕ) → Falls g old new block → NoPadCharged (shape_of g) old → NoPadCharged (shape_of g) new
pads_fell g old new block f none page c pad = elim (cases_eq (block_of g page) block) [
  | inl here ↦ false_from_ne_true (is_charged (page_at new page) c) (λ e. false≢true (sym (none page c pad) ∙ keeps (f.fell page here) c e))
  | inr apart ↦ ap (λ (row : List ℕ). is_charged row c) (f.others page apart) ∙ none page c pad
]

-- on sound cells, a valid header after the fall stood there before it
header_fell : (g : Geometry) (old new : List (List ℕ)) (block : ℕ) → Falls g old new block → HasShape (shape_of g) old → HasShape (shape_of g) new → IsSound g old
    → (place : Place) (h : Header) → header_in g new place ≡ Some h → header_in g old place ≡ Some h
header_fell g old new block f was now sound place h e = elim (cases_eq (block_of g place.page) block) [
  | inr apart ↦ ap (λ (bytes : List ℕ). header_of (word_at (drop g.main_bytes bytes) place.slot)) (sym (f.others place.page apart)) ∙ e
  | inl here ↦ (
      let w = header_within g new place h now e in
      let s = sound.below_valid place.page place.slot w.0 w.1 in
      ap header_of (sym (fallen_valid s.0 _ _ s.1 s.2
      (above_take _ _ _ (above_drop (16 * place.slot + 1) _ _ (above_drop g.main_bytes _ _ (f.fell place.page here))))
      (bytes_take _ _ (bytes_drop (16 * place.slot + 1) _ (bytes_drop g.main_bytes _ (was.small place.page))))
      (bytes_take _ _ (bytes_drop (16 * place.slot + 1) _ (bytes_drop g.main_bytes _ (now.small place.page)))) (header_valid _ h e))) ∙ e)
]

tears : (g : Geometry) (old new : List (List ℕ)) (block : ℕ) → Falls g old new block → HasShape (shape_of g) old → HasShape (shape_of g) new → 0 < g.pages → 1 ≤ g.generations
    → live_count g old block ≡ 0 → IsSound g old → TearsBlock g old new block
tears g old new block f was now some one free sound = record {
  pages = some;
  slots = one;
  shape = now;
  old_shape = was;
  sound = sound;
  others = f.others;
  fell = f.fell;
  free = λ sector x e. none_stands g old block free sector x e;
}

-- ---- a block that is cleared

pub record Clears (g : Geometry) (old new : List (List ℕ)) (block : ℕ) : Type 0 where
  pub others : OnlyIn g old new block
  pub blank : (page : ℕ) → block_of g page ≡ block → is_blank (page_at new page) ≡ true

module _ (g : Geometry) (old new : List (List ℕ)) (block : ℕ) (c : Clears g old new block) where
  pub cleared_header : (place : Place) (h : Header) → header_in g new place ≡ Some h → header_in g old place ≡ Some h
  cleared_header place h e = elim (cases_eq (block_of g place.page) block) [
    | inl here ↦ absurd (blank_header g new place.page (c.blank place.page here) place.slot h e)
    | inr apart ↦ ap (λ (bytes : List ℕ). header_of (word_at (drop g.main_bytes bytes) place.slot)) (sym (c.others place.page apart)) ∙ e
  ]

  pub cleared_live : 0 < g.pages → 1 ≤ g.generations → live_count g old block ≡ 0 → (sector : ℕ) → live_record g new sector ≡ live_record g old sector
  cleared_live some one free sector = vanishing_keeps g old new one
      (λ place h e. elim (cases_eq (block_of g place.page) block) [
        | inl here ↦ absurd (blank_header g new place.page (c.blank place.page here) place.slot h (committed_so g new place h e).header)
        | inr apart ↦ sym (committed_elsewhere g old new block some c.others place apart) ∙ e
      ])
      sector
      (λ x e. committed_elsewhere g old new block some c.others x.place (none_stands g old block free sector x e) ∙ live_counts g old sector x e)

  cleared_next : (seq : ℕ) → IsNextSeq g old seq → IsNextSeq g new seq
  cleared_next seq (inl below) = inl (λ place h e. below place h (cleared_header place h e))
  cleared_next seq (inr last) = inr last

-- ---- by the die

-- What a Spare that was made blank leaves.
pub record BlankedSo (g : Geometry) (d : Decoding) (spare : ℕ) (old new : Store) : Type 0 where
  pub live : (sector : ℕ) → live_record g new.die.cells sector ≡ live_record g old.die.cells sector
  pub tables : IsTrueStore g new
  pub rows : SameRows g d old new
  pub holds : Holds g old new
  pub is_spare : state_at new.book spare ≡ Spare true

-- What the calls find: a true store of this geometry, whose Spare this is.
pub record SparesIn (g : Geometry) (spare : ℕ) (now : Store) : Type 0 where
  pub tables : IsTrueStore g now
  pub shape : now.die.shape ≡ shape_of g
  pub shaped : IsShaped now.die
  pub is_spare : IsSpare now.book spare

pub spares_in : (g : Geometry) (spare : ℕ) (now : Store) → IsTrueStore g now → now.die.shape ≡ shape_of g → IsShaped now.die → IsSpare now.book spare → SparesIn g spare now
spares_in g spare now tables shape shaped is_spare = record { tables = tables; shape = shape; shaped = shaped; is_spare = is_spare }

module _ (g : Geometry) (spare : ℕ) (now : Store) (s : SparesIn g spare now) where
  pub spare_there : spare < g.blocks
  spare_there = omega (arith, spare_within now.book spare s.is_spare, s.tables.sizes.blocks)

  pub two_slots : 2 ≤ g.generations
  two_slots = omega (arith, s.tables.kept.two_generations, s.tables.sizes.generations)

  pub page_there_is : 0 < g.pages
  page_there_is = some_pages g now.die s.shape s.shaped

  pub spare_free : live_count g now.die.cells spare ≡ 0
  spare_free = free (state_at now.book spare) s.is_spare (s.tables.states spare spare_there)
    where
      free : (state : State) → is_spare state ≡ true → IsTrueState g now.die.cells spare state → live_count g now.die.cells spare ≡ 0
      free (Spare marked) is t = t.free
      free Clean is t = absurd (false≢true is)
      free (Active fill) is t = absurd (false≢true is)
      free (Used level) is t = absurd (false≢true is)
      free (Recycled level next) is t = absurd (false≢true is)
      free Reused is t = absurd (false≢true is)

falls_whole : (g : Geometry) (old new : DieState) (block : ℕ) → old.shape ≡ shape_of g → IsShaped old → block < g.blocks → IsErased block old new → OnlyBlock block old new
    → Falls g old.cells new.cells block
falls_whole g old new block shape shaped within erased only = record {
  others = λ page apart. only.pages page (λ here. apart (sym (same_block g old page shape) ∙ here));
  fell = λ page here.
      let there = (has_shape g old shape shaped).bytes page (page_there g page block (some_pages g old shape shaped) here within) in
      subst (IsAbove (page_of old page)) (sym (erased.blank page (same_block g old page shape ∙ here)))
      (above_blank (page_of old page) (page_bytes old.shape) (there ∙ sym (ap page_bytes shape)));
}

clears_whole : (g : Geometry) (old new : DieState) (block : ℕ) → old.shape ≡ shape_of g → IsErased block old new → OnlyBlock block old new → Clears g old.cells new.cells block
clears_whole g old new block shape erased only = record {
  others = λ page apart. only.pages page (λ here. apart (sym (same_block g old page shape) ∙ here));
  blank = λ page here. ap is_blank (erased.blank page (same_block g old page shape ∙ here)) ∙ blank_zeros (page_bytes old.shape);
}

pub holds_same : (g : Geometry) (now : Store) → Holds g now now
holds_same g now = record { kept = kept_refl now.die; pads = λ x. x; sound = λ x. x; seqs = omega arith; drew = λ _ place h e. inl e }

-- A Spare that is blank, or was erased.
pub blanked : (g : Geometry) (d : Decoding) (spare : ℕ) (old new : DieState) (book after : BookValue) (table : List (Option Entry)) (seq : ℕ) → MadeBlank spare old book new after
    → SparesIn g spare (store old table book seq) → IsShaped new → BlankedSo g d spare (store old table book seq) (store new table after seq)
blanked g d spare old _ book _ table seq (was_blank is) s shaped = record {
  live = λ sector. refl;
  tables = s.tables;
  rows = refl;
  holds = holds_same g (store old table book seq);
  is_spare = is;
}
blanked g d spare old _ book _ table seq (was_erased new is erased only kept passed) s shaped =
    let now = store old table book seq in
    let some = page_there_is g spare now s in
    let one : 1 ≤ g.generations = omega (arith, two_slots g spare now s) in
    let free = spare_free g spare now s in
    let there = spare_there g spare now s in
    let was = has_shape g old s.shape s.shaped in
    let is_now = has_shape g new (kept.shape ∙ s.shape) shaped in
    let falls = falls_whole g old new spare s.shape s.shaped there erased only in
    let clears = clears_whole g old new spare s.shape erased only in
    let live = cleared_live g old.cells new.cells spare clears some one free in
    record {
      live = live;
      tables = spare_changes g old.cells new.cells book table seq seq spare true s.tables s.is_spare clears.others live
          (λ _. block_blank g new.cells spare (λ i h. clears.blank (spare * g.pages + i) (page_in_block g spare i h)))
          free (cleared_next g old.cells new.cells spare clears seq s.tables.next_seq);
      rows = rows_stay g d old.cells new.cells spare clears.others live (λ sector x e. none_stands g old.cells spare free sector x e);
      holds = record {
        kept = kept;
        pads = pads_fell g old.cells new.cells spare falls;
        sound = λ sound. tear_keeps_sound g old.cells new.cells spare (tears g old.cells new.cells spare falls was is_now some one free sound);
        seqs = omega arith;
        drew = λ _ place h e. inl (cleared_header g old.cells new.cells spare clears place h e);
      };
      is_spare = state_here book spare (Spare true) (spare_within book spare s.is_spare);
    }

-- ---- a torn erase

pub record TornSo (g : Geometry) (d : Decoding) (old new : Store) : Type 0 where
  pub rows : IsSound g old.die.cells → SameRows g d old new
  pub holds : Holds g old new

rose_stayed : (a b : ℕ) → Rose a b → Stayed a b → ⊥
rose_stayed a b rose stayed = omega (arith, rose, stayed)

torn_falls : (g : Geometry) (d : Decoding) (spare : ℕ) (old new : DieState) (book : BookValue) (table : List (Option Entry)) (seq : ℕ) → SparesIn g spare (store old table book seq) → IsShaped new
    → Falls g old.cells new.cells spare → Kept old new → Rose old.change_faults new.change_faults → TornSo g d (store old table book seq) (store new table book seq)
torn_falls g d spare old new book table seq s shaped falls kept rose =
    let now = store old table book seq in
    let some = page_there_is g spare now s in
    let one : 1 ≤ g.generations = omega (arith, two_slots g spare now s) in
    let free = spare_free g spare now s in
    let was = has_shape g old s.shape s.shaped in
    let is_now = has_shape g new (kept.shape ∙ s.shape) shaped in
    record {
      rows = λ sound. rows_stay g d old.cells new.cells spare falls.others
          (tear_keeps_live g old.cells new.cells spare (tears g old.cells new.cells spare falls was is_now some one free sound)) (λ sector x e. none_stands g old.cells spare free sector x e);
      holds = record {
        kept = kept;
        pads = pads_fell g old.cells new.cells spare falls;
        sound = λ sound. tear_keeps_sound g old.cells new.cells spare (tears g old.cells new.cells spare falls was is_now some one free sound);
        seqs = omega arith;
        drew = λ either place h e. elim either [
          | inl sound ↦ inl (header_fell g old.cells new.cells spare falls was is_now sound place h e)
          | inr stayed ↦ absurd (rose_stayed old.change_faults new.change_faults rose stayed)
        ];
      };
    }

-- An erase that failed.
pub erase_torn : (g : Geometry) (d : Decoding) (spare : ℕ) (old new : DieState) (book : BookValue) (table : List (Option Entry)) (seq : ℕ) → SparesIn g spare (store old table book seq) → IsShaped new
    → SameCells old new ⊎ ErasedInPart spare old new → OnlyBlock spare old new → Kept old new → ChangeFailed 1 0 old new → TornSo g d (store old table book seq) (store new table book seq)
erase_torn g d spare old new book table seq s shaped (inr part) only kept failed = torn_falls g d spare old new book table seq s shaped (record {
  others = λ page apart. only.pages page (λ here. apart (sym (same_block g old page s.shape) ∙ here));
  fell = λ page here. part.below page (same_block g old page s.shape ∙ here);
}) kept failed.change_faults
erase_torn g d spare old new book table seq s shaped (inl same) only kept failed = record {
  rows = λ _. ap (stored g d) same.cells;
  holds = record {
    kept = kept;
    pads = λ none. subst (NoPadCharged (shape_of g)) (sym same.cells) none;
    sound = λ sound. subst (IsSound g) (sym same.cells) sound;
    seqs = omega arith;
    drew = λ _ place h e. inl (ap (λ (cells : List (List ℕ)). header_in g cells place) (sym same.cells) ∙ e);
  };
}
