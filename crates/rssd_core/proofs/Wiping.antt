-- An erase of a block without live records changes no live record and no stored sector, finished or not.
use Rattle.std.proofs.Common.{◌≡◌, ◌≢◌, ◌⊎◌, inl, inr, ℕ, ◌+◌, ◌*◌, ◌/◌, ◌<◌, Bool, true, false, List, drop, map, ◌==◌, nat_lt, if◌then◌else◌, Option, Some, None, refl, sym, ap, ◌∙◌, subst, arith}
use Rattle.std.specs.List.{range_with_len}
use Rattle.std.proofs.lemmas.Bool.{cases_eq, cases_Bool, false≢true, eq-eqb, ltb-true}
use Rattle.std.proofs.lemmas.Option.{none-some, same_Some}
use Rattle.zero_count.specs.declared.Header.{Header}
use Rattle.zero_count.specs.HeaderWord.{header_of}
use Rattle.cell_die.specs.declared.shape.Shape.{Shape}
use Rattle.cell_die.specs.Cells.{page_at, is_blank, is_charged, IsAbove}
use Rattle.cell_die.specs.DieState.{DieState, IsShaped, page_of, page_bytes}
use Rattle.cell_die.specs.Changes.{SameCells, OnlyBlock, IsErased, ErasedInPart}
use Rattle.cell_die.specs.Pads.{NoPadCharged}
use Rattle.cell_die.specs.Calls.{Kept}
use Rattle.cell_die.specs.Counts.{Rose}
use native.Mathlib.Nat.{mul-le-mul_right, suc-mul}
use Rattle.sector_map.specs.declared.entry.Entry.{Entry}
use Rattle.block_state.specs.declared.state.State.TheVariants.{Active}
use Rattle.block_state.specs.Book.{BookValue, state_at, with_state}
use Rattle.page_alloc.specs.CleanPage.{IsWipeBranch}
use Rattle.page_codec.specs.TrueBook.{IsTrue}
use Rattle.collector.specs.Store.{store, Holds}
use Rattle.rssd_core.proofs.ClosedBlocks.{closed_not_spare, closed_within}
use Rattle.cell_bits.proofs.Above.{keeps}
use Rattle.cell_die.proofs.CellLaws.{above_blank}
use Rattle.spare_gate.specs.Slots.{word_at, is_gate_charged, is_seal_charged}
use Rattle.striped.specs.Meaning.{Decoding}
use Rattle.page_codec.specs.declared.place.Place.{Place}
use Rattle.page_codec.specs.Geometry.{Geometry, HasShape, block_of, page_count, shape_of}
use Rattle.page_codec.specs.Records.{Placed, header_in, below_sectors, record_in, may_hold, if_committed, is_committed, committed_in, live_record}
use Rattle.page_codec.specs.Sectors.{said_by, stored}
use Rattle.page_codec.specs.Sound.{IsSound, live_count}
use Rattle.page_codec.proofs.Changes.{committed_stays, ungated}
use Rattle.page_codec.proofs.Live.{committed_holds, live_counts, of_records, vanishing_keeps}
use Rattle.page_codec.proofs.Newest.{newest_some}
use Rattle.page_codec.proofs.PutFirst.{blank_zeros}
use Rattle.page_codec.proofs.PutCells.{byte_at}
use Rattle.page_codec.proofs.PutUnit.{blank_ungated}
use Rattle.page_codec.proofs.PutStored.{pages_read, said_stays}
use Rattle.page_codec.proofs.SoundErase.{TearsBlock, tear_keeps_sound, tear_keeps_stored, header_kept, unit_in_block, unit_page_from_slot}
use Rattle.rssd_core.proofs.BlankPages.{blank_slot, blank_header}
use Rattle.rssd_core.specs.Steps.{IsSized}
use Rattle.rssd_core.proofs.BlockLaws.{none_stands, block_of_page, page_in_block}
use Rattle.rssd_core.proofs.Opening.{Blanks, opened_true}

-- ---- a live record is one of a sector of the device

record_within : (g : Geometry) (o : Option Header) (h : Header) (may : Bool) → (if may then below_sectors g o else None) ≡ Some h → h.sector < g.sectors
record_within g None h true e = absurd (none-some h e)
record_within g o h false e = absurd (none-some h e)
record_within g (Some k) h true e = at (nat_lt k.sector g.sectors) refl e
  where
    at : (t : Bool) → nat_lt k.sector g.sectors ≡ t → (if t then Some k else None) ≡ Some h → h.sector < g.sectors
    at true below s = subst (λ (x : Header). x.sector < g.sectors) (same_Some k h s) (ltb-true k.sector g.sectors below)
    at false below s = absurd (none-some h s)

committed_record : (g : Geometry) (cells : List (List ℕ)) (place : Place) (o : Option Header) (h : Header) → if_committed g cells place o ≡ Some h → o ≡ Some h
committed_record g cells place None h e = absurd (none-some h e)
committed_record g cells place (Some k) h e = at (is_committed g cells place k) e
  where
    at : (t : Bool) → (if t then Some k else None) ≡ Some h → Some k ≡ Some h
    at true s = s
    at false s = absurd (none-some h s)

pub committed_within : (g : Geometry) (cells : List (List ℕ)) (place : Place) (h : Header) → committed_in g cells place ≡ Some h → h.sector < g.sectors
unfolding committed_in record_in
committed_within g cells place h e =
    record_within g (header_in g cells place) h (may_hold g place) (committed_record g cells place (if may_hold g place then below_sectors g (header_in g cells place) else None) h e)

record_header : (g : Geometry) (o : Option Header) (h : Header) (may : Bool) → (if may then below_sectors g o else None) ≡ Some h → o ≡ Some h
record_header g None h true e = absurd (none-some h e)
record_header g o h false e = absurd (none-some h e)
record_header g (Some k) h true e = at (nat_lt k.sector g.sectors) e
  where
    at : (t : Bool) → (if t then Some k else None) ≡ Some h → Some k ≡ Some h
    at true s = s
    at false s = absurd (none-some h s)

-- .. and its header is valid
pub committed_header : (g : Geometry) (cells : List (List ℕ)) (place : Place) (h : Header) → committed_in g cells place ≡ Some h → header_in g cells place ≡ Some h
unfolding committed_in record_in
committed_header g cells place h e =
    record_header g (header_in g cells place) h (may_hold g place) (committed_record g cells place (if may_hold g place then below_sectors g (header_in g cells place) else None) h e)

pub live_of : (g : Geometry) (cells : List (List ℕ)) (sector : ℕ) (x : Placed) → live_record g cells sector ≡ Some x → (committed_in g cells x.place ≡ Some x.header) × (x.header.sector ≡ sector)
unfolding live_record
live_of g cells sector x e = of_records g cells sector x (newest_some _ x e).one

pub live_within : (g : Geometry) (cells : List (List ℕ)) (sector : ℕ) (x : Placed) → live_record g cells sector ≡ Some x → sector < g.sectors
live_within g cells sector x e =
    let of = live_of g cells sector x e in
    subst (λ (s : ℕ). s < g.sectors) of.1 (committed_within g cells x.place x.header of.0)

-- no live record of any sector stands in a block whose count of them is 0
pub none_lives : (g : Geometry) (cells : List (List ℕ)) (block : ℕ) → live_count g cells block ≡ 0 → (sector : ℕ) (x : Placed) → live_record g cells sector ≡ Some x → block_of g x.place.page ≢ block
none_lives g cells block free sector x e = none_stands g cells block free sector x (live_within g cells sector x e) e

-- ---- the shape of cells

pub has_shape : (g : Geometry) (die : DieState) → die.shape ≡ shape_of g → IsShaped die → HasShape (shape_of g) die.cells
has_shape g die shape shaped = subst (λ (s : Shape). HasShape s die.cells) shape (record {
  pages = shaped.pages;
  bytes = shaped.lengths;
  small = λ page k. byte_at (page_of die page) (shaped.bytes page) k;
})

-- ---- a finished erase

-- the pages of one block alone change, and they are blank
pub record WipesBlock (g : Geometry) (old new : List (List ℕ)) (block : ℕ) : Type 0 where
  pub others : (page : ℕ) → block_of g page ≢ block → page_at new page ≡ page_at old page
  pub blank : (page : ℕ) → block_of g page ≡ block → is_blank (page_at new page) ≡ true

wiped_header : (g : Geometry) (old new : List (List ℕ)) (block : ℕ) → WipesBlock g old new block → (place : Place) (h : Header) → header_in g new place ≡ Some h → header_in g old place ≡ Some h
wiped_header g old new block w place h e = elim (cases_eq (block_of g place.page) block) [
  | inl here ↦ absurd (blank_header g.main_bytes place.slot (page_at new place.page) h (w.blank place.page here) e)
  | inr apart ↦ ap (λ (bytes : List ℕ). header_of (word_at (drop g.main_bytes bytes) place.slot)) (sym (w.others place.page apart)) ∙ e
]

wiped_none : (g : Geometry) (old new : List (List ℕ)) (block : ℕ) → WipesBlock g old new block → (place : Place) → block_of g place.page ≡ block → committed_in g new place ≡ None
wiped_none g old new block w place here =
    ungated g new place (blank_ungated (drop g.main_bytes (page_at new place.page)) place.slot (blank_slot g.main_bytes place.slot (page_at new place.page) (w.blank place.page here)))

first_page_block : (g : Geometry) (b : ℕ) → 0 < g.pages → block_of g (b * g.pages) ≡ b
first_page_block g b some = ap (block_of g) (plus_none (b * g.pages)) ∙ block_of_page g b 0 some
  where
    plus_none : (n : ℕ) → n ≡ n + 0
    plus_none n = omega arith

wiped_stays : (g : Geometry) (old new : List (List ℕ)) (block : ℕ) → 0 < g.pages → WipesBlock g old new block → (place : Place) → block_of g place.page ≢ block
    → committed_in g new place ≡ committed_in g old place
wiped_stays g old new block some w place apart =
    committed_stays g old new place
    (record {
      gate = ap (λ (bytes : List ℕ). is_gate_charged (drop g.main_bytes bytes) place.slot) (w.others place.page apart);
      word = ap (λ (bytes : List ℕ). word_at (drop g.main_bytes bytes) place.slot) (w.others place.page apart);
    })
    (ap (λ (bytes : List ℕ). is_seal_charged (drop g.main_bytes bytes)) (w.others (block_of g place.page * g.pages) (λ e. apart (sym (first_page_block g (block_of g place.page) some) ∙ e))))

wiped_live : (g : Geometry) (old new : List (List ℕ)) (block : ℕ) → IsSized g → WipesBlock g old new block → live_count g old block ≡ 0 → (sector : ℕ)
    → live_record g new sector ≡ live_record g old sector
wiped_live g old new block sized w free sector =
    vanishing_keeps g old new (omega (arith, sized.two_slots))
    (λ place h e. elim (cases_eq (block_of g place.page) block) [
      | inl here ↦ absurd (none-some h (sym (wiped_none g old new block w place here) ∙ e))
      | inr apart ↦ sym (wiped_stays g old new block sized.pages w place apart) ∙ e
    ])
    sector
    (λ x e. wiped_stays g old new block sized.pages w x.place (none_lives g old block free sector x e) ∙ live_counts g old sector x e)

pub wiped_blanks : (g : Geometry) (old new : List (List ℕ)) (block : ℕ) → IsSized g → WipesBlock g old new block → live_count g old block ≡ 0 → Blanks g old new block
wiped_blanks g old new block sized w free = record { live = wiped_live g old new block sized w free; headers = wiped_header g old new block w; others = w.others; blank = w.blank }

-- the pages that a live record is read from stand in its block
pub read_in_block : (g : Geometry) (cells : List (List ℕ)) (sector i : ℕ) (x : Placed) → IsSized g → live_record g cells sector ≡ Some x → i < pages_read g x
    → block_of g (x.place.page + i) ≡ block_of g x.place.page
read_in_block g cells sector i x sized e within = at (x.place.slot == 0) refl within
  where
    at : (t : Bool) → (x.place.slot == 0) ≡ t → i < (if t then 1 else g.span) → block_of g (x.place.page + i) ≡ block_of g x.place.page
    at true first one = ap (block_of g) (plus_zero x.place.page i one)
      where
        plus_zero : (p i : ℕ) → i < 1 → p + i ≡ p
        plus_zero p i one = omega arith
    at false later below = unit_in_block g x.place.page i sized.pages sized.span
        (unit_page_from_slot g x.place (committed_holds g cells x.place x.header (live_counts g cells sector x e)) (λ same. false≢true (sym later ∙ eq-eqb x.place.slot 0 same))) below

pub blanks_stored : (g : Geometry) (d : Decoding) (old new : List (List ℕ)) (block : ℕ) → IsSized g → Blanks g old new block → live_count g old block ≡ 0 → stored g d new ≡ stored g d old
unfolding stored
blanks_stored g d old new block sized blanks free = λ i. map (λ sector. each sector i) (range_with_len 0 g.sectors)
  where
    unread : (sector : ℕ) (x : Placed) → live_record g old sector ≡ Some x → (i : ℕ) → i < pages_read g x → page_at new (x.place.page + i) ≡ page_at old (x.place.page + i)
    unread sector x e i within = blanks.others (x.place.page + i) (λ here. none_lives g old block free sector x e (sym (read_in_block g old sector i x sized e within) ∙ here))

    each : (sector : ℕ) → said_by g d new (live_record g new sector) ≡ said_by g d old (live_record g old sector)
    each sector = said_stays g d old new sector unread (blanks.live sector)

-- ---- erases of a die

pub erase_wipes : (g : Geometry) (old new : DieState) (block : ℕ) → old.shape ≡ shape_of g → IsErased block old new → OnlyBlock block old new → WipesBlock g old.cells new.cells block
erase_wipes g old new block shape erased only = record {
  others = λ page apart. only.pages page (λ e. apart (same_block page ∙ e));
  blank = λ page here. subst (λ (bytes : List ℕ). is_blank bytes ≡ true) (sym (erased.blank page (sym (same_block page) ∙ here))) (blank_zeros (page_bytes old.shape));
}
  where
    same_block : (page : ℕ) → page / g.pages ≡ page / old.shape.pages
    same_block page = ap (λ (s : Shape). page / s.pages) (sym shape)

-- cells of the block that fell, and no others changed
pub record FellIn (g : Geometry) (old new : List (List ℕ)) (block : ℕ) : Type 0 where
  pub others : (page : ℕ) → block_of g page ≢ block → page_at new page ≡ page_at old page
  pub fell : (page : ℕ) → block_of g page ≡ block → IsAbove (page_at old page) (page_at new page)

pub tears : (g : Geometry) (old new : DieState) (block : ℕ) → IsSized g → old.shape ≡ shape_of g → new.shape ≡ old.shape → IsShaped old → IsShaped new
    → FellIn g old.cells new.cells block → live_count g old.cells block ≡ 0 → IsSound g old.cells → TearsBlock g old.cells new.cells block
tears g old new block sized shape same shaped shaped_new f free sound = record {
  pages = sized.pages;
  slots = omega (arith, sized.two_slots);
  shape = has_shape g new (same ∙ shape) shaped_new;
  old_shape = has_shape g old shape shaped;
  sound = sound;
  others = f.others;
  fell = f.fell;
  free = none_lives g old.cells block free;
}

-- an erase, finished or not, makes cells fall in its block alone
pub erase_fell : (g : Geometry) (old new : DieState) (block : ℕ) → old.shape ≡ shape_of g → OnlyBlock block old new → ErasedInPart block old new → FellIn g old.cells new.cells block
erase_fell g old new block shape only part = record {
  others = λ page apart. only.pages page (λ e. apart (same_block page ∙ e));
  fell = λ page here. part.below page (sym (same_block page) ∙ here);
}
  where
    same_block : (page : ℕ) → page / g.pages ≡ page / old.shape.pages
    same_block page = ap (λ (s : Shape). page / s.pages) (sym shape)

-- the pages of a block of the device are pages of the device
pub page_below : (g : Geometry) (block page : ℕ) → 0 < g.pages → block < g.blocks → block_of g page ≡ block → page < page_count g
page_below g block page some inside here =
    let at = page_in_block g block page some here in
    subst (λ (p : ℕ). p < page_count g) at.2 (below block g.blocks g.pages at.0 inside at.1)
  where
    below : (b n w i : ℕ) → b < n → i < w → b * w + i < n * w
    below b n w i h k = omega (arith, mul-le-mul_right w h, suc-mul b w)

pub wipe_fell : (g : Geometry) (old new : DieState) (block : ℕ) → IsSized g → block < g.blocks → old.shape ≡ shape_of g → IsShaped old → OnlyBlock block old new → IsErased block old new
    → FellIn g old.cells new.cells block
wipe_fell g old new block sized inside shape shaped only erased = record {
  others = λ page apart. only.pages page (λ e. apart (same_block page ∙ e));
  fell = λ page here. subst (λ (bytes : List ℕ). IsAbove (page_of old page) bytes) (sym (erased.blank page (sym (same_block page) ∙ here)))
      (above_blank (page_of old page) (page_bytes old.shape) (shaped.lengths page (subst (λ (s : Shape). page < s.blocks * s.pages) (sym shape) (page_below g block page sized.pages inside here))));
}
  where
    same_block : (page : ℕ) → page / g.pages ≡ page / old.shape.pages
    same_block page = ap (λ (s : Shape). page / s.pages) (sym shape)

fell_pads : (g : Geometry) (old new : List (List ℕ)) (block : ℕ) → FellIn g old new block → NoPadCharged (shape_of g) old → NoPadCharged (shape_of g) new
fell_pads g old new block f none page cell pad = elim (cases_eq (block_of g page) block) [
  | inr apart ↦ ap (λ (bytes : List ℕ). is_charged bytes cell) (f.others page apart) ∙ none page cell pad
  | inl here ↦ elim (cases_Bool (is_charged (page_at new page) cell)) [
    | inr uncharged ↦ uncharged
    | inl charged ↦ absurd (false≢true (sym (none page cell pad) ∙ keeps (f.fell page here) cell charged))
  ]
]

-- What every outcome of an erase keeps, where the block has no live record.
pub record Erasing (g : Geometry) (old new : DieState) (block : ℕ) : Type 0 where
  pub sized : IsSized g
  pub inside : block < g.blocks
  pub shape : old.shape ≡ shape_of g
  pub kept : Kept old new
  pub shaped : IsShaped old
  pub shaped_new : IsShaped new
  pub only : OnlyBlock block old new
  pub free : live_count g old.cells block ≡ 0

pub wipe_holds : (g : Geometry) (old new : DieState) (block : ℕ) (table table' : List (Option Entry)) (book book' : BookValue) (seq : ℕ) → Erasing g old new block → IsErased block old new
    → Holds g (store old table book seq) (store new table' book' seq)
wipe_holds g old new block table table' book book' seq e erased =
    let fell : FellIn g old.cells new.cells block = wipe_fell g old new block e.sized e.inside e.shape e.shaped e.only erased in
    let wipes : WipesBlock g old.cells new.cells block = erase_wipes g old new block e.shape erased e.only in
    record {
      kept = e.kept;
      pads = fell_pads g old.cells new.cells block fell;
      sound = λ sound. tear_keeps_sound g old.cells new.cells block (tears g old new block e.sized e.shape e.kept.shape e.shaped e.shaped_new fell e.free sound);
      seqs = omega arith;
      drew = λ why place h is. inl (wiped_header g old.cells new.cells block wipes place h is);
    }

-- a failed erase, over sound cells
pub record TornErase (g : Geometry) (d : Decoding) (old new : DieState) : Type 0 where
  pub sound : IsSound g new.cells
  pub rows : stored g d new.cells ≡ stored g d old.cells
  pub headers : (place : Place) (h : Header) → header_in g new.cells place ≡ Some h → header_in g old.cells place ≡ Some h

same_torn : (g : Geometry) (d : Decoding) (old new : DieState) → SameCells old new → IsSound g old.cells → TornErase g d old new
same_torn g d old new same sound = record {
  sound = subst (IsSound g) (sym same.cells) sound;
  rows = ap (stored g d) same.cells;
  headers = λ place h is. ap (λ (cells : List (List ℕ)). header_in g cells place) (sym same.cells) ∙ is;
}

part_torn : (g : Geometry) (d : Decoding) (old new : DieState) (block : ℕ) → Erasing g old new block → ErasedInPart block old new → IsSound g old.cells → TornErase g d old new
part_torn g d old new block e part sound =
    let torn = tears g old new block e.sized e.shape e.kept.shape e.shaped e.shaped_new (erase_fell g old new block e.shape e.only part) e.free sound in
    record {
      sound = tear_keeps_sound g old.cells new.cells block torn;
      rows = tear_keeps_stored g d old.cells new.cells block torn e.sized.span;
      headers = header_kept g old.cells new.cells block torn;
    }

pub torn_erase : (g : Geometry) (d : Decoding) (old new : DieState) (block : ℕ) → Erasing g old new block → SameCells old new ⊎ ErasedInPart block old new → IsSound g old.cells → TornErase g d old new
torn_erase g d old new block e (inl same) sound = same_torn g d old new same sound
torn_erase g d old new block e (inr part) sound = part_torn g d old new block e part sound

torn_pads : (g : Geometry) (old new : DieState) (block : ℕ) → Erasing g old new block → SameCells old new ⊎ ErasedInPart block old new → NoPadCharged (shape_of g) old.cells
    → NoPadCharged (shape_of g) new.cells
torn_pads g old new block e (inl same) none = subst (NoPadCharged (shape_of g)) (sym same.cells) none
torn_pads g old new block e (inr part) none = fell_pads g old.cells new.cells block (erase_fell g old new block e.shape e.only part) none

pub torn_holds : (g : Geometry) (d : Decoding) (old new : DieState) (block : ℕ) (table table' : List (Option Entry)) (book book' : BookValue) (seq : ℕ) → Erasing g old new block
    → SameCells old new ⊎ ErasedInPart block old new
    → Rose old.change_faults new.change_faults → Holds g (store old table book seq) (store new table' book' seq)
torn_holds g d old new block table table' book book' seq e how rose = record {
  kept = e.kept;
  pads = torn_pads g old new block e how;
  sound = λ sound. (torn_erase g d old new block e how sound).sound;
  seqs = omega arith;
  drew = λ why place h is. elim why [
    | inl sound ↦ inl ((torn_erase g d old new block e how sound).headers place h is)
    | inr stayed ↦ absurd (omega arith)
  ];
}

-- the tables after a finished erase
pub wipe_true : (g : Geometry) (old new : DieState) (book : BookValue) (table : List (Option Entry)) (seq block : ℕ) → Erasing g old new block → IsErased block old new
    → IsTrue g old.cells book table seq → IsWipeBranch book block → IsTrue g new.cells (with_state book block (Active 0)) table seq
wipe_true g old new book table seq block e erased true_tables wipe =
    opened_true g old.cells new.cells book table seq block e.sized
    (wiped_blanks g old.cells new.cells block e.sized (erase_wipes g old new block e.shape erased e.only) e.free)
    true_tables (subst (λ (n : ℕ). block < n) (sym true_tables.sizes.blocks) e.inside) (closed_not_spare (state_at book block) wipe.1.closed) wipe.0.0

pub wipe_stored : (g : Geometry) (d : Decoding) (old new : DieState) (block : ℕ) → Erasing g old new block → IsErased block old new → stored g d new.cells ≡ stored g d old.cells
wipe_stored g d old new block e erased =
    blanks_stored g d old.cells new.cells block e.sized (wiped_blanks g old.cells new.cells block e.sized (erase_wipes g old new block e.shape erased e.only) e.free) e.free

-- the victim of a wipe is a block of the device without live records
pub wipe_block : (g : Geometry) (cells : List (List ℕ)) (book : BookValue) (table : List (Option Entry)) (seq block : ℕ) → IsTrue g cells book table seq → IsWipeBranch book block
    → (block < g.blocks) × (live_count g cells block ≡ 0)
wipe_block g cells book table seq block true_tables wipe =
    let inside : block < g.blocks = subst (λ (n : ℕ). block < n) true_tables.sizes.blocks (closed_within book block wipe.1.closed) in
    (inside, sym (true_tables.live_counts block inside) ∙ wipe.2)
