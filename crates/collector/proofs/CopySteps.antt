-- A copy of the live record at the cursor: where it ends well the collection has come one slot further with one copy more, and
-- where a change call of it fails all sectors stay.
use Rattle.std.proofs.Common.{◌≡◌, ◌≢◌, ◌⊎◌, inl, inr, ℕ, ◌+◌, ◌*◌, ◌^◌, ◌<◌, ◌≤◌, Bool, true, false, List, [], ◌∷◌, ◌++◌, length, drop, if◌then◌else◌, Some, refl, sym, ap, ◌∙◌, subst, arith}
use Rattle.std.proofs.lemmas.Bool.{cases_lt}
use native.Mathlib.Nat.{mul-le-mul_right, suc-mul}
use Rattle.zero_count.specs.declared.Header.{Header}
use Rattle.zero_count.specs.HeaderWord.{IsHeader}
use Rattle.cell_die.specs.declared.shape.Shape.{Shape}
use Rattle.cell_die.specs.Cells.{page_at}
use Rattle.cell_die.specs.Counts.{Stayed}
use Rattle.cell_die.specs.DieState.{DieState, IsShaped, page_of}
use Rattle.cell_die.specs.Calls.{Kept}
use Rattle.cell_die.proofs.Sequences.{kept_trans}
use Rattle.striped.specs.Meaning.{Meaning, Decodes}
use Rattle.spare_gate.specs.Slots.{is_gate_charged}
use Rattle.block_state.specs.Book.{BookValue, live_at}
use Rattle.page_codec.specs.Geometry.{Geometry, block_of, page_count, shape_of, spare_at}
use Rattle.page_codec.specs.Promises.{IsFresh, Keeps, KeepsRecords}
use Rattle.page_codec.specs.Puts.{first_slot, is_gated}
use Rattle.page_codec.specs.Records.{Placed, live_record}
use Rattle.page_codec.specs.Sectors.{says_zeros, said_by, stored, InCells}
use Rattle.page_codec.specs.Sound.{IsSound}
use Rattle.page_codec.proofs.PutLaws.{PutsCells, header_after}
use Rattle.page_codec.proofs.PutCells.{put_cells}
use Rattle.page_codec.proofs.SoundErase.{live_count_same}
use Rattle.collector.specs.Collections.{copy_of}
use Rattle.collector.specs.Inside.{Scanned, Inside, Begun, number_of}
use Rattle.collector.specs.Says.{SaysSame}
use Rattle.collector.specs.Steps.{PutsDrawn, copied_header}
use Rattle.collector.specs.Store.{Store, store, Holds}
use Rattle.collector.proofs.Committed.{live_so}
use Rattle.collector.proofs.Copying.{PutsCopy, copy_leaves_live, copy_leaves_others, one_copy_more}
use Rattle.collector.proofs.Elsewhere.{said_stays, rows_stay}
use Rattle.collector.proofs.Passing.{count_take, count_few, length_push}
use Rattle.collector.proofs.Says.{cells_there, put_says}
use Rattle.collector.proofs.Reaching.{two_slots, free_spare, live_is, fresh_now, marked_next}

-- The put of the copy of the live record at the cursor.
pub record Copies (g : Geometry) (meaning : Meaning) (victim spare : ℕ) (start now : Store) (cursor : ℕ) (records : List Placed) (x : Placed) (new : DieState) (after : BookValue)
    (next : ℕ) : Type 0 where
  pub begun : Begun g victim spare start
  pub inside : Inside g meaning.decoding spare start now records
  pub scanned : Scanned g start.die.cells victim cursor records
  pub live : live_record g start.die.cells x.header.sector ≡ Some x
  pub here : block_of g x.place.page ≡ victim
  pub at : number_of g x.place ≡ cursor
  pub put : PutsDrawn (SaysSame meaning now.die x.place x.header (spare * g.pages + length records)) spare (spare * g.pages + length records) (copied_header x.header now.seq)
      now.die now.book now.seq new after next
  pub kept : Kept now.die new
  pub shaped : IsShaped now.die
  pub shaped_new : IsShaped new
  pub bytes : meaning.page_bytes ≡ g.main_bytes
  pub span : meaning.span ≡ g.span
  pub decodes : Decodes meaning
  pub small : x.header.sector < 2 ^ 32

module _ (g : Geometry) (meaning : Meaning) (victim spare : ℕ) (start now : Store) (cursor : ℕ) (records : List Placed) (x : Placed) (new : DieState) (after : BookValue) (next : ℕ)
    (c : Copies g meaning victim spare start now cursor records x new after next) where
  one_slot : 1 ≤ g.generations
  one_slot = omega (arith, two_slots g meaning.decoding victim spare start c.begun)

  -- there is a page left
  pub more_live : length records + 1 ≤ live_at start.book victim
  more_live = omega (
    arith,
    c.scanned.count,
    count_take g start.die.cells victim one_slot cursor x c.live c.here c.at,
    count_few g start.die.cells victim c.begun.some_pages one_slot (cursor + 1),
    live_is g meaning.decoding victim spare start c.begun,
  )

  pub room : length records < g.pages
  room = omega (arith, more_live, c.begun.few)

  few_pages : g.pages ≤ 128
  few_pages = omega (arith, c.begun.tables.kept.few_pages, c.begun.tables.sizes.pages)

  page_in : spare * g.pages + length records < page_count g
  page_in = let more : spare + 1 ≤ g.blocks = omega (arith, c.begun.spare_there) in omega (arith, room, mul-le-mul_right g.pages more, suc-mul spare g.pages)

  shape_now : now.die.shape ≡ shape_of g
  shape_now = c.inside.holds.kept.shape ∙ c.begun.shape

  header_is : copied_header x.header now.seq ≡ (copy_of g spare start.seq x (length records)).header
  header_is = ap (λ (n : ℕ). copied_header x.header n) c.inside.seq

  is_header : IsHeader (copy_of g spare start.seq x (length records)).header
  is_header = record {
    sector = c.small;
    seq = omega (arith, c.begun.fresh, room, few_pages);
    least_kind = at_least (says_zeros x.header);
    greatest_kind = at_most (says_zeros x.header);
  }
    where
      at_least : (t : Bool) → 1 ≤ (if t then 4 else 2)
      at_least true = omega arith
      at_least false = omega arith

      at_most : (t : Bool) → (if t then 4 else 2) ≤ 4
      at_most true = omega arith
      at_most false = omega arith

  cells_put : PutsCells g (copy_of g spare start.seq x (length records)).place (copy_of g spare start.seq x (length records)).header now.die.cells new.cells
  cells_put = subst (λ (h : Header). PutsCells g (first_slot (spare * g.pages + length records)) h now.die.cells new.cells) header_is
      (put_cells g (first_slot (spare * g.pages + length records)) (copied_header x.header now.seq) now.die new c.put.put shape_now c.kept.shape c.shaped c.shaped_new page_in
      (omega (arith, one_slot)))

  keeps : Keeps g (copy_of g spare start.seq x (length records)).place (copy_of g spare start.seq x (length records)).header now.die.cells new.cells
  keeps = subst (λ (h : Header). KeepsRecords (first_slot (spare * g.pages + length records)) h now.die new) header_is c.put.records g
      (record { shape = shape_now; page = page_in; slot = omega (arith, one_slot) }) is_header

  puts_copy : PutsCopy g meaning.decoding spare start.seq start.die.cells now.die.cells new.cells records x
  puts_copy = record {
    taking = c.inside.taking;
    put = cells_put;
    only = λ page apart. c.put.put.others page (elim (cases_lt page (spare * g.pages + length records)) [ inl before ↦ inl before | inr past ↦ inr (omega (arith, apart, past)) ]);
    header = is_header;
    sector = (live_so g start.die.cells x.header.sector x c.live).so.sector;
    room = room;
    there = c.begun.spare_there;
    one = one_slot;
  }

  live_after : (sector : ℕ) → live_record g new.cells sector ≡ live_record g start.die.cells sector
  live_after = copy_leaves_live g meaning.decoding spare start.seq start.die.cells now.die.cells new.cells records x puts_copy

  others_after : (page : ℕ) → block_of g page ≢ spare → page_at new.cells page ≡ page_at start.die.cells page
  others_after = copy_leaves_others g meaning.decoding spare start.seq start.die.cells now.die.cells new.cells records x puts_copy

  -- all sectors stay, also where the put is torn
  pub rows_after : stored g meaning.decoding new.cells ≡ stored g meaning.decoding start.die.cells
  rows_after = rows_stay g meaning.decoding start.die.cells new.cells spare others_after live_after (free_spare g meaning.decoding victim spare start c.begun)

  fresh : IsFresh g now.die.cells (copy_of g spare start.seq x (length records)).header
  fresh other k e = fresh_now g meaning.decoding victim spare start c.begun now records c.inside other k e

  pub holds_after : Holds g start (store new now.table after next)
  holds_after = record {
    kept = kept_trans c.inside.holds.kept c.kept;
    pads = λ none. keeps.pads (c.inside.holds.pads none);
    sound = λ sound.
        let was : IsSound g now.die.cells = c.inside.holds.sound sound in
        record {
          below_valid = keeps.sound.header_cells was.below_valid;
          seqs_differ = keeps.sound.different_seqs fresh was.seqs_differ;
          one_free = (
            was.one_free.0,
            was.one_free.1,
            live_count_same g now.die.cells new.cells (λ sector. live_after sector ∙ sym (c.inside.taking.live sector)) was.one_free.0 ∙ was.one_free.2,
          );
          small_seqs = keeps.sound.bounded_seqs (2 ^ 62 + 2 ^ 20) (omega (arith, c.begun.fresh, room, few_pages)) was.small_seqs;
        };
    seqs = omega (arith, c.inside.seq, c.put.drawn);
    drew = λ either place h e.
        elim (header_after g (copy_of g spare start.seq x (length records)).place (copy_of g spare start.seq x (length records)).header now.die.cells new.cells cells_put is_header place h e) [
          | inl stood ↦ elim (c.inside.holds.drew (back either) place h stood) [
            | inl was ↦ inl was
            | inr drawn ↦ inr (drawn.0, omega (arith, drawn.1, c.put.drawn))
          ]
          | inr own ↦ inr (omega (arith, ap (λ (z : Header). z.seq) own.1), omega (arith, ap (λ (z : Header). z.seq) own.1, c.put.drawn, c.inside.seq))
        ];
  }
    where
      back : IsSound g start.die.cells ⊎ Stayed start.die.change_faults new.change_faults → IsSound g start.die.cells ⊎ Stayed start.die.change_faults now.die.change_faults
      back (inl sound) = inl sound
      back (inr stayed) = inr (omega (arith, stayed, c.kept.change_faults))

  -- the copies before changed nothing of what the record says
  said_before : said_by g meaning.decoding now.die.cells (Some x) ≡ said_by g meaning.decoding start.die.cells (Some x)
  said_before = said_stays g meaning.decoding start.die.cells now.die.cells spare c.inside.taking.others x
      (live_so g start.die.cells x.header.sector x c.live).so.holds (λ here. c.begun.apart (sym c.here ∙ here))

  module _ (gated : is_gated new (first_slot (spare * g.pages + length records)) ≡ true) where
    -- the copy says what the record says
    copy_says : said_by g meaning.decoding new.cells (Some (copy_of g spare start.seq x (length records))) ≡ said_by g meaning.decoding start.die.cells (Some x)
    copy_says =
        ap (λ (h : Header). said_by g meaning.decoding new.cells (Some (record { place = first_slot (spare * g.pages + length records); header = h }))) (sym header_is)
        ∙ (put_says g meaning x.place x.header (copied_header x.header now.seq) (spare * g.pages + length records) now.die new c.put.put shape_now c.bytes c.span gated
        c.decodes (still (says_zeros x.header))
        ∙ said_before)
      where
        still : (t : Bool) → says_zeros (record { sector = x.header.sector; seq = now.seq; kind = if t then 4 else 2 }) ≡ t
        still true = refl
        still false = refl

    -- in the cells of a first write
    copy_cells : InCells g meaning.decoding new.cells (spare * g.pages + length records) x.header (said_by g meaning.decoding start.die.cells (Some x))
    copy_cells = subst (InCells g meaning.decoding new.cells (spare * g.pages + length records) x.header) said_before
        (cells_there g meaning x.place x.header (copied_header x.header now.seq) (spare * g.pages + length records) now.die new c.put.put shape_now c.bytes c.span gated)

  -- Behind its gate.
  pub inside_after : is_gated new (first_slot (spare * g.pages + length records)) ≡ true → Inside g meaning.decoding spare start (store new now.table after next) (records ++ x ∷ [])
  inside_after gated = record {
    taking = one_copy_more g meaning.decoding spare start.seq start.die.cells now.die.cells new.cells records x puts_copy charged (copy_says gated) (copy_cells gated);
    table = c.inside.table;
    book = inr (c.put.marked ∙ marked_next g meaning.decoding victim spare start c.begun now records c.inside);
    seq = omega (arith, c.put.drawn, c.inside.seq, length_push records x);
    holds = holds_after;
  }
    where
      charged : is_gate_charged (spare_at g new.cells (spare * g.pages + length records)) 0 ≡ true
      charged = subst (λ (m : ℕ). is_gate_charged (drop m (page_of new (spare * g.pages + length records))) 0 ≡ true) (ap (λ (s : Shape). s.main_bytes) (c.kept.shape ∙ shape_now)) gated
