-- What an entry that is written on the lowest-numbered blank table page leaves of what the die knows.
use Rattle.std.proofs.Common.{◌≡◌, ◌≢◌, ◌⊎◌, inl, inr, ℕ, ◌+◌, ◌-◌, ◌/◌, ◌<◌, ◌≤◌, Bool, true, false, not, List}
use Rattle.std.proofs.Common.{[], ◌∷◌, length, refl, ap, ap₂, sym, ◌∙◌, arith, ⊎_elim, ◌==◌, ◌||◌, eq-eqb, set, get_or, get_or-set_same, get_or-set_other}
use Rattle.std.specs.Prelude.{nat_le}
use Rattle.std.specs.List.{range_with_len, count_by}
use Rattle.std.proofs.Math.Nat.{div-lt_iff_lt-mul}
use Rattle.std.proofs.lemmas.Bool.{cases_Bool, cases_eq, cases_lt, false≢true, or_parts, and_parts, eqb-true, leb-false, ne_eqb}
use Rattle.std.proofs.lemmas.List.{length-set}
use Rattle.cell_die.specs.declared.shape.Shape.{Shape}
use Rattle.cell_die.specs.Cells.{is_blank, blank_page}
use Rattle.cell_die.specs.Counts.{Rose}
use Rattle.cell_die.specs.DieState.{DieState, IsShaped, page_of, page_bytes, page_count}
use Rattle.cell_die.specs.Changes.{OnlyPage}
use Rattle.spare_die.specs.declared.book.Book.{Book}
use Rattle.spare_die.specs.declared.tally.Tally.{Tally}
use Rattle.spare_die.specs.Table.{home, home_up_to, HasHomes, is_named, is_named_up_to, is_used, is_gated, named_count, used_count}
use Rattle.spare_die.specs.Book.{IsOrderly, HasRows, IsOrderlyTable, IsBookOf, IsCounted}
use Rattle.spare_die.specs.Entering.{IsEntry, IsLowest, IsBlankBlock, ReplacesHome}
use Rattle.spare_die.proofs.Calls.{homes_along}
use Rattle.spare_die.proofs.Counting.{count_one_more}
use Rattle.spare_die.proofs.Homes.{homes_ungated, named_after}
use Rattle.spare_die.proofs.Entries.{MovesHome, homes_after, blank_not_gated}
use Rattle.spare_die.proofs.Facts.{place_not_free, room_counted, orderly_stopped}
use Rattle.spare_die.proofs.Erasing.{table_block}

-- a blank row
pub blank_row : (row : List ℕ) → is_blank row ≡ true → row ≡ blank_page (length row)
blank_row [] e = refl
blank_row (x ∷ xs) e = let p = and_parts (x == 0) (is_blank xs) e in ap₂ (λ (y : ℕ) (ys : List ℕ). y ∷ ys) (eqb-true x 0 p.0) (blank_row xs p.1)

-- a page with a charged gate is not blank
pub gated_used : (row : List ℕ) → is_gated row ≡ true → is_blank row ≡ false
gated_used row gated = ⊎_elim
    (λ blank. absurd (false≢true (sym (blank_not_gated (length row)) ∙ (ap is_gated (sym (blank_row row blank)) ∙ gated))))
    (λ used. used)
    (cases_Bool (is_blank row))

not_false : (b : Bool) → not b ≡ false → b ≡ true
not_false true e = refl
not_false false e = absurd (cc)

not_true : (b : Bool) → not b ≡ true → b ≡ false
not_true true e = absurd (cc)
not_true false e = refl

-- a free reserve block and a blank table page before which none is blank
pub record EntryPlace (inner : DieState) (logical named at : ℕ) : Type 0 where
  pub shaped : IsShaped inner
  pub homes : HasHomes inner logical
  pub table : IsOrderlyTable inner logical
  pub past : logical < named
  pub inside : named < inner.shape.blocks
  pub free : is_named inner named ≡ false
  pub at_inside : at < inner.shape.pages
  pub blank : is_blank (page_of inner at) ≡ true
  pub used_below : (page : ℕ) → page < at → is_blank (page_of inner page) ≡ false

pub entry_place : {inner : DieState} {bad_erases logical named at : ℕ} {book : Book} {tally : Tally} → IsShaped inner → IsOrderly inner bad_erases logical book tally → tally.stopped ≡ false
    → IsLowest book.taken.items named → IsLowest book.used.items at → EntryPlace inner logical named at
entry_place {inner} {bad_erases} {logical} {named} {at} {book} {tally} shaped o running spare page = record {
  shaped = shaped;
  homes = o.homes;
  table = o.table sound;
  past = leb-false named logical parts.0;
  inside = named_inside;
  free = parts.1;
  at_inside = at_inside;
  blank = not_false (is_blank (page_of inner at)) (sym (b.used at at_inside) ∙ page.free);
  used_below = λ p below. not_true (is_blank (page_of inner p)) (sym (b.used p (omega (arith, at_inside))) ∙ page.below p below);
} where
  sound : tally.stopped ≡ true → inner.change_faults ≡ 0
  sound stopped = absurd (false≢true (sym running ∙ stopped))

  b : IsBookOf inner logical book
  b = o.true_book sound

  named_inside : named < inner.shape.blocks
  named_inside = omega (arith, spare.inside, o.rows.taken)

  at_inside : at < inner.shape.pages
  at_inside = omega (arith, page.inside, o.rows.used)

  parts : (nat_le named logical ≡ false) × (is_named inner named ≡ false)
  parts = or_parts (nat_le named logical) (is_named inner named) (sym (b.taken named named_inside) ∙ spare.free)

-- no page from there on is an entry
pub ungated_from : {inner : DieState} {logical named at : ℕ} (page : ℕ) → EntryPlace inner logical named at → at ≤ page → page < inner.shape.pages → is_gated (page_of inner page) ≡ false
ungated_from {inner} {logical} {named} {at} page place from inside = ⊎_elim
    (λ here. ap is_gated (ap (page_of inner) here ∙ blank_row (page_of inner at) place.blank) ∙ blank_not_gated (length (page_of inner at)))
    (λ apart. place.table.order at page (omega arith) inside place.blank)
    (cases_eq page at)

-- a call that changes nothing but the page of the entry
pub record EntryCall (inner new : DieState) (logical named at : ℕ) : Type 0 where
  pub place : EntryPlace inner logical named at
  pub shape : new.shape ≡ inner.shape
  pub only : OnlyPage at inner new

pub entry_call : {inner new : DieState} {logical named at : ℕ} → EntryPlace inner logical named at → new.shape ≡ inner.shape → OnlyPage at inner new → EntryCall inner new logical named at
entry_call place shape only = record { place = place; shape = shape; only = only }

-- one logical block has this home now, and all others theirs
record Moved (inner new : DieState) (block named : ℕ) : Type 0 where
  pub here : home new block ≡ named
  pub others : (other : ℕ) → other ≢ block → home new other ≡ home inner other

-- the book with the entry noted
pub record Noted (old new : Book) (block named at : ℕ) : Type 0 where
  pub homes : new.homes.items ≡ set old.homes.items block named
  pub taken : new.taken.items ≡ set old.taken.items named true
  pub used : new.used.items ≡ set old.used.items at true

module _ {inner new : DieState} {logical named at : ℕ} (call : EntryCall inner new logical named at) where
  -- before the entry is written, and with a part of it, nothing moves
  homes_before : is_gated (page_of new at) ≡ false → (block : ℕ) → home new block ≡ home inner block
  homes_before ungated block =
      ap (λ (shape : Shape). home_up_to new block shape.pages) call.shape
      ∙ homes_ungated inner new block inner.shape.pages (λ page below. ⊎_elim
      (λ here. inr (ungated_from page call.place (omega arith) below, ap (λ p. is_gated (page_of new p)) here ∙ ungated))
      (λ apart. inl (call.only.others page apart))
      (cases_eq page at))

  -- with all of it one block moves
  moved : {block : ℕ} → IsEntry (page_of new at) block named → Moved inner new block named
  moved {block} entry =
      let m : MovesHome inner new block named = homes_after inner new block at named call.shape call.place.at_inside
      (λ page below. call.only.others page (λ same. absurd (omega arith)))
      (λ page from inside. ungated_from page call.place from inside)
      (λ page from inside. ap is_gated (call.only.others page (λ same. absurd (omega arith))) ∙ ungated_from page call.place (omega arith) inside)
      entry.gated entry.logical entry.inner in record {
        here = ap (λ (shape : Shape). home_up_to new block shape.pages) call.shape ∙ m.here;
        others = λ other apart. ap (λ (shape : Shape). home_up_to new other shape.pages) call.shape ∙ m.others other apart;
      }

  homes_moved : {block : ℕ} → Moved inner new block named → HasHomes new logical
  homes_moved {block} m = let place : EntryPlace inner logical named at = call.place in record {
    room = rw call.shape place.homes.room;
    few_blocks = rw call.shape place.homes.few_blocks;
    few_pages = rw call.shape place.homes.few_pages;
    gate = rw call.shape place.homes.gate;
    inside = λ other below. ⊎_elim
        (λ same. let is : home new other ≡ named = ap (home new) same ∙ m.here in rw (is, call.shape) place.inside)
        (λ apart. rw (m.others other apart, call.shape) (place.homes.inside other below))
        (cases_eq other block);
    past_table = λ other below. ⊎_elim
        (λ same. let is : home new other ≡ named = ap (home new) same ∙ m.here in omega (arith, place.past))
        (λ apart. rw (m.others other apart) (place.homes.past_table other below))
        (cases_eq other block);
    apart = λ one other below below' e. ⊎_elim
        (λ same. ⊎_elim
        (λ same'. same ∙ sym same')
        (λ apart'. absurd (not_named other below' (sym (m.others other apart') ∙ (sym e ∙ (ap (home new) same ∙ m.here)))))
        (cases_eq other block))
        (λ apart. ⊎_elim
        (λ same'. absurd (not_named one below (sym (m.others one apart) ∙ (e ∙ (ap (home new) same' ∙ m.here)))))
        (λ apart'. place.homes.apart one other below below' (sym (m.others one apart) ∙ (e ∙ m.others other apart')))
        (cases_eq other block))
        (cases_eq one block);
  } where
    not_named : (other : ℕ) → other < logical → home inner other ≢ named
    not_named other below = place_not_free inner logical named other below call.place.past call.place.free

  -- to a block that is blank
  moved_blank : (block : ℕ) → home new block ≡ named → IsBlankBlock new (home new block)
  moved_blank block is = λ page here.
      let here' : page / inner.shape.pages ≡ named = ap (λ (shape : Shape). page / shape.pages) (sym call.shape) ∙ (here ∙ is) in
      call.only.others page (λ same. absurd (omega (arith, in_table, call.place.past, sym here' ∙ ap (λ p. p / inner.shape.pages) same)))
      ∙ (call.place.table.spares named page call.place.past call.place.inside call.place.free here' ∙ ap (λ (shape : Shape). blank_page (page_bytes shape)) (sym call.shape)) where
        in_table : at / inner.shape.pages < 1
        in_table = table_block inner.shape.pages at call.place.shaped.some_pages call.place.at_inside

  names_moved : {block : ℕ} (other : ℕ) → IsEntry (page_of new at) block named → is_named new other ≡ ((named == other) || is_named inner other)
  names_moved other entry =
      ap (λ (shape : Shape). is_named_up_to new other shape.pages) call.shape
      ∙ named_after inner new other at named inner.shape.pages call.place.at_inside (λ page below apart. call.only.others page apart)
      (ungated_from at call.place (omega arith) call.place.at_inside) entry.gated entry.inner

  -- the others of the table's pages and of the blocks stay
  replaces : {block : ℕ} → ((other : ℕ) → other ≢ block → home new other ≡ home inner other) → ReplacesHome inner new block
  replaces others = record { shape = call.shape; others = others; pages = λ page past. call.only.others page (λ same. absurd (omega (arith, call.place.at_inside))) }

  -- ---- an entry that failed: nothing moved, or all did

  abbrev Either : ℕ → Type 0
  Either block = (is_gated (page_of new at) ≡ false) ⊎ IsEntry (page_of new at) block named

  pub failed_replaces : {block : ℕ} → Either block → ReplacesHome inner new block
  failed_replaces (inl ungated) = replaces (λ other apart. homes_before ungated other)
  failed_replaces (inr entry) = replaces (moved entry).others

  pub failed_here : {block : ℕ} → Either block → (home new block ≡ home inner block) ⊎ IsBlankBlock new (home new block)
  failed_here {block} (inl ungated) = inl (homes_before ungated block)
  failed_here {block} (inr entry) = inr (moved_blank block (moved entry).here)

  failed_homes : {block : ℕ} → Either block → HasHomes new logical
  failed_homes (inl ungated) = homes_along call.place.homes call.shape (homes_before ungated)
  failed_homes (inr entry) = homes_moved (moved entry)

  pub orderly_failed : {bad_erases bad_erases' block : ℕ} {book : Book} {tally : Tally} → IsOrderly inner bad_erases logical book tally → Either block
      → Rose inner.change_faults new.change_faults → bad_erases' ≡ bad_erases → IsOrderly new bad_erases' logical book (record tally { stopped = true })
  orderly_failed o either rose same = orderly_stopped o (failed_homes either) call.shape rose refl refl o.written (omega (arith, o.bad)) (omega arith)

  -- ---- an entry that is written

  module _ {block : ℕ} (entry : IsEntry (page_of new at) block named) (below : block < logical) where
    pub written_replaces : ReplacesHome inner new block
    written_replaces = replaces (moved entry).others

    pub written_blank : IsBlankBlock new (home new block)
    written_blank = moved_blank block (moved entry).here

    -- the entry's page is used
    used_written : is_used new at ≡ true
    used_written = ap not (gated_used (page_of new at) entry.gated)

    rows_written : {book book' : Book} → HasRows inner logical book → Noted book book' block named at → HasRows new logical book'
    rows_written {book} {book'} rows noted = record {
      homes = ap length noted.homes ∙ (length-set book.homes.items block named ∙ rows.homes);
      taken = ap length noted.taken ∙ (length-set book.taken.items named true ∙ rw call.shape rows.taken);
      used = ap length noted.used ∙ (length-set book.used.items at true ∙ rw call.shape rows.used);
    }

    table_written : IsOrderlyTable new logical
    table_written = record {
      spares = λ spare page past inside free here.
          let here' : page / inner.shape.pages ≡ spare = ap (λ (shape : Shape). page / shape.pages) (sym call.shape) ∙ here in
          let inside' : spare < inner.shape.blocks = rw call.shape at inside in
          let free' : ((named == spare) ≡ false) × (is_named inner spare ≡ false) = or_parts (named == spare) (is_named inner spare) (sym (names_moved spare entry) ∙ free) in
          call.only.others page (λ same.
          absurd (omega (arith, table_block inner.shape.pages at call.place.shaped.some_pages call.place.at_inside, sym here' ∙ ap (λ p. p / inner.shape.pages) same)))
          ∙ (call.place.table.spares spare page past inside' free'.1 here' ∙ ap (λ (shape : Shape). blank_page (page_bytes shape)) (sym call.shape));
      order = λ first later apart inside blank.
          let inside' : later < inner.shape.pages = rw call.shape at inside in
          ⊎_elim
          (λ here. absurd (false≢true (sym (gated_used (page_of new at) entry.gated) ∙ (ap (λ p. is_blank (page_of new p)) (sym here) ∙ blank))))
          (λ other. let blank' : is_blank (page_of inner first) ≡ true = ap is_blank (sym (call.only.others first other)) ∙ blank in ⊎_elim
          (λ under. absurd (false≢true (sym (call.place.used_below first under) ∙ blank')))
          (λ over. ap is_gated (call.only.others later (λ same. absurd (omega arith))) ∙ call.place.table.order first later apart inside' blank')
          (cases_lt first at))
          (cases_eq first at);
    }

    book_written : {book book' : Book} → HasRows inner logical book → IsBookOf inner logical book → Noted book book' block named at → IsBookOf new logical book'
    book_written {book} {book'} rows b noted = record {
      homes = λ other under. ap (λ (xs : List ℕ). get_or xs other 0) noted.homes ∙ ⊎_elim
          (λ same. ap (λ n. get_or (set book.homes.items block named) n 0) same
          ∙ (get_or-set_same book.homes.items block named 0 (omega (arith, rows.homes)) ∙ (sym (moved entry).here ∙ ap (home new) (sym same))))
          (λ apart. get_or-set_other book.homes.items block other named 0 apart ∙ (b.homes other under ∙ sym ((moved entry).others other apart)))
          (cases_eq other block);
      taken = λ other under.
          let under' : other < inner.shape.blocks = rw call.shape at under in
          ap (λ (xs : List Bool). get_or xs other true) noted.taken ∙ (⊎_elim
          (λ same. ap (λ n. get_or (set book.taken.items named true) n true) same
          ∙ (get_or-set_same book.taken.items named true true (omega (arith, call.place.inside, rows.taken))
          ∙ sym (or_right (nat_le other logical) (ap (λ (x : Bool). x || is_named inner other) (eq-eqb named other (sym same))))))
          (λ apart. get_or-set_other book.taken.items named other true true apart ∙ (b.taken other under'
          ∙ ap (λ (x : Bool). nat_le other logical || (x || is_named inner other)) (sym (ne_eqb named other (λ e. apart (sym e))))))
          (cases_eq other named)
          ∙ ap (λ (x : Bool). nat_le other logical || x) (sym (names_moved other entry)));
      used = λ page under.
          let under' : page < inner.shape.pages = rw call.shape at under in
          ap (λ (xs : List Bool). get_or xs page true) noted.used ∙ ⊎_elim
          (λ same. ap (λ n. get_or (set book.used.items at true) n true) same
          ∙ (get_or-set_same book.used.items at true true (omega (arith, call.place.at_inside, rows.used)) ∙ (sym used_written ∙ ap (is_used new) (sym same))))
          (λ apart. get_or-set_other book.used.items at page true true apart
          ∙ (b.used page under' ∙ ap (λ (row : List ℕ). not (is_blank row)) (sym (call.only.others page apart))))
          (cases_eq page at);
    } where
      or_right : (a : Bool) {b : Bool} → b ≡ true → (a || b) ≡ true
      or_right true is = refl
      or_right false is = is

    -- one name more, and one page
    counted_written : {tally : Tally} → IsCounted inner logical tally → IsCounted new logical (record tally { written = tally.written + 1 })
    counted_written {tally} counted = record {
      named =
          let more : count_by (is_named new) (range_with_len (1 + logical) (inner.shape.blocks - (1 + logical))) ≡ named_count inner logical + 1
          = count_one_more (is_named inner) (is_named new) (1 + logical) (inner.shape.blocks - (1 + logical)) named
          (omega (arith, call.place.past)) (omega (arith, call.place.past, call.place.inside)) call.place.free
          (names_moved named entry ∙ ap (λ (x : Bool). x || is_named inner named) (eq-eqb named named refl))
          (λ other from to apart. names_moved other entry ∙ ap (λ (x : Bool). x || is_named inner other) (ne_eqb named other (λ e. apart (sym e)))) in
          ap (λ (shape : Shape). count_by (is_named new) (range_with_len (1 + logical) (shape.blocks - (1 + logical)))) call.shape
          ∙ omega (arith, more, counted.named);
      used =
          let more : count_by (is_used new) (range_with_len 0 inner.shape.pages) ≡ used_count inner + 1
          = count_one_more (is_used inner) (is_used new) 0 inner.shape.pages at (omega arith) (omega (arith, call.place.at_inside)) (ap not call.place.blank) used_written
          (λ page from to apart. ap (λ (row : List ℕ). not (is_blank row)) (call.only.others page apart)) in
          ap (λ (shape : Shape). count_by (is_used new) (range_with_len 0 shape.pages)) call.shape
          ∙ omega (arith, more, counted.used);
    }

    -- what the die knows then
    pub orderly_written : {bad_erases bad_erases' : ℕ} {book book' : Book} {tally : Tally} → IsOrderly inner bad_erases logical book tally → tally.stopped ≡ false
        → Noted book book' block named at → tally.written < tally.bad → bad_erases' ≡ bad_erases → IsOrderly new bad_erases' logical book' (record tally { written = tally.written + 1 })
    orderly_written {bad_erases} {bad_erases'} {book} {book'} {tally} o running noted more same = record {
      homes = homes_moved (moved entry);
      rows = rows_written o.rows noted;
      erases = o.erases;
      bad = omega (arith, o.bad);
      written = omega arith;
      room = room_counted (counted_written (o.counted before));
      table = λ sound. table_written;
      true_book = λ sound. book_written o.rows (o.true_book before) noted;
      counted = λ sound. counted_written (o.counted before);
      no_reads = λ e. o.no_reads running;
      no_changes = λ e. o.no_changes running;
      used_up = λ e. absurd (false≢true (sym running ∙ e));
      bad_more = λ e. absurd (false≢true (sym running ∙ e));
      own_counted = λ e. absurd (false≢true (sym running ∙ e));
    } where
      before : tally.stopped ≡ true → inner.change_faults ≡ 0
      before stopped = absurd (false≢true (sym running ∙ stopped))

-- the page is one of the die's, and blank
pub table_page : {inner : DieState} {logical named at : ℕ} → EntryPlace inner logical named at → at < page_count inner.shape
table_page {inner} {logical} {named} {at} place =
    (div-lt_iff_lt-mul {k = inner.shape.pages} {x = at} {y = inner.shape.blocks} place.shaped.some_pages).0
    (omega (arith, table_block inner.shape.pages at place.shaped.some_pages place.at_inside, place.homes.room))

pub blank_table_page : {inner : DieState} {logical named at : ℕ} → EntryPlace inner logical named at → page_of inner at ≡ blank_page (page_bytes inner.shape)
blank_table_page {inner} {logical} {named} {at} place = blank_row (page_of inner at) place.blank ∙ ap blank_page (place.shaped.lengths at (table_page place))
