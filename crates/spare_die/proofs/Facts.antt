-- What each step of a call leaves of what the die knows.
use Rattle.std.proofs.Common.{◌≡◌, ◌≢◌, inl, ℕ, ◌+◌, ◌-◌, ◌/◌, ◌<◌, ◌≤◌, true, false, not, length, ap, ap₂, sym, ◌∙◌, arith, ◌||◌, nat_le, ⊎_elim}
use Rattle.std.specs.List.{range_with_len, count_by}
use Rattle.std.proofs.lemmas.Bool.{cases_Bool, false≢true}
use Rattle.std.proofs.lemmas.List.Sums.{count_by-le-length}
use Rattle.std.proofs.lemmas.List.FromFn.{length-range_with_len}
use Rattle.cell_die.specs.declared.shape.Shape.{Shape}
use Rattle.cell_die.specs.Cells.{is_blank, blank_page}
use Rattle.cell_die.specs.Counts.{Rose}
use Rattle.cell_die.specs.DieState.{DieState, IsShaped, page_of, page_bytes}
use Rattle.spare_die.specs.declared.book.Book.{Book}
use Rattle.spare_die.specs.declared.tally.Tally.{Tally}
use Rattle.spare_die.specs.Table.{home, HasHomes, is_named, is_named_up_to, is_used, is_gated, reserve_count}
use Rattle.spare_die.specs.SpareLaws.{home-same}
use Rattle.spare_die.specs.Tallies.{SameButErases}
use Rattle.spare_die.specs.Book.{IsOrderly, KeepsFacts, HasRows, IsOrderlyTable, IsBookOf, IsCounted}
use Rattle.spare_die.proofs.Homes.{names_ungated, home_named}
use Rattle.spare_die.proofs.Calls.{homes_stay}
use Rattle.spare_die.proofs.Counting.{count_same, count_same_range}

-- the five facts follow from what the die knows
pub keeps_facts : {inner : DieState} {bad_erases logical : ℕ} {book : Book} {tally : Tally} → IsOrderly inner bad_erases logical book tally → KeepsFacts inner bad_erases logical tally
keeps_facts {inner} {bad_erases} {logical} {book} {tally} o = record {
  bad_counted = o.bad;
  entries_bounded = o.written;
  own_explained = λ some sound. ⊎_elim
      (λ stopped. (o.used_up stopped sound, o.bad_more stopped sound))
      (λ running. absurd (omega (arith, o.no_reads running, o.no_changes running)))
      (cases_Bool tally.stopped);
  table_counted = λ sound. o.counted (λ stopped. sound);
  reads_explained = λ some sound. ⊎_elim
      (λ stopped. o.own_counted stopped sound)
      (λ running. absurd (omega (arith, o.no_reads running)))
      (cases_Bool tally.stopped);
}

-- an inner call that leaves the table and the free reserve blocks as they are, and fails no change
pub record LeavesFree (inner new : DieState) (logical : ℕ) : Type 0 where
  pub shaped : IsShaped inner
  pub shape : new.shape ≡ inner.shape
  pub table : (page : ℕ) → page < inner.shape.pages → page_of new page ≡ page_of inner page
  pub spares : (block page : ℕ) → logical < block → block < inner.shape.blocks → is_named inner block ≡ false → page / inner.shape.pages ≡ block → page_of new page ≡ page_of inner page

-- nothing is counted but erases, and those that went bad
abbrev pub SameCounted : Tally → Tally → Type 0
SameCounted old new = SameButErases old (record new { bad = old.bad })

-- names stay
pub named_same : (inner new : DieState) (block : ℕ) → new.shape ≡ inner.shape → ((page : ℕ) → page < inner.shape.pages → page_of new page ≡ page_of inner page)
    → is_named new block ≡ is_named inner block
named_same inner new block shape table =
    ap (λ (shape : Shape). is_named_up_to new block shape.pages) shape ∙ names_ungated inner new block inner.shape.pages (λ page below. inl (table page below))

pub used_same : (inner new : DieState) (page : ℕ) → page_of new page ≡ page_of inner page → is_used new page ≡ is_used inner page
used_same inner new page same = ap (λ page. not (is_blank page)) same

-- and the counts of the table
pub counted_same : {inner new : DieState} {logical : ℕ} {tally tally' : Tally} → new.shape ≡ inner.shape → ((page : ℕ) → page < inner.shape.pages → page_of new page ≡ page_of inner page)
    → SameCounted tally tally' → IsCounted inner logical tally → IsCounted new logical tally'
counted_same {inner} {new} {logical} {tally} {tally'} shape table same counted = record {
  named =
      ap (λ (shape : Shape). count_by (is_named new) (range_with_len (1 + logical) (shape.blocks - (1 + logical)))) shape
      ∙ (count_same (is_named inner) (is_named new) (range_with_len (1 + logical) (inner.shape.blocks - (1 + logical))) (λ block. named_same inner new block shape table)
      ∙ (counted.named ∙ ap₂ (λ (a b : ℕ). a + b) (sym same.named_at_opening) (sym same.written)));
  used =
      ap (λ (shape : Shape). count_by (is_used new) (range_with_len 0 shape.pages)) shape
      ∙ (count_same_range (is_used inner) (is_used new) 0 inner.shape.pages (λ page from to. used_same inner new page (table page (omega arith)))
      ∙ (counted.used ∙ ap₂ (λ (a b : ℕ). a + b) (sym same.pages_at_opening) (sym same.written)));
}

rows_same : {inner new : DieState} {logical : ℕ} {book : Book} → new.shape ≡ inner.shape → HasRows inner logical book → HasRows new logical book
rows_same {inner} {new} {logical} {book} shape rows = record { homes = rows.homes; taken = rw shape rows.taken; used = rw shape rows.used }

-- such a call leaves what the die knows
pub orderly_leaves : {inner new : DieState} {bad_erases bad_erases' logical : ℕ} {book : Book} {tally tally' : Tally} → IsOrderly inner bad_erases logical book tally → LeavesFree inner new logical
    → new.change_faults ≡ inner.change_faults → SameCounted tally tally' → tally'.written ≤ tally'.bad → (tally.written < tally.bad → tally'.written < tally'.bad) → tally'.bad ≤ bad_erases'
    → IsOrderly new bad_erases' logical book tally'
orderly_leaves {inner} {new} {bad_erases} {bad_erases'} {logical} {book} {tally} {tally'} o leaves faults same written more counted = record {
  homes = homes_stay (record { shaped = leaves.shaped; homes = o.homes; shape = leaves.shape; table = leaves.table });
  rows = rows_same leaves.shape o.rows;
  erases = same.blocks ∙ o.erases;
  bad = counted;
  written = written;
  room = rw leaves.shape (omega (arith, o.room, same.written, same.named_at_opening));
  table = λ sound. let t : IsOrderlyTable inner logical = o.table (before sound) in record {
    spares = λ block page past inside free here.
        let inside' : block < inner.shape.blocks = rw leaves.shape at inside in
        let free' : is_named inner block ≡ false = sym (named_same inner new block leaves.shape leaves.table) ∙ free in
        let here' : page / inner.shape.pages ≡ block = rw leaves.shape at here in
        leaves.spares block page past inside' free' here' ∙ (t.spares block page past inside' free' here' ∙ ap (λ (shape : Shape). blank_page (page_bytes shape)) (sym leaves.shape));
    order = λ first later apart inside blank.
        let inside' : later < inner.shape.pages = rw leaves.shape at inside in
        ap is_gated (leaves.table later inside') ∙ t.order first later apart inside' (ap is_blank (sym (leaves.table first (omega arith))) ∙ blank);
  };
  true_book = λ sound. let b : IsBookOf inner logical book = o.true_book (before sound) in record {
    homes = λ block below. b.homes block below ∙ sym (home-same inner new block leaves.shape leaves.table);
    taken = λ block below. b.taken block (rw leaves.shape at below) ∙ ap (λ named. nat_le block logical || named) (sym (named_same inner new block leaves.shape leaves.table));
    used = λ page below. let below' : page < inner.shape.pages = rw leaves.shape at below in b.used page below' ∙ sym (used_same inner new page (leaves.table page below'));
  };
  counted = λ sound. counted_same leaves.shape leaves.table same (o.counted (before sound));
  no_reads = λ running. same.read_faults ∙ o.no_reads (sym same.stopped ∙ running);
  no_changes = λ running. same.change_faults ∙ o.no_changes (sym same.stopped ∙ running);
  used_up = λ stopped sound block page past inside within free.
      let within' : page < inner.shape.pages = rw leaves.shape at within in
      used_same inner new page (leaves.table page within')
      ∙ o.used_up (sym same.stopped ∙ stopped) (sym faults ∙ sound) block page past (rw leaves.shape at inside) within' (sym (named_same inner new block leaves.shape leaves.table) ∙ free);
  bad_more = λ stopped sound. more (o.bad_more (sym same.stopped ∙ stopped) (sym faults ∙ sound));
  own_counted = λ stopped sound. rw same.change_faults (o.own_counted (sym same.stopped ∙ stopped) (sym faults ∙ sound));
} where
  before : (tally'.stopped ≡ true → new.change_faults ≡ 0) → tally.stopped ≡ true → inner.change_faults ≡ 0
  before sound stopped = sym faults ∙ sound (same.stopped ∙ stopped)

-- a change call of the inner die that fails stops the die
pub orderly_stopped : {inner new : DieState} {bad_erases bad_erases' logical : ℕ} {book : Book} {tally tally' : Tally} → IsOrderly inner bad_erases logical book tally → HasHomes new logical
    → new.shape ≡ inner.shape → Rose inner.change_faults new.change_faults → length tally'.erases.items ≡ length tally.erases.items → tally'.stopped ≡ true
    → tally'.written ≤ tally'.bad → tally'.bad ≤ bad_erases' → tally'.named_at_opening + tally'.written ≤ tally.named_at_opening + tally.written → IsOrderly new bad_erases' logical book tally'
orderly_stopped {inner} {new} {bad_erases} {bad_erases'} {logical} {book} {tally} {tally'} o homes shape rose erases stopped written counted room = record {
  homes = homes;
  rows = rows_same shape o.rows;
  erases = erases ∙ o.erases;
  bad = counted;
  written = written;
  room = rw shape (omega (arith, o.room, room));
  table = λ sound. absurd (omega (arith, sound stopped));
  true_book = λ sound. absurd (omega (arith, sound stopped));
  counted = λ sound. absurd (omega (arith, sound stopped));
  no_reads = λ running. absurd (false≢true (sym running ∙ stopped));
  no_changes = λ running. absurd (false≢true (sym running ∙ stopped));
  used_up = λ e sound. absurd (omega arith);
  bad_more = λ e sound. absurd (omega arith);
  own_counted = λ e sound. absurd (omega arith);
}

-- a page of a logical block stands in no free reserve block
pub place_not_free : (inner : DieState) (logical block other : ℕ) → other < logical → logical < block → is_named inner block ≡ false → home inner other ≢ block
place_not_free inner logical block other below past free same = ⊎_elim
    (λ own. absurd (omega (arith, sym same ∙ own)))
    (λ named. absurd (false≢true (sym free ∙ (ap (is_named inner) (sym same) ∙ named))))
    (home_named inner other inner.shape.pages)

-- not more names than reserve blocks
pub room_counted : {inner : DieState} {logical : ℕ} {tally : Tally} → IsCounted inner logical tally → tally.named_at_opening + tally.written ≤ reserve_count inner logical
room_counted {inner} {logical} {tally} counted =
    omega (
      arith,
      counted.named,
      count_by-le-length (is_named inner) (range_with_len (1 + logical) (inner.shape.blocks - (1 + logical))),
      length-range_with_len (1 + logical)
          (inner.shape.blocks - (1 + logical)),
    )
