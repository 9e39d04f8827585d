-- What a die knows that was opened.
use Rattle.std.proofs.Common.{◌≡◌, ℕ, ◌+◌, ◌-◌, ◌<◌, Bool, true, false, length, drop, refl, ap, sym, subst, ◌∙◌, arith, get_or, ◌||◌, replicate}
use Rattle.std.specs.Prelude.{nat_le}
use Rattle.std.specs.List.{range_with_len, count_by}
use Rattle.std.proofs.lemmas.Bool.{false≢true, lt-leb}
use Rattle.std.proofs.lemmas.List.{length-replicate, length-drop, get_or-drop}
use Rattle.cell_die.specs.declared.shape.Shape.{Shape}
use Rattle.cell_die.specs.DieState.{DieState, IsShaped}
use Rattle.spare_die.specs.declared.book.Book.{Book}
use Rattle.spare_die.specs.declared.tally.Tally.{Tally}
use Rattle.spare_die.specs.declared.opening.Opening.{Opening}
use Rattle.spare_die.specs.Table.{home_up_to, is_named, is_named_up_to, is_used, named_count, used_count}
use Rattle.spare_die.specs.Book.{IsOrderly, IsBookOf, IsCounted}
use Rattle.spare_die.specs.Opening.{FitsShape, SparesUpTo, IsSoundTable, IsFresh, IsFreshTally, StartsAt, OnlyReads, Told}
use Rattle.spare_die.proofs.Counting.{count_flags}
use Rattle.spare_die.proofs.Facts.{LeavesFree, room_counted}
use Rattle.spare_die.proofs.Pages.{orderly_passed}
use Rattle.spare_die.proofs.Telling.{homes_of_sound, page_same, inside_read, told_read}

-- before the first page
pub told_none : (inner : DieState) (logical : ℕ) (opening : Opening) → IsFresh inner.shape logical opening → Told inner logical 0 opening
unfolding home_up_to is_named_up_to
told_none inner logical opening fresh = record {
  rows = record { homes = fresh.homes_long; taken = fresh.taken_long; used = fresh.used_long };
  sound = record {
    logical_inside = λ page below. absurd (omega arith);
    inner_past = λ page below. absurd (omega arith);
    inner_inside = λ page below. absurd (omega arith);
    apart = λ page later first below. absurd (omega arith);
    order = λ blank gated first below. absurd (omega arith);
  };
  homes = fresh.homes;
  taken = λ block below. fresh.taken block below ∙ sym (or_none (nat_le block logical));
  used = λ page below. absurd (omega arith);
  reach = λ past. omega (arith, fresh.blank);
  blank = λ below. absurd (omega arith);
  used_below = λ page below. absurd (omega arith);
} where
  or_none : (b : Bool) → (b || false) ≡ b
  or_none true = refl
  or_none false = refl

-- the whole table
pub book_told : {inner : DieState} {logical : ℕ} {opening : Opening} → Told inner logical inner.shape.pages opening → IsBookOf inner logical opening.book
book_told {inner} {logical} {opening} told = record { homes = told.homes; taken = told.taken; used = told.used }

pub sound_told : {inner : DieState} {logical : ℕ} {opening : Opening} → Told inner logical inner.shape.pages opening → SparesUpTo inner logical inner.shape.blocks → IsSoundTable inner logical
sound_told {inner} {logical} {opening} told spares = record { entries = told.sound; spares = spares }

-- the counts at the opening are those of the table
counted_told : {inner : DieState} {logical : ℕ} {opening : Opening} {tally : Tally} → Told inner logical inner.shape.pages opening → FitsShape inner.shape logical
    → IsFreshTally opening.book logical tally → IsCounted inner logical tally
counted_told {inner} {logical} {opening} {tally} told fits fresh = record {
  named =
      let rest : length (drop (logical + 1) opening.book.taken.items) ≡ inner.shape.blocks - (1 + logical) = omega (arith, length-drop (logical + 1) opening.book.taken.items, told.rows.taken) in
      let flags : count_by (λ (b : Bool). b) (drop (logical + 1) opening.book.taken.items) ≡ count_by (is_named inner)
      (range_with_len (1 + logical) (length (drop (logical + 1) opening.book.taken.items)))
      = count_flags (is_named inner) (drop (logical + 1) opening.book.taken.items) (1 + logical) (λ k below. flag k (omega (arith, rest))) in
      let all : count_by (is_named inner) (range_with_len (1 + logical) (length (drop (logical + 1) opening.book.taken.items))) ≡ named_count inner logical
      = ap (λ n. count_by (is_named inner) (range_with_len (1 + logical) n)) rest in
      omega (arith, flags, all, fresh.named, fresh.written);
  used =
      let flags : count_by (λ (b : Bool). b) opening.book.used.items ≡ count_by (is_used inner) (range_with_len 0 (length opening.book.used.items))
      = count_flags (is_used inner) opening.book.used.items 0 (λ k below. told.used k (omega (arith, told.rows.used)) ∙ ap (is_used inner) (omega arith)) in
      let all : count_by (is_used inner) (range_with_len 0 (length opening.book.used.items)) ≡ used_count inner
      = ap (λ n. count_by (is_used inner) (range_with_len 0 n)) told.rows.used in
      omega (arith, flags, all, fresh.pages, fresh.written);
} where
  flag : (k : ℕ) → k < inner.shape.blocks - (1 + logical) → get_or (drop (logical + 1) opening.book.taken.items) k true ≡ is_named inner (1 + logical + k)
  flag k below =
      get_or-drop (logical + 1) opening.book.taken.items k true
      ∙ (ap (λ n. get_or opening.book.taken.items n true) (omega arith)
      ∙ (told.taken (1 + logical + k) (omega arith)
      ∙ ap (λ (b : Bool). b || is_named inner (1 + logical + k)) (lt-leb (1 + logical + k) logical (omega arith))))

pub orderly_told : {inner : DieState} {logical : ℕ} {opening : Opening} {tally : Tally} (bad_erases : ℕ) → Told inner logical inner.shape.pages opening → SparesUpTo inner logical inner.shape.blocks
    → FitsShape inner.shape logical
    → IsFreshTally opening.book logical tally → tally.erases.items ≡ replicate logical 0 → IsOrderly inner bad_erases logical opening.book tally
orderly_told {inner} {logical} {opening} {tally} bad_erases told spares fits fresh erases = record {
  homes = homes_of_sound fits told.sound;
  rows = told.rows;
  erases = ap length erases ∙ length-replicate logical 0;
  bad = omega (arith, fresh.bad);
  written = omega (arith, fresh.written);
  room = room_counted (counted_told told fits fresh);
  table = λ sound. record { spares = λ block page past inside free here. spares block past inside free page here; order = told.sound.order };
  true_book = λ sound. book_told told;
  counted = λ sound. counted_told told fits fresh;
  no_reads = λ running. fresh.read_faults;
  no_changes = λ running. fresh.change_faults;
  used_up = λ e. absurd (false≢true (sym fresh.stopped ∙ e));
  bad_more = λ e. absurd (false≢true (sym fresh.stopped ∙ e));
  own_counted = λ e. absurd (false≢true (sym fresh.stopped ∙ e));
}

-- and after the reads
pub orderly_opened : {inner new : DieState} {bad_erases bad_erases' logical : ℕ} {book : Book} {tally : Tally} → IsShaped inner → OnlyReads inner new → IsOrderly inner bad_erases logical book tally
    → bad_erases' ≡ bad_erases
    → IsOrderly new bad_erases' logical book tally
orderly_opened {inner} {new} {bad_erases} {bad_erases'} {logical} {book} {tally} shaped reads o bad =
    let leaves : LeavesFree inner new logical = record {
      shaped = shaped;
      shape = reads.shape;
      table = λ page below. page_same page (inside_read reads);
      spares = λ block page past inside free here. page_same page (inside_read reads);
    } in
    orderly_passed tally.stopped refl o leaves reads.change_faults bad

-- the whole table is told after reads too
pub told_whole : {inner new : DieState} {logical : ℕ} {opening : Opening} → OnlyReads inner new → Told inner logical inner.shape.pages opening → Told new logical new.shape.pages opening
told_whole {inner} {new} {logical} {opening} reads told =
    subst (λ (n : ℕ). Told new logical n opening) (ap (λ (shape : Shape). shape.pages) (sym reads.shape)) (told_read (inside_read reads) told)

-- the counts begin at the numbers of the table
pub starts : {inner : DieState} {bad_erases logical : ℕ} {book counts : Book} {tally : Tally} → IsOrderly inner bad_erases logical book tally → IsFreshTally counts logical tally
    → tally.erases.items ≡ replicate logical 0 → StartsAt inner logical tally
starts {inner} {bad_erases} {logical} {book} {counts} {tally} o fresh erases =
    let counted : IsCounted inner logical tally = o.counted (λ stopped. absurd (false≢true (sym fresh.stopped ∙ stopped))) in record {
      erases = erases;
      read_faults = fresh.read_faults;
      change_faults = fresh.change_faults;
      bad = fresh.bad;
      written = fresh.written;
      stopped = fresh.stopped;
      named = omega (arith, counted.named, fresh.written);
      pages = omega (arith, counted.used, fresh.written);
    }
