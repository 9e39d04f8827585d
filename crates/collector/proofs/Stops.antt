-- The turns of a collection: it begins, scans a page, passes a slot with or without a live record, or stops at a call that failed.
use Rattle.std.proofs.Common.{◌≡◌, ◌≢◌, inl, inr, ℕ, ◌+◌, ◌*◌, ◌%◌, ◌<◌, ◌≤◌, true, List, [], ◌∷◌, ◌++◌, length, ◌==◌, if◌then◌else◌, slice_index_or, slice_set, Some, refl, sym, ap, ◌∙◌, subst}
use Rattle.std.proofs.Common.{arith, get_or-set_same, get_or-set_other, add-zero, zero-add}
use Rattle.std.proofs.lemmas.Bool.{cases_lt}
use Rattle.std.proofs.lemmas.Nat.{mod_below}
use Rattle.cell_die.specs.Cells.{page_at, is_blank}
use Rattle.cell_die.specs.DieState.{DieState}
use Rattle.cell_die.specs.Changes.{SameCells}
use Rattle.cell_die.specs.Calls.{Kept, Passed, ChangeFailed, ReadFailed}
use Rattle.cell_die.proofs.Sequences.{passed_trans, passed_none, change_failed_after, read_failed_after, change_failed_within, read_failed_within}
use Rattle.striped.specs.Meaning.{Meaning}
use Rattle.block_state.specs.Book.{BookValue, live_at}
use Rattle.page_codec.specs.Geometry.{Geometry, block_of}
use Rattle.page_codec.specs.Puts.{first_slot, is_gated}
use Rattle.page_codec.specs.Records.{Placed, live_record}
use Rattle.page_codec.specs.Sectors.{says_zeros}
use Rattle.page_codec.specs.TrueBook.{IsTrueState, IsTrueSpare, is_block_blank}
use Rattle.collector.specs.declared.moves.Move.{Move}
use Rattle.collector.specs.Collections.{Marks, copied_to, collection_calls, collection_reads, erase_calls, get_reads}
use Rattle.collector.specs.Inside.{Taking, Reached, Begun, ReadStopped, ChangeStopped, number_of, passed_gets}
use Rattle.collector.specs.Settles.{move_of, no_move}
use Rattle.collector.specs.Steps.{copy_reads}
use Rattle.collector.specs.Store.{Store, store}
use Rattle.collector.proofs.BlankPages.{blank_header, blank_seal}
use Rattle.collector.proofs.Clearing.{holds_same}
use Rattle.collector.proofs.CopySteps.{Copies, more_live, rows_after, holds_after, inside_after}
use Rattle.collector.proofs.Passing.{length_push, nth_front, nth_last, count_few, gets_take, gets_few, gets_skip, scanned_take, scanned_skip, scanned_start, gets_start, page_is}
use Rattle.collector.proofs.Reaching.{two_slots, live_is, marks_now, marked_next, tables_now, rows_now, after_reads}
use Rattle.collector.proofs.States.{blank_pages}

module _ (g : Geometry) (meaning : Meaning) (victim spare : ℕ) (start : Store) (b : Begun g victim spare start) where
  pub one_slot : 1 ≤ g.generations
  one_slot = omega (arith, two_slots g meaning.decoding victim spare start b)

  pub calls_are : collection_calls start.book victim spare ≡ 2 * live_at start.book victim + 1
  calls_are = ap (λ (n : ℕ). n + 2 * live_at start.book victim + 1) (ap erase_calls b.is_spare) ∙ omega arith

  -- at most the live records of the victim are copied
  pub few_copies : (now : Store) (cursor pages copies : ℕ) (moves : List Move) → Reached g meaning.decoding victim spare start now cursor pages copies moves → copies ≤ live_at start.book victim
  few_copies now cursor pages copies moves r =
      omega (arith, r.copied, r.scanned.count, count_few g start.die.cells victim b.some_pages one_slot cursor, live_is g meaning.decoding victim spare start b)

  blank_start : is_block_blank g start.die.cells spare ≡ true
  blank_start = true_spare.blank refl
    where
      true_spare : IsTrueSpare g start.die.cells spare true
      true_spare = subst (IsTrueState g start.die.cells spare) b.is_spare (b.tables.states spare b.spare_there)

  -- ---- before the first copy

  taking_none : Taking g meaning.decoding spare start.seq start.die.cells start.die.cells []
  taking_none = record {
    others = λ page apart. refl;
    unsealed =
        blank_seal g start.die.cells (spare * g.pages)
        (subst (λ (q : ℕ). is_blank (page_at start.die.cells q) ≡ true) (add-zero (spare * g.pages)) (blank_pages g start.die.cells spare blank_start 0 b.some_pages));
    headers = λ place h here e. absurd (blank_header g start.die.cells place.page
        (subst (λ (q : ℕ). is_blank (page_at start.die.cells q) ≡ true) (sym (page_is g place.page spare here))
        (blank_pages g start.die.cells spare blank_start (place.page % g.pages) (mod_below place.page g.pages b.some_pages)))
        place.slot h e);
    copied = λ i h. absurd (omega arith);
    blank = λ i from within. blank_pages g start.die.cells spare blank_start i within;
    live = λ sector. refl;
  }

  pub reached_start : (moves : List Move) → Reached g meaning.decoding victim spare start start 0 0 0 moves
  reached_start moves = record {
    records = [];
    inside = record { taking = taking_none; table = refl; book = inl (refl, refl); seq = sym (add-zero start.seq); holds = holds_same g start };
    scanned = scanned_start g start.die.cells victim;
    copied = refl;
    moved = λ i h. absurd (omega arith);
    passed = subst (λ (n : ℕ). Passed 0 n start.die start.die) (sym (zero-add (passed_gets g start.die.cells victim 0) ∙ gets_start g start.die.cells victim)) (passed_none start.die);
  }

  -- ---- a page is scanned

  pub reached_scan : (now : Store) (cursor pages copies : ℕ) (moves : List Move) (new : DieState) → Reached g meaning.decoding victim spare start now cursor pages copies moves
      → SameCells now.die new → Kept now.die new → Passed 0 1 now.die new → Reached g meaning.decoding victim spare start (record now { die = new }) cursor (pages + 1) copies moves
  reached_scan now cursor pages copies moves new r same kept passed = record {
    records = r.records;
    inside = after_reads g meaning.decoding victim spare start b now r.records r.inside new same kept;
    scanned = r.scanned;
    copied = r.copied;
    moved = r.moved;
    passed = subst (λ (n : ℕ). Passed n (pages + 1 + passed_gets g start.die.cells victim cursor) start.die new) (add-zero (2 * copies))
        (subst (λ (n : ℕ). Passed (2 * copies + 0) n start.die new) (sum pages (passed_gets g start.die.cells victim cursor)) (passed_trans r.passed passed));
  }
    where
      sum : (a c : ℕ) → a + c + 1 ≡ a + 1 + c
      sum a c = omega arith

  -- ---- a read failed

  pub read_stops : (now : Store) (cursor pages copies reads : ℕ) (moves : List Move) (new : DieState) → Reached g meaning.decoding victim spare start now cursor pages copies moves
      → SameCells now.die new → Kept now.die new → ReadFailed 0 reads now.die new → pages + passed_gets g start.die.cells victim cursor + reads ≤ collection_reads g start.die.cells victim
      → ReadStopped g meaning.decoding victim spare start (record now { die = new })
  read_stops now cursor pages copies reads moves new r same kept failed few =
      let s = after_reads g meaning.decoding victim spare start b now r.records r.inside new same kept in
      let at : Store = record now { die = new } in
      record {
        holds = s.holds;
        failed = record {
          copies = length r.records;
          few = omega (arith, few_copies now cursor pages copies moves r, r.copied);
          seq = s.seq;
          table = s.table;
          book = marks_now g meaning.decoding victim spare start b at r.records s;
          live = s.taking.live;
          rows = rows_now g meaning.decoding victim spare start b at r.records s;
          tables = tables_now g meaning.decoding victim spare start b at r.records s;
          failed = read_failed_within (collection_calls start.book victim spare) (collection_reads g start.die.cells victim)
              (omega (arith, calls_are, few_copies now cursor pages copies moves r)) few (read_failed_after r.passed failed);
        };
      }

  -- ---- a slot

  pub reached_skip : (now : Store) (cursor pages copies : ℕ) (moves : List Move) → Reached g meaning.decoding victim spare start now cursor pages copies moves
      → ((sector : ℕ) (y : Placed) → live_record g start.die.cells sector ≡ Some y → block_of g y.place.page ≡ victim → number_of g y.place ≢ cursor)
      → Reached g meaning.decoding victim spare start now (cursor + 1) pages copies moves
  reached_skip now cursor pages copies moves r none = record {
    records = r.records;
    inside = r.inside;
    scanned = scanned_skip g start.die.cells victim cursor r.records none r.scanned;
    copied = r.copied;
    moved = r.moved;
    passed = subst (λ (n : ℕ). Passed (2 * copies) (pages + n) start.die now.die) (sym (gets_skip g start.die.cells victim cursor none)) r.passed;
  }

  module _ (now : Store) (cursor pages copies : ℕ) (moves : List Move) (r : Reached g meaning.decoding victim spare start now cursor pages copies moves) (x : Placed) (new : DieState)
      (after : BookValue) (next : ℕ)
      (c : Copies g meaning victim spare start now cursor r.records x new after next) where
    reads_are : copy_reads meaning x.place x.header ≡ get_reads g (Some x)
    reads_are = ap (λ (n : ℕ). if says_zeros x.header then 0 else (if x.place.slot == 0 then 1 else n)) c.span

    -- the reads so far and those of this record
    pub reads_within : pages ≤ g.pages → pages + passed_gets g start.die.cells victim cursor + copy_reads meaning x.place x.header ≤ collection_reads g start.die.cells victim
    reads_within few = omega (arith, few, reads_are, gets_take g start.die.cells victim one_slot cursor x c.live c.here c.at, gets_few g start.die.cells victim b.some_pages one_slot (cursor + 1))

    pub reached_take : is_gated new (first_slot (spare * g.pages + length r.records)) ≡ true → Passed 2 (copy_reads meaning x.place x.header) now.die new → copies < length moves
        → Reached g meaning.decoding victim spare start (store new now.table after next) (cursor + 1) pages (copies + 1) (slice_set moves copies (move_of x))
    reached_take gated passed room = record {
      records = r.records ++ x ∷ [];
      inside = inside_after g meaning victim spare start now cursor r.records x new after next c gated;
      scanned = scanned_take g start.die.cells victim one_slot cursor x c.live c.here c.at r.records r.scanned;
      copied = ap (λ (n : ℕ). n + 1) r.copied ∙ sym (length_push r.records x);
      moved = λ i h. elim (cases_lt i (length r.records)) [
        | inl was ↦ get_or-set_other moves copies i (move_of x) no_move (λ e. omega (arith, e, was, r.copied)) ∙ (r.moved i was ∙ ap move_of (sym (nth_front r.records x i was)))
        | inr past ↦ (let last : i ≡ length r.records = omega (arith, h, past, length_push r.records x) in
            ap (λ (k : ℕ). slice_index_or (slice_set moves copies (move_of x)) k no_move) (last ∙ sym r.copied)
            ∙ (get_or-set_same moves copies (move_of x) no_move room ∙ ap move_of (sym (nth_last r.records x i last))))
      ];
      passed = subst (λ (n : ℕ). Passed n (pages + passed_gets g start.die.cells victim (cursor + 1)) start.die new) (twice copies)
          (subst (λ (n : ℕ). Passed (2 * copies + 2) n start.die new)
          (sum pages (passed_gets g start.die.cells victim cursor) (copy_reads meaning x.place x.header) (passed_gets g start.die.cells victim (cursor + 1))
          (gets_take g start.die.cells victim one_slot cursor x c.live c.here c.at ∙ ap (λ (n : ℕ). passed_gets g start.die.cells victim cursor + n) (sym reads_are))) (passed_trans r.passed passed));
    }
      where
        twice : (n : ℕ) → 2 * n + 2 ≡ 2 * (n + 1)
        twice n = omega arith

        sum : (a p q t : ℕ) → t ≡ p + q → a + p + q ≡ a + t
        sum a p q t e = omega arith

    pub change_stops : pages ≤ g.pages → ChangeFailed 2 (copy_reads meaning x.place x.header) now.die new → ChangeStopped g meaning.decoding victim spare start (store new now.table after next)
    change_stops few failed = record {
      holds = holds_after g meaning victim spare start now cursor r.records x new after next c;
      failed = record {
        copies = length r.records + 1;
        few = more_live g meaning victim spare start now cursor r.records x new after next c;
        seq = c.put.drawn ∙ (ap (λ (n : ℕ). n + 1) r.inside.seq ∙ omega arith);
        table = r.inside.table;
        book = subst (Marks start.book spare) (sym (c.put.marked ∙ marked_next g meaning.decoding victim spare start b now r.records r.inside)) (copied_to b.is_spare);
        rows = λ _. rows_after g meaning victim spare start now cursor r.records x new after next c;
        failed = change_failed_within (collection_calls start.book victim spare) (collection_reads g start.die.cells victim)
            (omega (arith, calls_are, r.copied, more_live g meaning victim spare start now cursor r.records x new after next c)) (reads_within few) (change_failed_after r.passed failed);
      };
    }
