-- A collection is an erase, if there is one, and then the copies and their seal.
use Rattle.std.proofs.Common.{◌≡◌, ◌≢◌, ◌⊎◌, inl, inr, ℕ, ◌+◌, ◌*◌, ◌^◌, ◌<◌, true, false, List, length, if◌then◌else◌, Option, Some, None, Result, Ok, Err, IfOk, refl, sym, ap, ◌∙◌, subst, arith}
use Rattle.std.specs.List.{sum_by, range_with_len}
use Rattle.std.proofs.lemmas.Bool.{cases_eq, cases_lt, false≢true}
use Rattle.std.proofs.lemmas.List.{get_or_past}
use Rattle.cell_die.specs.declared.shape.Shape.{Shape}
use Rattle.cell_die.specs.Counts.{Stayed}
use Rattle.cell_die.specs.DieState.{DieState, Failures}
use Rattle.cell_die.specs.Changed.{IsChanged}
use Rattle.cell_die.proofs.Changed.{changed_trans, told_trans}
use Rattle.cell_die.specs.Calls.{WhilePowered, Nearer, NearerWithin, Passed, PassedWithin, ChangeFailed}
use Rattle.cell_die.proofs.Sequences.{kept_trans, change_failed_after, change_failed_within, read_failed_after, read_failed_within}
use Rattle.striped.specs.Meaning.{Meaning, Decoding}
use Rattle.sector_map.specs.declared.entry.Entry.{Entry}
use Rattle.block_state.specs.declared.state.State.{State}
use Rattle.block_state.specs.declared.state.State.TheVariants.{Clean, Active, Used, Recycled, Reused, Spare}
use Rattle.block_state.specs.State.{is_closed, is_active, is_spare}
use Rattle.block_state.specs.Book.{BookValue, IsClosed, IsSpare, NoneActive, state_at, live_at, with_state}
use Rattle.page_alloc.specs.CleanPage.{IsCollectBranch}
use Rattle.page_codec.specs.declared.fault.PutFault.{PutFault}
use Rattle.page_codec.specs.declared.fault.PutFault.TheVariants.{Read, Change}
use Rattle.page_codec.specs.Geometry.{Geometry, shape_of}
use Rattle.page_codec.specs.Records.{live_record}
use Rattle.page_codec.specs.Sizes.{Sizes, Serves, ServesScheme}
use Rattle.page_codec.specs.Sectors.{InCells}
use Rattle.page_codec.specs.Sound.{IsSound, stands_in}
use Rattle.collector.specs.Collections.{Collected, CollectReadFailed, CollectChangeFailed, Marks, as_it_was, erased, copied_to, erased_and_copied_to, collection_calls, collection_reads}
use Rattle.collector.specs.Collections.{erase_calls, get_reads, nth}
use Rattle.collector.specs.Inside.{Begun, CollectEnds}
use Rattle.collector.specs.Steps.{MadeBlank, was_blank, was_erased}
use Rattle.collector.specs.Store.{Store, store, geometry_of, Holds}
use Rattle.collector.proofs.Books.{state_here, state_there, spare_within}
use Rattle.collector.proofs.Committed.{live_so}
use Rattle.collector.proofs.Rows.{said_still}
use Rattle.collector.proofs.Clearing.{SparesIn, BlankedSo, TornSo, spare_there, page_there_is}
use Rattle.collector.proofs.Settled.{settled_again}

-- the shape of a die that buffers of these sizes serve, with a scheme that they serve
pub shape_is : (shape : Shape) (meaning : Meaning) (sectors : ℕ) (sizes : Sizes) → Serves sizes shape → ServesScheme sizes meaning → shape ≡ shape_of (geometry_of shape meaning sectors)
shape_is shape meaning sectors sizes s t =
    let spare : shape.spare_bytes ≡ 16 * meaning.generations = s.spare_bytes ∙ ap (λ (n : ℕ). 16 * n) (sym t.generations) in
    λ i. record { blocks = shape.blocks; pages = shape.pages; main_bytes = shape.main_bytes; spare_bytes = spare i }

-- what holds of two runs of calls holds of both together
pub holds_after : (g : Geometry) (old mid new : Store) → Holds g old mid → Holds g mid new → Holds g old new
holds_after g old mid new first second = record {
  kept = kept_trans first.kept second.kept;
  pads = λ none. second.pads (first.pads none);
  sound = λ sound. second.sound (first.sound sound);
  seqs = omega (arith, first.seqs, second.seqs);
  drew = λ either place h e. elim (second.drew (later either) place h e) [
    | inl was ↦ elim (first.drew (earlier either) place h was) [
      | inl stood ↦ inl stood
      | inr drawn ↦ inr (drawn.0, omega (arith, drawn.1, second.seqs))
    ]
    | inr drawn ↦ inr (omega (arith, drawn.0, first.seqs), drawn.1)
  ];
}
  where
    later : IsSound g old.die.cells ⊎ Stayed old.die.change_faults new.die.change_faults → IsSound g mid.die.cells ⊎ Stayed mid.die.change_faults new.die.change_faults
    later (inl sound) = inl (first.sound sound)
    later (inr stayed) = inr (omega (arith, stayed, first.kept.change_faults))

    earlier : IsSound g old.die.cells ⊎ Stayed old.die.change_faults new.die.change_faults → IsSound g old.die.cells ⊎ Stayed old.die.change_faults mid.die.change_faults
    earlier (inl sound) = inl sound
    earlier (inr stayed) = inr (omega (arith, stayed, second.kept.change_faults))

nearer_after : (c d s : ℕ) (x y z : Failures) → Nearer c 0 x y → NearerWithin d s y z → NearerWithin (c + d) s x z
nearer_after c d s x y z near far = record {
  powered = far.powered;
  cut = omega (arith, near.cut, far.cut);
  cut_to_come = λ armed. omega (arith, near.cut_to_come armed, near.cut, far.cut_to_come (omega (arith, near.cut_to_come armed, near.cut)));
  read_failure = omega (arith, near.read_failure, far.read_failure);
  no_later = omega (arith, near.read_failure, far.no_later);
  read_failure_to_come = λ armed. far.read_failure_to_come (omega (arith, near.read_failure, armed));
  form = λ armed. far.form armed ∙ near.form (omega (arith, armed, far.cut));
}

while_after : (c d s : ℕ) (x y z : Option Failures) → WhilePowered x y (Nearer c 0) → WhilePowered y z (NearerWithin d s) → WhilePowered x z (NearerWithin (c + d) s)
while_after c d s None y z first second = tt
while_after c d s (Some a) None z first second = absurd first
while_after c d s (Some a) (Some b) None first second = second
while_after c d s (Some a) (Some b) (Some e) first second = λ powered. nearer_after c d s a b e (first powered) (second (first powered).powered)

-- change calls that passed, and then more calls
pub within_after : (c d s : ℕ) (old mid new : DieState) → Passed c 0 old mid → PassedWithin d s mid new → PassedWithin (c + d) s old new
within_after c d s old mid new first second = record {
  read_faults = second.read_faults ∙ first.read_faults;
  change_faults = second.change_faults ∙ first.change_faults;
  failures = while_after c d s old.failures mid.failures new.failures first.failures second.failures;
  changed =
      told_trans (IsChanged c old mid) (IsChanged d mid new) (IsChanged (c + d) old new) (Nearer c 0) (λ a b near. near.powered)
      (changed_trans c d old mid new) old.failures mid.failures new.failures first.failures first.changed second.changed;
}

-- ---- before the copies

closed_within : (v : BookValue) (b : ℕ) → IsClosed v b → b < length v.states
closed_within v b is = elim (cases_lt b (length v.states)) [
  | inl within ↦ within
  | inr past ↦ absurd (false≢true (sym (ap is_closed (get_or_past v.states b Clean past)) ∙ is))
]

-- a closed block is not the Spare
closed_apart : (v : BookValue) (b c : ℕ) → IsClosed v b → IsSpare v c → b ≢ c
closed_apart v b c closed spare same = at (state_at v c) (ap (λ (k : ℕ). is_closed (state_at v k)) (sym same) ∙ closed) spare
  where
    at : (s : State) → is_closed s ≡ true → is_spare s ≡ true → ⊥
    at (Spare marked) closed is = false≢true closed
    at Clean closed is = false≢true is
    at (Active fill) closed is = false≢true is
    at (Used level) closed is = false≢true is
    at (Recycled level next) closed is = false≢true is
    at Reused closed is = false≢true is

pub begun_after : (g : Geometry) (d : Decoding) (victim spare : ℕ) (old new : DieState) (book after : BookValue) (table : List (Option Entry)) (seq : ℕ) → MadeBlank spare old book new after
    → SparesIn g spare (store old table book seq) → BlankedSo g d spare (store old table book seq) (store new table after seq) → IsCollectBranch book victim spare → live_at book victim < book.pages
    → seq < 2 ^ 62
    → Begun g victim spare (store new table after seq)
begun_after g d victim spare old new book after table seq made s so branch few fresh = record {
  tables = so.tables;
  shape = so.holds.kept.shape ∙ s.shape;
  fresh = fresh;
  some_pages = page_there_is g spare (store old table book seq) s;
  victim_there = omega (arith, closed_within book victim branch.1.closed, s.tables.sizes.blocks);
  spare_there = spare_there g spare (store old table book seq) s;
  apart = closed_apart book victim spare branch.1.closed branch.3;
  closed = closed_still made;
  is_spare = so.is_spare;
  none_active = none_still made;
  few = few_still made;
}
  where
    closed_still : {new : DieState} {after : BookValue} → MadeBlank spare old book new after → IsClosed after victim
    closed_still (was_blank is) = branch.1.closed
    closed_still (was_erased new is e only kept passed) = ap is_closed (state_there book spare victim (Spare true) (closed_apart book victim spare branch.1.closed branch.3)) ∙ branch.1.closed

    none_still : {new : DieState} {after : BookValue} → MadeBlank spare old book new after → NoneActive after
    none_still (was_blank is) = branch.0.0
    none_still (was_erased new is e only kept passed) = λ block active. elim (cases_eq block spare) [
      | inl same ↦ false≢true (sym (ap is_active (ap (state_at (with_state book spare (Spare true))) same ∙ state_here book spare (Spare true) (spare_within book spare branch.3))) ∙ active)
      | inr other ↦ branch.0.0 block (sym (ap is_active (state_there book spare block (Spare true) other)) ∙ active)
    ]

    few_still : {new : DieState} {after : BookValue} → MadeBlank spare old book new after → live_at after victim < g.pages
    few_still (was_blank is) = omega (arith, few, s.tables.sizes.pages)
    few_still (was_erased new is e only kept passed) = omega (arith, few, s.tables.sizes.pages)

pub live_kept : (spare block : ℕ) (old new : DieState) (book after : BookValue) → MadeBlank spare old book new after → live_at after block ≡ live_at book block
live_kept spare block old _ book _ (was_blank is) = refl
live_kept spare block old _ book _ (was_erased new is e only kept passed) = refl

-- ---- after the copies

marks_after : (book : BookValue) (spare : ℕ) (x : BookValue) → spare < length book.states → state_at book spare ≡ Spare false → Marks (with_state book spare (Spare true)) spare x → Marks book spare x
marks_after book spare _ within is as_it_was = erased is
marks_after book spare _ within is (copied_to e) = erased_and_copied_to is
marks_after book spare _ within is (erased e) = absurd (let f : Spare true ≡ Spare false = sym (state_here book spare (Spare true) within) ∙ e in cc)
marks_after book spare _ within is (erased_and_copied_to e) = absurd (let f : Spare true ≡ Spare false = sym (state_here book spare (Spare true) within) ∙ e in cc)

calls_more : (book : BookValue) (victim spare : ℕ) → state_at book spare ≡ Spare false → state_at (with_state book spare (Spare true)) spare ≡ Spare true
    → 1 + collection_calls (with_state book spare (Spare true)) victim spare ≡ collection_calls book victim spare
calls_more book victim spare is now =
    let one : erase_calls (state_at book spare) ≡ 1 = ap erase_calls is in
    let none : erase_calls (state_at (with_state book spare (Spare true)) spare) ≡ 0 = ap erase_calls now in
    omega (arith, one, none)

reads_same : (g : Geometry) (old new : List (List ℕ)) (victim : ℕ) → ((sector : ℕ) → live_record g new sector ≡ live_record g old sector)
    → collection_reads g new victim ≡ collection_reads g old victim
reads_same g old new victim same = λ i. g.pages + sum_by (λ sector. if stands_in g victim (same sector i) then get_reads g (same sector i) else 0) (range_with_len 0 g.sectors)

pub ends_after : (g : Geometry) (d : Decoding) (victim spare : ℕ) (old mid : DieState) (book marked : BookValue) (table : List (Option Entry)) (seq : ℕ) (new : Store) (result : Result ℕ PutFault)
    → MadeBlank spare old book mid marked
    → IsSpare book spare → BlankedSo g d spare (store old table book seq) (store mid table marked seq) → CollectEnds g d victim spare (store mid table marked seq) new result
    → CollectEnds g d victim spare (store old table book seq) new result
ends_after g d victim spare old _ book _ table seq new result (was_blank is) spare_is so ends = ends
ends_after g d victim spare old _ book _ table seq new (Ok moved) (was_erased mid is e only kept passed) spare_is so ends =
    let c = ends.1 in (
      ends.0,
      record {
        records = c.records;
        are_live = record {
          live = λ i h. sym (so.live _) ∙ c.are_live.live i h;
          inside = c.are_live.inside;
          ordered = c.are_live.ordered;
          all = λ sector placed f stands. c.are_live.all sector placed (so.live sector ∙ f) stands;
        };
        count = c.count;
        copied = c.copied;
        cells = λ i h. subst (InCells g d new.die.cells (spare * g.pages + i) (nth c.records i).header)
            (said_still g d old.cells mid.cells (nth c.records i) so.rows (live_so g mid.cells (nth c.records i).header.sector (nth c.records i) (c.are_live.live i h)).within
            (c.are_live.live i h) (sym (so.live (nth c.records i).header.sector) ∙ c.are_live.live i h))
            (c.cells i h);
        others = λ sector not. c.others sector (ap (stands_in g victim) (so.live sector) ∙ not) ∙ so.live sector;
        rows = c.rows ∙ so.rows;
        book = c.book ∙ settled_again book victim spare (live_at book victim) true (spare_within book spare spare_is) (ap is_closed is);
        seq = c.seq;
        tables = c.tables;
        calls = subst (λ (n : ℕ). PassedWithin n (collection_reads g old.cells victim) old new.die) (calls_more book victim spare is so.is_spare)
            (subst (λ (n : ℕ). PassedWithin (1 + collection_calls (with_state book spare (Spare true)) victim spare) n old new.die) (reads_same g old.cells mid.cells victim so.live)
            (within_after 1 _ _ old mid new.die passed c.calls));
      },
    )
ends_after g d victim spare old _ book _ table seq new (Err Read) (was_erased mid is e only kept passed) spare_is so ends = record {
  copies = ends.copies;
  few = ends.few;
  seq = ends.seq;
  table = ends.table;
  book = marks_after book spare new.book (spare_within book spare spare_is) is ends.book;
  live = λ sector. ends.live sector ∙ so.live sector;
  rows = ends.rows ∙ so.rows;
  tables = ends.tables;
  failed = read_failed_within (collection_calls book victim spare) (collection_reads g old.cells victim)
      (omega (arith, calls_more book victim spare is so.is_spare)) (omega (arith, reads_same g old.cells mid.cells victim so.live)) (read_failed_after passed ends.failed);
}
ends_after g d victim spare old _ book _ table seq new (Err Change) (was_erased mid is e only kept passed) spare_is so ends = record {
  copies = ends.copies;
  few = ends.few;
  seq = ends.seq;
  table = ends.table;
  book = marks_after book spare new.book (spare_within book spare spare_is) is ends.book;
  rows = λ sound. ends.rows (so.holds.sound sound) ∙ so.rows;
  failed = change_failed_within (collection_calls book victim spare) (collection_reads g old.cells victim)
      (omega (arith, calls_more book victim spare is so.is_spare)) (omega (arith, reads_same g old.cells mid.cells victim so.live)) (change_failed_after passed ends.failed);
}

-- ---- the erase failed

pub erase_ends : (g : Geometry) (d : Decoding) (victim spare : ℕ) (old new : Store) → new.table ≡ old.table → new.book ≡ old.book → new.seq ≡ old.seq → TornSo g d old new
    → ChangeFailed 1 0 old.die new.die
    → CollectEnds g d victim spare old new (Err Change)
erase_ends g d victim spare old new table book seq torn failed = record {
  copies = 0;
  few = omega arith;
  seq = omega (arith, seq);
  table = table;
  book = subst (Marks old.book spare) (sym book) as_it_was;
  rows = torn.rows;
  failed = change_failed_within (collection_calls old.book victim spare) (collection_reads g old.die.cells victim) (omega arith) (omega arith) failed;
}

-- ---- by the answer

module _ (g : Geometry) (d : Decoding) (victim spare : ℕ) (old new : Store) where
  pub ends_collected : (result : Result ℕ PutFault) → CollectEnds g d victim spare old new result → IfOk result (λ n. (n ≡ live_at old.book victim) × Collected g d victim spare old new)
  ends_collected (Ok n) ends = ends
  ends_collected (Err fault) ends = tt

  pub ends_read : (result : Result ℕ PutFault) → CollectEnds g d victim spare old new result → result ≡ Err Read → CollectReadFailed g d victim spare old new
  ends_read (Ok n) ends is = absurd (cc)
  ends_read (Err Read) ends is = ends
  ends_read (Err Change) ends is = absurd (cc)

  pub ends_change : (result : Result ℕ PutFault) → CollectEnds g d victim spare old new result → result ≡ Err Change → CollectChangeFailed g d victim spare old new
  ends_change (Ok n) ends is = absurd (cc)
  ends_change (Err Read) ends is = absurd (cc)
  ends_change (Err Change) ends is = ends
