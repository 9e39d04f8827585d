-- An idle call, from its moves and the recycling that follows to the contract.
use Rattle.std.proofs.Common.{◌≡◌, ◌⊎◌, inl, inr, ℕ, ◌+◌, ◌*◌, ◌<◌, ◌≤◌, Bool, true, false, List, [], ◌∷◌, ◌++◌, Option, refl, sym, ap, ◌∙◌, subst, arith}
use Rattle.std.proofs.lemmas.List.Elements.{All-push}
use Rattle.std.proofs.lemmas.Bool.{false≢true}
use Rattle.cell_die.specs.Counts.{count_sum}
use Rattle.cell_die.proofs.Sequences.{change_failed_within}
use Rattle.cell_die.specs.Calls.{PassedWithin, ReadFailed, ChangeFailed}
use Rattle.sector_map.specs.declared.entry.Entry.{Entry}
use Rattle.block_state.specs.Book.{BookValue}
use Rattle.block_state.specs.Victim.{IsIdleVictim}
use Rattle.reuse_pool.specs.Recycling.{Recycles}
use Rattle.page_codec.specs.Geometry.{Geometry, units}
use Rattle.page_codec.specs.Records.{live_record}
use Rattle.page_codec.specs.Sectors.{stored}
use Rattle.page_codec.specs.TrueBook.{IsTrueBook}
use Rattle.mount_scan.proofs.TrueRun.{true_book_by_run}
use Rattle.collector.specs.Moves.{IsRoom, MoveReadFailed, MoveChangeFailed}
use Rattle.rssd_core.specs.Calls.{move_reads}
use Rattle.collector.specs.Store.{Store, IsTrueStore}
use Rattle.collector.specs.Store as stores
use Rattle.rssd_core.specs.BookChanges.{Change, Offers, Leads, is_idle}
use Rattle.rssd_core.specs.DeviceValue.{Numbers, DeviceView, DeviceValue}
use Rattle.rssd_core.specs.Idle.{MovesRun, MovesEnded, MovesFailed}
use Rattle.rssd_core.specs.IdleRule.{IdleMoves, MoveUnread, MoveBroken, IdleUnfinished}
use Rattle.rssd_core.specs.Outcomes.{Holds, Idled, IdleFault, IdleMay}
use Rattle.rssd_core.specs.Within.{Finished}
use Rattle.rssd_core.proofs.Chained.{holds_trans, leads_append, leads_one, no_cut_came, change_failed_then, cut_later, cut_within, read_failed_no_cut}
use Rattle.rssd_core.proofs.IdleCalls.{read_failed_then}
use Rattle.rssd_core.proofs.ByRule.{moment, rule_none}
use Rattle.rssd_core.proofs.IdleLeft.{none_left_after, none_left_by, room_is}
use Rattle.rssd_core.proofs.IdleRun.{FillsOnly, RanByRule, run_holds, run_rows, run_seq, run_tables, run_calls, run_erases, few_reads, some_pages, run_fills, run_order, run_by_rule, run_few}
use Rattle.rssd_core.proofs.WroteFirst.{view_at, moves_seq}

-- a device over a store, with these tallies
abbrev pub device_at : Numbers → Store → ℕ → ℕ → ℕ → ℕ → Bool → DeviceValue
device_at d s first second declined moved stopped = record { numbers = d; view = view_at s first second declined moved; stopped = stopped }

-- the store with another book
abbrev pub with_book : Store → BookValue → Store
with_book s book = record s { book = book }

-- ---- what the call keeps

-- the recycling that ends a call
pub holds_running : (d : Numbers) (old new : Store) (book : BookValue) (first second declined moved first' second' declined' moved' : ℕ) (stopped : Bool) → 0 < units d.geometry
    → stores.Holds d.geometry old new → IsTrueStore d.geometry new → Recycles d.reuse_max new.book book
    → Holds d (device_at d old first second declined moved stopped) (device_at d (with_book new book) first' second' declined' moved' false)
holds_running d old new book first second declined moved first' second' declined' moved' stopped some holds t recycles = record {
  numbers = refl;
  kept = holds.kept;
  no_pad = holds.pads;
  sound = holds.sound;
  true_book = λ running. subst (λ (table : List (Option Entry)). IsTrueBook d.geometry d.reuse_max new.die.cells book table new.seq) t.entries
      (true_book_by_run d.geometry new.die.cells new.table new.seq d.reuse_max new.book book some recycles t);
}

pub holds_stopped : (d : Numbers) (old new : Store) (first second declined moved first' second' declined' moved' : ℕ) (stopped : Bool)
    → stores.Holds d.geometry old new
    → Holds d (device_at d old first second declined moved stopped) (device_at d new first' second' declined' moved' true)
holds_stopped d old new first second declined moved first' second' declined' moved' stopped holds = record {
  numbers = refl;
  kept = holds.kept;
  no_pad = holds.pads;
  sound = holds.sound;
  true_book = λ running. absurd (never running);
}
  where
    never : true ≡ false → ⊥
    never e = false≢true (sym e)

-- ---- the moves

module _ (d : Numbers) (k : ℕ) (old mid : Store) (t : IsTrueStore d.geometry old) (run : MovesRun d.geometry d.meaning.decoding k old mid) where
  calls : PassedWithin (2 * k) (k * move_reads d.geometry) old.die mid.die
  calls = run_calls d.geometry d.meaning.decoding k old mid run t

  abbrev fills : FillsOnly old.book mid.book
  fills = run_fills d.geometry d.meaning.decoding k old mid run t

  few : k ≤ 128
  few = run_few d k old mid run t

  seq_is : mid.seq ≡ old.seq + k
  seq_is = run_seq d.geometry d.meaning.decoding k old mid run

  -- the sectors that moved
  moves : (first second declined moved moved' : ℕ) (book : BookValue) → Recycles d.reuse_max mid.book book
      → IdleMoves d (view_at old first second declined moved) (view_at (with_book mid book) first second declined moved') k
  moves first second declined moved moved' book recycles = elim (run_order d k old mid run t) [
    | inr o ↦ record {
      sectors = o.sectors;
      count = o.count;
      block = o.block;
      fill = o.fill;
      active = λ some. o.active;
      in_order = record { distinct = o.distinct; moved = o.moved; others = o.others };
      book = mid.book;
      by_rule = o.by_rule;
      recycled = recycles;
    }
    | inl none ↦ record {
      sectors = [];
      count = sym none.0;
      block = 0;
      fill = 0;
      active = λ some. absurd (omega (arith, none.0));
      in_order = record {
        distinct = λ i j before within. absurd (omega arith);
        moved = λ i within. absurd (omega arith);
        others = λ sector apart. subst (λ (s : Store). live_record d.geometry s.die.cells sector ≡ live_record d.geometry old.die.cells sector) none.1 refl;
      };
      book = mid.book;
      by_rule = rule_none d (moment old) (moment mid) (ap moment (sym none.1));
      recycled = recycles;
    }
  ]

  -- the book by the moves, and then by the recycling
  abbrev recycled_changes : List Change
  recycled_changes = (run_fills d.geometry d.meaning.decoding k old mid run t).changes ++ Offers ∷ []

  leads_recycled : (book : BookValue) → Recycles d.reuse_max mid.book book → Leads d.reuse_max old.book recycled_changes book
  leads_recycled book recycles = leads_append d.reuse_max old.book mid.book book fills.changes (Offers ∷ []) (fills.leads d.reuse_max) (leads_one d.reuse_max mid.book book Offers recycles)

  idle_recycled : IdleMay recycled_changes
  idle_recycled = All-push (λ change. is_idle change ≡ true) fills.changes Offers fills.idle refl

-- ---- no call failed

pub idled : (d : Numbers) (n k : ℕ) (old new : Store) (book : BookValue) (first second declined moved : ℕ) (stopped : Bool) → IsTrueStore d.geometry old
    → MovesEnded d.geometry d.meaning.decoding n k old new → Recycles d.reuse_max new.book book
    → Idled d n k (device_at d old first second declined moved stopped) (device_at d (with_book new book) first second declined (count_sum moved k) false)
idled d n k old new book first second declined moved stopped t e recycles = record {
  rows = run_rows d.geometry d.meaning.decoding k old new e.run;
  at_most = e.at_most;
  all = λ less. elim (e.all less) [
    | inl left ↦ inl (none_left_after d.reuse_max new.book book recycles left)
    | inr spent ↦ inr spent
  ];
  moves = moves d k old new t e.run first second declined moved (count_sum moved k) book recycles;
  erases = run_erases d.geometry d.meaning.decoding k old new e.run;
  calls = calls d k old new t e.run;
  book = record {
    changes = recycled_changes d k old new t e.run;
    leads = leads_recycled d k old new t e.run book recycles;
    may = idle_recycled d k old new t e.run;
    rise = k;
    rises = refl;
    tally = refl;
    at_cut = λ power came. absurd (no_cut_came (2 * k) (k * move_reads d.geometry) old.die new.die (calls d k old new t e.run) power came);
  };
  seq = moves_seq d old new (view_at old first second declined moved) (view_at (with_book new book) first second declined (count_sum moved k)) refl refl refl refl
      (run_holds d.geometry d.meaning.decoding k old new e.run) (omega (arith, seq_is d k old new t e.run, few d k old new t e.run));
  counts = record { first = refl; second = refl; declined = refl };
  running = refl;
}

-- ---- a call failed

-- the room that an idle victim fits has a page
room_pages : (g : Geometry) (s : Store) → IsTrueStore g s → (room victim : ℕ) → IsRoom s.book room → IsIdleVictim s.book room victim → 0 < g.pages
room_pages g s t room victim (inl (block, fill, active, is)) fits = some_pages g s block fill t active
room_pages g s t room victim (inr (none, empty)) fits = absurd (omega (arith, fits.0.enough, fits.1, empty))

-- the moves that were finished, and the one that was not
unfinished : (d : Numbers) (n k : ℕ) (old new : Store) (Failed : Store → Type 0) (first second declined moved : ℕ) (after : DeviceView) → IsTrueStore d.geometry old
    → (e : MovesFailed d.geometry d.meaning.decoding n k old new Failed) → Finished (view_at old first second declined moved) after k
    → MoveUnread d (moment e.mid) after ⊎ MoveBroken d (moment e.mid) after → IdleUnfinished d n (view_at old first second declined moved) after
unfinished d n k old new Failed first second declined moved after t e finished how = record {
  sectors = ran.sectors;
  some_left = subst (λ (made : ℕ). made < n) (sym ran.count) e.some_left;
  finished = subst (λ (made : ℕ). Finished (view_at old first second declined moved) after made) (sym ran.count) finished;
  mid = moment e.mid;
  by_rule = ran.by_rule;
  one_more = λ none. elim none [
    | inl fits ↦ e.one_more (none_left_by e.mid.book (run_tables d.geometry d.meaning.decoding k old e.mid e.run t).kept fits)
    | inr spent ↦ omega (arith, e.fresh, spent)
  ];
  unfinished = how;
}
  where
    ran : RanByRule d k old e.mid
    ran = run_by_rule d k old e.mid e.run t

-- ---- a read failed

pub read_holds : (d : Numbers) (n k : ℕ) (old new : Store) (Failed : Store → Type 0) → MovesFailed d.geometry d.meaning.decoding n k old new Failed → stores.Holds d.geometry old new
read_holds d n k old new Failed e = holds_trans d.geometry old e.mid new (run_holds d.geometry d.meaning.decoding k old e.mid e.run) e.holds

-- the tables are true after the failed read
pub read_tables : (d : Numbers) (n k : ℕ) (old new : Store) → IsTrueStore d.geometry old → MovesFailed d.geometry d.meaning.decoding n k old new (λ mid. MoveReadFailed d.geometry mid new)
    → IsTrueStore d.geometry new
read_tables d n k old new t e =
    subst (IsTrueStore d.geometry) (sym e.failed.same)
    (subst (λ (cells : List (List ℕ)). stores.IsTrueStore d.geometry (record e.mid { die = record new.die { cells = cells } })) (sym e.failed.cells.cells)
    (run_tables d.geometry d.meaning.decoding k old e.mid e.run t))

pub idle_read_failed : (d : Numbers) (n k : ℕ) (old new : Store) (book : BookValue) (first second declined moved : ℕ) (stopped : Bool) → IsTrueStore d.geometry old
    → MovesFailed d.geometry d.meaning.decoding n k old new (λ mid. MoveReadFailed d.geometry mid new) → Recycles d.reuse_max new.book book
    → IdleFault d n (device_at d old first second declined moved stopped) (device_at d (with_book new book) first second declined (count_sum moved k) false)
idle_read_failed d n k old new book first second declined moved stopped t e recycles = record {
  fault = inl (record {
    changes = 2 * k + 0;
    reads = k * move_reads d.geometry + move_reads d.geometry;
    within = record { moves = k; some_left = omega (arith, e.some_left); finished = finished; changes_at_most = omega arith; reads_at_most = more_reads (move_reads d.geometry) };
    failed = failed;
    rows = ap (stored d.geometry d.meaning.decoding) e.failed.cells.cells ∙ run_rows d.geometry d.meaning.decoding k old e.mid e.run;
    running = refl;
  });
  moves = unfinished d n k old new (λ mid. MoveReadFailed d.geometry mid new) first second declined moved (view_at (with_book new book) first second declined (count_sum moved k)) t e finished
      (inl (record {
        cells = e.failed.cells;
        seq = ap (λ (s : Store). s.seq) e.failed.same;
        recycled = recycled;
        victim = e.failed.victim;
        is_victim =
            subst (λ (room : ℕ). IsIdleVictim e.mid.book room e.failed.victim)
            (sym (room_is e.mid.book (run_tables d.geometry d.meaning.decoding k old e.mid e.run t).kept e.failed.room e.failed.is_room)) e.failed.is_victim;
        failed = e.failed.failed;
        by_then = e.failed.by_then;
      }));
  erases = e.failed.cells.erases ∙ run_erases d.geometry d.meaning.decoding k old e.mid e.run;
  book = record {
    changes = recycled_changes d k old e.mid t e.run;
    leads = leads_recycled d k old e.mid t e.run book recycled;
    may = idle_recycled d k old e.mid t e.run;
    rise = k;
    rises = finished;
    tally = refl;
    at_cut = λ power came. absurd (read_failed_no_cut (2 * k + 0) (k * move_reads d.geometry + move_reads d.geometry) old.die new.die failed power came);
  };
  seq = moves_seq d old new (view_at old first second declined moved) (view_at (with_book new book) first second declined (count_sum moved k)) refl refl refl refl
      (read_holds d n k old new (λ mid. MoveReadFailed d.geometry mid new) e) (omega (arith, seq_now, few d k old e.mid t e.run));
  counts = record { first = refl; second = refl; declined = refl };
}
  where
    recycled : Recycles d.reuse_max e.mid.book book
    recycled = subst (λ (v : BookValue). Recycles d.reuse_max v book) (ap (λ (s : Store). s.book) e.failed.same) recycles

    seq_now : new.seq ≡ old.seq + k
    seq_now = ap (λ (s : Store). s.seq) e.failed.same ∙ seq_is d k old e.mid t e.run

    failed : ReadFailed (2 * k + 0) (k * move_reads d.geometry + move_reads d.geometry) old.die new.die
    failed = read_failed_then (2 * k) (k * move_reads d.geometry) 0 (move_reads d.geometry) old.die e.mid.die new.die (calls d k old e.mid t e.run) e.failed.failed

    more_reads : (m : ℕ) → k * m + m ≤ (k + 1) * m
    more_reads m = omega arith

    finished : Finished (view_at old first second declined moved) (view_at (with_book new book) first second declined (count_sum moved k)) k
    finished = inl (seq_now, λ rose. omega (arith, rose, failed.change_faults))

-- ---- a change call failed

pub idle_change_failed : (d : Numbers) (n k : ℕ) (old new : Store) (first second declined moved : ℕ) (stopped : Bool) → IsTrueStore d.geometry old
    → MovesFailed d.geometry d.meaning.decoding n k old new (λ mid. MoveChangeFailed d.geometry d.meaning.decoding mid new)
    → IdleFault d n (device_at d old first second declined moved stopped) (device_at d new first second declined (count_sum moved k) true)
idle_change_failed d n k old new first second declined moved stopped t e = record {
  fault = inr (record {
    changes = 2 * k + 2;
    reads = k * move_reads d.geometry + move_reads d.geometry;
    within = record { moves = k; some_left = omega (arith, e.some_left); finished = finished; changes_at_most = omega arith; reads_at_most = more_reads (move_reads d.geometry) };
    failed = failed;
    rows = λ sound. inl (e.failed.rows ∙ run_rows d.geometry d.meaning.decoding k old e.mid e.run);
    stopped = refl;
  });
  moves = unfinished d n k old new (λ mid. MoveChangeFailed d.geometry d.meaning.decoding mid new) first second declined moved (view_at new first second declined (count_sum moved k)) t e finished
      (inr (record {
        rows = e.failed.rows;
        seq = ap (λ (s : Store). s.seq) e.failed.same;
        book = ap (λ (s : Store). s.book) e.failed.same;
        victim = e.failed.victim;
        is_victim =
            subst (λ (room : ℕ). IsIdleVictim e.mid.book room e.failed.victim)
            (sym (room_is e.mid.book (run_tables d.geometry d.meaning.decoding k old e.mid e.run t).kept e.failed.room e.failed.is_room)) e.failed.is_victim;
        first = e.failed.first;
        is_first = e.failed.is_first;
        failed = e.failed.failed;
      }));
  erases = e.failed.erases ∙ run_erases d.geometry d.meaning.decoding k old e.mid e.run;
  book = record {
    changes = (fills d k old e.mid t e.run).changes;
    leads = subst (Leads d.reuse_max old.book (fills d k old e.mid t e.run).changes) (sym (ap (λ (s : Store). s.book) e.failed.same)) ((fills d k old e.mid t e.run).leads d.reuse_max);
    may = (fills d k old e.mid t e.run).idle;
    rise = k;
    rises = finished;
    tally = refl;
    at_cut = λ power came. (
      cut_later (2 * k) (k * move_reads d.geometry) 2 (move_reads d.geometry) old.die e.mid.die new.die (calls d k old e.mid t e.run) one_failed power came,
      cut_within (2 * k + 2) (k * move_reads d.geometry + move_reads d.geometry) old.die new.die failed power came,
    );
  };
  seq = moves_seq d old new (view_at old first second declined moved) (view_at new first second declined (count_sum moved k)) refl refl refl refl
      (read_holds d n k old new (λ mid. MoveChangeFailed d.geometry d.meaning.decoding mid new) e) (omega (arith, seq_now, few d k old e.mid t e.run));
  counts = record { first = refl; second = refl; declined = refl };
}
  where
    seq_now : new.seq ≡ old.seq + k + 1
    seq_now = ap (λ (s : Store). s.seq) e.failed.same ∙ ap (λ (n : ℕ). n + 1) (seq_is d k old e.mid t e.run)

    tables : IsTrueStore d.geometry e.mid
    tables = run_tables d.geometry d.meaning.decoding k old e.mid e.run t

    one_failed : ChangeFailed 2 (move_reads d.geometry) e.mid.die new.die
    one_failed =
        change_failed_within 2 (move_reads d.geometry) (omega arith)
        (few_reads d.geometry e.mid.die.cells e.failed.victim e.failed.first
        (room_pages d.geometry e.mid tables e.failed.room e.failed.victim e.failed.is_room e.failed.is_victim) e.failed.is_first) e.failed.failed

    failed : ChangeFailed (2 * k + 2) (k * move_reads d.geometry + move_reads d.geometry) old.die new.die
    failed = change_failed_then (2 * k) (k * move_reads d.geometry) 2 (move_reads d.geometry) old.die e.mid.die new.die (calls d k old e.mid t e.run) one_failed

    more_reads : (m : ℕ) → k * m + m ≤ (k + 1) * m
    more_reads m = omega arith

    finished : Finished (view_at old first second declined moved) (view_at new first second declined (count_sum moved k)) k
    finished = inr (seq_now, failed.change_faults)
