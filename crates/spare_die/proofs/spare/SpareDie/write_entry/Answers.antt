-- The entry moves its block with its gate, and no other block.
use Rattle.std.proofs.Common.{◌≡◌, ◌++◌, ℕ, List, take, drop, length-take, length-append, length-drop, ap, sym, ◌∙◌, arith, length}
use Rattle.cell_die.specs.DieState.{page_bytes}
use Rattle.spare_die.proofs.Facts.{keeps_facts}
use Rattle.spare_die.proofs.Erasing.{few_written}
use Rattle.spare_die.proofs.Written.{entry_place, entry_call, failed_replaces, failed_here, orderly_failed, written_replaces, written_blank, orderly_written, table_page, blank_table_page}
use Rattle.spare_die.proofs.spare.SpareDie.write_entry.Goals as goal

-- a row that was written through a slice keeps its length
kept_length : (n bytes : ℕ) (old new : List ℕ) → n ≡ length old → length new ≡ length old → length old ≡ bytes → length (take n (new ++ drop (length new) old)) ≡ bytes
kept_length n bytes old new whole same long = omega (arith, length-take {A = ℕ}, length-append {A = ℕ}, length-drop {A = ℕ})

pub put_entry-requires : goal.put_entry-requires
put_entry-requires g c =
    let self = c.args.self.now in
    let place = entry_place (g.met.D.WornDie.shaped self.inner) self.orderly c.requires.running c.requires.free c.requires.blank in
    record {
      inside = table_page place;
      room = omega (arith, self.orderly.homes.gate);
      logical = omega (arith, self.orderly.homes.room, self.orderly.homes.few_blocks, c.requires.inside);
      inner = omega (arith, place.inside, self.orderly.homes.few_blocks);
      whole_page = ap length c.deref_mut.ensures.value ∙ self.whole_page;
      blank = blank_table_page place;
    }

pub overflow_add-self : goal.overflow_add-self
overflow_add-self g c = omega (arith, few_written c.args.self.now.orderly c.requires.running)

pub invariant_of-self : goal.invariant_of-self
invariant_of-self g c =
    let self = c.args.self.now in
    let e = c.put_entry.ensures in
    let place = entry_place (g.met.D.WornDie.shaped self.inner) self.orderly c.requires.running c.requires.free c.requires.blank in
    let orderly = orderly_failed (entry_call place e.kept.shape e.only_page) self.orderly c.in-Err.ensures.put_or_not c.in-Err.ensures.failed.change_faults e.same_bad in
    record {
      orderly = orderly;
      keeps = keeps_facts orderly;
      whole_page = kept_length self.entry.len (page_bytes (g.D.WornDie.state c.put_entry.new.die).shape) self.entry.items c.put_entry.new.page (self.entry.ok.0)
          (c.put_entry.auto.page ∙ ap length c.deref_mut.ensures.value) (self.whole_page ∙ ap page_bytes (sym e.kept.shape));
    }

pub returns-in-Err-clause-replaces : goal.returns-in-Err-clause-replaces
returns-in-Err-clause-replaces g c =
    let self = c.args.self.now in
    let place = entry_place (g.met.D.WornDie.shaped self.inner) self.orderly c.requires.running c.requires.free c.requires.blank in
    failed_replaces (entry_call place c.put_entry.ensures.kept.shape c.put_entry.ensures.only_page) c.in-Err.ensures.put_or_not

pub returns-in-Err-clause-moved_or_not : goal.returns-in-Err-clause-moved_or_not
returns-in-Err-clause-moved_or_not g c =
    let self = c.args.self.now in
    let place = entry_place (g.met.D.WornDie.shaped self.inner) self.orderly c.requires.running c.requires.free c.requires.blank in
    failed_here (entry_call place c.put_entry.ensures.kept.shape c.put_entry.ensures.only_page) c.in-Err.ensures.put_or_not

pub invariant_of-self-2 : goal.invariant_of-self-2
invariant_of-self-2 g c =
    let self = c.args.self.now in
    let e = c.put_entry.ensures in
    let place = entry_place (g.met.D.WornDie.shaped self.inner) self.orderly c.requires.running c.requires.free c.requires.blank in
    let orderly = orderly_written (entry_call place e.kept.shape e.only_page) c.in_default.ensures.put c.requires.inside self.orderly c.requires.running
    (record { homes = c.note.ensures.homes; taken = c.note.ensures.taken; used = c.note.ensures.used }) c.requires.bad_more e.same_bad in
    record {
      orderly = orderly;
      keeps = keeps_facts orderly;
      whole_page = kept_length self.entry.len (page_bytes (g.D.WornDie.state c.put_entry.new.die).shape) self.entry.items c.put_entry.new.page (self.entry.ok.0)
          (c.put_entry.auto.page ∙ ap length c.deref_mut.ensures.value) (self.whole_page ∙ ap page_bytes (sym e.kept.shape));
    }

pub returns-clause-replaces : goal.returns-clause-replaces
returns-clause-replaces g c =
    let self = c.args.self.now in
    let place = entry_place (g.met.D.WornDie.shaped self.inner) self.orderly c.requires.running c.requires.free c.requires.blank in
    written_replaces (entry_call place c.put_entry.ensures.kept.shape c.put_entry.ensures.only_page) c.in_default.ensures.put c.requires.inside

pub returns-clause-moved : goal.returns-clause-moved
returns-clause-moved g c =
    let self = c.args.self.now in
    let place = entry_place (g.met.D.WornDie.shaped self.inner) self.orderly c.requires.running c.requires.free c.requires.blank in
    written_blank (entry_call place c.put_entry.ensures.kept.shape c.put_entry.ensures.only_page) c.in_default.ensures.put c.requires.inside
