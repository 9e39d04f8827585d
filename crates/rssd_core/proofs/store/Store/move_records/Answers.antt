-- Each move goes on from the last one, with the same numbers.
use Rattle.std.proofs.Common.{rules, Ok, Err, ap, arith}
use Rattle.striped.specs.Meaning.{Meaning}
use Rattle.rssd_core.specs.Idle.{none}
use Rattle.rssd_core.proofs.IdleEnds.{one_more, none_more, failed_move}
use Rattle.rssd_core.proofs.StoreLaws.{keeps_refl, keeps_trans}
use Rattle.rssd_core.proofs.store.Store.move_records.Goals as goal

pub loop-count-init : goal.loop-count-init
loop-count-init g c = record { run = none c.args.self.now.cells; keeps = keeps_refl c.args.self.now; tally = omega (arith, c.requires.few_moved); running = c.requires.running }

pub loop-count-preserved : goal.loop-count-preserved
loop-count-preserved g c =
    let first = c.loop-count.invariant.keeps in
    let old = c.args.self.now in
    let mid = c.loop-count.self in
    let new = c.move_record.new.self in
    record {
      run = one_more old.geometry mid.geometry (g.C.Scheme.meaning old.scheme).decoding (g.C.Scheme.meaning mid.scheme).decoding first.same_numbers (ap (λ (m : Meaning). m.decoding) first.same_scheme)
          old.cells mid.cells new.cells c.loop-count.count c.loop-count.invariant.run (c.in-Ok-true.ensures.moved (ap Ok c.in-Ok-true.field-0-test)) c.move_record.ensures.keeps.holds;
      keeps = keeps_trans first c.move_record.ensures.keeps;
      tally = omega (arith, c.loop-count.invariant.tally, c.in-Ok-true.ensures.rises (ap Ok c.in-Ok-true.field-0-test));
      running = c.in-Ok-true.ensures.stopped;
    }

pub returns-in-Err-clause-keeps : goal.returns-in-Err-clause-keeps
returns-in-Err-clause-keeps g c = keeps_trans c.loop-count.invariant.keeps c.move_record.ensures.keeps

pub returns-in-Ok-false-clause-ends : goal.returns-in-Ok-false-clause-ends
returns-in-Ok-false-clause-ends g c =
    let first = c.loop-count.invariant.keeps in
    let old = c.args.self.now in
    let mid = c.loop-count.self in
    let new = c.move_record.new.self in
    none_more old.geometry mid.geometry (g.C.Scheme.meaning old.scheme).decoding (g.C.Scheme.meaning mid.scheme).decoding first.same_numbers (ap (λ (m : Meaning). m.decoding) first.same_scheme)
    old.cells mid.cells new.cells c.args.n c.loop-count.count (omega arith) c.loop-count.invariant.run (c.in-Ok-false.ensures.none (ap Ok c.in-Ok-false.field-0-test))
    (c.in-Ok-false.ensures.nothing (ap Ok c.in-Ok-false.field-0-test))

pub returns-in-Err-clause-ends : goal.returns-in-Err-clause-ends
returns-in-Err-clause-ends g c =
    let first = c.loop-count.invariant.keeps in
    let old = c.args.self.now in
    let mid = c.loop-count.self in
    let new = c.move_record.new.self in
    failed_move old.geometry mid.geometry (g.C.Scheme.meaning old.scheme).decoding (g.C.Scheme.meaning mid.scheme).decoding first.same_numbers (ap (λ (m : Meaning). m.decoding) first.same_scheme)
    old.cells mid.cells new.cells c.args.n c.loop-count.count c.in-Err.fault (omega arith) c.loop-count.invariant.run c.move_record.ensures.keeps.holds
    (λ none. let told = c.in-Err.ensures.none_alone none in cc) (search rules) (λ e. c.in-Err.ensures.read_failed (ap Err e)) (λ e. c.in-Err.ensures.change_failed (ap Err e))
