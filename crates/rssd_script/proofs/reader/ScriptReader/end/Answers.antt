-- The stage of the reader decides: a bad line stays bad, and what is kept is the last line.
use Rattle.std.proofs.Common.{◌≡◌, ◌<◌, [], length, ap, arith}
use Rattle.std.proofs.lemmas.List.{append-nil, nil_from_length}
use Rattle.rssd_script.proofs.Cuts.{end_whole, end_last, end_bad}
use Rattle.rssd_script.proofs.reader.ScriptReader.end.Goals as goal

pub returns-in-Some-clause-reads : goal.returns-in-Some-clause-reads
returns-in-Some-clause-reads c text h =
    let size = h.size in
    let broken = rw c.in-Some.is at (h.stage (omega arith)) in
    (omega (arith, size), rw append-nil at (broken []))

pub returns-then-is_empty-clause-reads : goal.returns-then-is_empty-clause-reads
returns-then-is_empty-clause-reads c text h =
    let size = h.size in
    let w = rw c.in_default.is at (h.stage (omega arith)) in
    let a = c.is_empty.ensures in
    let none : c.args.self.rest.items ≡ [] = nil_from_length c.args.self.rest.items (grind arith) in
    (omega (arith, size), end_whole text c.args.self.lines.items c.args.self.rest.items w none)

pub returns-in-Ok-true-clause-reads : goal.returns-in-Ok-true-clause-reads
returns-in-Ok-true-clause-reads c text h =
    let size = h.size in
    let w = rw c.in_default.is at (h.stage (omega arith)) in
    let some : 0 < length c.args.self.rest.items = grind arith in
    let a = rw c.in-Ok-true.field-0-test at c.in-Ok-true.ensures.ok in
    (omega (arith, size), end_last text c.args.self.lines.items c.args.self.rest.items w _ some (rw c.as_slice.ensures.value at a))

pub returns-in-Ok-false-clause-reads : goal.returns-in-Ok-false-clause-reads
returns-in-Ok-false-clause-reads c text h =
    let size = h.size in
    let w = rw c.in_default.is at (h.stage (omega arith)) in
    let some : 0 < length c.args.self.rest.items = grind arith in
    let a = rw c.in-Ok-false.field-0-test at c.in-Ok-false.ensures.ok in
    let m : length c.add_line.new.lines.items ≡ length c.args.self.lines.items = ap length a.1 in
    let n : c.len.result ≡ length c.args.self.lines.items = omega (arith, c.len.ensures, c.add_line.new.lines.ok.0) in
    (omega (arith, size), rw n (end_bad text c.args.self.lines.items c.args.self.rest.items w some (rw c.as_slice.ensures.value at a.0)))
