-- The page is scanned, and then its live records are copied.
use Rattle.std.proofs.Common.{length, refl, ◌∙◌}
use Rattle.cell_die.specs.declared.shape.Shape.{Shape}
use Rattle.cell_die.proofs.Sequences.{kept_trans}
use Rattle.striped.specs.Meaning.{Meaning}
use Rattle.collector.specs.Desk.{geometry_on, store_on}
use Rattle.collector.specs.Inside.{EndsAt}
use Rattle.collector.proofs.Pages.{moved_back, scan_failed}
use Rattle.collector.proofs.Turns.{slot_first}
use Rattle.collector.proofs.desk.Desk.copy_page.Goals as goal

pub copy_seen-requires-clause-stands : goal.copy_seen-requires-clause-stands
copy_seen-requires-clause-stands g c = (c.requires.stands.0, slot_first c.requires.stands.1 c.scan.ensures.same_cells c.scan.ensures.kept c.in-Ok.ensures.passed)

pub returns-in-Ok-clause-ends : goal.returns-in-Ok-clause-ends
returns-in-Ok-clause-ends g c start stands =
    moved_back (λ (s : Shape) (m : Meaning). EndsAt s m (length c.args.map.now) c.args.turn.spare start (store_on g.D.Die.state c.copy_seen.new.self c.args.map.now) c.args.turn.page
    (g.C.Scheme.meaning c.args.self.now.scheme.now).generations c.copy_seen.new.moves c.copy_seen.result)
    (g.D.Die.state c.args.self.now.die.now).shape (g.D.Die.state c.scan.new.die).shape (g.C.Scheme.meaning c.args.self.now.scheme.now) (g.C.Scheme.meaning c.args.self.now.scheme.now)
    c.scan.ensures.kept.shape refl
    (c.copy_seen.ensures.ends start (slot_first stands c.scan.ensures.same_cells c.scan.ensures.kept c.in-Ok.ensures.passed))

pub returns-in-Err-clause-ends : goal.returns-in-Err-clause-ends
returns-in-Err-clause-ends g c start stands =
    scan_failed (geometry_on g.D.Die.state g.C.Scheme.meaning c.args.self.now c.args.map.now) (g.C.Scheme.meaning c.args.self.now.scheme.now) c.args.turn.spare start
    (store_on g.D.Die.state c.args.self.now c.args.map.now) c.args.turn.page c.args.turn.copies c.args.moves.now
    (g.D.Die.state c.scan.new.die) stands c.scan.ensures.same_cells c.scan.ensures.kept c.in-Err.ensures.failed

pub returns-in-Ok-clause-stays : goal.returns-in-Ok-clause-stays
returns-in-Ok-clause-stays g c = record {
  kept = kept_trans c.scan.ensures.kept c.copy_seen.ensures.stays.kept;
  erases = c.copy_seen.ensures.stays.erases ∙ c.scan.ensures.same_cells.erases;
  scheme = c.copy_seen.ensures.stays.scheme;
  work = c.copy_seen.ensures.stays.work ∙ c.scan.ensures.same_work;
}
