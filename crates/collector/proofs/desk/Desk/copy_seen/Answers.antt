-- The slots of a page one after another, two or three of them; its cells stay meanwhile.
use Rattle.std.proofs.Common.{◌≡◌, ◌<◌, ℕ, Bool, if◌then◌else◌, Ok, Err, drop, sym, ap, ◌∙◌, subst, arith}
use Rattle.std.proofs.lemmas.Bool.{eq-eqb}
use Rattle.cell_die.specs.Cells.{page_at}
use Rattle.striped.specs.Meaning.{Meaning}
use Rattle.page_codec.specs.Seen.{seen_slot, no_slot}
use Rattle.page_codec.specs.declared.seen.Seen.{Seen}
use Rattle.collector.specs.declared.scan.Turn.{Turn}
use Rattle.collector.specs.Turns.{EndsBefore}
use Rattle.collector.proofs.Desks.{stays_trans}
use Rattle.collector.proofs.Turns.{ends_since, slots_two, slot_next, header_next}
use Rattle.collector.proofs.desk.Desk.copy_seen.Goals as goal

pub copy_slot-requires-2-clause-stands : goal.copy_slot-requires-2-clause-stands
copy_slot-requires-2-clause-stands g c =
    let old = c.args.self.now in
    let mid = c.copy_slot.new.self in
    let at_first = c.requires.stands.1 in
    let after_first = c.in-Ok.ensures.ends c.requires.stands.0 at_first in
    let two = slots_two old mid c.copy_slot.ensures.stays c.args.map.now c.requires.stands.0 c.args.turn 0 c.args.moves.now at_first in
    let at_second = slot_next old mid c.copy_slot.ensures.stays c.args.map.now c.requires.stands.0 c.args.turn 0 c.args.moves.now at_first
    c.in-Ok.copies c.copy_slot.new.moves after_first two c.copy_slot.auto.moves in
    (c.requires.stands.0, at_second)

pub copy_slot-requires-2-clause-header : goal.copy_slot-requires-2-clause-header
copy_slot-requires-2-clause-header g c =
    let old = c.args.self.now in
    let mid = c.copy_slot.new.self in
    let at_first = c.requires.stands.1 in
    ap (λ (seen : Seen). seen.second.header) c.requires.seen
    ∙ header_next old mid c.copy_slot.ensures.stays c.args.map.now c.requires.stands.0 c.args.turn 0 c.args.moves.now at_first
    c.in-Ok.copies c.copy_slot.new.moves (c.in-Ok.ensures.ends c.requires.stands.0 at_first) 1

pub returns-in-Err-copy_slot-clause-ends : goal.returns-in-Err-copy_slot-clause-ends
returns-in-Err-copy_slot-clause-ends g c start stands =
    let old = c.args.self.now in
    let mid = c.copy_slot.new.self in
    let at_first = stands in
    let after_first = c.in-Ok.ensures.ends start at_first in
    let two = slots_two old mid c.copy_slot.ensures.stays c.args.map.now start c.args.turn 0 c.args.moves.now at_first in
    let at_second = slot_next old mid c.copy_slot.ensures.stays c.args.map.now start c.args.turn 0 c.args.moves.now at_first
    c.in-Ok.copies c.copy_slot.new.moves after_first two c.copy_slot.auto.moves in
    ends_since old mid c.copy_slot.ensures.stays c.args.map.now start c.copy_slot-2.new.self c.args.turn 2 c.copy_slot-2.new.moves
    (Err c.in-Err-copy_slot.fault) (c.in-Err-copy_slot.ensures.ends start at_second)

pub returns-then-generations-eq2-clause-ends : goal.returns-then-generations-eq2-clause-ends
returns-then-generations-eq2-clause-ends g c start stands =
    let old = c.args.self.now in
    let mid = c.copy_slot.new.self in
    let at_first = stands in
    let after_first = c.in-Ok.ensures.ends start at_first in
    let two = slots_two old mid c.copy_slot.ensures.stays c.args.map.now start c.args.turn 0 c.args.moves.now at_first in
    let at_second = slot_next old mid c.copy_slot.ensures.stays c.args.map.now start c.args.turn 0 c.args.moves.now at_first
    c.in-Ok.copies c.copy_slot.new.moves after_first two c.copy_slot.auto.moves in
    let all : 2 ≡ (g.C.Scheme.meaning c.args.self.now.scheme.now).generations =
    sym c.if-generations-eq2.true ∙ (c.generations.ensures ∙ ap (λ (m : Meaning). m.generations) (c.copy_slot-2.ensures.stays.scheme ∙ c.copy_slot.ensures.stays.scheme)) in
    subst (λ (k : ℕ). EndsBefore g.D.Die.state g.C.Scheme.meaning old c.copy_slot-2.new.self c.args.map.now start c.args.turn k c.copy_slot-2.new.moves (Ok c.in-Ok-copy_slot.copies)) all
    (ends_since old mid c.copy_slot.ensures.stays c.args.map.now start c.copy_slot-2.new.self c.args.turn 2 c.copy_slot-2.new.moves
    (Ok c.in-Ok-copy_slot.copies) (c.in-Ok-copy_slot.ensures.ends start at_second))

pub copy_slot-requires-3-clause-stands : goal.copy_slot-requires-3-clause-stands
copy_slot-requires-3-clause-stands g c =
    let old = c.args.self.now in
    let mid = c.copy_slot.new.self in
    let second : Turn = record { spare = c.args.turn.spare; page = c.args.turn.page; copies = c.in-Ok.copies } in
    let at_first = c.requires.stands.1 in
    let after_first = c.in-Ok.ensures.ends c.requires.stands.0 at_first in
    let two = slots_two old mid c.copy_slot.ensures.stays c.args.map.now c.requires.stands.0 c.args.turn 0 c.args.moves.now at_first in
    let at_second = slot_next old mid c.copy_slot.ensures.stays c.args.map.now c.requires.stands.0 c.args.turn 0 c.args.moves.now at_first
    c.in-Ok.copies c.copy_slot.new.moves after_first two c.copy_slot.auto.moves in
    let after_second = c.in-Ok-copy_slot.ensures.ends c.requires.stands.0 at_second in
    let three : 2 < (g.C.Scheme.meaning c.copy_slot.new.self.scheme.now).generations = omega (
      arith,
      two,
      c.if-generations-eq2.false,
      c.generations.ensures,
      ap (λ (m : Meaning). m.generations) c.copy_slot-2.ensures.stays.scheme,
      ap (λ (m : Meaning). m.generations) c.copy_slot.ensures.stays.scheme,
    ) in
    let at_third = slot_next mid c.copy_slot-2.new.self c.copy_slot-2.ensures.stays c.args.map.now c.requires.stands.0 second 1 c.copy_slot.new.moves at_second
    c.in-Ok-copy_slot.copies c.copy_slot-2.new.moves after_second three c.copy_slot-2.auto.moves in
    (c.requires.stands.0, at_third)

pub copy_slot-requires-3-clause-header : goal.copy_slot-requires-3-clause-header
copy_slot-requires-3-clause-header g c =
    let old = c.args.self.now in
    let mid = c.copy_slot.new.self in
    let second : Turn = record { spare = c.args.turn.spare; page = c.args.turn.page; copies = c.in-Ok.copies } in
    let at_first = c.requires.stands.1 in
    let after_first = c.in-Ok.ensures.ends c.requires.stands.0 at_first in
    let two = slots_two old mid c.copy_slot.ensures.stays c.args.map.now c.requires.stands.0 c.args.turn 0 c.args.moves.now at_first in
    let at_second = slot_next old mid c.copy_slot.ensures.stays c.args.map.now c.requires.stands.0 c.args.turn 0 c.args.moves.now at_first
    c.in-Ok.copies c.copy_slot.new.moves after_first two c.copy_slot.auto.moves in
    let all : (g.C.Scheme.meaning c.args.self.now.scheme.now).generations ≡ 3 =
    omega (
      arith,
      two,
      c.if-generations-eq2.false,
      c.generations.ensures,
      ap (λ (m : Meaning). m.generations) (c.copy_slot-2.ensures.stays.scheme ∙ c.copy_slot.ensures.stays.scheme),
      at_first.begun.tables.kept.three_generations,
      at_first.begun.tables.sizes.generations,
    ) in
    ap (λ (seen : Seen). seen.third.header) c.requires.seen
    ∙ (ap (λ (t : Bool). (if t then seen_slot (drop (g.D.Die.state c.args.self.now.die.now).shape.main_bytes
    (page_at (g.D.Die.state c.args.self.now.die.now).cells c.args.turn.page)) 2 else no_slot).header)
    (eq-eqb (g.C.Scheme.meaning c.args.self.now.scheme.now).generations 3 all)
    ∙ (header_next old mid c.copy_slot.ensures.stays c.args.map.now c.requires.stands.0 c.args.turn 0 c.args.moves.now at_first
    c.in-Ok.copies c.copy_slot.new.moves after_first 2
    ∙ header_next mid c.copy_slot-2.new.self c.copy_slot-2.ensures.stays c.args.map.now c.requires.stands.0 second 1 c.copy_slot.new.moves at_second
    c.in-Ok-copy_slot.copies c.copy_slot-2.new.moves (c.in-Ok-copy_slot.ensures.ends c.requires.stands.0 at_second) 2))

pub returns-clause-ends : goal.returns-clause-ends
returns-clause-ends g c start stands =
    let old = c.args.self.now in
    let mid = c.copy_slot.new.self in
    let second : Turn = record { spare = c.args.turn.spare; page = c.args.turn.page; copies = c.in-Ok.copies } in
    let at_first = stands in
    let after_first = c.in-Ok.ensures.ends start at_first in
    let two = slots_two old mid c.copy_slot.ensures.stays c.args.map.now start c.args.turn 0 c.args.moves.now at_first in
    let at_second = slot_next old mid c.copy_slot.ensures.stays c.args.map.now start c.args.turn 0 c.args.moves.now at_first
    c.in-Ok.copies c.copy_slot.new.moves after_first two c.copy_slot.auto.moves in
    let after_second = c.in-Ok-copy_slot.ensures.ends start at_second in
    let three : 2 < (g.C.Scheme.meaning c.copy_slot.new.self.scheme.now).generations = omega (
      arith,
      two,
      c.if-generations-eq2.false,
      c.generations.ensures,
      ap (λ (m : Meaning). m.generations) c.copy_slot-2.ensures.stays.scheme,
      ap (λ (m : Meaning). m.generations) c.copy_slot.ensures.stays.scheme,
    ) in
    let at_third = slot_next mid c.copy_slot-2.new.self c.copy_slot-2.ensures.stays c.args.map.now start second 1 c.copy_slot.new.moves at_second
    c.in-Ok-copy_slot.copies c.copy_slot-2.new.moves after_second three c.copy_slot-2.auto.moves in
    let all : 3 ≡ (g.C.Scheme.meaning c.args.self.now.scheme.now).generations =
    omega (arith, three, ap (λ (m : Meaning). m.generations) c.copy_slot.ensures.stays.scheme, at_first.begun.tables.kept.three_generations, at_first.begun.tables.sizes.generations) in
    subst (λ (k : ℕ). EndsBefore g.D.Die.state g.C.Scheme.meaning old c.copy_slot-3.new.self c.args.map.now start c.args.turn k c.copy_slot-3.new.moves c.copy_slot-3.result) all
    (ends_since old mid c.copy_slot.ensures.stays c.args.map.now start c.copy_slot-3.new.self c.args.turn 3 c.copy_slot-3.new.moves c.copy_slot-3.result
    (ends_since mid c.copy_slot-2.new.self c.copy_slot-2.ensures.stays c.args.map.now start c.copy_slot-3.new.self c.args.turn 3 c.copy_slot-3.new.moves c.copy_slot-3.result
    (c.copy_slot-3.ensures.ends start at_third)))

pub returns-in-Err-copy_slot-clause-stays : goal.returns-in-Err-copy_slot-clause-stays
returns-in-Err-copy_slot-clause-stays g c = stays_trans c.copy_slot.ensures.stays c.copy_slot-2.ensures.stays

pub returns-then-generations-eq2-clause-stays : goal.returns-then-generations-eq2-clause-stays
returns-then-generations-eq2-clause-stays g c = stays_trans c.copy_slot.ensures.stays c.copy_slot-2.ensures.stays

pub returns-clause-stays : goal.returns-clause-stays
returns-clause-stays g c = stays_trans c.copy_slot.ensures.stays (stays_trans c.copy_slot-2.ensures.stays c.copy_slot-3.ensures.stays)
