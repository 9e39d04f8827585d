-- Page after page; the numbers of the next page follow from those of the victim.
use Rattle.std.proofs.Common.{◌≡◌, ◌+◌, ◌*◌, ◌<◌, ℕ, Ok, refl, sym, ap, ◌∙◌, subst, arith, zero-mul}
use Rattle.collector.specs.declared.scan.Turn.{Turn}
use Rattle.collector.specs.Desk.{geometry_on, store_on}
use Rattle.collector.specs.Inside.{Reached}
use Rattle.collector.proofs.Desks.{stays_refl, stays_trans}
use Rattle.collector.proofs.Stops.{reached_start}
use Rattle.collector.proofs.Turns.{page_next, page_done, page_stopped}
use Rattle.collector.proofs.desk.Desk.copy_block.Goals as goal

pub loop-i-init : goal.loop-i-init
loop-i-init g c =
    let same = c.pages-pages.ensures.value ∙ c.requires.begun.tables.sizes.pages in
    let start = store_on g.D.Die.state c.args.self.now c.args.map.now in
    let geometry = geometry_on g.D.Die.state g.C.Scheme.meaning c.args.self.now c.args.map.now in
    let meaning = g.C.Scheme.meaning c.args.self.now.scheme.now in
    record {
      reached =
          subst (λ (k : ℕ). Reached geometry meaning.decoding c.args.victim c.args.spare start start k 0 0 c.args.moves.now) (sym (zero-mul meaning.generations))
          (reached_start geometry meaning c.args.victim c.args.spare start c.requires.begun c.args.moves.now);
      stays = stays_refl c.args.self.now;
      same_desk = (refl, refl, refl, refl, refl);
      long = refl;
      pages = same;
      first = ap (λ (k : ℕ). c.args.victim * k) same;
    }

pub copy_page-requires-clause-stands : goal.copy_page-requires-clause-stands
copy_page-requires-clause-stands g c =
    let same = c.pages-pages.ensures.value ∙ c.requires.begun.tables.sizes.pages in
    let page = ap (λ (k : ℕ). c.args.victim * k + c.loop-i.i) same in
    let within : c.loop-i.i < (g.D.Die.state c.args.self.now.die.now).shape.pages = omega (arith, c.loop-i-test.true, same) in
    let turn : Turn = record { spare = c.args.spare; page = c.args.victim * c.pages-pages.result + c.loop-i.i; copies = c.loop-i.copies } in
    let start = store_on g.D.Die.state c.args.self.now c.args.map.now in
    let bytes = c.requires.fits.scheme.page_bytes ∙ sym c.requires.fits.die.main_bytes in
    let next =
    page_next c.args.self.now c.loop-i.self c.loop-i.invariant.stays c.args.map.now start c.args.victim c.loop-i.i turn page within c.loop-i.moves
    c.requires.begun c.loop-i.invariant.reached (omega (arith, c.requires.room, c.loop-i.invariant.long)) bytes in
    (store_on g.D.Die.state c.args.self.now c.args.map.now, next)

pub returns-in-Err-clause-ends : goal.returns-in-Err-clause-ends
returns-in-Err-clause-ends g c =
    let same = c.pages-pages.ensures.value ∙ c.requires.begun.tables.sizes.pages in
    let page = ap (λ (k : ℕ). c.args.victim * k + c.loop-i.i) same in
    let within : c.loop-i.i < (g.D.Die.state c.args.self.now.die.now).shape.pages = omega (arith, c.loop-i-test.true, same) in
    let turn : Turn = record { spare = c.args.spare; page = c.args.victim * c.pages-pages.result + c.loop-i.i; copies = c.loop-i.copies } in
    let start = store_on g.D.Die.state c.args.self.now c.args.map.now in
    let bytes = c.requires.fits.scheme.page_bytes ∙ sym c.requires.fits.die.main_bytes in
    let next =
    page_next c.args.self.now c.loop-i.self c.loop-i.invariant.stays c.args.map.now start c.args.victim c.loop-i.i turn page within c.loop-i.moves
    c.requires.begun c.loop-i.invariant.reached (omega (arith, c.requires.room, c.loop-i.invariant.long)) bytes in
    page_stopped c.args.self.now c.loop-i.self c.loop-i.invariant.stays c.args.map.now start c.args.victim c.loop-i.i turn page within c.copy_page.new.moves c.copy_page.new.self c.in-Err.fault
    (c.in-Err.ensures.ends start next) 0 0

pub returns-in-Err-clause-stays : goal.returns-in-Err-clause-stays
returns-in-Err-clause-stays g c = stays_trans c.loop-i.invariant.stays c.copy_page.ensures.stays

pub loop-i-preserved : goal.loop-i-preserved
loop-i-preserved g c =
    let same = c.pages-pages.ensures.value ∙ c.requires.begun.tables.sizes.pages in
    let page = ap (λ (k : ℕ). c.args.victim * k + c.loop-i.i) same in
    let within : c.loop-i.i < (g.D.Die.state c.args.self.now.die.now).shape.pages = omega (arith, c.loop-i-test.true, same) in
    let turn : Turn = record { spare = c.args.spare; page = c.args.victim * c.pages-pages.result + c.loop-i.i; copies = c.loop-i.copies } in
    let start = store_on g.D.Die.state c.args.self.now c.args.map.now in
    let bytes = c.requires.fits.scheme.page_bytes ∙ sym c.requires.fits.die.main_bytes in
    let next =
    page_next c.args.self.now c.loop-i.self c.loop-i.invariant.stays c.args.map.now start c.args.victim c.loop-i.i turn page within c.loop-i.moves
    c.requires.begun c.loop-i.invariant.reached (omega (arith, c.requires.room, c.loop-i.invariant.long)) bytes in
    record {
      reached =
          page_done c.args.self.now c.loop-i.self c.loop-i.invariant.stays c.args.map.now start c.args.victim c.loop-i.i turn page within c.copy_page.new.moves c.copy_page.new.self (Ok c.in-Ok.more)
          (c.in-Ok.ensures.ends start next);
      stays = stays_trans c.loop-i.invariant.stays c.copy_page.ensures.stays;
      same_desk = (
        c.copy_page.ensures.same_desk.0 ∙ c.loop-i.invariant.same_desk.0,
        c.copy_page.ensures.same_desk.1 ∙ c.loop-i.invariant.same_desk.1,
        c.copy_page.ensures.same_desk.2 ∙ c.loop-i.invariant.same_desk.2,
        c.copy_page.ensures.same_desk.3 ∙ c.loop-i.invariant.same_desk.3,
        c.copy_page.ensures.same_desk.4 ∙ c.loop-i.invariant.same_desk.4,
      );
      long = c.copy_page.auto.moves ∙ c.loop-i.invariant.long;
      pages = c.loop-i.invariant.pages;
      first = c.loop-i.invariant.first;
    }

pub returns-clause-ends : goal.returns-clause-ends
returns-clause-ends g c =
    let same = c.pages-pages.ensures.value ∙ c.requires.begun.tables.sizes.pages in
    let start = store_on g.D.Die.state c.args.self.now c.args.map.now in
    let geometry = geometry_on g.D.Die.state g.C.Scheme.meaning c.args.self.now c.args.map.now in
    let meaning = g.C.Scheme.meaning c.args.self.now.scheme.now in
    let all : c.loop-i.i ≡ (g.D.Die.state c.args.self.now.die.now).shape.pages = omega (arith, c.loop-i-test.false, c.loop-i.auto.i-end, same) in
    let now = store_on g.D.Die.state c.loop-i.self c.args.map.now in
    subst (λ (k : ℕ). Reached geometry meaning.decoding c.args.victim c.args.spare start now (k * meaning.generations) k c.loop-i.copies c.loop-i.moves)
    all c.loop-i.invariant.reached
