-- The record of a slot is live where the map names the slot; then there is a page left for its copy.
use Rattle.std.proofs.Common.{◌≡◌, ◌+◌, Bool, Ok, slice_set, sym, ap, ◌∙◌, subst, arith}
use Rattle.std.proofs.lemmas.Option.{none-some, same_Some}
use Rattle.zero_count.specs.declared.Header.{Header}
use Rattle.sector_map.specs.Entry.{entry_at}
use Rattle.collector.specs.Turns.{EndsBefore}
use Rattle.collector.specs.Named.{names_slot}
use Rattle.collector.proofs.Found.{slot_skipped, found_at, found_room, found_few, found_page, found_blank, found_spare, found_seq, found_reads, slot_copied, slot_failed}
use Rattle.collector.proofs.desk.Desk.copy_slot.Goals as goal

pub returns-in_default-clause-ends : goal.returns-in_default-clause-ends
returns-in_default-clause-ends g c start stands = slot_skipped stands (λ h e. absurd (none-some h (sym c.in_default.is ∙ (c.requires.header ∙ e))))

pub returns-then-not-is_live-clause-ends : goal.returns-then-not-is_live-clause-ends
returns-then-not-is_live-clause-ends g c start stands =
    slot_skipped stands
    (λ h e.
    let same : c.in-Some.header ≡ h = same_Some _ _ (sym c.in-Some.is ∙ (c.requires.header ∙ e)) in
    ap (λ (z : Header). names_slot (entry_at c.args.map.now z.sector) (record { page = c.args.turn.page; slot = c.args.slot })) (sym same) ∙ (sym c.is_live.ensures.named ∙ c.if-not-is_live.true))

pub overflow_add-page : goal.overflow_add-page
overflow_add-page g c =
    let there = sym c.requires.header ∙ c.in-Some.is in
    let named = sym c.is_live.ensures.named ∙ c.if-not-is_live.false in
    let page = found_at c.requires.stands.1 c.pages.ensures.value in
    omega (arith, found_page c.requires.stands.1 there named page, c.requires.fits.die.few_pages)

pub copy_record-requires-clause-ready : goal.copy_record-requires-clause-ready
copy_record-requires-clause-ready g c =
    let there = sym c.requires.header ∙ c.in-Some.is in
    let named = sym c.is_live.ensures.named ∙ c.if-not-is_live.false in
    let page = found_at c.requires.stands.1 c.pages.ensures.value in
    record {
      free = record { there = found_page c.requires.stands.1 there named page; blank = found_blank c.requires.stands.1 there named page };
      is_spare = found_spare c.requires.stands.1;
      fresh = found_seq c.requires.stands.1 there named;
    }

pub copy_record-requires-clause-pages : goal.copy_record-requires-clause-pages
copy_record-requires-clause-pages g c =
    let there = sym c.requires.header ∙ c.in-Some.is in
    let named = sym c.is_live.ensures.named ∙ c.if-not-is_live.false in
    found_reads c.requires.stands.1 there named

pub bounds-moves-turn : goal.bounds-moves-turn
bounds-moves-turn g c =
    let there = sym c.requires.header ∙ c.in-Some.is in
    let named = sym c.is_live.ensures.named ∙ c.if-not-is_live.false in
    omega (arith, c.requires.stands.1.room, found_room c.requires.stands.1 there named)

pub overflow_add-result : goal.overflow_add-result
overflow_add-result g c =
    let there = sym c.requires.header ∙ c.in-Some.is in
    let named = sym c.is_live.ensures.named ∙ c.if-not-is_live.false in
    omega (arith, found_room c.requires.stands.1 there named, found_few c.requires.stands.1 there named)

pub returns-in-Err-clause-ends : goal.returns-in-Err-clause-ends
returns-in-Err-clause-ends g c start stands =
    let there = sym c.requires.header ∙ c.in-Some.is in
    let named = sym c.is_live.ensures.named ∙ c.if-not-is_live.false in
    slot_failed stands there named
    c.is_live.ensures.small (found_at stands c.pages.ensures.value) _ _ c.copy_record.ensures.stays.kept
    (g.met.D.Die.shaped c.args.self.now.die.now) (g.met.D.Die.shaped c.copy_record.new.self.die.now) (g.met.C.Scheme.decodes c.args.self.now.scheme.now)
    (Unit {0}) c.in-Err.fault c.in-Err.ensures.ends

pub returns-in-Ok-clause-ends : goal.returns-in-Ok-clause-ends
returns-in-Ok-clause-ends g c start stands =
    let there = sym c.requires.header ∙ c.in-Some.is in
    let named = sym c.is_live.ensures.named ∙ c.if-not-is_live.false in
    subst (λ (t : Bool). EndsBefore g.D.Die.state g.C.Scheme.meaning c.args.self.now c.copy_record.new.self c.args.map.now start c.args.turn (c.args.slot + 1)
    (slice_set c.args.moves.now c.args.turn.copies (record { sector = c.in-Some.header.sector; zeros = t })) (Ok (c.args.turn.copies + 1))) (sym c.says_zeros.ensures)
    (slot_copied stands there named
    c.is_live.ensures.small (found_at stands c.pages.ensures.value) _ _ c.copy_record.ensures.stays.kept
    (g.met.D.Die.shaped c.args.self.now.die.now) (g.met.D.Die.shaped c.copy_record.new.self.die.now) (g.met.C.Scheme.decodes c.args.self.now.scheme.now)
    {T = Unit {0}} (tt {0}) c.in-Ok.ensures.ends)
