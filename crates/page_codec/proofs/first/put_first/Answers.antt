-- The buffer has the first write of the page, and the two change calls leave it or a part of it.
use Rattle.std.proofs.Common.{rules, ◌≡◌, ◌*◌, ℕ, length, ap, ◌∙◌, arith}
use Rattle.std.proofs.lemmas.List.{take_at}
use Rattle.cell_die.specs.DieState.{IsShaped}
use Rattle.page_codec.specs.Puts.{first_slot}
use Rattle.page_codec.proofs.PutPromises.{put_keeps}
use Rattle.page_codec.proofs.PutFirst.{blank_page_ungated, IsFirstWrite, first_write_puts, first_write_gated, reaches_any, on_ok}
use Rattle.page_codec.proofs.first.put_first.Goals as goal

pub returns-clause-put : goal.returns-clause-put
returns-clause-put g c =
    let same : c.deref.result.now ≡ c.write_first.new.page = c.deref.ensures.value ∙ take_at c.write_first.new.page _ c.work.inside.page.len (c.write_first.ensures.long ∙ c.deref_mut.ensures.len) in
    let shaped : IsShaped (g.D.Die.state c.args.die.now) = g.met.D.Die.shaped c.args.die.now in
    let bytes : (g.D.Die.state c.args.die.now).shape.main_bytes ≡ c.work.inside.page_bytes = search rules in
    let spares : (g.D.Die.state c.args.die.now).shape.spare_bytes ≡ 16 * c.work.inside.generations = search rules in
    let scheme_bytes : (g.C.Scheme.meaning c.args.scheme.now).page_bytes ≡ c.work.inside.page_bytes = search rules in
    let items : length c.deref_mut.result.now ≡ length c.work.inside.page.items = ap (length {A = ℕ}) c.deref_mut.ensures.value in
    let written : IsFirstWrite c.args.page c.args.header.now (g.D.Die.state c.args.die.now) c.write_first.new.page c.work.inside.page_bytes (length c.deref_mut.result.now) = record {
      blank = c.requires.blank;
      bytes = bytes;
      long = c.write_first.ensures.long;
      page_long = omega (arith, items, c.work.invariant.page, shaped.lengths c.args.page c.requires.page, bytes, spares);
      room = omega (arith, items, c.work.invariant.page, c.work.invariant.two_slots);
      spare = c.write_first.ensures.spare;
    } in
    first_write_puts (g.C.Scheme.meaning c.args.scheme.now) c.args.page c.args.header.now c.args.sector.now (g.D.Die.state c.args.die.now)
    (g.D.Die.state c.program_and_charge.new.die) c.write_first.new.page c.deref.result.now
    c.work.inside.page_bytes (length c.deref_mut.result.now) c.gate_cell.result written scheme_bytes c.write_first.ensures.gives
    same c.gate_cell.ensures c.program_and_charge.ensures.kept.shape c.program_and_charge.ensures.only_page
    (reaches_any c.program_and_charge.result _ _ _ _ c.program_and_charge.ensures.done c.program_and_charge.ensures.in_part)

pub returns-clause-gated : goal.returns-clause-gated
returns-clause-gated g c =
    let same : c.deref.result.now ≡ c.write_first.new.page = c.deref.ensures.value ∙ take_at c.write_first.new.page _ c.work.inside.page.len (c.write_first.ensures.long ∙ c.deref_mut.ensures.len) in
    let shaped : IsShaped (g.D.Die.state c.args.die.now) = g.met.D.Die.shaped c.args.die.now in
    let bytes : (g.D.Die.state c.args.die.now).shape.main_bytes ≡ c.work.inside.page_bytes = search rules in
    let spares : (g.D.Die.state c.args.die.now).shape.spare_bytes ≡ 16 * c.work.inside.generations = search rules in
    let items : length c.deref_mut.result.now ≡ length c.work.inside.page.items = ap (length {A = ℕ}) c.deref_mut.ensures.value in
    let written : IsFirstWrite c.args.page c.args.header.now (g.D.Die.state c.args.die.now) c.write_first.new.page c.work.inside.page_bytes (length c.deref_mut.result.now) = record {
      blank = c.requires.blank;
      bytes = bytes;
      long = c.write_first.ensures.long;
      page_long = omega (arith, items, c.work.invariant.page, shaped.lengths c.args.page c.requires.page, bytes, spares);
      room = omega (arith, items, c.work.invariant.page, c.work.invariant.two_slots);
      spare = c.write_first.ensures.spare;
    } in
    on_ok c.program_and_charge.result
    (first_write_gated c.args.page c.args.header.now (g.D.Die.state c.args.die.now) (g.D.Die.state c.program_and_charge.new.die) c.write_first.new.page c.deref.result.now
    c.work.inside.page_bytes (length c.deref_mut.result.now) c.gate_cell.result written same c.gate_cell.ensures c.program_and_charge.ensures.kept.shape)
    c.program_and_charge.ensures.done

pub returns-clause-records : goal.returns-clause-records
returns-clause-records g c =
    put_keeps (first_slot c.args.page) c.args.header.now (g.D.Die.state c.args.die.now) (g.D.Die.state c.program_and_charge.new.die) (returns-clause-put g c) c.program_and_charge.ensures.kept.shape
    (g.met.D.Die.shaped c.args.die.now) (g.met.D.Die.shaped c.program_and_charge.new.die) (blank_page_ungated c.args.page (g.D.Die.state c.args.die.now) c.requires.blank)
