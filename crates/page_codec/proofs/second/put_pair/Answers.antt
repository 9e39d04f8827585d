-- The second page is programmed first, so its fault leaves the gate uncharged; then the first page is put as one alone.
use Rattle.std.proofs.Common.{◌≡◌, ◌+◌, ◌/◌, ◌++◌, ℕ, List, take, drop, length, sym, ap₂, ◌∙◌, arith, subst}
use Rattle.cell_die.specs.declared.shape.Shape.{Shape}
use Rattle.cell_die.specs.Cells.{IsAbove}
use Rattle.cell_die.specs.DieState.{page_of}
use Rattle.cell_die.specs.Changes.{IsBetween}
use Rattle.cell_die.proofs.Sequences.{kept_trans, ok_then, err_then}
use Rattle.page_codec.specs.Units.{place_of}
use Rattle.page_codec.proofs.PutFirst.{reaches_any, on_ok}
use Rattle.page_codec.proofs.PutUnit.{IsMid, with_main, further_above, pair_puts, pair_gated, pair_torn}
use Rattle.page_codec.proofs.PutPair.{IsPairWrite, pair_parts}
use Rattle.page_codec.proofs.second.put_pair.Goals as goal

pub program-requires-clause-above : goal.program-requires-clause-above
program-requires-clause-above g c =
    let w : IsPairWrite (place_of c.args.page c.args.slot) c.args.header.now (g.D.Die.state c.args.die.now) c.args.unit.now c.split_at.result.0.now c.split_at.result.1.now =
    pair_parts (place_of c.args.page c.args.slot) c.args.header.now (g.D.Die.state c.args.die.now) c.args.unit.now c.split_at.result.0.now c.split_at.result.1.now
    (length c.args.unit.now / 2) c.split_at.ensures.front c.split_at.ensures.back (omega (arith, c.requires.unit))
    (g.met.D.Die.shaped c.args.die.now) c.requires.page c.requires.unit c.requires.above c.requires.within c.requires.blank in
    let further : c.write_main.new.whole ≡ with_main (g.D.Die.state c.args.die.now) (c.args.page + 1) c.split_at.result.1.now =
    c.write_main.ensures ∙ ap₂ (λ (n : ℕ) (row : List ℕ). c.split_at.result.1.now ++ drop n row) w.further.long c.requires.second in
    subst (λ (row : List ℕ). IsAbove row (page_of (g.D.Die.state c.args.die.now) (c.args.page + 1))) (sym further)
    (further_above (place_of c.args.page c.args.slot) (g.D.Die.state c.args.die.now) c.split_at.result.1.now w.further)

pub returns-in_err-program-clause-put : goal.returns-in_err-program-clause-put
returns-in_err-program-clause-put g c =
    let w : IsPairWrite (place_of c.args.page c.args.slot) c.args.header.now (g.D.Die.state c.args.die.now) c.args.unit.now c.split_at.result.0.now c.split_at.result.1.now =
    pair_parts (place_of c.args.page c.args.slot) c.args.header.now (g.D.Die.state c.args.die.now) c.args.unit.now c.split_at.result.0.now c.split_at.result.1.now
    (length c.args.unit.now / 2) c.split_at.ensures.front c.split_at.ensures.back (omega (arith, c.requires.unit))
    (g.met.D.Die.shaped c.args.die.now) c.requires.page c.requires.unit c.requires.above c.requires.within c.requires.blank in
    let further : c.write_main.new.whole ≡ with_main (g.D.Die.state c.args.die.now) (c.args.page + 1) c.split_at.result.1.now =
    c.write_main.ensures ∙ ap₂ (λ (n : ℕ) (row : List ℕ). c.split_at.result.1.now ++ drop n row) w.further.long c.requires.second in
    pair_torn (place_of c.args.page c.args.slot) c.args.header.now (g.D.Die.state c.args.die.now)
    (g.D.Die.state c.program.new.self) c.split_at.result.0.now c.split_at.result.1.now c.args.unit.now w.write w.further w.parts c.program.ensures.kept.shape c.program.ensures.only_page
    (subst (IsBetween (page_of (g.D.Die.state c.args.die.now) (c.args.page + 1)) (page_of (g.D.Die.state c.program.new.self) (c.args.page + 1))) further c.in_err-program.ensures.in_part)

pub put_page-requires-clause-above : goal.put_page-requires-clause-above
put_page-requires-clause-above g c =
    let w : IsPairWrite (place_of c.args.page c.args.slot) c.args.header.now (g.D.Die.state c.args.die.now) c.args.unit.now c.split_at.result.0.now c.split_at.result.1.now =
    pair_parts (place_of c.args.page c.args.slot) c.args.header.now (g.D.Die.state c.args.die.now) c.args.unit.now c.split_at.result.0.now c.split_at.result.1.now
    (length c.args.unit.now / 2) c.split_at.ensures.front c.split_at.ensures.back (omega (arith, c.requires.unit))
    (g.met.D.Die.shaped c.args.die.now) c.requires.page c.requires.unit c.requires.above c.requires.within c.requires.blank in
    subst (IsAbove c.split_at.result.0.now)
    (sym (ap₂ (λ (s : Shape) (row : List ℕ). take s.main_bytes row) c.program.ensures.kept.shape (c.program.ensures.only_page.others c.args.page (λ e. omega arith))))
    w.write.above

pub returns-clause-put : goal.returns-clause-put
returns-clause-put g c =
    let w : IsPairWrite (place_of c.args.page c.args.slot) c.args.header.now (g.D.Die.state c.args.die.now) c.args.unit.now c.split_at.result.0.now c.split_at.result.1.now =
    pair_parts (place_of c.args.page c.args.slot) c.args.header.now (g.D.Die.state c.args.die.now) c.args.unit.now c.split_at.result.0.now c.split_at.result.1.now
    (length c.args.unit.now / 2) c.split_at.ensures.front c.split_at.ensures.back (omega (arith, c.requires.unit))
    (g.met.D.Die.shaped c.args.die.now) c.requires.page c.requires.unit c.requires.above c.requires.within c.requires.blank in
    let further : c.write_main.new.whole ≡ with_main (g.D.Die.state c.args.die.now) (c.args.page + 1) c.split_at.result.1.now =
    c.write_main.ensures ∙ ap₂ (λ (n : ℕ) (row : List ℕ). c.split_at.result.1.now ++ drop n row) w.further.long c.requires.second in
    let m : IsMid (place_of c.args.page c.args.slot) (g.D.Die.state c.args.die.now) (g.D.Die.state c.program.new.self) c.split_at.result.1.now = record {
      shape = c.program.ensures.kept.shape;
      only = c.program.ensures.only_page;
      there = c.in_ok-program.ensures.programmed ∙ further;
    } in
    pair_puts (place_of c.args.page c.args.slot) c.args.header.now (g.D.Die.state c.args.die.now) (g.D.Die.state c.program.new.self)
    (g.D.Die.state c.put_page.new.die) c.split_at.result.0.now c.split_at.result.1.now c.args.unit.now w.write w.further w.parts m c.put_page.ensures.kept.shape c.put_page.ensures.only_page
    (reaches_any c.put_page.result _ _ _ _ c.put_page.ensures.done c.put_page.ensures.in_part)

pub returns-clause-gated : goal.returns-clause-gated
returns-clause-gated g c =
    let w : IsPairWrite (place_of c.args.page c.args.slot) c.args.header.now (g.D.Die.state c.args.die.now) c.args.unit.now c.split_at.result.0.now c.split_at.result.1.now =
    pair_parts (place_of c.args.page c.args.slot) c.args.header.now (g.D.Die.state c.args.die.now) c.args.unit.now c.split_at.result.0.now c.split_at.result.1.now
    (length c.args.unit.now / 2) c.split_at.ensures.front c.split_at.ensures.back (omega (arith, c.requires.unit))
    (g.met.D.Die.shaped c.args.die.now) c.requires.page c.requires.unit c.requires.above c.requires.within c.requires.blank in
    let further : c.write_main.new.whole ≡ with_main (g.D.Die.state c.args.die.now) (c.args.page + 1) c.split_at.result.1.now =
    c.write_main.ensures ∙ ap₂ (λ (n : ℕ) (row : List ℕ). c.split_at.result.1.now ++ drop n row) w.further.long c.requires.second in
    let m : IsMid (place_of c.args.page c.args.slot) (g.D.Die.state c.args.die.now) (g.D.Die.state c.program.new.self) c.split_at.result.1.now = record {
      shape = c.program.ensures.kept.shape;
      only = c.program.ensures.only_page;
      there = c.in_ok-program.ensures.programmed ∙ further;
    } in
    on_ok c.put_page.result (pair_gated (place_of c.args.page c.args.slot) c.args.header.now (g.D.Die.state c.args.die.now) (g.D.Die.state c.program.new.self)
    (g.D.Die.state c.put_page.new.die) c.split_at.result.0.now c.split_at.result.1.now w.write w.further m c.put_page.ensures.kept.shape) c.put_page.ensures.done

pub returns-clause-kept : goal.returns-clause-kept
returns-clause-kept g c = kept_trans c.program.ensures.kept c.put_page.ensures.kept

pub returns-clause-passed : goal.returns-clause-passed
returns-clause-passed g c = ok_then 2 0 _ _ _ c.put_page.result c.in_ok-program.ensures.passed c.put_page.ensures.passed

pub returns-clause-failed : goal.returns-clause-failed
returns-clause-failed g c = err_then 2 0 _ _ _ c.put_page.result c.in_ok-program.ensures.passed c.put_page.ensures.failed
