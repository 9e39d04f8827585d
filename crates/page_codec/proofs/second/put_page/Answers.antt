-- The page written is above the old one: its main bytes are, and its slot was blank.
use Rattle.std.proofs.Common.{◌≡◌, ◌++◌, ℕ, List, drop, sym, ap₂, ◌∙◌, subst}
use Rattle.cell_die.specs.Cells.{IsAbove}
use Rattle.cell_die.specs.DieState.{IsShaped, page_of}
use Rattle.spare_gate.specs.Slots.{with_header}
use Rattle.page_codec.specs.Units.{place_of, with_write}
use Rattle.page_codec.proofs.PutUnit.{IsLaterWrite, write_above}
use Rattle.page_codec.proofs.second.put_page.Goals as goal

pub program_and_charge-requires-clause-above : goal.program_and_charge-requires-clause-above
program_and_charge-requires-clause-above g c =
    let shaped : IsShaped (g.D.Die.state c.args.die.now) = g.met.D.Die.shaped c.args.die.now in
    let w : IsLaterWrite (place_of c.args.page c.args.slot) c.args.header.now (g.D.Die.state c.args.die.now) c.args.main.now = record {
      long = shaped.lengths c.args.page c.requires.page;
      main_long = c.requires.main;
      above = c.requires.above;
      within = c.requires.within;
      blank = c.requires.blank;
    } in
    let same : c.write_record.new.whole ≡ with_write (g.D.Die.state c.args.die.now) (place_of c.args.page c.args.slot) c.args.header.now c.args.main.now =
    c.write_record.ensures
    ∙ ap₂ (λ (n : ℕ) (row : List ℕ). c.args.main.now ++ with_header (drop n row) c.args.slot c.args.header.now) c.requires.main c.requires.whole in
    subst (λ (row : List ℕ). IsAbove row (page_of (g.D.Die.state c.args.die.now) c.args.page)) (sym same)
    (write_above (place_of c.args.page c.args.slot) c.args.header.now (g.D.Die.state c.args.die.now) c.args.main.now w)
