use Rattle.std.proofs.Common.{◌*◌, ◌<◌, length, rules}
use Rattle.std.specs.Prelude.{true}
use Rattle.cell_die.specs.Cells.{IsAbove}
use Rattle.cell_die.specs.DieState.{page_of}
use Rattle.cell_die.specs.Changes.{NeverFalls, OnlyPage}
use Rattle.cell_die.proofs.Single.{page_above_never_falls}
use Rattle.mem_die.specs.MemState.{mem_state, mem_shaped}
use Rattle.mem_die.specs.Tears.{reaches}
use Rattle.mem_die.proofs.States.{charged_or_not_above}
use Rattle.std.proofs.Common.{inl}
use Rattle.cell_die.specs.Cells.{charge}
use Rattle.cell_die.proofs.Changed.{programmed_once}
use Rattle.cell_die.proofs.CellLaws.{charge_above}
use Rattle.mem_die.proofs.Charged.{torn_charge}
use Rattle.mem_die.proofs.ChangeCalls.{whole_call, cut_call}
use Rattle.mem_die.proofs.mem.MemDieDie.charge.Goals as goal

pub returns-in-Whole-clause-kept : goal.returns-in-Whole-clause-kept
returns-in-Whole-clause-kept c =
    let old = mem_state c.args.self.now in
    let within : c.args.cell < 8 * length (page_of old c.args.page) = rw ((mem_shaped c.args.self.now).lengths c.args.page c.requires.page) c.requires.cell in
    let above : IsAbove (page_of (mem_state c.tear_cell.new.self) c.args.page) (page_of old c.args.page)
    = rw c.tear_cell.ensures.page (charged_or_not_above true (page_of old c.args.page) c.args.cell within) in
    let falls : NeverFalls old (mem_state c.tear_cell.new.self) = page_above_never_falls {old = old} c.args.page
    (let only : OnlyPage c.args.page old (mem_state c.tear_cell.new.self) = record { others = c.tear_cell.ensures.only_page.others; erases = c.tear_cell.ensures.only_page.erases } in only) above in
    search rules

pub returns-in-Cut-clause-kept : goal.returns-in-Cut-clause-kept
returns-in-Cut-clause-kept c =
    let old = mem_state c.args.self.now in
    let within : c.args.cell < 8 * length (page_of old c.args.page) = rw ((mem_shaped c.args.self.now).lengths c.args.page c.requires.page) c.requires.cell in
    let above : IsAbove (page_of (mem_state c.tear_cell-in-Cut.new.self) c.args.page) (page_of old c.args.page)
    = rw c.tear_cell-in-Cut.ensures.page (charged_or_not_above (reaches c.in-Cut.torn c.args.cell) (page_of old c.args.page) c.args.cell within) in
    let falls : NeverFalls old (mem_state c.tear_cell-in-Cut.new.self) = page_above_never_falls {old = old} c.args.page
    (let only : OnlyPage c.args.page old (mem_state c.tear_cell-in-Cut.new.self) = record {
      others = c.tear_cell-in-Cut.ensures.only_page.others;
      erases = c.tear_cell-in-Cut.ensures.only_page.erases;
    } in only) above in
    search rules

pub returns-in-Whole-clause-passed : goal.returns-in-Whole-clause-passed
returns-in-Whole-clause-passed c =
    let old = mem_state c.args.self.now in
    let within : c.args.cell < 8 * length (page_of old c.args.page) = rw ((mem_shaped c.args.self.now).lengths c.args.page c.requires.page) c.requires.cell in
    whole_call c.args.self.now c.tear_cell.new.self c.begin_change.new.self c.tear_cell.ensures.rest.supply c.in-Whole.ensures
    (programmed_once c.args.page (charge (page_of old c.args.page) c.args.cell) old (mem_state c.tear_cell.new.self) (charge_above (page_of old c.args.page) c.args.cell within)
    c.tear_cell.ensures.page (record { others = c.tear_cell.ensures.only_page.others; erases = c.tear_cell.ensures.only_page.erases }) c.tear_cell.ensures.rest.shape)

pub returns-in-Cut-clause-failed : goal.returns-in-Cut-clause-failed
returns-in-Cut-clause-failed c =
    let old = mem_state c.args.self.now in
    let within : c.args.cell < 8 * length (page_of old c.args.page) = rw ((mem_shaped c.args.self.now).lengths c.args.page c.requires.page) c.requires.cell in
    cut_call c.args.self.now c.tear_cell-in-Cut.new.self c.begin_change.new.self c.in-Cut.torn c.tear_cell-in-Cut.ensures.rest.supply c.in-Cut.ensures
    (inl (
      c.args.page,
      charge (page_of old c.args.page) c.args.cell,
      record {
        above = charge_above (page_of old c.args.page) c.args.cell within;
        cells = torn_charge c.in-Cut.torn (page_of old c.args.page) c.args.cell (page_of (mem_state c.tear_cell-in-Cut.new.self) c.args.page) within c.tear_cell-in-Cut.ensures.page;
        only = record { others = c.tear_cell-in-Cut.ensures.only_page.others; erases = c.tear_cell-in-Cut.ensures.only_page.erases };
      },
    ))
