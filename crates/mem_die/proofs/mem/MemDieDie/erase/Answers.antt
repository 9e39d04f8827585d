use Rattle.std.proofs.Common.{◌+◌, ◌*◌, ◌<◌, ◌≤◌, rules, arith, inr}
use Rattle.std.proofs.Math.Nat.{mul-le-mul_right}
use Rattle.cell_die.specs.DieState.{page_of, page_count, page_bytes}
use Rattle.cell_die.specs.Changes.{NeverFalls, OnlyBlock}
use Rattle.cell_die.proofs.Single.{block_rose_never_falls}
use Rattle.mem_die.specs.MemState.{mem_state, mem_shaped}
use Rattle.mem_die.proofs.States.{torn_erase_below, in_block}
use Rattle.std.proofs.Common.{refl}
use Rattle.cell_die.proofs.Changed.{erased_once}
use Rattle.mem_die.proofs.ChangeCalls.{whole_call, cut_call, first_cut, torn_counted, untouched}
use Rattle.mem_die.proofs.mem.MemDieDie.erase.Goals as goal

pub returns-in-Cut-clause-in_part : goal.returns-in-Cut-clause-in_part
returns-in-Cut-clause-in_part c =
    let die = c.args.self.now in
    let pages = die.shape.pages in
    inr (record {
      below = λ page here.
          let place = in_block page c.args.block pages die.within.some_pages here in
          let last : c.args.block + 1 ≤ die.shape.blocks = omega arith in
          let end : (c.args.block + 1) * pages ≤ die.shape.blocks * pages = mul-le-mul_right pages last in
          let inside : page < page_count die.shape = omega (arith, place.1) in
          torn_erase_below c.in-Cut.torn (page_bytes die.shape) (page_of (mem_state die) page) (page_of (mem_state c.tear_block-in-Cut.new.self) page)
          ((mem_shaped die).lengths page inside) (c.tear_block-in-Cut.ensures.pages page here);
      count = c.tear_block-in-Cut.ensures.count;
    })

pub returns-in-Cut-clause-kept : goal.returns-in-Cut-clause-kept
returns-in-Cut-clause-kept c =
    let falls : NeverFalls (mem_state c.args.self.now) (mem_state c.tear_block-in-Cut.new.self)
    = block_rose_never_falls {old = mem_state c.args.self.now} c.args.block
    (let only : OnlyBlock c.args.block (mem_state c.args.self.now)
    (mem_state c.tear_block-in-Cut.new.self) = record { pages = c.tear_block-in-Cut.ensures.only_block.pages; counts = c.tear_block-in-Cut.ensures.only_block.counts } in only)
    (omega (arith, c.tear_block-in-Cut.ensures.count)) c.tear_block-in-Cut.ensures.no_lower in
    search rules

pub returns-in-Whole-clause-passed : goal.returns-in-Whole-clause-passed
returns-in-Whole-clause-passed c =
    whole_call c.args.self.now c.tear_block.new.self c.begin_change.new.self c.tear_block.ensures.supply c.in-Whole.ensures
    (erased_once c.args.block (mem_state c.args.self.now) (mem_state c.tear_block.new.self) (record { blank = c.tear_block.ensures.pages; count = c.tear_block.ensures.count })
    (record { pages = c.tear_block.ensures.only_block.pages; counts = c.tear_block.ensures.only_block.counts }) c.tear_block.ensures.shape)

pub returns-in-Cut-clause-failed : goal.returns-in-Cut-clause-failed
returns-in-Cut-clause-failed c =
    cut_call c.args.self.now c.tear_block-in-Cut.new.self c.begin_change.new.self c.in-Cut.torn c.tear_block-in-Cut.ensures.supply c.in-Cut.ensures
    (inr (
      c.args.block,
      record {
        cells = c.tear_block-in-Cut.ensures.pages;
        count = torn_counted c.in-Cut.torn _ _ (search rules) c.tear_block-in-Cut.ensures.count;
        only = record { pages = c.tear_block-in-Cut.ensures.only_block.pages; counts = c.tear_block-in-Cut.ensures.only_block.counts };
      },
    ))

pub returns-in-Cut-Nothing-clause-failed : goal.returns-in-Cut-Nothing-clause-failed
returns-in-Cut-Nothing-clause-failed c =
    let cuts = c.in-Cut-Nothing.ensures in
    record {
      read_faults = cuts.read_faults;
      change_faults = omega (arith, cuts.change_faults);
      failures = λ powered. cuts.came;
      cut = λ powered. first_cut c.args.self.now.supply.cut _ _ (mem_state c.args.self.now) _ cuts.came.within cuts.form
          (untouched _ c.args.block (mem_state c.args.self.now) _ (search rules) refl (record { cells = refl; erases = refl }));
    }
