-- Each page of a block that is erased in part lies below the page that it was.
use Rattle.std.proofs.Common.{◌+◌, ◌*◌, ◌<◌, ◌≤◌, arith}
use Rattle.std.proofs.Math.Nat.{mul-le-mul_right}
use Rattle.cell_die.specs.DieState.{page_of, page_count, page_bytes}
use Rattle.cell_die.specs.declared.shape.Torn.TheVariants.{Mask}
use Rattle.mem_die.specs.MemState.{mem_state, mem_shaped}
use Rattle.mem_die.proofs.States.{torn_erase_below, in_block}
use Rattle.mem_die.proofs.worn.WornMemWornDie.erase_or_bad.Goals as goal

pub returns-then-counts_erase-clause-bad : goal.returns-then-counts_erase-clause-bad
returns-then-counts_erase-clause-bad c = λ answer.
    let die = c.args.self.now.die in
    let same = c.if-counts_erase.ensures.die in
    let torn = rw same at c.erase_in_part.ensures.torn in
    record {
      below = λ page here.
          let pages = die.shape.pages in
          let place = in_block page c.args.block pages die.within.some_pages here in
          let last : c.args.block + 1 ≤ die.shape.blocks = omega (arith, c.requires.block) in
          let end : (c.args.block + 1) * pages ≤ die.shape.blocks * pages = mul-le-mul_right pages last in
          let inside : page < page_count die.shape = omega (arith, place.1) in
          torn_erase_below (Mask 6148914691236517205) (page_bytes die.shape) (page_of (mem_state die) page) (page_of (mem_state c.erase_in_part.new.die) page)
          ((mem_shaped die).lengths page inside) (torn.pages page here);
      count = torn.count;
    }
