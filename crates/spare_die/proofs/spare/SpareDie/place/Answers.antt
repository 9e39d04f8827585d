-- The page keeps its place within the home of its block.
use Rattle.std.proofs.Common.{◌+◌, ◌*◌, ◌/◌, ◌%◌, ◌<◌, ◌^◌, arith, ℕ}
use Rattle.cell_die.specs.DieState.{DieState, IsShaped}
use Rattle.spare_die.specs.Table.{home, HasHomes}
use Rattle.spare_die.specs.SpareLaws.{logical_inside}
use Rattle.spare_die.proofs.Pages.{place_fits}
use Rattle.spare_die.proofs.spare.SpareDie.place.Goals as goal

sums_fit : (inner : DieState) (logical page : ℕ) → IsShaped inner → HasHomes inner logical → page < logical * inner.shape.pages
    → home inner (page / inner.shape.pages) * inner.shape.pages + page % inner.shape.pages < 2 ^ 32
sums_fit inner logical page shaped homes below =
    let inside : home inner (page / inner.shape.pages) < inner.shape.blocks = homes.inside (page / inner.shape.pages) (logical_inside inner.shape.pages page logical shaped.some_pages below) in
    place_fits (home inner (page / inner.shape.pages)) inner.shape.pages (page % inner.shape.pages) (omega (arith, homes.few_blocks)) homes.few_pages (omega (arith, shaped.some_pages))

pub home-requires : goal.home-requires
home-requires g c =
    let self = c.args.self.now in
    record {
      running = c.requires.running;
      inside = rw c.shape-pages.ensures (logical_inside (g.D.WornDie.state self.inner).shape.pages c.args.page self.logical (g.met.D.WornDie.shaped self.inner).some_pages c.requires.inside);
    }

pub overflow_mul-result : goal.overflow_mul-result
overflow_mul-result g c =
    let self = c.args.self.now in
    rw (c.home.ensures, c.shape-pages.ensures)
    (omega (arith, sums_fit (g.D.WornDie.state self.inner) self.logical c.args.page (g.met.D.WornDie.shaped self.inner) self.orderly.homes c.requires.inside))

pub overflow_add-result : goal.overflow_add-result
overflow_add-result g c =
    let self = c.args.self.now in
    rw (c.home.ensures, c.shape-pages.ensures)
    (omega (arith, sums_fit (g.D.WornDie.state self.inner) self.logical c.args.page (g.met.D.WornDie.shaped self.inner) self.orderly.homes c.requires.inside))

pub returns : goal.returns
returns g c = rw (c.home.ensures, c.shape-pages.ensures)
