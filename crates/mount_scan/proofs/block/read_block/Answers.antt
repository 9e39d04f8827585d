-- The pages are read one after another, and when all are read what they showed is what the block's cells make it.
use Rattle.std.proofs.Common.{◌≡◌, ◌+◌, ◌<◌, ◌≤◌, length, refl, sym, ap, ◌∙◌, subst, arith, rules}
use Rattle.std.proofs.lemmas.Result.{err_from_is_err_and}
use Rattle.cell_die.specs.declared.shape.Shape.{Shape}
use Rattle.page_codec.specs.Geometry.{Geometry}
use Rattle.mount_scan.specs.Scanned.{ReadInto, Reads, Shows, geometry_of}
use Rattle.mount_scan.proofs.Blocks.{block_read}
use Rattle.mount_scan.proofs.PageReads.{fails_after, reads_more, reads_none}
use Rattle.mount_scan.proofs.Sights.{block_blank, block_level}
use Rattle.mount_scan.proofs.block.read_block.Goals as goal

pub returns-in_err-sight-clause-fails : goal.returns-in_err-sight-clause-fails
returns-in_err-sight-clause-fails g c =
    let i = c.loop-number.invariant in
    let p = err_from_is_err_and c.from_residual.result c.from_residual.ensures.1 in
    let most : c.loop-number.number + 1 ≤ (g.D.Die.state c.args.die.now).shape.pages = omega (arith, i.end, c.loop-number-test.true) in
    rw p.1 (fails_after c.loop-number.number 1 (g.D.Die.state c.args.die.now).shape.pages (g.D.Die.state c.args.die.now) (g.D.Die.state c.loop-number.die)
    (g.D.Die.state c.read_page.new.die) most i.reads c.in_err-sight.ensures.fails)

pub loop-number-preserved : goal.loop-number-preserved
loop-number-preserved g c =
    let i = c.loop-number.invariant in
    record {
      read = c.in_ok-sight.ensures.read;
      shows = c.in_ok-sight.ensures.shows;
      reads = reads_more c.loop-number.number 1 (g.D.Die.state c.args.die.now) (g.D.Die.state c.loop-number.die) (g.D.Die.state c.read_page.new.die) i.reads c.in_ok-sight.ensures.reads;
      same_work = c.read_page.ensures.same_work ∙ i.same_work;
      same_sectors = c.read_page.ensures.same_sectors ∙ i.same_sectors;
      end = i.end;
    }

pub returns-clause-read : goal.returns-clause-read
returns-clause-read g c =
    let i = c.loop-number.invariant in
    let die = g.D.Die.state c.loop-number.die in
    let tables = c.loop-number.tables in
    let n : Geometry = geometry_of die.shape c.loop-number.work (length tables.map) in
    let all : c.loop-number.number ≡ die.shape.pages = omega (arith, i.end, c.loop-number-test.false, c.loop-number.auto.number-end, ap (λ (s : Shape). s.pages) i.reads.kept.shape) in
    let shows : Shows n die.cells c.args.block die.shape.pages c.loop-number.sight = subst (λ k. Shows n die.cells c.args.block k c.loop-number.sight) all i.shows in
    block_read n die.cells c.args.block c.found_state.result tables _ (subst (λ (s : Shape). c.args.block < s.blocks) (sym i.reads.kept.shape) c.requires.block)
    (subst (λ k. ReadInto n die.cells c.args.block k tables) all i.read)
    (c.found_state.ensures n die.cells c.args.block (sym i.read.fits.sizes.generations ∙ sym c.generations-generations.ensures.value)
    (block_blank n die.cells c.args.block c.loop-number.sight shows) (block_level n die.cells c.args.block c.loop-number.sight i.read.fits.some_pages shows))
    (record { found = refl; map = refl; book = refl; seq = refl; seqs = refl; span = refl })

pub returns-clause-reads : goal.returns-clause-reads
returns-clause-reads g c =
    let i = c.loop-number.invariant in
    let all : c.loop-number.number ≡ (g.D.Die.state c.args.die.now).shape.pages = omega (arith, i.end, c.loop-number-test.false, c.loop-number.auto.number-end) in
    subst (λ k. Reads k (g.D.Die.state c.args.die.now) (g.D.Die.state c.loop-number.die)) all i.reads

pub loop-number-init : goal.loop-number-init
loop-number-init g c = let reads : Reads 0 (g.D.Die.state c.args.die.now) (g.D.Die.state c.args.die.now) = reads_none (g.D.Die.state c.args.die.now) in search rules
