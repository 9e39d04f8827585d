-- No page is read of new tables; once all are, a free block makes a mount, and where there is none each has a live record.
use Rattle.std.proofs.Common.{◌≡◌, ◌<◌, false, length, sym, ◌∙◌, subst}
use Rattle.std.specs.Result.{is_err}
use Rattle.cell_die.specs.declared.shape.Shape.{Shape}
use Rattle.cell_die.specs.DieState.{page_count}
use Rattle.page_codec.specs.Geometry.{Geometry, units}
use Rattle.page_codec.specs.Sizes.{Serves, Sizes}
use Rattle.mount_scan.specs.Scanned.{EveryBlockLive, AreMounted, ReadOn, Reads, geometry_of}
use Rattle.mount_scan.specs.Settled.{IsLastFree}
use Rattle.mount_scan.proofs.Blocks.{all_found, as_before, has_shape, none_read}
use Rattle.mount_scan.proofs.PageReads.{on_ok_holds}
use Rattle.mount_scan.proofs.TrueMount.{none_free}
use Rattle.mount_scan.proofs.scan.scan_all.Goals as goal

pub read_blocks-requires-clause-read : goal.read_blocks-requires-clause-read
read_blocks-requires-clause-read g c =
    none_read (g.D.Die.state c.args.die.now).shape c.args.work.now (g.D.Die.state c.args.die.now).cells c.args.tables.now (g.met.D.Die.shaped c.args.die.now).some_pages c.requires.tables

pub returns-in_default-clause-refused : goal.returns-in_default-clause-refused
returns-in_default-clause-refused g c =
    let old = g.D.Die.state c.args.die.now in
    let new = g.D.Die.state c.read_blocks.new.die in
    let work = c.read_blocks.new.work in
    let tables = c.read_blocks.new.tables in
    let ok : is_err c.read_blocks.result ≡ false = sym c.is_err.ensures.value ∙ c.if-is_err.false in
    let reads : Reads (page_count old.shape) old new = on_ok_holds c.read_blocks.result ok c.read_blocks.ensures.reads in
    let read : ReadOn new work new.shape.blocks 0 tables = on_ok_holds c.read_blocks.result ok c.read_blocks.ensures.read in (
      as_before (λ n cells. EveryBlockLive n cells) new old work c.args.work.now (length tables.map) (length c.args.tables.now.map)
          (sym reads.kept.shape) (sym reads.same_cells.cells) (sym c.read_blocks.ensures.same_work) (sym c.read_blocks.ensures.same_sectors)
          (none_free (geometry_of new.shape work (length tables.map)) new.cells tables read (subst (IsLastFree tables.book (length tables.book.states)) c.in_default.is c.highest_free.ensures)),
      reads,
    )

pub finish-requires-clause-found : goal.finish-requires-clause-found
finish-requires-clause-found g c =
    let work = c.read_blocks.new.work in
    let tables = c.read_blocks.new.tables in
    let new = g.D.Die.state c.read_blocks.new.die in
    all_found (geometry_of new.shape work (length tables.map)) new.cells tables (on_ok_holds c.read_blocks.result (sym c.is_err.ensures.value ∙ c.if-is_err.false) c.read_blocks.ensures.read)

pub returns-clause-mounted : goal.returns-clause-mounted
returns-clause-mounted g c =
    let old = g.D.Die.state c.args.die.now in
    let new = g.D.Die.state c.read_blocks.new.die in
    let work = c.read_blocks.new.work in
    let tables = c.read_blocks.new.tables in
    let n : Geometry = geometry_of new.shape work (length tables.map) in
    let ok : is_err c.read_blocks.result ≡ false = sym c.is_err.ensures.value ∙ c.if-is_err.false in
    let reads : Reads (page_count old.shape) old new = on_ok_holds c.read_blocks.result ok c.read_blocks.ensures.reads in
    let read : ReadOn new work new.shape.blocks 0 tables = on_ok_holds c.read_blocks.result ok c.read_blocks.ensures.read in
    let serves : Serves work new.shape =
    subst (λ (w : Sizes). Serves w new.shape) (sym c.read_blocks.ensures.same_work) (subst (λ (s : Shape). Serves c.args.work.now s) (sym reads.kept.shape) c.requires.work) in
    let some : 0 < units n =
    as_before (λ m cells. 0 < units m) old new c.args.work.now work (length c.args.tables.now.map) (length tables.map)
    reads.kept.shape reads.same_cells.cells c.read_blocks.ensures.same_work c.read_blocks.ensures.same_sectors c.requires.tables.some_units in
    as_before (λ m cells. AreMounted m c.args.reuse_max cells c.finish.new.tables) new old work c.args.work.now (length tables.map) (length c.args.tables.now.map)
    (sym reads.kept.shape) (sym reads.same_cells.cells) (sym c.read_blocks.ensures.same_work) (sym c.read_blocks.ensures.same_sectors)
    (c.finish.ensures n new.cells (has_shape new work (length tables.map) serves (g.met.D.Die.shaped c.read_blocks.new.die)) some read
    (subst (IsLastFree tables.book (length tables.book.states)) c.in-Some.is c.highest_free.ensures))
