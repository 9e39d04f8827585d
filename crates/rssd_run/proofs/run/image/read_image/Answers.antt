-- The end of the reader says of the bytes that it was fed what is so of all.
use Rattle.rssd_run.proofs.ReadImage.{reads_image, read_cells, no_image}
use Rattle.rssd_run.proofs.run.image.read_image.Goals as goal

pub returns-in-Ok-clause-read : goal.returns-in-Ok-clause-read
returns-in-Ok-clause-read g c =
    reads_image _ _ c.args.reader c.feed_wanted.new.reader c.in-Ok.head c.in-Ok.cells.items c.in_ok-feed_wanted.ensures.fed c.in_ok-feed_wanted.ensures.all c.in-Ok.ensures

pub returns-in-Ok-clause-cells : goal.returns-in-Ok-clause-cells
returns-in-Ok-clause-cells g c = read_cells c.feed_wanted.new.reader c.in-Ok.head c.in-Ok.cells.items c.in_ok-feed_wanted.ensures.fed.well c.in-Ok.ensures

pub returns-in-Err-clause-refused : goal.returns-in-Err-clause-refused
returns-in-Err-clause-refused g c = no_image _ _ c.args.reader c.feed_wanted.new.reader c.in-Err.why c.in_ok-feed_wanted.ensures.fed c.in_ok-feed_wanted.ensures.all c.in-Err.ensures
