-- The pieces before this one were given.
use Rattle.std.specs.Slice.Iter.{chunks_rest, chunks_size}
use Rattle.std.proofs.Common.{◌≡◌}
use Rattle.cell_die.specs.DieState.{page_bytes}
use Rattle.die_image.specs.Image.{shape_of}
use Rattle.rssd_io.specs.Told.{TellsHeld}
use Rattle.rssd_run.specs.GiveImage.{image_pieces, pages_in}
use Rattle.rssd_run.proofs.GiveImage.{IsGiven}
use Rattle.rssd_run.proofs.run.image.give_image.Given as goal

abbrev pub invariant-loop-page : goal.invariant-loop-page
invariant-loop-page g l = record {
  next : (goal.iterator-loop-page g).can_next l.page-iterator;
  finite : (goal.iterator-loop-page g).is_finite l.page-iterator;
  size : chunks_size l.page-iterator ≡ page_bytes (shape_of l.fn.head);
  held : TellsHeld (g.G.Sink.written l.fn.image_out) (g.G.Sink.written l.image_out) (g.G.Sink.log l.fn.image_out) (g.G.Sink.log l.image_out);
  given : IsGiven (g.G.Sink.log l.fn.image_out) (g.G.Sink.log l.image_out) (image_pieces l.fn.head l.fn.cells) (pages_in (page_bytes (shape_of l.fn.head)) (chunks_rest l.page-iterator));
}
