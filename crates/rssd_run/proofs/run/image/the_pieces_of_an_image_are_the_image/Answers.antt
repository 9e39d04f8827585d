-- The pages, one after another, are the cells.
use Rattle.rssd_run.proofs.GiveImage.{image_bytes}
use Rattle.rssd_run.proofs.run.image.the_pieces_of_an_image_are_the_image.Goals as goal

pub returns : goal.returns
returns c = λ head cells. image_bytes head cells
