-- A valid word above gives its kind and its last byte; and room for the zeros gives a valid word.
use Rattle.image_audit.proofs.Endings.{ending_from_valid, valid_from_ending}
use Rattle.image_audit.proofs.header_cells.header_cells_lie_below_valid_words_by_their_ones.Goals as goal

pub returns : goal.returns
returns c = record { below = ending_from_valid; above = valid_from_ending }
