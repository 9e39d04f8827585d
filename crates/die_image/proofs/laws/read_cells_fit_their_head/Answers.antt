-- What was read passed the tests of its head and of its cells.
use Rattle.die_image.proofs.Back.{read_found}
use Rattle.die_image.proofs.laws.read_cells_fit_their_head.Goals as goal

pub returns : goal.returns
returns c = λ is_old bytes head cells e. (read_found is_old bytes head cells e).are
