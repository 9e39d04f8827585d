-- The words of the group are what its cells are, and what the code makes of them.
use Rattle.striped.proofs.groups.read_group.Goals as goal

pub returns : goal.returns
returns g c = record {
  cells = c.take_cells-cells.result;
  messages = c.decode_group-messages.result;
  taken = c.take_cells-cells.ensures.bits;
  decodes = c.decode_group-messages.ensures;
  put = c.put_messages.ensures.put;
  below = c.put_messages.ensures.below;
}
