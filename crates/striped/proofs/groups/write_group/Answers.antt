-- The words of the group are what its cells, its messages and the code's new cells are.
use Rattle.striped.proofs.groups.write_group.Goals as goal

pub returns-in-None-clause-declined : goal.returns-in-None-clause-declined
returns-in-None-clause-declined g c = λ answer.
    let none = c.in-None.ensures.declined in record {
      cells = c.old_cells-cells.result;
      messages = c.take_messages-messages.result;
      place = none.0;
      within = none.1;
      taken = c.old_cells-cells.ensures;
      told = c.take_messages-messages.ensures;
      none = none.2;
    }

pub returns-in-Some-clause-written : goal.returns-in-Some-clause-written
returns-in-Some-clause-written g c = λ answer. record {
  cells = c.old_cells-cells.result;
  messages = c.take_messages-messages.result;
  out = c.in-Some.new;
  group = record {
    same_length = c.put_cells.auto.row;
    taken = c.old_cells-cells.ensures;
    told = c.take_messages-messages.ensures;
    put = c.put_cells.ensures.bits;
    below = c.put_cells.ensures.below;
    above = c.put_cells.ensures.above;
  };
  carries = c.in-Some.ensures.carried;
  gives = c.in-Some.ensures.given;
}
