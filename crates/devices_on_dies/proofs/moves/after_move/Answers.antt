-- The tables are true to a blank die, and stay true where a Clean block opens.
use Rattle.std.proofs.Common.{rules, refl}
use Rattle.devices_on_dies.proofs.Writes.{begun_at}
use Rattle.devices_on_dies.proofs.moves.after_move.Goals as goal

pub write-requires-clause-tables : goal.write-requires-clause-tables
write-requires-clause-tables g c =
    begun_at _ _ _ _ (first_of (rw c.in_ok-new_die.ensures.shape, search rules)) (first_of (rw c.in_ok-new_die.ensures.shape, search rules)) (search rules)
    (search rules) refl c.in_ok-new-3.ensures c.in_ok-new_die.ensures.blank c.in_ok-new_book.ensures

pub write-requires-3-clause-tables : goal.write-requires-3-clause-tables
write-requires-3-clause-tables g c = c.open_next.ensures _ _ _ _ c.in_ok-write-2.ensures.tables
