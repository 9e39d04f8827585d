-- The head was given, and then the rows so far.
use Rattle.std.proofs.Common.{◌∷◌, take, map}
use Rattle.rssd_io.specs.Pieces.{Gives}
use Rattle.lab_tables.proofs.tables.give_rows.Given as goal

abbrev pub invariant-loop-row : goal.invariant-loop-row
invariant-loop-row g l = Gives (l.head ∷ map (λ row. row.items) (take l.row-index l.rows)) (g.O.Sink.log l.fn.out) (g.O.Sink.log l.out)
