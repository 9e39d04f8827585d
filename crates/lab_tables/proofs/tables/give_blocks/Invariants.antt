-- The head was given, and then the rows of the blocks so far.
use Rattle.rssd_io.specs.Pieces.{Gives}
use Rattle.count_die.specs.Tallies.{counted_of}
use Rattle.lab_tables.specs.Tables.{block_table}
use Rattle.lab_tables.proofs.tables.give_blocks.Given as goal

abbrev pub invariant-loop-block : goal.invariant-loop-block
invariant-loop-block g l = Gives (block_table (counted_of l.tally) l.block) (g.O.Sink.log l.fn.out) (g.O.Sink.log l.out)
