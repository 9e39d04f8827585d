-- The name stands first, and then the numbers so far, each with its comma.
use Rattle.std.proofs.Common.{◌≡◌, ◌≤◌, ◌+◌, ◌*◌, ◌++◌, length, take}
use Rattle.std.specs.Prelude.{flat_map}
use Rattle.lab_tables.specs.Tables.{with_comma}
use Rattle.lab_tables.proofs.csv.csv_line.Given as goal

abbrev pub invariant-loop-number : goal.invariant-loop-number
invariant-loop-number l = record {
  text : l.text.items ≡ l.name ++ flat_map with_comma (take l.number-index l.front);
  short : length l.text.items ≤ 16 + 21 * l.number-index;
}
