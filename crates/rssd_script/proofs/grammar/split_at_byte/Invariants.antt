-- No byte before the index is the one that is looked for.
use Rattle.std.proofs.Common.{take}
use Rattle.rssd_script.specs.Reading.{Lacks}
use Rattle.rssd_script.proofs.grammar.split_at_byte.Given as goal

abbrev pub invariant-loop-i : goal.invariant-loop-i
invariant-loop-i l = Lacks l.byte (take l.i l.text)
