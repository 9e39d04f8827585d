-- No blank die has the one word of `run`.
use Rattle.std.proofs.Common.{◌≡◌, map, Some, string_bytes, Global}
use Rattle.lab_words.specs.declared.asked.DieFrom.{DieFrom}
use Rattle.lab_words.specs.declared.asked.DieFrom.TheVariants.{Blank, Image}
use Rattle.lab_words.specs.Orders.{from_words, IsFromWithin}
use Rattle.lab_words.proofs.Spelling.{run_is_not_blank}
use Rattle.lab_words.proofs.reading.read_die.Goals as goal

pub returns-then-is_run-clause-only : goal.returns-then-is_run-clause-only
returns-then-is_run-clause-only c = only
  where
    only : (die : DieFrom) → IsFromWithin die → map (string_bytes {Z = Global}) c.args.words.now ≡ from_words die → Some Image ≡ Some die
    only (Blank die) within is = absurd (run_is_not_blank (map (string_bytes {Z = Global}) c.args.words.now) die (c.is_run.ensures.0 c.if-is_run.true) is)
    only Image within is = cc
