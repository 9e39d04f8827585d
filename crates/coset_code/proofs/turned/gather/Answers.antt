-- The rows of two words, one after the other.
use Rattle.std.proofs.Common.{arith}
use Rattle.coset_code.proofs.turned.gather.Goals as goal

pub returns-clause-rows : goal.returns-clause-rows
returns-clause-rows c = λ columns coords full s t.
    c.gather_word.ensures.rows columns coords full s t (c.gather_word-count.ensures.rows columns coords full s t (λ k h. absurd (omega arith)))
