-- One call and then another.
use Rattle.cell_die.proofs.Sequences.{ok_then, err_then}
use Rattle.page_codec.proofs.gate.program_and_charge.Goals as goal

pub returns-clause-passed : goal.returns-clause-passed
returns-clause-passed g c = ok_then 1 0 _ _ _ c.charge.result c.in_ok-program.ensures.passed c.charge.ensures.passed

pub returns-clause-failed : goal.returns-clause-failed
returns-clause-failed g c = err_then 1 0 _ _ _ c.charge.result c.in_ok-program.ensures.passed c.charge.ensures.failed
