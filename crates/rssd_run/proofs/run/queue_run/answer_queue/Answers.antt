-- A script has no more lines than bytes.
use Rattle.std.proofs.Common.{◌<◌, ◌^◌, List, length, sym, subst, arith}
use Rattle.rssd_script.specs.declared.lines.Line.{Line}
use Rattle.rssd_run.proofs.Spending.{lines_few}
use Rattle.rssd_run.proofs.run.queue_run.answer_queue.Goals as goal

pub queue_run-requires-clause-few_lines : goal.queue_run-requires-clause-few_lines
queue_run-requires-clause-few_lines g c = subst (λ (ls : List Line). length ls < 2 ^ 32) (sym c.deref.ensures.value) (let few = lines_few _ _ c.in-Ok.ensures.lines.reads in omega (arith, few))
