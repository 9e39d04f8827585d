-- The lines of a script are within the grammar, so each may be stepped.
use Rattle.std.proofs.lemmas.List.Elements.{All-weaker}
use Rattle.rssd_script.specs.Script.{IsWithinGrammar}
use Rattle.rssd_script.proofs.Unique.{lines_within}
use Rattle.rssd_run.specs.Shows.{CanStep}
use Rattle.rssd_run.proofs.ReadScript.{can_step}
use Rattle.rssd_run.proofs.run.script.read_script.Goals as goal

pub returns-in-Ok-clause-can_step : goal.returns-in-Ok-clause-can_step
returns-in-Ok-clause-can_step g c =
    let read = c.in_ok-feed_all.ensures.read.read in
    All-weaker IsWithinGrammar CanStep can_step c.in-Ok.lines.items (lines_within _ c.in-Ok.lines.items (c.in-Ok.ensures.reads _ read))
