-- A text is at most one script and has at most one first bad line.
use Rattle.rssd_script.proofs.Unique.{within, lines_only, bad_only, long_only}
use Rattle.rssd_script.proofs.script.parse.Goals as goal

pub returns-clause-lines_only : goal.returns-clause-lines_only
returns-clause-lines_only c = lines_only (λ v. v.items) c.args.text.now c.read_all.result c.read_all.ensures

pub returns-clause-bad_only : goal.returns-clause-bad_only
returns-clause-bad_only c = bad_only (λ v. v.items) c.args.text.now c.read_all.result c.read_all.ensures

pub returns-clause-long_only : goal.returns-clause-long_only
returns-clause-long_only c = long_only (λ v. v.items) c.args.text.now c.read_all.result c.read_all.ensures

pub returns-clause-within : goal.returns-clause-within
returns-clause-within c = within (λ v. v.items) c.args.text.now c.read_all.result c.read_all.ensures
