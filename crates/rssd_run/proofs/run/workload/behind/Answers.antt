-- The state goes up by one stride with each word.
use Rattle.std.proofs.Common.{ℕ, ◌+◌, ◌*◌, ◌%◌, ◌^◌, ap, ◌∙◌, arith}
use Rattle.rssd_run.proofs.WorkloadLines.{after_words-wrapping}
use Rattle.rssd_run.proofs.run.workload.behind.Goals as goal

pub returns : goal.returns
returns c =
    ap (λ (n : ℕ). (c.args.state + 0x9e3779b97f4a7c15 * n % 2 ^ 64) % 2 ^ 64) c.from.ensures
    ∙ after_words-wrapping c.args.words c.args.state (omega arith)
