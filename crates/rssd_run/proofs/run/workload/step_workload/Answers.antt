-- Each line that is drawn is the next one, and a step more.
use Rattle.std.proofs.Common.{◌≡◌, ℕ, ◌+◌, ◌-◌, [], ◌∷◌, ◌++◌, List, ap, sym, ◌∙◌, arith, subst}
use Rattle.rssd_script.specs.declared.lines.Line.{Line}
use Rattle.rssd_work.specs.Workload.{workload_from}
use Rattle.rssd_run.specs.Shows.{CanStep}
use Rattle.rssd_run.specs.Workloads.{RunsLines}
use Rattle.rssd_run.proofs.CalmLines.{IsPlain, calm_step, runs_none, runs_more}
use Rattle.rssd_run.proofs.WorkloadLines.{next_line_plain, next_line_can_step, one_more_line, all_lines}
use Rattle.rssd_run.proofs.run.workload.step_workload.Goals as goal

pub loop-init : goal.loop-init
loop-init g c = λ d before calm. (
  before,
  calm,
  ([], runs_none d before, ap (λ (n : ℕ). workload_from n c.args.sectors c.args.sector_bytes c.args.seeded.seed) (omega arith)),
)

pub step-requires : goal.step-requires
step-requires g c = subst CanStep (sym c.in_ok-line.ensures.line) (next_line_can_step c.args.sectors c.args.sector_bytes c.loop.state)

pub loop-preserved : goal.loop-preserved
loop-preserved g c = λ d before calm.
    let so = c.loop.invariant d before calm in
    let line = c.in_ok-line.line in
    let plain : IsPlain line = subst IsPlain (sym c.in_ok-line.ensures.line) (next_line_plain c.args.sectors c.args.sector_bytes c.loop.state) in
    let s = calm_step d line c.step.new.reply (g.S.Stepping.session c.loop.session) (g.S.Stepping.session c.step.new.self) so.0 so.1 plain
    (c.step.ensures.numbers d so.1.numbers) (c.step.ensures.step d so.1.numbers) in (
      s.after,
      s.calm,
      (
        so.2.0 ++ line ∷ [],
        runs_more d before so.0 s.after so.2.0 line c.step.new.reply so.2.1 s.step,
        (λ i. (so.2.0 ++ c.in_ok-line.ensures.line i ∷ []) ++ workload_from (c.args.seeded.count - (c.loop.counter + 1)) c.args.sectors c.args.sector_bytes (c.in_ok-line.ensures.next i))
            ∙ (one_more_line c.loop.counter c.args.seeded.count c.args.sectors c.args.sector_bytes c.loop.state so.2.0 c.loop-test.true ∙ so.2.2),
      ),
    )

pub returns : goal.returns
returns g c = λ d before calm.
    let so = c.loop.invariant d before calm in
    let all : so.2.0 ≡ workload_from c.args.seeded.count c.args.sectors c.args.sector_bytes c.args.seeded.seed
    = sym (all_lines c.loop.counter c.args.seeded.count c.args.sectors c.args.sector_bytes c.loop.state so.2.0 (omega arith)) ∙ so.2.2 in
    (so.0, so.1, subst (λ (lines : List Line). RunsLines d before lines so.0) all so.2.1)
