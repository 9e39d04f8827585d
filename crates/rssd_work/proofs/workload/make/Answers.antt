-- Each line that is drawn is the next one.
use Rattle.std.proofs.Common.{◌+◌, ◌-◌, [], ◌∷◌, ◌++◌, ap, sym, ◌∙◌, arith}
use Rattle.rssd_work.specs.Workload.{workload_from}
use Rattle.rssd_work.proofs.Drawn.{one_more_line, all_lines}
use Rattle.rssd_work.proofs.workload.make.Goals as goal

pub loop-preserved : goal.loop-preserved
loop-preserved c =
    let pushed = c.in_ok-push.ensures.items ∙ ap (λ line. c.loop.lines.items ++ line ∷ []) c.in_ok-line.ensures.line in
    (λ i. pushed i ++ workload_from (c.args.count - (c.loop.counter + 1)) c.args.sectors c.args.sector_bytes (c.in_ok-line.ensures.next i))
    ∙ one_more_line c.loop.counter c.args.count c.args.sectors c.args.sector_bytes c.loop.words c.loop.lines.items c.loop-test.true
    ∙ c.loop.invariant

pub returns : goal.returns
returns c =
    sym (all_lines c.loop.counter c.args.count c.args.sectors c.args.sector_bytes c.loop.words c.loop.lines.items (omega arith))
    ∙ c.loop.invariant
