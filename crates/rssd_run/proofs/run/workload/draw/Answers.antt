-- A workload of one line is the next line, and the state behind it is as many words on as it draws.
use Rattle.std.proofs.Common.{◌≡◌, ℕ, length, sym, ap, ◌∙◌, arith}
use Rattle.rssd_script.specs.declared.lines.Line.{Line}
use Rattle.rssd_work.specs.Workload.{after_words, next_line}
use Rattle.rssd_run.specs.Workloads.{words_of}
use Rattle.rssd_run.proofs.WorkloadLines.{workload-one, words_of-next_line, last_of_one}
use Rattle.rssd_run.proofs.run.workload.draw.Goals as goal

pub unreachable-requires : goal.unreachable-requires
unreachable-requires c =
    let one = c.in_ok-lines.ensures ∙ workload-one c.args.state.now c.args.sectors c.args.sector_bytes in
    let none = c.in_default.ensures.cases in
    omega (arith, ap (length {A = Line}) one, none)

pub returns-clause-line : goal.returns-clause-line
returns-clause-line c =
    last_of_one c.pop.new.self.items c.in-Some.line (next_line c.args.sectors c.args.sector_bytes c.args.state.now)
    (sym c.in-Some.ensures.items ∙ (c.in_ok-lines.ensures ∙ workload-one c.args.state.now c.args.sectors c.args.sector_bytes))

pub returns-clause-next : goal.returns-clause-next
returns-clause-next c =
    let line : c.in-Some.line ≡ next_line c.args.sectors c.args.sector_bytes c.args.state.now
    = last_of_one c.pop.new.self.items c.in-Some.line (next_line c.args.sectors c.args.sector_bytes c.args.state.now)
    (sym c.in-Some.ensures.items ∙ (c.in_ok-lines.ensures ∙ workload-one c.args.state.now c.args.sectors c.args.sector_bytes)) in
    c.behind.ensures
    ∙ ap (λ (n : ℕ). after_words n c.args.state.now)
    (c.words_of.ensures.words ∙ (ap (words_of c.args.sector_bytes) line ∙ words_of-next_line c.args.sectors c.args.sector_bytes c.args.state.now))
