-- The workload is a run on a blank die, `stat` tells its last view, and each sector is then read.
use Rattle.std.proofs.Common.{◌≡◌, ◌⊎◌, ℕ, List, sym, ◌∙◌, subst, rules}
use Rattle.mem_die.specs.MemState.{mem_state, mem_shaped}
use Rattle.rssd_io.specs.Pieces.{Gives, StopsAt}
use Rattle.rssd_run.specs.Heads.{numbers_named}
use Rattle.rssd_run.proofs.BlankStart.{IsFresh, never_full}
use Rattle.rssd_run.proofs.HeadLimits.{sector_bytes_named}
use Rattle.rssd_run.proofs.MadeRuns.{is_made, stepped_named, told_same}
use Rattle.rssd_run.proofs.run.make_run.make_with.Goals as goal

pub returns-in_err-session-clause-spare : goal.returns-in_err-session-clause-spare
returns-in_err-session-clause-spare g c = λ is.
    let fresh : IsFresh c.args.head.now (mem_state c.args.die) = record { within = c.requires.within; shaped = mem_shaped c.args.die; new = c.requires.blank } in
    never_full c.args.head.now (mem_state c.args.die) fresh (search rules)

pub step_workload-requires-clause-sector_bytes : goal.step_workload-requires-clause-sector_bytes
step_workload-requires-clause-sector_bytes g c =
    subst (λ (n : ℕ). (n ≡ 16) ⊎ (n ≡ 512)) (sym c.sector_bytes-sector_bytes.ensures) (sector_bytes_named c.args.head.now.scheme)

pub read_held-held-requires : goal.read_held-held-requires
read_held-held-requires g c =
    let fresh : IsFresh c.args.head.now (mem_state c.args.die) = record { within = c.requires.within; shaped = mem_shaped c.args.die; new = c.requires.blank } in
    let stepped = c.in-Ok.ensures (numbers_named c.args.head.now) in
    let m = is_made c.args.head.now (mem_state c.args.die) fresh c.args.seeded.seed c.args.seeded.count _ _ _ c.in_ok-session.ensures.started
    (stepped_named c.args.head.now c.args.seeded.seed c.args.seeded.count c.sector_bytes-sector_bytes.result c.sector_bytes-sector_bytes.ensures _ _ stepped)
    c.step.new.reply c.step.ensures.numbers c.step.ensures.step in
    (numbers_named c.args.head.now, m.made.rows, m.has, m.has.as_many)

pub returns-in-Ok-tell-clause-done : goal.returns-in-Ok-tell-clause-done
returns-in-Ok-tell-clause-done g c =
    let fresh : IsFresh c.args.head.now (mem_state c.args.die) = record { within = c.requires.within; shaped = mem_shaped c.args.die; new = c.requires.blank } in
    let stepped = c.in-Ok.ensures (numbers_named c.args.head.now) in
    let m = is_made c.args.head.now (mem_state c.args.die) fresh c.args.seeded.seed c.args.seeded.count _ _ _ c.in_ok-session.ensures.started
    (stepped_named c.args.head.now c.args.seeded.seed c.args.seeded.count c.sector_bytes-sector_bytes.result c.sector_bytes-sector_bytes.ensures _ _ stepped)
    c.step.new.reply c.step.ensures.numbers c.step.ensures.step in
    let told = told_same m c.as_slice.result.now c.as_slice-2.result.now c.read_held-held.result.count c.read_held-held.result.sum
    (c.as_slice.ensures ∙ c.print_reply.ensures) (c.as_slice-2.ensures.value ∙ c.held_text.ensures)
    (c.read_held-held.ensures.count (numbers_named c.args.head.now) m.made.rows m.has m.has.as_many) (c.read_held-held.ensures.sum (numbers_named c.args.head.now) m.made.rows m.has m.has.as_many) in
    (m.made, subst (λ (lines : List (List ℕ)). Gives lines (g.O.Sink.log c.args.out.now) (g.O.Sink.log c.tell.new.out)) told c.in-Ok-tell.ensures.done)

pub returns-clause-front : goal.returns-clause-front
returns-clause-front g c = λ is.
    let fresh : IsFresh c.args.head.now (mem_state c.args.die) = record { within = c.requires.within; shaped = mem_shaped c.args.die; new = c.requires.blank } in
    let stepped = c.in-Ok.ensures (numbers_named c.args.head.now) in
    let m = is_made c.args.head.now (mem_state c.args.die) fresh c.args.seeded.seed c.args.seeded.count _ _ _ c.in_ok-session.ensures.started
    (stepped_named c.args.head.now c.args.seeded.seed c.args.seeded.count c.sector_bytes-sector_bytes.result c.sector_bytes-sector_bytes.ensures _ _ stepped)
    c.step.new.reply c.step.ensures.numbers c.step.ensures.step in
    let told = told_same m c.as_slice.result.now c.as_slice-2.result.now c.read_held-held.result.count c.read_held-held.result.sum
    (c.as_slice.ensures ∙ c.print_reply.ensures) (c.as_slice-2.ensures.value ∙ c.held_text.ensures)
    (c.read_held-held.ensures.count (numbers_named c.args.head.now) m.made.rows m.has m.has.as_many) (c.read_held-held.ensures.sum (numbers_named c.args.head.now) m.made.rows m.has m.has.as_many) in
    (m.made, subst (λ (lines : List (List ℕ)). StopsAt lines (g.O.Sink.log c.args.out.now) (g.O.Sink.log c.tell.new.out)) told c.in-Err.ensures.stops)
