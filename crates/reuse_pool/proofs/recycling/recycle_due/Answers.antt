-- Each turn makes a step of a run: the lowest Used block with no live record is the lowest due one.
use Rattle.std.proofs.Common.{arith}
use Rattle.reuse_pool.specs.Recycling.{IsDue, done, step}
use Rattle.reuse_pool.proofs.Steps.{recycled_count-after, due_within}
use Rattle.reuse_pool.proofs.recycling.recycle_due.Goals as goal

pub returns-then-units-eq0-clause-recycles : goal.returns-then-units-eq0-clause-recycles
returns-then-units-eq0-clause-recycles c = done c.args.book.now (λ b due. absurd (omega (arith, due.2)))

pub loop-init : goal.loop-init
loop-init c = record { counted = c.recycled_count-counter.ensures; units = omega arith; rest = λ w run. run }

pub returns-in_default-clause-recycles : goal.returns-in_default-clause-recycles
returns-in_default-clause-recycles c =
    let none = c.in_default.ensures.none in
    c.loop.invariant.rest c.loop.book (done c.loop.book (λ b due. absurd (none b (due_within c.loop.book b due) (due.0, due.1))))

pub recycle-requires-clause-due : goal.recycle-requires-clause-due
recycle-requires-clause-due c = (c.in-Some.ensures.found.0.0, c.in-Some.ensures.found.0.1, c.loop.invariant.units)

pub loop-preserved : goal.loop-preserved
loop-preserved c =
    let i = c.loop.invariant in
    let due : IsDue c.loop.book c.in-Some.block = (c.in-Some.ensures.found.0.0, c.in-Some.ensures.found.0.1, i.units) in
    rw c.recycle.ensures (record {
      counted = omega (arith, i.counted, recycled_count-after c.loop.book c.in-Some.block (due_within c.loop.book c.in-Some.block due) due);
      units = i.units;
      rest = λ w more. i.rest w (step c.loop.book w c.in-Some.block (omega (arith, i.counted)) due (λ b below other. c.in-Some.ensures.found.1 b below (other.0, other.1)) more);
    })

pub returns-clause-recycles : goal.returns-clause-recycles
returns-clause-recycles c = c.loop.invariant.rest c.loop.book (done c.loop.book (λ b due. omega (arith, c.loop.invariant.counted)))
