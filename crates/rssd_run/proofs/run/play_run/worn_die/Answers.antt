-- A blank worn die is opened but for want of memory, and what is opened is blank.
use Rattle.std.proofs.Common.{◌≡◌, ◌+◌, inl, inr, ap, subst, ◌∙◌, sym}
use Rattle.cell_die.specs.declared.shape.Shape.{Shape}
use Rattle.mem_die.specs.declared.mem.MemDie.{MemDie}
use Rattle.mem_die.specs.declared.worn.WornMem.{WornMem}
use Rattle.mem_die.specs.MemState.{mem_state, IsNew}
use Rattle.mem_die.specs.WornState.{worn_state, bad_erases_of}
use Rattle.spare_die.specs.Book.{KeepsFacts}
use Rattle.spare_die.specs.Spare.{spare_state}
use Rattle.spare_die.specs.Tallies.{own_of}
use Rattle.spare_die.specs.declared.error.OpenError.TheVariants.{OutOfMemory}
use Rattle.rssd_run.specs.PlayRuns.{IsBlankDie, worn_shape}
use Rattle.rssd_run.proofs.WornPlays.{new_worn, read_worn, every_read, worn_opens}
use Rattle.rssd_run.proofs.run.play_run.worn_die.Goals as goal

pub unreachable-requires : goal.unreachable-requires
unreachable-requires c =
    let head = c.args.head.now in
    let reserve = c.args.reserve in
    let worn : WornMem = c.in_ok-die.die in
    let given : Shape = record c.die_shape.result { blocks = head.blocks + reserve + 1 } in
    let is : given ≡ worn_shape head reserve = λ i. record (c.die_shape.ensures.shape i) { blocks = head.blocks + reserve + 1 } in
    let new : IsNew (worn_shape head reserve) (mem_state worn.die) =
    subst (λ (s : Shape). IsNew s (mem_state worn.die)) is (subst (λ (d : MemDie). IsNew given (mem_state d)) (sym c.in_ok-die.ensures.die) c.in_ok-blank_mem.ensures) in
    let blank : IsBlankDie (worn_shape head reserve) (worn_state worn) = new_worn (worn_shape head reserve) worn new in
    let refused = c.in-Err.refused in
    let memory : refused.why ≡ OutOfMemory = worn_opens head reserve c.requires.within c.requires.reserve worn refused.die blank refused.why c.in-Err.ensures.cause in
    elim c.in-Shape.is [
      | inl bad_shape ↦ cc
      | inr other ↦ elim other [ inl fault ↦ cc | inr table ↦ cc ]
    ]

pub returns-in-Ok : goal.returns-in-Ok
returns-in-Ok c =
    let head = c.args.head.now in
    let reserve = c.args.reserve in
    let worn : WornMem = c.in_ok-die.die in
    let given : Shape = record c.die_shape.result { blocks = head.blocks + reserve + 1 } in
    let is : given ≡ worn_shape head reserve = λ i. record (c.die_shape.ensures.shape i) { blocks = head.blocks + reserve + 1 } in
    let new : IsNew (worn_shape head reserve) (mem_state worn.die) =
    subst (λ (s : Shape). IsNew s (mem_state worn.die)) is (subst (λ (d : MemDie). IsNew given (mem_state d)) (sym c.in_ok-die.ensures.die) c.in_ok-blank_mem.ensures) in
    let blank : IsBlankDie (worn_shape head reserve) (worn_state worn) = new_worn (worn_shape head reserve) worn new in
    let spare = c.in-Ok.die in
    let blocks = c.in-Ok.ensures.logical in
    record {
      inner = spare.inner;
      tally = spare.tally;
      blank = read_worn (worn_shape head reserve) worn spare.inner blank c.in-Ok.ensures.reads;
      every = every_read worn spare.inner c.in-Ok.ensures.reads ∙ c.in_ok-die.ensures.every;
      starts = c.in-Ok.ensures.starts;
      spare =
          record {
            shows = ap (λ n. spare_state (worn_state spare.inner) n (own_of spare.tally)) blocks;
            facts = subst (λ n. KeepsFacts (worn_state spare.inner) (bad_erases_of spare.inner) n spare.tally) blocks spare.keeps;
          };
    }
