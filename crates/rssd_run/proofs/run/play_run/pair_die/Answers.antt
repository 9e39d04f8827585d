-- Both dies have half of the head's blocks.
use Rattle.std.proofs.Common.{◌≡◌, ◌/◌, refl, sym, subst}
use Rattle.cell_die.specs.declared.shape.Shape.{Shape}
use Rattle.mem_die.specs.declared.mem.MemDie.{MemDie}
use Rattle.mem_die.specs.MemState.{mem_state, IsNew}
use Rattle.rssd_run.specs.PlayRuns.{half_shape}
use Rattle.rssd_run.proofs.run.play_run.pair_die.Goals as goal

pub returns : goal.returns
returns c =
    let head = c.args.head.now in
    let given : Shape = record c.die_shape.result { blocks = head.blocks / 2 } in
    let is : given ≡ half_shape head = λ i. record (c.die_shape.ensures.shape i) { blocks = head.blocks / 2 } in
    let first : IsNew given (mem_state c.in-Ok.pair.a) = subst (λ (d : MemDie). IsNew given (mem_state d)) (sym c.in-Ok.ensures.first) c.in_ok-blank_mem.ensures in
    let second : IsNew given (mem_state c.in-Ok.pair.b) = subst (λ (d : MemDie). IsNew given (mem_state d)) (sym c.in-Ok.ensures.second) c.in_ok-blank_mem-2.ensures in
    record {
      first = c.in-Ok.pair.a;
      second = c.in-Ok.pair.b;
      first_blank = subst (λ (s : Shape). IsNew s (mem_state c.in-Ok.pair.a)) is first;
      second_blank = subst (λ (s : Shape). IsNew s (mem_state c.in-Ok.pair.b)) is second;
      as_one = refl;
    }
