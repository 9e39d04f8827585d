-- No mount of a new die of an image's cells fails.
use Rattle.mem_die.specs.MemState.{mem_state}
use Rattle.die_image.specs.Image.{shape_of}
use Rattle.rssd_run.specs.Heads.{numbers_named}
use Rattle.rssd_lab.proofs.Starts.{made_mounts}
use Rattle.rssd_lab.proofs.ready.of_image.Goals as goal

pub invariant_of-result-clause-mounts : goal.invariant_of-result-clause-mounts
invariant_of-result-clause-mounts c = λ new fails.
    made_mounts (shape_of c.args.head) c.args.cells.items (numbers_named c.args.head) (mem_state c.in_ok-die.die) (mem_state new) c.in_ok-die.ensures fails
