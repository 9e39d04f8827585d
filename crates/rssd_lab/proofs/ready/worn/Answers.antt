-- A die with reserve blocks over a blank one has the shape of its head, and no mount of it fails.
use Rattle.std.proofs.Common.{refl}
use Rattle.cell_die.specs.DieState.{DieState}
use Rattle.mem_die.specs.WornState.{worn_state}
use Rattle.spare_die.specs.Spare.{spare_state}
use Rattle.spare_die.specs.Tallies.{own_of}
use Rattle.die_image.specs.Image.{shape_of}
use Rattle.rssd_run.specs.Heads.{numbers_named}
use Rattle.rssd_run.proofs.WornPlays.{worn_blank, worn_mounts}
use Rattle.rssd_lab.proofs.ready.worn.Goals as goal

pub invariant_of-result-clause-shape : goal.invariant_of-result-clause-shape
invariant_of-result-clause-shape c =
    let spare = c.in_ok-die.die in
    (worn_blank c.args.head c.args.reserve c.args.bad c.requires.within c.requires.reserve (spare_state (worn_state spare.inner) spare.logical (own_of spare.tally)) c.in_ok-die.ensures).same_shape

pub invariant_of-result-clause-mounts : goal.invariant_of-result-clause-mounts
invariant_of-result-clause-mounts c = λ new fails.
    let spare = c.in_ok-die.die in
    let die : DieState = spare_state (worn_state spare.inner) spare.logical (own_of spare.tally) in
    worn_mounts (numbers_named c.args.head) (shape_of c.args.head) die (spare_state (worn_state new.inner) new.logical (own_of new.tally))
    (worn_blank c.args.head c.args.reserve c.args.bad c.requires.within c.requires.reserve die c.in_ok-die.ensures)
    (record { inner = new.inner; logical = new.logical; tally = new.tally; over = record { shows = refl; facts = new.keeps } }) fails
