-- The limits of a head are those of its die.
use Rattle.rssd_run.proofs.HeadLimits.{head_fits_die}
use Rattle.rssd_run.proofs.run.on_die.die_shape.Goals as goal

pub returns-clause-fits : goal.returns-clause-fits
returns-clause-fits c = head_fits_die c.args.head.now c.requires
