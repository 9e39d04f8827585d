-- Each step's erase counts rise by what its line may erase.
use Rattle.rssd_run.proofs.SavedErases.{runs_erase_few}
use Rattle.rssd_run.proofs.run.reuse.erases_are_few.Goals as goal

pub returns : goal.returns
returns c = runs_erase_few
