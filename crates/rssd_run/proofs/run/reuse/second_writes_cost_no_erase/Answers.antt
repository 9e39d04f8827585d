-- Each step's erase counts rise by what its line may erase.
use Rattle.rssd_run.proofs.SavedErases.{runs_save}
use Rattle.rssd_run.proofs.run.reuse.second_writes_cost_no_erase.Goals as goal

pub returns : goal.returns
returns c = runs_save
