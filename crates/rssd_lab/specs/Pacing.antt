-- Lines of which someone is told how many have come.
use Rattle.rssd_lab.specs.declared.pace.Paced.{Paced}

-- the lines themselves
abbrev pub inner_of : {L P : Type 0} → Paced L P → L
inner_of paced = paced.inner
