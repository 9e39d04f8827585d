-- What a head says of its device.
use Rattle.std.specs.Prelude.{ℕ, List, replicate}
use Rattle.die_image.specs.declared.head.ImageHead.{ImageHead}
use Rattle.die_image.specs.Image.{shape_of}
use Rattle.rssd_core.specs.declared.device.Plan.{Plan}
use Rattle.rssd_core.specs.DeviceValue.{Numbers}
use Rattle.rssd_core.specs.Mount.{numbers_of}
use Rattle.schemes.specs.Schemes.{meaning_named}

-- the plan of a head's device
abbrev pub plan_of : ImageHead → Plan
plan_of head = record { sectors = head.sectors; reuse_max = head.reuse_max }

-- the numbers of a head's device
abbrev pub numbers_named : ImageHead → Numbers
numbers_named head = numbers_of (shape_of head) (meaning_named head.scheme) (plan_of head)

-- as many sectors as the head says, all of them zeros
abbrev pub zero_sectors : ImageHead → List (List ℕ)
zero_sectors head = replicate head.sectors (replicate (meaning_named head.scheme).sector_bytes 0)
