-- A write to the packed list is a write to the list of entries, and what was packed reads back.
use Rattle.std.proofs.Common.{◌∙◌, refl}
use Rattle.std.proofs.lemmas.List.{map-set}
use Rattle.sector_map.specs.Packed.{unpacked}
use Rattle.sector_map.proofs.map.SectorMap.set.Goals as goal

pub returns : goal.returns
returns c = rw (← c.self.view_is) (map-set unpacked c.self.inside.packed.items c.args.sector c.pack.result ∙ rw c.pack.ensures refl)
