-- A write to the packed list is a write to the list of entries.
use Rattle.std.proofs.lemmas.List.{map-set}
use Rattle.sector_map.specs.Packed.{unpacked}
use Rattle.sector_map.proofs.map.SectorMap.clear.Goals as goal

pub returns : goal.returns
returns c = rw (← c.self.view_is) (map-set unpacked c.self.inside.packed.items c.args.sector 4294967295)
