-- Each packed number of a new map reads back as no entry.
use Rattle.std.proofs.Common.{◌≡◌, ℕ, zero, suc, ap, ◌∙◌, refl, map, replicate, ◌∷◌}
use Rattle.sector_map.specs.Packed.{unpacked}
use Rattle.sector_map.proofs.map.SectorMap.new.Goals as goal

map-replicate : (n m : ℕ) → map unpacked (replicate n m) ≡ replicate n (unpacked m)
map-replicate zero m = refl
map-replicate (suc n) m = ap (λ xs. unpacked m ∷ xs) (map-replicate n m)

pub returns : goal.returns
returns c = ap (map unpacked) (c.in_ok-packed.ensures.items_if_clones_equal (λ y e. e)) ∙ map-replicate c.args.sectors 4294967295
