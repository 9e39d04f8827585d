use Rattle.std.proofs.Common.{refl, arith}
use Rattle.rssd_run.proofs.run.line.write_line.Goals as goal

pub returns-then-sector-sectors : goal.returns-then-sector-sectors
returns-then-sector-sectors g c = (omega (arith, c.sectors.ensures), refl)

pub returns-then-bytes-sector_bytes : goal.returns-then-bytes-sector_bytes
returns-then-bytes-sector_bytes g c = (omega (arith, c.sectors.ensures), omega (arith, c.sector_bytes.ensures), refl)
