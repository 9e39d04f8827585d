-- Bytes that are put on a disk.
use Rattle.std.specs.Prelude.{ℕ, List, replicate}
use Rattle.rssd_disk.specs.declared.bytes.Data.{Data}
use Rattle.rssd_disk.specs.declared.bytes.Data.TheVariants.{Given, Zeros}

-- these bytes
abbrev pub bytes_in : Data → List ℕ
bytes_in (Given bytes) = bytes.now
bytes_in (Zeros count) = replicate count 0
