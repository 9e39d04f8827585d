-- What a command asks: its sector, whether it is a read, and the bytes of a write.
use Rattle.std.specs.Prelude.{ℕ, Bool, true, false, length, nat_lt}
use Rattle.rssd_core.specs.SectorArray.{filled_up}
use Rattle.rssd_queue.specs.declared.ask.Ask.{Ask}
use Rattle.rssd_queue.specs.declared.ask.Ask.TheVariants.{Write, Read, Trim}

-- the sector that it is about
abbrev pub sector_of : Ask → ℕ
sector_of (Write sector bytes) = sector
sector_of (Read sector) = sector
sector_of (Trim sector) = sector

abbrev pub is_read : Ask → Bool
is_read (Write sector bytes) = false
is_read (Read sector) = true
is_read (Trim sector) = false

-- a write of more bytes than a sector has
abbrev pub is_long : ℕ → Ask → Bool
is_long sector_bytes (Write sector bytes) = nat_lt sector_bytes (length bytes)
is_long sector_bytes (Read sector) = false
is_long sector_bytes (Trim sector) = false

-- a write's bytes are filled up with zero bytes
abbrev pub filled : ℕ → Ask → Ask
filled sector_bytes (Write sector bytes) = Write sector (filled_up sector_bytes bytes)
filled sector_bytes (Read sector) = Read sector
filled sector_bytes (Trim sector) = Trim sector
