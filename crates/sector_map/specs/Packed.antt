-- How a number holds an entry: the page times 8, the slot times 2, and 1 for zeros.
use Rattle.std.specs.Prelude.{ℕ, ◌/◌, ◌%◌, ◌==◌, if◌then◌else◌, Option, Some, None}
use Rattle.sector_map.specs.declared.entry.Entry.{Entry}
use Rattle.sector_map.specs.declared.entry.Entry.TheVariants.{Held, Zeros}
use Rattle.sector_map.specs.declared.entry.Place2.{Place2}

-- the place that a packed number names
abbrev pub place_in : ℕ → Place2
place_in n = record { page = n / 8; slot = n / 2 % 4 }

-- the entry that a packed number holds, and none where it is the greatest of 32 bits
abbrev pub unpacked : ℕ → Option Entry
unpacked n = if n == 4294967295 then None else Some (if n % 2 == 0 then Held (place_in n) else Zeros (place_in n))
