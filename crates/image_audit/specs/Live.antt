-- What is known of live records after some marks.
use Rattle.std.specs.Prelude.{◌≡◌, ℕ, Bool, true, List, nat_eq, Option, Some, None}
use Rattle.std.specs.Option.{option_map}
use Rattle.std.specs.HashMap.{HashMap, get, keys, IsUnique}
use Rattle.page_codec.specs.Records.{is_newer}
use Rattle.image_audit.specs.declared.mark.Mark.{Mark}
use Rattle.image_audit.specs.Held.{first_met}
use Rattle.image_audit.specs.Marks.{placed_of, sectors_in, newest_of}

-- the map has the newest committed record of each sector, and its keys go in the order in which they were first met
pub record Knows {S : Type 0} (marks : List Mark) (live : HashMap ℕ Mark S) : Type 0 where
  pub unique : IsUnique nat_eq live
  pub sectors : keys live ≡ first_met (sectors_in marks)
  pub newest : (sector : ℕ) → option_map placed_of (get nat_eq live sector) ≡ newest_of marks sector

-- a record takes over where none is known, or where it is newer than the one known
abbrev pub wins : Option Mark → Mark → Bool
wins None mark = true
wins (Some former) mark = is_newer (placed_of mark) (placed_of former)
