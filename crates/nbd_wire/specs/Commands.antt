-- The commands of requests, by their numbers.
use Rattle.std.specs.Prelude.{◌≡◌, ℕ, List, [], ◌∷◌, slice_get, unwrap_or}
use Rattle.nbd_wire.specs.declared.command.Command.{Command}
use Rattle.nbd_wire.specs.declared.command.Command.TheVariants.{Read, Write, Disconnect, Flush, Trim, Cache, WriteZeroes, Other}

unfoldable pub command_number : Command → ℕ
command_number Read = 0
command_number Write = 1
command_number Disconnect = 2
command_number Flush = 3
command_number Trim = 4
command_number Cache = 5
command_number WriteZeroes = 6
command_number (Other number) = number

-- the commands that have a name, in the order of their numbers
abbrev pub named_commands : List Command
named_commands = Read ∷ Write ∷ Disconnect ∷ Flush ∷ Trim ∷ Cache ∷ WriteZeroes ∷ []

-- the command of a number
unfoldable pub command_of : ℕ → Command
command_of number = unwrap_or (slice_get named_commands number) (Other number)

-- a command that has a name is not given by its number
abbrev pub IsCommand : Command → Type 0
IsCommand command = command_of (command_number command) ≡ command
