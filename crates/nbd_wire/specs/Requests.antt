-- The head of a request: the client's magic number, flags, command, handle, offset and length.
use Rattle.std.specs.Prelude.{ℕ, ◌^◌, ◌<◌, List, ◌++◌}
use Rattle.nbd_wire.specs.declared.request.Request.{Request}
use Rattle.nbd_wire.specs.Commands.{command_number, command_of, IsCommand}
use Rattle.nbd_wire.specs.Numbers.{half, word, long, half_at, word_at, long_at}

unfoldable pub request_bytes : Request → List ℕ
request_bytes r = word 0x2560_9513 ++ half r.flags ++ half (command_number r.command) ++ long r.handle ++ long r.offset ++ word r.length

-- the numbers fit their places
pub record IsRequest (r : Request) : Type 0 where
  pub command : IsCommand r.command
  pub number : command_number r.command < 2 ^ 16
  pub flags : r.flags < 2 ^ 16
  pub handle : r.handle < 2 ^ 64
  pub offset : r.offset < 2 ^ 64
  pub length : r.length < 2 ^ 32

-- the request whose numbers stand there
unfoldable pub request_in : List ℕ → Request
request_in bytes = record { flags = half_at 4 bytes; command = command_of (half_at 6 bytes); handle = long_at 8 bytes; offset = long_at 16 bytes; length = word_at 24 bytes }
