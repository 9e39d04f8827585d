-- The rules of a request, and how it is answered on a plain list of bytes.
use Rattle.std.specs.Prelude.{ℕ, ◌+◌, ◌-◌, ◌≤◌, ◌==◌, ◌||◌, nat_lt, nat_le, if◌then◌else◌, List, [], replicate, Option, None, Some}
use Rattle.nbd_wire.specs.declared.command.Command.{Command}
use Rattle.nbd_wire.specs.declared.command.Command.TheVariants.{Read, Write, Disconnect, Flush, Trim, Cache, WriteZeroes, Other}
use Rattle.nbd_wire.specs.declared.reply.Errno.{Errno}
use Rattle.nbd_wire.specs.declared.reply.Errno.TheVariants.{Invalid, NoSpace}
use Rattle.nbd_wire.specs.declared.request.Request.{Request}
use Rattle.rssd_disk.specs.Bytes.{part_of}

-- the greatest flags of a command: bit 0 asks that its data are kept before the reply, bit 1 that zeroes make no hole
abbrev pub most_flags : Command → ℕ
most_flags WriteZeroes = 3
most_flags _ = 1

-- the most bytes that a read or a write may have
abbrev pub longest : ℕ
longest = 1048576

-- Why a range is refused: it has no byte or too many, or ends past the end.
abbrev pub range_refusal : ℕ → ℕ → Errno → Request → Option Errno
range_refusal size most past r =
    if (r.length == 0) || nat_lt most r.length then Some Invalid
    else (if nat_lt size r.length || nat_lt (size - r.length) r.offset then Some past else None)

abbrev pub command_refusal : ℕ → Request → Command → Option Errno
command_refusal size r Read = range_refusal size longest Invalid r
command_refusal size r Write = range_refusal size longest NoSpace r
command_refusal size r Disconnect = Some Invalid
command_refusal size r Flush = None
command_refusal size r Trim = range_refusal size 4294967295 Invalid r
command_refusal size r Cache = Some Invalid
command_refusal size r WriteZeroes = range_refusal size 4294967295 NoSpace r
command_refusal size r (Other number) = Some Invalid

-- why a request is refused by a disk of so many bytes
abbrev pub refusal : ℕ → Request → Option Errno
refusal size r = if nat_lt (most_flags r.command) r.flags then Some Invalid else command_refusal size r r.command

-- a request that is not refused has a command that is served, and its range lies on the disk and is not too long
abbrev pub HasRange : ℕ → Request → Command → Type 0
HasRange size r Flush = Unit {0}
HasRange size r Disconnect = ⊥
HasRange size r Cache = ⊥
HasRange size r (Other number) = ⊥
HasRange size r Trim = r.offset + r.length ≤ size
HasRange size r WriteZeroes = r.offset + r.length ≤ size
HasRange size r _ = (r.offset + r.length ≤ size) × (r.length ≤ longest)

-- how many bytes of data a request has room for, by its command
abbrev pub room_for : Request → Command → ℕ
room_for r Read = if nat_le r.length longest then r.length else 0
room_for r Write = if nat_le r.length longest then r.length else 0
room_for r _ = 0

abbrev pub data_length : Request → ℕ
data_length r = room_for r r.command

-- the bytes that a request puts on the disk, by its command; a write brings its own
abbrev pub bytes_put : Request → List ℕ → Command → List ℕ
bytes_put r brought Write = brought
bytes_put r brought Trim = replicate r.length 0
bytes_put r brought WriteZeroes = replicate r.length 0
bytes_put r brought _ = []

-- the data after a request: those that a read answers, or as they were
abbrev pub data_after : Request → List ℕ → List ℕ → Command → List ℕ
data_after r brought disk Read = part_of r.offset r.length disk
data_after r brought disk _ = brought
