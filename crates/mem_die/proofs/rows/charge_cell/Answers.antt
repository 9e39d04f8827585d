use Rattle.std.proofs.Common.{◌≡◌, ◌*◌, ◌/◌, ◌%◌, ◌^◌, ◌<◌, arith, bit_or, get_or}
use Rattle.std.proofs.lemmas.Nat.{one_shl}
use Rattle.std.specs.Fork.{slice_chunk}
use Rattle.mem_die.proofs.Writes.{byte_set, byte_read}
use Rattle.mem_die.proofs.rows.charge_cell.Goals as goal

pub returns : goal.returns
returns c =
    let at : c.args.cell / 8 < c.args.size = omega arith in
    let power : 1 * 2 ^ (c.args.cell % 8) % 256 ≡ 2 ^ (c.args.cell % 8) = one_shl (c.args.cell % 8) 8 (omega arith) in
    rw (power, byte_read c.args.bytes.now c.args.size c.args.page (c.args.cell / 8) at)
    (byte_set c.args.bytes.now c.args.size c.args.page (c.args.cell / 8)
    (bit_or (get_or (slice_chunk c.args.bytes.now c.args.size c.args.page) (c.args.cell / 8) 0) (2 ^ (c.args.cell % 8))) c.requires.room at)
