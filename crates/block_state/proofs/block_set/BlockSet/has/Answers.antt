use Rattle.std.proofs.Common.{◌/◌, ◌%◌, ◌<◌, slice_index, arith, tests}
use Rattle.std.proofs.lemmas.Nat.{one_shl, pow_pos}
use Rattle.std.proofs.lemmas.Nat.Bits.{and_pow}
use Rattle.block_state.proofs.block_set.BlockSet.has.Goals as goal

pub returns : goal.returns
returns c =
    let bit : c.args.block % 64 < 64 = omega arith in
    grind (arith, tests, one_shl (c.args.block % 64) 64 bit, and_pow (slice_index c.args.self.now.words (c.args.block / 64)) (c.args.block % 64), pow_pos (c.args.block % 64))
