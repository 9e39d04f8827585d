use Rattle.std.proofs.Common.{◌+◌, ◌*◌, ◌≤◌, arith}
use Rattle.std.proofs.Math.Nat.{mul-le-mul_right}
use Rattle.mem_die.proofs.Writes.{tears_more}
use Rattle.mem_die.proofs.rows.tear_pages.Goals as goal

pub tear_page-requires-clause-room : goal.tear_page-requires-clause-room
tear_page-requires-clause-room c =
    let below : c.args.first + c.loop-k.k + 1 ≤ c.args.first + c.args.count = omega arith in
    let room : (c.args.first + c.loop-k.k + 1) * c.args.size ≤ (c.args.first + c.args.count) * c.args.size = mul-le-mul_right c.args.size below in
    omega arith

pub loop-k-preserved : goal.loop-k-preserved
loop-k-preserved c = record {
  change = tears_more c.args.torn c.args.bytes.now c.loop-k.bytes c.tear_page.new.bytes c.blank_page.result.now c.args.size c.args.first c.loop-k.k
      c.blank_page.ensures c.loop-k.invariant.change c.tear_page.ensures.change;
  bytes = c.tear_page.ensures.bytes;
}
