use Rattle.std.proofs.Common.{◌≡◌, ◌+◌, ◌*◌, ◌-◌, arith}
use Rattle.mem_die.proofs.Writes.{page_torn}
use Rattle.mem_die.proofs.rows.blend_page.Goals as goal

pub returns : goal.returns
returns c =
    let size : c.args.page * c.args.size + c.args.size - c.args.page * c.args.size ≡ c.args.size = omega arith in
    rw size (page_torn c.args.bytes.now c.args.target.now c.blend.new.page c.args.mask c.args.size c.args.page c.requires.room c.requires.whole (rw size at c.blend.ensures))
