-- The blocks are read one after another.
use Rattle.std.proofs.Common.{◌≡◌, ℕ, ◌+◌, ◌*◌, ◌≤◌, ap, subst, arith, rules}
use Rattle.std.proofs.Math.Nat.{mul-le-mul_right}
use Rattle.std.proofs.lemmas.Result.{err_from_is_err_and}
use Rattle.cell_die.specs.declared.shape.Shape.{Shape}
use Rattle.cell_die.specs.DieState.{page_count}
use Rattle.mount_scan.specs.Scanned.{Reads}
use Rattle.mount_scan.proofs.PageReads.{fails_after, reads_more, reads_none}
use Rattle.mount_scan.proofs.scan.read_blocks.Goals as goal

pub loop-block-init : goal.loop-block-init
loop-block-init g c =
    let old = g.D.Die.state c.args.die.now in
    let none : 0 ≡ 0 * old.shape.pages = omega arith in
    let reads : Reads (0 * old.shape.pages) old old = subst (λ (n : ℕ). Reads n old old) none (reads_none old) in
    search rules

pub returns-in_err-read_block-clause-fails : goal.returns-in_err-read_block-clause-fails
returns-in_err-read_block-clause-fails g c =
    let i = c.loop-block.invariant in
    let old = g.D.Die.state c.args.die.now in
    let mid = g.D.Die.state c.loop-block.die in
    let new = g.D.Die.state c.read_block.new.die in
    let block = c.loop-block.block in
    let pages : mid.shape.pages ≡ old.shape.pages = ap (λ (s : Shape). s.pages) i.reads.kept.shape in
    let some : block + 1 ≤ old.shape.blocks = omega (arith, i.end, c.loop-block-test.true) in
    let room : (block + 1) * old.shape.pages ≤ old.shape.blocks * old.shape.pages = mul-le-mul_right old.shape.pages some in
    let within : block * old.shape.pages + mid.shape.pages ≤ page_count old.shape = omega (arith, room, pages) in
    let p = err_from_is_err_and c.from_residual.result c.from_residual.ensures.1 in
    rw p.1 (fails_after (block * old.shape.pages) mid.shape.pages (page_count old.shape) old mid new within i.reads c.in_err-read_block.ensures.fails)

pub loop-block-preserved : goal.loop-block-preserved
loop-block-preserved g c =
    let i = c.loop-block.invariant in
    let old = g.D.Die.state c.args.die.now in
    let mid = g.D.Die.state c.loop-block.die in
    let new = g.D.Die.state c.read_block.new.die in
    let block = c.loop-block.block in
    let pages : mid.shape.pages ≡ old.shape.pages = ap (λ (s : Shape). s.pages) i.reads.kept.shape in
    let sum : block * old.shape.pages + mid.shape.pages ≡ (block + 1) * old.shape.pages = omega (arith, pages) in
    let reads : Reads ((block + 1) * old.shape.pages) old new =
    subst (λ (n : ℕ). Reads n old new) sum (reads_more (block * old.shape.pages) mid.shape.pages old mid new i.reads c.in_ok-read_block.ensures.reads) in
    search rules
