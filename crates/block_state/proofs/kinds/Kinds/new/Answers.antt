-- Each block is put in the set of the Clean ones, and the others stay empty.
use Rattle.std.proofs.Common.{◌≡◌, ltb, refl, ap, ◌∙◌, arith}
use Rattle.block_state.proofs.KindsKept.{one_more, all_clean}
use Rattle.block_state.proofs.kinds.Kinds.new.Goals as goal

pub loop-block-preserved : goal.loop-block-preserved
loop-block-preserved c = one_more c.loop-block.clean.words c.insert.new.self.words c.loop-block.block c.loop-block.invariant c.insert.ensures

pub returns : goal.returns
returns c =
    let whole : c.loop-block.block ≡ c.args.blocks = omega arith in
    all_clean c.args.blocks _ (λ b. c.loop-block.invariant b ∙ ap (ltb b) whole) c.new.ensures c.new-2.ensures refl
