-- The next block gets its state.
use Rattle.std.proofs.Common.{◌≡◌, ◌<◌, length, get_or, ap, ◌∙◌, ◌==◌, arith}
use Rattle.std.proofs.lemmas.List.{length-set, get_or_default}
use Rattle.block_state.specs.declared.state.State.TheVariants.{Clean}
use Rattle.mount_scan.specs.Settled.{settled, settled_at}
use Rattle.mount_scan.proofs.Settling.{settled_more}
use Rattle.mount_scan.proofs.settle.settle.Goals as goal

pub loop-block-preserved : goal.loop-block-preserved
loop-block-preserved c =
    let i = c.loop-block.invariant in
    let within : c.loop-block.block < length c.loop-block.tables.book.states = omega (arith, i.blocks, i.end, c.loop-block-test.true) in
    let in_found : c.loop-block.block < length c.loop-block.tables.found.items
    = omega (arith, ap (λ f. length f.items) i.found, c.requires.reading.found, i.end, c.loop-block-test.true) in
    let is : c.settled_state.result ≡ settled_at c.args.tables.now.found.items c.args.spare c.loop-block.block
    = c.settled_state.ensures
    ∙ ap (λ s. settled s (c.loop-block.block == c.args.spare))
    (c.index-found.ensures ∙ (get_or_default c.loop-block.tables.found.items c.loop-block.block _ Clean in_found ∙ ap (λ f. get_or f.items c.loop-block.block Clean) i.found)) in
    rw c.set_state.ensures (record {
      below = settled_more c.args.tables.now.found.items c.args.spare c.loop-block.block c.loop-block.tables.book c.settled_state.result within is i.below;
      blocks = length-set c.loop-block.tables.book.states c.loop-block.block _ ∙ i.blocks;
      live = i.live;
      pages = i.pages;
      units = i.units;
      generations = i.generations;
      map = i.map;
      seq = i.seq;
      found = i.found;
      end = i.end;
    })
