-- Both lists gain, lose or keep the block together, as its old and new state are closed or not. It goes to the set of its new kind.
use Rattle.std.proofs.Common.{◌∙◌, sym}
use Rattle.block_state.proofs.Kept.{live_listed, live_free, live_within, state_is, count_is, kept_state, settled}
use Rattle.block_state.proofs.KindsKept.{state_put}
use Rattle.block_state.proofs.book.Book.set_state.Goals as goal

pub relist-requires-2-clause-listed : goal.relist-requires-2-clause-listed
relist-requires-2-clause-listed c =
    let within = rw (← c.self.view_is) at c.requires.block in
    let was = state_is _ _ _ _ c.self.invariant.kept _ _ _ within c.index.ensures c.is_closed-was.ensures in
    λ closed. live_listed _ _ _ _ c.self.invariant.kept c.args.block (sym was ∙ closed)

pub relist-requires-2-clause-free : goal.relist-requires-2-clause-free
relist-requires-2-clause-free c =
    let within = rw (← c.self.view_is) at c.requires.block in
    let was = state_is _ _ _ _ c.self.invariant.kept _ _ _ within c.index.ensures c.is_closed-was.ensures in
    λ open'. live_free _ _ _ _ c.self.invariant.kept c.args.block (sym was ∙ open')

pub invariant_of-self : goal.invariant_of-self
invariant_of-self c =
    let within = rw (← c.self.view_is) at c.requires.block in
    let fits = rw (← c.self.view_is) at c.requires.in_range in
    let was = state_is _ _ _ _ c.self.invariant.kept _ _ _ within c.index.ensures c.is_closed-was.ensures in
    let count = count_is _ _ _ _ c.self.invariant.kept _ _ within c.index-count.ensures in
    rw (c.relist.ensures, c.relist-2.ensures, c.is_closed.ensures, c.is_closed-2.ensures, was, count)
    (record {
      kept = settled _ _ _ _ (kept_state _ _ _ _ c.self.invariant.kept c.args.block c.args.state within fits _ c.active_after-self-inside.ensures);
      kinds_are = state_put _ _ _ c.self.invariant.kinds_are c.args.block _ _ _ within (live_within _ _ _ _ c.self.invariant.kept _ within) c.put.ensures count;
    })

pub active_after-self-inside-requires : goal.active_after-self-inside-requires
active_after-self-inside-requires c =
    let one = rw (← c.self.view_is) at c.requires.one_active in
    λ active b here. one active b (c.self.invariant.kept.active_is b ∙ here)
