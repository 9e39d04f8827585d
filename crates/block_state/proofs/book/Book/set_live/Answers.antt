-- A closed block moves to the back of both lists, and any other is in neither. The set of empty Used blocks gains or loses the block.
use Rattle.std.proofs.Common.{◌∙◌, sym}
use Rattle.block_state.proofs.Kept.{live_listed, live_within, state_is, state_read, kept_moved, kept_counted, settled}
use Rattle.block_state.proofs.KindsKept.{live_put}
use Rattle.block_state.proofs.book.Book.set_live.Goals as goal

pub move_to_back-requires-then-is_closed-clause-listed : goal.move_to_back-requires-then-is_closed-clause-listed
move_to_back-requires-then-is_closed-clause-listed c =
    let within = rw (← c.self.view_is) at c.requires.block in
    let was = state_is _ _ _ _ c.self.invariant.kept _ _ _ within c.index-state.ensures c.is_closed.ensures in
    live_listed _ _ _ _ c.self.invariant.kept c.args.block (sym was ∙ c.if-is_closed.true)

pub invariant_of-self : goal.invariant_of-self
invariant_of-self c =
    let within = rw (← c.self.view_is) at c.requires.block in
    let read = state_read _ _ _ _ c.self.invariant.kept _ _ within c.index-state.ensures in
    let few = rw (← c.self.view_is) at c.requires.few in
    let was = state_is _ _ _ _ c.self.invariant.kept _ _ _ within c.index-state.ensures c.is_closed.ensures in
    rw (c.move_to_back.ensures, c.move_to_back-then-is_closed.ensures) (record {
      kept = settled _ _ _ _ (kept_moved _ _ _ _ c.self.invariant.kept c.args.block c.args.count within few (sym was ∙ c.if-is_closed.true));
      kinds_are = live_put _ _ _ c.self.invariant.kinds_are c.args.block _ _ _ within (live_within _ _ _ _ c.self.invariant.kept _ within) c.put.ensures read;
    })

pub invariant_of-self-else-is_closed : goal.invariant_of-self-else-is_closed
invariant_of-self-else-is_closed c =
    let within = rw (← c.self.view_is) at c.requires.block in
    let read = state_read _ _ _ _ c.self.invariant.kept _ _ within c.index-state.ensures in
    let few = rw (← c.self.view_is) at c.requires.few in
    let was = state_is _ _ _ _ c.self.invariant.kept _ _ _ within c.index-state.ensures c.is_closed.ensures in
    record {
      kept = settled _ _ _ _ (kept_counted _ _ _ _ c.self.invariant.kept c.args.block c.args.count within few (sym was ∙ c.if-is_closed.false));
      kinds_are = live_put _ _ _ c.self.invariant.kinds_are c.args.block _ _ _ within (live_within _ _ _ _ c.self.invariant.kept _ within) c.put.ensures read;
    }
