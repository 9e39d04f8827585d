-- A block that was passed over is not Spare.
use Rattle.std.proofs.Common.{◌<◌, inl, inr, length, ap, sym, ◌∙◌, arith}
use Rattle.std.proofs.lemmas.Bool.{cases_eq, false≢true}
use Rattle.block_state.specs.State.{is_spare}
use Rattle.block_state.specs.Book.{state_at}
use Rattle.block_state.proofs.Kept.{state_read}
use Rattle.block_state.proofs.Spare.{not_spare}
use Rattle.block_state.proofs.book.Book.spare.Goals as goal
use Rattle.block_state.proofs.book.Book.spare.Goals.{in-Spare, in_default}

pub loop-block-preserved : goal.loop-block-preserved
loop-block-preserved c = elim c.match-matches.branch [
  | in-Spare w ↦ absurd (false≢true (sym c.if-matches.false ∙ w.matches-is))
  | in_default w ↦ λ b below. elim (cases_eq b c.loop-block.block) [
    | inl same ↦
        let within : c.loop-block.block < length c.args.self.now.states = omega arith in
        let within_kept = rw (← c.self.view_is) at within in
        ap (λ d. is_spare (state_at c.args.self.now d)) same ∙ rw (← c.self.view_is)
        (ap is_spare (sym (state_read _ _ _ _ c.self.invariant.kept c.loop-block.block _ within_kept c.index.ensures)) ∙ not_spare c.index.result.now w.in_default.not-Spare)
    | inr other ↦ c.loop-block.invariant b (omega arith)
  ]
]
