-- The state after 2 j words gives column j.
use Rattle.std.proofs.Common.{rules, ◌<◌, ◌^◌, length, sym, ◌∙◌, ap, arith}
use Rattle.coset_code.proofs.WordLemmas.{length-columns_from, state_at_start, drawn, columns_more}
use Rattle.coset_code.proofs.coset.Columns.new.Goals as goal

pub loop-column-init : goal.loop-column-init
loop-column-init c = record { made = search rules; state = c.seed_from_u64-words.ensures.same ∙ sym (state_at_start c.args.seed) }

pub loop-column-preserved : goal.loop-column-preserved
loop-column-preserved c =
    let low : c.next_word-low.result < 2 ^ 64 = search rules in
    let high : c.next_word-high.result < 2 ^ 64 = search rules in
    let d = drawn c.args.seed c.loop-column._column _ _ _ _ _ c.loop-column.invariant.state c.next_word-low.ensures c.next_word-high.ensures low high in
    record { made = c.in_ok-push.ensures.items ∙ columns_more c.args.seed c.loop-column._column _ _ c.loop-column.invariant.made d.column_is; state = d.state_is }

pub invariant_of-result : goal.invariant_of-result
invariant_of-result c = omega (arith, ap length c.loop-column.invariant.made, length-columns_from c.args.seed c.loop-column._column)
