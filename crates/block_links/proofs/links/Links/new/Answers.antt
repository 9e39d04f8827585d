-- Where each place leads to itself, each end is a ring of its own, and no node is in a list.
use Rattle.std.proofs.Common.{ℕ, length, arith, ap, ◌∙◌, Option, None}
use Rattle.std.proofs.lemmas.List.{length-replicate}
use Rattle.block_links.proofs.Fields.{new_holds}
use Rattle.block_links.proofs.links.Links.new.Goals as goal

pub invariant_of-result : goal.invariant_of-result
invariant_of-result c = (new_holds _ _ _ c.args.nodes c.args.buckets c.in_ok-next.ensures c.in_ok-prev.ensures c.in_ok-home.ensures (omega arith) (omega arith)).kept

pub returns : goal.returns
returns c = λ i. record {
  nodes = (ap length c.in_ok-home.ensures ∙ length-replicate {A = Option ℕ} c.args.nodes None) i;
  lists = (new_holds _ _ _ c.args.nodes c.args.buckets c.in_ok-next.ensures c.in_ok-prev.ensures c.in_ok-home.ensures (omega arith) (omega arith)).lists i;
}
