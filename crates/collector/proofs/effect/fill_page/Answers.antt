-- The fill of the Active block is below its pages, and no other block is Active.
use Rattle.std.proofs.Common.{◌≡◌, ◌<◌, ℕ, ap, subst, arith}
use Rattle.block_state.specs.declared.state.State.TheVariants.{Active}
use Rattle.block_state.specs.State.{is_active, InRange}
use Rattle.block_state.specs.Book.{BookValue, IsValid, state_at}
use Rattle.collector.proofs.effect.fill_page.Goals as goal

few_filled : (v : BookValue) (block fill : ℕ) → IsValid v → state_at v block ≡ Active fill → fill < 128
few_filled v block fill valid active =
    let in_range : fill < v.pages = subst (InRange v.pages v.units v.generations) active (valid.in_range block) in
    omega (arith, valid.few_pages)

pub overflow_add-fill : goal.overflow_add-fill
overflow_add-fill c = let few : c.args.fill < 128 = few_filled c.args.book.now c.args.block c.args.fill c.pages-pages.ensures.valid c.requires.active in omega arith

pub set_state-requires-clause-one_active : goal.set_state-requires-clause-one_active
set_state-requires-clause-one_active c _ b active = c.pages-pages.ensures.valid.one_active b c.args.block active (ap is_active c.requires.active)
