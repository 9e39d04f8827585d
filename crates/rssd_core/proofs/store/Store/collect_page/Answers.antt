-- What the collection leaves is a page at hand, or one of the two failures.
use Rattle.std.specs.Prelude.{min}
use Rattle.std.proofs.Common.{ℕ, ◌+◌, ◌*◌, ◌<◌, ◌≤◌, Err, length, Option, sym, ap, ap₂, ◌∙◌, subst, arith}
use Rattle.std.proofs.Math.Nat.{mul-le-mul}
use Rattle.std.proofs.lemmas.Bool.{false≢true}
use Rattle.block_state.specs.State.{is_spare}
use Rattle.block_state.specs.Book.{BookValue, live_at, state_at}
use Rattle.page_codec.specs.declared.fault.PutFault.{PutFault}
use Rattle.sector_map.specs.declared.entry.Entry.{Entry}
use Rattle.collector.specs.Erases.{erased_in, EraseEnds}
use Rattle.rssd_core.proofs.ClosedBlocks.{within_blocks}
use Rattle.rssd_core.proofs.StoreLaws.{after_keeps, after_held}
use Rattle.rssd_core.proofs.StoreOpening.{true_before, collect_here, victim_few, true_long, collect_opened, collect_unread_here, collect_failed_here}
use Rattle.rssd_core.proofs.store.Store.collect_page.Goals as goal

pub collect-requires-clause-branch : goal.collect-requires-clause-branch
collect-requires-clause-branch g c =
    let true_tables = true_before c.self.view_is c.self.invariant c.requires.running in (
      c.args.victim,
      c.args.spare,
      collect_here c.self.view_is c.self.invariant c.requires.running c.args.spare c.requires.branch,
      subst (λ (n : ℕ). live_at c.self.inside.book c.args.victim < n) (sym true_tables.sizes.pages) (victim_few c.self.view_is c.self.invariant c.requires.running c.args.spare c.requires.branch),
    )

pub overflow_add-result : goal.overflow_add-result
overflow_add-result g c =
    let true_tables = true_before c.self.view_is c.self.invariant c.requires.running in
    let branch = collect_here c.self.view_is c.self.invariant c.requires.running c.args.spare c.requires.branch in
    let within : c.args.spare < 1024 = omega (arith, within_blocks c.self.inside.book c.args.spare (λ clean. false≢true (sym (ap is_spare clean) ∙ branch.3)), true_tables.kept.few_blocks) in
    let pages : c.pages.result ≤ 128 = omega (arith, c.pages.ensures.value, c.pages.ensures.valid.few_pages) in
    let block : c.args.spare ≤ 1023 = omega arith in
    let few : live_at c.self.inside.book c.args.victim < (g.D.Die.state c.self.inside.die).shape.pages = victim_few c.self.view_is c.self.invariant c.requires.running c.args.spare c.requires.branch in
    let small : (g.D.Die.state c.self.inside.die).shape.pages ≤ 128 = omega (arith, true_tables.sizes.pages, true_tables.kept.few_pages) in
    omega (arith, mul-le-mul block pages, (c.in-Ok.ensures.collected c.args.victim c.args.spare branch).0)

pub invariant_of-self : goal.invariant_of-self
invariant_of-self g c =
    let branch = collect_here c.self.view_is c.self.invariant c.requires.running c.args.spare c.requires.branch in
    let done = (c.in-Ok.ensures.collected c.args.victim c.args.spare branch).1 in
    after_held c.collect.ensures.holds c.collect.ensures.same_scheme (true_long done.tables) c.self.invariant c.collect.ensures.same_work c.collect.ensures.same_room (λ _. done.tables)

pub invariant_of-self-in-Err-Read : goal.invariant_of-self-in-Err-Read
invariant_of-self-in-Err-Read g c =
    let branch = collect_here c.self.view_is c.self.invariant c.requires.running c.args.spare c.requires.branch in
    let done = c.in-Err-Read.ensures.read_failed c.args.victim c.args.spare branch (ap Err c.in-Err-Read.field-0-is) in
    after_held c.collect.ensures.holds c.collect.ensures.same_scheme (ap (length {A = Option Entry}) done.table) c.self.invariant c.collect.ensures.same_work c.collect.ensures.same_room
    (λ _. done.tables)

pub invariant_of-self-in-Err-Change : goal.invariant_of-self-in-Err-Change
invariant_of-self-in-Err-Change g c =
    let branch = collect_here c.self.view_is c.self.invariant c.requires.running c.args.spare c.requires.branch in
    let done = c.in-Err-Change.ensures.change_failed c.args.victim c.args.spare branch (ap Err c.in-Err-Change.field-0-is) in
    after_held c.collect.ensures.holds c.collect.ensures.same_scheme (ap (length {A = Option Entry}) done.table) c.self.invariant c.collect.ensures.same_work c.collect.ensures.same_room
    (λ runs. absurd (false≢true (sym runs)))

pub returns-in-Ok-clause-keeps : goal.returns-in-Ok-clause-keeps
returns-in-Ok-clause-keeps g c =
    let branch = collect_here c.self.view_is c.self.invariant c.requires.running c.args.spare c.requires.branch in
    after_keeps c.collect.ensures.holds c.collect.ensures.same_scheme (true_long (c.in-Ok.ensures.collected c.args.victim c.args.spare branch).1.tables) c.self.view_is

pub returns-in-Ok-clause-ends : goal.returns-in-Ok-clause-ends
returns-in-Ok-clause-ends g c =
    let branch = collect_here c.self.view_is c.self.invariant c.requires.running c.args.spare c.requires.branch in
    let collected = c.in-Ok.ensures.collected c.args.victim c.args.spare branch in
    collect_opened c.self.view_is c.self.invariant c.requires.running c.args.spare c.requires.branch c.in-Ok.copies (c.in-Ok.ensures.erased c.args.victim c.args.spare branch) collected.1
    (ap₂ (λ (pages copies : ℕ). c.args.spare * pages + copies) (c.pages.ensures.value ∙ ap (λ (v : BookValue). v.pages) collected.1.book) collected.0)
    (c.saturating_add-self-inside.ensures ∙ ap (λ (n : ℕ). min (c.self.inside.moved + n) 18446744073709551615) (c.from.ensures ∙ collected.0))

pub returns-in-Err-Read-clause-keeps : goal.returns-in-Err-Read-clause-keeps
returns-in-Err-Read-clause-keeps g c =
    let branch = collect_here c.self.view_is c.self.invariant c.requires.running c.args.spare c.requires.branch in
    after_keeps c.collect.ensures.holds c.collect.ensures.same_scheme
    (ap (length {A = Option Entry}) (c.in-Err-Read.ensures.read_failed c.args.victim c.args.spare branch (ap Err c.in-Err-Read.field-0-is)).table) c.self.view_is

pub returns-in-Err-Read-clause-ends : goal.returns-in-Err-Read-clause-ends
returns-in-Err-Read-clause-ends g c =
    let branch = collect_here c.self.view_is c.self.invariant c.requires.running c.args.spare c.requires.branch in
    collect_unread_here c.self.view_is c.self.invariant c.requires.running c.args.spare c.requires.branch
    (subst (λ (f : PutFault). EraseEnds {A = ℕ} (erased_in (state_at c.self.inside.book c.args.spare) c.args.spare) (Err f) (g.D.Die.state c.self.inside.die) (g.D.Die.state c.collect.new.die))
    c.in-Err-Read.field-0-is (c.in-Err-Read.ensures.erased c.args.victim c.args.spare branch))
    (c.in-Err-Read.ensures.read_failed c.args.victim c.args.spare branch (ap Err c.in-Err-Read.field-0-is))

pub returns-in-Err-Change-clause-keeps : goal.returns-in-Err-Change-clause-keeps
returns-in-Err-Change-clause-keeps g c =
    let branch = collect_here c.self.view_is c.self.invariant c.requires.running c.args.spare c.requires.branch in
    after_keeps c.collect.ensures.holds c.collect.ensures.same_scheme
    (ap (length {A = Option Entry}) (c.in-Err-Change.ensures.change_failed c.args.victim c.args.spare branch (ap Err c.in-Err-Change.field-0-is)).table) c.self.view_is

pub returns-in-Err-Change-clause-ends : goal.returns-in-Err-Change-clause-ends
returns-in-Err-Change-clause-ends g c =
    let branch = collect_here c.self.view_is c.self.invariant c.requires.running c.args.spare c.requires.branch in
    collect_failed_here c.self.view_is c.self.invariant c.requires.running c.args.spare c.requires.branch
    (subst (λ (f : PutFault). EraseEnds {A = ℕ} (erased_in (state_at c.self.inside.book c.args.spare) c.args.spare) (Err f) (g.D.Die.state c.self.inside.die) (g.D.Die.state c.collect.new.die))
    c.in-Err-Change.field-0-is (c.in-Err-Change.ensures.erased c.args.victim c.args.spare branch))
    (c.in-Err-Change.ensures.change_failed c.args.victim c.args.spare branch (ap Err c.in-Err-Change.field-0-is))
