-- The home of the block is erased, and where that went bad the block is moved to a blank reserve block.
use Rattle.std.proofs.Common.{inl, inr, subst, sym, ℕ, Result, Ok, Err, OnErr, ap, ◌∙◌, ⊎_elim}
use Rattle.std.proofs.lemmas.Result.{on_ok_weaker, on_err_weaker}
use Rattle.cell_die.specs.Counts.{Rose}
use Rattle.cell_die.proofs.Sequences.{change_failed_after}
use Rattle.spare_die.proofs.Erases.{only_block_spare, is_erased_spare, in_part_spare, kept_erase}
use Rattle.spare_die.proofs.Moves.{home_erased, home_replaced, erasure_home, erasure_replaced, below_erased, below_replaced, blank_erased, blank_replaced, counts_replaced}
use Rattle.spare_die.proofs.spare.SpareDieDie.erase.Goals as goal

on_err : {T E P : Type 0} (result : Result T E) → P → OnErr result P
on_err (Ok x) holds = tt
on_err (Err x) holds = holds

pub returns-in_err-erase_home-clause-in_part : goal.returns-in_err-erase_home-clause-in_part
returns-in_err-erase_home-clause-in_part g c =
    let self = c.args.self.now in
    let e = c.erase_home.ensures in
    let first = home_erased (g.met.D.WornDie.shaped self.inner) self.orderly.homes c.requires.block e.erases e.kept e.counts e.same_faults in
    rw e.logical (on_err c.from_residual.result (inr (in_part_spare (erasure_home first) (below_erased first))))

pub returns-in_err-erase_home-clause-only_block : goal.returns-in_err-erase_home-clause-only_block
returns-in_err-erase_home-clause-only_block g c =
    let self = c.args.self.now in
    let e = c.erase_home.ensures in
    let first = home_erased (g.met.D.WornDie.shaped self.inner) self.orderly.homes c.requires.block e.erases e.kept e.counts e.same_faults in
    rw e.logical (only_block_spare (erasure_home first))

pub returns-in_err-erase_home-clause-kept : goal.returns-in_err-erase_home-clause-kept
returns-in_err-erase_home-clause-kept g c =
    let self = c.args.self.now in
    let e = c.erase_home.ensures in
    let first = home_erased (g.met.D.WornDie.shaped self.inner) self.orderly.homes c.requires.block e.erases e.kept e.counts e.same_faults in
    rw e.logical (kept_erase (erasure_home first))

pub returns-in-Clean-clause-erased : goal.returns-in-Clean-clause-erased
returns-in-Clean-clause-erased g c =
    let self = c.args.self.now in
    let e = c.erase_home.ensures in
    let first = home_erased (g.met.D.WornDie.shaped self.inner) self.orderly.homes c.requires.block e.erases e.kept e.counts e.same_faults in
    rw e.logical (is_erased_spare (erasure_home first) (blank_erased first (e.clean (c.in_ok-erase_home.was ∙ ap Ok c.in-Clean.is))))

pub returns-in-Clean-clause-only_block : goal.returns-in-Clean-clause-only_block
returns-in-Clean-clause-only_block g c =
    let self = c.args.self.now in
    let e = c.erase_home.ensures in
    let first = home_erased (g.met.D.WornDie.shaped self.inner) self.orderly.homes c.requires.block e.erases e.kept e.counts e.same_faults in
    rw e.logical (only_block_spare (erasure_home first))

pub returns-in-Clean-clause-kept : goal.returns-in-Clean-clause-kept
returns-in-Clean-clause-kept g c =
    let self = c.args.self.now in
    let e = c.erase_home.ensures in
    let first = home_erased (g.met.D.WornDie.shaped self.inner) self.orderly.homes c.requires.block e.erases e.kept e.counts e.same_faults in
    rw e.logical (kept_erase (erasure_home first))

pub returns-in-Bad-clause-erased : goal.returns-in-Bad-clause-erased
returns-in-Bad-clause-erased g c =
    let self = c.args.self.now in
    let e = c.erase_home.ensures in
    let first = home_erased (g.met.D.WornDie.shaped self.inner) self.orderly.homes c.requires.block e.erases e.kept e.counts e.same_faults in
    let both = home_replaced first c.replace.ensures.replaces c.replace.ensures.kept c.replace.ensures.same_counts in
    rw (c.replace.ensures.logical, e.logical) (on_ok_weaker c.replace.result (λ blank. is_erased_spare (erasure_replaced both) (blank_replaced both blank)) c.replace.ensures.moved)

pub returns-in-Bad-clause-in_part : goal.returns-in-Bad-clause-in_part
returns-in-Bad-clause-in_part g c =
    let self = c.args.self.now in
    let e = c.erase_home.ensures in
    let first = home_erased (g.met.D.WornDie.shaped self.inner) self.orderly.homes c.requires.block e.erases e.kept e.counts e.same_faults in
    let both = home_replaced first c.replace.ensures.replaces c.replace.ensures.kept c.replace.ensures.same_counts in
    rw (c.replace.ensures.logical, e.logical) (on_err_weaker c.replace.result (λ either. inr (in_part_spare (erasure_replaced both) (below_replaced both either))) c.replace.ensures.moved_or_not)

pub returns-in-Bad-clause-only_block : goal.returns-in-Bad-clause-only_block
returns-in-Bad-clause-only_block g c =
    let self = c.args.self.now in
    let e = c.erase_home.ensures in
    let first = home_erased (g.met.D.WornDie.shaped self.inner) self.orderly.homes c.requires.block e.erases e.kept e.counts e.same_faults in
    let both = home_replaced first c.replace.ensures.replaces c.replace.ensures.kept c.replace.ensures.same_counts in
    rw (c.replace.ensures.logical, e.logical) (only_block_spare (erasure_replaced both))

pub returns-in-Bad-clause-kept : goal.returns-in-Bad-clause-kept
returns-in-Bad-clause-kept g c =
    let self = c.args.self.now in
    let e = c.erase_home.ensures in
    let first = home_erased (g.met.D.WornDie.shaped self.inner) self.orderly.homes c.requires.block e.erases e.kept e.counts e.same_faults in
    let both = home_replaced first c.replace.ensures.replaces c.replace.ensures.kept c.replace.ensures.same_counts in
    rw (c.replace.ensures.logical, e.logical) (kept_erase (erasure_replaced both))

pub returns-in-Bad-clause-counted : goal.returns-in-Bad-clause-counted
returns-in-Bad-clause-counted g c =
    let self = c.args.self.now in
    let e = c.erase_home.ensures in
    let first = home_erased (g.met.D.WornDie.shaped self.inner) self.orderly.homes c.requires.block e.erases e.kept e.counts e.same_faults in
    λ running. counts_replaced (home_replaced first c.replace.ensures.replaces c.replace.ensures.kept c.replace.ensures.same_counts)

pub returns-in-Bad-clause-cause : goal.returns-in-Bad-clause-cause
returns-in-Bad-clause-cause g c =
    let bad = c.erase_home.ensures.bad_rose (c.in_ok-erase_home.was ∙ ap Ok c.in-Bad.is) in
    let rose = subst (λ (n : ℕ). Rose (g.D.WornDie.bad_erases c.args.self.now.inner) n) (sym c.replace.ensures.same_bad) bad in
    on_err_weaker c.replace.result
    (λ failed. ⊎_elim (λ call. inr (inl (change_failed_after c.in_ok-erase_home.ensures.passed call.0))) (λ used. inr (inr (rose, used.2))) failed)
    c.replace.ensures.failed
