-- The page that was scanned last has the first record that the map names, or none, and then the search goes on.
use Rattle.std.proofs.Common.{Some, None, refl, sym, ◌∙◌, arith, rules}
use Rattle.std.proofs.lemmas.Result.{err_from_is_err_and}
use Rattle.collector.proofs.Search.{searched_none, seen_of, one_seen, first_found, searched_more, searched_passed, searched_failed, none_is}
use Rattle.collector.proofs.live.find_first.Goals as goal

pub returns-in-Some-clause-found : goal.returns-in-Some-clause-found
returns-in-Some-clause-found g c =
    let seen =
    seen_of c.args.map.now c.args.work.now c.loop-page.work c.loop-page.page (g.D.Die.state c.loop-page.die) c.in_ok-seen.seen
    (Some c.in-Some.live) c.loop-page.invariant.same_work c.in_ok-seen.ensures.seen
    (sym c.first_on.ensures ∙ c.in-Some.is) in
    first_found c.args.map.now c.args.work.now (g.D.Die.state c.args.die.now) (g.D.Die.state c.loop-page.die) c.args.from c.args.pages c.loop-page.page c.in-Some.live c.loop-page.invariant.searched
    (omega arith) (omega arith)
    (one_seen c.args.map.now c.args.work.now.page_bytes c.args.work.now.generations c.loop-page.page (g.D.Die.state c.loop-page.die) c.in-Some.live c.requires.slots.0 c.requires.slots.1 seen)

pub returns-in-Some-clause-passed : goal.returns-in-Some-clause-passed
returns-in-Some-clause-passed g c =
    let seen =
    seen_of c.args.map.now c.args.work.now c.loop-page.work c.loop-page.page (g.D.Die.state c.loop-page.die) c.in_ok-seen.seen
    (Some c.in-Some.live) c.loop-page.invariant.same_work c.in_ok-seen.ensures.seen
    (sym c.first_on.ensures ∙ c.in-Some.is) in
    let first =
    one_seen c.args.map.now c.args.work.now.page_bytes c.args.work.now.generations c.loop-page.page (g.D.Die.state c.loop-page.die) c.in-Some.live c.requires.slots.0 c.requires.slots.1 seen in
    searched_passed c.args.map.now c.args.work.now (g.D.Die.state c.args.die.now) (g.D.Die.state c.loop-page.die)
    (g.D.Die.state c.scan.new.die) c.args.from c.loop-page.page c.in-Some.live.place.page (omega arith) first.page_is
    c.loop-page.invariant.searched c.in_ok-seen.ensures.passed

pub returns-in_err-seen-clause-failed : goal.returns-in_err-seen-clause-failed
returns-in_err-seen-clause-failed g c =
    let q = err_from_is_err_and c.from_residual.result c.from_residual.ensures.1 in
    rw q.1 (searched_failed c.args.map.now c.args.work.now (g.D.Die.state c.args.die.now) (g.D.Die.state c.loop-page.die) (g.D.Die.state c.scan.new.die) c.args.from c.args.pages c.loop-page.page
    (omega arith)
    c.loop-page.invariant.searched c.in_err-seen.ensures.failed)

pub loop-page-preserved : goal.loop-page-preserved
loop-page-preserved g c =
    let seen = seen_of c.args.map.now c.args.work.now c.loop-page.work c.loop-page.page (g.D.Die.state c.loop-page.die) c.in_ok-seen.seen None c.loop-page.invariant.same_work c.in_ok-seen.ensures.seen
    (sym c.first_on.ensures ∙ none_is c.first_on.result c.in_default.not-Some) in
    record {
      searched =
          searched_more c.args.map.now c.args.work.now (g.D.Die.state c.args.die.now) (g.D.Die.state c.loop-page.die) (g.D.Die.state c.scan.new.die) c.args.from c.loop-page.page
          (omega arith) c.requires.slots.1
          c.loop-page.invariant.searched c.in_ok-seen.ensures.same_cells c.in_ok-seen.ensures.kept c.in_ok-seen.ensures.passed seen;
      same_work = c.in_ok-seen.ensures.same_work ∙ c.loop-page.invariant.same_work;
      same_map = search rules;
    }

pub loop-page-init : goal.loop-page-init
loop-page-init g c = record { searched = searched_none c.args.map.now c.args.work.now (g.D.Die.state c.args.die.now) c.args.from; same_work = refl; same_map = refl }
