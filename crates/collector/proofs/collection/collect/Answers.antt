-- There is one victim and one Spare, so what holds of these two holds of all that the rule may mean.
use Rattle.std.proofs.Common.{◌≡◌, ℕ, length, Err, IfOk, subst, rules}
use Rattle.block_state.specs.Book.{state_at, live_at}
use Rattle.page_codec.specs.declared.fault.PutFault.TheVariants.{Read, Change}
use Rattle.collector.specs.Collections.{Collected, CollectReadFailed, CollectChangeFailed}
use Rattle.collector.specs.Desk.{store_on}
use Rattle.collector.specs.Erases.{erased_in, EraseEnds}
use Rattle.collector.specs.Inside.{CollectEnds}
use Rattle.collector.specs.Store.{Store, geometry_of, store}
use Rattle.collector.proofs.Collecting.{ends_collected, ends_read, ends_change}
use Rattle.collector.proofs.Desks.{left_so}
use Rattle.collector.proofs.OneVictim.{one_victim, one_spare_is}
use Rattle.collector.proofs.collection.collect.Goals as goal

pub returns-clause-collected : goal.returns-clause-collected
returns-clause-collected g c victim spare branch =
    let old = g.D.Die.state c.args.die.now in
    let meaning = g.C.Scheme.meaning c.args.scheme.now in
    let geometry = geometry_of old.shape meaning (length c.args.map.now) in
    let start = store old c.args.map.now c.args.book.now c.args.seq.now in
    let end = store_on g.D.Die.state c.collect_into.new.self c.collect_into.new.map in
    let by_spare =
    subst (λ (s : ℕ). CollectEnds geometry meaning.decoding c.in-Some.victim s start end c.collect_into.result)
    (one_spare_is c.args.book.now c.spare-spare.result spare c.requires.tables.one_spare c.spare-spare.ensures branch.3) c.collect_into.ensures.ends in
    let ends =
    subst (λ (v : ℕ). CollectEnds geometry meaning.decoding v spare start end c.collect_into.result)
    (one_victim c.args.book.now c.in-Some.victim victim c.requires.tables.kept c.in-Some.ensures.found branch.1) by_spare in
    left_so g.D.Die.state (λ (s : Store). IfOk c.collect_into.result (λ n. (n ≡ live_at c.args.book.now victim) × Collected geometry meaning.decoding victim spare start s))
    (search rules) (search rules) (search rules)
    (ends_collected geometry meaning.decoding victim spare start end c.collect_into.result ends)

pub returns-clause-read_failed : goal.returns-clause-read_failed
returns-clause-read_failed g c victim spare branch =
    let old = g.D.Die.state c.args.die.now in
    let meaning = g.C.Scheme.meaning c.args.scheme.now in
    let geometry = geometry_of old.shape meaning (length c.args.map.now) in
    let start = store old c.args.map.now c.args.book.now c.args.seq.now in
    let end = store_on g.D.Die.state c.collect_into.new.self c.collect_into.new.map in
    let by_spare =
    subst (λ (s : ℕ). CollectEnds geometry meaning.decoding c.in-Some.victim s start end c.collect_into.result)
    (one_spare_is c.args.book.now c.spare-spare.result spare c.requires.tables.one_spare c.spare-spare.ensures branch.3) c.collect_into.ensures.ends in
    let ends =
    subst (λ (v : ℕ). CollectEnds geometry meaning.decoding v spare start end c.collect_into.result)
    (one_victim c.args.book.now c.in-Some.victim victim c.requires.tables.kept c.in-Some.ensures.found branch.1) by_spare in
    left_so g.D.Die.state (λ (s : Store). c.collect_into.result ≡ Err Read → CollectReadFailed geometry meaning.decoding victim spare start s) (search rules) (search rules)
    (search rules)
    (ends_read geometry meaning.decoding victim spare start end c.collect_into.result ends)

pub returns-clause-change_failed : goal.returns-clause-change_failed
returns-clause-change_failed g c victim spare branch =
    let old = g.D.Die.state c.args.die.now in
    let meaning = g.C.Scheme.meaning c.args.scheme.now in
    let geometry = geometry_of old.shape meaning (length c.args.map.now) in
    let start = store old c.args.map.now c.args.book.now c.args.seq.now in
    let end = store_on g.D.Die.state c.collect_into.new.self c.collect_into.new.map in
    let by_spare =
    subst (λ (s : ℕ). CollectEnds geometry meaning.decoding c.in-Some.victim s start end c.collect_into.result)
    (one_spare_is c.args.book.now c.spare-spare.result spare c.requires.tables.one_spare c.spare-spare.ensures branch.3) c.collect_into.ensures.ends in
    let ends =
    subst (λ (v : ℕ). CollectEnds geometry meaning.decoding v spare start end c.collect_into.result)
    (one_victim c.args.book.now c.in-Some.victim victim c.requires.tables.kept c.in-Some.ensures.found branch.1) by_spare in
    left_so g.D.Die.state (λ (s : Store). c.collect_into.result ≡ Err Change → CollectChangeFailed geometry meaning.decoding victim spare start s) (search rules) (search rules)
    (search rules)
    (ends_change geometry meaning.decoding victim spare start end c.collect_into.result ends)

pub returns-clause-erased : goal.returns-clause-erased
returns-clause-erased g c victim spare branch =
    let old = g.D.Die.state c.args.die.now in
    let erased =
    subst (λ (s : ℕ). EraseEnds (erased_in (state_at c.args.book.now s) s) c.collect_into.result old (g.D.Die.state c.collect_into.new.self.die.now))
    (one_spare_is c.args.book.now c.spare-spare.result spare c.requires.tables.one_spare c.spare-spare.ensures branch.3) c.collect_into.ensures.erased in
    subst (λ d. EraseEnds (erased_in (state_at c.args.book.now spare) spare) c.collect_into.result old (g.D.Die.state d)) (search rules) erased
