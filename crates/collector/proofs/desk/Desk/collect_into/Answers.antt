-- The Spare is made blank, and then the copies and their seal follow.
use Rattle.std.proofs.Common.{◌<◌, ℕ, length, refl, sym, subst}
use Rattle.cell_die.specs.declared.shape.Shape.{Shape}
use Rattle.striped.specs.Meaning.{Meaning}
use Rattle.block_state.specs.Book.{BookValue, state_at}
use Rattle.collector.specs.Erases.{erased_in}
use Rattle.collector.proofs.Erasing.{made_erased, torn_erased, ends_then}
use Rattle.collector.specs.Inside.{Begun, CollectEnds}
use Rattle.collector.specs.Desk.{store_on}
use Rattle.collector.specs.Store.{geometry_of, store, Holds}
use Rattle.collector.proofs.Clearing.{TornSo, spares_in, blanked, erase_torn}
use Rattle.collector.proofs.Collecting.{shape_is, begun_after, live_kept, holds_after, ends_after, erase_ends}
use Rattle.collector.proofs.Pages.{moved_to, moved_back}
use Rattle.collector.proofs.desk.Desk.collect_into.Goals as goal

pub copy_sealed-requires-clause-begun : goal.copy_sealed-requires-clause-begun
copy_sealed-requires-clause-begun g c =
    let old = g.D.Die.state c.args.self.now.die.now in
    let blank = g.D.Die.state c.blank_spare.new.die in
    let meaning = g.C.Scheme.meaning c.args.self.now.scheme.now in
    let geometry = geometry_of old.shape meaning (length c.args.map.now) in
    let start = store_on g.D.Die.state c.args.self.now c.args.map.now in
    let mid = store blank c.args.map.now c.blank_spare.new.book c.args.self.now.seq.now in
    let spares = spares_in geometry c.args.spare start c.requires.tables
    (shape_is old.shape meaning (length c.args.map.now) c.args.self.now.work.now c.requires.fits.die c.requires.fits.scheme) (g.met.D.Die.shaped c.args.self.now.die.now)
    c.requires.branch.3 in
    let cleared = blanked geometry meaning.decoding c.args.spare old blank c.args.self.now.book.now c.blank_spare.new.book c.args.map.now c.args.self.now.seq.now
    c.in-Ok.ensures.blank spares (g.met.D.Die.shaped c.blank_spare.new.die) in
    moved_to (λ (s : Shape) (m : Meaning). Begun (geometry_of s m (length c.args.map.now)) c.args.victim c.args.spare mid) old.shape blank.shape meaning meaning
    c.blank_spare.ensures.kept.shape refl (begun_after geometry meaning.decoding c.args.victim c.args.spare old blank c.args.self.now.book.now c.blank_spare.new.book
    c.args.map.now c.args.self.now.seq.now c.in-Ok.ensures.blank spares cleared c.requires.branch c.requires.few c.requires.fresh)

pub copy_sealed-requires-clause-some_live : goal.copy_sealed-requires-clause-some_live
copy_sealed-requires-clause-some_live g c =
    let old = g.D.Die.state c.args.self.now.die.now in
    let blank = g.D.Die.state c.blank_spare.new.die in
    subst (λ (k : ℕ). 0 < k) (sym (live_kept c.args.spare c.args.victim old blank c.args.self.now.book.now c.blank_spare.new.book c.in-Ok.ensures.blank)) c.requires.branch.2

pub returns-in-Ok-clause-holds : goal.returns-in-Ok-clause-holds
returns-in-Ok-clause-holds g c =
    let old = g.D.Die.state c.args.self.now.die.now in
    let blank = g.D.Die.state c.blank_spare.new.die in
    let meaning = g.C.Scheme.meaning c.args.self.now.scheme.now in
    let geometry = geometry_of old.shape meaning (length c.args.map.now) in
    let start = store_on g.D.Die.state c.args.self.now c.args.map.now in
    let mid = store blank c.args.map.now c.blank_spare.new.book c.args.self.now.seq.now in
    let end = store_on g.D.Die.state c.copy_sealed.new.self c.copy_sealed.new.map in
    let spares = spares_in geometry c.args.spare start c.requires.tables
    (shape_is old.shape meaning (length c.args.map.now) c.args.self.now.work.now c.requires.fits.die c.requires.fits.scheme) (g.met.D.Die.shaped c.args.self.now.die.now)
    c.requires.branch.3 in
    let cleared = blanked geometry meaning.decoding c.args.spare old blank c.args.self.now.book.now c.blank_spare.new.book c.args.map.now c.args.self.now.seq.now
    c.in-Ok.ensures.blank spares (g.met.D.Die.shaped c.blank_spare.new.die) in
    holds_after geometry start mid end cleared.holds (moved_back (λ (s : Shape) (m : Meaning). Holds
    (geometry_of s m (length c.args.map.now)) mid end) old.shape blank.shape meaning meaning c.blank_spare.ensures.kept.shape refl c.copy_sealed.ensures.holds)

pub returns-in-Ok-clause-ends : goal.returns-in-Ok-clause-ends
returns-in-Ok-clause-ends g c =
    let old = g.D.Die.state c.args.self.now.die.now in
    let blank = g.D.Die.state c.blank_spare.new.die in
    let meaning = g.C.Scheme.meaning c.args.self.now.scheme.now in
    let geometry = geometry_of old.shape meaning (length c.args.map.now) in
    let start = store_on g.D.Die.state c.args.self.now c.args.map.now in
    let mid = store blank c.args.map.now c.blank_spare.new.book c.args.self.now.seq.now in
    let end = store_on g.D.Die.state c.copy_sealed.new.self c.copy_sealed.new.map in
    let spares = spares_in geometry c.args.spare start c.requires.tables
    (shape_is old.shape meaning (length c.args.map.now) c.args.self.now.work.now c.requires.fits.die c.requires.fits.scheme) (g.met.D.Die.shaped c.args.self.now.die.now)
    c.requires.branch.3 in
    let cleared = blanked geometry meaning.decoding c.args.spare old blank c.args.self.now.book.now c.blank_spare.new.book c.args.map.now c.args.self.now.seq.now
    c.in-Ok.ensures.blank spares (g.met.D.Die.shaped c.blank_spare.new.die) in
    ends_after geometry meaning.decoding c.args.victim c.args.spare old blank c.args.self.now.book.now c.blank_spare.new.book c.args.map.now c.args.self.now.seq.now end
    c.copy_sealed.result c.in-Ok.ensures.blank c.requires.branch.3 cleared
    (moved_back (λ (s : Shape) (m : Meaning). CollectEnds (geometry_of s m (length c.args.map.now)) m.decoding c.args.victim c.args.spare mid end
    c.copy_sealed.result) old.shape blank.shape meaning meaning c.blank_spare.ensures.kept.shape refl c.copy_sealed.ensures.ends)

pub returns-in-Err-clause-holds : goal.returns-in-Err-clause-holds
returns-in-Err-clause-holds g c =
    let old = g.D.Die.state c.args.self.now.die.now in
    let blank = g.D.Die.state c.blank_spare.new.die in
    let meaning = g.C.Scheme.meaning c.args.self.now.scheme.now in
    let geometry = geometry_of old.shape meaning (length c.args.map.now) in
    let start = store_on g.D.Die.state c.args.self.now c.args.map.now in
    let spares = spares_in geometry c.args.spare start c.requires.tables
    (shape_is old.shape meaning (length c.args.map.now) c.args.self.now.work.now c.requires.fits.die c.requires.fits.scheme) (g.met.D.Die.shaped c.args.self.now.die.now)
    c.requires.branch.3 in
    subst (λ (v : BookValue). Holds geometry start (store blank c.args.map.now v c.args.self.now.seq.now)) (sym c.in-Err.ensures.same_book)
    (erase_torn geometry meaning.decoding c.args.spare old blank c.args.self.now.book.now c.args.map.now c.args.self.now.seq.now spares
    (g.met.D.Die.shaped c.blank_spare.new.die) c.in-Err.ensures.torn c.in-Err.ensures.only_block c.blank_spare.ensures.kept c.in-Err.ensures.failed).holds

pub returns-in-Err-clause-ends : goal.returns-in-Err-clause-ends
returns-in-Err-clause-ends g c =
    let old = g.D.Die.state c.args.self.now.die.now in
    let blank = g.D.Die.state c.blank_spare.new.die in
    let meaning = g.C.Scheme.meaning c.args.self.now.scheme.now in
    let geometry = geometry_of old.shape meaning (length c.args.map.now) in
    let start = store_on g.D.Die.state c.args.self.now c.args.map.now in
    let mid = store blank c.args.map.now c.blank_spare.new.book c.args.self.now.seq.now in
    let spares = spares_in geometry c.args.spare start c.requires.tables
    (shape_is old.shape meaning (length c.args.map.now) c.args.self.now.work.now c.requires.fits.die c.requires.fits.scheme) (g.met.D.Die.shaped c.args.self.now.die.now)
    c.requires.branch.3 in
    erase_ends geometry meaning.decoding c.args.victim c.args.spare start mid refl c.in-Err.ensures.same_book refl
    (subst (λ (v : BookValue). TornSo geometry meaning.decoding start (store blank c.args.map.now v c.args.self.now.seq.now)) (sym c.in-Err.ensures.same_book)
    (erase_torn geometry meaning.decoding c.args.spare old blank c.args.self.now.book.now c.args.map.now c.args.self.now.seq.now spares
    (g.met.D.Die.shaped c.blank_spare.new.die) c.in-Err.ensures.torn c.in-Err.ensures.only_block c.blank_spare.ensures.kept c.in-Err.ensures.failed)) c.in-Err.ensures.failed

pub returns-in-Ok-clause-erased : goal.returns-in-Ok-clause-erased
returns-in-Ok-clause-erased g c =
    let old = g.D.Die.state c.args.self.now.die.now in
    let blank = g.D.Die.state c.blank_spare.new.die in
    let new = g.D.Die.state c.copy_sealed.new.self.die.now in
    ends_then (erased_in (state_at c.args.self.now.book.now c.args.spare) c.args.spare) c.copy_sealed.result old blank new
    (made_erased c.args.spare old blank c.args.self.now.book.now c.blank_spare.new.book c.in-Ok.ensures.blank) c.copy_sealed.ensures.stays.erases

pub returns-in-Err-clause-erased : goal.returns-in-Err-clause-erased
returns-in-Err-clause-erased g c =
    let old = g.D.Die.state c.args.self.now.die.now in
    let blank = g.D.Die.state c.blank_spare.new.die in
    torn_erased c.args.spare old blank c.args.self.now.book.now c.in-Err.ensures.not_blank c.in-Err.ensures.torn c.in-Err.ensures.only_block c.in-Err.ensures.failed
