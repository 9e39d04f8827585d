-- The first record of the victim that the map names is its first live one, and reads before its move change no cell.
use Rattle.std.proofs.Common.{◌≡◌, ◌∙◌, ◌<◌, ◌*◌, ℕ, length, refl, sym, subst, arith, ◌+◌, ◌≤◌, rules}
use Rattle.std.proofs.lemmas.Result.{err_from_is_err_and}
use Rattle.page_codec.specs.declared.fault.PutFault.{PutFault}
use Rattle.page_codec.specs.declared.fault.PutFault.TheVariants.{Read, Change}
use Rattle.page_codec.specs.Geometry.{Geometry}
use Rattle.collector.specs.Desk.{store_on}
use Rattle.collector.specs.Store.{geometry_of, store, Holds}
use Rattle.collector.specs.Again.{MovedRecord, MoveFails}
use Rattle.collector.specs.Moves.{Moved, MoveReadFailed, MoveChangeFailed}
use Rattle.collector.proofs.Desks.{left_so}
use Rattle.collector.proofs.Fresh.{holds_after}
use Rattle.collector.proofs.Chosen.{from_none, none_left, closed_within, block_pages, has_named, first_live, moved_one, change_failed_one, read_failed_one, some_pages, one_left}
use Rattle.collector.proofs.Chosen.{search_failed_one, failed_at, failed_any, on_err, named_sooner, same_geometry, first_at, named_at, passed_at, live_after_reads}
use Rattle.collector.proofs.idle.move_one.Goals as goal

pub returns-in_default-idle_victim-clause-none : goal.returns-in_default-idle_victim-clause-none
returns-in_default-idle_victim-clause-none g c _ =
    none_left c.args.book.now c.in-Some.next.page c.in-Some.next.room c.requires.tables.kept c.in-Some.ensures.some
    (from_none c.idle_victim.result c.in_default-idle_victim.not-Some c.idle_victim.ensures.none)

pub find_first-requires-clause-pages : goal.find_first-requires-clause-pages
find_first-requires-clause-pages g c =
    let old = g.D.Die.state c.args.die.now in
    let meaning = g.C.Scheme.meaning c.args.scheme.now in
    let geometry = geometry_of old.shape meaning (length c.args.map.now) in
    let same = c.pages-pages.ensures.value ∙ c.requires.tables.sizes.pages in
    let within = closed_within c.args.book.now c.in-Some-idle_victim.victim c.in-Some-idle_victim.ensures.found.0.closed in subst
    (λ (n : ℕ). c.in-Some-idle_victim.victim * n + n ≤ old.shape.blocks * old.shape.pages) (sym same)
    (block_pages geometry c.in-Some-idle_victim.victim (omega (arith, c.requires.tables.sizes.blocks, within)))

pub find_first-requires-clause-some : goal.find_first-requires-clause-some
find_first-requires-clause-some g c =
    let old = g.D.Die.state c.args.die.now in
    let meaning = g.C.Scheme.meaning c.args.scheme.now in
    let geometry = geometry_of old.shape meaning (length c.args.map.now) in
    let same = c.pages-pages.ensures.value ∙ c.requires.tables.sizes.pages in
    named_at c.args.map.now c.args.work.now old c.in-Some-idle_victim.victim old.shape.pages c.pages-pages.result (sym same)
    (has_named geometry c.args.work.now old c.args.book.now c.args.map.now c.args.seq.now c.requires.tables refl (sym c.requires.die.main_bytes)
    (sym c.requires.scheme.generations) (subst (λ (n : ℕ). 0 < n) c.requires.tables.sizes.pages
    (some_pages c.args.book.now c.in-Some.next.page c.in-Some.next.room c.requires.tables.kept c.in-Some.ensures.some)) c.in-Some.next.room c.in-Some-idle_victim.victim
    c.in-Some-idle_victim.ensures.found)

pub move_record-requires-clause-live : goal.move_record-requires-clause-live
move_record-requires-clause-live g c =
    let old = g.D.Die.state c.args.die.now in
    let mid = g.D.Die.state c.find_first.new.die in
    let meaning = g.C.Scheme.meaning c.args.scheme.now in
    let geometry = geometry_of old.shape meaning (length c.args.map.now) in
    let shape = same_geometry old.shape mid.shape meaning (length c.args.map.now) c.find_first.ensures.kept.shape in
    let same = c.pages-pages.ensures.value ∙ c.requires.tables.sizes.pages in
    let found = first_at c.args.map.now c.args.work.now old c.in-Some-idle_victim.victim c.pages-pages.result old.shape.pages c.in-Ok.live same c.in-Ok.ensures.found in
    let first = first_live geometry c.args.work.now old c.args.book.now c.args.map.now c.args.seq.now c.requires.tables refl (sym c.requires.die.main_bytes)
    (sym c.requires.scheme.generations) (subst (λ (n : ℕ). 0 < n) c.requires.tables.sizes.pages
    (some_pages c.args.book.now c.in-Some.next.page c.in-Some.next.room c.requires.tables.kept c.in-Some.ensures.some)) c.in-Some-idle_victim.victim c.in-Ok.live found in
    live_after_reads geometry _ old mid c.in-Ok.live shape c.find_first.ensures.same_cells (record { sector = first.sector; is = first.live })

pub returns-in_err-move_record-clause-holds : goal.returns-in_err-move_record-clause-holds
returns-in_err-move_record-clause-holds g c =
    let old = g.D.Die.state c.args.die.now in
    let mid = g.D.Die.state c.find_first.new.die in
    let meaning = g.C.Scheme.meaning c.args.scheme.now in
    let geometry = geometry_of old.shape meaning (length c.args.map.now) in
    let start = store old c.args.map.now c.args.book.now c.args.seq.now in
    let searched = store mid c.args.map.now c.args.book.now c.args.seq.now in
    let end = store_on g.D.Die.state c.move_record.new.self c.move_record.new.map in
    let shape = same_geometry old.shape mid.shape meaning (length c.args.map.now) c.find_first.ensures.kept.shape in
    left_so g.D.Die.state (Holds _ _) (search rules) (search rules) (search rules)
    (holds_after geometry start end mid c.find_first.ensures.kept c.find_first.ensures.same_cells c.in-Ok.ensures.passed.change_faults
    (subst (λ (h : Geometry). Holds h searched end) shape c.move_record.ensures.holds))

pub returns-clause-holds : goal.returns-clause-holds
returns-clause-holds g c =
    let old = g.D.Die.state c.args.die.now in
    let mid = g.D.Die.state c.find_first.new.die in
    let meaning = g.C.Scheme.meaning c.args.scheme.now in
    let geometry = geometry_of old.shape meaning (length c.args.map.now) in
    let start = store old c.args.map.now c.args.book.now c.args.seq.now in
    let searched = store mid c.args.map.now c.args.book.now c.args.seq.now in
    let end = store_on g.D.Die.state c.move_record.new.self c.move_record.new.map in
    let shape = same_geometry old.shape mid.shape meaning (length c.args.map.now) c.find_first.ensures.kept.shape in
    left_so g.D.Die.state (Holds _ _) (search rules) (search rules) (search rules)
    (holds_after geometry start end mid c.find_first.ensures.kept c.find_first.ensures.same_cells c.in-Ok.ensures.passed.change_faults
    (subst (λ (h : Geometry). Holds h searched end) shape c.move_record.ensures.holds))

pub returns-clause-moved : goal.returns-clause-moved
returns-clause-moved g c _ =
    let old = g.D.Die.state c.args.die.now in
    let mid = g.D.Die.state c.find_first.new.die in
    let meaning = g.C.Scheme.meaning c.args.scheme.now in
    let geometry = geometry_of old.shape meaning (length c.args.map.now) in
    let start = store old c.args.map.now c.args.book.now c.args.seq.now in
    let searched = store mid c.args.map.now c.args.book.now c.args.seq.now in
    let end = store_on g.D.Die.state c.move_record.new.self c.move_record.new.map in
    let shape = same_geometry old.shape mid.shape meaning (length c.args.map.now) c.find_first.ensures.kept.shape in
    let same = c.pages-pages.ensures.value ∙ c.requires.tables.sizes.pages in
    let found = first_at c.args.map.now c.args.work.now old c.in-Some-idle_victim.victim c.pages-pages.result old.shape.pages c.in-Ok.live same c.in-Ok.ensures.found in
    let first = first_live geometry c.args.work.now old c.args.book.now c.args.map.now c.args.seq.now c.requires.tables refl (sym c.requires.die.main_bytes)
    (sym c.requires.scheme.generations) (subst (λ (n : ℕ). 0 < n) c.requires.tables.sizes.pages
    (some_pages c.args.book.now c.in-Some.next.page c.in-Some.next.room c.requires.tables.kept c.in-Some.ensures.some)) c.in-Some-idle_victim.victim c.in-Ok.live found in
    left_so g.D.Die.state (Moved _ _ _) (search rules) (search rules) (search rules)
    (moved_one geometry meaning start end mid c.in-Some.next.page c.in-Some.next.room c.in-Some-idle_victim.victim c.in-Ok.live c.requires.tables.sizes.pages refl
    c.in-Some.ensures.some c.in-Some-idle_victim.ensures.found c.find_first.ensures.same_cells
    (passed_at old mid c.in-Ok.live.place.page c.in-Some-idle_victim.victim c.pages-pages.result old.shape.pages same c.in-Ok.ensures.passed) first
    (subst (λ (h : Geometry). MovedRecord h meaning.decoding c.in-Ok.live c.in-Some.next.page searched end) shape c.in_ok-move_record.ensures.ends.0)
    c.move_record.ensures.stays.erases c.in_ok-move_record.ensures.ends.1)

pub returns-in_err-move_record-clause-change_failed : goal.returns-in_err-move_record-clause-change_failed
returns-in_err-move_record-clause-change_failed g c is =
    let old = g.D.Die.state c.args.die.now in
    let mid = g.D.Die.state c.find_first.new.die in
    let meaning = g.C.Scheme.meaning c.args.scheme.now in
    let geometry = geometry_of old.shape meaning (length c.args.map.now) in
    let start = store old c.args.map.now c.args.book.now c.args.seq.now in
    let searched = store mid c.args.map.now c.args.book.now c.args.seq.now in
    let end = store_on g.D.Die.state c.move_record.new.self c.move_record.new.map in
    let shape = same_geometry old.shape mid.shape meaning (length c.args.map.now) c.find_first.ensures.kept.shape in
    let same = c.pages-pages.ensures.value ∙ c.requires.tables.sizes.pages in
    let found = first_at c.args.map.now c.args.work.now old c.in-Some-idle_victim.victim c.pages-pages.result old.shape.pages c.in-Ok.live same c.in-Ok.ensures.found in
    let q = err_from_is_err_and c.from_residual.result c.from_residual.ensures.1 in
    let fault : c.in_err-move_record.field-0.0 ≡ Change = cc in
    let first = first_live geometry c.args.work.now old c.args.book.now c.args.map.now c.args.seq.now c.requires.tables refl (sym c.requires.die.main_bytes)
    (sym c.requires.scheme.generations) (subst (λ (n : ℕ). 0 < n) c.requires.tables.sizes.pages
    (some_pages c.args.book.now c.in-Some.next.page c.in-Some.next.room c.requires.tables.kept c.in-Some.ensures.some)) c.in-Some-idle_victim.victim c.in-Ok.live found in
    left_so g.D.Die.state (MoveChangeFailed _ _ _) (search rules) (search rules) (search rules)
    (change_failed_one geometry meaning start end mid c.in-Some.next.page c.in-Some.next.room c.in-Some-idle_victim.victim c.in-Ok.live refl c.in-Some.ensures.some
    c.in-Some-idle_victim.ensures.found c.find_first.ensures.same_cells
    (passed_at old mid c.in-Ok.live.place.page c.in-Some-idle_victim.victim c.pages-pages.result old.shape.pages same c.in-Ok.ensures.passed) first
    (subst (λ (h : Geometry). MoveFails h meaning c.in-Ok.live Change searched end) shape
    (subst (λ (f : PutFault). MoveFails (geometry_of mid.shape meaning (length c.args.map.now)) meaning c.in-Ok.live f searched end) fault c.in_err-move_record.ensures.ends))
    c.move_record.ensures.stays.erases)

pub returns-in_default-find_first-clause-none_alone : goal.returns-in_default-find_first-clause-none_alone
returns-in_default-find_first-clause-none_alone g c none =
    absurd (one_left c.args.book.now c.in-Some.next.page c.in-Some.next.room c.in-Some-idle_victim.victim c.in-Some.ensures.some c.in-Some-idle_victim.ensures.found none)

pub returns-in_err-move_record-clause-none_alone : goal.returns-in_err-move_record-clause-none_alone
returns-in_err-move_record-clause-none_alone g c none =
    absurd (one_left c.args.book.now c.in-Some.next.page c.in-Some.next.room c.in-Some-idle_victim.victim c.in-Some.ensures.some c.in-Some-idle_victim.ensures.found none)

pub returns-clause-none_alone : goal.returns-clause-none_alone
returns-clause-none_alone g c none =
    absurd (one_left c.args.book.now c.in-Some.next.page c.in-Some.next.room c.in-Some-idle_victim.victim c.in-Some.ensures.some c.in-Some-idle_victim.ensures.found none)

pub returns-in_err-move_record-clause-read_failed : goal.returns-in_err-move_record-clause-read_failed
returns-in_err-move_record-clause-read_failed g c is =
    let old = g.D.Die.state c.args.die.now in
    let mid = g.D.Die.state c.find_first.new.die in
    let meaning = g.C.Scheme.meaning c.args.scheme.now in
    let geometry = geometry_of old.shape meaning (length c.args.map.now) in
    let start = store old c.args.map.now c.args.book.now c.args.seq.now in
    let searched = store mid c.args.map.now c.args.book.now c.args.seq.now in
    let end = store_on g.D.Die.state c.move_record.new.self c.move_record.new.map in
    let shape = same_geometry old.shape mid.shape meaning (length c.args.map.now) c.find_first.ensures.kept.shape in
    let same = c.pages-pages.ensures.value ∙ c.requires.tables.sizes.pages in
    let found = first_at c.args.map.now c.args.work.now old c.in-Some-idle_victim.victim c.pages-pages.result old.shape.pages c.in-Ok.live same c.in-Ok.ensures.found in
    let q = err_from_is_err_and c.from_residual.result c.from_residual.ensures.1 in
    let fault : c.in_err-move_record.field-0.0 ≡ Read = cc in
    let first = first_live geometry c.args.work.now old c.args.book.now c.args.map.now c.args.seq.now c.requires.tables refl (sym c.requires.die.main_bytes)
    (sym c.requires.scheme.generations) (subst (λ (n : ℕ). 0 < n) c.requires.tables.sizes.pages
    (some_pages c.args.book.now c.in-Some.next.page c.in-Some.next.room c.requires.tables.kept c.in-Some.ensures.some)) c.in-Some-idle_victim.victim c.in-Ok.live found in
    left_so g.D.Die.state (MoveReadFailed _ _) (search rules) (search rules) (search rules)
    (read_failed_one geometry meaning start end mid c.in-Some.next.page c.in-Some.next.room c.in-Some-idle_victim.victim c.in-Ok.live refl c.in-Some.ensures.some
    c.in-Some-idle_victim.ensures.found c.find_first.ensures.same_cells
    (passed_at old mid c.in-Ok.live.place.page c.in-Some-idle_victim.victim c.pages-pages.result old.shape.pages same c.in-Ok.ensures.passed) found.high first
    (subst (λ (h : Geometry). MoveFails h meaning c.in-Ok.live Read searched end) shape
    (subst (λ (f : PutFault). MoveFails (geometry_of mid.shape meaning (length c.args.map.now)) meaning c.in-Ok.live f searched end) fault c.in_err-move_record.ensures.ends)))

pub returns-in_default-find_first-clause-read_failed : goal.returns-in_default-find_first-clause-read_failed
returns-in_default-find_first-clause-read_failed g c _ =
    let old = g.D.Die.state c.args.die.now in
    let mid = g.D.Die.state c.find_first.new.die in
    let meaning = g.C.Scheme.meaning c.args.scheme.now in
    let geometry = geometry_of old.shape meaning (length c.args.map.now) in
    let start = store old c.args.map.now c.args.book.now c.args.seq.now in
    let same = c.pages-pages.ensures.value ∙ c.requires.tables.sizes.pages in
    let failed = failed_at c.args.map.now c.args.work.now old mid c.in-Some-idle_victim.victim c.pages-pages.result old.shape.pages same
    (on_err c.find_first.result c.in_default-find_first.not-Ok c.find_first.ensures.failed) in
    let some = subst (λ (n : ℕ). 0 < n) c.requires.tables.sizes.pages (some_pages c.args.book.now c.in-Some.next.page c.in-Some.next.room c.requires.tables.kept
    c.in-Some.ensures.some) in
    search_failed_one geometry start mid c.in-Some.next.page c.in-Some.next.room c.in-Some-idle_victim.victim c.in-Some.ensures.some c.in-Some-idle_victim.ensures.found
    c.find_first.ensures.same_cells (failed_any c.args.map.now c.args.work.now old mid c.in-Some-idle_victim.victim old.shape.pages failed
    (has_named geometry c.args.work.now old c.args.book.now c.args.map.now c.args.seq.now c.requires.tables refl (sym c.requires.die.main_bytes)
    (sym c.requires.scheme.generations) some c.in-Some.next.room c.in-Some-idle_victim.victim c.in-Some-idle_victim.ensures.found))
    (λ first is_first. named_sooner geometry c.args.work.now old c.args.book.now c.args.map.now c.args.seq.now c.requires.tables refl (sym c.requires.die.main_bytes)
    (sym c.requires.scheme.generations) some c.in-Some-idle_victim.victim first mid is_first failed)
