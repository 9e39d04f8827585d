-- The unit that is offered decides.
use Rattle.std.proofs.Common.{ℕ, Ok, Err, sym, subst}
use Rattle.wom_code.specs.declared.code.Carry.{Carry}
use Rattle.reuse_pool.specs.Offer.{IsOffer}
use Rattle.rssd_core.specs.Placing.{header_at, CleanEnds, PlaceEnds}
use Rattle.rssd_core.specs.Steps.{OverEnds}
use Rattle.rssd_core.proofs.PlacedLaws.{over_faults, turned_faults}
use Rattle.rssd_core.proofs.StoreLaws.{keeps_trans, over_kept}
use Rattle.rssd_core.proofs.store.Store.place.Goals as goal

pub returns-in-Ok-clause-keeps : goal.returns-in-Ok-clause-keeps
returns-in-Ok-clause-keeps g c = keeps_trans c.put_over.ensures.keeps c.put_clean-in-Ok-Declined.ensures.keeps

pub returns-in-Ok-clause-ends : goal.returns-in-Ok-clause-ends
returns-in-Ok-clause-ends g c =
    let old = c.args.self.now in
    let mid = c.put_over.new.self in
    let last = c.put_clean-in-Ok-Declined.new.self in
    record {
      unit = c.in-Some.unit;
      offer = subst (λ x. IsOffer x.cells.book c.in-Some.unit) c.self.view_is c.in-Some.ensures.found;
      start = mid.cells;
      declined =
          subst (λ (x : Carry). OverEnds old.geometry (g.C.Scheme.meaning old.scheme).decoding c.in-Some.unit (header_at c.args.sector old.cells.seq) c.args.bytes.now (Ok x) old.cells mid.cells)
          c.in-Ok-Declined.field-0-is c.in-Ok-Declined.ensures.ends;
      ends = subst (λ (n : ℕ). CleanEnds old.geometry (g.C.Scheme.meaning old.scheme).decoding c.args.sector c.args.bytes.now (Ok tt) mid.cells last.cells n last.moved)
          c.put_over.ensures.same_moved
          (over_kept c.put_over.ensures.keeps (λ n m. CleanEnds n m.decoding c.args.sector c.args.bytes.now (Ok tt) mid.cells last.cells mid.moved last.moved) c.in-Ok.ensures.ends);
    }

pub returns-in-Err-put_clean-clause-keeps : goal.returns-in-Err-put_clean-clause-keeps
returns-in-Err-put_clean-clause-keeps g c = keeps_trans c.put_over.ensures.keeps c.put_clean-in-Ok-Declined.ensures.keeps

pub returns-in-Err-put_clean-clause-ends : goal.returns-in-Err-put_clean-clause-ends
returns-in-Err-put_clean-clause-ends g c =
    let old = c.args.self.now in
    let mid = c.put_over.new.self in
    let last = c.put_clean-in-Ok-Declined.new.self in
    turned_faults old.geometry (g.C.Scheme.meaning old.scheme).decoding c.args.sector c.args.bytes.now c.in-Some.unit c.in-Err-put_clean.fault old.cells mid.cells last.cells old.moved last.moved
    (subst (λ x. IsOffer x.cells.book c.in-Some.unit) c.self.view_is c.in-Some.ensures.found)
    (subst (λ (x : Carry). OverEnds old.geometry (g.C.Scheme.meaning old.scheme).decoding c.in-Some.unit (header_at c.args.sector old.cells.seq) c.args.bytes.now (Ok x) old.cells mid.cells)
    c.in-Ok-Declined.field-0-is c.in-Ok-Declined.ensures.ends)
    (subst (λ (n : ℕ). CleanEnds old.geometry (g.C.Scheme.meaning old.scheme).decoding c.args.sector c.args.bytes.now (Err c.in-Err-put_clean.fault) mid.cells last.cells n last.moved)
    c.put_over.ensures.same_moved
    (over_kept c.put_over.ensures.keeps (λ n m. CleanEnds n m.decoding c.args.sector c.args.bytes.now (Err c.in-Err-put_clean.fault) mid.cells last.cells mid.moved last.moved)
    c.in-Err-put_clean.ensures.ends))

pub returns-in-Err-clause-ends : goal.returns-in-Err-clause-ends
returns-in-Err-clause-ends g c =
    let old = c.args.self.now in
    let last = c.put_over.new.self in
    subst (λ (n : ℕ). PlaceEnds old.geometry (g.C.Scheme.meaning old.scheme).decoding c.args.sector c.args.bytes.now (Err c.in-Err.fault) old.cells last.cells old.moved n)
    (sym c.in-Err.ensures.same_moved)
    (over_faults old.geometry (g.C.Scheme.meaning old.scheme).decoding c.args.sector c.args.bytes.now c.in-Some.unit c.in-Err.fault old.cells last.cells old.moved
    (subst (λ x. IsOffer x.cells.book c.in-Some.unit) c.self.view_is c.in-Some.ensures.found) c.in-Err.ensures.ends)
