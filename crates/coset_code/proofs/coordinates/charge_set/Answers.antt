-- Each step charges the cell of the lowest vector left, which changes the sum by its column.
use Rattle.std.proofs.Common.{length, ◌∙◌, refl, arith}
use Rattle.coset_code.proofs.ChargeLemmas.{lowest, charged_at}
use Rattle.coset_code.proofs.ChargeSetLemmas.{set_none, set_more}
use Rattle.coset_code.proofs.coordinates.charge_set.Goals as goal

pub loop-rest-init : goal.loop-rest-init
loop-rest-init c = record {
  charged = λ columns f. set_none columns _ c.args.basis.now c.args.set f;
  others = λ n h i l. refl;
  within = c.requires.set;
}

pub tag_of-requires : goal.tag_of-requires
tag_of-requires c =
    let l = lowest c.loop-rest.rest _ (omega arith) c.loop-rest.auto.rest-fits.fits c.loop-rest.invariant.within in
    omega (arith, l.in_range, c.requires.tags_len)

pub charge-requires : goal.charge-requires
charge-requires c =
    let l = lowest c.loop-rest.rest _ (omega arith) c.loop-rest.auto.rest-fits.fits c.loop-rest.invariant.within in
    omega (arith, c.tag_of.ensures, c.requires.tags _ l.in_range, c.loop-rest.auto.row)

pub loop-rest-smaller : goal.loop-rest-smaller
loop-rest-smaller c = (lowest c.loop-rest.rest _ (omega arith) c.loop-rest.auto.rest-fits.fits c.loop-rest.invariant.within).smaller

pub loop-rest-preserved : goal.loop-rest-preserved
loop-rest-preserved c =
    let l = lowest c.loop-rest.rest _ (omega arith) c.loop-rest.auto.rest-fits.fits c.loop-rest.invariant.within in
    record {
      charged = λ columns f.
          let was = c.loop-rest.invariant.charged columns f in
          set_more columns _ _ _ c.args.basis.now c.args.set c.loop-rest.rest _ _ f was c.loop-rest.invariant.within l
          c.tag_of.result c.tag_of.ensures
          (charged_at (length columns) c.loop-rest.row c.charge.new.words c.tag_of.result
          (omega (arith, c.tag_of.ensures, (f.cells _ (was.part _ l.in_set)).in_range)) c.charge.ensures.set c.charge.ensures.others);
      others = λ n h i m. c.charge.ensures.others i (λ e. omega (arith, c.tag_of.ensures, h _ l.in_range)) ∙ c.loop-rest.invariant.others n h i m;
      within = l.less_within;
    }
