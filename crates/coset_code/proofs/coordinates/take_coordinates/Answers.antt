-- The basis spans every column, so each has a set of its vectors.
use Rattle.std.proofs.Common.{rules, ℕ, List, [], length, sym, ap, subst, refl, arith}
use Rattle.gf2_solve.specs.Family.{Family}
use Rattle.coset_code.specs.Solution.{HasOffered}
use Rattle.coset_code.proofs.OfferLemmas.{offered_none}
use Rattle.coset_code.proofs.CoordinateLemmas.{HasCoordinatesBelow, column_spanned, coordinates_more, has_coordinates}
use Rattle.coset_code.proofs.coordinates.take_coordinates.Goals as goal
use Rattle.coset_code.proofs.coordinates.take_coordinates.Goals.{in-Some, in-None}

pub loop-cell-init : goal.loop-cell-init
loop-cell-init c = record {
  offered = subst (HasOffered c.args.columns.now [] 0) (sym c.clear.ensures) (offered_none c.args.columns.now []);
  counted = sym (ap (λ (f : Family). length f.columns) c.clear.ensures);
  few = omega arith;
}

pub loop-place-preserved : goal.loop-place-preserved
loop-place-preserved c =
    let columns : List ℕ = c.args.columns.now in
    let full : Family = c.loop-cell.full in
    let n : ℕ = c.loop-place.place in
    let before : HasCoordinatesBelow columns c.loop-place.coords full.columns n = record { sums = c.loop-place.invariant.sums; within = c.loop-place.invariant.within } in
    let all : HasOffered columns [] (length columns) full = search rules in
    elim c.match-express.branch [
      | in-Some w ↦
          let after =
          rw (← w.coords-is) at (coordinates_more columns c.loop-place.coords full.columns n w.in-Some.set before
          (omega (arith, c.loop-place.auto.coords, c.requires.room)) w.in-Some.ensures.found w.in-Some.ensures.within) in
          record { sums = after.sums; within = after.within }
      | in-None w ↦ absurd (w.in-None.ensures.none.0 refl (column_spanned columns full all n (omega arith)))
    ]

pub returns-clause-coordinates : goal.returns-clause-coordinates
returns-clause-coordinates c =
    let columns : List ℕ = c.args.columns.now in
    let all : HasOffered columns [] (length columns) c.loop-cell.full = search rules in
    has_coordinates columns c.loop-place.coords c.loop-cell.full all (omega (arith, c.loop-place.auto.coords, c.requires.room))
    (record { sums = λ k h. c.loop-place.invariant.sums k (omega arith); within = λ k h. c.loop-place.invariant.within k (omega arith) })
