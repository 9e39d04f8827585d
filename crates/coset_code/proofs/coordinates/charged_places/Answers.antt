-- A charged cell of the basis of all columns adds its own bit, so a bit that is not there has an uncharged cell.
use Rattle.std.proofs.Common.{◌≡◌, ◌^◌, ◌/◌, ◌%◌, ℕ, List, get_or, nat_eq, false, sym, ◌∙◌, ap, arith}
use Rattle.std.proofs.lemmas.Nat.Bits.{bit_at-lt}
use Rattle.wom_code.specs.Packed.{word_bit}
use Rattle.coset_code.proofs.CoordinateLemmas.{places_charged, places_free}
use Rattle.coset_code.proofs.coordinates.charged_places.Goals as goal
use Rattle.coset_code.proofs.coordinates.charged_places.Goals.{then-is_charged, else-is_charged}

pub loop-place-preserved : goal.loop-place-preserved
loop-place-preserved c =
    let place : ℕ = c.loop-place.place in
    let tags : List ℕ = c.args.full.now.tags in
    let old : List ℕ = c.args.old.now in
    let coords : List ℕ = c.args.coords.now in
    let bit : ℕ → ℕ = λ p. word_bit old (get_or tags p 0) in
    let cell : c.tag_of-cell.result ≡ get_or tags place 0 = c.tag_of-cell.ensures in
    let unit : get_or coords c.tag_of-cell.result 0 ≡ 2 ^ place = ap (λ k. get_or coords k 0) cell ∙ c.requires.units place (omega arith) in
    elim c.if-is_charged.branch [
      | then-is_charged w ↦ rw (← w.places-is) at (places_charged bit c.loop-place.places place (get_or coords c.tag_of-cell.result 0) c.loop-place.invariant unit)
      | else-is_charged w ↦
          let f : nat_eq (bit place) 1 ≡ false = ap (λ k. nat_eq (word_bit old k) 1) (sym cell) ∙ sym c.is_charged.ensures ∙ w.if-is_charged.false in
          rw (← w.places-is) at (places_free bit c.loop-place.places place c.loop-place.invariant (bit_at-lt (get_or old (get_or tags place 0 / 64) 0) (get_or tags place 0 % 64)) f)
    ]
