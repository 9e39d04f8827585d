-- Each step adds a row to the rest and its set to the set, and the highest bit falls.
use Rattle.std.proofs.Common.{rules, ◌≡◌, ℕ, ◌^◌, ◌<◌, List, length, get_or, bit_xor, ◌∙◌, ap, refl, arith}
use Rattle.std.specs.Int.Bits.{xor_self, xor_zero_r, xor_lt}
use Rattle.std.proofs.lemmas.Nat.{pow_pos}
use Rattle.gf2_solve.specs.Span.{subset_sum}
use Rattle.gf2_solve.specs.Echelon.{residue, IsEchelon, IsBasis}
use Rattle.gf2_solve.proofs.XorLemmas.{xor_swap, xor_cancels}
use Rattle.gf2_solve.proofs.SpanLemmas.{subset_sum-xor, subset_sum-zero}
use Rattle.gf2_solve.proofs.ResidueLemmas.{residue-xor, residue_row, residue_stuck, same_top}
use Rattle.gf2_solve.proofs.reduce.Goals as goal

-- a row and its set, added on both sides
add_row : (rows sets columns : List ℕ) → IsBasis rows sets columns → (p set rest : ℕ) →
    bit_xor (subset_sum (bit_xor set (get_or sets p 0)) columns) (bit_xor rest (get_or rows p 0)) ≡ bit_xor (subset_sum set columns) rest
add_row rows sets columns b p set rest =
    ap (λ x. bit_xor x (bit_xor rest (get_or rows p 0))) (subset_sum-xor set (get_or sets p 0) columns)
    ∙ xor_swap (subset_sum set columns) (subset_sum (get_or sets p 0) columns) rest (get_or rows p 0)
    ∙ ap (bit_xor (bit_xor (subset_sum set columns) rest)) (ap (λ x. bit_xor x (get_or rows p 0)) (b.sums p) ∙ xor_self (get_or rows p 0))
    ∙ xor_zero_r (bit_xor (subset_sum set columns) rest)

-- a row added changes nothing below
clear_row : (rows : List ℕ) → IsEchelon rows → (p rest : ℕ) → p < 128 → residue rows 128 (bit_xor rest (get_or rows p 0)) ≡ residue rows 128 rest
clear_row rows e p rest h =
    residue-xor rows 128 rest (get_or rows p 0)
    ∙ ap (bit_xor (residue rows 128 rest)) (residue_row rows e 128 p h)
    ∙ xor_zero_r (residue rows 128 rest)

pub loop-rest-init : goal.loop-rest-init
loop-rest-init c = record {
  sum = λ columns b. ap (λ x. bit_xor x c.args.vector) (subset_sum-zero columns);
  within = λ columns b. pow_pos (length columns);
  same = refl;
}

pub loop-rest-smaller : goal.loop-rest-smaller
loop-rest-smaller c =
    let p : ℕ = c.top_bit-top.result in
    let row : ℕ = get_or c.args.rows.now p 0 in
    let some : 0 < row = omega arith in
    let cancelled : bit_xor c.loop-rest.rest row < 2 ^ p =
    xor_cancels p c.loop-rest.rest row c.top_bit-top.ensures.set c.top_bit-top.ensures.highest (c.requires.echelon.leads p some) (c.requires.echelon.within p) in
    omega arith

pub loop-rest-preserved : goal.loop-rest-preserved
loop-rest-preserved c = record {
  sum = λ columns b. add_row c.args.rows.now c.args.sets.now columns b c.top_bit-top.result c.loop-rest.set c.loop-rest.rest ∙ c.loop-rest.invariant.sum columns b;
  within = λ columns b. xor_lt (length columns) _ _ (c.loop-rest.invariant.within columns b) (b.sets_within c.top_bit-top.result);
  same = clear_row c.args.rows.now c.requires.echelon c.top_bit-top.result c.loop-rest.rest c.top_bit-top.ensures.in_range ∙ c.loop-rest.invariant.same;
}

pub returns-after-loop-rest : goal.returns-after-loop-rest
returns-after-loop-rest c =
    let zero : c.loop-rest.rest ≡ 0 = search rules in
    record {
      sum = c.loop-rest.invariant.sum;
      within = c.loop-rest.invariant.within;
      same = c.loop-rest.invariant.same;
      uncleared = λ h. absurd (omega arith);
      free = λ p h i. absurd (omega (arith, pow_pos p));
    }

pub returns-then-row-eq0 : goal.returns-then-row-eq0
returns-then-row-eq0 c =
    let t = c.top_bit-top.ensures in
    record {
      sum = c.loop-rest.invariant.sum;
      within = c.loop-rest.invariant.within;
      same = c.loop-rest.invariant.same;
      uncleared = λ h. residue_stuck c.args.rows.now c.requires.echelon 128 c.top_bit-top.result c.loop-rest.rest t.in_range t.set t.highest c.if-row-eq0.true;
      free = λ p h i. ap (λ q. get_or c.args.rows.now q 0) (same_top p c.top_bit-top.result c.loop-rest.rest h i t.set t.highest) ∙ c.if-row-eq0.true;
    }
