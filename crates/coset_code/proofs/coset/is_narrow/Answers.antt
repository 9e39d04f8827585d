-- A number below 2 ^ 128 has nothing above the width where its shift is zero.
use Rattle.std.proofs.Common.{◌≡◌, ℕ, ◌+◌, ◌*◌, ◌/◌, ◌^◌, ◌<◌, ◌∙◌, ap, eq-eqb, arith}
use Rattle.std.proofs.lemmas.Bool.{eqb-true}
use Rattle.std.proofs.lemmas.Nat.{shr_high, shr_split, mod_below, pow_pos}
use Rattle.coset_code.proofs.coset.is_narrow.Goals as goal

narrow_from : (v w : ℕ) → v / 2 ^ w ≡ 0 → v < 2 ^ w
narrow_from v w e =
    let none : v / 2 ^ w * 2 ^ w ≡ 0 = ap (λ q. q * 2 ^ w) e ∙ omega arith in
    omega (arith, shr_split v w, mod_below v (2 ^ w) (pow_pos w))

none_above : (v w : ℕ) → v < 2 ^ w → v / 2 ^ w ≡ 0
none_above v w h = let e : v ≡ 0 * 2 ^ w + v = omega arith in ap (λ x. x / 2 ^ w) e ∙ shr_high 0 w v h

pub returns-else-width-eq128 : goal.returns-else-width-eq128
returns-else-width-eq128 c = (λ h. narrow_from c.args.vector c.args.width (eqb-true _ _ h), λ h. eq-eqb _ _ (none_above c.args.vector c.args.width h))
