-- Laws of sums over GF(2), and the bits that they leave alone.
use Rattle.std.proofs.Common.{◌≡◌, ℕ, zero, suc, ◌+◌, ◌-◌, ◌*◌, ◌/◌, ◌%◌, ◌^◌, ◌<◌, ◌≤◌, ◌⊎◌, bit_xor, sym, ◌∙◌, ap, refl, inl, inr, arith}
use Rattle.std.specs.Int.{bit_at}
use Rattle.std.specs.Int.Bits.{xor_assoc, xor_comm, xor_self, xor_zero_r, xor_lt, xor_block, xor_shr, xor_mod}
use Rattle.std.proofs.lemmas.Grind.{pow_more}
use Rattle.std.proofs.lemmas.Nat.{shr_high}
use Rattle.std.proofs.lemmas.Nat.Bits.{bit_at-lt}

-- two sums, joined
pub xor_swap : (a b c d : ℕ) → bit_xor (bit_xor a b) (bit_xor c d) ≡ bit_xor (bit_xor a c) (bit_xor b d)
xor_swap a b c d =
    xor_assoc a b (bit_xor c d)
    ∙ ap (bit_xor a) (sym (xor_assoc b c d) ∙ ap (λ x. bit_xor x d) (xor_comm b c) ∙ xor_assoc c b d)
    ∙ sym (xor_assoc a c (bit_xor b d))

-- what is added twice is gone
pub xor_twice : (a b : ℕ) → bit_xor a (bit_xor a b) ≡ b
xor_twice a b = sym (xor_assoc a a b) ∙ ap (λ x. bit_xor x b) (xor_self a)

-- a digit is 0 or 1
pub cases_digit : (x : ℕ) → x < 2 → (x ≡ 0) ⊎ (x ≡ 1)
cases_digit zero h = inl refl
cases_digit (suc zero) h = inr refl
cases_digit (suc (suc x)) h = absurd (omega arith)

zero_times : (v : ℕ) → 0 * v ≡ 0
zero_times v = omega arith

one_times : (v : ℕ) → 1 * v ≡ v
one_times v = omega arith

-- a vector times the sum of two bits
pub xor-mul : (x y v : ℕ) → x < 2 → y < 2 → bit_xor x y * v ≡ bit_xor (x * v) (y * v)
xor-mul zero y v p q = ap (λ z. bit_xor z (y * v)) (sym (zero_times v))
xor-mul (suc zero) zero v p q = sym (ap (bit_xor (1 * v)) (zero_times v) ∙ xor_zero_r (1 * v))
xor-mul (suc zero) (suc zero) v p q = zero_times v ∙ sym (xor_self (1 * v))
xor-mul (suc zero) (suc (suc y)) v p q = omega arith
xor-mul (suc (suc x)) y v p q = omega arith

-- a bit of a sum
pub bit_at-xor : (a b i : ℕ) → bit_at (bit_xor a b) i ≡ bit_xor (bit_at a i) (bit_at b i)
bit_at-xor a b i = ap (λ x. x % 2) (xor_shr a b i) ∙ xor_mod (a / 2 ^ i) (b / 2 ^ i) 1

-- a vector, added for a bit of a sum
pub bit_at-xor-mul : (a b i v : ℕ) → bit_at (bit_xor a b) i * v ≡ bit_xor (bit_at a i * v) (bit_at b i * v)
bit_at-xor-mul a b i v = ap (λ x. x * v) (bit_at-xor a b i) ∙ xor-mul (bit_at a i) (bit_at b i) v (bit_at-lt a i) (bit_at-lt b i)

-- adding nothing
pub xor_none : (x v w : ℕ) → x ≡ 0 → bit_xor (x * v) w ≡ w
xor_none x v w e = ap (λ y. bit_xor (y * v) w) e ∙ ap (λ y. bit_xor y w) (zero_times v)

-- adding it once
pub xor_once : (x v w : ℕ) → x ≡ 1 → bit_xor (x * v) w ≡ bit_xor v w
xor_once x v w e = ap (λ y. bit_xor (y * v) w) e ∙ ap (λ y. bit_xor y w) (one_times v)

-- two numbers with the same highest bit
pub xor_cancels : (p a b : ℕ) → 2 ^ p ≤ a → a < 2 ^ (p + 1) → 2 ^ p ≤ b → b < 2 ^ (p + 1) → bit_xor a b < 2 ^ p
xor_cancels p a b h i j k =
    let r : a - 2 ^ p < 2 ^ p = omega (arith, pow_more 2 p) in
    let s : b - 2 ^ p < 2 ^ p = omega (arith, pow_more 2 p) in
    let e : bit_xor (1 * 2 ^ p + (a - 2 ^ p)) (1 * 2 ^ p + (b - 2 ^ p)) ≡ 0 * 2 ^ p + bit_xor (a - 2 ^ p) (b - 2 ^ p) = xor_block p 1 1 (a - 2 ^ p) (b - 2 ^ p) r s in
    let f : 1 * 2 ^ p + (a - 2 ^ p) ≡ a = omega arith in
    let g : 1 * 2 ^ p + (b - 2 ^ p) ≡ b = omega arith in
    let m : bit_xor a b ≡ 0 * 2 ^ p + bit_xor (a - 2 ^ p) (b - 2 ^ p) = cc in
    let n : bit_xor (a - 2 ^ p) (b - 2 ^ p) < 2 ^ p = xor_lt p _ _ r s in
    omega arith

-- the highest bit is set
pub top_is_set : (p v : ℕ) → 2 ^ p ≤ v → v < 2 ^ (p + 1) → bit_at v p ≡ 1
top_is_set p v h i =
    let r : v - 2 ^ p < 2 ^ p = omega (arith, pow_more 2 p) in
    let f : 1 * 2 ^ p + (v - 2 ^ p) ≡ v = omega arith in
    ap (λ x. bit_at x p) (sym f) ∙ ap (λ x. x % 2) (shr_high 1 p (v - 2 ^ p) r)
