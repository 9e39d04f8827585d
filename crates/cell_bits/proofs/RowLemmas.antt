-- Loops over whole rows.
use Rattle.std.proofs.Common.{◌≡◌, ℕ, zero, suc, ◌+◌, ◌/◌, ◌%◌, ◌<◌, ◌≤◌, ◌↔◌, ◌⊎◌, ◌&&◌, ◌==◌, List, length, slice_index, bit_or, bit_xor, max, sym, ◌∙◌, ap, subst, refl, inl, inr, arith}
use Rattle.std.specs.Int.{bit_at}
use Rattle.std.specs.Int.Bits.{or_zero_l, xor_self}
use Rattle.std.proofs.lemmas.Bool.{cases_lt, ne_eqb}
use Rattle.std.proofs.lemmas.List.{get_or_past}
use Rattle.std.proofs.lemmas.Nat.{le_or_l, le_or_r, or_lt}
use Rattle.std.proofs.lemmas.Nat.Bits.{bit_at_or, bit_at_xor, bit_at-lt, bit_at-zero, same_from_bits, same_from_bits_below}
use Rattle.cell_bits.specs.Cells.{charge_at, IsAbove, AreBytes}
use Rattle.cell_bits.proofs.Above.{above_bits}

-- the old byte has no cell that the new one lacks
abbrev pub IsKept : List ℕ → List ℕ → ℕ → Type 0
IsKept new old k = bit_or (slice_index old k) (slice_index new k) ≡ slice_index new k

xor_zero : (a b : ℕ) → bit_xor a b ≡ 0 → a ≡ b
xor_zero a b e = same_from_bits a b (λ i. let f : (bit_at a i + bit_at b i) % 2 ≡ 0 = sym (bit_at_xor a b i) ∙ ap (λ x. bit_at x i) e ∙ bit_at-zero i in omega (arith, bit_at-lt a i, bit_at-lt b i))

pub kept_more : (new old : List ℕ) (lost at : ℕ) → ((lost ≡ 0) ↔ ((k : ℕ) → k < at → IsKept new old k)) →
    (bit_or lost (bit_xor (bit_or (slice_index old at) (slice_index new at)) (slice_index new at)) ≡ 0) ↔ ((k : ℕ) → k < at + 1 → IsKept new old k)
kept_more new old lost at before = (there, back)
  where
    change : ℕ
    change = bit_xor (bit_or (slice_index old at) (slice_index new at)) (slice_index new at)

    there : bit_or lost (bit_xor (bit_or (slice_index old at) (slice_index new at)) (slice_index new at)) ≡ 0 → (k : ℕ) → k < at + 1 → IsKept new old k
    there e k h = elim (cases_lt k at) [
      | inl l ↦ before.0 (omega (arith, le_or_l lost (bit_xor (bit_or (slice_index old at) (slice_index new at)) (slice_index new at)))) k l
      | inr m ↦
          let same : at ≡ k = omega arith in
          subst (IsKept new old) same (xor_zero _ _ (omega (arith, le_or_r lost (bit_xor (bit_or (slice_index old at) (slice_index new at)) (slice_index new at)))))
    ]

    back : ((k : ℕ) → k < at + 1 → IsKept new old k) → bit_or lost (bit_xor (bit_or (slice_index old at) (slice_index new at)) (slice_index new at)) ≡ 0
    back h =
        let none : lost ≡ 0 = before.1 (λ k l. h k (omega arith)) in
        ap (λ x. bit_or x (bit_xor (bit_or (slice_index old at) (slice_index new at)) (slice_index new at))) none
        ∙ or_zero_l _
        ∙ ap (λ x. bit_xor x (slice_index new at)) (h at (omega arith))
        ∙ xor_self (slice_index new at)

pub above_from_kept : (new old : List ℕ) → length new ≡ length old → ((k : ℕ) → k < length old → IsKept new old k) → IsAbove new old
above_from_kept new old len h = record { same_length = len; charged = λ c. at c (cases_lt (c / 8) (length old)) }
  where
    at : (c : ℕ) → (c / 8 < length old) ⊎ (length old ≤ c / 8) → charge_at old c ≤ charge_at new c
    at c (inl l) =
        let both : bit_at (slice_index new (c / 8)) (c % 8) ≡ max (bit_at (slice_index old (c / 8)) (c % 8)) (bit_at (slice_index new (c / 8)) (c % 8)) =
        ap (λ x. bit_at x (c % 8)) (sym (h (c / 8) l)) ∙ bit_at_or _ _ (c % 8) in
        omega arith
    at c (inr m) =
        let none : charge_at old c ≡ 0 = ap (λ x. bit_at x (c % 8)) (get_or_past old (c / 8) 0 m) ∙ bit_at-zero (c % 8) in
        omega arith

pub kept_from_above : (new old : List ℕ) → AreBytes new → AreBytes old → IsAbove new old → (k : ℕ) → IsKept new old k
kept_from_above new old p q f k =
    same_from_bits_below 8 _ _ (or_lt 8 (slice_index old k) (slice_index new k) (q k) (p k)) (p k) (λ i h.
    bit_at_or (slice_index old k) (slice_index new k) i
    ∙ within (bit_at (slice_index old k) i) (bit_at (slice_index new k) i) (bit_at-lt (slice_index old k) i) (bit_at-lt (slice_index new k) i) (above_bits new old f k i h))
  where
    within : (x y : ℕ) → x < 2 → y < 2 → (x ≡ 1 → y ≡ 1) → max x y ≡ y
    within zero y a b g = omega arith
    within (suc zero) y a b g = omega (arith, g refl)
    within (suc (suc x)) y a b g = absurd (omega arith)

pub both_zero : (a b : ℕ) → (a == 0 && b == 0) ≡ (bit_or a b == 0)
both_zero zero b = ap (λ x. x == 0) (sym (or_zero_l b))
both_zero (suc a) b = ap (λ t. t && b == 0) (ne_eqb (suc a) 0 (λ e. omega arith)) ∙ sym (ne_eqb (bit_or (suc a) b) 0 (λ e. omega (arith, le_or_l (suc a) b)))
