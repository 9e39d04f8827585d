-- The states of the generator and the columns of its words.
use Rattle.std.proofs.Common.{◌≡◌, ℕ, suc, ◌+◌, ◌*◌, ◌%◌, ◌^◌, ◌<◌, List, [], ◌∷◌, ◌++◌, length, bit_or, sym, ◌∙◌, ap, refl, arith}
use Rattle.std.proofs.lemmas.List.FromFn.{map-range_with_len_more, length-map-range_with_len}
use Rattle.std.proofs.lemmas.Nat.{or_shifted, shl_whole}
use Rattle.rand_xoshiro.specs.SplitMix64.{mix_u64, next_state}
use Rattle.coset_code.specs.Words.{state_after, word_at, column_at, columns_from}

-- two words make a column, and the state after them
pub record IsDrawn (seed k column state : ℕ) : Type 0 where
  pub column_is : column ≡ column_at seed k
  pub state_is : state ≡ state_after seed (2 * (k + 1))

pub drawn : (seed k s s1 s2 low high : ℕ) → s ≡ state_after seed (2 * k) → ◌≡◌ {A = ℕ × ℕ} (low, s1) (mix_u64 s) → ◌≡◌ {A = ℕ × ℕ} (high, s2) (mix_u64 s1) → low < 2 ^ 64 → high < 2 ^ 64 →
    IsDrawn seed k (bit_or (high * 2 ^ 64 % 2 ^ 128) low) s2
unfolding state_after column_at
drawn seed k s s1 s2 low high at e f l h =
    let low_is : low ≡ word_at seed (2 * k) = ap (λ (p : ℕ × ℕ). p.0) e ∙ ap (λ x. (mix_u64 x).0) at in
    let next : suc (2 * k) ≡ 2 * k + 1 = omega arith in
    let last : suc (suc (2 * k)) ≡ 2 * (k + 1) = omega arith in
    let s1_is : s1 ≡ state_after seed (suc (2 * k)) = ap (λ (p : ℕ × ℕ). p.1) e ∙ ap next_state at in
    let high_is : high ≡ word_at seed (2 * k + 1) = ap (λ (p : ℕ × ℕ). p.0) f ∙ ap (λ x. (mix_u64 x).0) (s1_is ∙ ap (state_after seed) next) in
    let joined : bit_or (high * 2 ^ 64 % 2 ^ 128) low ≡ high * 2 ^ 64 + low = ap (λ x. bit_or x low) (shl_whole high 64 64 128 h (omega arith)) ∙ or_shifted high 64 low l in
    record {
      column_is = joined ∙ ap (λ x. x * 2 ^ 64 + low) high_is ∙ ap (λ x. word_at seed (2 * k + 1) * 2 ^ 64 + x) low_is;
      state_is = ap (λ (p : ℕ × ℕ). p.1) f ∙ ap next_state s1_is ∙ ap (state_after seed) last;
    }

pub columns_more : (seed k : ℕ) (items : List ℕ) (column : ℕ) → items ≡ columns_from seed k → column ≡ column_at seed k → items ++ column ∷ [] ≡ columns_from seed (k + 1)
columns_more seed k items column e f =
    ap (λ xs. xs ++ column ∷ []) e ∙ ap (λ x. columns_from seed k ++ x ∷ []) f ∙ sym (map-range_with_len_more (column_at seed) 0 k k (omega arith))

pub length-columns_from : (seed k : ℕ) → length (columns_from seed k) ≡ k
length-columns_from seed k = length-map-range_with_len (column_at seed) 0 k

pub state_at_start : (seed : ℕ) → state_after seed 0 ≡ seed
unfolding state_after
state_at_start seed = refl
