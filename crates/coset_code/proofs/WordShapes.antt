-- The columns of a seed make a code of 128 bits.
use Rattle.std.proofs.Common.{ℕ, ◌+◌, ◌*◌, ◌/◌, ◌%◌, ◌^◌, ◌<◌, bit_xor, arith, lit≤}
use Rattle.std.specs.List.{range_with_len}
use Rattle.std.proofs.lemmas.List.Elements.{All-map}
use Rattle.std.proofs.lemmas.Nat.{xor_lt}
use Rattle.rand_xoshiro.specs.SplitMix64.{fold_mul, next_state}
use Rattle.coset_code.specs.Code.{IsShape}
use Rattle.coset_code.specs.Words.{column_at, word_at, state_after, columns_from}
use Rattle.coset_code.proofs.WordLemmas.{length-columns_from}

folded_small : (z : ℕ) → z < 2 ^ 64 → bit_xor z (z / 2 ^ 31) < 2 ^ 64
folded_small z small = xor_lt 64 z (z / 2 ^ 31) small (omega arith)

remainder_small : (z : ℕ) → z % 2 ^ 64 < 2 ^ 64
remainder_small z = omega arith

word_small : (seed n : ℕ) → word_at seed n < 2 ^ 64
word_small seed n = folded_small (fold_mul (fold_mul (next_state (state_after seed n)) 30 0xbf58476d1ce4e5b9) 27 0x94d049bb133111eb) (remainder_small _)

two_words : (high low : ℕ) → high < 2 ^ 64 → low < 2 ^ 64 → high * 2 ^ 64 + low < 2 ^ 128
two_words high low h l = omega arith

column_small : (seed j : ℕ) → column_at seed j < 2 ^ 128
unfolding column_at
column_small seed j = two_words (word_at seed (2 * j + 1)) (word_at seed (2 * j)) (word_small seed (2 * j + 1)) (word_small seed (2 * j))

pub columns_shape : (seed n : ℕ) → IsShape 128 n (columns_from seed n)
columns_shape seed n = (lit≤ tt, lit≤ tt, length-columns_from seed n, All-map (λ (column : ℕ). column < 2 ^ 128) (column_at seed) (range_with_len 0 n) (λ k d below. column_small seed _))
