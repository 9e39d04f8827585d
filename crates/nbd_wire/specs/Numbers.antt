-- Numbers of 2, 4 and 8 bytes, the highest byte first.
use Rattle.std.specs.Prelude.{ℕ, List, drop}
use Rattle.byteorder.specs.Endian.{big_bytes, big_number}

unfoldable pub half : ℕ → List ℕ
half n = big_bytes 2 n

unfoldable pub word : ℕ → List ℕ
word n = big_bytes 4 n

unfoldable pub long : ℕ → List ℕ
long n = big_bytes 8 n

-- the numbers at a place
unfoldable pub half_at : ℕ → List ℕ → ℕ
half_at place bytes = big_number 2 (drop place bytes)

unfoldable pub word_at : ℕ → List ℕ → ℕ
word_at place bytes = big_number 4 (drop place bytes)

unfoldable pub long_at : ℕ → List ℕ → ℕ
long_at place bytes = big_number 8 (drop place bytes)
