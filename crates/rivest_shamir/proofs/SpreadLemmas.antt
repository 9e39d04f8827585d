-- The tables of bytes against the definitions: every entry is tested.
use Rattle.std.proofs.Common.{◌≡◌, ℕ, ◌<◌, Bool, true, ◌&&◌, get_or, ltb, refl}
use Rattle.std.proofs.lemmas.Bool.{agree_below, agree_below_at, and_parts, ltb-true}
use Rattle.wom_code.specs.Groups.{chunk_of}
use Rattle.wom_code.proofs.WordTests.{same, same_to}
use Rattle.rivest_shamir.specs.Triples.{with_sum, least_of}
use Rattle.rivest_shamir.specs.declared.triples.TheConstants.{SPREAD, LEAST}

spread_at : ℕ → ℕ → Bool
spread_at byte t = same (chunk_of 3 (get_or SPREAD byte 0) t) (with_sum (chunk_of 2 byte t))

byte_test : ℕ → Bool
byte_test byte = ltb (get_or SPREAD byte 0) 4096 && agree_below (spread_at byte) (λ _. true) 4

all_bytes : agree_below byte_test (λ _. true) 256 ≡ true
unfolding chunk_of spread_at byte_test
all_bytes = refl

tested : (byte : ℕ) → byte < 256 → byte_test byte ≡ true
tested byte h = agree_below_at byte_test (λ _. true) 256 byte all_bytes h

parts : (byte : ℕ) → byte < 256 → (ltb (get_or SPREAD byte 0) 4096 ≡ true) × (agree_below (spread_at byte) (λ _. true) 4 ≡ true)
unfolding byte_test
parts byte h = and_parts (ltb (get_or SPREAD byte 0) 4096) (agree_below (spread_at byte) (λ _. true) 4) (tested byte h)

pub spread_narrow : (byte : ℕ) → byte < 256 → get_or SPREAD byte 0 < 4096
spread_narrow byte h = ltb-true (get_or SPREAD byte 0) 4096 (parts byte h).0

pub spread_entry : (byte t : ℕ) → byte < 256 → t < 4 → chunk_of 3 (get_or SPREAD byte 0) t ≡ with_sum (chunk_of 2 byte t)
unfolding spread_at
spread_entry byte t h l = same_to (chunk_of 3 (get_or SPREAD byte 0) t) (with_sum (chunk_of 2 byte t)) (agree_below_at (spread_at byte) (λ _. true) 4 t (parts byte h).1 l)

least_at : ℕ → ℕ → Bool
least_at byte t = same (chunk_of 3 (get_or LEAST byte 0) t) (least_of (chunk_of 2 byte t))

least_test : ℕ → Bool
least_test byte = ltb (get_or LEAST byte 0) 4096 && agree_below (least_at byte) (λ _. true) 4

all_least : agree_below least_test (λ _. true) 256 ≡ true
unfolding chunk_of least_at least_test
all_least = refl

least_tested : (byte : ℕ) → byte < 256 → least_test byte ≡ true
least_tested byte h = agree_below_at least_test (λ _. true) 256 byte all_least h

least_parts : (byte : ℕ) → byte < 256 → (ltb (get_or LEAST byte 0) 4096 ≡ true) × (agree_below (least_at byte) (λ _. true) 4 ≡ true)
unfolding least_test
least_parts byte h = and_parts (ltb (get_or LEAST byte 0) 4096) (agree_below (least_at byte) (λ _. true) 4) (least_tested byte h)

pub least_narrow : (byte : ℕ) → byte < 256 → get_or LEAST byte 0 < 4096
least_narrow byte h = ltb-true (get_or LEAST byte 0) 4096 (least_parts byte h).0

pub least_entry : (byte t : ℕ) → byte < 256 → t < 4 → chunk_of 3 (get_or LEAST byte 0) t ≡ least_of (chunk_of 2 byte t)
unfolding least_at
least_entry byte t h l = same_to (chunk_of 3 (get_or LEAST byte 0) t) (least_of (chunk_of 2 byte t)) (agree_below_at (least_at byte) (λ _. true) 4 t (least_parts byte h).1 l)
