-- The table of four first words against the definition: every entry is tested, along the list.
use Rattle.std.proofs.Common.{◌≡◌, ℕ, zero, suc, ◌+◌, ◌<◌, Bool, true, ◌&&◌, List, [], ◌∷◌, length, get_or, ltb, refl, subst, arith}
use Rattle.std.proofs.lemmas.Bool.{agree_below, agree_below_at, and_parts, ltb-true}
use Rattle.wom_code.specs.Groups.{chunk_of}
use Rattle.wom_code.proofs.WordTests.{same, same_to}
use Rattle.hamming_seven.specs.declared.first.TheConstants.{FIRST}
use Rattle.hamming_seven.specs.Words.{first_of}

-- a test of each number of a list and its place, from the place i on
unfoldable along : (ℕ → ℕ → Bool) → ℕ → List ℕ → Bool
along f i [] = true
along f i (x ∷ xs) = f i x && along f (suc i) xs

along_at : (f : ℕ → ℕ → Bool) (i : ℕ) (xs : List ℕ) → along f i xs ≡ true → (k : ℕ) → k < length xs → f (i + k) (get_or xs k 0) ≡ true
unfolding along
along_at f i [] h k lt = absurd (omega arith)
along_at f i (x ∷ xs) h zero lt = let e : i ≡ i + 0 = omega arith in subst (λ j. f j x ≡ true) e (and_parts _ _ h).0
along_at f i (x ∷ xs) h (suc k) lt = let e : suc i + k ≡ i + suc k = omega arith in subst (λ j. f j (get_or xs k 0) ≡ true) e (along_at f (suc i) xs (and_parts _ _ h).1 k (omega arith))

chunk_test : ℕ → ℕ → ℕ → Bool
chunk_test messages word t = same (chunk_of 7 word t) (first_of (chunk_of 3 messages t))

entry_test : ℕ → ℕ → Bool
entry_test messages word = ltb word 268435456 && agree_below (chunk_test messages word) (λ _. true) 4

all_entries : along entry_test 0 FIRST ≡ true
unfolding chunk_of along chunk_test entry_test
all_entries = refl

whole : length FIRST ≡ 4096
whole = refl

parts : (m : ℕ) → m < 4096 → (ltb (get_or FIRST m 0) 268435456 ≡ true) × (agree_below (chunk_test m (get_or FIRST m 0)) (λ _. true) 4 ≡ true)
unfolding entry_test
parts m h = let e : 0 + m ≡ m = omega arith in and_parts _ _ (subst (λ k. entry_test k (get_or FIRST m 0) ≡ true) e (along_at entry_test 0 FIRST all_entries m (omega (arith, whole))))

pub first_narrow : (m : ℕ) → m < 4096 → get_or FIRST m 0 < 268435456
first_narrow m h = ltb-true (get_or FIRST m 0) 268435456 (parts m h).0

pub first_entry : (m t : ℕ) → m < 4096 → t < 4 → chunk_of 7 (get_or FIRST m 0) t ≡ first_of (chunk_of 3 m t)
unfolding chunk_test
first_entry m t h l = same_to (chunk_of 7 (get_or FIRST m 0) t) (first_of (chunk_of 3 m t)) (agree_below_at (chunk_test m (get_or FIRST m 0)) (λ _. true) 4 t (parts m h).1 l)
