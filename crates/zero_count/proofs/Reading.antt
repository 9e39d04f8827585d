-- When a word is valid, by its parts.
use Rattle.std.proofs.Common.{◌≡◌, ℕ, suc, ◌<◌, ◌≤◌, true, List, [], ◌∷◌, take, drop, length, slice_index, None, ◌++◌, refl, sym, ap, ap₂, ◌∙◌, arith, eq-eqb, length-drop, get_or-drop}
use Rattle.std.proofs.lemmas.Bool.{and_from, lt-ltb, le-leb, cond-false, false_from_ne_true}
use Rattle.std.proofs.lemmas.List.{drop-drop}
use Rattle.std.proofs.Math.Seq.{take-add}
use Rattle.zero_count.specs.HeaderWord.{is_valid, header_of}
use Rattle.zero_count.proofs.ValidWords.{are_bytes, IsValidWord, valid_parts}

pub bytes_from_each : (xs : List ℕ) → ((k : ℕ) → slice_index xs k < 256) → are_bytes xs ≡ true
bytes_from_each [] f = refl
bytes_from_each (x ∷ xs) f = and_from _ _ (lt-ltb x 256 (f 0)) (bytes_from_each xs (λ k. f (suc k)))

pub valid_from_parts : (word : List ℕ) → IsValidWord word → is_valid word ≡ true
unfolding is_valid
valid_from_parts word e = and_from _ _ (and_from _ _ (and_from _ _ (and_from _ _ (eq-eqb _ _ e.long) e.bytes) (eq-eqb _ _ e.zeros)) (le-leb _ _ e.least_kind)) (le-leb _ _ e.greatest_kind)

-- a word with a part that fails spells no header
pub none_unless : (word : List ℕ) → (IsValidWord word → ⊥) → None ≡ header_of word
unfolding header_of
none_unless word f = sym (cond-false (is_valid word) _ None (false_from_ne_true (is_valid word) (λ e. f (valid_parts word e))))

pub take_4 : (xs : List ℕ) → 4 ≤ length xs → take 4 xs ≡ slice_index xs 0 ∷ slice_index xs 1 ∷ slice_index xs 2 ∷ slice_index xs 3 ∷ []
take_4 (a ∷ b ∷ c ∷ d ∷ xs) h = refl
take_4 [] h = absurd (omega arith)
take_4 (a ∷ []) h = absurd (omega arith)
take_4 (a ∷ b ∷ []) h = absurd (omega arith)
take_4 (a ∷ b ∷ c ∷ []) h = absurd (omega arith)

take_8 : (xs : List ℕ) → 8 ≤ length xs → take 8 xs ≡ take 4 xs ++ take 4 (drop 4 xs)
take_8 xs h = take-add 4 4 xs

pub take_8_4 : (xs : List ℕ) → 12 ≤ length xs
    → take 8 (drop 4 xs) ≡ slice_index xs 4 ∷ slice_index xs 5 ∷ slice_index xs 6 ∷ slice_index xs 7 ∷ slice_index xs 8 ∷ slice_index xs 9 ∷ slice_index xs 10 ∷ slice_index xs 11 ∷ []
take_8_4 xs h =
    take_8 (drop 4 xs) (omega (arith, length-drop 4 xs))
    ∙ (ap₂ (λ (a b : List ℕ). a ++ b) (take_4 (drop 4 xs) (omega (arith, length-drop 4 xs))) (ap (take 4) (drop-drop 4 4 xs) ∙ take_4 (drop 8 xs) (omega (arith, length-drop 8 xs)))
    ∙ simp get_or-drop)
