-- The digits of bytes are in lower case, and each even number of such digits is those of some bytes.
use Rattle.std.proofs.Common.{◌≡◌, ℕ, ◌+◌, ◌*◌, ◌/◌, ◌%◌, ◌^◌, ◌<◌, List, [], ◌∷◌, length, slice_index, true, suc, refl, sym, ap, ◌∙◌, arith}
use Rattle.std.specs.List.{list_all}
use Rattle.std.proofs.lemmas.Bool.{agree_below_at}
use Rattle.std.proofs.lemmas.List.Elements.{All-tail, All-get_or}
use Rattle.std.proofs.lemmas.List.Sums.{AllPass-from_list_all}
use Rattle.rssd_script.specs.Text.{hex_digit, hex_of, is_lower_digit, AreBytes}

digit_is_lower : (d : ℕ) → d < 16 → is_lower_digit (hex_digit d) ≡ true
digit_is_lower d h = agree_below_at (λ k. is_lower_digit (hex_digit k)) (λ _. true) 16 d refl h

pub hex_is_lower : (b : List ℕ) → AreBytes b → list_all is_lower_digit (hex_of b) ≡ true
hex_is_lower [] h = refl
hex_is_lower (x ∷ b) h =
    let fits : x < 2 ^ 8 = h 0 0 (omega arith) in
    rw (digit_is_lower (x / 16) (omega arith), digit_is_lower (x % 16) (omega arith))
    (hex_is_lower b (All-tail (λ byte. byte < 2 ^ 8) x b h))

-- digits that are those of each byte
pub digits_are : (s b : List ℕ) → length s ≡ 2 * length b →
    ((k : ℕ) → k < length b → slice_index s (2 * k) ≡ hex_digit (slice_index b k / 16)) →
    ((k : ℕ) → k < length b → slice_index s (2 * k + 1) ≡ hex_digit (slice_index b k % 16)) → s ≡ hex_of b
digits_are [] [] e high low = refl
digits_are (a ∷ s) [] e high low = absurd (omega arith)
digits_are [] (x ∷ b) e high low = absurd (omega arith)
digits_are (a ∷ []) (x ∷ b) e high low = absurd (omega arith)
digits_are (a ∷ c ∷ s) (x ∷ b) e high low =
    let first : a ≡ hex_digit (x / 16) = high 0 (omega arith) in
    let second : c ≡ hex_digit (x % 16) = low 0 (omega arith) in
    let rest : s ≡ hex_of b = digits_are s b (omega arith)
    (λ k l. let at : 2 * (suc k) ≡ suc (suc (2 * k)) = omega arith in sym (ap (slice_index (a ∷ c ∷ s)) at) ∙ high (suc k) (omega arith))
    (λ k l. let at : 2 * (suc k) + 1 ≡ suc (suc (2 * k + 1)) = omega arith in sym (ap (slice_index (a ∷ c ∷ s)) at) ∙ low (suc k) (omega arith)) in
    λ i. first i ∷ second i ∷ rest i

-- a digit among digits
pub digit_among : (s : List ℕ) → list_all is_lower_digit s ≡ true → (k : ℕ) → k < length s → is_lower_digit (slice_index s k) ≡ true
digit_among s h k l = All-get_or (λ c. is_lower_digit c ≡ true) s k 0 l (AllPass-from_list_all is_lower_digit s h)
