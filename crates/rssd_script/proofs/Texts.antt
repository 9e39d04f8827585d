-- Texts cut at a byte, words at the front, digits of bytes and of numbers.
use Rattle.std.proofs.Common.{◌≡◌, ℕ, ◌+◌, ◌-◌, ◌*◌, ◌/◌, ◌%◌, ◌^◌, ◌<◌, ◌≤◌, List, [], ◌∷◌, ◌++◌, length, get_or, take, true, refl, sym, ap, ◌∙◌, arith, rules, decimal, ◌⊎◌, ⊎_elim, suc, zero}
use Rattle.std.proofs.Common.{inl, inr}
use Rattle.std.proofs.lemmas.List.{length-take-le, get_or_past}
use Rattle.std.proofs.lemmas.Str.Parse.{IsNumeralModel, numerals_by_fold, digits_value_short, not_in_digits}
use Rattle.std.proofs.lemmas.Fmt.{digits_value-decimal, digits_decimal, decimal-digits_value, first_decimal, length-decimal-le, decimal_nonempty, decimal_digit}
use Rattle.std.proofs.lemmas.Bool.{and_parts, cases_lt}
use Rattle.std.proofs.lemmas.Nat.{be_bytes_8}
use Rattle.std.specs.Str.{all_ascii_digits}
use Rattle.std.specs.Char.{is_ascii_digit}
use Rattle.std.specs.Int.{w64, to_be_bytes, from_be_bytes}
use Rattle.std.proofs.lemmas.List.Elements.{All-from_recursion}
use Rattle.rssd_script.specs.Text.{hex_digit, hex_of, hex_or_dash, AreBytes}
use Rattle.rssd_script.specs.Reading.{Lacks}

-- what the digits write, after a number so far
abbrev pub read_on : ℕ → List ℕ → ℕ
read_on n [] = n
read_on n (c ∷ cs) = read_on (n * 10 + (c - 48)) cs

pub own : IsNumeralModel (λ ds. all_ascii_digits ds ≡ true) (read_on 0)
own = numerals_by_fold _ (search rules) read_on (search rules)

-- one more byte without the byte
pub Lacks-push : (byte : ℕ) (xs : List ℕ) (x : ℕ) → Lacks byte xs → (x ≡ byte → ⊥) → Lacks byte (xs ++ x ∷ [])
Lacks-push byte [] x l n = (n, tt)
Lacks-push byte (y ∷ ys) x l n = (l.0, Lacks-push byte ys x l.1 n)

pub Lacks-append : (byte : ℕ) (xs ys : List ℕ) → Lacks byte xs → Lacks byte ys → Lacks byte (xs ++ ys)
Lacks-append byte [] ys l m = m
Lacks-append byte (x ∷ xs) ys l m = (l.0, Lacks-append byte xs ys l.1 m)

-- no text is cut at its first place of a byte in two ways
pub one_cut : (byte : ℕ) (a b x y : List ℕ) → Lacks byte a → Lacks byte b → a ++ byte ∷ x ≡ b ++ byte ∷ y → (a ≡ b) × (x ≡ y)
one_cut byte [] [] x y l m e = (refl, cc)
one_cut byte [] (c ∷ b) x y l m e = let h : c ≡ byte = cc in absurd (m.0 h)
one_cut byte (c ∷ a) [] x y l m e = let h : c ≡ byte = cc in absurd (l.0 h)
one_cut byte (c ∷ a) (d ∷ b) x y l m e =
    let t : a ++ byte ∷ x ≡ b ++ byte ∷ y = cc in
    let h : c ≡ d = cc in
    let r = one_cut byte a b x y l.1 m.1 t in
    (λ i. h i ∷ r.0 i, r.1)

-- a text without a byte is not cut at it
pub no_cut : (byte : ℕ) (a x y : List ℕ) → Lacks byte a → a ≡ x ++ byte ∷ y → ⊥
no_cut byte [] [] y l e = cc
no_cut byte [] (c ∷ x) y l e = cc
no_cut byte (c ∷ a) [] y l e = let h : c ≡ byte = cc in l.0 h
no_cut byte (c ∷ a) (d ∷ x) y l e = let t : a ≡ x ++ byte ∷ y = cc in no_cut byte a x y l.1 t

pub digits-push : (xs : List ℕ) (c : ℕ) → all_ascii_digits xs ≡ true → 48 ≤ c → c ≤ 57 → all_ascii_digits (xs ++ c ∷ []) ≡ true
digits-push [] c p low high = grind arith
digits-push (x ∷ xs) c p low high =
    let parts : (is_ascii_digit x ≡ true) × (all_ascii_digits xs ≡ true) = and_parts _ _ p in
    rw parts.0 (digits-push xs c parts.1 low high)

pub read_on-push : (n : ℕ) (xs : List ℕ) (c : ℕ) → read_on n (xs ++ c ∷ []) ≡ read_on n xs * 10 + (c - 48)
read_on-push n [] c = refl
read_on-push n (x ∷ xs) c = read_on-push (n * 10 + (x - 48)) xs c

-- up to nine digits
pub read_short : (ds : List ℕ) (i : ℕ) → i < 10 → i < length ds → all_ascii_digits (take i ds) ≡ true → read_on 0 (take i ds) < 10 ^ 9
read_short ds i few lt p = digits_value_short own (take i ds) 9 p (omega (arith, length-take-le i ds (omega arith)))

module _ (text : List ℕ) (n : ℕ) (small : n < 2 ^ 32) (e : text ≡ decimal n) where
  decimal_digits : all_ascii_digits text ≡ true
  decimal_digits = rw e (digits_decimal own n (omega arith))

  pub decimal_short : (0 < length text) × (length text ≤ 10)
  decimal_short = rw e (decimal_nonempty n (omega arith), length-decimal-le 10 n (omega arith) (omega arith) (omega arith))

  -- each byte of a number is a digit
  pub decimal_at : (i : ℕ) → i < length text → (get_or text i 0 < 48) ⊎ (57 < get_or text i 0) → ⊥
  decimal_at i lt bad =
      not_in_digits own text (get_or text i 0) decimal_digits (λ r. ⊎_elim (λ h. omega (arith, r.0)) (λ h. omega (arith, r.1)) bad) i lt refl

  -- only 0 begins with the digit 0
  pub decimal_zero : get_or text 0 0 ≡ 48 → length text ≤ 1
  decimal_zero z = by n refl
    where
      by : (k : ℕ) → n ≡ k → length text ≤ 1
      by zero h = let t : text ≡ decimal 0 = e ∙ ap decimal h in rw (t, decimal_digit 0 (omega arith)) (omega arith)
      by (suc k) h = let f = first_decimal n (omega arith) (omega arith) in let g : 48 < get_or text 0 0 = rw e f in omega arith

  pub decimal_value : read_on 0 text ≡ n
  decimal_value = rw e (digits_value-decimal own n (omega arith))

-- digits without a needless 0 in front are a number's text
pub number_text : (text : List ℕ) → all_ascii_digits text ≡ true → 0 < length text → (get_or text 0 0 ≡ 48 → length text ≡ 1) → read_on 0 text < 2 ^ 32 → text ≡ decimal (read_on 0 text)
number_text text p some first small = sym (decimal-digits_value own text p some first (omega arith))

-- two digits for each byte
pub length-hex : (b : List ℕ) → length (hex_of b) ≡ 2 * length b
length-hex [] = refl
length-hex (x ∷ b) = let h = length-hex b in grind (arith, h)

pub hex_at : (b : List ℕ) (i : ℕ) → i < length b → (get_or (hex_of b) (2 * i) 0 ≡ hex_digit (get_or b i 0 / 16)) × (get_or (hex_of b) (2 * i + 1) 0 ≡ hex_digit (get_or b i 0 % 16))
hex_at [] i h = absurd (omega arith)
hex_at (x ∷ b) zero h = (refl, refl)
hex_at (x ∷ b) (suc i) h =
    let r = hex_at b i (omega arith) in
    let two : 2 * suc i ≡ suc (suc (2 * i)) = omega arith in
    let three : 2 * suc i + 1 ≡ suc (suc (2 * i + 1)) = omega arith in
    (rw two r.0, rw three r.1)

-- the digits of HEX that is no dash
pub hex_parts : (text bytes : List ℕ) → length bytes ≤ 512 → text ≡ hex_or_dash bytes → (text ≡ 45 ∷ [] → ⊥) → (0 < length text) × (length text ≤ 1024) × (length text % 2 ≡ 0) × (text ≡ hex_of bytes)
hex_parts text [] l e n = absurd (n e)
hex_parts text (x ∷ b) l e n =
    let h : length text ≡ 2 * length (x ∷ b) = ap length e ∙ length-hex (x ∷ b) in
    (omega arith, omega arith, omega arith, e)

-- the bytes of digits, of which there are some
pub hex_is : (bytes : List ℕ) → 0 < length bytes → hex_of bytes ≡ hex_or_dash bytes
hex_is [] h = absurd (omega arith)
hex_is (x ∷ b) h = refl

pub AreBytes-word : (m : ℕ) → AreBytes (to_be_bytes w64 m)
AreBytes-word m = All-from_recursion (λ byte. byte < 2 ^ 8) (to_be_bytes w64 m) (grind arith)

pub Lacks-digits : (byte : ℕ) (ds : List ℕ) → byte < 48 → all_ascii_digits ds ≡ true → Lacks byte ds
Lacks-digits byte [] low p = tt
Lacks-digits byte (x ∷ xs) low p =
    let parts : (is_ascii_digit x ≡ true) × (all_ascii_digits xs ≡ true) = and_parts _ _ p in
    (λ e. grind (arith, parts.0), Lacks-digits byte xs low parts.1)

pub Lacks-decimal : (byte n : ℕ) → byte < 48 → n < 2 ^ 32 → Lacks byte (decimal n)
Lacks-decimal byte n low small = Lacks-digits byte (decimal n) low (digits_decimal own n (omega arith))

pub mask_text : (text bytes : List ℕ) (m : ℕ) → length bytes ≡ 8 → AreBytes bytes → m ≡ from_be_bytes w64 bytes → text ≡ hex_of bytes → text ≡ hex_of (to_be_bytes w64 m)
mask_text text bytes m l fits e t = t ∙ ap hex_of (sym (be_bytes_8 bytes m l each e))
  where
    each : (i : ℕ) → get_or bytes i 0 < 256
    each i = elim (cases_lt i (length bytes)) [ inl h ↦ fits i 0 h | inr h ↦ rw (get_or_past bytes i 0 h) (omega arith) ]
