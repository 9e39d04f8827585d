-- Bytes without the zeros at their end.
use Rattle.std.proofs.Common.{◌≡◌, ◌≢◌, ℕ, ◌+◌, ◌-◌, ◌<◌, ◌≤◌, zero, suc, List, [], ◌∷◌, ◌++◌, length, take, false, refl, ◌∙◌, sym, ap, arith, get_or, inl, inr, eq-eqb}
use Rattle.std.proofs.lemmas.List.{take_more}
use Rattle.std.proofs.lemmas.Bool.{ne_eqb, cases_eq, and_parts}
use Rattle.std.proofs.Math.Seq.{take-add}
use Rattle.std.specs.Prelude.{if◌then◌else◌, ◌&&◌, ◌==◌, Bool, true, drop}
use Rattle.cell_bits.specs.Cells.{is_blank}
use Rattle.image_audit.specs.Held.{is_empty, unless_zeros, without_zeros, IsTrimmed}

-- a zero at the end changes nothing
zero_at_end : (bytes : List ℕ) → without_zeros (bytes ++ 0 ∷ []) ≡ without_zeros bytes
zero_at_end [] = refl
zero_at_end (byte ∷ bytes) = ap (unless_zeros byte) (zero_at_end bytes)

-- the zeros from here on go
pub zeros_step : (bytes : List ℕ) (count : ℕ) → 0 < count → count - 1 < length bytes → get_or bytes (count - 1) 0 ≡ 0 → without_zeros (take count bytes) ≡ without_zeros (take (count - 1) bytes)
zeros_step bytes count some within is_zero =
    let one : count ≡ count - 1 + 1 = omega arith in
    ap (λ n. without_zeros (take n bytes)) one
    ∙ (ap without_zeros (take_more bytes (count - 1) 0 within ∙ ap (λ byte. take (count - 1) bytes ++ byte ∷ []) is_zero)
    ∙ zero_at_end (take (count - 1) bytes))

-- of zeros alone nothing stays
zeros_alone : (zeros : List ℕ) → is_blank zeros ≡ true → without_zeros zeros ≡ []
zeros_alone [] blank = refl
zeros_alone (byte ∷ bytes) blank =
    let parts = and_parts (byte == 0) (is_blank bytes) blank in
    ap (unless_zeros byte) (zeros_alone bytes parts.1)
    ∙ ap (λ (test : Bool). if test then [] else byte ∷ []) parts.0

-- zeros at the end change nothing
zeros_at_end : (bytes zeros : List ℕ) → is_blank zeros ≡ true → without_zeros (bytes ++ zeros) ≡ without_zeros bytes
zeros_at_end [] zeros blank = zeros_alone zeros blank
zeros_at_end (byte ∷ bytes) zeros blank = ap (unless_zeros byte) (zeros_at_end bytes zeros blank)

-- a step of zeros from here on goes
pub zeros_go : (bytes : List ℕ) (count step : ℕ) → step ≤ count → is_blank (take (count - (count - step)) (drop (count - step) bytes)) ≡ true
    → without_zeros (take count bytes) ≡ without_zeros (take (count - step) bytes)
zeros_go bytes count step within blank =
    let parts : count ≡ count - step + (count - (count - step)) = omega arith in
    ap (λ n. without_zeros (take n bytes)) parts
    ∙ (ap without_zeros (take-add (count - step) (count - (count - step)) bytes)
    ∙ zeros_at_end (take (count - step) bytes) (take (count - (count - step)) (drop (count - step) bytes)) blank)

-- bytes that end with one that is not zero stay
not_empty : (bytes : List ℕ) (last : ℕ) → is_empty (bytes ++ last ∷ []) ≡ false
not_empty [] last = refl
not_empty (byte ∷ bytes) last = refl

nonzero_at_end : (bytes : List ℕ) (last : ℕ) → last ≢ 0 → without_zeros (bytes ++ last ∷ []) ≡ bytes ++ last ∷ []
nonzero_at_end [] last some = keeps last some
  where
    keeps : (n : ℕ) → n ≢ 0 → unless_zeros n [] ≡ n ∷ []
    keeps n some = ap (λ test. if test then [] else n ∷ []) (ne_eqb n 0 some)
nonzero_at_end (byte ∷ bytes) last some =
    ap (unless_zeros byte) (nonzero_at_end bytes last some)
    ∙ ap (λ empty. if empty && (byte == 0) then [] else byte ∷ (bytes ++ last ∷ [])) (not_empty bytes last)

-- where the loop ends, the bytes so far are the answer
pub zeros_end : (bytes : List ℕ) (count : ℕ) → count ≤ length bytes → (0 < count → get_or bytes (count - 1) 0 ≢ 0) → take count bytes ≡ without_zeros (take count bytes)
zeros_end bytes zero within some = refl
zeros_end bytes (suc n) within some =
    let last : take (n + 1) bytes ≡ take n bytes ++ get_or bytes n 0 ∷ [] = take_more bytes n 0 (omega arith) in
    let one : suc n ≡ n + 1 = omega arith in
    let at : suc n - 1 ≡ n = omega arith in
    let nonzero : get_or bytes n 0 ≢ 0 = rw at at (some (omega arith)) in
    rw (one, last) (sym (nonzero_at_end (take n bytes) (get_or bytes n 0) nonzero))

-- ---- no zero is left at the end
last_zero : (byte : ℕ) → IsTrimmed (unless_zeros byte [])
last_zero byte = elim (cases_eq byte 0) [
  | inl is ↦ rw (eq-eqb byte 0 is) (λ some zero. absurd (omega arith))
  | inr not ↦ rw (ne_eqb byte 0 not) (λ some zero. not zero)
]

trimmed_more : (byte : ℕ) (others : List ℕ) → IsTrimmed others → IsTrimmed (unless_zeros byte others)
trimmed_more byte [] trimmed = last_zero byte
trimmed_more byte (other ∷ others) trimmed = λ some zero.
    let at : length (byte ∷ other ∷ others) - 1 ≡ suc (length (other ∷ others) - 1) = omega arith in
    trimmed (omega arith) (rw at at zero)

pub trimmed : (bytes : List ℕ) → IsTrimmed (without_zeros bytes)
trimmed [] = λ some zero. absurd (omega arith)
trimmed (byte ∷ bytes) = trimmed_more byte (without_zeros bytes) (trimmed bytes)
