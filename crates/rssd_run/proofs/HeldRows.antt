-- What a row's bytes without the zeros at the end tell of it, and how counts and sums go on by a row.
use Rattle.std.proofs.Common.{◌≡◌, inl, inr, ℕ, ◌+◌, ◌<◌, Bool, true, false, List, [], ◌∷◌, take, length, get_or, refl, sym, ap, ◌∙◌, arith, eq-eqb}
use Rattle.std.specs.Prelude.{sum, not, cond, ◌||◌, ◌==◌}
use Rattle.std.proofs.lemmas.Bool.{ne_eqb, cases_eq}
use Rattle.std.proofs.lemmas.List.Sums.{sum_by-cons, sum_by_more}
use Rattle.rssd_script.specs.declared.replies.Reply.{Reply}
use Rattle.rssd_script.specs.declared.replies.Reply.TheVariants.{Bytes, Range, Fault}
use Rattle.rssd_core.specs.SectorArray.{unless_zeros, without_zeros}
use Rattle.rssd_run.specs.ArrayWithCuts.{ArrayState, On, ReadRow}
use Rattle.rssd_run.specs.Workloads.{is_held, held_count, byte_sum}

-- what a read of a row is told, where it is no fault and in range
pub record IsTold (rows : List (List ℕ)) (row : List ℕ) (reply : Reply) (next : ArrayState) : Type 0 where
  pub bytes : List ℕ
  pub reply_is : reply ≡ Bytes bytes
  pub row_is : bytes ≡ without_zeros row
  pub same : next ≡ On rows

pub read_told : (rows : List (List ℕ)) (row : List ℕ) (reply : Reply) (next : ArrayState) → ReadRow rows row reply next → (reply ≡ Fault → ⊥) → (reply ≡ Range → ⊥) → IsTold rows row reply next
read_told rows row (Bytes bytes) next told good within = record { bytes = bytes; reply_is = refl; row_is = told.0; same = told.1 }
read_told rows row Fault next told good within = absurd (good refl)
read_told rows row Range next told good within = absurd (within refl)
read_told rows row reply next told good within = absurd told

-- ---- the sum of a row

sum-unless_zeros : (byte : ℕ) (others : List ℕ) → sum (unless_zeros byte others) ≡ byte + sum others
sum-unless_zeros byte [] = elim (cases_eq byte 0) [
  | inl is ↦ rw (eq-eqb byte 0 is) (omega (arith, is))
  | inr not ↦ rw (ne_eqb byte 0 not) (sum_by-cons (λ (x : ℕ). x) byte [])
]
sum-unless_zeros byte (other ∷ others) = sum_by-cons (λ (x : ℕ). x) byte (other ∷ others)

pub sum-without_zeros : (row : List ℕ) → sum (without_zeros row) ≡ sum row
sum-without_zeros [] = refl
sum-without_zeros (byte ∷ bytes) =
    sum-unless_zeros byte (without_zeros bytes)
    ∙ (ap (λ (n : ℕ). byte + n) (sum-without_zeros bytes) ∙ sym (sum_by-cons (λ (x : ℕ). x) byte bytes))

-- ---- whether a row is held

abbrev is_some_length : List ℕ → Bool
is_some_length bytes = not (length bytes == 0)

or_true : (a : Bool) → (a || true) ≡ true
or_true true = refl
or_true false = refl

or_false : (a : Bool) → (a || false) ≡ a
or_false true = refl
or_false false = refl

some_length : (byte : ℕ) (bytes : List ℕ) → is_some_length (byte ∷ bytes) ≡ true
some_length byte bytes = ap not (ne_eqb (length (byte ∷ bytes)) 0 (λ none. omega (arith, none)))

length-unless_zeros : (byte : ℕ) (others : List ℕ) → is_some_length (unless_zeros byte others) ≡ (not (byte == 0) || is_some_length others)
length-unless_zeros byte [] = elim (cases_eq byte 0) [
  | inl is ↦ rw (eq-eqb byte 0 is) refl
  | inr some ↦ rw (ne_eqb byte 0 some) (some_length byte [])
]
length-unless_zeros byte (other ∷ others) =
    some_length byte (other ∷ others) ∙ sym (ap (λ (b : Bool). not (byte == 0) || b) (some_length other others) ∙ or_true (not (byte == 0)))

pub length-without_zeros : (row : List ℕ) → not (length (without_zeros row) == 0) ≡ is_held row
length-without_zeros [] = refl
length-without_zeros (byte ∷ bytes) =
    length-unless_zeros byte (without_zeros bytes) ∙ ap (λ (b : Bool). not (byte == 0) || b) (length-without_zeros bytes)

-- ---- one row more

pub held_count-more : (rows : List (List ℕ)) (i : ℕ) → i < length rows → held_count (take (i + 1) rows) ≡ held_count (take i rows) + cond (is_held (get_or rows i [])) 1 0
held_count-more rows i within = sum_by_more (λ (row : List ℕ). cond (is_held row) 1 0) rows i [] within

pub byte_sum-more : (rows : List (List ℕ)) (i : ℕ) → i < length rows → byte_sum (take (i + 1) rows) ≡ byte_sum (take i rows) + sum (get_or rows i [])
byte_sum-more rows i within = sum_by_more sum rows i [] within
