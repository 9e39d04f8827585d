-- What the operations on whole words make of one triple, against the rule: all 32 cases are computed.
use Rattle.std.proofs.Common.{◌≡◌, ℕ, zero, suc, ◌+◌, ◌-◌, ◌*◌, ◌/◌, ◌%◌, ◌^◌, ◌<◌, ◌≤◌, ◌==◌, Bool, true, false, not, ◌&&◌, ◌||◌, cond, List, [], ◌∷◌, length, get_or, bit_and, bit_or, bit_xor}
use Rattle.std.proofs.Common.{min, sym, ◌∙◌, ap, ap₂, subst, refl, inl, inr, arith}
use Rattle.std.specs.Int.{bit_at, w64, trailing_zeros}
use Rattle.std.proofs.lemmas.Bool.{and_parts, or_from, or_left, or_right, not-true, true≢false, cases_lt, cond-true, cond-false}
use Rattle.std.proofs.lemmas.Nat.{and_mask, mod_below, pow_pos, pow_below, row_fits}
use Rattle.std.proofs.lemmas.Nat.Bits.{bit_at_and, bit_at-lt, bit_at-zero, bit_at_ones, bit_at_ones_above, bit_at-trailing_zeros}
use Rattle.std.proofs.lemmas.List.{ext_get_or}
use Rattle.wom_code.specs.Cells.{cell_at, Carries, NoneCarries}
use Rattle.wom_code.proofs.GroupLemmas.{length-chunk_of, get_or-chunk_of, same_chunk_of}
use Rattle.wom_code.proofs.WordTests.{same, same_to, carries_test, carries_from, carries_to, all_rows, all_rows_at}
use Rattle.wom_code.specs.Groups.{chunk_of}
use Rattle.rivest_shamir.specs.Triples.{odd_of, differ_of, either_of, both_of, others_of, with_sum, least_of}
use Rattle.rivest_shamir.specs.Words.{message_of, is_least}
use Rattle.rivest_shamir.proofs.WordForms.{both, either, apart, given, bit, and, or, sum, lifted}

-- ---- chunks of a word

-- the first chunks are not changed by a mask of their bits
pub chunk_in_front : (n count word front j : ℕ) → front ≡ 2 ^ (count * n) - 1 → j < count → chunk_of n (bit_and word front) j ≡ chunk_of n word j
chunk_in_front n count word front j e h = same_chunk_of n (bit_and word front) word j j (λ c l.
    let within : j * n + c < count * n = omega (arith, row_fits j n count n h (omega arith)) in
    let one : bit_at front (j * n + c) ≡ 1 = ap (λ x. bit_at x (j * n + c)) e ∙ bit_at_ones (count * n) (j * n + c) within in
    let kept : min (bit_at word (j * n + c)) (bit_at front (j * n + c)) ≡ bit_at word (j * n + c) = omega (arith, bit_at-lt word (j * n + c)) in
    bit_at_and word front (j * n + c) ∙ kept)

pub narrow_in_front : (count word front : ℕ) → front ≡ 2 ^ count - 1 → bit_and word front < 2 ^ count
narrow_in_front count word front e = subst (λ x. x < 2 ^ count) (sym (ap (bit_and word) e ∙ and_mask word count)) (mod_below word (2 ^ count) (pow_pos count))

-- ---- operations on two words

two_words : ℕ → ℕ → ℕ → ℕ
two_words a b zero = a
two_words a b (suc v) = b

differ_word : (a b t : ℕ) → t < 16 → chunk_of 3 (bit_xor a b) t ≡ differ_of (chunk_of 3 a t) (chunk_of 3 b t)
unfolding chunk_of two_words
differ_word a b t h =
    lifted (two_words a b) (apart (given 0) (given 1)) 3 16
    (λ t. sum (bit 0 (t * 3 + 0)) (bit 1 (t * 3 + 0)) ∷ sum (bit 0 (t * 3 + 1)) (bit 1 (t * 3 + 1)) ∷ sum (bit 0 (t * 3 + 2)) (bit 1 (t * 3 + 2)) ∷ []) refl t h

either_word : (a b t : ℕ) → t < 16 → chunk_of 3 (bit_or a b) t ≡ either_of (chunk_of 3 a t) (chunk_of 3 b t)
unfolding chunk_of two_words
either_word a b t h =
    lifted (two_words a b) (either (given 0) (given 1)) 3 16
    (λ t. or (bit 0 (t * 3 + 0)) (bit 1 (t * 3 + 0)) ∷ or (bit 0 (t * 3 + 1)) (bit 1 (t * 3 + 1)) ∷ or (bit 0 (t * 3 + 2)) (bit 1 (t * 3 + 2)) ∷ []) refl t h

both_word : (a b t : ℕ) → t < 16 → chunk_of 3 (bit_and a b) t ≡ both_of (chunk_of 3 a t) (chunk_of 3 b t)
unfolding chunk_of two_words
both_word a b t h =
    lifted (two_words a b) (both (given 0) (given 1)) 3 16
    (λ t. and (bit 0 (t * 3 + 0)) (bit 1 (t * 3 + 0)) ∷ and (bit 0 (t * 3 + 1)) (bit 1 (t * 3 + 1)) ∷ and (bit 0 (t * 3 + 2)) (bit 1 (t * 3 + 2)) ∷ []) refl t h

-- ---- one triple

one_of : List Bool → List Bool → List Bool
one_of cells message = others_of (differ_of (differ_of (with_sum message) cells) (odd_of cells))

two_of : List Bool → List Bool → List Bool
two_of cells message = others_of (both_of (one_of cells message) cells)

new_of : List Bool → List Bool → List Bool
new_of cells message = either_of (either_of cells (one_of cells message)) (two_of cells message)

lost_of : List Bool → List Bool → List Bool
lost_of cells message = both_of (two_of cells message) cells

some_of : List Bool → Bool
some_of cells = cell_at cells 0 || (cell_at cells 1 || cell_at cells 2)

none_test : List Bool → List Bool → Bool
none_test cells message = all_rows 3 (λ new. not (carries_test message_of cells message new))

given_test : List Bool → List Bool → Bool
given_test cells message = carries_test message_of cells message (new_of cells message) && is_least cells message (new_of cells message)

triple_test : List Bool → List Bool → Bool
triple_test cells message = cond (some_of (lost_of cells message)) (none_test cells message) (given_test cells message)

all_triples : all_rows 3 (λ cells. all_rows 2 (λ message. triple_test cells message)) ≡ true
unfolding one_of two_of new_of lost_of some_of none_test is_least given_test triple_test
all_triples = refl

triple : (cells message : List Bool) → length cells ≡ 3 → length message ≡ 2 → triple_test cells message ≡ true
triple cells message c m = all_rows_at 2 (λ ms. triple_test cells ms) (all_rows_at 3 (λ cs. all_rows 2 (λ ms. triple_test cs ms)) all_triples cells c) message m

triple_declines : (cells message : List Bool) → length cells ≡ 3 → length message ≡ 2 → some_of (lost_of cells message) ≡ true → NoneCarries message_of 3 cells message
unfolding none_test triple_test
triple_declines cells message c m e new len carries =
    let t : none_test cells message ≡ true = sym (cond-true (some_of (lost_of cells message)) (none_test cells message) (given_test cells message) e) ∙ triple cells message c m in
    let f = not-true _ (all_rows_at 3 (λ n. not (carries_test message_of cells message n)) t new len) in
    true≢false (sym (carries_from message_of cells message new carries) ∙ f)

-- what a triple is given where it does not decline
pub record IsGiven (cells message new : List Bool) : Type 0 where
  pub carries : Carries message_of cells message new
  pub least : is_least cells message new ≡ true

triple_given : (cells message : List Bool) → length cells ≡ 3 → length message ≡ 2 → some_of (lost_of cells message) ≡ false → IsGiven cells message (new_of cells message)
unfolding given_test triple_test
triple_given cells message c m e =
    let t : given_test cells message ≡ true = sym (cond-false (some_of (lost_of cells message)) (none_test cells message) (given_test cells message) e) ∙ triple cells message c m in
    let parts = and_parts _ _ t in
    record { carries = carries_to message_of cells message (new_of cells message) parts.0; least = parts.1 }

-- ---- all triples of a word

-- the words that the code computes, by what each helper says of them
pub record IsSolved (cells messages spread odd one two : ℕ) : Type 0 where
  pub spread_is : (t : ℕ) → t < 16 → chunk_of 3 spread t ≡ with_sum (chunk_of 2 messages t)
  pub odd_is : (t : ℕ) → t < 16 → chunk_of 3 odd t ≡ odd_of (chunk_of 3 cells t)
  pub one_is : (t : ℕ) → t < 16 → chunk_of 3 one t ≡ others_of (chunk_of 3 (bit_xor (bit_xor spread cells) odd) t)
  pub two_is : (t : ℕ) → t < 16 → chunk_of 3 two t ≡ others_of (chunk_of 3 (bit_and one cells) t)

one_at : (cells messages spread odd one two t : ℕ) → IsSolved cells messages spread odd one two → t < 16 → chunk_of 3 one t ≡ one_of (chunk_of 3 cells t) (chunk_of 2 messages t)
unfolding one_of
one_at cells messages spread odd one two t s h =
    s.one_is t h ∙ ap others_of (differ_word (bit_xor spread cells) odd t h
    ∙ ap₂ (λ (p q : List Bool). differ_of p q) (differ_word spread cells t h ∙ ap (λ p. differ_of p (chunk_of 3 cells t)) (s.spread_is t h)) (s.odd_is t h))

two_at : (cells messages spread odd one two t : ℕ) → IsSolved cells messages spread odd one two → t < 16 → chunk_of 3 two t ≡ two_of (chunk_of 3 cells t) (chunk_of 2 messages t)
unfolding two_of
two_at cells messages spread odd one two t s h =
    s.two_is t h ∙ ap others_of (both_word one cells t h ∙ ap (λ p. both_of p (chunk_of 3 cells t)) (one_at cells messages spread odd one two t s h))

new_at : (cells messages spread odd one two t : ℕ) → IsSolved cells messages spread odd one two → t < 16 →
    chunk_of 3 (bit_or (bit_or cells one) two) t ≡ new_of (chunk_of 3 cells t) (chunk_of 2 messages t)
unfolding new_of
new_at cells messages spread odd one two t s h =
    either_word (bit_or cells one) two t h
    ∙ ap₂ (λ (p q : List Bool). either_of p q)
    (either_word cells one t h ∙ ap (either_of (chunk_of 3 cells t)) (one_at cells messages spread odd one two t s h))
    (two_at cells messages spread odd one two t s h)

lost_at : (cells messages spread odd one two t : ℕ) → IsSolved cells messages spread odd one two → t < 16 →
    chunk_of 3 (bit_and two cells) t ≡ lost_of (chunk_of 3 cells t) (chunk_of 2 messages t)
unfolding lost_of
lost_at cells messages spread odd one two t s h =
    both_word two cells t h ∙ ap (λ p. both_of p (chunk_of 3 cells t)) (two_at cells messages spread odd one two t s h)

no_cell : (t c : ℕ) → c < 3 → cell_at (chunk_of 3 0 t) c ≡ false
no_cell t c h = get_or-chunk_of 3 0 t c h ∙ ap (λ x. x == 1) (bit_at-zero (t * 3 + c))

none_lost : (t : ℕ) → some_of (chunk_of 3 0 t) ≡ false
unfolding some_of
none_lost t = or_from _ _ (no_cell t 0 (omega arith)) (or_from _ _ (no_cell t 1 (omega arith)) (no_cell t 2 (omega arith)))

some_at : (cells : List Bool) (c : ℕ) → c < 3 → cell_at cells c ≡ true → some_of cells ≡ true
unfolding some_of
some_at cells zero h e = or_left _ _ e
some_at cells (suc zero) h e = or_right _ _ (or_left _ _ e)
some_at cells (suc (suc zero)) h e = or_right _ _ (or_right _ _ e)
some_at cells (suc (suc (suc c))) h e = absurd (omega arith)

-- where no cell of the first triples is lost, each is given its new cells
pub all_given : (count cells messages spread odd one two front : ℕ) → IsSolved cells messages spread odd one two → count ≤ 16 → front ≡ 2 ^ (count * 3) - 1 →
    bit_and (bit_and two cells) front ≡ 0 → (t : ℕ) → t < count →
    IsGiven (chunk_of 3 cells t) (chunk_of 2 messages t) (chunk_of 3 (bit_and (bit_or (bit_or cells one) two) front) t)
all_given count cells messages spread odd one two front s few e none t h =
    let within : t < 16 = omega arith in
    let kept : some_of (lost_of (chunk_of 3 cells t) (chunk_of 2 messages t)) ≡ false =
    ap some_of (sym (lost_at cells messages spread odd one two t s within) ∙ sym (chunk_in_front 3 count (bit_and two cells) front t e h) ∙ ap (λ w. chunk_of 3 w t) none) ∙ none_lost t in
    subst (IsGiven (chunk_of 3 cells t) (chunk_of 2 messages t))
    (sym (chunk_in_front 3 count (bit_or (bit_or cells one) two) front t e h ∙ new_at cells messages spread odd one two t s within))
    (triple_given (chunk_of 3 cells t) (chunk_of 2 messages t) (length-chunk_of 3 cells t) (length-chunk_of 2 messages t) kept)

-- and where one is, its triple declines
pub one_declines : (count cells messages spread odd one two front : ℕ) → IsSolved cells messages spread odd one two → count ≤ 16 → front ≡ 2 ^ (count * 3) - 1 →
    (bit_and (bit_and two cells) front ≡ 0 → ⊥) → (t : ℕ) × (t < count) × NoneCarries message_of 3 (chunk_of 3 cells t) (chunk_of 2 messages t)
one_declines count cells messages spread odd one two front s few e some =
    let lost : ℕ = bit_and (bit_and two cells) front in
    let narrow : bit_and (bit_and two cells) front < 2 ^ (count * 3) = narrow_in_front (count * 3) (bit_and two cells) front e in
    let word : bit_and (bit_and two cells) front < 2 ^ 64 = omega (arith, pow_below (count * 3) 64 (omega arith)) in
    let first = bit_at-trailing_zeros w64 (bit_and (bit_and two cells) front) (omega arith) word in
    let i : ℕ = trailing_zeros w64 (bit_and (bit_and two cells) front) in
    found i first.1
  where
    found : (i : ℕ) → bit_at (bit_and (bit_and two cells) front) i ≡ 1 → (t : ℕ) × (t < count) × NoneCarries message_of 3 (chunk_of 3 cells t) (chunk_of 2 messages t)
    found i set =
        let parts : min (bit_at (bit_and two cells) i) (bit_at front i) ≡ 1 = sym (bit_at_and (bit_and two cells) front i) ∙ set in
        let is : bit_at (bit_and two cells) i ≡ 1 = omega (arith, bit_at-lt (bit_and two cells) i) in
        let masked : bit_at front i ≡ 1 = omega (arith, bit_at-lt front i) in
        let below : i < count * 3 = elim (cases_lt i (count * 3)) [
          | inl l ↦ l
          | inr m ↦ absurd (let none : bit_at front i ≡ 0 = ap (λ x. bit_at x i) e ∙ bit_at_ones_above (count * 3) i m in omega arith)
        ] in
        let here : i / 3 < count = omega arith in
        let place : i / 3 * 3 + i % 3 ≡ i = omega arith in
        let cell : cell_at (chunk_of 3 (bit_and two cells) (i / 3)) (i % 3) ≡ true =
        get_or-chunk_of 3 (bit_and two cells) (i / 3) (i % 3) (omega arith) ∙ ap (λ x. x == 1) (ap (bit_at (bit_and two cells)) place ∙ is) in
        let lost : some_of (lost_of (chunk_of 3 cells (i / 3)) (chunk_of 2 messages (i / 3))) ≡ true =
        ap some_of (sym (lost_at cells messages spread odd one two (i / 3) s (omega arith))) ∙ some_at (chunk_of 3 (bit_and two cells) (i / 3)) (i % 3) (omega arith) cell in
        (i / 3, here, triple_declines (chunk_of 3 cells (i / 3)) (chunk_of 2 messages (i / 3)) (length-chunk_of 3 cells (i / 3)) (length-chunk_of 2 messages (i / 3)) lost)

-- ---- blank cells

blank : List Bool
blank = false ∷ false ∷ false ∷ []

blank_test : List Bool → Bool
blank_test message = not (some_of (lost_of blank message)) && same (new_of blank message) (least_of message)

all_blank : all_rows 2 blank_test ≡ true
unfolding one_of two_of new_of lost_of some_of blank blank_test
all_blank = refl

blank_given : (message : List Bool) → length message ≡ 2 → IsGiven blank message (least_of message)
unfolding blank blank_test
blank_given message m =
    let parts = and_parts (not (some_of (lost_of blank message))) (same (new_of blank message) (least_of message)) (all_rows_at 2 blank_test all_blank message m) in
    subst (IsGiven blank message) (same_to (new_of blank message) (least_of message) parts.1) (triple_given blank message refl m (not-true (some_of (lost_of blank message)) parts.0))

no_cells : (t : ℕ) → chunk_of 3 0 t ≡ blank
unfolding blank
no_cells t = ext_get_or false (chunk_of 3 0 t) (false ∷ false ∷ false ∷ []) (length-chunk_of 3 0 t) (λ c l. let h : c < 3 = omega (arith, length-chunk_of 3 0 t) in no_cell t c h ∙ sym (none_at c h))
  where
    none_at : (c : ℕ) → c < 3 → get_or (false ∷ false ∷ false ∷ []) c false ≡ false
    none_at zero h = refl
    none_at (suc zero) h = refl
    none_at (suc (suc zero)) h = refl
    none_at (suc (suc (suc c))) h = absurd (omega arith)

pub all_blank_given : (count cells messages least front : ℕ) → cells ≡ 0 → ((t : ℕ) → t < 16 → chunk_of 3 least t ≡ least_of (chunk_of 2 messages t)) → count ≤ 16 → front ≡ 2 ^ (count * 3) - 1 →
    (t : ℕ) → t < count → IsGiven (chunk_of 3 cells t) (chunk_of 2 messages t) (chunk_of 3 (bit_and least front) t)
all_blank_given count cells messages least front none is few e t h =
    subst (λ cs. IsGiven cs (chunk_of 2 messages t) (chunk_of 3 (bit_and least front) t)) (sym (ap (λ w. chunk_of 3 w t) none ∙ no_cells t))
    (subst (IsGiven blank (chunk_of 2 messages t)) (sym (chunk_in_front 3 count least front t e h ∙ is t (omega arith)))
    (blank_given (chunk_of 2 messages t) (length-chunk_of 2 messages t)))
