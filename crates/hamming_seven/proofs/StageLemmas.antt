-- Three writes: from each stage every message is carried, and the cells given are at the next stage.
use Rattle.std.proofs.Common.{◌≡◌, ℕ, ◌<◌, ◌+◌, ◌*◌, ◌⊎◌, Bool, true, false, not, ◌&&◌, ◌||◌, List, [], ◌∷◌, length, eqb, leb, ltb, eq-eqb, inl, inr, sym, ◌∙◌, ap, subst, refl, arith}
use Rattle.std.proofs.lemmas.Bool.{agree_below, agree_below_at, and_parts, or_cases, not-true, true≢false, leb-true, ltb-true, eqb-true, or_left, or_right, and_from, le-leb}
use Rattle.wom_code.specs.Cells.{Carries, NoneCarries, charge_of}
use Rattle.wom_code.specs.Packed.{cells_of}
use Rattle.wom_code.proofs.PackedLemmas.{length-cells_of}
use Rattle.wom_code.proofs.WordTests.{same, same_self, same_to, carries_test, carries_from, all_rows, all_rows_at}
use Rattle.hamming_seven.specs.Stages.{blank, IsStageOne, IsStageTwo}
use Rattle.hamming_seven.specs.Words.{message_of, sum_from, added_from, comes_before, is_first}
use Rattle.hamming_seven.proofs.FirstTest.{first_to}
use Rattle.hamming_seven.proofs.TableLemmas.{word7, message3, next_at, entry_at}

-- the message is carried over the old cells, by cells at this stage
pub record Leaves (old message : List Bool) (stage : List Bool → Type 0) : Type 0 where
  pub carried : NoneCarries message_of 7 old message → ⊥
  pub leaves : (new : List Bool) → length new ≡ 7 → Carries message_of old message new → is_first old message new ≡ true → stage new

-- ---- words by their numbers

number : List Bool → ℕ
number [] = 0
number (true ∷ cells) = 2 * number cells + 1
number (false ∷ cells) = 2 * number cells

all_numbers : all_rows 7 (λ cells. ltb (number cells) 128 && same (word7 (number cells)) cells) ≡ true
unfolding number word7 cells_of
all_numbers = refl

word_number : (cells : List Bool) → length cells ≡ 7 → (number cells < 128) × (word7 (number cells) ≡ cells)
word_number cells e =
    let t = and_parts _ _ (all_rows_at 7 (λ c. ltb (number c) 128 && same (word7 (number c)) c) all_numbers cells e) in
    (ltb-true _ _ t.0, same_to _ _ t.1)

message_number : (message : List Bool) → length message ≡ 3 → (number message < 8) × (message3 (number message) ≡ message)
unfolding number message3 cells_of
message_number [] e = absurd (omega arith)
message_number (a ∷ []) e = absurd (omega arith)
message_number (a ∷ b ∷ []) e = absurd (omega arith)
message_number (true ∷ true ∷ true ∷ []) e = (omega arith, refl)
message_number (true ∷ true ∷ false ∷ []) e = (omega arith, refl)
message_number (true ∷ false ∷ true ∷ []) e = (omega arith, refl)
message_number (true ∷ false ∷ false ∷ []) e = (omega arith, refl)
message_number (false ∷ true ∷ true ∷ []) e = (omega arith, refl)
message_number (false ∷ true ∷ false ∷ []) e = (omega arith, refl)
message_number (false ∷ false ∷ true ∷ []) e = (omega arith, refl)
message_number (false ∷ false ∷ false ∷ []) e = (omega arith, refl)
message_number (a ∷ b ∷ c ∷ d ∷ ds) e = absurd (omega arith)

abbrev one_test : List Bool → Bool
one_test cells = leb (charge_of cells) 1

abbrev two_test : List Bool → Bool
two_test cells = leb (charge_of cells) 2 || (eqb (charge_of cells) 3 && eqb (sum_from 1 cells) 0)

two_from : (cells : List Bool) → two_test cells ≡ true → IsStageTwo cells
two_from cells t = elim (or_cases _ _ t) [
  | inl a ↦ inl (leb-true _ _ a)
  | inr b ↦ let p = and_parts _ _ b in inr (eqb-true _ _ p.0, eqb-true _ _ p.1)
]

two_to : (cells : List Bool) → IsStageTwo cells → two_test cells ≡ true
two_to cells (inl h) = or_left _ _ (le-leb _ _ h)
two_to cells (inr h) = or_right _ _ (and_from _ _ (eq-eqb _ _ h.0) (eq-eqb _ _ h.1))

-- whether no other word comes before the new one, as far as the table's word tells
first_test : ℕ → ℕ → List Bool → Bool
first_test w m new = same (word7 (next_at w m)) new || comes_before (added_from 0 (word7 w) new) (added_from 0 (word7 w) (word7 (next_at w m)))

-- cells that carry the message and come first pass the test
left_test : (List Bool → Bool) → ℕ → ℕ → Bool
left_test stage w m =
    all_rows 7 (λ new. not (carries_test message_of (word7 w) (message3 m) new) || (not (first_test w m new) || stage new))

leaves_test : (List Bool → Bool) → ℕ → ℕ → Bool
leaves_test stage w m = ltb (next_at w m) 128 && left_test stage w m

first_writes : agree_below (λ m. leaves_test one_test 0 m) (λ _. true) 8 ≡ true
unfolding word7 message3 cells_of next_at first_test left_test leaves_test
first_writes = refl

second_writes : agree_below (λ m. agree_below (λ w. not (one_test (word7 w)) || leaves_test two_test w m) (λ _. true) 128) (λ _. true) 8 ≡ true
unfolding word7 message3 cells_of next_at first_test left_test leaves_test
second_writes = refl

third_writes : agree_below (λ m. agree_below (λ w. not (two_test (word7 w)) || ltb (next_at w m) 128) (λ _. true) 128) (λ _. true) 8 ≡ true
unfolding word7 cells_of next_at
third_writes = refl

carried_at : (w m : ℕ) → w < 128 → m < 8 → next_at w m < 128 → NoneCarries message_of 7 (word7 w) (message3 m) → ⊥
unfolding word7 message3 next_at
carried_at w m h i l none = none _ (length-cells_of 7 (next_at w m ∷ [])) (entry_at w m h i (λ e. omega arith)).carries

first_passes : (w m : ℕ) (new : List Bool) → (word7 (next_at w m) ≡ new) ⊎ (comes_before (added_from 0 (word7 w) new) (added_from 0 (word7 w) (word7 (next_at w m))) ≡ true) → first_test w m new ≡ true
unfolding first_test
first_passes w m new (inl e) = or_left _ _ (subst (λ n. same (word7 (next_at w m)) n ≡ true) e (same_self (word7 (next_at w m))))
first_passes w m new (inr b) = or_right _ _ b

leaves_at : (stage : List Bool → Bool) (P : List Bool → Type 0) → ((cells : List Bool) → stage cells ≡ true → P cells) →
    (w m : ℕ) → w < 128 → m < 8 → leaves_test stage w m ≡ true → Leaves (word7 w) (message3 m) P
unfolding word7 message3 next_at left_test leaves_test
leaves_at stage P to w m h i t =
    let parts : (ltb (next_at w m) 128 ≡ true) × (left_test stage w m ≡ true) = and_parts _ _ t in
    let l : next_at w m < 128 = ltb-true _ _ parts.0 in
    let entry = entry_at w m h i (λ e. omega arith) in
    record {
      carried = λ none. none _ (length-cells_of 7 (next_at w m ∷ [])) entry.carries;
      leaves = λ new len c f.
          let u = all_rows_at 7 (λ n. not (carries_test message_of (word7 w) (message3 m) n) || (not (first_test w m n) || stage n)) parts.1 new len in
          elim (or_cases _ _ u) [
            | inl a ↦ absurd (true≢false (sym (carries_from message_of _ _ new c) ∙ not-true _ a))
            | inr b ↦ elim (or_cases _ _ b) [
              | inl d ↦ absurd (true≢false (sym (first_passes w m new (first_to (word7 w) (message3 m) new f _ (length-cells_of 7 (next_at w m ∷ [])) entry.carries)) ∙ not-true _ d))
              | inr s ↦ to new s
            ]
          ];
    }

blank_word : word7 0 ≡ blank
unfolding word7 cells_of
blank_word = refl

pub first_write : (message : List Bool) → length message ≡ 3 → Leaves blank message IsStageOne
first_write message len =
    let m = message_number message len in
    subst (λ x. Leaves blank x IsStageOne) m.1 (subst (λ o. Leaves o (message3 (number message)) IsStageOne) blank_word
    (leaves_at one_test IsStageOne (λ c t. leb-true _ _ t) 0 (number message) (omega arith) m.0 (agree_below_at (λ k. leaves_test one_test 0 k) (λ _. true) 8 (number message) first_writes m.0)))

pub second_write : (old message : List Bool) → length old ≡ 7 → length message ≡ 3 → IsStageOne old → Leaves old message IsStageTwo
second_write old message old_len len stage =
    let w = word_number old old_len in
    let m = message_number message len in
    let at : (not (one_test (word7 (number old))) || leaves_test two_test (number old) (number message)) ≡ true =
    agree_below_at (λ v. not (one_test (word7 v)) || leaves_test two_test v (number message)) (λ _. true) 128 (number old)
    (agree_below_at (λ k. agree_below (λ v. not (one_test (word7 v)) || leaves_test two_test v k) (λ _. true) 128) (λ _. true) 8 (number message) second_writes m.0) w.0 in
    let one : one_test (word7 (number old)) ≡ true = ap one_test w.1 ∙ le-leb _ _ stage in
    subst (λ x. Leaves old x IsStageTwo) m.1 (subst (λ o. Leaves o (message3 (number message)) IsStageTwo) w.1
    (leaves_at two_test IsStageTwo two_from (number old) (number message) w.0 m.0
    (elim (or_cases _ _ at) [ inl a ↦ absurd (true≢false (sym one ∙ not-true _ a)) | inr b ↦ b ])))

pub third_write : (old message : List Bool) → length old ≡ 7 → length message ≡ 3 → IsStageTwo old → NoneCarries message_of 7 old message → ⊥
third_write old message old_len len stage none =
    let w = word_number old old_len in
    let m = message_number message len in
    let at : (not (two_test (word7 (number old))) || ltb (next_at (number old) (number message)) 128) ≡ true =
    agree_below_at (λ v. not (two_test (word7 v)) || ltb (next_at v (number message)) 128) (λ _. true) 128 (number old)
    (agree_below_at (λ k. agree_below (λ v. not (two_test (word7 v)) || ltb (next_at v k) 128) (λ _. true) 128) (λ _. true) 8 (number message) third_writes m.0) w.0 in
    let two : two_test (word7 (number old)) ≡ true = ap two_test w.1 ∙ two_to old stage in
    let small : next_at (number old) (number message) < 128 = elim (or_cases _ _ at) [ inl a ↦ absurd (true≢false (sym two ∙ not-true _ a)) | inr b ↦ ltb-true _ _ b ] in
    carried_at (number old) (number message) w.0 m.0 small
    (subst (λ x. NoneCarries message_of 7 (word7 (number old)) x) (sym m.1) (subst (λ o. NoneCarries message_of 7 o message) (sym w.1) none))
