-- One more line is drawn, and one more word: what is drawn so far and what is to come are the same in a row.
use Rattle.std.proofs.Common.{◌≡◌, ℕ, suc, ◌+◌, ◌-◌, ◌/◌, ◌%◌, ◌≤◌, ◌<◌, true, Result, Ok, Err, List, [], ◌∷◌, ◌++◌, refl, sym, ap, ◌∙◌, append_assoc, arith}
use Rattle.std.proofs.lemmas.List.{append-nil}
use Rattle.std.proofs.lemmas.Bool.{eq-eqb, ne_eqb}
use Rattle.std.specs.Result.{is_ok, OnOk}
use Rattle.std.specs.Int.{w64, to_le_bytes}
use Rattle.rand_xoshiro.specs.SplitMix64.{next_state}
use Rattle.rssd_script.specs.declared.lines.Line.{Line}
use Rattle.rssd_script.specs.declared.lines.Line.TheVariants.{Write, Trim, Idle}
use Rattle.rssd_work.specs.Workload.{word, after_words, word_bytes, next_line, words_drawn, workload_from}

module _ (n count : ℕ) where
  one_left : n < count → count - n ≡ suc (count - (n + 1))
  one_left lt = omega arith

  module _ (sectors sector_bytes words : ℕ) (lines : List Line) where
    pub one_more_line : n < count →
        (lines ++ next_line sectors sector_bytes words ∷ []) ++ workload_from (count - (n + 1)) sectors sector_bytes (after_words (words_drawn sector_bytes words) words)
        ≡ lines ++ workload_from (count - n) sectors sector_bytes words
    unfolding workload_from
    one_more_line lt =
        append_assoc lines (next_line sectors sector_bytes words ∷ []) (workload_from (count - (n + 1)) sectors sector_bytes (after_words (words_drawn sector_bytes words) words))
        ∙ ap (λ (left : ℕ). lines ++ workload_from left sectors sector_bytes words) (sym (one_left lt))

    pub all_lines : count ≤ n → lines ++ workload_from (count - n) sectors sector_bytes words ≡ lines
    unfolding workload_from
    all_lines le =
        let none : count - n ≡ 0 = omega arith in
        ap (λ (left : ℕ). lines ++ workload_from left sectors sector_bytes words) none ∙ append-nil lines

  module _ (words : ℕ) where
    pub one_more_word : (bytes : List ℕ) → n < count →
        (bytes ++ to_le_bytes w64 (word words)) ++ word_bytes (count - (n + 1)) (next_state words) ≡ bytes ++ word_bytes (count - n) words
    unfolding word_bytes
    one_more_word bytes lt =
        append_assoc bytes (to_le_bytes w64 (word words)) (word_bytes (count - (n + 1)) (next_state words))
        ∙ ap (λ (left : ℕ). bytes ++ word_bytes left words) (sym (one_left lt))

    pub one_word_on : n < count → after_words (count - (n + 1)) (next_state words) ≡ after_words (count - n) words
    unfolding after_words
    one_word_on lt = ap (λ (left : ℕ). after_words left words) (sym (one_left lt))

    pub all_words : (bytes : List ℕ) → count ≤ n → bytes ++ word_bytes (count - n) words ≡ bytes
    unfolding word_bytes
    all_words bytes le =
        let none : count - n ≡ 0 = omega arith in
        ap (λ (left : ℕ). bytes ++ word_bytes left words) none ∙ append-nil bytes

    pub no_word_on : count ≤ n → after_words (count - n) words ≡ words
    unfolding after_words
    no_word_on le =
        let none : count - n ≡ 0 = omega arith in
        ap (λ (left : ℕ). after_words left words) none

module _ {A B : Type 0} where
  pub at_ok : (r : Result A B) (P : Type 0) → is_ok r ≡ true → OnOk r P → P
  at_ok (Ok x) P o p = p
  at_ok (Err x) P o p = absurd cc

-- the three kinds of lines, and the words that they draw
module _ (sectors sector_bytes words : ℕ) where
  pub trim_line : word words % 16 ≡ 0 → next_line sectors sector_bytes words ≡ Trim (word (next_state words) % sectors)
  unfolding next_line
  trim_line h = rw (eq-eqb (word words % 16) 0 h) refl

  pub trim_on : word words % 16 ≡ 0 → after_words (words_drawn sector_bytes words) words ≡ next_state (next_state words)
  unfolding words_drawn after_words
  trim_on h = rw (eq-eqb (word words % 16) 0 h) refl

  pub idle_line : word words % 16 ≡ 1 → next_line sectors sector_bytes words ≡ Idle 4
  unfolding next_line
  idle_line h = rw (ne_eqb (word words % 16) 0 (λ z. omega (arith, h, z)), eq-eqb (word words % 16) 1 h) refl

  pub idle_on : word words % 16 ≡ 1 → after_words (words_drawn sector_bytes words) words ≡ next_state words
  unfolding words_drawn after_words
  idle_on h = rw (ne_eqb (word words % 16) 0 (λ z. omega (arith, h, z)), eq-eqb (word words % 16) 1 h) refl

  pub write_line : (word words % 16 ≡ 0 → ⊥) → (word words % 16 ≡ 1 → ⊥) →
      next_line sectors sector_bytes words ≡ Write (word (next_state words) % sectors) (word_bytes (sector_bytes / 8) (next_state (next_state words)))
  unfolding next_line after_words
  write_line h i = rw (ne_eqb (word words % 16) 0 h, ne_eqb (word words % 16) 1 i) refl

  two_on : (n : ℕ) → after_words (2 + n) words ≡ after_words n (next_state (next_state words))
  unfolding after_words
  two_on n = let two : 2 + n ≡ suc (suc n) = omega arith in rw two refl

  pub write_on : (word words % 16 ≡ 0 → ⊥) → (word words % 16 ≡ 1 → ⊥) →
      after_words (words_drawn sector_bytes words) words ≡ after_words (sector_bytes / 8) (next_state (next_state words))
  unfolding words_drawn
  write_on h i = rw (ne_eqb (word words % 16) 0 h, ne_eqb (word words % 16) 1 i) (two_on (sector_bytes / 8))
