-- The steps of a reader, with what its calls answer.
use Rattle.std.proofs.Common.{◌≡◌, ℕ, ◌+◌, ◌≤◌, ◌<◌, List, [], ◌∷◌, ◌++◌, length, Bool, true, false, true≢false, Result, Ok, Err, refl, sym, ap, ◌∙◌, arith, append_assoc, inl, inr}
use Rattle.std.proofs.lemmas.Bool.{cases_lt}
use Rattle.std.proofs.lemmas.List.{length-append}
use Rattle.std.specs.Bool.{MatchBool}
use Rattle.std.specs.Result.{is_ok, is_err, OnOk}
use Rattle.rssd_script.specs.declared.lines.Line.{Line}
use Rattle.rssd_script.specs.Reading.{Lacks, SpellsNone}
use Rattle.rssd_script.specs.Scripts.{Whole, Broken, Adds}
use Rattle.rssd_script.proofs.Cuts.{whole_more, whole_line, broken_line, broken_long}

module _ {A B : Type 0} where
  not_both : (r : Result A B) → is_ok r ≡ true → is_err r ≡ true → ⊥
  not_both (Ok x) o e = true≢false (sym e)
  not_both (Err x) o e = true≢false (sym o)

  -- what has no room is long
  pub over : (r : Result A B) (n : ℕ) → (n ≤ 1048 → is_ok r ≡ true) → is_err r ≡ true → 1048 < n
  over r n fits e = elim (cases_lt 1048 n) [ inl h ↦ h | inr h ↦ absurd (not_both r (fits h) e) ]

  pub at_ok : (r : Result A B) (P : Type 0) → is_ok r ≡ true → OnOk r P → P
  at_ok (Ok x) P o p = p
  at_ok (Err x) P o p = absurd (true≢false (sym o))

  pub err_not_ok : (r : Result A B) → is_ok r ≡ false → is_err r ≡ true
  err_not_ok (Ok x) o = absurd (true≢false o)
  err_not_ok (Err x) o = refl

pub cut_length : (left front back : List ℕ) → left ≡ front ++ 10 ∷ back → length left ≡ length front + length back + 1
cut_length left front back e = ap length e ∙ length-append front (10 ∷ back) ∙ omega arith

module _ (text so_far left piece : List ℕ) (old : List Line) (rest : List ℕ) (w : Whole so_far old rest) (s : so_far ++ left ≡ text ++ piece) where
  module _ (now : List Line) (front back : List ℕ) (e : left ≡ front ++ 10 ∷ back) where
    pub broken_at : Lacks 10 front → SpellsNone (rest ++ front) → now ≡ old → Broken (text ++ piece) (length now + 1)
    broken_at l none n more = rw (← s, e, n) (broken_line so_far old rest w front back l none more)

    pub same_text : (so_far ++ (front ++ 10 ∷ [])) ++ back ≡ text ++ piece
    same_text = append_assoc so_far (front ++ 10 ∷ []) back ∙ ap (λ t. so_far ++ t) (append_assoc front (10 ∷ []) back ∙ sym e) ∙ s

    pub whole_at : (begun : List ℕ) → Adds old now (rest ++ front) → begun ≡ [] → Whole (so_far ++ (front ++ 10 ∷ [])) now begun
    whole_at begun a n = rw n (whole_line so_far old rest w now front a)

  pub end_piece : (b : Bool) (begun : List ℕ) → Lacks 10 left → (b ≡ true → begun ≡ rest ++ left) → (b ≡ false → 1048 < length (rest ++ left))
      → MatchBool b (Whole (text ++ piece) old begun) (Broken (text ++ piece) (length old + 1))
  end_piece true begun l is long = rw (← s, is refl) (whole_more so_far old rest w left l)
  end_piece false begun l is long = λ more. rw (← s) (broken_long so_far old rest w left l (long refl) more)

-- what is added to an empty text is the text
pub put_first : (old new added : List ℕ) → old ≡ [] → new ≡ old ++ added → new ≡ added
put_first old new added e f = f ∙ ap (λ t. t ++ added) e
