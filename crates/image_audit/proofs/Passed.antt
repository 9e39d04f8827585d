-- One mark more: of those met from the last to the first, and of those passed from the first on.
use Rattle.std.proofs.Common.{◌≡◌, ℕ, ◌+◌, ◌^◌, ◌<◌, ◌≤◌, Bool, true, false, cond, List, [], ◌∷◌, drop, length, get_or, if◌then◌else◌, Option, Some, None, refl, ap, ◌∙◌, arith}
use Rattle.std.specs.Prelude.{nat_eq}
use Rattle.std.specs.Option.{option_map}
use Rattle.std.proofs.lemmas.Bool.{le-leb, leb-true, false_from_ne_true}
use Rattle.std.proofs.lemmas.List.{drop_more}
use Rattle.page_codec.specs.declared.place.Place.{Place}
use Rattle.image_audit.specs.declared.mark.Mark.{Mark}
use Rattle.image_audit.specs.Marks.{with_seq, repeat_or, first_repeat, first_high}

abbrev pub place_with : ℕ → List Mark → Option Place
place_with seq marks = option_map (λ mark. mark.place) (with_seq seq marks)

-- the place of the first later one of each seq
pub later_more : (mark : Mark) (rest : List Mark) (old new : ℕ → Option Place) → ((seq : ℕ) → new seq ≡ cond (nat_eq mark.header.seq seq) (Some mark.place) (old seq))
    → ((seq : ℕ) → old seq ≡ place_with seq rest) → (seq : ℕ) → new seq ≡ place_with seq (mark ∷ rest)
later_more mark rest old new updates was seq = updates seq ∙ at (nat_eq mark.header.seq seq)
  where
    at : (t : Bool) → cond t (Some mark.place) (old seq) ≡ option_map (λ (m : Mark). m.place) (if t then Some mark else with_seq seq rest)
    at true = refl
    at false = was seq

-- the first repeat, by the place of the first later one of the mark's seq
abbrev pub repeat_by : Place → Option Place → Option (Place × Place) → Option (Place × Place)
repeat_by place None later = later
repeat_by place (Some other) later = Some (place, other)

pub repeat_more : (mark : Mark) (rest : List Mark) (o : Option Place) → o ≡ place_with mark.header.seq rest → repeat_by mark.place o (first_repeat rest) ≡ first_repeat (mark ∷ rest)
unfolding first_repeat
repeat_more mark rest o e = ap (λ (p : Option Place). repeat_by mark.place p (first_repeat rest)) e ∙ at (with_seq mark.header.seq rest)
  where
    at : (m : Option Mark) → repeat_by mark.place (option_map (λ (x : Mark). x.place) m) (first_repeat rest) ≡ repeat_or mark m (first_repeat rest)
    at None = refl
    at (Some other) = refl

pub none_left : first_repeat [] ≡ None
unfolding first_repeat
none_left = refl

-- ---- seqs that are not bounded

pub high_here : (marks : List Mark) (i : ℕ) (d : Mark) → i < length marks → 2 ^ 62 + 2 ^ 20 ≤ (get_or marks i d).header.seq → first_high (drop i marks) ≡ Some (get_or marks i d)
unfolding first_high
high_here marks i d within high =
    ap first_high (drop_more marks i d within) ∙ ap (λ (t : Bool). if t then Some (get_or marks i d) else first_high (drop (i + 1) marks)) (le-leb _ _ high)

pub low_here : (marks : List Mark) (i : ℕ) (d : Mark) → i < length marks → (get_or marks i d).header.seq < 2 ^ 62 + 2 ^ 20 → first_high (drop i marks) ≡ first_high (drop (i + 1) marks)
unfolding first_high
low_here marks i d within low =
    ap first_high (drop_more marks i d within) ∙ ap (λ (t : Bool). if t then Some (get_or marks i d) else first_high (drop (i + 1) marks))
    (false_from_ne_true _ (λ e. let high : 2 ^ 62 + 2 ^ 20 ≤ (get_or marks i d).header.seq = leb-true _ _ e in omega arith))

pub none_high_left : first_high [] ≡ None
unfolding first_high
none_high_left = refl
