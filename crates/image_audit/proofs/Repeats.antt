-- The first mark that passes a test, and the first whose seq stands in a later one.
use Rattle.std.proofs.Common.{◌≡◌, inl, inr, ℕ, ◌≤◌, if◌then◌else◌, Bool, true, false, List, [], ◌∷◌, ◌++◌, map, ◌==◌, nat_le, Option, Some, None, refl, sym, ap, ◌∙◌, subst, ◌^◌, ◌+◌}
use Rattle.std.specs.Prelude.{find}
use Rattle.std.specs.List.{All}
use Rattle.std.proofs.lemmas.Bool.{eqb-true, leb-true, le-leb, eq-eqb, false≢true}
use Rattle.std.proofs.lemmas.Option.{same_Some, none-some}
use Rattle.std.proofs.lemmas.List.Elements.{All-nil, All-cons, All-head, All-tail}
use Rattle.page_codec.specs.declared.place.Place.{Place}
use Rattle.page_codec.specs.Records.{Placed}
use Rattle.page_codec.proofs.Newest.{Member}
use Rattle.image_audit.specs.declared.mark.Mark.{Mark}
use Rattle.image_audit.specs.Marks.{placed_of, with_seq, repeat_or, first_repeat, first_high}
use Rattle.image_audit.specs.Verdicts.{IsFirst, SameSeqAs, IsFirstRepeat}

-- ---- the first that passes a test, seen through f

module _ {X Y : Type 0} (p : X → Bool) (f : X → Y) (P : Y → Type 0) (fails : (x : X) → p x ≡ false → P (f x) → ⊥) where
  pub find_none : (xs : List X) → find p xs ≡ None → All (λ y. P y → ⊥) (map f xs)
  find_none [] e = All-nil (λ y. P y → ⊥)
  find_none (x ∷ xs) e = at (find_none xs) (p x) refl e
    where
      at : (find p xs ≡ None → All (λ y. P y → ⊥) (map f xs)) → (t : Bool) → p x ≡ t → (if t then Some x else find p xs) ≡ None → All (λ y. P y → ⊥) (map f (x ∷ xs))
      at rest true q e = absurd (none-some x (sym e))
      at rest false q e = All-cons (λ y. P y → ⊥) (f x) (map f xs) (fails x q) (rest e)

  pub find_first : ((x : X) → p x ≡ true → P (f x)) → (xs : List X) (n : X) → find p xs ≡ Some n → IsFirst P (map f xs) (f n)
  find_first passes [] n e = absurd (none-some n e)
  find_first passes (x ∷ xs) n e = at (find_first passes xs n) (p x) refl e
    where
      at : (find p xs ≡ Some n → IsFirst P (map f xs) (f n)) → (t : Bool) → p x ≡ t → (if t then Some x else find p xs) ≡ Some n → IsFirst P (map f (x ∷ xs)) (f n)
      at later true q e =
          subst (λ (m : X). IsFirst P (map f (x ∷ xs)) (f m)) (same_Some x n e) (record { before = []; after = map f xs; split = refl; holds = passes x q; none_before = All-nil (λ y. P y → ⊥) })
      at later false q e =
          let rest : IsFirst P (map f xs) (f n) = later e in
          record {
            before = f x ∷ rest.before;
            after = rest.after;
            split = ap (λ (ys : List Y). f x ∷ ys) rest.split;
            holds = rest.holds;
            none_before = All-cons (λ y. P y → ⊥) (f x) rest.before (fails x q) rest.none_before;
          }

-- ---- seqs

same_seq : (seq : ℕ) (mark : Mark) → (mark.header.seq == seq) ≡ true → mark.header.seq ≡ seq
same_seq seq mark e = eqb-true mark.header.seq seq e

other_seq : (seq : ℕ) (mark : Mark) → (mark.header.seq == seq) ≡ false → mark.header.seq ≡ seq → ⊥
other_seq seq mark e same = false≢true (sym e ∙ eq-eqb mark.header.seq seq same)

-- no later mark has the first one's seq
abbrev Differ : Mark → List Mark → Type 0
Differ mark marks = All (λ d. SameSeqAs (placed_of mark) d → ⊥) (map placed_of marks)

differ : (mark : Mark) (marks : List Mark) → with_seq mark.header.seq marks ≡ None → Differ mark marks
differ mark marks e = find_none (λ m. m.header.seq == mark.header.seq) placed_of (SameSeqAs (placed_of mark)) (other_seq mark.header.seq) marks e

pub all_member : {X : Type 0} (P : X → Type 0) (xs : List X) (x : X) → All P xs → Member x xs → P x
all_member P [] x h m = absurd m
all_member P (y ∷ ys) x h m = elim m [ inl same ↦ subst P (sym same) (All-head P y ys h) | inr later ↦ all_member P ys x (All-tail P y ys h) later ]

-- where none is repeated, two headers of one seq are one
pub none_repeated : (marks : List Mark) → first_repeat marks ≡ None → (a b : Placed) → Member a (map placed_of marks) → Member b (map placed_of marks) → a.header.seq ≡ b.header.seq → a ≡ b
unfolding first_repeat
none_repeated [] e a b m n same = absurd m
none_repeated (mark ∷ marks) e a b m n same = at (λ none k l. none_repeated marks none a b k l same) (with_seq mark.header.seq marks) refl e
  where
    at : (first_repeat marks ≡ None → Member a (map placed_of marks) → Member b (map placed_of marks) → a ≡ b) → (o : Option Mark) → with_seq mark.header.seq marks ≡ o
        → repeat_or mark o (first_repeat marks) ≡ None → a ≡ b
    at rest (Some other) w e = absurd (none-some _ (sym e))
    at rest None w e = elim m [
      | inl a_first ↦ elim n [
        | inl b_first ↦ a_first ∙ sym b_first
        | inr b_later ↦ absurd (all_member (λ d. SameSeqAs (placed_of mark) d → ⊥) (map placed_of marks) b (differ mark marks w) b_later (sym same ∙ ap (λ (x : Placed). x.header.seq) a_first))
      ]
      | inr a_later ↦ elim n [
        | inl b_first ↦ absurd (all_member (λ d. SameSeqAs (placed_of mark) d → ⊥) (map placed_of marks) a (differ mark marks w) a_later (same ∙ ap (λ (x : Placed). x.header.seq) b_first))
        | inr b_later ↦ rest e a_later b_later
      ]
    ]

-- the first repeat among headers
pub record FoundRepeat (headers : List Placed) (first second : Place) : Type 0 where
  pub a : Placed
  pub b : Placed
  pub a_there : a.place ≡ first
  pub b_there : b.place ≡ second
  pub repeat : IsFirstRepeat headers a b

nothing_before : (front rest : List Placed) (c : Placed) → [] ≡ front ++ c ∷ rest → ⊥
nothing_before [] rest c e = cc
nothing_before (x ∷ front) rest c e = cc

pub repeat_found : (marks : List Mark) (first second : Place) → first_repeat marks ≡ Some (first, second) → FoundRepeat (map placed_of marks) first second
unfolding first_repeat
repeat_found [] first second e = absurd (none-some _ e)
repeat_found (mark ∷ marks) first second e = at (repeat_found marks first second) (with_seq mark.header.seq marks) refl e
  where
    at : (first_repeat marks ≡ Some (first, second) → FoundRepeat (map placed_of marks) first second) → (o : Option Mark) → with_seq mark.header.seq marks ≡ o
        → repeat_or mark o (first_repeat marks) ≡ Some (first, second) → FoundRepeat (map placed_of (mark ∷ marks)) first second
    at rest (Some other) w e =
        let same : (mark.place, other.place) ≡ (first, second) = same_Some _ _ e in
        record {
          a = placed_of mark;
          b = placed_of other;
          a_there = ap (λ (p : Place × Place). p.0) same;
          b_there = ap (λ (p : Place × Place). p.1) same;
          repeat = record {
            before = [];
            after = map placed_of marks;
            split = refl;
            repeated = find_first (λ m. m.header.seq == mark.header.seq) placed_of (SameSeqAs (placed_of mark)) (other_seq mark.header.seq) (same_seq mark.header.seq) marks other w;
            none_before = λ front rest c empty. absurd (nothing_before front rest c empty);
          };
        }
    at rest None w e =
        let found : FoundRepeat (map placed_of marks) first second = rest e in
        let r : IsFirstRepeat (map placed_of marks) found.a found.b = found.repeat in
        record {
          a = found.a;
          b = found.b;
          a_there = found.a_there;
          b_there = found.b_there;
          repeat = record {
            before = placed_of mark ∷ r.before;
            after = r.after;
            split = ap (λ (hs : List Placed). placed_of mark ∷ hs) r.split;
            repeated = r.repeated;
            none_before = earlier found.a r.before r.after r.split r.none_before w;
          };
        }
      where
        earlier : (a : Placed) (before after : List Placed) → map placed_of marks ≡ before ++ a ∷ after
            → ((front rest : List Placed) (c : Placed) → before ≡ front ++ c ∷ rest → All (λ d. SameSeqAs c d → ⊥) (rest ++ a ∷ after)) → with_seq mark.header.seq marks ≡ None
            → (front rest : List Placed) (c : Placed) → placed_of mark ∷ before ≡ front ++ c ∷ rest → All (λ d. SameSeqAs c d → ⊥) (rest ++ a ∷ after)
        earlier a before after split none w [] rest c e =
            let same : placed_of mark ≡ c = cc in
            let others : before ≡ rest = cc in
            subst (λ (x : Placed). All (λ d. SameSeqAs x d → ⊥) (rest ++ a ∷ after)) same
            (subst (λ (hs : List Placed). All (λ d. SameSeqAs (placed_of mark) d → ⊥) (hs ++ a ∷ after)) others
            (subst (λ (hs : List Placed). All (λ d. SameSeqAs (placed_of mark) d → ⊥) hs) split (differ mark marks w)))
        earlier a before after split none w (x ∷ front) rest c e = let others : before ≡ front ++ c ∷ rest = cc in none front rest c others

-- ---- seqs that are not bounded

abbrev High : Placed → Type 0
High placed = 2 ^ 62 + 2 ^ 20 ≤ placed.header.seq

low : (mark : Mark) → nat_le (2 ^ 62 + 2 ^ 20) mark.header.seq ≡ false → High (placed_of mark) → ⊥
low mark e h = false≢true (sym e ∙ le-leb _ _ h)

pub high_found : (marks : List Mark) (mark : Mark) → first_high marks ≡ Some mark → IsFirst High (map placed_of marks) (placed_of mark)
unfolding first_high
high_found marks mark e = find_first (λ m. nat_le (2 ^ 62 + 2 ^ 20) m.header.seq) placed_of High low (λ m q. leb-true _ _ q) marks mark e

pub none_high : (marks : List Mark) → first_high marks ≡ None → All (λ placed. High placed → ⊥) (map placed_of marks)
unfolding first_high
none_high marks e = find_none (λ m. nat_le (2 ^ 62 + 2 ^ 20) m.header.seq) placed_of High low marks e
