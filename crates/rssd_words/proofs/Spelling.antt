-- No two commands within their limits have one spelling.
use Rattle.std.proofs.Common.{◌≡◌, ℕ, ◌-◌, ◌^◌, ◌%◌, ◌<◌, true, false, List, [], ◌∷◌, ◌++◌, nat_eq, codes, length, map, take, get_or, refl, sym, ap, ◌∙◌, arith}
use Rattle.std.specs.Prelude.{decimal}
use Rattle.std.specs.Cmp.Lexicographic.{pointwise, bytes_decides}
use Rattle.std.proofs.lemmas.Bool.{both_ways}
use Rattle.std.proofs.lemmas.List.{length-map, take-map}
use Rattle.die_image.specs.declared.head.ImageHead.{ImageHead}
use Rattle.die_image.specs.Image.{is_within_limits}
use Rattle.die_image.proofs.Again.{are_words}
use Rattle.rssd_words.specs.declared.command.Command.{Command}
use Rattle.rssd_words.specs.declared.command.Command.TheVariants.{Replay, Run, Format, Make, Upgrade, Queue, Worn, Pair, Audit}
use Rattle.rssd_words.specs.Commands.{head_words, words_of, IsWithin}
use Rattle.rssd_words.proofs.Heads.{decimals_same, heads_same}
use Rattle.rssd_words.proofs.Items.{word_at}

-- words that begin with two names differ
pub names_apart : {a b : List ℕ} {v w : List (List ℕ)} → pointwise nat_eq a b ≡ false → a ∷ v ≡ b ∷ w → ⊥
names_apart {a = a} {b = b} differ e = absurd (both_ways (pointwise nat_eq a b) differ ((bytes_decides a b).1 (ap (λ (words : List (List ℕ)). get_or words 0 []) e)))

pub spelled_once : (a b : Command) → IsWithin a → IsWithin b → words_of a ≡ words_of b → a ≡ b
unfolding words_of
spelled_once (Replay a) (Replay b) within other e = ap Replay (heads_same a b within other (cc))
spelled_once Run Run within other e = refl
spelled_once (Format a) (Format b) within other e = ap Format (heads_same a b within other (cc))
spelled_once (Make s n a) (Make t m b) within other e =
    let head = heads_same a b within.2 other.2 (cc) in
    let seed = decimals_same s t within.0 other.0 (cc) in
    let count = decimals_same n m (omega (arith, within.1)) (omega (arith, other.1)) (cc) in
    λ i. Make (seed i) (count i) (head i)
spelled_once Upgrade Upgrade within other e = refl
spelled_once (Queue a) (Queue b) within other e = ap Queue (heads_same a b within other (cc))
spelled_once (Worn a r n) (Worn b s m) within other e =
    let head = heads_same a b within.0 other.0 (cc) in
    let reserve = decimals_same r s (omega (arith, within.1.pages, (are_words a within.0).pages)) (omega (arith, other.1.pages, (are_words b other.0).pages)) (cc) in
    let bad = decimals_same n m (omega (arith, within.2)) (omega (arith, other.2)) (cc) in
    λ i. Worn (head i) (reserve i) (bad i)
spelled_once (Pair a) (Pair b) within other e = ap Pair (heads_same a b within.0 other.0 (cc))
spelled_once Audit Audit within other e = refl
spelled_once a b within other e = absurd (names_apart refl e)

-- a command that is spelled as a pair has an even number of blocks
pub even_pair : (head : ImageHead) (command : Command) → is_within_limits head ≡ true → IsWithin command → codes "pair" ∷ head_words head ≡ words_of command → head.blocks % 2 ≡ 0
unfolding words_of
even_pair head (Pair other) good within e = ap (λ (h : ImageHead). h.blocks % 2) (heads_same head other good within.0 (cc)) ∙ within.1
even_pair head command good within e = absurd (names_apart refl e)

-- the items behind `worn` are those of a head and two numbers
pub record IsWorn {A : Type 0} (f : A → List ℕ) (xs : List A) (command : Command) : Type 0 where
  pub head : ImageHead
  pub reserve : ℕ
  pub bad : ℕ
  pub is : command ≡ Worn head reserve bad
  pub within : IsWithin (Worn head reserve bad)
  pub small : reserve < 2 ^ 32
  pub front : map f (take (length xs - 2) xs) ≡ head_words head
  pub reserve_is : (x : A) → x ≡ get_or xs (length xs - 2) x → f x ≡ decimal reserve
  pub bad_is : (x : A) → x ≡ get_or xs (length xs - 1) x → f x ≡ decimal bad

worn_items : {A : Type 0} (f : A → List ℕ) (xs : List A) (head : ImageHead) (reserve bad : ℕ) → IsWithin (Worn head reserve bad)
    → map f xs ≡ head_words head ++ decimal reserve ∷ decimal bad ∷ [] → IsWorn f xs (Worn head reserve bad)
worn_items f xs head reserve bad within spelled =
    let seven : length xs ≡ 7 = sym (length-map xs f) ∙ ap length spelled in
    let first : length xs - 2 ≡ 5 = omega arith in
    let last : length xs - 1 ≡ 6 = omega arith in record {
      head = head;
      reserve = reserve;
      bad = bad;
      is = refl;
      within = within;
      small = omega (arith, within.1.pages, (are_words head within.0).pages);
      front = ap (λ (n : ℕ). map f (take n xs)) first ∙ sym (take-map f 5 xs) ∙ ap (take 5) spelled;
      reserve_is = λ x is. word_at f xs spelled 5 (omega arith) (is ∙ ap (λ (n : ℕ). get_or xs n x) first);
      bad_is = λ x is. word_at f xs spelled 6 (omega arith) (is ∙ ap (λ (n : ℕ). get_or xs n x) last);
    }

pub worn_is : {A : Type 0} (f : A → List ℕ) (xs : List A) (command : Command) → IsWithin command → codes "worn" ∷ map f xs ≡ words_of command → IsWorn f xs command
unfolding words_of
worn_is f xs (Worn head reserve bad) within e = worn_items f xs head reserve bad within (cc)
worn_is f xs command within e = absurd (names_apart refl e)
