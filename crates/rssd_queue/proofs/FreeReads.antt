-- A node is free where its read is the first command of its sector: the first free node of the order is the first free read.
use Rattle.std.proofs.Common.{◌≡◌, ℕ, zero, suc, ◌+◌, ◌<◌, ◌≤◌, inl, inr, ◌&&◌, Bool, true, false, eqb, Some, None, List, [], ◌∷◌, length, get_or, refl, sym, ap, ◌∙◌, subst, arith}
use Rattle.std.specs.List.{find, filter}
use Rattle.std.proofs.lemmas.Bool.{cases_Bool, eq-eqb, eqb-true, ne_eqb, false≢true}
use Rattle.std.proofs.lemmas.List.{get_or-map, length-map}
use Rattle.block_links.specs.Lists.{Lists, times, list_at}
use Rattle.block_links.proofs.Times.{times-head}
use Rattle.rssd_queue.specs.declared.ask.Tagged.{Tagged}
use Rattle.rssd_queue.specs.Asks.{sector_of, is_read}
use Rattle.rssd_queue.specs.Waiting.{command_at, no_command}
use Rattle.rssd_queue.specs.Pick.{IsFree, NoneFree, IsFirstFree, sector_at}
use Rattle.rssd_queue.specs.Kept.{HasChains, in_node, sector_in, commands_in, is_free_node}

-- ---- the first that passes a test

record FoundAt (p : ℕ → Bool) (ws : List ℕ) (n : ℕ) : Type 0 where
  place : ℕ
  within : place < length ws
  node : get_or ws place 0 ≡ n
  passes : p n ≡ true
  before : (j : ℕ) → j < place → p (get_or ws j 0) ≡ false

found_first : (p : ℕ → Bool) (x : ℕ) (ws : List ℕ) (n : ℕ) → p x ≡ true → x ≡ n → FoundAt p (x ∷ ws) n
found_first p x ws n hit same = record { place = 0; within = omega arith; node = same; passes = ap p (sym same) ∙ hit; before = λ j below. absurd (omega arith) }

before_later : (p : ℕ → Bool) (x : ℕ) (ws : List ℕ) (k : ℕ) → p x ≡ false → ((j : ℕ) → j < k → p (get_or ws j 0) ≡ false) → (j : ℕ) → j < suc k → p (get_or (x ∷ ws) j 0) ≡ false
before_later p x ws k miss before zero below = miss
before_later p x ws k miss before (suc j) below = before j (omega arith)

found_later : (p : ℕ → Bool) (x : ℕ) (ws : List ℕ) (n : ℕ) → p x ≡ false → FoundAt p ws n → FoundAt p (x ∷ ws) n
found_later p x ws n miss found = record {
  place = suc found.place;
  within = let w = found.within in omega arith;
  node = found.node;
  passes = found.passes;
  before = before_later p x ws found.place miss found.before;
}

found_at : (p : ℕ → Bool) (ws : List ℕ) (n : ℕ) → find p ws ≡ Some n → FoundAt p ws n
found_at p [] n is = absurd (cc)
found_at p (x ∷ ws) n is = elim (cases_Bool (p x)) [
  | inl hit ↦ let e = rw hit at is in found_first p x ws n hit (cc)
  | inr miss ↦ found_later p x ws n miss (found_at p ws n (rw miss at is))
]

none_at : (p : ℕ → Bool) (ws : List ℕ) → find p ws ≡ None → (k : ℕ) → k < length ws → p (get_or ws k 0) ≡ false
none_at p [] is k within = absurd (omega arith)
none_at p (x ∷ ws) is k within = elim (cases_Bool (p x)) [
  | inl hit ↦ let e = rw hit at is in absurd (cc)
  | inr miss ↦ before_later p x ws (length ws) miss (λ j below. none_at p ws (rw miss at is) j below) k within
]

-- ---- the first that a filter keeps

pub stands_at : (xs : List ℕ) (k n : ℕ) → k < length xs → get_or xs k 0 ≡ n → 0 < times n xs
stands_at [] k n within is = absurd (omega arith)
stands_at (x ∷ xs) zero n within is = subst (λ (m : ℕ). 0 < times m (x ∷ xs)) is (omega (arith, times-head x xs))
stands_at (x ∷ xs) (suc k) n within is = let t = stands_at xs k n (omega arith) is in omega arith

-- where the first that is kept is the one at place k, none before it passes
kept_first : (q : ℕ → Bool) (ws : List ℕ) (k n : ℕ) → k < length ws → get_or ws k 0 ≡ n → times n ws ≤ 1 → get_or (filter q ws) 0 32 ≡ n → (j : ℕ) → j < k → q (get_or ws j 0) ≡ false
kept_first q [] k n within is once first j below = absurd (omega arith)
kept_first q (x ∷ ws) zero n within is once first j below = absurd (omega arith)
kept_first q (x ∷ ws) (suc k) n within is once first j below = elim (cases_Bool (q x)) [
  | inl hit ↦
      let same : x ≡ n = rw hit at first in
      let twice = stands_at ws k n (omega arith) is in
      let head : times n (x ∷ ws) ≡ 1 + times n ws = subst (λ (m : ℕ). times m (x ∷ ws) ≡ 1 + times m ws) same (times-head x ws) in
      absurd (omega arith)
  | inr miss ↦ before_later q x ws k miss (kept_first q ws k n (omega arith) is (let t = times_rest x ws n in omega arith) (rw miss at first)) j below
]
  where
    times_rest : (x : ℕ) (ws : List ℕ) (n : ℕ) → times n ws ≤ times n (x ∷ ws)
    times_rest x ws n = omega arith

first_kept : (q : ℕ → Bool) (ws : List ℕ) (k : ℕ) → k < length ws → q (get_or ws k 0) ≡ true → ((j : ℕ) → j < k → q (get_or ws j 0) ≡ false) → get_or (filter q ws) 0 32 ≡ get_or ws k 0
first_kept q [] k within passes none = absurd (omega arith)
first_kept q (x ∷ ws) zero within passes none = rw passes refl
first_kept q (x ∷ ws) (suc k) within passes none = rw (none 0 (omega arith)) (first_kept q ws k (omega arith) passes (λ j below. none (suc j) (omega arith)))

both : (a b : Bool) → a && b ≡ true → (a ≡ true) × (b ≡ true)
both true b is = (refl, is)
both false b is = absurd (false≢true is)

both-true : (a b : Bool) → a ≡ true → b ≡ true → a && b ≡ true
both-true a b a_is b_is = rw (a_is, b_is) refl

-- ---- nodes and commands

module _ (nodes : List Tagged) (ws : List ℕ) (chains : Lists) (sectors : ℕ) (has : HasChains nodes ws chains sectors) (once : (n : ℕ) → times n ws ≤ 1) where
  abbrev cs : List Tagged
  cs = commands_in nodes ws

  abbrev free : ℕ → Bool
  free n = is_free_node nodes chains n

  command_is : (k : ℕ) → k < length ws → command_at cs k ≡ in_node nodes (get_or ws k 0)
  command_is k within = get_or-map (in_node nodes) ws k 0 no_command within

  sector_is : (k : ℕ) → k < length ws → sector_at cs k ≡ sector_in nodes (get_or ws k 0)
  sector_is k within = ap (λ c. sector_of c.ask) (command_is k within)

  -- a free node holds a free read
  free_read : (k : ℕ) → k < length ws → free (get_or ws k 0) ≡ true → IsFree cs k
  free_read k within is =
      let n : ℕ = get_or ws k 0 in
      let s : ℕ = sector_in nodes n in
      let parts = both (is_read (in_node nodes n).ask) (eqb (get_or (list_at chains.lists s) 0 32) n) is in
      let first = sym (ap (λ xs. get_or xs 0 32) (has.parts s)) ∙ eqb-true (get_or (list_at chains.lists s) 0 32) n parts.1 in
      record {
        within = rw length-map within;
        read = ap (λ c. is_read c.ask) (command_is k within) ∙ parts.0;
        first_of_sector = λ j below same.
            let none = kept_first (λ m. eqb (sector_in nodes m) s) ws k n within refl (once n) first j below in
            false≢true (sym none ∙ eq-eqb (sector_in nodes (get_or ws j 0)) s (sym (sector_is j (omega arith)) ∙ same ∙ sector_is k within));
      }

  -- and a free read stands in a free node
  free_node : (k : ℕ) → IsFree cs k → free (get_or ws k 0) ≡ true
  free_node k is =
      let within : k < length ws = rw length-map at is.within in
      let n : ℕ = get_or ws k 0 in
      let s : ℕ = sector_in nodes n in
      let first = first_kept (λ m. eqb (sector_in nodes m) s) ws k within (eq-eqb s s refl)
      (λ j below. ne_eqb (sector_in nodes (get_or ws j 0)) s (λ same. is.first_of_sector j below (sector_is j (omega arith) ∙ same ∙ sym (sector_is k within)))) in
      both-true (is_read (in_node nodes n).ask) (eqb (get_or (list_at chains.lists s) 0 32) n)
      (ap (λ c. is_read c.ask) (sym (command_is k within)) ∙ is.read)
      (eq-eqb (get_or (list_at chains.lists s) 0 32) n (ap (λ xs. get_or xs 0 32) (has.parts s) ∙ first))

  -- what is found is the node of the first free read
  pub record IsFirstFreeNode (n : ℕ) : Type 0 where
    pub place : ℕ
    pub within : place < length ws
    pub node : get_or ws place 0 ≡ n
    pub first : IsFirstFree cs place

  pub found_is : (n : ℕ) → find free ws ≡ Some n → IsFirstFreeNode n
  found_is n is =
      let found = found_at free ws n is in
      record {
        place = found.place;
        within = found.within;
        node = found.node;
        first = record {
          free = free_read found.place found.within (ap free found.node ∙ found.passes);
          first = λ j below other. false≢true (sym (found.before j below) ∙ free_node j other);
        };
      }

  pub none_is : find free ws ≡ None → NoneFree cs
  none_is is k other = false≢true (sym (none_at free ws is k (rw length-map at other.within)) ∙ free_node k other)
