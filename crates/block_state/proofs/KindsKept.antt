-- The sets keep the blocks of their kinds over each change, and the lowest block of a set is the lowest of its kind.
use Rattle.std.proofs.Common.{◌≡◌, ℕ, ◌+◌, ◌<◌, inl, inr, Bool, true, false, cond, eqb, ltb, IfSome, Option, Some, None, List, length, replicate, get_or, set, refl, sym, ap, ◌∙◌, subst, arith}
use Rattle.std.proofs.Common.{get_or-set_same, get_or-set_other}
use Rattle.std.proofs.lemmas.Bool.{cases_eq, cases_lt, eq-eqb, eqb-true, ne_eqb, lt-ltb, le-ltb, false≢true}
use Rattle.std.proofs.lemmas.List.{get_or_past, get_or_default, length-replicate, get_or-replicate, set-get_or}
use Rattle.std.proofs.lemmas.List.Sums.{sum_by-set}
use Rattle.std.proofs.lemmas.List.Folds.{sum_by-replicate}
use Rattle.block_links.specs.Lists.{Lists}
use Rattle.block_state.specs.declared.state.State.{State}
use Rattle.block_state.specs.declared.state.State.TheVariants.{Clean, Active, Used, Recycled, Reused, Spare}
use Rattle.block_state.specs.declared.kinds.Kinds.{Kinds}
use Rattle.block_state.specs.State.{is_clean, is_used, is_recycled}
use Rattle.block_state.specs.BlockSet.{has, IsPut, IsLowestIn}
use Rattle.block_state.specs.Book.{BookValue, state_at, live_at}
use Rattle.block_state.specs.Lowest.{IsClean, IsEmptyUsed, NoneCleanBelow, NoneEmptyUsedBelow}
use Rattle.block_state.specs.Kept.{IsBook}
use Rattle.block_state.specs.Kinds.{AreKinds, ArePut, is_empty_used, one_if}

-- a set has the blocks of a test, and one block is put in or taken out as the test turns
followed : (old new : List ℕ) (b : ℕ) (x : Bool) (before after : ℕ → Bool) → IsPut old b x new → ((c : ℕ) → has old c ≡ before c) → after b ≡ x → ((c : ℕ) → (c ≡ b → ⊥) → after c ≡ before c) →
    (c : ℕ) → has new c ≡ after c
followed old new b x before after put are here there c = put c ∙ elim (cases_eq c b) [
  | inl same ↦ rw (eq-eqb c b same) (sym here ∙ ap after (sym same))
  | inr other ↦ rw (ne_eqb c b other) (are c ∙ sym (there c other))
]

-- a set of the blocks below one more
pub one_more : (old new : List ℕ) (n : ℕ) → ((c : ℕ) → has old c ≡ ltb c n) → IsPut old n true new → (c : ℕ) → has new c ≡ ltb c (n + 1)
one_more old new n are put = followed old new n true (λ c. ltb c n) (λ c. ltb c (n + 1)) put are (lt-ltb n (n + 1) (omega arith)) (λ c other. elim (cases_lt c n) [
  | inl below ↦ lt-ltb c (n + 1) (omega arith) ∙ sym (lt-ltb c n below)
  | inr above ↦ le-ltb c (n + 1) (omega arith) ∙ sym (le-ltb c n above)
])

-- the sets of a new book
module _ (blocks : ℕ) (kinds : Kinds) where
  pub all_clean : ((c : ℕ) → has kinds.clean.words c ≡ ltb c blocks) → ((c : ℕ) → has kinds.recycled.words c ≡ false) → ((c : ℕ) → has kinds.empty_used.words c ≡ false) → kinds.recycled_count ≡ 0 →
      AreKinds (replicate blocks Clean) (replicate blocks 0) kinds
  all_clean clean recycled empty_used count = record {
    clean_are = λ b. clean b ∙ elim (cases_lt b blocks) [
      | inl within ↦ lt-ltb b blocks within ∙ sym (ap is_clean (get_or-replicate blocks b Clean Reused within))
      | inr past ↦ le-ltb b blocks past ∙ sym (ap is_clean (get_or_past (replicate {A = State} blocks Clean) b Reused (omega (arith, length-replicate {A = State} blocks Clean))))
    ];
    recycled_are = λ b. recycled b ∙ sym (ap is_recycled (state_made b));
    empty_used_are = λ b. empty_used b ∙ sym (ap (λ s. is_empty_used s (get_or (replicate blocks 0) b 0)) (state_made b));
    recycled_count_is = omega (arith, sum_by-replicate (λ s. cond (is_recycled s) 1 0) blocks Clean);
  }
    where
      state_made : (b : ℕ) → get_or (replicate blocks Clean) b Clean ≡ Clean
      state_made b = elim (cases_lt b blocks) [
        | inl within ↦ get_or-replicate blocks b Clean Clean within
        | inr past ↦ get_or_past (replicate {A = State} blocks Clean) b Clean (omega (arith, length-replicate {A = State} blocks Clean))
      ]

module _ (states : List State) (live : List ℕ) (kinds : Kinds) (are : AreKinds states live kinds) where
  -- a block gets a state and a live count
  module _ (b : ℕ) (s : State) (n : ℕ) (new : Kinds) (within : b < length states) (has_count : b < length live) (put : ArePut kinds b s n new) where
    state_there : (c : ℕ) (d : State) → (c ≡ b → ⊥) → get_or (set states b s) c d ≡ get_or states c d
    state_there c d other = get_or-set_other states b c s d other

    put_are : AreKinds (set states b s) (set live b n) new
    put_are = record {
      clean_are = followed kinds.clean.words new.clean.words b (is_clean s) (λ c. is_clean (get_or states c Reused)) (λ c. is_clean (get_or (set states b s) c Reused)) put.clean are.clean_are
          (ap is_clean (get_or-set_same states b s Reused within)) (λ c other. ap is_clean (state_there c Reused other));
      recycled_are =
          followed kinds.recycled.words new.recycled.words b (is_recycled s) (λ c. is_recycled (get_or states c Clean))
          (λ c. is_recycled (get_or (set states b s) c Clean)) put.recycled are.recycled_are
          (ap is_recycled (get_or-set_same states b s Clean within)) (λ c other. ap is_recycled (state_there c Clean other));
      empty_used_are = followed kinds.empty_used.words new.empty_used.words b (is_empty_used s n) (λ c. is_empty_used (get_or states c Clean) (get_or live c 0))
          (λ c. is_empty_used (get_or (set states b s) c Clean) (get_or (set live b n) c 0)) put.empty_used are.empty_used_are
          (rw (get_or-set_same states b s Clean within, get_or-set_same live b n 0 has_count) refl)
          (λ c other. rw (state_there c Clean other, get_or-set_other live b c n 0 other) refl);
      recycled_count_is =
          let ones : State → ℕ = λ t. cond (is_recycled t) 1 0 in
          let before : one_if (has kinds.recycled.words b) ≡ ones (get_or states b Clean) = ap one_if (are.recycled_are b) in
          omega (arith, are.recycled_count_is, put.recycled_count, before, sum_by-set ones states b s Clean within);
    }

    -- of which one is as before
    pub state_put : n ≡ get_or live b 0 → AreKinds (set states b s) live new
    state_put same = subst (λ (counts : List ℕ). AreKinds (set states b s) counts new) (ap (set live b) same ∙ set-get_or live b 0) put_are

    pub live_put : s ≡ get_or states b Clean → AreKinds states (set live b n) new
    live_put same = subst (λ (all : List State). AreKinds all (set live b n) new) (ap (set states b) same ∙ set-get_or states b Clean) put_are

-- a set that has the blocks of a kind has its lowest block
lowest_of : (words : List ℕ) (Kind : ℕ → Type 0) → ((b : ℕ) → has words b ≡ true → Kind b) → ((b : ℕ) → Kind b → has words b ≡ true) →
    (o : Option ℕ) → IfSome o (IsLowestIn words) → IfSome o (λ b. Kind b × ((c : ℕ) → c < b → Kind c → ⊥))
lowest_of words Kind into out None found = tt
lowest_of words Kind into out (Some b) found = (into b found.0, λ c below is. false≢true (sym (found.1 c below) ∙ out c is))

clean_is : (s : State) → is_clean s ≡ true → s ≡ Clean
clean_is Clean is = refl
clean_is (Active fill) is = absurd (false≢true is)
clean_is (Used level) is = absurd (false≢true is)
clean_is (Recycled level next) is = absurd (false≢true is)
clean_is Reused is = absurd (false≢true is)
clean_is (Spare blank) is = absurd (false≢true is)

module _ (v : BookValue) (order by_live : Lists) (active : Option ℕ) (kinds : Kinds) (book : IsBook v order by_live active kinds) where
  abbrev are : AreKinds v.states v.live kinds
  are = book.kinds_are

  clean_into : (b : ℕ) → has kinds.clean.words b ≡ true → IsClean v b
  clean_into b is = elim (cases_lt b (length v.states)) [
    | inl within ↦ (within, sym (get_or_default v.states b Reused Clean within) ∙ clean_is (get_or v.states b Reused) (sym (are.clean_are b) ∙ is))
    | inr past ↦ absurd (false≢true (sym (are.clean_are b ∙ ap is_clean (get_or_past v.states b Reused past)) ∙ is))
  ]

  clean_out : (b : ℕ) → IsClean v b → has kinds.clean.words b ≡ true
  clean_out b is = are.clean_are b ∙ ap is_clean (get_or_default v.states b Reused Clean is.0 ∙ is.1)

  empty_used_into : (b : ℕ) → has kinds.empty_used.words b ≡ true → IsEmptyUsed v b
  empty_used_into b is = both (is_used (state_at v b)) (sym (are.empty_used_are b) ∙ is)
    where
      both : (t : Bool) → cond t (eqb (live_at v b) 0) false ≡ true → (t ≡ true) × (live_at v b ≡ 0)
      both true zero = (refl, eqb-true (live_at v b) 0 zero)
      both false zero = absurd (false≢true zero)

  empty_used_out : (b : ℕ) → IsEmptyUsed v b → has kinds.empty_used.words b ≡ true
  empty_used_out b is = are.empty_used_are b ∙ rw is.0 (eq-eqb (live_at v b) 0 is.1)

  pub clean_lowest : (o : Option ℕ) → IfSome o (IsLowestIn kinds.clean.words) → IfSome o (λ b. IsClean v b × NoneCleanBelow v b)
  clean_lowest = lowest_of kinds.clean.words (IsClean v) clean_into clean_out

  pub empty_used_lowest : (o : Option ℕ) → IfSome o (IsLowestIn kinds.empty_used.words) → IfSome o (λ b. IsEmptyUsed v b × NoneEmptyUsedBelow v b)
  empty_used_lowest = lowest_of kinds.empty_used.words (IsEmptyUsed v) empty_used_into empty_used_out
