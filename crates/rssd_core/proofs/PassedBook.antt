-- The pass of the offered unit changes neither the next page nor the calls before it.
use Rattle.std.proofs.Common.{◌≡◌, ℕ, ◌+◌, ◌*◌, Bool, true, false, cond, List, [], ◌∷◌, nat_lt, if◌then◌else◌, ◌==◌, Option, Some, None, refl, sym, ap, ap₂, ◌∙◌, length-set}
use Rattle.std.proofs.lemmas.Bool.{false≢true}
use Rattle.std.proofs.lemmas.List.Folds.{position_or_len-set}
use Rattle.std.proofs.lemmas.List.Quantifiers.{position-Some}
use Rattle.std.proofs.lemmas.List.Sums.{sum_by-append}
use Rattle.std.specs.List.{reduce}
use Rattle.block_state.specs.declared.state.State.{State}
use Rattle.block_state.specs.declared.state.State.TheVariants.{Clean, Recycled}
use Rattle.block_state.specs.State.{is_active, is_closed, is_spare}
use Rattle.block_state.specs.Book.{BookValue, state_at, live_at, with_state, reordered}
use Rattle.page_alloc.specs.declared.next_page.NextPage.{NextPage}
use Rattle.page_alloc.specs.declared.next_page.NextPage.TheVariants.{Page, Take, Wipe, Collect}
use Rattle.reuse_pool.specs.declared.unit.ReuseUnit.{ReuseUnit}
use Rattle.reuse_pool.specs.Offer.{IsOffer, passed}
use Rattle.mount_scan.specs.Settled.{is_clean}
use Rattle.collector.proofs.Books.{state_there}
use Rattle.collector.specs.Effects.{fill_of}
use Rattle.rssd_core.specs.Rules.{first_block, fewer, victim_of, from_active, from_clean, from_victim, next_page}
use Rattle.rssd_core.specs.BookChanges.{Change, Takes, Wipes, Erases, Copies, Seals, Fills, Rewrites, Passes, Offers}
use Rattle.rssd_core.specs.Calls.{calls_before, copies_due, erase_calls}
use Rattle.collector.specs.Erases.{erased_in}
use Rattle.rssd_core.specs.Erases.{erase_due}
use Rattle.rssd_core.specs.Moves.{sealed_records}
use Rattle.rssd_core.specs.Steps.{passing}
use Rattle.rssd_core.proofs.Passing.{passed_cases, passed_not_active, passed_not_spare}

-- a test that tells the two states of a block the same finds the same first block
pub first_same : (test : State → Bool) (v : BookValue) (b : ℕ) (s : State) → test s ≡ test (state_at v b) → first_block test (with_state v b s) ≡ first_block test v
first_same test v b s same = ap₂ (λ (p n : ℕ). cond (nat_lt p n) (Some p) None) (position_or_len-set test v.states b s Clean same) (length-set v.states b s)

-- the first block passes the test
pub first_passes : (test : State → Bool) (v : BookValue) (b : ℕ) → first_block test v ≡ Some b → test (state_at v b) ≡ true
first_passes test v b is = (position-Some test v.states b Clean is).1

passed_not_clean : (v : BookValue) (unit : ReuseUnit) → is_clean (passed v unit) ≡ false
passed_not_clean v unit = passed_cases v unit (λ s. is_clean s ≡ false) refl (λ below. refl) (λ next. refl)

passed_closed : (v : BookValue) (unit : ReuseUnit) → is_closed (passed v unit) ≡ true
passed_closed v unit = passed_cases v unit (λ s. is_closed s ≡ true) refl (λ below. refl) (λ next. refl)

module _ (v : BookValue) (unit : ReuseUnit) (offer : IsOffer v unit) where
  -- the order stays
  order_same : (passing v unit).order ≡ v.order
  order_same = ap₂ (λ (was now : Bool). reordered was now unit.block v.order) (ap is_closed offer.1) (passed_closed v unit)

  victim_same : victim_of (passing v unit) ≡ victim_of v
  victim_same = ap (reduce (fewer v)) order_same

  from_clean_same : (o : Option ℕ) → from_clean (passing v unit) o ≡ from_clean v o
  from_clean_same (Some block) = refl
  from_clean_same None =
      ap (λ (o : Option ℕ). from_victim (passing v unit) o (first_block is_spare (passing v unit))) victim_same
      ∙ (ap (from_victim (passing v unit) (victim_of v)) (first_same is_spare v unit.block (passed v unit) (passed_not_spare v unit ∙ sym (ap is_spare offer.1)))
      ∙ from_same (victim_of v) (first_block is_spare v))
    where
      from_same : (victim spare : Option ℕ) → from_victim (passing v unit) victim spare ≡ from_victim v victim spare
      from_same None spare = refl
      from_same (Some victim) None = refl
      from_same (Some victim) (Some spare) = refl

  -- another block than the unit's has its state
  other_state : (test : State → Bool) (b : ℕ) → test (Recycled unit.slot unit.number) ≡ false → first_block test v ≡ Some b → state_at (passing v unit) b ≡ state_at v b
  other_state test b apart is = state_there v unit.block b (passed v unit) (λ same. false≢true (sym (ap test (ap (state_at v) same ∙ offer.1) ∙ apart) ∙ first_passes test v b is))

  from_active_same : (o : Option ℕ) → first_block is_active v ≡ o → from_active (passing v unit) o ≡ from_active v o
  from_active_same None is =
      ap (from_clean (passing v unit)) (first_same is_clean v unit.block (passed v unit) (passed_not_clean v unit ∙ sym (ap is_clean offer.1))) ∙ from_clean_same (first_block is_clean v)
  from_active_same (Some block) is = ap (λ (s : State). Page (block * v.pages + fill_of s)) (other_state is_active block refl is)

  pub next_same : next_page (passing v unit) ≡ next_page v
  unfolding next_page
  next_same =
      ap (from_active (passing v unit)) (first_same is_active v unit.block (passed v unit) (passed_not_active v unit ∙ sym (ap is_active offer.1))) ∙ from_active_same (first_block is_active v) refl

  -- a collection goes to the Spare
  spare_of_victim : (o p : Option ℕ) (victim spare : ℕ) → from_victim v o p ≡ Collect victim spare → p ≡ Some spare
  spare_of_victim None p victim spare is = absurd (other_than is)
    where
      other_than : Wipe 0 ≡ Collect victim spare → ⊥
      other_than e = absurd (cc)
  spare_of_victim (Some x) None victim spare is = absurd (other_than is)
    where
      other_than : Wipe x ≡ Collect victim spare → ⊥
      other_than e = absurd (cc)
  spare_of_victim (Some x) (Some y) victim spare is = at (live_at v x == 0) is
    where
      at : (t : Bool) → (if t then Wipe x else Collect x y) ≡ Collect victim spare → Some y ≡ Some spare
      at true e = absurd (cc)
      at false e = let same : y ≡ spare = cc in ap Some same

  spare_of_clean : (o : Option ℕ) (victim spare : ℕ) → from_clean v o ≡ Collect victim spare → first_block is_spare v ≡ Some spare
  spare_of_clean (Some x) victim spare is = absurd (cc)
  spare_of_clean None victim spare is = spare_of_victim (victim_of v) (first_block is_spare v) victim spare is

  spare_of_active : (o : Option ℕ) (victim spare : ℕ) → from_active v o ≡ Collect victim spare → first_block is_spare v ≡ Some spare
  spare_of_active (Some x) victim spare is = absurd (cc)
  spare_of_active None victim spare is = spare_of_clean (first_block is_clean v) victim spare is

  spare_of_next : (victim spare : ℕ) → next_page v ≡ Collect victim spare → first_block is_spare v ≡ Some spare
  unfolding next_page
  spare_of_next victim spare is = spare_of_active (first_block is_active v) victim spare is

  pub calls_same : (n : NextPage) → next_page v ≡ n → calls_before (passing v unit) n ≡ calls_before v n
  calls_same (Page page) is = refl
  calls_same (Take block) is = refl
  calls_same (Wipe block) is = refl
  calls_same (Collect victim spare) is = ap (λ (s : State). erase_calls s + 2 * live_at v victim + 1) (other_state is_spare spare refl (spare_of_next victim spare is))

  -- the block to be erased is the same
  pub due_same : (n : NextPage) → next_page v ≡ n → erase_due (passing v unit) n ≡ erase_due v n
  due_same (Page page) is = refl
  due_same (Take block) is = refl
  due_same (Wipe block) is = refl
  due_same (Collect victim spare) is = ap (λ (s : State). erased_in s spare) (other_state is_spare spare refl (spare_of_next victim spare is))

-- how many are copied goes by the live counts alone
pub copies_same : (v w : BookValue) → w.live ≡ v.live → (n : NextPage) → copies_due w n ≡ copies_due v n
copies_same v w same (Page page) = refl
copies_same v w same (Take block) = refl
copies_same v w same (Wipe block) = refl
copies_same v w same (Collect victim spare) = ap (λ (live : List ℕ). live_at (record v { live = live }) victim) same

-- what is sealed goes by the live counts alone
pub sealed_same : (v w : BookValue) → w.live ≡ v.live → (changes : List Change) → sealed_records w changes ≡ sealed_records v changes
sealed_same v w same [] = refl
sealed_same v w same (x ∷ xs) =
    sum_by-append _ (x ∷ []) xs ∙ (ap₂ (λ (a b : ℕ). a + b) (one x) (sealed_same v w same xs) ∙ sym (sum_by-append _ (x ∷ []) xs))
  where
    one : (x : Change) → sealed_records w (x ∷ []) ≡ sealed_records v (x ∷ [])
    one (Takes b) = refl
    one (Wipes b) = refl
    one (Erases b) = refl
    one (Copies b) = refl
    one (Seals victim spare) = ap (λ (live : List ℕ). 0 + live_at (record v { live = live }) victim) same
    one (Fills f) = refl
    one (Rewrites u f) = refl
    one (Passes u) = refl
    one Offers = refl
