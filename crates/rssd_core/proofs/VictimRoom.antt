-- The victim of a collection has fewer live records than a block has pages, where the sectors leave a block and a page to spare.
use Rattle.std.proofs.Common.{◌≡◌, ◌≢◌, inl, inr, ℕ, zero, suc, ◌+◌, ◌-◌, ◌*◌, ◌<◌, ◌≤◌, Bool, true, false, cond, List, [], ◌∷◌, length, ◌==◌, nat_lt, Option, Some, None, refl, sym, ap, ◌∙◌}
use Rattle.std.proofs.Common.{subst, arith}
use native.Mathlib.Nat.{suc-mul}
use Rattle.std.specs.List.{count_by, range_with_len}
use Rattle.std.proofs.lemmas.Bool.{cases_eq, cases_lt}
use Rattle.std.proofs.lemmas.Bool.Decides.{nat_tests}
use Rattle.std.proofs.lemmas.List.Sums.{sum_by-cons}
use Rattle.sector_map.specs.declared.entry.Entry.{Entry}
use Rattle.block_state.specs.declared.state.State.{State}
use Rattle.block_state.specs.declared.state.State.TheVariants.{Clean, Active, Used, Recycled, Reused, Spare}
use Rattle.block_state.specs.State.{is_active, is_closed, is_spare}
use Rattle.block_state.specs.Book.{BookValue, IsClosed, state_at, live_at}
use Rattle.page_alloc.specs.CleanPage.{IsCollectBranch}
use Rattle.page_codec.specs.Geometry.{Geometry, block_of}
use Rattle.page_codec.specs.Records.{Placed, live_record}
use Rattle.page_codec.specs.Sound.{live_count, stands_in}
use Rattle.page_codec.specs.TrueBook.{IsTrue}
use Rattle.collector.proofs.Counting.{few_pass}

-- where one test passes as often as two others together, so it counts
count_split : (p q r : ℕ → Bool) (xs : List ℕ) → ((k : ℕ) → cond (r k) 1 0 ≡ cond (p k) 1 0 + cond (q k) 1 0) → count_by r xs ≡ count_by p xs + count_by q xs
count_split p q r [] f = refl
count_split p q r (x ∷ xs) f = omega (arith, f x, count_split p q r xs f, sum_by-cons (λ k. cond (p k) 1 0) x xs, sum_by-cons (λ k. cond (q k) 1 0) x xs, sum_by-cons (λ k. cond (r k) 1 0) x xs)

-- whether a live record stands in a block below n
stands_below : Geometry → ℕ → Option Placed → Bool
stands_below g n None = false
stands_below g n (Some placed) = nat_lt (block_of g placed.place.page) n

one_more : (b n : ℕ) → cond (nat_lt b (n + 1)) 1 0 ≡ cond (nat_lt b n) 1 0 + cond (b == n) 1 0
one_more b n = grind (arith, nat_tests)

below_more : (g : Geometry) (n : ℕ) (o : Option Placed) → cond (stands_below g (n + 1) o) 1 0 ≡ cond (stands_below g n o) 1 0 + cond (stands_in g n o) 1 0
unfolding stands_below
below_more g n None = refl
below_more g n (Some placed) = one_more (block_of g placed.place.page) n

module _ (g : Geometry) (cells : List (List ℕ)) (book : BookValue) (table : List (Option Entry)) (seq victim spare : ℕ) (t : IsTrue g cells book table seq)
    (branch : IsCollectBranch book victim spare) where
  -- the sectors whose live records stand in blocks below n
  lives_below : ℕ → ℕ
  lives_below n = count_by (λ s. stands_below g n (live_record g cells s)) (range_with_len 0 g.sectors)

  lives_more : (n : ℕ) → lives_below (n + 1) ≡ lives_below n + live_count g cells n
  unfolding lives_below live_count
  lives_more n =
      count_split (λ s. stands_below g n (live_record g cells s)) (λ s. stands_in g n (live_record g cells s)) (λ s. stands_below g (n + 1) (live_record g cells s)) (range_with_len 0 g.sectors)
      (λ s. below_more g n (live_record g cells s))

  -- every block but the Spare is closed
  closed_else : (c : ℕ) → c < length book.states → c ≢ spare → IsClosed book c
  closed_else c within apart = at (state_at book c) refl
    where
      at : (s : State) → state_at book c ≡ s → IsClosed book c
      at Clean is = absurd (branch.0.1 c within (within, is))
      at (Active fill) is = absurd (branch.0.0 c (ap is_active is))
      at (Used level) is = ap is_closed is
      at (Recycled level next) is = ap is_closed is
      at Reused is = ap is_closed is
      at (Spare mark) is = absurd (apart (t.one_spare.2 c (ap is_spare is) ∙ sym (t.one_spare.2 spare branch.3)))

  at_least : (c : ℕ) → c < g.blocks → c ≢ spare → live_at book victim ≤ live_count g cells c
  at_least c inside apart = subst (λ (n : ℕ). live_at book victim ≤ n) (t.live_counts c inside)
      (branch.1.fewest c (closed_else c (subst (λ (n : ℕ). c < n) (sym t.sizes.blocks) inside) apart) (omega arith))

  -- blocks below n hold as many, but for the Spare
  filled_below : (w n : ℕ) → w ≤ live_at book victim → n ≤ g.blocks → n * w ≤ lives_below n + cond (nat_lt spare n) w 0
  filled_below w zero few inside = omega arith
  filled_below w (suc n) few inside = elim (cases_eq n spare) [
    | inl here ↦ (
        let past : cond (nat_lt spare n) w 0 ≡ 0 = ap (λ (b : Bool). cond b w 0) (not_below n spare here) in
        let now : cond (nat_lt spare (suc n)) w 0 ≡ w = ap (λ (b : Bool). cond b w 0) (is_below n spare here) in
        omega (arith, filled_below w n few (omega arith), more n, suc-mul n w))
    | inr apart ↦ (
        let same : cond (nat_lt spare (suc n)) w 0 ≡ cond (nat_lt spare n) w 0 = ap (λ (b : Bool). cond b w 0) (as_below n spare apart) in
        omega (arith, filled_below w n few (omega arith), more n, at_least n (omega arith) apart, suc-mul n w))
  ]
    where
      more : (n : ℕ) → lives_below (suc n) ≡ lives_below n + live_count g cells n
      more n = ap lives_below (plus n) ∙ lives_more n
        where
          plus : (n : ℕ) → suc n ≡ n + 1
          plus n = omega arith

      not_below : (n s : ℕ) → n ≡ s → nat_lt s n ≡ false
      not_below n s e = grind (arith, nat_tests)

      is_below : (n s : ℕ) → n ≡ s → nat_lt s (suc n) ≡ true
      is_below n s e = grind (arith, nat_tests)

      as_below : (n s : ℕ) → n ≢ s → nat_lt s (suc n) ≡ nat_lt s n
      as_below n s e = grind (arith, nat_tests)

  at_most : (n w : ℕ) (b : Bool) → cond b w 0 ≤ w
  at_most n w true = omega arith
  at_most n w false = omega arith

  few_lives : lives_below g.blocks ≤ g.sectors
  unfolding lives_below
  few_lives = few_pass (λ s. stands_below g g.blocks (live_record g cells s)) g.sectors

  pub victim_has_room : 0 < g.blocks → g.sectors < (g.blocks - 1) * g.pages → live_at book victim < g.pages
  victim_has_room some room = elim (cases_lt (live_at book victim) g.pages) [
    | inl less ↦ less
    | inr full ↦ absurd (too_many g.blocks g.pages some
        (omega (arith, filled_below g.pages g.blocks full (omega arith), at_most g.blocks g.pages (nat_lt spare g.blocks), few_lives, room)))
  ]
    where
      too_many : (n w : ℕ) → 0 < n → n * w < (n - 1) * w + w → ⊥
      too_many zero w some less = omega arith
      too_many (suc n) w some less = omega (arith, suc-mul n w, ap (λ (m : ℕ). m * w) (minus n), less)
        where
          minus : (n : ℕ) → suc n - 1 ≡ n
          minus n = omega arith
