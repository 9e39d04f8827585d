-- The counts of a device's calls, bounded by the device's numbers.
use Rattle.std.proofs.Common.{◌≡◌, ℕ, ◌+◌, ◌-◌, ◌*◌, ◌<◌, ◌≤◌, Bool, true, false, cond, if◌then◌else◌, ◌==◌, List, [], ◌∷◌, sum_by, count_by, Option, Some, None, sym, subst, arith}
use Rattle.std.specs.List.{range_with_len}
use Rattle.std.proofs.lemmas.Nat.{div-add-mod'}
use Rattle.std.proofs.lemmas.List.Sums.{sum_by-append}
use native.Mathlib.Nat.{mul-le-mul_right}
use Rattle.block_state.specs.declared.state.State.{State}
use Rattle.block_state.specs.declared.state.State.TheVariants.{Spare}
use Rattle.block_state.specs.Book.{state_at, live_at}
use Rattle.page_alloc.specs.declared.next_page.NextPage.{NextPage}
use Rattle.page_alloc.specs.declared.next_page.NextPage.TheVariants.{Page, Take, Wipe, Collect}
use Rattle.page_alloc.specs.CleanPage.{IsNext, IsCollectBranch}
use Rattle.page_codec.specs.Geometry.{Geometry}
use Rattle.page_codec.specs.Records as records
use Rattle.page_codec.specs.Records.{live_record}
use Rattle.page_codec.specs.Sectors.{says_zeros}
use Rattle.page_codec.specs.Sound.{stands_in, live_count}
use Rattle.page_codec.specs.TrueBook.{IsTrueBook, live_map}
use Rattle.collector.specs.Moves.{get_reads}
use Rattle.rssd_core.specs.declared.device.Placed.{Placed}
use Rattle.rssd_core.specs.declared.device.Placed.TheVariants.{First, Second, Declined}
use Rattle.rssd_core.specs.Rules.{next_page}
use Rattle.rssd_core.specs.Calls.{erase_calls, calls_before, clean_calls, collection_reads}
use Rattle.rssd_core.specs.DeviceValue.{Numbers, DeviceView}
use Rattle.rssd_core.specs.Steps.{IsSized}
use Rattle.rssd_core.specs.Within.{holds_bytes, record_of, write_calls, write_reads}
use Rattle.rssd_core.specs.WorstCases.{most_changes, most_collection_reads, WorstCases}
use Rattle.rssd_core.proofs.Chained.{count_by-append}
use Rattle.rssd_core.proofs.ClosedBlocks.{closed_within}
use Rattle.rssd_core.proofs.IdleRun.{few_reads}
use Rattle.rssd_core.proofs.Rules.{next_is}
use Rattle.rssd_core.proofs.VictimRoom.{victim_has_room}

erase_few : (s : State) → erase_calls s ≤ 1
erase_few (Spare true) = omega arith
erase_few (Spare false) = omega arith
erase_few s = omega arith

-- getting a record reads a unit at most
gets_few : (g : Geometry) → 0 < g.span → (o : Option records.Placed) → get_reads g o ≤ g.span
gets_few g some None = omega arith
gets_few g some (Some placed) = at (says_zeros placed.header) (placed.place.slot == 0)
  where
    at : (z s : Bool) → (if z then 0 else (if s then 1 else g.span)) ≤ g.span
    at true s = omega arith
    at false true = omega arith
    at false false = omega arith

-- weights of at most m, of those that pass
weighed : (p : ℕ → Bool) (w : ℕ → ℕ) (m : ℕ) → ((k : ℕ) → w k ≤ m) → (xs : List ℕ) → sum_by (λ k. if p k then w k else 0) xs ≤ count_by p xs * m
weighed p w m few [] = omega arith
weighed p w m few (x ∷ xs) =
    let sum : sum_by (λ k. if p k then w k else 0) (x ∷ xs) ≡ (if p x then w x else 0) + sum_by (λ k. if p k then w k else 0) xs =
    (let e = sum_by-append (λ k. if p k then w k else 0) (x ∷ []) xs in omega (arith, e)) in
    let count : count_by p (x ∷ xs) ≡ cond (p x) 1 0 + count_by p xs = (let e = count_by-append p (x ∷ []) xs in omega (arith, e)) in
    subst (λ (n : ℕ). sum_by (λ k. if p k then w k else 0) (x ∷ xs) ≤ n * m) (sym count)
    (subst (λ (n : ℕ). n ≤ (cond (p x) 1 0 + count_by p xs) * m) (sym sum) (at (p x) (sum_by (λ k. if p k then w k else 0) xs) (count_by p xs) (weighed p w m few xs)))
  where
    at : (b : Bool) (r c : ℕ) → r ≤ c * m → (if b then w x else 0) + r ≤ (cond b 1 0 + c) * m
    at true r c rest = let here = few x in omega (arith, here, rest)
    at false r c rest = omega (arith, rest)

-- a unit is no larger than a block
span_fits : (g : Geometry) → IsSized g → g.span ≤ g.pages
span_fits g sized = let whole = div-add-mod' g.pages g.span in let one = mul-le-mul_right g.span sized.some_units in omega (arith, whole, one)

module _ (d : Numbers) (view : DeviceView) (next : NextPage) (sized : IsSized d.geometry) (room : d.geometry.sectors < (d.geometry.blocks - 1) * d.geometry.pages)
    (t : IsTrueBook d.geometry d.reuse_max view.die.cells view.book (live_map d.geometry view.die.cells) view.seq) (is : IsNext view.book next) where
  next_here : next_page view.book ≡ next
  next_here = next_is view.book t.tables.kept t.tables.one_spare next is

  live_few : (victim spare : ℕ) → IsCollectBranch view.book victim spare → live_at view.book victim < d.geometry.pages
  live_few victim spare branch =
      victim_has_room d.geometry view.die.cells view.book (live_map d.geometry view.die.cells) view.seq victim spare t.tables branch (let two = sized.two_blocks in omega (arith, two)) room

  calls_few : (n : NextPage) → IsNext view.book n → calls_before view.book n + 2 ≤ most_changes d.geometry
  calls_few (Page page) branch = let some = sized.pages in omega (arith, some)
  calls_few (Take block) branch = let some = sized.pages in omega (arith, some)
  calls_few (Wipe block) branch = let some = sized.pages in omega (arith, some)
  calls_few (Collect victim spare) branch = let live = live_few victim spare branch in let one = erase_few (state_at view.book spare) in omega (arith, live, one)

  reads_few : (n : NextPage) → IsNext view.book n → collection_reads d.geometry view.die.cells n ≤ most_collection_reads d.geometry
  unfolding live_count
  reads_few (Page page) branch = omega arith
  reads_few (Take block) branch = omega arith
  reads_few (Wipe block) branch = omega arith
  reads_few (Collect victim spare) branch =
      let live = live_few victim spare branch in
      let inside : victim < d.geometry.blocks = subst (λ (n : ℕ). victim < n) t.tables.sizes.blocks (closed_within view.book victim branch.1.closed) in
      let counted = t.tables.live_counts victim inside in
      let sum =
      weighed (λ sector. stands_in d.geometry victim (live_record d.geometry view.die.cells sector)) (λ sector. get_reads d.geometry (live_record d.geometry view.die.cells sector)) d.geometry.span
      (λ sector. gets_few d.geometry sized.span (live_record d.geometry view.die.cells sector)) (range_with_len 0 d.geometry.sectors) in
      let few : live_at view.book victim ≤ d.geometry.pages - 1 = omega (arith, live) in
      let product : live_at view.book victim * d.geometry.span ≤ (d.geometry.pages - 1) * d.geometry.span = mul-le-mul_right d.geometry.span few in
      let all : count_by (λ sector. stands_in d.geometry victim (live_record d.geometry view.die.cells sector)) (range_with_len 0 d.geometry.sectors) * d.geometry.span ≤
      (d.geometry.pages - 1) * d.geometry.span =
      subst (λ (n : ℕ). n * d.geometry.span ≤ (d.geometry.pages - 1) * d.geometry.span) counted product in
      omega (arith, sum, all)

  clean_few : clean_calls view.book ≤ most_changes d.geometry
  clean_few = subst (λ (n : NextPage). calls_before view.book n + 2 ≤ most_changes d.geometry) (sym next_here) (calls_few next is)

  collect_few : collection_reads d.geometry view.die.cells (next_page view.book) ≤ most_collection_reads d.geometry
  collect_few = subst (λ (n : NextPage). collection_reads d.geometry view.die.cells n ≤ most_collection_reads d.geometry) (sym next_here) (reads_few next is)

  write_few : (placed : Placed) → write_calls d view placed ≤ most_changes d.geometry
  write_few First = clean_few
  write_few Second = let fits = span_fits d.geometry sized in omega (arith, fits)
  write_few Declined = clean_few

  write_read_few : (placed : Placed) → write_reads d view placed ≤ d.geometry.span + most_collection_reads d.geometry
  write_read_few First = let few = collect_few in omega (arith, few)
  write_read_few Second = omega arith
  write_read_few Declined = let few = collect_few in omega (arith, few)

  if_few : (b : Bool) (n most : ℕ) → n ≤ most → (if b then n else 0) ≤ most
  if_few true n most few = few
  if_few false n most few = omega arith

  worst : WorstCases d view
  worst = record {
    read = λ sector. gets_few d.geometry sized.span (record_of d view sector);
    write = write_few;
    write_read = write_read_few;
    trim = λ sector. if_few (holds_bytes (record_of d view sector)) (clean_calls view.book) (most_changes d.geometry) clean_few;
    trim_read = λ sector. if_few (holds_bytes (record_of d view sector)) (collection_reads d.geometry view.die.cells (next_page view.book)) (most_collection_reads d.geometry) collect_few;
    move = λ victim first is_first.
        let some = sized.span in
        let few = few_reads d.geometry view.die.cells victim first sized.pages is_first in
        omega (arith, some, few);
  }

pub worst_cases : (d : Numbers) (view : DeviceView) (next : NextPage) → IsSized d.geometry → d.geometry.sectors < (d.geometry.blocks - 1) * d.geometry.pages
    → IsTrueBook d.geometry d.reuse_max view.die.cells view.book (live_map d.geometry view.die.cells) view.seq → IsNext view.book next → WorstCases d view
worst_cases d view next sized room t is = worst d view next sized room t is
