-- A page of a store comes to hand: the victim is wiped, or collected into the Spare, or a block is at hand or taken.
use Rattle.std.proofs.Common.{◌≡◌, ◌⊎◌, ℕ, ◌+◌, ◌*◌, ◌^◌, ◌<◌, false, Bool, List, length, Option, Ok, Err, refl, sym, ap, ◌∙◌, subst, arith}
use Rattle.cell_die.specs.Changes.{IsErased, SameCells, OnlyBlock, ErasedInPart}
use Rattle.cell_die.specs.DieState.{DieState, IsShaped}
use Rattle.cell_die.specs.Calls.{Kept, Passed, ChangeFailed}
use Rattle.cell_die.specs.Counts.{count_sum}
use Rattle.striped.specs.Meaning.{Meaning}
use Rattle.sector_map.specs.declared.entry.Entry.{Entry}
use Rattle.block_state.specs.declared.state.State.TheVariants.{Active}
use Rattle.block_state.specs.Book.{BookValue, live_at, state_at, with_state}
use Rattle.page_alloc.specs.CleanPage.{IsPageBranch, IsTakeBranch, IsWipeBranch, IsCollectBranch}
use Rattle.page_codec.specs.declared.fault.PutFault.TheVariants.{Read, Change}
use Rattle.page_codec.specs.Geometry.{Geometry}
use Rattle.page_codec.specs.Sizes.{Sizes}
use Rattle.page_codec.specs.TrueBook.{IsTrue}
use Rattle.collector.specs.Collections.{Collected, CollectReadFailed, CollectChangeFailed}
use Rattle.collector.specs.Erases.{erased_in, EraseEnds}
use Rattle.collector.specs.Store.{geometry_of, store, IsTrueStore, Holds}
use Rattle.collector.proofs.Tables.{live_map_long}
use Rattle.rssd_core.specs.Held.{Held, IsHeld, held}
use Rattle.rssd_core.specs.Placing.{CameToHand, OpenEnds}
use Rattle.rssd_core.proofs.CollectedLaws.{opened_collect, collect_unread, collect_failed}
use Rattle.rssd_core.proofs.IdleRun.{holds_refl}
use Rattle.rssd_core.proofs.OpenedLaws.{opened_page, opened_take, opened_wipe, wipe_failed, wipe_erases}
use Rattle.rssd_core.proofs.Served.{shape_is}
use Rattle.rssd_core.proofs.VictimRoom.{victim_has_room}
use Rattle.rssd_core.proofs.Wiping.{Erasing, wipe_holds, torn_holds}

-- a tally that nothing is added to
pub tally_stays : (moved : ℕ) → moved < 2 ^ 64 → moved ≡ count_sum moved 0
tally_stays moved small = omega arith

-- true tables have an entry for each sector
pub true_long : {g : Geometry} {cells : List (List ℕ)} {book : BookValue} {table : List (Option Entry)} {seq : ℕ} → IsTrue g cells book table seq → length table ≡ g.sectors
true_long {g = g} {cells = cells} t = ap (length {A = Option Entry}) t.entries ∙ live_map_long g cells

-- a change of the book alone
pub take_holds : {C : Type 0} {meaning : C → Meaning} {die : DieState} {scheme : C} {sizes : Sizes} {table : List (Option Entry)} {book : BookValue} {seq moved room : ℕ} {stopped : Bool}
    → IsHeld meaning sizes room (held meaning die scheme table book seq moved stopped) → (book' : BookValue)
    → Holds (geometry_of die.shape (meaning scheme) (length table)) (store die table book seq) (store die table book' seq)
take_holds {meaning = meaning} {die = die} {scheme = scheme} {table = table} {book = book} {seq = seq} kept book' =
    let same = holds_refl (geometry_of die.shape (meaning scheme) (length table)) (store die table book seq) in
    record { kept = same.kept; pads = same.pads; sound = same.sound; seqs = same.seqs; drew = same.drew }

-- the numbers and the tables before the call
module _ {C : Type 0} {meaning : C → Meaning} {die : DieState} {scheme : C} {sizes : Sizes} {table : List (Option Entry)} {book : BookValue} {seq moved room : ℕ} {stopped : Bool}
    {old : Held C} (is : held meaning die scheme table book seq moved stopped ≡ old) (kept : IsHeld meaning sizes room (held meaning die scheme table book seq moved stopped))
    (running : old.stopped ≡ false) where
  pub true_before : IsTrueStore (geometry_of die.shape (meaning scheme) (length table)) (store die table book seq)
  true_before = kept.stands.tables (subst (λ (x : Held C). x.stopped ≡ false) (sym is) running)

  -- a page was at hand
  pub page_opened : {page : ℕ} → IsPageBranch book page → moved < 2 ^ 64 → CameToHand old.geometry (meaning old.scheme).decoding page old.cells old.cells old.moved old.moved
  page_opened {page = page} branch small =
      subst (λ (x : Held C). CameToHand x.geometry (meaning x.scheme).decoding page x.cells x.cells x.moved x.moved) is
      (record {
        rise = 0;
        opened = opened_page (geometry_of die.shape (meaning scheme) (length table)) (meaning scheme).decoding page (store die table book seq) true_before branch;
        tally = tally_stays moved small;
      })

  -- a Clean block was taken
  take_parts : {block page : ℕ} {book' : BookValue} → IsTakeBranch book block → moved < 2 ^ 64 → book' ≡ with_state book block (Active 0) → page ≡ block * book.pages
      → CameToHand (geometry_of die.shape (meaning scheme) (length table)) (meaning scheme).decoding page (store die table book seq) (store die table book' seq) moved moved
  take_parts {block = block} {page = page} branch small books at =
      subst (λ (b : BookValue). CameToHand (geometry_of die.shape (meaning scheme) (length table)) (meaning scheme).decoding page (store die table book seq) (store die table b seq) moved moved)
      (sym books)
      (record {
        rise = 0;
        opened = opened_take (geometry_of die.shape (meaning scheme) (length table)) (meaning scheme).decoding block page (store die table book seq) kept.stands.sized true_before branch at;
        tally = tally_stays moved small;
      })

  pub take_opened : {block page : ℕ} {book' : BookValue} → IsTakeBranch book block → moved < 2 ^ 64 → book' ≡ with_state book block (Active 0) → page ≡ block * book.pages
      → CameToHand old.geometry (meaning old.scheme).decoding page old.cells (store die table book' seq) old.moved moved
  take_opened {page = page} {book' = book'} branch small books at =
      subst (λ (x : Held C). CameToHand x.geometry (meaning x.scheme).decoding page x.cells (store die table book' seq) x.moved moved) is (take_parts branch small books at)

  pub take_true : {block page : ℕ} {book' : BookValue} → IsTakeBranch book block → moved < 2 ^ 64 → book' ≡ with_state book block (Active 0) → page ≡ block * book.pages
      → IsTrueStore (geometry_of die.shape (meaning scheme) (length table)) (store die table book' seq)
  take_true branch small books at = (take_parts branch small books at).opened.tables

  -- an erase of the victim of a wipe
  module _ {block : ℕ} (branch : IsWipeBranch old.cells.book block) where
    wipe_here : IsWipeBranch book block
    wipe_here = subst (λ (x : Held C). IsWipeBranch x.cells.book block) (sym is) branch

    module _ {new : DieState} (same : Kept die new) (shaped : IsShaped die) (shaped_new : IsShaped new) (only : OnlyBlock block die new) where
      erasing : Erasing (geometry_of die.shape (meaning scheme) (length table)) die new block
      erasing = wipe_erases (geometry_of die.shape (meaning scheme) (length table)) block (store die table book seq) new kept.stands.sized
          (shape_is die.shape (meaning scheme) (length table) sizes kept.die kept.scheme) same shaped shaped_new only true_before wipe_here

      pub wiped_holds : (book' : BookValue) → IsErased block die new → Holds (geometry_of die.shape (meaning scheme) (length table)) (store die table book seq) (store new table book' seq)
      wiped_holds book' erased = wipe_holds (geometry_of die.shape (meaning scheme) (length table)) die new block table table book book' seq erasing erased

      pub unwiped_holds : SameCells die new ⊎ ErasedInPart block die new → ChangeFailed 1 0 die new
          → Holds (geometry_of die.shape (meaning scheme) (length table)) (store die table book seq) (store new table book seq)
      unwiped_holds how failed = torn_holds (geometry_of die.shape (meaning scheme) (length table)) (meaning scheme).decoding die new block table table book book seq erasing how failed.change_faults

      wipe_parts : {page : ℕ} {book' : BookValue} → IsErased block die new → Passed 1 0 die new → moved < 2 ^ 64 → book' ≡ with_state book block (Active 0) → page ≡ block * book.pages
          → CameToHand (geometry_of die.shape (meaning scheme) (length table)) (meaning scheme).decoding page (store die table book seq) (store new table book' seq) moved moved
      wipe_parts {page = page} erased passed small books at =
          subst (λ (b : BookValue). CameToHand (geometry_of die.shape (meaning scheme) (length table)) (meaning scheme).decoding page (store die table book seq) (store new table b seq) moved moved)
          (sym books)
          (record {
            rise = 0;
            opened =
                opened_wipe (geometry_of die.shape (meaning scheme) (length table)) (meaning scheme).decoding block page (store die table book seq) new erasing erased passed true_before wipe_here at;
            tally = tally_stays moved small;
          })

      pub wipe_opened : {page : ℕ} {book' : BookValue} → IsErased block die new → Passed 1 0 die new → moved < 2 ^ 64 → book' ≡ with_state book block (Active 0) → page ≡ block * book.pages
          → CameToHand old.geometry (meaning old.scheme).decoding page old.cells (store new table book' seq) old.moved moved
      wipe_opened {page = page} {book' = book'} erased passed small books at =
          subst (λ (x : Held C). CameToHand x.geometry (meaning x.scheme).decoding page x.cells (store new table book' seq) x.moved moved) is (wipe_parts erased passed small books at)

      pub wipe_true : {page : ℕ} {book' : BookValue} → IsErased block die new → Passed 1 0 die new → moved < 2 ^ 64 → book' ≡ with_state book block (Active 0) → page ≡ block * book.pages
          → IsTrueStore (geometry_of die.shape (meaning scheme) (length table)) (store new table book' seq)
      wipe_true erased passed small books at = (wipe_parts erased passed small books at).opened.tables

      pub wipe_fails : SameCells die new ⊎ ErasedInPart block die new → ChangeFailed 1 0 die new
          → OpenEnds old.geometry (meaning old.scheme).decoding (Err Change) old.cells (store new table book seq) old.moved moved
      wipe_fails how failed =
          subst (λ (x : Held C). OpenEnds x.geometry (meaning x.scheme).decoding (Err Change) x.cells (store new table book seq) x.moved moved) is
          (wipe_failed (geometry_of die.shape (meaning scheme) (length table)) (meaning scheme).decoding block (store die table book seq) new erasing how failed true_before wipe_here, refl)

  -- a collection of the victim
  module _ {victim : ℕ} (spare : ℕ) (branch : IsCollectBranch old.cells.book victim spare) where
    pub collect_here : IsCollectBranch book victim spare
    collect_here = subst (λ (x : Held C). IsCollectBranch x.cells.book victim spare) (sym is) branch

    pub victim_few : live_at book victim < die.shape.pages
    victim_few =
        victim_has_room (geometry_of die.shape (meaning scheme) (length table)) die.cells book table seq victim spare true_before collect_here
        (omega (arith, kept.stands.sized.two_blocks)) kept.stands.spare

    module _ {new : DieState} {table' : List (Option Entry)} {book' : BookValue} {seq' : ℕ} where
      pub collect_opened : {page moved' : ℕ} (copies : ℕ) → EraseEnds {A = ℕ} (erased_in (state_at book spare) spare) (Ok copies) die new
          → Collected (geometry_of die.shape (meaning scheme) (length table)) (meaning scheme).decoding victim spare (store die table book seq) (store new table' book' seq')
          → page ≡ spare * book.pages + live_at book victim → moved' ≡ count_sum moved (live_at book victim)
          → CameToHand old.geometry (meaning old.scheme).decoding page old.cells (store new table' book' seq') old.moved moved'
      collect_opened {page = page} {moved' = moved'} copies erased collected at tally =
          subst (λ (x : Held C). CameToHand x.geometry (meaning x.scheme).decoding page x.cells (store new table' book' seq') x.moved moved') is
          (record {
            rise = live_at book victim;
            opened = opened_collect (geometry_of die.shape (meaning scheme) (length table)) (meaning scheme).decoding victim spare (store die table book seq) (store new table' book' seq')
                true_before collect_here victim_few page erased collected at;
            tally = tally;
          })

      pub collect_unread_here : EraseEnds {A = ℕ} (erased_in (state_at book spare) spare) (Err Read) die new
          → CollectReadFailed (geometry_of die.shape (meaning scheme) (length table)) (meaning scheme).decoding victim spare (store die table book seq) (store new table' book' seq')
          → OpenEnds old.geometry (meaning old.scheme).decoding (Err Read) old.cells (store new table' book' seq') old.moved moved
      collect_unread_here erased failed =
          subst (λ (x : Held C). OpenEnds x.geometry (meaning x.scheme).decoding (Err Read) x.cells (store new table' book' seq') x.moved moved) is (
            collect_unread (geometry_of die.shape (meaning scheme) (length table)) (meaning scheme).decoding victim spare (store die table book seq) (store new table' book' seq')
                true_before collect_here victim_few erased failed,
            refl,
          )

      pub collect_failed_here : EraseEnds {A = ℕ} (erased_in (state_at book spare) spare) (Err Change) die new
          → CollectChangeFailed (geometry_of die.shape (meaning scheme) (length table)) (meaning scheme).decoding victim spare (store die table book seq) (store new table' book' seq')
          → OpenEnds old.geometry (meaning old.scheme).decoding (Err Change) old.cells (store new table' book' seq') old.moved moved
      collect_failed_here erased failed =
          subst (λ (x : Held C). OpenEnds x.geometry (meaning x.scheme).decoding (Err Change) x.cells (store new table' book' seq') x.moved moved) is (
            collect_failed (geometry_of die.shape (meaning scheme) (length table)) (meaning scheme).decoding victim spare (store die table book seq) (store new table' book' seq')
                true_before collect_here victim_few erased failed,
            refl,
          )
