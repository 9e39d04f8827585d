-- A record on the Active block's next page, from the gate to the end of the record effect: what the effect asks, and what it leaves.
use Rattle.std.proofs.Common.{◌≡◌, ◌≢◌, ℕ, ◌+◌, ◌*◌, ◌/◌, ◌<◌, true, List, length, slice_set, if◌then◌else◌, Option, Some, sym, ap, ◌∙◌, arith, subst}
use Rattle.std.proofs.lemmas.Nat.{mul-le}
use Rattle.zero_count.specs.declared.Header.{Header}
use Rattle.striped.specs.Meaning.{Decoding}
use Rattle.sector_map.specs.declared.entry.Entry.{Entry}
use Rattle.sector_map.specs.declared.entry.Place2.{Place2}
use Rattle.sector_map.specs.Entry.{place_of, entry_at}
use Rattle.block_state.specs.declared.state.State.{State}
use Rattle.block_state.specs.declared.state.State.TheVariants.{Active}
use Rattle.block_state.specs.State.{is_active}
use Rattle.block_state.specs.Book.{BookValue, state_at, live_at}
use Rattle.page_codec.specs.Geometry.{Geometry, page_count}
use Rattle.page_codec.specs.Records.{live_record}
use Rattle.page_codec.specs.Sectors.{said_by, stored}
use Rattle.page_codec.specs.Gate.{GateWins}
use Rattle.page_codec.specs.Puts.{first_slot}
use Rattle.page_codec.specs.TrueBook.{IsTrue, entry_of}
use Rattle.collector.specs.Store.{Store, IsTrueStore}
use Rattle.collector.specs.Effects.{recorded, filled, after_record, block_in, former_in, MayDrop}
use Rattle.collector.proofs.Books.{active_within}
use Rattle.collector.proofs.NextPage.{PutsNext, next_page, next_gate, next_page_within, block_of_next, may_hold_next, none_committed, wins_from_gate, stores_from_gate}
use Rattle.collector.proofs.Rows.{rows_after}
use Rattle.collector.proofs.Tables.{room_true, former_true, effect_true}

-- an Active block fills
pub after_active : (v : BookValue) (b f : ℕ) (former : Option ℕ) → state_at v b ≡ Active f → after_record v b former ≡ filled (recorded v b former) b
after_active v b f former active = ap (λ (s : State). if is_active s then filled (recorded v b former) b else recorded v b former) active

-- an entry for the next page names the Active block
pub in_block : (g : Geometry) (block fill : ℕ) (v : BookValue) (entry : Entry) → v.pages ≡ g.pages → fill < g.pages → place_of entry ≡ record { page = next_page g block fill; slot = 0 }
    → block_in v entry ≡ block
in_block g block fill v entry pages room placed =
    ap (λ (x : Place2). x.page / v.pages) placed ∙ (ap (λ (n : ℕ). next_page g block fill / n) pages ∙ block_of_next g block fill room)

-- what the record effect asks
pub record MayRecord (book : BookValue) (table : List (Option Entry)) (sector : ℕ) (entry : Entry) : Type 0 where
  pub sector_in : sector < length table
  pub page : (place_of entry).page < 131072
  pub slot : (place_of entry).slot < 4
  pub some_pages : 0 < book.pages
  pub block : block_in book entry < length book.states
  pub room : live_at book (block_in book entry) < book.generations * book.pages
  pub former : MayDrop book (former_in book (entry_at table sector))

-- what a record leaves that was put on the next page of the Active block, with its gate charged and the record effect
pub record Recorded (g : Geometry) (d : Decoding) (block fill : ℕ) (h : Header) (old new : Store) : Type 0 where
  -- it is the live record of its sector, and no other sector's changes
  pub live : live_record g new.die.cells h.sector ≡ Some (record { place = first_slot (next_page g block fill); header = h })
  pub others : (sector : ℕ) → sector ≢ h.sector → live_record g new.die.cells sector ≡ live_record g old.die.cells sector
  -- its sector is what it says, and all others stay
  pub rows : stored g d new.die.cells ≡ slice_set (stored g d old.die.cells) h.sector (said_by g d new.die.cells (Some (record { place = first_slot (next_page g block fill); header = h })))
  pub tables : IsTrueStore g new

module _ (g : Geometry) (block fill : ℕ) (h : Header) (old new : List (List ℕ)) (p : PutsNext g block fill h old new) (book : BookValue) (table : List (Option Entry)) (seq : ℕ)
    (t : IsTrue g old book table seq) (active : state_at book block ≡ Active fill) (sectors : length table ≡ g.sectors) (entry : Entry)
    (placed : place_of entry ≡ record { page = next_page g block fill; slot = 0 }) where
  pub next_may_record : MayRecord book table h.sector entry
  next_may_record = record {
    sector_in = omega (arith, p.sector);
    page = subst (λ (q : ℕ). q < 131072) (sym (ap (λ (x : Place2). x.page) placed)) (few (next_page_within g block fill p.block_in p.active.room));
    slot = let zero_slot : (place_of entry).slot ≡ 0 = ap (λ (x : Place2). x.slot) placed in omega arith;
    some_pages = omega (arith, p.active.room, t.sizes.pages);
    block = subst (λ (b : ℕ). b < length book.states) (sym names) (active_within book block fill active);
    room = subst (λ (b : ℕ). live_at book b < book.generations * book.pages) (sym names)
        (room_true g old book table seq t (first_slot (next_page g block fill)) block (block_of_next g block fill p.active.room) p.block_in
        (may_hold_next g block fill p.block_in p.active.room) (none_committed g block fill h old new p));
    former = former_true g old book table seq t h.sector p.sector (omega (arith, p.active.room));
  }
    where
      names : block_in book entry ≡ block
      names = in_block g block fill book entry t.sizes.pages p.active.room placed

      few : next_page g block fill < page_count g → next_page g block fill < 131072
      few below = omega (arith, mul-le g.blocks g.pages 1024 128 (omega (arith, t.sizes.blocks, t.kept.few_blocks)) (omega (arith, t.sizes.pages, t.kept.few_pages)))

-- The record effect after the gate of a record on the Active block's next page.
pub next_recorded : (g : Geometry) (d : Decoding) (block fill : ℕ) (h : Header) (old new : Store) (entry : Entry) → PutsNext g block fill h old.die.cells new.die.cells
    → next_gate g block fill new.die.cells ≡ true
    → IsTrueStore g old → state_at old.book block ≡ Active fill → h.seq ≡ old.seq
    → place_of entry ≡ record { page = next_page g block fill; slot = 0 } → entry_of (Some (record { place = first_slot (next_page g block fill); header = h })) ≡ Some entry
    → new.table ≡ slice_set old.table h.sector (Some entry) → new.book ≡ after_record old.book (block_in old.book entry) (former_in old.book (entry_at old.table h.sector)) → new.seq ≡ old.seq + 1
    → Recorded g d block fill h old new
next_recorded g d block fill h old new entry p charged t active drawn placed names map_is book_is next =
    let wins : GateWins g old.die.cells new.die.cells (first_slot (next_page g block fill)) h = wins_from_gate g block fill h old.die.cells new.die.cells p charged in
    record {
      live = wins.live;
      others = wins.others;
      rows = rows_after g d (first_slot (next_page g block fill)) h old.die.cells new.die.cells (stores_from_gate g block fill h old.die.cells new.die.cells p d charged) p.sector;
      tables = subst (λ (n : ℕ). IsTrue g new.die.cells new.book new.table n) (sym next)
          (subst (λ (map : List (Option Entry)). IsTrue g new.die.cells new.book map (old.seq + 1)) (sym map_is)
          (subst (λ (v : BookValue). IsTrue g new.die.cells v (slice_set old.table h.sector (Some entry)) (old.seq + 1)) (sym filled_is)
          (effect_true g block fill h old.die.cells new.die.cells p charged old.book old.table old.seq t active drawn entry names)));
    }
  where
    filled_is : new.book ≡ filled (recorded old.book block (former_in old.book (entry_at old.table h.sector))) block
    filled_is = book_is
        ∙ (ap (λ (b : ℕ). after_record old.book b (former_in old.book (entry_at old.table h.sector))) (in_block g block fill old.book entry t.sizes.pages p.active.room placed)
        ∙ after_active old.book block fill (former_in old.book (entry_at old.table h.sector)) active)
