-- The idle victim has a live record, and the first that the map names is the first live one.
use Rattle.std.proofs.Common.{◌≡◌, ◌⊎◌, inl, inr, ℕ, ◌+◌, ◌-◌, ◌*◌, ◌%◌, ◌<◌, ◌≤◌, Bool, true, false, max, List, length, ◌&&◌, ◌==◌, nat_lt, if◌then◌else◌, IfNone, OnErr, Option, Some, None}
use Rattle.std.proofs.Common.{Result, Ok, Err, refl, sym, ap, ap₂, ◌∙◌, arith, subst}
use Rattle.std.proofs.lemmas.Bool.{cases_lt, and_parts, eqb-true, ltb-true, lt-ltb, eq-eqb, false≢true}
use Rattle.std.proofs.lemmas.Option.{same_Some, none-some}
use Rattle.std.proofs.lemmas.List.{get_or_past}
use Rattle.std.proofs.lemmas.Nat.{div-add-mod', div-mul-add, mod_below}
use native.Mathlib.Nat.{mul-le-mul_right, suc-mul}
use Rattle.zero_count.specs.declared.Header.{Header}
use Rattle.cell_die.specs.declared.shape.Shape.{Shape}
use Rattle.cell_die.specs.DieState.{DieState}
use Rattle.cell_die.specs.Changes.{SameCells}
use Rattle.cell_die.specs.Calls.{Passed, PassedWithin, ReadFailed}
use Rattle.cell_die.proofs.Sequences.{passed_trans, change_failed_after, read_failed_after, passed_within, change_failed_within, read_failed_within}
use Rattle.striped.specs.Meaning.{Meaning, Decoding}
use Rattle.sector_map.specs.declared.entry.Entry.{Entry}
use Rattle.sector_map.specs.declared.entry.Entry.TheVariants.{Held, Zeros}
use Rattle.sector_map.specs.Entry.{entry_at}
use Rattle.block_state.specs.declared.state.State.{State}
use Rattle.block_state.specs.declared.state.State.TheVariants.{Clean, Active}
use Rattle.block_state.specs.State.{is_closed, is_active, InRange}
use Rattle.block_state.specs.Book.{BookValue, IsValid, IsClosed, NoneActive, state_at}
use Rattle.block_state.specs.Victim.{IsIdleVictim, NoneFits}
use Rattle.page_codec.specs.declared.place.Place.{Place}
use Rattle.page_codec.specs.declared.fault.PutFault.TheVariants.{Read, Change}
use Rattle.page_codec.specs.Geometry.{Geometry, page_count, block_of}
use Rattle.page_codec.specs.Records.{Placed, header_in, committed_in, live_record}
use Rattle.page_codec.specs.Sectors.{says_zeros, said_by, stored, InCells}
use Rattle.page_codec.specs.Sizes.{Sizes}
use Rattle.page_codec.specs.Sound.{live_count, stands_in}
use Rattle.page_codec.specs.TrueBook.{IsTrue, entry_of}
use Rattle.page_codec.proofs.Live.{live_counts}
use Rattle.collector.specs.declared.live.LiveRecord.{LiveRecord}
use Rattle.collector.specs.Store.{Store, geometry_of}
use Rattle.collector.specs.Effects.{recorded, filled}
use Rattle.collector.specs.Moves.{ComesBefore, IsFirstLive, NoMoveLeft, Moved, MoveReadFailed, MoveChangeFailed, get_reads, move_reads}
use Rattle.collector.specs.Named.{names_slot, named_record, named_in, IsFirstNamed, HasNamed}
use Rattle.collector.specs.Again.{IsNextPage, IsLive, again, again_reads, MovedRecord, MoveFails}
use Rattle.collector.proofs.Blanks.{committed_header}
use Rattle.collector.proofs.Counting.{find_passing, none_pass}
use Rattle.collector.proofs.Room.{live_sector, live_within}
use Rattle.collector.proofs.Tables.{entry_live}

-- ---- the map names exactly the live records

entry_names : (x : Placed) → names_slot (entry_of (Some x)) x.place ≡ true
entry_names x = at (says_zeros x.header)
  where
    both : (x.place.page == x.place.page && x.place.slot == x.place.slot) ≡ true
    both = ap₂ (λ (a b : Bool). a && b) (eq-eqb x.place.page x.place.page refl) (eq-eqb x.place.slot x.place.slot refl)

    at : (t : Bool) → names_slot (if t then Some (Zeros (record { page = x.place.page; slot = x.place.slot })) else Some (Held (record { page = x.place.page; slot = x.place.slot }))) x.place ≡ true
    at true = both
    at false = both

names_entry : (o : Option Placed) (place : Place) → names_slot (entry_of o) place ≡ true → (x : Placed) × (o ≡ Some x) × (x.place ≡ place)
names_entry None place e = absurd (false≢true e)
names_entry (Some x) place e = (x, refl, at (says_zeros x.header) e)
  where
    same : (x.place.page == place.page && x.place.slot == place.slot) ≡ true → x.place ≡ place
    same h = let parts = and_parts _ _ h in λ i. record { page = eqb-true x.place.page place.page parts.0 i; slot = eqb-true x.place.slot place.slot parts.1 i }

    at : (t : Bool) → names_slot (if t then Some (Zeros (record { page = x.place.page; slot = x.place.slot })) else Some (Held (record { page = x.place.page; slot = x.place.slot }))) place ≡ true
        → x.place ≡ place
    at true h = same h
    at false h = same h

module _ (g : Geometry) (die : DieState) (book : BookValue) (table : List (Option Entry)) (seq : ℕ) (t : IsTrue g die.cells book table seq) (sectors : length table ≡ g.sectors) where
  entry_is : (sector : ℕ) → sector < g.sectors → entry_at table sector ≡ entry_of (live_record g die.cells sector)
  entry_is sector within = ap (λ (map : List (Option Entry)). entry_at map sector) t.entries ∙ entry_live g die.cells sector within

  -- a live record is named
  pub live_named : (sector : ℕ) (x : Placed) → sector < g.sectors → live_record g die.cells sector ≡ Some x
      → named_in table g.main_bytes die x.place ≡ Some (record { place = x.place; header = x.header })
  live_named sector x within e =
      let of : x.header.sector ≡ sector = live_sector g die.cells sector x e in
      let below : x.header.sector < length table = omega arith in
      let named : names_slot (entry_at table x.header.sector) x.place ≡ true
      = ap (λ (s : ℕ). names_slot (entry_at table s) x.place) of ∙ (ap (λ (o : Option Entry). names_slot o x.place) (entry_is sector within ∙ ap entry_of e) ∙ entry_names x) in
      ap (named_record table x.place) (committed_header g die.cells x.place x.header (live_counts g die.cells sector x e))
      ∙ ap (λ (b : Bool). if b then Some (record { place = x.place; header = x.header }) else None) (ap₂ (λ (a b : Bool). a && b) (lt-ltb x.header.sector (length table) below) named)

  -- and what is named is live
  pub named_live : (place : Place) (live : LiveRecord) → named_in table g.main_bytes die place ≡ Some live → IsLive g die.cells live
  named_live place live e = at (header_in g die.cells place) refl e
    where
      seen : (h : Header) → header_in g die.cells place ≡ Some h → (b : Bool) → (nat_lt h.sector (length table) && names_slot (entry_at table h.sector) place) ≡ b
          → (if b then Some (record { place = place; header = h }) else None) ≡ Some live → IsLive g die.cells live
      seen h stands false tests f = absurd (none-some live f)
      seen h stands true tests f =
          let parts = and_parts _ _ tests in
          let below : h.sector < length table = ltb-true _ _ parts.0 in
          let within : h.sector < g.sectors = omega arith in
          let x = names_entry (live_record g die.cells h.sector) place (ap (λ (o : Option Entry). names_slot o place) (sym (entry_is h.sector within)) ∙ parts.1) in
          let header : x.0.header ≡ h =
          same_Some x.0.header h (sym (committed_header g die.cells x.0.place x.0.header (live_counts g die.cells h.sector x.0 x.1)) ∙ (ap (header_in g die.cells) x.2 ∙ stands)) in
          let whole : live_record g die.cells h.sector ≡ Some (record { place = place; header = h }) = x.1 ∙ λ i. Some (record { place = x.2 i; header = header i }) in
          subst (IsLive g die.cells) (same_Some (record { place = place; header = h }) live f) (record { sector = within; is = whole })

      at : (o : Option Header) → header_in g die.cells place ≡ o → named_record table place o ≡ Some live → IsLive g die.cells live
      at None stands f = absurd (none-some live f)
      at (Some h) stands f = seen h stands (nat_lt h.sector (length table) && names_slot (entry_at table h.sector) place) refl f

-- ---- the idle victim

pub closed_within : (v : BookValue) (b : ℕ) → IsClosed v b → b < length v.states
closed_within v b closed = elim (cases_lt b (length v.states)) [
  | inl within ↦ within
  | inr past ↦ absurd (false≢true (sym (ap is_closed (get_or_past v.states b Clean past)) ∙ closed))
]

fill_in : State → ℕ
fill_in (Active fill) = fill
fill_in _ = 0

same_fill : (v : BookValue) (b c f h : ℕ) → IsValid v → state_at v b ≡ Active f → state_at v c ≡ Active h → f ≡ h
unfolding fill_in
same_fill v b c f h valid b_is c_is =
    let same : b ≡ c = valid.one_active b c (ap is_active b_is) (ap is_active c_is) in
    ap fill_in (sym b_is ∙ (ap (state_at v) same ∙ c_is))

-- where no victim fits the room of the next page, no move is left
pub none_left : (v : BookValue) (page room : ℕ) → IsValid v → IsNextPage v page room → NoneFits v 1 room → NoMoveLeft v
none_left v page room valid next none other (inl (b, f, active, is)) =
    let same : f ≡ next.fill = same_fill v b next.block f next.fill valid active next.active in
    subst (NoneFits v 1) (next.room_is ∙ (ap (λ (n : ℕ). v.pages - n) (sym same) ∙ sym is)) none
none_left v page room valid next none other (inr (inactive, is)) = absurd (inactive next.block (ap is_active next.active))

pub none_left_without : (v : BookValue) → NoneActive v → NoMoveLeft v
none_left_without v inactive room (inl (b, f, active, is)) c closed some = absurd (inactive b (ap is_active active))
none_left_without v inactive room (inr (_, is)) b closed some = omega arith

pub from_none : {P : Type 0} (o : Option ℕ) → ((b : ℕ) → o ≡ Some b → ⊥) → IfNone o P → P
from_none None never p = p
from_none (Some b) never p = absurd (never b refl)

-- the pages of a block are pages of the die
pub block_pages : (g : Geometry) (block : ℕ) → block < g.blocks → block * g.pages + g.pages ≤ page_count g
block_pages g block within = omega (arith, mul-le-mul_right g.pages within, suc-mul block g.pages)

-- a page of a block is one of these
page_in_block : (g : Geometry) (page block : ℕ) → 0 < g.pages → block_of g page ≡ block → (block * g.pages ≤ page) × (page < block * g.pages + g.pages)
page_in_block g page block some e =
    let whole : block * g.pages + page % g.pages ≡ page = ap (λ (b : ℕ). b * g.pages + page % g.pages) (sym e) ∙ div-add-mod' page g.pages in
    let below : page % g.pages < g.pages = mod_below page g.pages some in
    (omega arith, omega arith)

block_of_page : (g : Geometry) (page block : ℕ) → block * g.pages ≤ page → page < block * g.pages + g.pages → block_of g page ≡ block
block_of_page g page block low high =
    let whole : block * g.pages + (page - block * g.pages) ≡ page = omega arith in
    ap (block_of g) (sym whole) ∙ div-mul-add block g.pages (page - block * g.pages) (omega arith)

module _ (g : Geometry) (sizes : Sizes) (die : DieState) (book : BookValue) (table : List (Option Entry)) (seq : ℕ) (t : IsTrue g die.cells book table seq) (sectors : length table ≡ g.sectors)
    (bytes : sizes.page_bytes ≡ g.main_bytes) (generations : sizes.generations ≡ g.generations) (some_pages : 0 < g.pages) where
  at_bytes : (place : Place) → named_in table sizes.page_bytes die place ≡ named_in table g.main_bytes die place
  at_bytes place = ap (λ (n : ℕ). named_in table n die place) bytes

  slots : 1 ≤ g.generations
  slots = omega (arith, t.kept.two_generations, t.sizes.generations)

  -- the victim has a live record
  pub has_named : (room victim : ℕ) → IsIdleVictim book room victim → HasNamed table sizes die (victim * g.pages) g.pages
  unfolding live_count
  has_named room victim is =
      let within : victim < g.blocks = omega (arith, closed_within book victim is.0.closed, t.sizes.blocks) in
      let some : 1 ≤ live_count g die.cells victim = subst (λ (n : ℕ). 1 ≤ n) (t.live_counts victim within) is.0.enough in
      found (find_passing (λ s. stands_in g victim (live_record g die.cells s)) g.sectors) some
    where
      one : (sector : ℕ) → sector < g.sectors → (o : Option Placed) → live_record g die.cells sector ≡ o → stands_in g victim o ≡ true → HasNamed table sizes die (victim * g.pages) g.pages
      one sector below None e stands = absurd (false≢true stands)
      one sector below (Some x) e stands =
          let pages = page_in_block g x.place.page victim some_pages (eqb-true (block_of g x.place.page) victim stands) in
          record {
            live = record { place = x.place; header = x.header };
            low = pages.0;
            high = pages.1;
            slot = subst (λ (n : ℕ). x.place.slot < n) (sym generations) (live_within g die.cells sector x slots e).1;
            named = at_bytes x.place ∙ live_named g die book table seq t sectors sector x below e;
          }

      found : ((k : ℕ) × (k < g.sectors) × (stands_in g victim (live_record g die.cells k) ≡ true)) ⊎ ((k : ℕ) → k < g.sectors → stands_in g victim (live_record g die.cells k) ≡ false)
          → 1 ≤ live_count g die.cells victim → HasNamed table sizes die (victim * g.pages) g.pages
      found (inl (k, below, stands)) some = one k below (live_record g die.cells k) refl stands
      found (inr none) some = absurd (omega (arith, none_pass (λ s. stands_in g victim (live_record g die.cells s)) g.sectors none))

  -- the first live one is named
  first_named : (victim : ℕ) (first : Placed) → IsFirstLive g die.cells victim first → HasNamed table sizes die (victim * g.pages) g.pages
  first_named victim first is =
      let pages = page_in_block g first.place.page victim some_pages is.inside in
      record {
        live = record { place = first.place; header = first.header };
        low = pages.0;
        high = pages.1;
        slot = subst (λ (n : ℕ). first.place.slot < n) (sym generations) (live_within g die.cells first.header.sector first slots is.live).1;
        named = at_bytes first.place ∙ live_named g die book table seq t sectors first.header.sector first is.sector is.live;
      }

  -- so a search that fails does so on its page at the latest
  pub named_sooner : (victim : ℕ) (first : Placed) (new : DieState) → IsFirstLive g die.cells victim first
      → ((has : HasNamed table sizes die (victim * g.pages) g.pages) → ReadFailed 0 (has.live.place.page + 1 - victim * g.pages) die new)
      → ReadFailed 0 (first.place.page + 1 - victim * g.pages) die new
  unfolding first_named
  named_sooner victim first new is f = f (first_named victim first is)

  -- the first that is named is the first live one
  pub first_live : (victim : ℕ) (live : LiveRecord) → IsFirstNamed table sizes die (victim * g.pages) g.pages live
      → IsFirstLive g die.cells victim (record { place = live.place; header = live.header })
  first_live victim live f =
      let is = named_live g die book table seq t sectors live.place live (sym (at_bytes live.place) ∙ f.named) in
      record {
        sector = is.sector;
        live = is.is;
        inside = block_of_page g live.place.page victim f.low f.high;
        none_before = λ sector other below e inside before.
            let pages = page_in_block g other.place.page victim some_pages inside in
            none-some (record { place = other.place; header = other.header })
            (sym (f.none_before other.place pages.0 (subst (λ (n : ℕ). other.place.slot < n) (sym generations) (live_within g die.cells sector other slots e).1) before)
            ∙ (at_bytes other.place ∙ live_named g die book table seq t sectors sector other below e));
      }

-- ---- the search before the move changes no cell

-- by the device's span, those of getting the record
again_gets : (g : Geometry) (meaning : Meaning) (live : LiveRecord) → meaning.span ≡ g.span → again_reads meaning live ≡ get_reads g (Some (record { place = live.place; header = live.header }))
again_gets g meaning live spans = ap (λ (n : ℕ). if says_zeros live.header then 0 else (if live.place.slot == 0 then 1 else n)) spans

gets_few : (g : Geometry) (p : Placed) → get_reads g (Some p) ≤ max 1 g.span
gets_few g p = at (says_zeros p.header) (p.place.slot == 0)
  where
    at : (z s : Bool) → (if z then 0 else (if s then 1 else g.span)) ≤ max 1 g.span
    at true s = omega arith
    at false true = omega arith
    at false false = omega arith

pub moved_calls : (g : Geometry) (meaning : Meaning) (live : LiveRecord) (block : ℕ) (old mid new : DieState) → meaning.span ≡ g.span
    → Passed 0 (live.place.page + 1 - block * g.pages) old mid → Passed 2 (again_reads meaning live) mid new
    → PassedWithin 2 (move_reads g block (record { place = live.place; header = live.header })) old new
moved_calls g meaning live block old mid new spans first second =
    passed_within (move_reads g block (record { place = live.place; header = live.header })) (omega (arith, again_gets g meaning live spans)) (passed_trans first second)

-- the move of a record from the same cells
pub moved_from : (g : Geometry) (d : Decoding) (live : LiveRecord) (page : ℕ) (old new : Store) (mid : DieState) → SameCells old.die mid → MovedRecord g d live page (record old { die = mid }) new
    → MovedRecord g d live page old new
moved_from g d live page old new mid same m = record {
  there = m.there;
  others = λ sector other. m.others sector other ∙ ap (λ (cells : List (List ℕ)). live_record g cells sector) same.cells;
  cells = subst (λ (cells : List (List ℕ)). InCells g d new.die.cells page live.header (said_by g d cells (Some (record { place = live.place; header = live.header })))) same.cells m.cells;
  rows = m.rows ∙ ap (stored g d) same.cells;
  book = m.book;
  seq = m.seq;
  tables = m.tables;
}

-- a record of the victim was moved
pub moved_one : (g : Geometry) (meaning : Meaning) (old new : Store) (mid : DieState) (page room victim : ℕ) (live : LiveRecord) → old.book.pages ≡ g.pages → meaning.span ≡ g.span
    → IsNextPage old.book page room
    → IsIdleVictim old.book room victim → SameCells old.die mid → Passed 0 (live.place.page + 1 - victim * g.pages) old.die mid
    → IsFirstLive g old.die.cells victim (record { place = live.place; header = live.header }) → MovedRecord g meaning.decoding live page (record old { die = mid }) new
    → new.die.erases ≡ mid.erases → Passed 2 (again_reads meaning live) mid new.die
    → Moved g meaning.decoding old new
moved_one g meaning old new mid page room victim live pages spans next is same passed first moved still put =
    let m = moved_from g meaning.decoding live page old new mid same moved in
    record {
      block = next.block;
      fill = next.fill;
      active = next.active;
      victim = victim;
      is_victim = subst (λ (n : ℕ). IsIdleVictim old.book n victim) (next.room_is ∙ ap (λ (n : ℕ). n - next.fill) pages) is;
      first = record { place = live.place; header = live.header };
      is_first = first;
      live = m.there ∙ ap (λ (q : ℕ). Some (record { place = record { page = q; slot = 0 }; header = again live.header old.seq })) (next.page_is ∙ ap (λ (n : ℕ). next.block * n + next.fill) pages);
      others = m.others;
      cells = subst (λ (q : ℕ). InCells g meaning.decoding new.die.cells q live.header (said_by g meaning.decoding old.die.cells (Some (record { place = live.place; header = live.header }))))
          (next.page_is ∙ ap (λ (n : ℕ). next.block * n + next.fill) pages) m.cells;
      rows = m.rows;
      book = m.book next.block next.fill next.active ∙ ap (λ (b : ℕ). filled (recorded old.book next.block (Some b)) next.block) first.inside;
      seq = m.seq;
      tables = m.tables;
      erases = still ∙ same.erases;
      calls = moved_calls g meaning live victim old.die mid new.die spans passed put;
    }

-- a block has one first live record
one_first : (g : Geometry) (cells : List (List ℕ)) (block : ℕ) (a b : Placed) → IsFirstLive g cells block a → IsFirstLive g cells block b → a ≡ b
one_first g cells block a b first other = λ i. record { place = place i; header = header i }
  where
    not_before : ComesBefore b.place a.place → ⊥
    not_before = first.none_before b.header.sector b other.sector other.live other.inside

    not_after : ComesBefore a.place b.place → ⊥
    not_after = other.none_before a.header.sector a first.sector first.live first.inside

    at_least : (m n : ℕ) → (m < n → ⊥) → n ≤ m
    at_least m n never = elim (cases_lt m n) [ inl below ↦ absurd (never below) | inr above ↦ above ]

    same_page : a.place.page ≡ b.place.page
    same_page = omega (arith, at_least b.place.page a.place.page (λ h. not_before (inl h)), at_least a.place.page b.place.page (λ h. not_after (inl h)))

    same_slot : a.place.slot ≡ b.place.slot
    same_slot = omega (arith, at_least b.place.slot a.place.slot (λ h. not_before (inr (sym same_page, h))), at_least a.place.slot b.place.slot (λ h. not_after (inr (same_page, h))))

    place : a.place ≡ b.place
    place = λ i. record { page = same_page i; slot = same_slot i }

    header : a.header ≡ b.header
    header = same_Some _ _ (sym (live_counts g cells a.header.sector a first.live) ∙ (ap (committed_in g cells) place ∙ live_counts g cells b.header.sector b other.live))

-- A read of getting the victim's first live record failed, or one before it.
pub read_failed_one : (g : Geometry) (meaning : Meaning) (old new : Store) (mid : DieState) (page room victim : ℕ) (live : LiveRecord) → meaning.span ≡ g.span → IsNextPage old.book page room
    → IsIdleVictim old.book room victim → SameCells old.die mid → Passed 0 (live.place.page + 1 - victim * g.pages) old.die mid
    → live.place.page < victim * g.pages + g.pages → IsFirstLive g old.die.cells victim (record { place = live.place; header = live.header })
    → MoveFails g meaning live Read (record old { die = mid }) new → MoveReadFailed g old new
read_failed_one g meaning old new mid page room victim live spans next is same passed high first m = record {
  same = m.0;
  cells = record { cells = m.1.cells ∙ same.cells; erases = m.1.erases ∙ same.erases };
  room = room;
  is_room = inl (next.block, next.fill, next.active, next.room_is);
  victim = victim;
  is_victim = is;
  failed =
      read_failed_within 0 (g.pages + max 1 g.span) (omega arith) (omega (arith, high, again_gets g meaning live spans, gets_few g (record { place = live.place; header = live.header })))
      (read_failed_after passed m.2);
  by_then =
      λ other is_other. subst (λ (p : Placed). ReadFailed 0 (move_reads g victim p) old.die new.die)
      (one_first g old.die.cells victim (record { place = live.place; header = live.header }) other first is_other)
      (read_failed_within 0 (move_reads g victim (record { place = live.place; header = live.header })) (omega arith) (omega (arith, again_gets g meaning live spans)) (read_failed_after passed m.2));
}

-- A read of the search for it failed.
pub search_failed_one : (g : Geometry) (old : Store) (new : DieState) (page room victim : ℕ) → IsNextPage old.book page room → IsIdleVictim old.book room victim → SameCells old.die new
    → ReadFailed 0 g.pages old.die new
    → ((first : Placed) → IsFirstLive g old.die.cells victim first → ReadFailed 0 (first.place.page + 1 - victim * g.pages) old.die new) → MoveReadFailed g old (record old { die = new })
search_failed_one g old new page room victim next is same any failed = record {
  same = refl;
  cells = same;
  room = room;
  is_room = inl (next.block, next.fill, next.active, next.room_is);
  victim = victim;
  is_victim = is;
  failed = read_failed_within 0 (g.pages + max 1 g.span) (omega arith) (omega arith) any;
  by_then = λ first is_first. read_failed_within 0 (move_reads g victim first) (omega arith) (omega arith) (failed first is_first);
}

pub change_failed_one : (g : Geometry) (meaning : Meaning) (old new : Store) (mid : DieState) (page room victim : ℕ) (live : LiveRecord) → meaning.span ≡ g.span → IsNextPage old.book page room
    → IsIdleVictim old.book room victim → SameCells old.die mid → Passed 0 (live.place.page + 1 - victim * g.pages) old.die mid
    → IsFirstLive g old.die.cells victim (record { place = live.place; header = live.header }) → MoveFails g meaning live Change (record old { die = mid }) new → new.die.erases ≡ mid.erases
    → MoveChangeFailed g meaning.decoding old new
change_failed_one g meaning old new mid page room victim live spans next is same passed first m still = record {
  same = m.0;
  rows = m.1 ∙ ap (stored g meaning.decoding) same.cells;
  room = room;
  is_room = inl (next.block, next.fill, next.active, next.room_is);
  victim = victim;
  is_victim = is;
  first = record { place = live.place; header = live.header };
  is_first = first;
  erases = still ∙ same.erases;
  failed =
      change_failed_within 2 (move_reads g victim (record { place = live.place; header = live.header })) (omega arith) (omega (arith, again_gets g meaning live spans))
      (change_failed_after passed m.2);
}

-- the block of the next page has a page
pub some_pages : (v : BookValue) (page room : ℕ) → IsValid v → IsNextPage v page room → 0 < v.pages
some_pages v page room valid next =
    let in_range : next.fill < v.pages = subst (InRange v.pages v.units v.generations) next.active (valid.in_range next.block) in
    omega arith

-- a die of the same shape has the same geometry
pub same_geometry : (old mid : Shape) (meaning : Meaning) (sectors : ℕ) → mid ≡ old → geometry_of mid meaning sectors ≡ geometry_of old meaning sectors
same_geometry old mid meaning sectors same = ap (λ (s : Shape). geometry_of s meaning sectors) same

-- the pages of a block by the book's number
pub first_at : (table : List (Option Entry)) (sizes : Sizes) (die : DieState) (victim pages pages' : ℕ) (live : LiveRecord) → pages ≡ pages'
    → IsFirstNamed table sizes die (victim * pages) pages live → IsFirstNamed table sizes die (victim * pages') pages' live
first_at table sizes die victim pages pages' live same f = subst (λ (n : ℕ). IsFirstNamed table sizes die (victim * n) n live) same f

pub named_at : (table : List (Option Entry)) (sizes : Sizes) (die : DieState) (victim pages pages' : ℕ) → pages ≡ pages' → HasNamed table sizes die (victim * pages) pages
    → HasNamed table sizes die (victim * pages') pages'
named_at table sizes die victim pages pages' same h = subst (λ (n : ℕ). HasNamed table sizes die (victim * n) n) same h

pub failed_at : (table : List (Option Entry)) (sizes : Sizes) (old new : DieState) (victim pages pages' : ℕ) → pages ≡ pages'
    → ((has : HasNamed table sizes old (victim * pages) pages) → ReadFailed 0 (has.live.place.page + 1 - victim * pages) old new)
    → (has : HasNamed table sizes old (victim * pages') pages') → ReadFailed 0 (has.live.place.page + 1 - victim * pages') old new
failed_at table sizes old new victim pages pages' same f =
    subst (λ (n : ℕ). (has : HasNamed table sizes old (victim * n) n) → ReadFailed 0 (has.live.place.page + 1 - victim * n) old new) same f

pub failed_any : (table : List (Option Entry)) (sizes : Sizes) (old new : DieState) (victim pages : ℕ)
    → ((has : HasNamed table sizes old (victim * pages) pages) → ReadFailed 0 (has.live.place.page + 1 - victim * pages) old new)
    → HasNamed table sizes old (victim * pages) pages → ReadFailed 0 pages old new
failed_any table sizes old new victim pages f has = read_failed_within 0 pages (omega arith) (omega (arith, has.low, has.high)) (f has)

-- what holds where a result is an error
pub on_err : {A E P : Type 0} (r : Result A E) → ((a : A) → r ≡ Ok a → ⊥) → OnErr r P → P
on_err (Ok a) never h = absurd (never a refl)
on_err (Err e) never h = h

pub passed_at : (old mid : DieState) (last victim pages pages' : ℕ) → pages ≡ pages' → Passed 0 (last + 1 - victim * pages) old mid → Passed 0 (last + 1 - victim * pages') old mid
passed_at old mid last victim pages pages' same p = subst (λ (n : ℕ). Passed 0 (last + 1 - victim * n) old mid) same p

-- a record that is live is live after calls that change no cell
pub live_after_reads : (g g' : Geometry) (old mid : DieState) (live : LiveRecord) → g' ≡ g → SameCells old mid → IsLive g old.cells live → IsLive g' mid.cells live
live_after_reads g g' old mid live same cells is = subst (λ (h : Geometry). IsLive h mid.cells live) (sym same) (subst (λ (rows : List (List ℕ)). IsLive g rows live) (sym cells.cells) is)

-- a victim that fits the room is a move that is left
pub one_left : (v : BookValue) (page room victim : ℕ) → IsNextPage v page room → IsIdleVictim v room victim → NoMoveLeft v → ⊥
one_left v page room victim next is none = omega (arith, none room (inl (next.block, next.fill, next.active, next.room_is)) victim is.0.closed is.0.enough, is.1)
