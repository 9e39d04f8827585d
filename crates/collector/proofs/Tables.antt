-- After the gate of a record on the Active block's next page, the record effect makes the tables true again.
use Rattle.std.proofs.Common.{◌≡◌, ◌≢◌, ◌⊎◌, inl, inr, ℕ, zero, suc, ◌+◌, ◌*◌, ◌/◌, ◌<◌, ◌≤◌, Bool, true, false, List, length, drop, slice_set, slice_index_or, ◌&&◌, ◌==◌, if◌then◌else◌, Option}
use Rattle.std.proofs.Common.{Some, None, refl, sym, ap, ap₂, ◌∙◌, arith, subst, get_or-set_same, get_or-set_other, length-set}
use Rattle.std.specs.List.{range_with_len, list_all}
use Rattle.std.proofs.lemmas.Bool.{cases_eq, cases_Bool, eqb-true, eq-eqb, ne_eqb}
use Rattle.std.proofs.lemmas.List.{same_lists, get_or_default}
use Rattle.std.proofs.lemmas.List.FromFn.{get_or-map-range_with_len, length-map-range_with_len}
use Rattle.std.proofs.lemmas.Nat.{div-mul-add, div-add-mod', div_below}
use native.Mathlib.Nat.{mul-le-mul_right, suc-mul}
use Rattle.zero_count.specs.declared.Header.{Header}
use Rattle.cell_die.specs.Cells.{page_at, is_blank}
use Rattle.spare_gate.specs.Slots.{is_slot_blank, with_header, with_record}
use Rattle.spare_gate.proofs.Blank.{header_keeps_blank, gate_keeps_blank}
use Rattle.sector_map.specs.declared.entry.Entry.{Entry}
use Rattle.sector_map.specs.declared.entry.Entry.TheVariants.{Held, Zeros}
use Rattle.sector_map.specs.Entry.{entry_at}
use Rattle.block_state.specs.declared.state.State.{State}
use Rattle.block_state.specs.declared.state.State.TheVariants.{Clean, Active, Used, Recycled, Reused, Spare}
use Rattle.block_state.specs.State.{is_active, is_spare, InRange}
use Rattle.block_state.specs.Book.{BookValue, IsValid, HasOneSpare, state_at, live_at, with_state}
use Rattle.page_codec.specs.declared.place.Place.{Place}
use Rattle.page_codec.specs.Geometry.{Geometry, block_of, units, unit_page, spare_at}
use Rattle.page_codec.specs.Records.{Placed, may_hold, committed_in, live_record}
use Rattle.page_codec.specs.Sectors.{says_zeros}
use Rattle.page_codec.specs.Sound.{live_count, stands_in}
use Rattle.page_codec.specs.Gate.{GateWins}
use Rattle.page_codec.specs.Puts.{first_slot}
use Rattle.page_codec.specs.TrueBook.{IsTrue, IsTrueState, IsTrueActive, IsTrueUsed, UnitSlotBlank, BlankAbove, is_block_blank, entry_of, live_map}
use Rattle.page_codec.proofs.PutLaws.{header_after}
use Rattle.collector.specs.Effects.{former_in, recorded, filled, fill_of, MayDrop}
use Rattle.collector.proofs.Counting.{one_if, count_moves, none_pass, none_passes, one_passes}
use Rattle.collector.proofs.Books.{SameStates, state_here, state_there, active_within, valid_state, spare_stays, recorded_states, valid_recorded, one_at, one_in, recorded_live}
use Rattle.collector.proofs.Room.{live_within, has_room}
use Rattle.collector.proofs.NextPage.{PutsNext, next_page, next_gate, block_of_next, may_hold_next, none_committed, wins_from_gate, some_span}

-- ---- the map

-- the map's entry of a sector is that of its live record
pub entry_live : (g : Geometry) (cells : List (List ℕ)) (sector : ℕ) → sector < g.sectors → entry_at (live_map g cells) sector ≡ entry_of (live_record g cells sector)
unfolding live_map
entry_live g cells sector within = get_or-map-range_with_len (λ s. entry_of (live_record g cells s)) 0 g.sectors sector sector None within (omega arith)

pub live_map_long : (g : Geometry) (cells : List (List ℕ)) → length (live_map g cells) ≡ g.sectors
unfolding live_map
live_map_long g cells = length-map-range_with_len (λ s. entry_of (live_record g cells s)) 0 g.sectors

-- where one sector has another live record, the map has another entry there
pub map_moves : (g : Geometry) (old new : List (List ℕ)) (sector : ℕ) → sector < g.sectors → ((s : ℕ) → s ≢ sector → live_record g new s ≡ live_record g old s)
    → slice_set (live_map g old) sector (entry_of (live_record g new sector)) ≡ live_map g new
map_moves g old new sector within others = same_lists (slice_set (live_map g old) sector (entry_of (live_record g new sector))) (live_map g new)
    (length-set (live_map g old) sector _ ∙ (live_map_long g old ∙ sym (live_map_long g new)))
    (λ k d in_map. let below : k < g.sectors = omega (arith, length-set (live_map g old) sector (entry_of (live_record g new sector)), live_map_long g old) in
    let long : k < length (slice_set (live_map g old) sector (entry_of (live_record g new sector))) = in_map in
    let long_new : k < length (live_map g new) = omega (arith, live_map_long g new) in
    get_or_default (slice_set (live_map g old) sector (entry_of (live_record g new sector))) k d None long
    ∙ (at k below (cases_eq k sector) ∙ sym (get_or_default (live_map g new) k d None long_new)))
  where
    at : (k : ℕ) → k < g.sectors → (k ≡ sector) ⊎ (k ≢ sector) → entry_at (slice_set (live_map g old) sector (entry_of (live_record g new sector))) k ≡ entry_at (live_map g new) k
    at k below (inl same) =
        ap (entry_at (slice_set (live_map g old) sector (entry_of (live_record g new sector)))) same
        ∙ (get_or-set_same (live_map g old) sector (entry_of (live_record g new sector)) None (omega (arith, live_map_long g old))
        ∙ (sym (entry_live g new sector within) ∙ ap (entry_at (live_map g new)) (sym same)))
    at k below (inr other) =
        get_or-set_other (live_map g old) sector k (entry_of (live_record g new sector)) None other
        ∙ (entry_live g old k below ∙ (ap entry_of (sym (others k other)) ∙ sym (entry_live g new k below)))

-- the block of a sector's former live record
pub former_at : (g : Geometry) (v : BookValue) (o : Option Placed) (c : ℕ) → v.pages ≡ g.pages → one_in (former_in v (entry_of o)) c ≡ one_if (stands_in g c o)
former_at g v None c pages = refl
former_at g v (Some x) c pages = at (says_zeros x.header)
  where
    at : (t : Bool) → one_in (former_in v (if t then Some (Zeros (record { page = x.place.page; slot = x.place.slot })) else Some (Held (record { page = x.place.page; slot = x.place.slot })))) c
        ≡ one_if (block_of g x.place.page == c)
    at true = ap (λ (n : ℕ). one_at (x.place.page / n) c) pages
    at false = ap (λ (n : ℕ). one_at (x.place.page / n) c) pages

pub former_some : (g : Geometry) (v : BookValue) (x : Placed) → v.pages ≡ g.pages → former_in v (entry_of (Some x)) ≡ Some (block_of g x.place.page)
former_some g v x pages = at (says_zeros x.header)
  where
    at : (t : Bool) → former_in v (if t then Some (Zeros (record { page = x.place.page; slot = x.place.slot })) else Some (Held (record { page = x.place.page; slot = x.place.slot })))
        ≡ Some (block_of g x.place.page)
    at true = ap (λ (n : ℕ). Some (x.place.page / n)) pages
    at false = ap (λ (n : ℕ). Some (x.place.page / n)) pages

-- ---- a block stays true where none of its pages changed

-- the pages of a block stay, and no live record comes to it
pub record BlockStays (g : Geometry) (old new : List (List ℕ)) (block : ℕ) : Type 0 where
  pub some_pages : 0 < g.pages
  pub pages : (i : ℕ) → i < g.pages → page_at new (block * g.pages + i) ≡ page_at old (block * g.pages + i)
  pub live : (sector : ℕ) → sector < g.sectors → stands_in g block (live_record g new sector) ≡ true → live_record g new sector ≡ live_record g old sector

all_same : (p q : ℕ → Bool) (a n : ℕ) → ((i : ℕ) → i < n → p (a + i) ≡ q (a + i)) → list_all p (range_with_len a n) ≡ list_all q (range_with_len a n)
all_same p q a zero f = refl
all_same p q a (suc n) f = ap₂ (λ (s t : Bool). s && t)
    (subst (λ (z : ℕ). p z ≡ q z) (omega arith) (f 0 (omega arith)))
    (all_same p q (a + 1) n (λ i h. subst (λ (z : ℕ). p z ≡ q z) (omega arith) (f (suc i) (omega arith))))

-- the first page of a unit is one of the block's
pub unit_inside : (g : Geometry) (u : ℕ) → u < units g → u * g.span < g.pages
unit_inside g u within = room u g.pages g.span (some_span g u within) within
  where
    room : (u w s : ℕ) → 0 < s → u < w / s → u * s < w
    room u w s some below = omega (arith, div-add-mod' w s, mul-le-mul_right s below, suc-mul u s)

pub unit_slot_stays : (g : Geometry) (old new : List (List ℕ)) (block u slot : ℕ) → BlockStays g old new block → u < units g → UnitSlotBlank g old block u slot → UnitSlotBlank g new block u slot
unit_slot_stays g old new block u slot s within blank =
    ap (λ (row : List ℕ). is_slot_blank (drop g.main_bytes row) slot) (s.pages (u * g.span) (unit_inside g u within)) ∙ blank

pub above_stays : (g : Geometry) (old new : List (List ℕ)) (block level : ℕ) → BlockStays g old new block → BlankAbove g old block level → BlankAbove g new block level
above_stays g old new block level s above u slot within low high = unit_slot_stays g old new block u slot s within (above u slot within low high)

pub blank_stays : (g : Geometry) (old new : List (List ℕ)) (block : ℕ) → BlockStays g old new block → is_block_blank g new block ≡ is_block_blank g old block
blank_stays g old new block s = all_same (λ page. is_blank (page_at new page)) (λ page. is_blank (page_at old page)) (block * g.pages) g.pages (λ i h. ap is_blank (s.pages i h))

-- a block without a live record still has none
pub free_stays : (g : Geometry) (old new : List (List ℕ)) (block : ℕ)
    → ((sector : ℕ) → sector < g.sectors → stands_in g block (live_record g new sector) ≡ true → live_record g new sector ≡ live_record g old sector)
    → live_count g old block ≡ 0 → live_count g new block ≡ 0
unfolding live_count
free_stays g old new block live free = none_pass (λ sector. stands_in g block (live_record g new sector)) g.sectors (λ k h. elim (cases_Bool (stands_in g block (live_record g new k))) [
  | inr out ↦ out
  | inl stands ↦ ap (stands_in g block) (live k h stands) ∙ none_passes (λ sector. stands_in g block (live_record g old sector)) g.sectors free k h
])

pub state_stays : (g : Geometry) (old new : List (List ℕ)) (block : ℕ) (s : State) → BlockStays g old new block → IsTrueState g old block s → IsTrueState g new block s
state_stays g old new block Clean b t = blank_stays g old new block b ∙ t
state_stays g old new block (Active fill) b t = record {
  room = t.room;
  blank = λ i from to. ap is_blank (b.pages i to) ∙ t.blank i from to;
  above = above_stays g old new block 0 b t.above;
}
state_stays g old new block (Used level) b t = record { may_rise = t.may_rise; above = above_stays g old new block level b t.above }
state_stays g old new block (Recycled level next) b t = record {
  low = t.low;
  high = t.high;
  more = t.more;
  blank = λ u from to. unit_slot_stays g old new block u level b to (t.blank u from to);
  above = above_stays g old new block level b t.above;
  live = λ sector x within e inside. t.live sector x within (sym (b.live sector within (ap (stands_in g block) e ∙ eq-eqb (block_of g x.place.page) block inside)) ∙ e) inside;
}
state_stays g old new block Reused b t = tt
state_stays g old new block (Spare marked) b t = record {
  free = free_stays g old new block b.live t.free;
  blank = λ is_marked. blank_stays g old new block b ∙ t.blank is_marked;
}

-- ---- the Active block itself

-- the state of an Active block after a record on its page `fill`
abbrev pub next_state : ℕ → ℕ → State
next_state pages fill = if fill + 1 == pages then Used 0 else Active (fill + 1)

pub filled_is : (v : BookValue) (block fill : ℕ) → state_at v block ≡ Active fill → filled v block ≡ with_state v block (next_state v.pages fill)
filled_is v block fill active = ap (λ (s : State). full (fill_of s)) active ∙ at (fill + 1 == v.pages)
  where
    full : ℕ → BookValue
    full n = if n + 1 == v.pages then with_state v block (Used 0) else with_state v block (Active (n + 1))

    at : (t : Bool) → (if t then with_state v block (Used 0) else with_state v block (Active (fill + 1))) ≡ with_state v block (if t then Used 0 else Active (fill + 1))
    at true = refl
    at false = refl

next_not_spare : (pages fill : ℕ) → is_spare (next_state pages fill) ≡ false
next_not_spare pages fill = at (fill + 1 == pages)
  where
    at : (t : Bool) → is_spare (if t then Used 0 else Active (fill + 1)) ≡ false
    at true = refl
    at false = refl

next_in_range : (pages units generations fill : ℕ) → fill < pages → 2 ≤ generations → InRange pages units generations (next_state pages fill)
next_in_range pages units generations fill room two = at (cases_eq (fill + 1) pages)
  where
    at : (fill + 1 ≡ pages) ⊎ (fill + 1 ≢ pages) → InRange pages units generations (next_state pages fill)
    at (inl full) = subst (λ (t : Bool). InRange pages units generations (if t then Used 0 else Active (fill + 1))) (sym (eq-eqb (fill + 1) pages full)) (omega arith)
    at (inr more) = subst (λ (t : Bool). InRange pages units generations (if t then Used 0 else Active (fill + 1))) (sym (ne_eqb (fill + 1) pages more)) (omega arith)

-- a record in slot 0 leaves the blankness of the later slots
record_keeps_blank : (spare : List ℕ) (h : Header) (slot : ℕ) → 16 ≤ length spare → slot ≢ 0 → is_slot_blank (with_record spare 0 h) slot ≡ is_slot_blank spare slot
record_keeps_blank spare h slot room later = gate_keeps_blank 0 (with_header spare 0 h) 0 slot later ∙ header_keeps_blank spare 0 h slot room later

-- the block of a live record has one
pub some_live : (g : Geometry) (cells : List (List ℕ)) (sector : ℕ) (x : Placed) → sector < g.sectors → live_record g cells sector ≡ Some x → 0 < live_count g cells (block_of g x.place.page)
unfolding live_count
some_live g cells sector x within e =
    one_passes (λ s. stands_in g (block_of g x.place.page) (live_record g cells s)) g.sectors sector within
    (ap (stands_in g (block_of g x.place.page)) e ∙ eq-eqb (block_of g x.place.page) (block_of g x.place.page) refl)

-- ---- what the record effect asks of true tables

module _ (g : Geometry) (cells : List (List ℕ)) (book : BookValue) (table : List (Option Entry)) (seq : ℕ) (t : IsTrue g cells book table seq) where
  pub some_slots : 1 ≤ g.generations
  some_slots = omega (arith, t.kept.two_generations, t.sizes.generations)

  -- the map's entry of a sector is that of its live record
  pub entry_true : (sector : ℕ) → sector < g.sectors → entry_at table sector ≡ entry_of (live_record g cells sector)
  entry_true sector within = ap (λ (map : List (Option Entry)). entry_at map sector) t.entries ∙ entry_live g cells sector within

  -- a block takes one live record more where one of its slots holds no committed record
  pub room_true : (place : Place) (block : ℕ) → block_of g place.page ≡ block → block < g.blocks → may_hold g place ≡ true → committed_in g cells place ≡ None
      → live_at book block < book.generations * book.pages
  room_true place block inside within may none =
      let count : live_at book block ≡ live_count g cells block = t.live_counts block within in
      let room : live_count g cells block < g.generations * g.pages = subst (λ (b : ℕ). live_count g cells b < g.generations * g.pages) inside (has_room g cells place some_slots may none) in
      subst (λ (n : ℕ). live_at book block < n) (ap₂ (λ (a b : ℕ). a * b) (sym t.sizes.generations) (sym t.sizes.pages)) (subst (λ (n : ℕ). n < g.generations * g.pages) (sym count) room)

  -- the block of a sector's former live record has one
  pub former_true : (sector : ℕ) → sector < g.sectors → 0 < g.pages → MayDrop book (former_in book (entry_at table sector))
  former_true sector below pages = subst (λ (o : Option Entry). MayDrop book (former_in book o)) (sym (entry_true sector below)) (at (live_record g cells sector) refl)
    where
      at : (o : Option Placed) → live_record g cells sector ≡ o → MayDrop book (former_in book (entry_of o))
      at None e = tt
      at (Some x) e =
          let within : block_of g x.place.page < g.blocks = div_below x.place.page g.pages g.blocks pages (live_within g cells sector x some_slots e).0 in
          let some : 0 < live_count g cells (block_of g x.place.page) = some_live g cells sector x below e in
          let count : live_at book (block_of g x.place.page) ≡ live_count g cells (block_of g x.place.page) = t.live_counts (block_of g x.place.page) within in
          subst (MayDrop book) (sym (former_some g book x t.sizes.pages)) (omega (arith, t.sizes.blocks), omega arith)

module _ (g : Geometry) (block fill : ℕ) (h : Header) (old new : List (List ℕ)) (p : PutsNext g block fill h old new) (charged : next_gate g block fill new ≡ true) where
  later_blank : (page slot : ℕ) → 0 < slot → is_slot_blank (spare_at g old page) slot ≡ true → is_slot_blank (spare_at g new page) slot ≡ true
  later_blank page slot low blank = elim (cases_eq page (next_page g block fill)) [
    | inr apart ↦ ap (λ (row : List ℕ). is_slot_blank (drop g.main_bytes row) slot) (p.only page apart) ∙ blank
    | inl here ↦ ap (λ (q : ℕ). is_slot_blank (spare_at g new q) slot) here
        ∙ (ap (λ (row : List ℕ). is_slot_blank (drop g.main_bytes row) slot) (p.put.whole charged (next_page g block fill))
        ∙ (ap (λ (spare : List ℕ). is_slot_blank spare slot) p.put.record_there
        ∙ (record_keeps_blank (spare_at g old (next_page g block fill)) h slot (omega (arith, p.put.room)) (λ e. omega arith)
        ∙ (ap (λ (q : ℕ). is_slot_blank (spare_at g old q) slot) (sym here) ∙ blank))))
  ]

  above_after : BlankAbove g new block 0
  above_after u slot within low high = later_blank (unit_page g block u) slot low (p.active.above u slot within low high)

  pub active_after : 2 ≤ g.generations → IsTrueState g new block (next_state g.pages fill)
  active_after two = at (cases_eq (fill + 1) g.pages)
    where
      at : (fill + 1 ≡ g.pages) ⊎ (fill + 1 ≢ g.pages) → IsTrueState g new block (next_state g.pages fill)
      at (inl full) = subst (λ (t : Bool). IsTrueState g new block (if t then Used 0 else Active (fill + 1))) (sym (eq-eqb (fill + 1) g.pages full))
          (let used : IsTrueUsed g new block 0 = record { may_rise = omega arith; above = above_after } in used)
      at (inr more) = subst (λ (t : Bool). IsTrueState g new block (if t then Used 0 else Active (fill + 1))) (sym (ne_eqb (fill + 1) g.pages more))
          (let active : IsTrueActive g new block (fill + 1) = record {
            room = omega (arith, p.active.room);
            blank = λ i from to. ap is_blank (p.only (block * g.pages + i) (λ e. omega arith)) ∙ p.active.blank i (omega arith) to;
            above = above_after;
          } in active)

  -- the other blocks stay
  pub others_stay : (b : ℕ) → b ≢ block → BlockStays g old new b
  others_stay b apart = record {
    some_pages = omega (arith, p.active.room);
    pages = λ i within. p.only (b * g.pages + i) (λ e. apart (sym (div-mul-add b g.pages i within) ∙ (ap (block_of g) e ∙ block_of_next g block fill p.active.room)));
    live = λ sector within stands. at sector (cases_eq sector h.sector) stands;
  }
    where
      at : (sector : ℕ) → (sector ≡ h.sector) ⊎ (sector ≢ h.sector) → stands_in g b (live_record g new sector) ≡ true → live_record g new sector ≡ live_record g old sector
      at sector (inr other) stands = (wins_from_gate g block fill h old new p charged).others sector other
      at sector (inl own) stands =
          let there : (block_of g (next_page g block fill) == b) ≡ true = ap (stands_in g b) (sym (ap (live_record g new) own ∙ (wins_from_gate g block fill h old new p charged).live)) ∙ stands in
          absurd (apart (sym (sym (block_of_next g block fill p.active.room) ∙ eqb-true (block_of g (next_page g block fill)) b there)))

  module _ (book : BookValue) (table : List (Option Entry)) (seq : ℕ) (t : IsTrue g old book table seq) (active : state_at book block ≡ Active fill) (drawn : h.seq ≡ seq) where
    abbrev former : Option ℕ
    former = former_in book (entry_at table h.sector)

    abbrev placed : Placed
    placed = record { place = first_slot (next_page g block fill); header = h }

    former_entry : entry_at table h.sector ≡ entry_of (live_record g old h.sector)
    former_entry = entry_true g old book table seq t h.sector p.sector

    block_within : block < length book.states
    block_within = active_within book block fill active

    room_within : live_at book block < book.generations * book.pages
    room_within = room_true g old book table seq t (first_slot (next_page g block fill)) block (block_of_next g block fill p.active.room) p.block_in
        (may_hold_next g block fill p.block_in p.active.room) (none_committed g block fill h old new p)

    may_drop : MayDrop book former
    may_drop = former_true g old book table seq t h.sector p.sector (omega (arith, p.active.room))

    -- the book before the Active block fills
    abbrev counted : BookValue
    counted = recorded book block former

    same : SameStates book counted
    same = recorded_states book block former

    counted_state : (b : ℕ) → state_at counted b ≡ state_at book b
    counted_state b = ap (λ (states : List State). slice_index_or states b Clean) same.states

    counted_within : block < length counted.states
    counted_within = subst (λ (states : List State). block < length states) (sym same.states) block_within

    -- the book after it
    abbrev effected : BookValue
    effected = with_state (recorded book block former) block (next_state g.pages fill)

    filled_to : filled (recorded book block former) block ≡ effected
    filled_to = filled_is counted block fill (counted_state block ∙ active) ∙ ap (λ (n : ℕ). with_state counted block (next_state n fill)) (same.pages ∙ t.sizes.pages)

    live_after : (b : ℕ) → b < g.blocks → live_at effected b ≡ live_count g new b
    unfolding live_count
    live_after b within =
        let stood : one_in former b ≡ one_if (stands_in g b (live_record g old h.sector)) =
        ap (λ (o : Option Entry). one_in (former_in book o) b) former_entry ∙ former_at g book (live_record g old h.sector) b t.sizes.pages in
        let stands : one_if (stands_in g b (live_record g new h.sector)) ≡ one_at block b =
        ap (λ (o : Option Placed). one_if (stands_in g b o)) wins.live ∙ ap (λ (c : ℕ). one_at c b) (block_of_next g block fill p.active.room) in
        let moved : live_count g new b + one_if (stands_in g b (live_record g old h.sector)) ≡ live_count g old b + one_if (stands_in g b (live_record g new h.sector))
        =
        count_moves (λ s. stands_in g b (live_record g old s)) (λ s. stands_in g b (live_record g new s)) g.sectors h.sector p.sector
        (λ k below other. ap (stands_in g b) (sym (wins.others k other))) in
        let effect : live_at counted b + one_in former b ≡ live_at book b + one_at block b = recorded_live book block former b t.kept block_within may_drop in
        let was : live_at book b ≡ live_count g old b = t.live_counts b within in
        omega arith
      where
        wins : GateWins g old new (first_slot (next_page g block fill)) h
        wins = wins_from_gate g block fill h old new p charged

    valid_after : IsValid effected
    valid_after = valid_state counted block (next_state g.pages fill) (valid_recorded book block former t.kept block_within room_within may_drop) counted_within
        (subst (λ (n : ℕ). InRange n counted.units counted.generations (next_state g.pages fill)) (sym (same.pages ∙ t.sizes.pages))
        (next_in_range g.pages counted.units counted.generations fill p.active.room (subst (λ (n : ℕ). 2 ≤ n) (sym same.generations) t.kept.two_generations)))
        (λ _ c c_active. t.kept.one_active c block (subst (λ (s : State). is_active s ≡ true) (counted_state c) c_active) (ap is_active active))

    -- the tables are true again
    pub effect_true : (entry : Entry) → entry_of (Some placed) ≡ Some entry → IsTrue g new (filled (recorded book block former) block) (slice_set table h.sector (Some entry)) (seq + 1)
    effect_true entry names = subst (λ (v : BookValue). IsTrue g new v (slice_set table h.sector (Some entry)) (seq + 1)) (sym filled_to) (record {
      live_counts = live_after;
      entries =
          ap₂ (λ (map : List (Option Entry)) (o : Option Entry). slice_set map h.sector o) t.entries (sym names ∙ ap entry_of (sym (wins_from_gate g block fill h old new p charged).live))
          ∙ map_moves g old new h.sector p.sector (wins_from_gate g block fill h old new p charged).others;
      one_spare = spare_stays counted block (next_state g.pages fill) counted_within (ap is_spare (counted_state block ∙ active)) (next_not_spare g.pages fill) spare_before;
      states = λ b within. state_after b within (cases_eq b block);
      kept = valid_after;
      next_seq = inl (λ place k e. elim (header_after g (first_slot (next_page g block fill)) h old new p.put p.header place k e) [
        | inl stood ↦ (let below : k.seq < h.seq = p.fresh place k stood in omega arith)
        | inr own ↦ (let is : k.seq ≡ h.seq = ap (λ (x : Header). x.seq) own.1 in omega arith)
      ]);
      sizes = record {
        blocks = length-set counted.states block (next_state g.pages fill) ∙ (ap (length {A = State}) same.states ∙ t.sizes.blocks);
        pages = same.pages ∙ t.sizes.pages;
        units = same.units ∙ t.sizes.units;
        generations = same.generations ∙ t.sizes.generations;
      };
    })
      where
        spare_before : HasOneSpare counted
        spare_before =
            let s = t.one_spare in
            (s.0, ap is_spare (counted_state s.0) ∙ s.1, λ c c_is. s.2 c (sym (ap is_spare (counted_state c)) ∙ c_is))

        state_after : (b : ℕ) → b < g.blocks → (b ≡ block) ⊎ (b ≢ block) → IsTrueState g new b (state_at effected b)
        state_after b within (inl here) = subst (λ (c : ℕ). IsTrueState g new c (state_at effected c)) (sym here)
            (subst (IsTrueState g new block) (sym (state_here counted block (next_state g.pages fill) counted_within))
            (active_after (subst (λ (n : ℕ). 2 ≤ n) t.sizes.generations t.kept.two_generations)))
        state_after b within (inr apart) = subst (IsTrueState g new b) (sym (state_there counted block b (next_state g.pages fill) apart ∙ counted_state b))
            (state_stays g old new b (state_at book b) (others_stay b apart) (t.states b within))
