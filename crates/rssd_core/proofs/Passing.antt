-- The pass of the offered unit, after a second write or alone: the tables are true.
use Rattle.std.proofs.Common.{◌≡◌, ◌≢◌, inl, inr, ℕ, ◌+◌, ◌*◌, ◌<◌, Bool, true, false, IsTrue as Passes, List, length, if◌then◌else◌, ◌==◌, Option, Some, refl, sym, ap, ap₂, ◌∙◌, subst, arith}
use Rattle.std.specs.Prelude.{slice_set}
use Rattle.std.proofs.lemmas.Bool.{cases_eq, eq-eqb, ne_eqb, false≢true}
use Rattle.zero_count.specs.declared.Header.{Header}
use Rattle.sector_map.specs.declared.entry.Entry.{Entry}
use Rattle.sector_map.specs.Entry.{entry_at}
use Rattle.block_state.specs.declared.state.State.{State}
use Rattle.block_state.specs.declared.state.State.TheVariants.{Used, Recycled, Reused}
use Rattle.block_state.specs.State.{is_active, is_spare, InRange}
use Rattle.block_state.specs.Book.{BookValue, IsValid, state_at, live_at, with_state, HasOneSpare}
use Rattle.reuse_pool.specs.declared.unit.ReuseUnit.{ReuseUnit}
use Rattle.reuse_pool.specs.Offer.{IsOffer, is_recycled, passed}
use Rattle.page_codec.specs.Geometry.{Geometry, units}
use Rattle.page_codec.specs.Records.{live_record}
use Rattle.page_codec.specs.Gate.{GateWins}
use Rattle.page_codec.specs.Sound.{live_count}
use Rattle.page_codec.specs.TrueBook.{IsTrue, IsTrueState, IsTrueRecycled, IsNextSeq, HasSizes, entry_of}
use Rattle.page_codec.proofs.PutLaws.{header_after}
use Rattle.collector.specs.Effects.{recorded, former_in, MayDrop}
use Rattle.collector.proofs.Books.{SameStates, one_at, one_in, recorded_states, valid_recorded, recorded_live, valid_state, spare_stays, state_here, state_there}
use Rattle.collector.proofs.Room.{has_room}
use Rattle.rssd_core.specs.Steps.{IsSized, place_in, former_block}
use Rattle.rssd_core.proofs.BlockLaws.{state_stays}
use Rattle.rssd_core.proofs.Opening.{sizes_with_state}
use Rattle.rssd_core.proofs.RecordLaws.{former_of, former_is, entry_is, live_moves, map_moves, may_drop}
use Rattle.rssd_core.proofs.SecondWrite.{PutsOver, over_gate, none_committed, may, block_is, wins_from_gate, passed_state, other_stays}

-- ---- the state after a pass

-- a number at the last unit, and one before
pub passed_cases : (v : BookValue) (unit : ReuseUnit) (P : State → Type 0) → P Reused → (unit.slot + 1 ≢ v.generations → P (Used unit.slot))
    → (unit.number + 1 ≢ v.units → P (Recycled unit.slot (unit.number + 1))) → P (passed v unit)
passed_cases v unit P reused used recycled = elim (cases_eq (unit.number + 1) v.units) [
  | inr more ↦ subst (λ (t : Bool). P (if t then (if unit.slot + 1 == v.generations then Reused else Used unit.slot) else Recycled unit.slot (unit.number + 1))) (sym (ne_eqb _ _ more)) (recycled more)
  | inl last ↦ subst (λ (t : Bool). P (if t then (if unit.slot + 1 == v.generations then Reused else Used unit.slot) else Recycled unit.slot (unit.number + 1))) (sym (eq-eqb _ _ last))
      (elim (cases_eq (unit.slot + 1) v.generations) [
        | inl top ↦ subst (λ (t : Bool). P (if t then Reused else Used unit.slot)) (sym (eq-eqb _ _ top)) reused
        | inr below ↦ subst (λ (t : Bool). P (if t then Reused else Used unit.slot)) (sym (ne_eqb _ _ below)) (used below)
      ])
]

pub passed_in_range : (v : BookValue) (unit : ReuseUnit) → 0 < unit.slot → unit.slot < v.generations → unit.number < v.units → InRange v.pages v.units v.generations (passed v unit)
passed_in_range v unit low high more = passed_cases v unit (InRange v.pages v.units v.generations) tt (λ below. omega (arith, below)) (λ next. (low, high, omega (arith, next)))

pub passed_not_active : (v : BookValue) (unit : ReuseUnit) → is_active (passed v unit) ≡ false
passed_not_active v unit = passed_cases v unit (λ s. is_active s ≡ false) refl (λ below. refl) (λ next. refl)

pub passed_not_spare : (v : BookValue) (unit : ReuseUnit) → is_spare (passed v unit) ≡ false
passed_not_spare v unit = passed_cases v unit (λ s. is_spare s ≡ false) refl (λ below. refl) (λ next. refl)

-- the state of the offer's block says what its unit is
pub offered_state : (g : Geometry) (cells : List (List ℕ)) (book : BookValue) (table : List (Option Entry)) (seq : ℕ) (unit : ReuseUnit) → IsTrue g cells book table seq → IsOffer book unit
    → (unit.block < g.blocks) × IsTrueRecycled g cells unit.block unit.slot unit.number
offered_state g cells book table seq unit true_tables offer =
    let inside : unit.block < g.blocks = subst (λ (n : ℕ). unit.block < n) true_tables.sizes.blocks offer.0 in
    (inside, subst (IsTrueState g cells unit.block) offer.1 (true_tables.states unit.block inside))

-- ---- a pass alone

alone_state : (g : Geometry) (cells : List (List ℕ)) (unit : ReuseUnit) (v : BookValue) → IsTrueRecycled g cells unit.block unit.slot unit.number → v.units ≡ units g → v.generations ≡ g.generations
    → IsTrueState g cells unit.block (passed v unit)
alone_state g cells unit v offered whole slots = passed_cases v unit (IsTrueState g cells unit.block) tt
    (λ below. record { may_rise = omega (arith, slots, offered.high, below); above = offered.above })
    (λ next. record {
      low = offered.low;
      high = offered.high;
      more = omega (arith, whole, offered.more, next);
      blank = λ u from within. offered.blank u (omega arith) within;
      above = offered.above;
      live = λ sector placed within e here. let was = offered.live sector placed within e here in (was.0, (was.1.0, omega (arith, was.1.1), was.1.2));
    })

pub pass_true : (g : Geometry) (cells : List (List ℕ)) (book : BookValue) (table : List (Option Entry)) (seq : ℕ) (unit : ReuseUnit) → IsTrue g cells book table seq → IsOffer book unit
    → IsTrue g cells (with_state book unit.block (passed book unit)) table seq
pass_true g cells book table seq unit true_tables offer =
    let offered = offered_state g cells book table seq unit true_tables offer in
    let range : InRange book.pages book.units book.generations (passed book unit) =
    passed_in_range book unit offered.1.low (omega (arith, offered.1.high, true_tables.sizes.generations)) (omega (arith, offered.1.more, true_tables.sizes.units)) in
    record {
      live_counts = true_tables.live_counts;
      entries = true_tables.entries;
      one_spare = spare_stays book unit.block (passed book unit) offer.0 (ap is_spare offer.1) (passed_not_spare book unit) true_tables.one_spare;
      states = λ c inside. elim (cases_eq c unit.block) [
        | inl here ↦ subst (λ (d : ℕ). IsTrueState g cells d (state_at (with_state book unit.block (passed book unit)) d)) (sym here)
            (subst (IsTrueState g cells unit.block) (sym (state_here book unit.block (passed book unit) offer.0))
            (alone_state g cells unit book offered.1 true_tables.sizes.units true_tables.sizes.generations))
        | inr there ↦ subst (IsTrueState g cells c) (sym (state_there book unit.block c (passed book unit) there)) (true_tables.states c inside)
      ];
      kept = valid_state book unit.block (passed book unit) true_tables.kept offer.0 range (λ active. absurd (false≢true (sym (passed_not_active book unit) ∙ active)));
      next_seq = true_tables.next_seq;
      sizes = sizes_with_state g book unit.block (passed book unit) true_tables.sizes;
    }

-- ---- a second write and its pass

-- the record that was put, with the next seq
pub record WritesOver (g : Geometry) (unit : ReuseUnit) (h : Header) (old new : List (List ℕ)) (book : BookValue) (table : List (Option Entry)) (seq : ℕ) : Type 0 where
  pub put : PutsOver g unit h old new
  pub gated : over_gate g unit new ≡ true
  pub tables : IsTrue g old book table seq
  pub offer : IsOffer book unit
  pub next : h.seq ≡ seq

pub former_known : (g : Geometry) (cells : List (List ℕ)) (book : BookValue) (table : List (Option Entry)) (seq sector : ℕ) → IsTrue g cells book table seq → sector < g.sectors
    → former_block book table sector ≡ former_of g (live_record g cells sector)
former_known g cells book table seq sector true_tables within =
    ap (λ (t : List (Option Entry)). former_in book (entry_at t sector)) true_tables.entries
    ∙ (ap (former_in book) (entry_is g cells sector within) ∙ former_is g book (live_record g cells sector) true_tables.sizes.pages)

pub former_drops : (g : Geometry) (cells : List (List ℕ)) (book : BookValue) (table : List (Option Entry)) (seq sector : ℕ) → IsSized g → IsTrue g cells book table seq → sector < g.sectors
    → MayDrop book (former_block book table sector)
former_drops g cells book table seq sector sized true_tables within =
    subst (MayDrop book) (sym (former_known g cells book table seq sector true_tables within)) (may_drop g cells book table seq sector sized true_tables (live_record g cells sector) refl)

-- the unit's block has room for one live record more
pub over_room : (g : Geometry) (unit : ReuseUnit) (h : Header) (old new : List (List ℕ)) (book : BookValue) (table : List (Option Entry)) (seq : ℕ) → PutsOver g unit h old new
    → IsTrue g old book table seq
    → live_at book unit.block < book.generations * book.pages
over_room g unit h old new book table seq put true_tables =
    let few : live_count g old unit.block < g.generations * g.pages =
    subst (λ (b : ℕ). live_count g old b < g.generations * g.pages) (block_is g unit h old new put)
    (has_room g old (place_in g unit) (omega (arith, put.sized.two_slots)) (may g unit h old new put) (none_committed g unit h old new put)) in
    subst (λ (n : ℕ). live_at book unit.block < n) (ap₂ (λ (a b : ℕ). a * b) (sym true_tables.sizes.generations) (sym true_tables.sizes.pages))
    (subst (λ (n : ℕ). n < g.generations * g.pages) (sym (true_tables.live_counts unit.block put.inside)) few)

module _ (g : Geometry) (unit : ReuseUnit) (h : Header) (old new : List (List ℕ)) (book : BookValue) (table : List (Option Entry)) (seq : ℕ) (w : WritesOver g unit h old new book table seq) where
  abbrev former : Option ℕ
  former = former_block book table h.sector

  abbrev after : BookValue
  after = recorded book unit.block (former_block book table h.sector)

  states_same : SameStates book (recorded book unit.block (former_block book table h.sector))
  states_same = recorded_states book unit.block (former_block book table h.sector)

  state_same : (c : ℕ) → state_at (recorded book unit.block (former_block book table h.sector)) c ≡ state_at book c
  state_same c = ap (λ (states : List State). state_at (record book { states = states }) c) states_same.states

  drops : MayDrop book (former_block book table h.sector)
  drops = former_drops g old book table seq h.sector w.put.sized w.tables w.put.sector

  -- the offer is still the offer
  pub still_offered : IsOffer (recorded book unit.block (former_block book table h.sector)) unit
  still_offered = (
    subst (λ (states : List State). unit.block < length states) (sym states_same.states) w.offer.0,
    state_same unit.block ∙ w.offer.1,
    λ c below is. w.offer.2 c below (subst (λ (s : State). Passes (is_recycled s)) (state_same c) is),
  )

  valid_after : IsValid (recorded book unit.block (former_block book table h.sector))
  valid_after = valid_recorded book unit.block (former_block book table h.sector) w.tables.kept w.offer.0 (over_room g unit h old new book table seq w.put w.tables) drops

  sizes_after : HasSizes g (recorded book unit.block (former_block book table h.sector))
  sizes_after = record {
    blocks = ap (λ (states : List State). length states) states_same.states ∙ w.tables.sizes.blocks;
    pages = states_same.pages ∙ w.tables.sizes.pages;
    units = states_same.units ∙ w.tables.sizes.units;
    generations = states_same.generations ∙ w.tables.sizes.generations;
  }

  wins : GateWins g old new (place_in g unit) h
  wins = wins_from_gate g unit h old new w.put w.gated

  counts_after : (c : ℕ) → c < g.blocks → live_at (recorded book unit.block (former_block book table h.sector)) c ≡ live_count g new c
  counts_after c inside =
      let book_moves = recorded_live book unit.block (former_block book table h.sector) c w.tables.kept w.offer.0 drops in
      let cells_move : live_count g new c + one_in (former_block book table h.sector) c ≡ live_count g old c + one_at unit.block c =
      ap (λ (o : Option ℕ). live_count g new c + one_in o c) (former_known g old book table seq h.sector w.tables w.put.sector)
      ∙ (live_moves g old new (place_in g unit) h w.put.sector wins c ∙ ap (λ (b : ℕ). live_count g old c + one_at b c) (block_is g unit h old new w.put)) in
      let was : live_at book c ≡ live_count g old c = w.tables.live_counts c inside in
      omega (arith, book_moves, cells_move, was)

  one_spare_after : HasOneSpare (recorded book unit.block (former_block book table h.sector))
  one_spare_after =
      let one = w.tables.one_spare in (
        one.0,
        subst (λ (s : State). Passes (is_spare s)) (sym (state_same one.0)) one.1,
        λ c is. one.2 c (subst (λ (s : State). Passes (is_spare s)) (state_same c) is),
      )

  next_after : IsNextSeq g new (seq + 1)
  next_after = inl (λ place k e. elim (header_after g (place_in g unit) h old new w.put.put w.put.header place k e) [
    | inl stood ↦ omega (arith, w.put.fresh place k stood, w.next)
    | inr own ↦ omega (arith, ap (λ (x : Header). x.seq) own.1, w.next)
  ])

  in_range_after : InRange after.pages after.units after.generations (passed after unit)
  in_range_after = passed_in_range after unit w.put.offered.low (omega (arith, w.put.offered.high, sizes_after.generations)) (omega (arith, w.put.offered.more, sizes_after.units))

  within_after : unit.block < length after.states
  within_after = still_offered.0

  state_after : (c : ℕ) → c < g.blocks → IsTrueState g new c (state_at (with_state after unit.block (passed after unit)) c)
  state_after c inside = elim (cases_eq c unit.block) [
    | inl here ↦ subst (λ (d : ℕ). IsTrueState g new d (state_at (with_state after unit.block (passed after unit)) d)) (sym here)
        (subst (IsTrueState g new unit.block) (sym (state_here after unit.block (passed after unit) within_after))
        (passed_state g unit h old new w.put w.gated after sizes_after.units sizes_after.generations))
    | inr there ↦ subst (IsTrueState g new c) (sym (state_there after unit.block c (passed after unit) there ∙ state_same c))
        (state_stays g old new c (state_at book c) w.put.sized (other_stays g unit h old new w.put w.gated c there) (w.tables.states c inside))
  ]

  -- the tables are true
  pub second_true : IsTrue g new (with_state after unit.block (passed after unit)) (slice_set table h.sector (entry_of (Some (record { place = place_in g unit; header = h })))) (seq + 1)
  second_true = record {
    live_counts = counts_after;
    entries =
        ap (λ (t : List (Option Entry)). slice_set t h.sector (entry_of (Some (record { place = place_in g unit; header = h })))) w.tables.entries
        ∙ map_moves g old new (place_in g unit) h w.put.sector wins;
    one_spare = spare_stays after unit.block (passed after unit) within_after (ap is_spare still_offered.1) (passed_not_spare after unit) one_spare_after;
    states = state_after;
    kept = valid_state after unit.block (passed after unit) valid_after within_after in_range_after (λ active. absurd (false≢true (sym (passed_not_active after unit) ∙ active)));
    next_seq = next_after;
    sizes = sizes_with_state g after unit.block (passed after unit) sizes_after;
  }
