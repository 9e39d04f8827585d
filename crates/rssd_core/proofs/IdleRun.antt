-- What the moves of an idle call, one after another, leave.
use Rattle.std.proofs.Common.{◌≡◌, ◌≢◌, ◌⊎◌, inl, inr, ℕ, ◌+◌, ◌*◌, ◌<◌, ◌≤◌, true, if◌then◌else◌, List, [], ◌∷◌, ◌++◌, length, length-append, Option, Some, refl, sym, ap, ◌∙◌, subst, arith}
use Rattle.std.specs.Prelude.{slice_index, max, ◌/◌, ◌-◌, ◌==◌, Bool, false}
use Rattle.std.specs.List.{All, Contains}
use Rattle.std.proofs.lemmas.Bool.{cases_eq, cases_lt, eq-eqb, ne_eqb, false≢true}
use Rattle.std.proofs.lemmas.List.Elements.{All-push, All-nil, Contains-append_left, Contains-append_right}
use Rattle.std.proofs.lemmas.List.{get_or_append_left}
use Rattle.std.proofs.lemmas.Nat.{div-add-mod', mod_below}
use Rattle.page_codec.specs.Sectors.{says_zeros}
use Rattle.cell_die.specs.DieState.{DieState}
use Rattle.std.proofs.Math.Seq.{get_or-append_seam}
use Rattle.cell_die.specs.Calls.{PassedWithin}
use Rattle.cell_die.proofs.Sequences.{kept_refl, passed_none, passed_within}
use Rattle.zero_count.specs.declared.Header.{Header}
use Rattle.striped.specs.Meaning.{Decoding}
use Rattle.block_state.specs.declared.state.State.{State}
use Rattle.block_state.specs.declared.state.State.TheVariants.{Active, Used}
use Rattle.block_state.specs.State.{is_active, is_closed, InRange}
use Rattle.block_state.specs.Book.{BookValue, NoneActive, state_at, with_state}
use Rattle.page_alloc.specs.declared.next_page.NextPage.TheVariants.{Page}
use Rattle.page_codec.specs.Geometry.{Geometry, block_of}
use Rattle.page_codec.specs.Puts.{first_slot}
use Rattle.page_codec.specs.Records.{Placed, live_record}
use Rattle.page_codec.specs.TrueBook.{IsTrueState}
use Rattle.collector.specs.Effects as effects
use Rattle.collector.specs.Moves.{Moved, IsFirstLive, plain_kind, move_reads as reads_of_move}
use Rattle.collector.specs.Store.{Store, IsTrueStore, SameRows, Holds}
use Rattle.collector.proofs.Books.{recorded_states, active_within, state_here, state_there}
use Rattle.collector.proofs.Tables.{filled_is, next_state}
use Rattle.collector.specs.Effects.{fill_of}
use Rattle.rssd_core.specs.BookChanges.{Change, Fills, Leads, filled_in, is_idle}
use Rattle.rssd_core.specs.Calls.{move_reads}
use Rattle.rssd_core.specs.Rules.{first_block, next_page}
use Rattle.rssd_core.specs.DeviceValue.{Numbers}
use Rattle.rssd_core.specs.Idle.{MovesRun, none, more}
use Rattle.rssd_core.specs.IdleRule.{MovesByRule}
use Rattle.rssd_core.proofs.BlockLaws.{block_of_page}
use Rattle.rssd_core.proofs.ByRule.{moment, move_by_rule, rule_none, rule_append}
use Rattle.rssd_core.proofs.Chained.{holds_trans, within_trans, leads_append, leads_one, leads_none}
use Rattle.rssd_core.proofs.Rules.{next_is, active_is}

-- ---- what no move changes, and how many calls are made

pub holds_refl : (g : Geometry) (s : Store) → Holds g s s
holds_refl g s = record { kept = kept_refl s.die; pads = λ free. free; sound = λ sound. sound; seqs = omega arith; drew = λ why place h e. inl e }

pub run_holds : (g : Geometry) (d : Decoding) (k : ℕ) (old new : Store) → MovesRun g d k old new → Holds g old new
run_holds g d _ _ _ (none old) = holds_refl g old
run_holds g d _ _ _ (more k old mid new run moved holds) = holds_trans g old mid new (run_holds g d k old mid run) holds

pub run_rows : (g : Geometry) (d : Decoding) (k : ℕ) (old new : Store) → MovesRun g d k old new → SameRows g d old new
run_rows g d _ _ _ (none old) = refl
run_rows g d _ _ _ (more k old mid new run moved holds) = moved.rows ∙ run_rows g d k old mid run

pub run_seq : (g : Geometry) (d : Decoding) (k : ℕ) (old new : Store) → MovesRun g d k old new → new.seq ≡ old.seq + k
run_seq g d _ _ _ (none old) = omega arith
run_seq g d _ _ _ (more k old mid new run moved holds) = omega (arith, run_seq g d k old mid run, moved.seq)

pub run_tables : (g : Geometry) (d : Decoding) (k : ℕ) (old new : Store) → MovesRun g d k old new → IsTrueStore g old → IsTrueStore g new
run_tables g d _ _ _ (none old) t = t
run_tables g d _ _ _ (more k old mid new run moved holds) t = moved.tables

pub run_erases : (g : Geometry) (d : Decoding) (k : ℕ) (old new : Store) → MovesRun g d k old new → new.die.erases ≡ old.die.erases
run_erases g d _ _ _ (none old) = refl
run_erases g d _ _ _ (more k old mid new run moved holds) = moved.erases ∙ run_erases g d k old mid run

-- the reads of a move are at most those of all pages of its block and of getting a record
pub few_reads : (g : Geometry) (cells : List (List ℕ)) (victim : ℕ) (first : Placed) → 0 < g.pages → IsFirstLive g cells victim first → reads_of_move g victim first ≤ move_reads g
few_reads g cells victim first some is = omega (arith, high, gets (says_zeros first.header) (first.place.slot == 0))
  where
    high : first.place.page < victim * g.pages + g.pages
    high = subst (λ (b : ℕ). first.place.page < b * g.pages + g.pages) is.inside (below first.place.page g.pages some)
      where
        below : (p w : ℕ) → 0 < w → p < p / w * w + w
        below p w some = omega (arith, div-add-mod' p w, mod_below p w some)

    gets : (z s : Bool) → (if z then 0 else (if s then 1 else g.span)) ≤ max 1 g.span
    gets true s = omega arith
    gets false true = omega arith
    gets false false = omega arith

-- an Active block has a page
pub some_pages : (g : Geometry) (s : Store) (block fill : ℕ) → IsTrueStore g s → state_at s.book block ≡ Active fill → 0 < g.pages
some_pages g s block fill t active =
    let room : fill < s.book.pages = subst (InRange s.book.pages s.book.units s.book.generations) active (t.kept.in_range block) in
    omega (arith, room, t.sizes.pages)

-- a bound on the reads may be greater
pub more_within : (c r reads : ℕ) (old new : DieState) → r ≤ reads → PassedWithin c r old new → PassedWithin c reads old new
more_within c r reads old new few w =
    subst (λ (n : ℕ). PassedWithin n reads old new) (plus_none c)
    (subst (λ (n : ℕ). PassedWithin (c + 0) n old new) (up few) (within_trans c r 0 (reads - r) old new new w (passed_within (reads - r) (omega arith) (passed_none new))))
  where
    plus_none : (n : ℕ) → n + 0 ≡ n
    plus_none n = omega arith

    up : r ≤ reads → r + (reads - r) ≡ reads
    up few = omega arith

pub run_calls : (g : Geometry) (d : Decoding) (k : ℕ) (old new : Store) → MovesRun g d k old new → IsTrueStore g old → PassedWithin (2 * k) (k * move_reads g) old.die new.die
run_calls g d _ _ _ (none old) t = subst (λ (r : ℕ). PassedWithin 0 r old.die old.die) (no_times (move_reads g)) (passed_within 0 (omega arith) (passed_none old.die))
  where
    no_times : (m : ℕ) → 0 ≡ 0 * m
    no_times m = omega arith
run_calls g d _ _ _ (more k old mid new run moved holds) t =
    subst (λ (c : ℕ). PassedWithin c ((k + 1) * move_reads g) old.die new.die) changes
    (subst (λ (r : ℕ). PassedWithin (2 * k + 2) r old.die new.die) reads
    (within_trans (2 * k) (k * move_reads g) 2 (move_reads g) old.die mid.die new.die (run_calls g d k old mid run t) one))
  where
    one : PassedWithin 2 (move_reads g) mid.die new.die
    one = more_within 2 (reads_of_move g moved.victim moved.first) (move_reads g) mid.die new.die
        (few_reads g mid.die.cells moved.victim moved.first (some_pages g mid moved.block moved.fill (run_tables g d k old mid run t) moved.active) moved.is_first) moved.calls

    changes : 2 * k + 2 ≡ 2 * (k + 1)
    changes = omega arith

    reads : k * move_reads g + move_reads g ≡ (k + 1) * move_reads g
    reads = times (move_reads g)
      where
        times : (m : ℕ) → k * m + m ≡ (k + 1) * m
        times m = omega arith

-- ---- the book changes

-- records on the Active block's pages, each with its rule, lead from v to w
pub record FillsOnly (v w : BookValue) : Type 0 where
  pub changes : List Change
  pub leads : (reuse_max : ℕ) → Leads reuse_max v changes w
  pub idle : All (λ change. is_idle change ≡ true) changes

fills_move : (r : ℕ) (g : Geometry) (d : Decoding) (old new : Store) → IsTrueStore g old → (m : Moved g d old new) → Leads r old.book (Fills (Some m.victim) ∷ []) new.book
fills_move r g d old new t m = leads_one r old.book new.book (Fills (Some m.victim)) (m.block * old.book.pages + m.fill, next, fills)
  where
    next : next_page old.book ≡ Page (m.block * old.book.pages + m.fill)
    next = next_is old.book t.kept t.one_spare (Page (m.block * old.book.pages + m.fill)) (m.block, m.fill, m.active, refl)

    fills : new.book ≡ filled_in old.book (first_block is_active old.book) (Some m.victim)
    fills = m.book ∙ sym (ap (λ (o : Option ℕ). filled_in old.book o (Some m.victim)) (active_is old.book t.kept m.block (ap is_active m.active)))

pub run_fills : (g : Geometry) (d : Decoding) (k : ℕ) (old new : Store) → MovesRun g d k old new → IsTrueStore g old → FillsOnly old.book new.book
run_fills g d _ _ _ (none old) t = record { changes = []; leads = λ r. leads_none r old.book; idle = All-nil (λ change. is_idle change ≡ true) }
run_fills g d _ _ _ (more k old mid new run moved holds) t =
    let so_far = run_fills g d k old mid run t in
    record {
      changes = so_far.changes ++ Fills (Some moved.victim) ∷ [];
      leads = λ r. leads_append r old.book mid.book new.book so_far.changes (Fills (Some moved.victim) ∷ []) (so_far.leads r) (fills_move r g d mid new (run_tables g d k old mid run t) moved);
      idle = All-push (λ change. is_idle change ≡ true) so_far.changes (Fills (Some moved.victim)) so_far.idle refl;
    }

-- ---- where the records went

-- The live records of k sectors stand in order on the Active block's pages from `fill` on. It has room for more, or is closed.
pub record InOrder (d : Numbers) (k : ℕ) (old new : Store) : Type 0 where
  pub block : ℕ
  pub fill : ℕ
  pub sectors : List ℕ
  pub count : length sectors ≡ k
  pub active : state_at old.book block ≡ Active fill
  pub room : fill + k ≤ d.geometry.pages
  pub now : (state_at new.book block ≡ Active (fill + k)) ⊎ NoneActive new.book
  pub distinct : (i j : ℕ) → i < j → j < length sectors → slice_index sectors i ≢ slice_index sectors j
  pub moved : (i : ℕ) → i < length sectors
      → (header : Header) × (live_record d.geometry new.die.cells (slice_index sectors i) ≡ Some (record { place = first_slot (block * d.geometry.pages + fill + i); header = header }))
  pub others : (sector : ℕ) → (Contains sectors sector → ⊥) → live_record d.geometry new.die.cells sector ≡ live_record d.geometry old.die.cells sector
  pub by_rule : MovesByRule d sectors (moment old) (moment new)

fill_is : (a b : ℕ) → Active a ≡ Active b → a ≡ b
fill_is a b e = ap fill_of e

module _ (d : Numbers) (old new : Store) (t : IsTrueStore d.geometry old) (m : Moved d.geometry d.meaning.decoding old new) where
  inside : m.block < d.geometry.blocks
  inside = subst (λ (n : ℕ). m.block < n) t.sizes.blocks (active_within old.book m.block m.fill m.active)

  has_room : m.fill < d.geometry.pages
  has_room = (subst (IsTrueState d.geometry old.die.cells m.block) m.active (t.states m.block inside)).room

  -- nothing moved yet
  start : InOrder d 0 old old
  start = record {
    block = m.block;
    fill = m.fill;
    sectors = [];
    count = refl;
    active = m.active;
    room = omega (arith, has_room);
    now = inl (subst (λ (n : ℕ). state_at old.book m.block ≡ Active n) plus_none m.active);
    distinct = λ i j before within. absurd (omega arith);
    moved = λ i within. absurd (omega arith);
    others = λ sector apart. refl;
    by_rule = rule_none d (moment old) (moment old) refl;
  }
    where
      plus_none : m.fill ≡ m.fill + 0
      plus_none = omega arith

  abbrev grown : BookValue
  grown = effects.recorded old.book m.block (Some m.victim)

  state_same : (c : ℕ) → state_at grown c ≡ state_at old.book c
  state_same c = ap (λ (states : List State). state_at (record old.book { states = states }) c) (recorded_states old.book m.block (Some m.victim)).states

  book_is : new.book ≡ with_state grown m.block (next_state old.book.pages m.fill)
  book_is = m.book ∙ filled_is grown m.block m.fill (state_same m.block ∙ m.active)

  block_within : m.block < length grown.states
  block_within = subst (λ (states : List State). m.block < length states) (sym (recorded_states old.book m.block (Some m.victim)).states) (active_within old.book m.block m.fill m.active)

  block_now : state_at new.book m.block ≡ next_state old.book.pages m.fill
  block_now = ap (λ (v : BookValue). state_at v m.block) book_is ∙ state_here grown m.block (next_state old.book.pages m.fill) block_within

  other_now : (c : ℕ) → c ≢ m.block → state_at new.book c ≡ state_at old.book c
  other_now c apart = ap (λ (v : BookValue). state_at v c) book_is ∙ (state_there grown m.block c (next_state old.book.pages m.fill) apart ∙ state_same c)

  -- the Active block has its next page, or none is Active
  now_active : (state_at new.book m.block ≡ Active (m.fill + 1)) ⊎ NoneActive new.book
  now_active = elim (cases_eq (m.fill + 1) old.book.pages) [
    | inl last ↦ inr (closed (block_now ∙ ap (λ b. if b then Used 0 else Active (m.fill + 1)) (eq-eqb (m.fill + 1) old.book.pages last)))
    | inr further ↦ inl (block_now ∙ ap (λ b. if b then Used 0 else Active (m.fill + 1)) (ne_eqb (m.fill + 1) old.book.pages further))
  ]
    where
      closed : state_at new.book m.block ≡ Used 0 → NoneActive new.book
      closed used c is = elim (cases_eq c m.block) [
        | inl here ↦ false≢true (sym (ap is_active (ap (state_at new.book) here ∙ used)) ∙ is)
        | inr apart ↦ apart (t.kept.one_active c m.block (sym (ap is_active (other_now c apart)) ∙ is) (ap is_active m.active))
      ]

-- one more
module _ (d : Numbers) (k : ℕ) (old mid new : Store) (t : IsTrueStore d.geometry mid) (o : InOrder d k old mid) (m : Moved d.geometry d.meaning.decoding mid new) where
  same : (m.block ≡ o.block) × (m.fill ≡ o.fill + k)
  same = elim o.now [
    | inr closed ↦ absurd (closed m.block (ap is_active m.active))
    | inl active ↦ (
        let block = t.kept.one_active m.block o.block (ap is_active m.active) (ap is_active active) in
        (block, fill_is m.fill (o.fill + k) (sym m.active ∙ (ap (state_at mid.book) block ∙ active))))
  ]

  abbrev sector : ℕ
  sector = m.first.header.sector

  abbrev longer : List ℕ
  longer = o.sectors ++ m.first.header.sector ∷ []

  long : length longer ≡ length o.sectors + 1
  long = length-append o.sectors (m.first.header.sector ∷ [])

  below : (i : ℕ) → i < length o.sectors → slice_index longer i ≡ slice_index o.sectors i
  below i within = get_or_append_left o.sectors (m.first.header.sector ∷ []) 0 i within

  last : slice_index longer (length o.sectors) ≡ m.first.header.sector
  last = get_or-append_seam o.sectors m.first.header.sector [] 0

  at_last : (i : ℕ) → i ≡ length o.sectors → slice_index longer i ≡ m.first.header.sector
  at_last i e = ap (slice_index longer) e ∙ last

  -- a record that was moved stands in the Active block, and so is none of a closed one
  fresh : (i : ℕ) → i < length o.sectors → slice_index o.sectors i ≢ m.first.header.sector
  fresh i within e =
      let there = o.moved i within in
      let place : m.first ≡ record { place = first_slot (o.block * d.geometry.pages + o.fill + i); header = there.0 } =
      same_placed (sym m.is_first.live ∙ (ap (live_record d.geometry mid.die.cells) (sym e) ∙ there.1)) in
      let less : o.fill + i < d.geometry.pages = omega (arith, within, o.count, o.room) in
      let victim : m.victim ≡ o.block =
      sym m.is_first.inside ∙ (ap (λ (x : Placed). block_of d.geometry x.place.page) place
      ∙ (ap (block_of d.geometry) (around o.block d.geometry.pages o.fill i) ∙ block_of_page d.geometry o.block (o.fill + i) less)) in
      false≢true (sym (ap (λ (b : ℕ). is_closed (state_at mid.book b)) (victim ∙ sym same.0) ∙ ap is_closed m.active) ∙ m.is_victim.0.closed)
    where
      same_placed : {x y : Placed} → Some x ≡ Some y → x ≡ y
      same_placed e = search e

      around : (b p f i : ℕ) → b * p + f + i ≡ b * p + (f + i)
      around b p f i = omega arith

  order : InOrder d (k + 1) old new
  order = record {
    block = o.block;
    fill = o.fill;
    sectors = longer;
    count = omega (arith, long, o.count);
    active = o.active;
    room = omega (arith, same.1, has_room d mid new t m);
    now = elim (now_active d mid new t m) [
      | inr closed ↦ inr closed
      | inl active ↦ inl (subst (λ (b : ℕ). state_at new.book b ≡ Active (o.fill + (k + 1))) same.0 (active ∙ ap Active (omega (arith, same.1))))
    ];
    distinct = λ i j before within. elim (cases_lt j (length o.sectors)) [
      | inl inside ↦ λ e. o.distinct i j before inside (sym (below i (omega arith)) ∙ (e ∙ below j inside))
      | inr past ↦ λ e. fresh i (omega (arith, before, within, long)) (sym (below i (omega (arith, before, within, long))) ∙ (e ∙ at_last j (omega (arith, past, within, long))))
    ];
    moved = λ i within. elim (cases_lt i (length o.sectors)) [
      | inl inside ↦ (
          let there = o.moved i inside in
          (there.0, ap (live_record d.geometry new.die.cells) (below i inside) ∙ (m.others (slice_index o.sectors i) (fresh i inside) ∙ there.1)))
      | inr past ↦ (
          let e : i ≡ length o.sectors = omega (arith, past, within, long) in
          let page : m.block * d.geometry.pages + m.fill ≡ o.block * d.geometry.pages + o.fill + i = ap (λ (b : ℕ). b * d.geometry.pages + m.fill) same.0 ∙ next (o.block * d.geometry.pages) i e in
          (own, ap (live_record d.geometry new.die.cells) (at_last i e) ∙ (m.live ∙ ap (λ (p : ℕ). Some (record { place = first_slot p; header = own })) page)))
    ];
    others =
        λ s apart. m.others s (λ e. apart (Contains-append_right o.sectors (m.first.header.sector ∷ []) s (only s e)))
        ∙ o.others s (λ there. apart (Contains-append_left o.sectors (m.first.header.sector ∷ []) s there));
    by_rule = rule_append d o.sectors m.first.header.sector (moment old) (moment mid) (moment new) o.by_rule (move_by_rule d mid new t m);
  }
    where
      own : Header
      own = record { sector = m.first.header.sector; seq = mid.seq; kind = plain_kind m.first.header }

      next : (n i : ℕ) → i ≡ length o.sectors → n + m.fill ≡ n + o.fill + i
      next n i e = omega (arith, same.1, o.count)

      only : (s : ℕ) → s ≡ m.first.header.sector → Contains (m.first.header.sector ∷ []) s
      only s e = (0, omega arith, sym e)

pub run_order : (d : Numbers) (k : ℕ) (old new : Store) → MovesRun d.geometry d.meaning.decoding k old new → IsTrueStore d.geometry old → ((k ≡ 0) × (old ≡ new)) ⊎ InOrder d k old new
run_order d _ _ _ (none old) t = inl (refl, refl)
run_order d _ _ _ (more k old mid new run m holds) t =
    let tables = run_tables d.geometry d.meaning.decoding k old mid run t in
    let so_far : InOrder d k old mid = elim (run_order d k old mid run t) [
      | inr o ↦ o
      | inl start_of ↦ subst (λ (n : ℕ). InOrder d n old mid) (sym start_of.0) (subst (λ (s : Store). InOrder d 0 s mid) (sym start_of.1) (start d mid new tables m))
    ] in
    inr (order d k old mid new tables so_far m)

-- the moves by the idle-move rule
pub record RanByRule (d : Numbers) (k : ℕ) (old new : Store) : Type 0 where
  pub sectors : List ℕ
  pub count : length sectors ≡ k
  pub by_rule : MovesByRule d sectors (moment old) (moment new)

pub run_by_rule : (d : Numbers) (k : ℕ) (old new : Store) → MovesRun d.geometry d.meaning.decoding k old new → IsTrueStore d.geometry old → RanByRule d k old new
run_by_rule d k old new run t = elim (run_order d k old new run t) [
  | inr o ↦ record { sectors = o.sectors; count = o.count; by_rule = o.by_rule }
  | inl start_of ↦ record { sectors = []; count = sym start_of.0; by_rule = rule_none d (moment old) (moment new) (ap moment (sym start_of.1)) }
]

-- a call moves at most as many records as a block has pages
pub run_few : (d : Numbers) (k : ℕ) (old new : Store) → MovesRun d.geometry d.meaning.decoding k old new → IsTrueStore d.geometry old → k ≤ 128
run_few d k old new run t = elim (run_order d k old new run t) [
  | inl start_of ↦ omega (arith, start_of.0)
  | inr o ↦ omega (arith, o.room, t.sizes.pages, t.kept.few_pages)
]
