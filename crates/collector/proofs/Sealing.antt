-- The seal: from it on all copies are the live records of their sectors, all other live records stay, and so does every
-- stored sector.
use Rattle.std.proofs.Common.{◌≡◌, ◌≢◌, inl, inr, ℕ, ◌+◌, ◌*◌, ◌<◌, ◌≤◌, Bool, true, false, List, length, map, take, drop, ◌==◌, ◌||◌, nat_lt, if◌then◌else◌, Option, Some, None, refl, sym, ap}
use Rattle.std.proofs.Common.{◌∙◌, subst, arith}
use Rattle.std.specs.List.{filter_map, range_with_len}
use Rattle.std.proofs.lemmas.Bool.{cases_eq, cases_lt, cases_Bool, cond-false, eq-eqb, ne_eqb, eqb-true, false≢true}
use Rattle.std.proofs.lemmas.Bool.Decides.{nat_tests}
use Rattle.std.proofs.lemmas.Option.{same_Some}
use Rattle.zero_count.specs.declared.Header.{Header}
use Rattle.zero_count.specs.HeaderWord.{header_of}
use Rattle.cell_die.specs.Cells.{page_at, is_blank, with_charged, IsAbove}
use Rattle.cell_bits.proofs.Slices.{charge_main}
use Rattle.striped.specs.Meaning.{Decoding}
use Rattle.spare_gate.specs.Slots.{is_gate_charged, is_seal_charged, is_slot_blank, word_at, seal_cell_of}
use Rattle.spare_gate.proofs.Blank.{seal_keeps_blank}
use Rattle.spare_gate.proofs.Gates.{seal_charges, seal_keeps_gates, seal_keeps_words}
use Rattle.page_codec.specs.declared.place.Place.{Place}
use Rattle.page_codec.specs.Geometry.{Geometry, block_of, spare_at, main_at}
use Rattle.page_codec.specs.Records.{Placed, may_hold, below_sectors, header_in, record_in, is_copy, is_sealed, of_sector, places, records_of, newest, committed_in, live_record}
use Rattle.page_codec.specs.Sectors.{said_by, says_zeros, zero_sector, stored, InCells}
use Rattle.page_codec.specs.Sound.{IsSound, live_count, stands_in}
use Rattle.page_codec.proofs.Live.{of_records, in_records}
use Rattle.page_codec.proofs.Newest.{newest_is}
use Rattle.collector.specs.Moves.{ComesBefore}
use Rattle.collector.specs.Collections.{AreLiveOf, copy_of, nth}
use Rattle.collector.specs.Inside.{Taking}
use Rattle.collector.proofs.Committed.{committed_so, copy_committed, live_so}
use Rattle.collector.proofs.Copying.{is_copied_kind}
use Rattle.collector.proofs.Counting.{same_count, none_pass}
use Rattle.collector.proofs.Elsewhere.{OnlyIn, said_stays, committed_elsewhere}
use Rattle.collector.proofs.Says.{cells_stay}
use Rattle.collector.proofs.States.{BlockStays, page_in_block}

-- The seal of a spare that has taken the copies of the live records of a victim is charged.
pub record Seals (g : Geometry) (d : Decoding) (victim spare seq : ℕ) (start cells new : List (List ℕ)) (records : List Placed) : Type 0 where
  pub taking : Taking g d spare seq start cells records
  pub only : (page : ℕ) → page ≢ spare * g.pages → page_at new page ≡ page_at cells page
  pub here : page_at new (spare * g.pages) ≡ with_charged (page_at cells (spare * g.pages)) (seal_cell_of g.main_bytes)
  pub room : g.main_bytes + 31 < length (page_at cells (spare * g.pages))
  pub some : 0 < g.pages
  pub one : 1 ≤ g.generations
  pub fresh : (place : Place) (h : Header) → header_in g start place ≡ Some h → h.seq < seq
  pub are_live : AreLiveOf g start victim records
  pub few : length records < g.pages
  pub apart : victim ≢ spare
  pub free : (sector : ℕ) (x : Placed) → live_record g start sector ≡ Some x → block_of g x.place.page ≢ spare

comes_once : (a : Place) → ComesBefore a a → ⊥
comes_once a (inl page) = omega arith
comes_once a (inr slot) = omega (arith, slot.1)

module _ (g : Geometry) (d : Decoding) (victim spare seq : ℕ) (start cells new : List (List ℕ)) (records : List Placed) (s : Seals g d victim spare seq start cells new records) where
  -- ---- what stays of each slot

  word_stays : (page slot : ℕ) → word_at (spare_at g new page) slot ≡ word_at (spare_at g cells page) slot
  word_stays page slot = elim (cases_eq page (spare * g.pages)) [
    | inr other ↦ ap (λ (bytes : List ℕ). word_at (drop g.main_bytes bytes) slot) (s.only page other)
    | inl same ↦ subst (λ (q : ℕ). word_at (spare_at g new q) slot ≡ word_at (spare_at g cells q) slot) (sym same)
        (ap (λ (bytes : List ℕ). word_at (drop g.main_bytes bytes) slot) s.here ∙ seal_keeps_words g.main_bytes (page_at cells (spare * g.pages)) slot)
  ]

  gate_stays : (page slot : ℕ) → is_gate_charged (spare_at g new page) slot ≡ is_gate_charged (spare_at g cells page) slot
  gate_stays page slot = elim (cases_eq page (spare * g.pages)) [
    | inr other ↦ ap (λ (bytes : List ℕ). is_gate_charged (drop g.main_bytes bytes) slot) (s.only page other)
    | inl same ↦ subst (λ (q : ℕ). is_gate_charged (spare_at g new q) slot ≡ is_gate_charged (spare_at g cells q) slot) (sym same)
        (ap (λ (bytes : List ℕ). is_gate_charged (drop g.main_bytes bytes) slot) s.here ∙ seal_keeps_gates g.main_bytes (page_at cells (spare * g.pages)) slot)
  ]

  blankness_stays : (page slot : ℕ) → is_slot_blank (spare_at g new page) slot ≡ is_slot_blank (spare_at g cells page) slot
  blankness_stays page slot = elim (cases_eq page (spare * g.pages)) [
    | inr other ↦ ap (λ (bytes : List ℕ). is_slot_blank (drop g.main_bytes bytes) slot) (s.only page other)
    | inl same ↦ subst (λ (q : ℕ). is_slot_blank (spare_at g new q) slot ≡ is_slot_blank (spare_at g cells q) slot) (sym same)
        (ap (λ (bytes : List ℕ). is_slot_blank (drop g.main_bytes bytes) slot) s.here ∙ seal_keeps_blank g.main_bytes (page_at cells (spare * g.pages)) slot)
  ]

  main_stays : (page : ℕ) → main_at g new page ≡ main_at g cells page
  main_stays page = elim (cases_eq page (spare * g.pages)) [
    | inr other ↦ ap (take g.main_bytes) (s.only page other)
    | inl same ↦ subst (λ (q : ℕ). main_at g new q ≡ main_at g cells q) (sym same) (ap (take g.main_bytes) s.here ∙ charge_main g.main_bytes (page_at cells (spare * g.pages)) 248)
  ]

  -- the copies keep their main cells
  pub copy_cells : (i : ℕ) → i < length records → InCells g d new (spare * g.pages + i) (nth records i).header (said_by g d start (Some (nth records i)))
  copy_cells i h = cells_stay g d cells new (spare * g.pages + i) (nth records i).header (said_by g d start (Some (nth records i))) (main_stays (spare * g.pages + i)) (s.taking.copied i h).cells

  pub header_stays : (place : Place) → header_in g new place ≡ header_in g cells place
  header_stays place = ap header_of (word_stays place.page place.slot)

  record_stays : (place : Place) → record_in g new place ≡ record_in g cells place
  unfolding record_in
  record_stays place = ap (λ (word : List ℕ). if may_hold g place then below_sectors g (header_of word) else None) (word_stays place.page place.slot)

  first_page : block_of g (spare * g.pages) ≡ spare
  first_page = ap (block_of g) (sum spare g.pages) ∙ page_in_block g spare 0 s.some
    where
      sum : (a b : ℕ) → a * b ≡ a * b + 0
      sum a b = omega arith

  only_spare : OnlyIn g cells new spare
  only_spare page apart = s.only page (λ e. apart (ap (block_of g) e ∙ first_page))

  pub only_since : OnlyIn g start new spare
  only_since page apart = only_spare page apart ∙ s.taking.others page apart

  now_sealed : is_sealed g new spare ≡ true
  now_sealed = ap (λ (bytes : List ℕ). is_seal_charged (drop g.main_bytes bytes)) s.here ∙ seal_charges g.main_bytes (page_at cells (spare * g.pages)) s.room

  -- ---- what is committed

  copied_header : (i : ℕ) → is_copy (copy_of g spare seq (nth records i) i).header ≡ true
  copied_header i = is_copied_kind (nth records i).header.sector (seq + i) (nth records i).header

  none_before : (place : Place) → block_of g place.page ≡ spare → committed_in g cells place ≡ None
  none_before place here = at (committed_in g cells place) refl
    where
      at : (o : Option Header) → committed_in g cells place ≡ o → o ≡ None
      at None e = refl
      at (Some h) e =
          let so = committed_so g cells place h e in
          let found = s.taking.headers place h here so.header in
          absurd (false≢true (sym s.taking.unsealed ∙ (ap (is_sealed g cells) (sym here) ∙ so.sealed (ap is_copy found.3 ∙ copied_header found.0))))

  copy_counts : (i : ℕ) → i < length records → committed_in g new (copy_of g spare seq (nth records i) i).place ≡ Some (copy_of g spare seq (nth records i) i).header
  copy_counts i h =
      let c = s.taking.copied i h in
      copy_committed g new (copy_of g spare seq (nth records i) i).place (copy_of g spare seq (nth records i) i).header
      (record_stays (copy_of g spare seq (nth records i) i).place ∙ c.there)
      (gate_stays (spare * g.pages + i) 0 ∙ c.gated)
      (ap (is_sealed g new) (page_in_block g spare i (omega (arith, h, s.few))) ∙ now_sealed)

  -- what is committed in the spare is a copy
  is_copied : (place : Place) (h : Header) → block_of g place.page ≡ spare → committed_in g new place ≡ Some h
      → (i : ℕ) × (i < length records) × (place ≡ (copy_of g spare seq (nth records i) i).place) × (h ≡ (copy_of g spare seq (nth records i) i).header)
  is_copied place h here e = s.taking.headers place h here (sym (header_stays place) ∙ (committed_so g new place h e).header)

  -- what is committed elsewhere has an older seq
  is_older : (place : Place) (h : Header) → block_of g place.page ≢ spare → committed_in g new place ≡ Some h → h.seq < seq
  is_older place h apart e = s.fresh place h (
      ap (λ (bytes : List ℕ). header_of (word_at (drop g.main_bytes bytes) place.slot)) (sym (only_since place.page apart)) ∙ (committed_so g new place h e).header)

  -- ---- what is live

  -- the records are of different sectors
  pub one_each : (i j : ℕ) → i < length records → j < length records → (nth records i).header.sector ≡ (nth records j).header.sector → i ≡ j
  one_each i j h k same =
      let one_record : nth records i ≡ nth records j = same_Some _ _ (sym (s.are_live.live i h) ∙ (ap (live_record g start) same ∙ s.are_live.live j k)) in
      elim (cases_lt i j) [
        | inl before ↦ absurd (comes_once (nth records j).place (subst (λ (z : Placed). ComesBefore z.place (nth records j).place) one_record (s.are_live.ordered i j before k)))
        | inr not ↦ elim (cases_lt j i) [
          | inl after ↦ absurd (comes_once (nth records i).place (subst (λ (z : Placed). ComesBefore z.place (nth records i).place) (sym one_record) (s.are_live.ordered j i after h)))
          | inr neither ↦ omega (arith, not, neither)
        ]
      ]

  pub copy_is_live : (i : ℕ) → i < length records → live_record g new (nth records i).header.sector ≡ Some (copy_of g spare seq (nth records i) i)
  unfolding live_record
  copy_is_live i h =
      newest_is (records_of g new (nth records i).header.sector) (copy_of g spare seq (nth records i) i)
      (in_records g new (copy_of g spare seq (nth records i) i).place (copy_of g spare seq (nth records i) i).header s.one (copy_counts i h)) (λ y m.
      let q = of_records g new (nth records i).header.sector y m in
      elim (cases_eq (block_of g y.place.page) spare) [
        | inl here ↦ (let found = is_copied y.place y.header here q.0 in
            let same : found.0 ≡ i = one_each found.0 i found.1 h (sym (ap (λ (z : Header). z.sector) found.3) ∙ q.1) in
            let is_it : y ≡ copy_of g spare seq (nth records found.0) found.0 = (λ k. record { place = found.2 k; header = found.3 k }) in
            inl (is_it ∙ ap (λ (n : ℕ). copy_of g spare seq (nth records n) n) same))
        | inr apart ↦ inr (less y.header.seq (seq + i) _ (omega (arith, is_older y.place y.header apart q.0)))
      ])
    where
      less : (a b : ℕ) (rest : Bool) → a < b → (nat_lt a b || rest) ≡ true
      less a b rest l = grind (arith, nat_tests)

  unmoved : (sector : ℕ) → ((i : ℕ) → i < length records → (nth records i).header.sector ≢ sector) → live_record g new sector ≡ live_record g cells sector
  unfolding live_record records_of
  unmoved sector apart = λ i. newest (filter_map (λ p. same p i) (places g))
    where
      none : (p : Place) → block_of g p.page ≡ spare → (o : Option Header) → committed_in g new p ≡ o → of_sector sector p o ≡ None
      none p here None e = refl
      none p here (Some h) e =
          let found = is_copied p h here e in
          cond-false (h.sector == sector) _ _ (ne_eqb h.sector sector (λ same. apart found.0 found.1 (sym (ap (λ (z : Header). z.sector) found.3) ∙ same)))

      same : (p : Place) → of_sector sector p (committed_in g new p) ≡ of_sector sector p (committed_in g cells p)
      same p = elim (cases_eq (block_of g p.page) spare) [
        | inl here ↦ none p here (committed_in g new p) refl ∙ sym (ap (of_sector sector p) (none_before p here))
        | inr other ↦ ap (of_sector sector p) (committed_elsewhere g cells new spare s.some only_spare p other)
      ]

  pub others_live : (sector : ℕ) → stands_in g victim (live_record g start sector) ≡ false → live_record g new sector ≡ live_record g start sector
  others_live sector not = unmoved sector (λ i h same. false≢true (
      sym not ∙ (ap (λ (t : ℕ). stands_in g victim (live_record g start t)) (sym same) ∙ (ap (stands_in g victim) (s.are_live.live i h) ∙ s.are_live.inside i h))))
      ∙ s.taking.live sector

  -- a live record of the victim is one of those that were copied
  pub moved : (sector : ℕ) (x : Placed) → live_record g start sector ≡ Some x → stands_in g victim (Some x) ≡ true
      → (i : ℕ) × (i < length records) × (nth records i ≡ x) × (live_record g new sector ≡ Some (copy_of g spare seq (nth records i) i))
  moved sector x e is =
      let found = s.are_live.all sector x e is in
      let of_it : (nth records found.0).header.sector ≡ sector = ap (λ (z : Placed). z.header.sector) found.2 ∙ (live_so g start sector x e).of_sector in
      (found.0, found.1, found.2, ap (live_record g new) (sym of_it) ∙ copy_is_live found.0 found.1)

  -- ---- what the sectors are

  copy_says : (i : ℕ) → i < length records → said_by g d new (Some (copy_of g spare seq (nth records i) i)) ≡ said_by g d start (Some (nth records i))
  copy_says i h =
      ap (λ (main : List ℕ). if says_zeros (copy_of g spare seq (nth records i) i).header then zero_sector g else d.first main) (main_stays (spare * g.pages + i))
      ∙ (s.taking.copied i h).says

  pub sealed_rows : stored g d new ≡ stored g d start
  unfolding stored
  sealed_rows = λ i. map (λ sector. each sector (live_record g start sector) refl i) (range_with_len 0 g.sectors)
    where
      each : (sector : ℕ) (o : Option Placed) → live_record g start sector ≡ o → said_by g d new (live_record g new sector) ≡ said_by g d start (live_record g start sector)
      each sector None e = ap (said_by g d new) (others_live sector (ap (stands_in g victim) e) ∙ e) ∙ sym (ap (said_by g d start) e)
      each sector (Some x) e = elim (cases_Bool (stands_in g victim (Some x))) [
        | inl is ↦ (let m = moved sector x e is in
            ap (said_by g d new) m.3 ∙ (copy_says m.0 m.1 ∙ (ap (λ (z : Placed). said_by g d start (Some z)) m.2 ∙ sym (ap (said_by g d start) e))))
        | inr not ↦ ap (said_by g d new) (others_live sector (ap (stands_in g victim) e ∙ not) ∙ e)
            ∙ (said_stays g d start new spare only_since x (live_so g start sector x e).so.holds (s.free sector x e) ∙ sym (ap (said_by g d start) e))
      ]

  -- ---- where the live records stand

  copy_block : (i : ℕ) → i < length records → block_of g (copy_of g spare seq (nth records i) i).place.page ≡ spare
  copy_block i h = page_in_block g spare i (omega (arith, h, s.few))

  module _ (block : ℕ) (no_spare : block ≢ spare) where
    -- outside the spare a live record stands where it stood, but for those of the victim
    stood : (sector : ℕ) (o : Option Placed) → live_record g start sector ≡ o → stands_in g victim o ≡ true → stands_in g block (live_record g new sector) ≡ false
    stood sector None e is = absurd (false≢true is)
    stood sector (Some x) e is =
        let m = moved sector x e is in
        ap (stands_in g block) m.3 ∙ ne_eqb _ _ (λ here. no_spare (sym here ∙ copy_block m.0 m.1))

    pub was_live : (sector : ℕ) (y : Placed) → live_record g new sector ≡ Some y → block_of g y.place.page ≡ block → live_record g start sector ≡ Some y
    was_live sector y e here = elim (cases_Bool (stands_in g victim (live_record g start sector))) [
      | inr not ↦ sym (others_live sector not) ∙ e
      | inl is ↦ absurd (false≢true (sym (stood sector (live_record g start sector) refl is) ∙ (ap (stands_in g block) e ∙ eq-eqb _ _ here)))
    ]

  pub victim_free : live_count g new victim ≡ 0
  unfolding live_count
  victim_free = none_pass (λ sector. stands_in g victim (live_record g new sector)) g.sectors (λ k h. elim (cases_Bool (stands_in g victim (live_record g start k))) [
    | inl is ↦ stood victim s.apart k (live_record g start k) refl is
    | inr not ↦ ap (stands_in g victim) (others_live k not) ∙ not
  ])

  pub other_count : (block : ℕ) → block ≢ spare → block ≢ victim → live_count g new block ≡ live_count g start block
  unfolding live_count
  other_count block no_spare no_victim = same_count (λ sector. stands_in g block (live_record g new sector)) (λ sector. stands_in g block (live_record g start sector)) g.sectors (λ k h.
      elim (cases_Bool (stands_in g victim (live_record g start k))) [
        | inl is ↦ stood block no_spare k (live_record g start k) refl is ∙ sym (apart (live_record g start k) is)
        | inr not ↦ ap (stands_in g block) (others_live k not)
      ])
    where
      apart : (o : Option Placed) → stands_in g victim o ≡ true → stands_in g block o ≡ false
      apart None is = absurd (false≢true is)
      apart (Some x) is = ne_eqb _ _ (λ here. no_victim (sym here ∙ eqb-true _ _ is))

  pub spare_count : live_count g new spare ≡ live_count g start victim
  unfolding live_count
  spare_count = same_count (λ sector. stands_in g spare (live_record g new sector)) (λ sector. stands_in g victim (live_record g start sector)) g.sectors (λ k h. each k (live_record g start k) refl)
    where
      each : (sector : ℕ) (o : Option Placed) → live_record g start sector ≡ o → stands_in g spare (live_record g new sector) ≡ stands_in g victim (live_record g start sector)
      each sector None e = ap (stands_in g spare) (others_live sector (ap (stands_in g victim) e) ∙ e) ∙ sym (ap (stands_in g victim) e)
      each sector (Some x) e = elim (cases_Bool (stands_in g victim (Some x))) [
        | inl is ↦ (let m = moved sector x e is in ap (stands_in g spare) m.3 ∙ (eq-eqb _ _ (copy_block m.0 m.1) ∙ sym (ap (stands_in g victim) e ∙ is)))
        | inr not ↦ ap (stands_in g spare) (others_live sector (ap (stands_in g victim) e ∙ not) ∙ e) ∙ (ne_eqb _ _ (s.free sector x e) ∙ sym (ap (stands_in g victim) e ∙ not))
      ]

  -- ---- what of the blocks is true, and sound cells

  pub other_stays : (block : ℕ) → block ≢ spare → block ≢ victim → BlockStays g start new block
  other_stays block no_spare no_victim = record {
    pages = λ page here. only_since page (λ e. no_spare (sym here ∙ e));
    live = was_live block no_spare;
    count = other_count block no_spare no_victim;
  }

  pub spare_blank : 0 < length records → (i : ℕ) → length records ≤ i → i < g.pages → is_blank (page_at new (spare * g.pages + i)) ≡ true
  spare_blank some i from within = ap is_blank (s.only (spare * g.pages + i) (λ e. omega (arith, e, some, from))) ∙ s.taking.blank i from within

  pub spare_slot : (i slot : ℕ) → i < length records → 1 ≤ slot → slot < g.generations → is_slot_blank (spare_at g new (spare * g.pages + i)) slot ≡ true
  spare_slot i slot h one within = blankness_stays (spare * g.pages + i) slot ∙ (s.taking.copied i h).further slot one within

  pub sealed_sound : victim < g.blocks → IsSound g cells → IsSound g new
  sealed_sound within sound = record {
    below_valid = λ page slot p q. let w = sound.below_valid page slot p q in (w.0, w.1, subst (IsAbove w.0) (sym (word_stays page slot)) w.2);
    seqs_differ = λ a b j k e f. sound.seqs_differ a b j k (sym (header_stays a) ∙ e) (sym (header_stays b) ∙ f);
    one_free = (victim, within, victim_free);
    small_seqs = λ place h e. sound.small_seqs place h (sym (header_stays place) ∙ e);
  }
