-- What a program, a gate and an erase do to the live records of a die.
use Rattle.std.proofs.Common.{◌≡◌, ◌≢◌, ◌⊎◌, inl, inr, ℕ, ◌*◌, ◌<◌, ◌≤◌, Bool, true, false, List, [], drop, length, ◌&&◌, slice_set, if◌then◌else◌, Option, Some, None, refl, sym, ap, ap₂, ◌∙◌}
use Rattle.std.proofs.Common.{subst, get_or-set_other, get_or-set_same}
use Rattle.std.proofs.lemmas.Bool.{cases_eq, cases_Bool}
use Rattle.zero_count.specs.declared.Header.{Header}
use Rattle.zero_count.specs.HeaderWord.{header_of}
use Rattle.cell_die.specs.Cells.{page_at, with_charged}
use Rattle.spare_gate.specs.Slots.{is_gate_charged, is_seal_charged, word_at, gate_cell_of}
use Rattle.spare_gate.proofs.Gates.{gate_charges, gate_keeps_gates, gate_keeps_seal, gate_keeps_words}
use Rattle.page_codec.specs.declared.place.Place.{Place}
use Rattle.page_codec.specs.Geometry.{Geometry, block_of, spare_at}
use Rattle.page_codec.specs.Records.{may_hold, record_in, below_sectors, header_in, is_copy, is_sealed, is_committed, if_committed, committed_in, live_record}
use Rattle.page_codec.specs.Gate.{AwaitsGate, GateWins}
use Rattle.page_codec.proofs.Live.{holds_within, live_same, gate_makes_live, gate_leaves_others}

-- a slot's gate and word are as they were
pub record SlotStays (g : Geometry) (old new : List (List ℕ)) (page slot : ℕ) : Type 0 where
  pub gate : is_gate_charged (spare_at g new page) slot ≡ is_gate_charged (spare_at g old page) slot
  pub word : word_at (spare_at g new page) slot ≡ word_at (spare_at g old page) slot

abbrev pub SealStays : Geometry → List (List ℕ) → List (List ℕ) → ℕ → Type 0
SealStays g old new page = is_seal_charged (spare_at g new page) ≡ is_seal_charged (spare_at g old page)

is_committed_stays : (g : Geometry) (old new : List (List ℕ)) (place : Place) → SlotStays g old new place.page place.slot → SealStays g old new (block_of g place.page * g.pages) → (h : Header)
    → is_committed g new place h ≡ is_committed g old place h
unfolding is_committed
is_committed_stays g old new place s seal h = ap₂ (λ (gate sealed : Bool). gate && (if is_copy h then sealed else true)) s.gate seal

if_committed_stays : (g : Geometry) (old new : List (List ℕ)) (place : Place) → ((h : Header) → is_committed g new place h ≡ is_committed g old place h) → (o : Option Header)
    → if_committed g new place o ≡ if_committed g old place o
if_committed_stays g old new place f None = refl
if_committed_stays g old new place f (Some h) = ap (λ (t : Bool). if t then Some h else None) (f h)

-- a slot that stays is committed as before
pub committed_stays : (g : Geometry) (old new : List (List ℕ)) (place : Place) → SlotStays g old new place.page place.slot → SealStays g old new (block_of g place.page * g.pages)
    → committed_in g new place ≡ committed_in g old place
unfolding committed_in record_in
committed_stays g old new place s seal =
    ap (λ (word : List ℕ). if_committed g new place (if may_hold g place then below_sectors g (header_of word) else None)) s.word
    ∙ if_committed_stays g old new place (is_committed_stays g old new place s seal) (if may_hold g place then below_sectors g (header_in g old place) else None)

uncommitted : (g : Geometry) (cells : List (List ℕ)) (place : Place) (h : Header) → is_gate_charged (spare_at g cells place.page) place.slot ≡ false → is_committed g cells place h ≡ false
unfolding is_committed
uncommitted g cells place h e = ap (λ (gate : Bool). gate && (if is_copy h then is_sealed g cells (block_of g place.page) else true)) e

if_uncommitted : (g : Geometry) (cells : List (List ℕ)) (place : Place) → ((h : Header) → is_committed g cells place h ≡ false) → (o : Option Header) → if_committed g cells place o ≡ None
if_uncommitted g cells place f None = refl
if_uncommitted g cells place f (Some h) = ap (λ (t : Bool). if t then Some h else None) (f h)

-- behind an uncharged gate nothing is committed
pub ungated : (g : Geometry) (cells : List (List ℕ)) (place : Place) → is_gate_charged (spare_at g cells place.page) place.slot ≡ false → committed_in g cells place ≡ None
unfolding committed_in
ungated g cells place e = if_uncommitted g cells place (λ h. uncommitted g cells place h e) (record_in g cells place)

not_held : (g : Geometry) (cells : List (List ℕ)) (place : Place) → may_hold g place ≡ false → committed_in g cells place ≡ None
unfolding committed_in record_in
not_held g cells place e = ap (λ (t : Bool). if_committed g cells place (if t then below_sectors g (header_in g cells place) else None)) e

-- ---- a program

-- Only this page changed; each of its slots stays or has an uncharged gate before and after, and its seal stays.
pub record ProgramsPage (g : Geometry) (old new : List (List ℕ)) (page : ℕ) : Type 0 where
  pub others : (q : ℕ) → q ≢ page → page_at new q ≡ page_at old q
  pub slots : (slot : ℕ) → slot < g.generations → SlotStays g old new page slot ⊎ ((is_gate_charged (spare_at g old page) slot ≡ false) × (is_gate_charged (spare_at g new page) slot ≡ false))
  pub seal : SealStays g old new page

page_stays : (g : Geometry) (old new : List (List ℕ)) (q : ℕ) → page_at new q ≡ page_at old q → (slot : ℕ) → SlotStays g old new q slot
page_stays g old new q e slot = record { gate = ap (λ (bytes : List ℕ). is_gate_charged (drop g.main_bytes bytes) slot) e; word = ap (λ (bytes : List ℕ). word_at (drop g.main_bytes bytes) slot) e }

seals_stay : (g : Geometry) (old new : List (List ℕ)) (page : ℕ) → ((q : ℕ) → q ≢ page → page_at new q ≡ page_at old q) → SealStays g old new page → (q : ℕ) → SealStays g old new q
seals_stay g old new page others seal q = elim (cases_eq q page) [
  | inl same ↦ subst (λ (r : ℕ). SealStays g old new r) (sym same) seal
  | inr apart ↦ ap (λ (bytes : List ℕ). is_seal_charged (drop g.main_bytes bytes)) (others q apart)
]

-- A program of a page with a header whose gate is not charged changes no live record, torn or not.
pub program_keeps : (g : Geometry) (old new : List (List ℕ)) (page : ℕ) → 1 ≤ g.generations → ProgramsPage g old new page → (sector : ℕ) → live_record g new sector ≡ live_record g old sector
program_keeps g old new page one p = live_same g old new same
  where
    sealed : (q : ℕ) → SealStays g old new q
    sealed q = seals_stay g old new page p.others p.seal q

    at_page : (place : Place) → place.page ≡ page → place.slot < g.generations → committed_in g new place ≡ committed_in g old place
    at_page place e k = elim (p.slots place.slot k) [
      | inl stays ↦ committed_stays g old new place (subst (λ (q : ℕ). SlotStays g old new q place.slot) (sym e) stays) (sealed (block_of g place.page * g.pages))
      | inr gates ↦ ungated g new place (subst (λ (q : ℕ). is_gate_charged (spare_at g new q) place.slot ≡ false) (sym e) gates.1)
          ∙ sym (ungated g old place (subst (λ (q : ℕ). is_gate_charged (spare_at g old q) place.slot ≡ false) (sym e) gates.0))
    ]

    same : (place : Place) → committed_in g new place ≡ committed_in g old place
    same place = elim (cases_eq place.page page) [
      | inr apart ↦ committed_stays g old new place (page_stays g old new place.page (p.others place.page apart) place.slot) (sealed (block_of g place.page * g.pages))
      | inl e ↦ elim (cases_Bool (may_hold g place)) [
        | inl holds ↦ at_page place e (holds_within g place one holds).1
        | inr not_holds ↦ not_held g new place not_holds ∙ sym (not_held g old place not_holds)
      ]
    ]

-- ---- a gate

-- the cells after the gate of a slot was charged
abbrev pub gated : Geometry → List (List ℕ) → Place → List (List ℕ)
gated g cells place = slice_set cells place.page (with_charged (page_at cells place.page) (gate_cell_of g.main_bytes place.slot))

gated_page : (g : Geometry) (cells : List (List ℕ)) (place : Place) → place.page < length cells
    → page_at (gated g cells place) place.page ≡ with_charged (page_at cells place.page) (gate_cell_of g.main_bytes place.slot)
gated_page g cells place h = get_or-set_same cells place.page _ [] h

pub gated_others : (g : Geometry) (cells : List (List ℕ)) (place other : Place) → place.page < length cells
    → (other ≡ place) ⊎ (committed_in g (gated g cells place) other ≡ committed_in g cells other)
gated_others g cells place other h = elim (cases_eq other.page place.page) [
  | inr apart ↦ inr (committed_stays g cells new other (page_stays g cells new other.page (others other.page apart) other.slot) (sealed (block_of g other.page * g.pages)))
  | inl e ↦ elim (cases_eq other.slot place.slot) [
    | inl k ↦ inl (λ i. record { page = e i; slot = k i })
    | inr apart ↦ inr (committed_stays g cells new other (subst (λ (q : ℕ). SlotStays g cells new q other.slot) (sym e) (slot_stays other.slot apart)) (sealed (block_of g other.page * g.pages)))
  ]
]
  where
    new : List (List ℕ)
    new = gated g cells place

    others : (q : ℕ) → q ≢ place.page → page_at (gated g cells place) q ≡ page_at cells q
    others q n = get_or-set_other cells place.page q _ [] n

    here : page_at (gated g cells place) place.page ≡ with_charged (page_at cells place.page) (gate_cell_of g.main_bytes place.slot)
    here = gated_page g cells place h

    sealed : (q : ℕ) → SealStays g cells (gated g cells place) q
    sealed q = seals_stay g cells (gated g cells place) place.page (λ r n. get_or-set_other cells place.page r _ [] n)
        (ap (λ (bytes : List ℕ). is_seal_charged (drop g.main_bytes bytes)) (gated_page g cells place h) ∙ gate_keeps_seal g.main_bytes (page_at cells place.page) place.slot) q

    slot_stays : (slot : ℕ) → slot ≢ place.slot → SlotStays g cells (gated g cells place) place.page slot
    slot_stays slot n = record {
      gate = ap (λ (bytes : List ℕ). is_gate_charged (drop g.main_bytes bytes) slot) (gated_page g cells place h) ∙ gate_keeps_gates g.main_bytes (page_at cells place.page) place.slot slot n;
      word = ap (λ (bytes : List ℕ). word_at (drop g.main_bytes bytes) slot) (gated_page g cells place h) ∙ gate_keeps_words g.main_bytes (page_at cells place.page) place.slot slot;
    }

if_it_is_committed : (g : Geometry) (cells : List (List ℕ)) (place : Place) (h : Header) → is_committed g cells place h ≡ true → if_committed g cells place (Some h) ≡ Some h
if_it_is_committed g cells place h e = ap (λ (t : Bool). if t then Some h else None) e

-- Charging a gate makes exactly its record live, where its seq is greater than that of every committed record.
pub gate_wins : (g : Geometry) (old : List (List ℕ)) (place : Place) (h : Header) → place.page < length old → AwaitsGate g old place h → GateWins g old (gated g old place) place h
unfolding committed_in record_in is_committed
gate_wins g old place h within w =
    record {
      live = gate_makes_live g old (gated g old place) place h w.slots before after (λ other. gated_others g old place other within) w.newest;
      others = gate_leaves_others g old (gated g old place) place h before after (λ other. gated_others g old place other within);
    }
  where
    before : committed_in g old place ≡ None
    before = ungated g old place w.uncharged

    after : committed_in g (gated g old place) place ≡ Some h
    after =
        ap (λ (word : List ℕ). if_committed g (gated g old place) place (if may_hold g place then below_sectors g (header_of word) else None))
        (ap (λ (bytes : List ℕ). word_at (drop g.main_bytes bytes) place.slot) (gated_page g old place within) ∙ gate_keeps_words g.main_bytes (page_at old place.page) place.slot place.slot)
        ∙ (ap (if_committed g (gated g old place) place) w.there ∙ if_it_is_committed g (gated g old place) place h
        (ap₂ (λ (charged copy : Bool). charged && (if copy then is_sealed g (gated g old place) (block_of g place.page) else true))
        (ap (λ (bytes : List ℕ). is_gate_charged (drop g.main_bytes bytes) place.slot) (gated_page g old place within)
        ∙ gate_charges g.main_bytes (page_at old place.page) place.slot w.room) w.single))
