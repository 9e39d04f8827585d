-- The search for the first record that the map names, slot by slot on each page.
use Rattle.std.proofs.Common.{◌≡◌, ◌≢◌, ◌⊎◌, inl, inr, ℕ, zero, suc, ◌+◌, ◌-◌, ◌<◌, ◌≤◌, Bool, true, false, List, drop, ◌&&◌, nat_lt, length, if◌then◌else◌, Option, Some, None, refl, sym, ap}
use Rattle.std.proofs.Common.{◌∙◌, arith, subst}
use Rattle.std.specs.Option.{option_or}
use Rattle.std.proofs.lemmas.Bool.{cases_eq, cases_lt, eq-eqb, ne_eqb}
use Rattle.std.proofs.lemmas.Option.{same_Some, none-some}
use Rattle.zero_count.specs.declared.Header.{Header}
use Rattle.cell_die.specs.Cells.{page_at}
use Rattle.cell_die.specs.DieState.{DieState, page_of}
use Rattle.cell_die.specs.Changes.{SameCells}
use Rattle.cell_die.specs.Calls.{Kept, Passed, ReadFailed}
use Rattle.cell_die.proofs.Sequences.{kept_refl, kept_trans, passed_none, passed_trans, read_failed_after, read_failed_within}
use Rattle.spare_gate.specs.Slots.{header_at}
use Rattle.sector_map.specs.declared.entry.Entry.{Entry}
use Rattle.sector_map.specs.Entry.{entry_at}
use Rattle.page_codec.specs.declared.place.Place.{Place}
use Rattle.page_codec.specs.declared.seen.Seen.{Seen}
use Rattle.page_codec.specs.Seen.{seen_page, seen_slot, no_slot}
use Rattle.page_codec.specs.Sizes.{Sizes}
use Rattle.collector.specs.declared.live.LiveRecord.{LiveRecord}
use Rattle.collector.specs.Named.{names_slot, named_record, named_in, IsFirstNamed, HasNamed}

-- the place of a slot of a page
abbrev pub slot_of : ℕ → ℕ → Place
slot_of page slot = record { page = page; slot = slot }

-- the first of a page's slots whose record the map names
abbrev pub first_seen : List (Option Entry) → ℕ → Seen → Option LiveRecord
first_seen table page seen =
    option_or (named_record table (slot_of page 0) seen.first.header)
    (option_or (named_record table (slot_of page 1) seen.second.header)
    (named_record table (slot_of page 2) seen.third.header))

-- a named record stands in its slot
pub named_place : (table : List (Option Entry)) (place : Place) (o : Option Header) (live : LiveRecord) → named_record table place o ≡ Some live → (live.place ≡ place) × (o ≡ Some live.header)
named_place table place None live e = absurd (none-some live e)
named_place table place (Some h) live e = at (nat_lt h.sector (length table) && names_slot (entry_at table h.sector) place) e
  where
    at : (t : Bool) → (if t then Some (record { place = place; header = h }) else None) ≡ Some live → (live.place ≡ place) × (Some h ≡ Some live.header)
    at true f = let same = same_Some (record { place = place; header = h }) live f in (sym (ap (λ (x : LiveRecord). x.place) same), ap (λ (x : LiveRecord). Some x.header) same)
    at false f = absurd (none-some live f)

either_none : (a b : Option LiveRecord) → option_or a b ≡ None → (a ≡ None) × (b ≡ None)
either_none None b e = (refl, e)
either_none (Some x) b e = absurd (none-some x (sym e))

either_some : (a b : Option LiveRecord) (x : LiveRecord) → option_or a b ≡ Some x → (a ≡ Some x) ⊎ ((a ≡ None) × (b ≡ Some x))
either_some None b x e = inr (refl, e)
either_some (Some y) b x e = inl e

-- the third slot, where pages have two
third_slot : (table : List (Option Entry)) (bytes generations page : ℕ) (die : DieState)
    → ((generations ≡ 3) × (named_record table (slot_of page 2) (seen_page bytes generations (page_of die page)).third.header ≡ named_in table bytes die (slot_of page 2)))
    ⊎ ((generations ≢ 3) × (named_record table (slot_of page 2) (seen_page bytes generations (page_of die page)).third.header ≡ None))
third_slot table bytes generations page die = elim (cases_eq generations 3) [
  | inl three ↦ inl (three, ap (λ (t : Bool). named_record table (slot_of page 2) (if t then seen_slot (drop bytes (page_of die page)) 2 else no_slot).header) (eq-eqb generations 3 three))
  | inr two ↦ inr (two, ap (λ (t : Bool). named_record table (slot_of page 2) (if t then seen_slot (drop bytes (page_of die page)) 2 else no_slot).header) (ne_eqb generations 3 two))
]

-- where none is seen the map names no record of the page
pub none_seen : (table : List (Option Entry)) (bytes generations page : ℕ) (die : DieState) → generations ≤ 3 → first_seen table page (seen_page bytes generations (page_of die page)) ≡ None
    → (slot : ℕ) → slot < generations → named_in table bytes die (slot_of page slot) ≡ None
none_seen table bytes generations page die few e slot within = at slot within
  where
    rest : Option LiveRecord
    rest =
        option_or (named_record table (slot_of page 1) (seen_page bytes generations (page_of die page)).second.header)
        (named_record table (slot_of page 2) (seen_page bytes generations (page_of die page)).third.header)

    third : (generations : ℕ) → 2 < generations → generations ≤ 3 → generations ≡ 3
    third n low high = omega arith

    at : (slot : ℕ) → slot < generations → named_in table bytes die (slot_of page slot) ≡ None
    at zero h = (either_none _ _ e).0
    at (suc zero) h = (either_none _ _ (either_none _ _ e).1).0
    at (suc (suc zero)) h = elim (third_slot table bytes generations page die) [
      | inl three ↦ sym three.1 ∙ (either_none _ _ (either_none _ _ e).1).1
      | inr two ↦ absurd (two.0 (third generations (omega arith) few))
    ]
    at (suc (suc (suc n))) h = absurd (omega arith)

-- the first that is seen
pub record IsFirstOn (table : List (Option Entry)) (bytes generations page : ℕ) (die : DieState) (live : LiveRecord) : Type 0 where
  pub page_is : live.place.page ≡ page
  pub slot : live.place.slot < generations
  pub named : named_in table bytes die live.place ≡ Some live
  pub none_before : (slot : ℕ) → slot < live.place.slot → named_in table bytes die (slot_of page slot) ≡ None

pub one_seen : (table : List (Option Entry)) (bytes generations page : ℕ) (die : DieState) (live : LiveRecord) → 2 ≤ generations → generations ≤ 3
    → first_seen table page (seen_page bytes generations (page_of die page)) ≡ Some live → IsFirstOn table bytes generations page die live
one_seen table bytes generations page die live two few e = elim (either_some _ _ live e) [
  | inl first ↦ made 0 (omega arith) first (λ slot h. absurd (omega arith))
  | inr more ↦ elim (either_some _ _ live more.1) [
    | inl second ↦ made 1 (omega arith) second (λ slot h. ap (λ (n : ℕ). named_in table bytes die (slot_of page n)) (zero_is slot h) ∙ more.0)
    | inr last ↦ elim (third_slot table bytes generations page die) [
      | inl three ↦ made 2 (omega arith) (sym three.1 ∙ last.1) (λ slot h. elim (cases_eq slot 0) [
        | inl zero_slot ↦ ap (λ (n : ℕ). named_in table bytes die (slot_of page n)) zero_slot ∙ more.0
        | inr one_slot ↦ ap (λ (n : ℕ). named_in table bytes die (slot_of page n)) (one_is slot one_slot h) ∙ last.0
      ])
      | inr none ↦ absurd (none-some live (sym none.1 ∙ last.1))
    ]
  ]
]
  where
    zero_is : (slot : ℕ) → slot < 1 → slot ≡ 0
    zero_is slot h = omega arith

    one_is : (slot : ℕ) → slot ≢ 0 → slot < 2 → slot ≡ 1
    one_is slot some h = omega arith

    made : (slot : ℕ) → slot < generations → named_in table bytes die (slot_of page slot) ≡ Some live → ((s : ℕ) → s < slot → named_in table bytes die (slot_of page s) ≡ None)
        → IsFirstOn table bytes generations page die live
    made slot within named before =
        let here : live.place ≡ slot_of page slot = (named_place table (slot_of page slot) _ live named).0 in
        let slot_is : live.place.slot ≡ slot = ap (λ (p : Place). p.slot) here in
        record {
          page_is = ap (λ (p : Place). p.page) here;
          slot = omega arith;
          named = ap (named_in table bytes die) here ∙ named;
          none_before = λ s h. before s (omega arith);
        }

-- ---- page by page

-- so far no page had a record that the map names
pub record Searched (table : List (Option Entry)) (sizes : Sizes) (old die : DieState) (from page : ℕ) : Type 0 where
  pub same_cells : SameCells old die
  pub kept : Kept old die
  pub passed : Passed 0 (page - from) old die
  pub none : (place : Place) → from ≤ place.page → place.page < page → place.slot < sizes.generations → named_in table sizes.page_bytes old place ≡ None

-- before the first page
pub searched_none : (table : List (Option Entry)) (sizes : Sizes) (die : DieState) (from : ℕ) → Searched table sizes die die from from
searched_none table sizes die from = record {
  same_cells = record { cells = refl; erases = refl };
  kept = kept_refl die;
  passed = (let none : 0 ≡ from - from = omega arith in subst (λ (n : ℕ). Passed 0 n die die) none (passed_none die));
  none = λ place low high slot. absurd (omega (arith, low, high));
}

-- the first record on a page, where none stands before it
pub first_found : (table : List (Option Entry)) (sizes : Sizes) (old die : DieState) (from pages page : ℕ) (live : LiveRecord) → Searched table sizes old die from page → from ≤ page
    → page < from + pages
    → IsFirstOn table sizes.page_bytes sizes.generations page die live → IsFirstNamed table sizes old from pages live
first_found table sizes old die from pages page live s low high f = record {
  low = omega (arith, f.page_is);
  high = omega (arith, f.page_is);
  slot = f.slot;
  named = was live.place (Some live) f.named;
  none_before = λ place above within before. elim before [
    | inl lower ↦ s.none place above (omega (arith, f.page_is)) within
    | inr here ↦ was place None (ap (λ (q : ℕ). named_in table sizes.page_bytes die (slot_of q place.slot)) (here.0 ∙ f.page_is) ∙ f.none_before place.slot here.1)
  ];
}
  where
    was : (place : Place) (o : Option LiveRecord) → named_in table sizes.page_bytes die place ≡ o → named_in table sizes.page_bytes old place ≡ o
    was place o e = ap (λ (cells : List (List ℕ)). named_record table place (header_at (drop sizes.page_bytes (page_at cells place.page)) place.slot)) (sym s.same_cells.cells) ∙ e

-- one page more, where none stands on it
pub none_found : (table : List (Option Entry)) (sizes : Sizes) (old die : DieState) (from page : ℕ) → Searched table sizes old die from page
    → ((slot : ℕ) → slot < sizes.generations → named_in table sizes.page_bytes die (slot_of page slot) ≡ None)
    → (place : Place) → from ≤ place.page → place.page < page + 1 → place.slot < sizes.generations → named_in table sizes.page_bytes old place ≡ None
none_found table sizes old die from page s none place low high within = elim (cases_eq place.page page) [
  | inr before ↦ s.none place low (omega (arith, before)) within
  | inl here ↦ ap (λ (cells : List (List ℕ)). named_record table place (header_at (drop sizes.page_bytes (page_at cells place.page)) place.slot)) (sym s.same_cells.cells)
      ∙ (ap (λ (q : ℕ). named_in table sizes.page_bytes die (slot_of q place.slot)) here ∙ none place.slot within)
]

-- some page has one
pub some_found : (table : List (Option Entry)) (sizes : Sizes) (old die : DieState) (from pages page : ℕ) → Searched table sizes old die from page → from + pages ≤ page
    → HasNamed table sizes old from pages → ⊥
some_found table sizes old die from pages page s past has = none-some has.live (sym (s.none has.live.place has.low (omega (arith, has.high)) has.slot) ∙ has.named)

-- what a scan of the page says, in the sizes that the search began with
pub seen_of : (table : List (Option Entry)) (sizes sizes' : Sizes) (page : ℕ) (die : DieState) (seen : Seen) (o : Option LiveRecord) → sizes' ≡ sizes
    → seen ≡ seen_page sizes'.page_bytes sizes'.generations (page_of die page) → first_seen table page seen ≡ o
    → first_seen table page (seen_page sizes.page_bytes sizes.generations (page_of die page)) ≡ o
seen_of table sizes sizes' page die seen o same is e =
    ap (first_seen table page) (sym (is ∙ ap (λ (w : Sizes). seen_page w.page_bytes w.generations (page_of die page)) same)) ∙ e

pub none_is : (o : Option LiveRecord) → ((live : LiveRecord) → o ≡ Some live → ⊥) → o ≡ None
none_is None never = refl
none_is (Some live) never = absurd (never live refl)

pub searched_more : (table : List (Option Entry)) (sizes : Sizes) (old die new : DieState) (from page : ℕ) → from ≤ page → sizes.generations ≤ 3 → Searched table sizes old die from page
    → SameCells die new → Kept die new → Passed 0 1 die new → first_seen table page (seen_page sizes.page_bytes sizes.generations (page_of die page)) ≡ None
    → Searched table sizes old new from (page + 1)
searched_more table sizes old die new from page low few s same kept passed none = record {
  same_cells = record { cells = same.cells ∙ s.same_cells.cells; erases = same.erases ∙ s.same_cells.erases };
  kept = kept_trans s.kept kept;
  passed = subst (λ (n : ℕ). Passed 0 n old new) (omega arith) (passed_trans s.passed passed);
  none = none_found table sizes old die from page s (none_seen table sizes.page_bytes sizes.generations page die few none);
}

-- a read that fails does so on no later page than a record that the map names
pub searched_failed : (table : List (Option Entry)) (sizes : Sizes) (old die new : DieState) (from pages page : ℕ) → from ≤ page → Searched table sizes old die from page → ReadFailed 0 1 die new
    → (has : HasNamed table sizes old from pages) → ReadFailed 0 (has.live.place.page + 1 - from) old new
searched_failed table sizes old die new from pages page low s failed has =
    read_failed_within 0 (has.live.place.page + 1 - from) (omega arith) (omega (arith, there, low)) (read_failed_after s.passed failed)
  where
    there : page ≤ has.live.place.page
    there = elim (cases_lt has.live.place.page page) [
      | inl before ↦ absurd (none-some has.live (sym (s.none has.live.place has.low before has.slot) ∙ has.named))
      | inr h ↦ h
    ]

pub searched_passed : (table : List (Option Entry)) (sizes : Sizes) (old die new : DieState) (from page last : ℕ) → from ≤ page → last ≡ page → Searched table sizes old die from page
    → Passed 0 1 die new → Passed 0 (last + 1 - from) old new
searched_passed table sizes old die new from page last low same s passed = subst (λ (n : ℕ). Passed 0 n old new) (omega arith) (passed_trans s.passed passed)
