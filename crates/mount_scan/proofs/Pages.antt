-- A page more: its slots one after another.
use Rattle.std.proofs.Common.{◌≡◌, ℕ, ◌<◌, ◌≤◌, Bool, true, false, List, [], ◌∷◌, ◌++◌, length, ◌&&◌, ◌||◌, ◌==◌, nat_lt, if◌then◌else◌, refl, sym, ap, ◌∙◌, subst, arith, append_assoc}
use Rattle.std.proofs.lemmas.Bool.{lt-ltb}
use Rattle.page_codec.specs.declared.place.Place.{Place}
use Rattle.page_codec.specs.declared.seen.Seen.{Seen}
use Rattle.page_codec.specs.declared.seen.SeenSlot.{SeenSlot}
use Rattle.page_codec.specs.Seen.{seen_slot, no_slot}
use Rattle.page_codec.specs.Geometry.{Geometry, page_count, block_of, is_unit_page, spare_at}
use Rattle.page_codec.specs.Records.{may_hold, is_sealed}
use Rattle.mount_scan.specs.declared.tables.Tables.{Tables}
use Rattle.mount_scan.specs.Noted.{shown, NotesAny, Scanned, ShowsPage, seq_with, slots_of}
use Rattle.mount_scan.proofs.Shown.{scanned_slot}

abbrev place : ℕ → ℕ → Place
place page slot = record { page = page; slot = slot }

-- a slot was noted as a read showed it
pub record NotedSlot (old new : Tables) (at : Place) (slot : SeenSlot) (may sealed : Bool) : Type 0 where
  pub seqs : length old.seqs.items ≡ length old.map
  pub same_sectors : length new.map ≡ length old.map
  pub notes : NotesAny old new at (shown may sealed (length old.map) slot.gate slot.header)
  pub seq : new.seq ≡ seq_with old.seq slot.header

may_first : (g : Geometry) (page : ℕ) → page < page_count g → true ≡ may_hold g (place page 0)
may_first g page within = sym (ap (λ t. t && true) (lt-ltb page (page_count g) within))

may_further : (g : Geometry) (page slot : ℕ) (unit : Bool) → page < page_count g → (slot == 0) ≡ false → slot < g.generations → unit ≡ is_unit_page g page → unit ≡ may_hold g (place page slot)
may_further g page slot unit within further inside is =
    is ∙ sym (λ i. lt-ltb page (page_count g) within i && further_is i)
  where
    further_is : (slot == 0 || nat_lt slot g.generations && is_unit_page g page) ≡ is_unit_page g page
    further_is = ap (λ t. t || nat_lt slot g.generations && is_unit_page g page) further ∙ ap (λ t. t && is_unit_page g page) (lt-ltb slot g.generations inside)

scanned : (g : Geometry) (cells : List (List ℕ)) (slots : List Place) (old new : Tables) (page slot : ℕ) (seen : SeenSlot) (may sealed : Bool)
    → may ≡ may_hold g (place page slot) → sealed ≡ is_sealed g cells (block_of g page) → seen ≡ seen_slot (spare_at g cells page) slot
    → NotedSlot old new (place page slot) seen may sealed → Scanned g cells slots old → Scanned g cells (slots ++ place page slot ∷ []) new
scanned g cells slots old new page slot seen may sealed may_is sealed_is seen_is n =
    scanned_slot g cells slots old new (place page slot) may sealed seen.gate seen.header may_is sealed_is (ap (λ (s : SeenSlot). s.gate) seen_is)
    (ap (λ (s : SeenSlot). s.header) seen_is) n.seqs n.same_sectors n.notes n.seq

module _ (g : Geometry) (cells : List (List ℕ)) (slots : List Place) (page : ℕ) (seen : Seen) (unit sealed : Bool) (shows : ShowsPage g cells page seen unit sealed) where
  two : 2 ≤ g.generations → (old mid new : Tables) → NotedSlot old mid (place page 0) seen.first true sealed → NotedSlot mid new (place page 1) seen.second unit sealed
      → Scanned g cells slots old → Scanned g cells ((slots ++ place page 0 ∷ []) ++ place page 1 ∷ []) new
  two least old mid new first second s =
      scanned g cells (slots ++ place page 0 ∷ []) mid new page 1 seen.second unit sealed (may_further g page 1 unit shows.within refl (omega arith) shows.unit_is) shows.sealed_is
      (ap (λ (s : Seen). s.second) shows.seen_is) second
      (scanned g cells slots old mid page 0 seen.first true sealed (may_first g page shows.within) shows.sealed_is (ap (λ (s : Seen). s.first) shows.seen_is) first s)

  pub scanned_two : g.generations ≡ 2 → (old mid new : Tables) → NotedSlot old mid (place page 0) seen.first true sealed → NotedSlot mid new (place page 1) seen.second unit sealed
      → Scanned g cells slots old → Scanned g cells (slots ++ slots_of g page) new
  scanned_two is old mid new first second s =
      subst (λ l. Scanned g cells l new) (append_assoc slots (place page 0 ∷ []) (place page 1 ∷ []) ∙ ap (λ n. slots ++ slots_of (record g { generations = n }) page) (sym is))
      (two (omega arith) old mid new first second s)

  third_is : g.generations ≡ 3 → seen.third ≡ seen_slot (spare_at g cells page) 2
  third_is is = ap (λ (s : Seen). s.third) shows.seen_is ∙ ap (λ n. if n == 3 then seen_slot (spare_at g cells page) 2 else no_slot) is

  pub scanned_three : g.generations ≡ 3 → (old mid last new : Tables) → NotedSlot old mid (place page 0) seen.first true sealed → NotedSlot mid last (place page 1) seen.second unit sealed
      → NotedSlot last new (place page 2) seen.third unit sealed → Scanned g cells slots old → Scanned g cells (slots ++ slots_of g page) new
  scanned_three is old mid last new first second third s =
      subst (λ l. Scanned g cells l new) (ap (λ l. l ++ place page 2 ∷ []) (append_assoc slots (place page 0 ∷ []) (place page 1 ∷ []))
      ∙ (append_assoc slots (place page 0 ∷ place page 1 ∷ []) (place page 2 ∷ []) ∙ ap (λ n. slots ++ slots_of (record g { generations = n }) page) (sym is)))
      (scanned g cells ((slots ++ place page 0 ∷ []) ++ place page 1 ∷ []) last new page 2 seen.third unit sealed
      (may_further g page 2 unit shows.within refl (omega arith) shows.unit_is) shows.sealed_is (third_is is) third
      (two (omega arith) old mid last first second s))
