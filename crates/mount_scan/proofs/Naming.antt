-- The map goes on naming the newest committed record of each sector, slot by slot.
use Rattle.std.proofs.Common.{◌≡◌, ◌≢◌, inl, inr, ℕ, ◌<◌, Bool, true, false, List, [], ◌∷◌, ◌++◌, length, get_or, ◌==◌, if◌then◌else◌, Option, Some, None, refl, sym, ap, ◌∙◌, subst}
use Rattle.std.proofs.Common.{get_or-set_same, get_or-set_other}
use Rattle.std.proofs.lemmas.Bool.{cases_eq, cases_Bool, eq-eqb, ne_eqb, cond-true, cond-false}
use Rattle.std.proofs.lemmas.Option.{same_Some}
use Rattle.std.specs.Prelude.{slice_index}
use Rattle.zero_count.specs.declared.Header.{Header}
use Rattle.sector_map.specs.declared.entry.Entry.TheVariants.{Held, Zeros}
use Rattle.sector_map.specs.Entry.{entry_at}
use Rattle.page_codec.specs.declared.place.Place.{Place}
use Rattle.page_codec.specs.Geometry.{Geometry}
use Rattle.page_codec.specs.Sectors.{says_zeros}
use Rattle.page_codec.specs.Records.{Placed, is_newer, of_sector, committed_in}
use Rattle.page_codec.specs.TrueBook.{entry_of}
use Rattle.mount_scan.specs.declared.tables.Tables.{Tables}
use Rattle.mount_scan.specs.Noted.{newest_in, wins, Names, Notes, Stays, TakesOver}
use Rattle.mount_scan.proofs.Newer.{newest_with, newest_in-more}

-- winning over the entry of a record is being newer than that record
wins_newer : (r : Placed) (place : Place) (header : Header) → wins (entry_of (Some r)) r.header.seq place header.seq ≡ is_newer (record { place = place; header = header }) r
wins_newer r place header = at (says_zeros r.header) where
  at : (t : Bool) → wins (if t then Some (Zeros (record { page = r.place.page; slot = r.place.slot })) else Some
      (Held (record { page = r.place.page; slot = r.place.slot }))) r.header.seq place header.seq
      ≡ is_newer (record { place = place; header = header }) r
  at true = refl
  at false = refl

-- what the map and the list of seqs say of a sector, whose newest record this is
record Says (tables : Tables) (sector : ℕ) (newest : Option Placed) : Type 0 where
  entry : entry_at tables.map sector ≡ entry_of newest
  seq : (placed : Placed) → newest ≡ Some placed → slice_index tables.seqs.items sector ≡ placed.header.seq

says_taken : (old new : Tables) (place : Place) (header : Header) → header.sector < length old.map → header.sector < length old.seqs.items → TakesOver old new place header
    → Says new header.sector (Some (record { place = place; header = header }))
says_taken old new place header within long t = record {
  entry = ap (λ m. entry_at m header.sector) t.map ∙ get_or-set_same old.map header.sector _ None within;
  seq = λ placed same. ap (λ s. get_or s header.sector 0) t.seqs ∙ (get_or-set_same old.seqs.items header.sector header.seq 0 long ∙ ap (λ (p : Placed). p.header.seq) (same_Some _ placed same));
}

says_same : (old new : Tables) (sector : ℕ) (newest : Option Placed) → Stays old new → Says old sector newest → Says new sector newest
says_same old new sector newest same says = record {
  entry = ap (λ m. entry_at m sector) same.map ∙ says.entry;
  seq = λ placed e. ap (λ s. slice_index s.items sector) same.seqs ∙ says.seq placed e;
}

says_other : (old new : Tables) (place : Place) (header : Header) (sector : ℕ) (newest : Option Placed) → sector ≢ header.sector → TakesOver old new place header → Says old sector newest
    → Says new sector newest
says_other old new place header sector newest apart t says = record {
  entry = ap (λ m. entry_at m sector) t.map ∙ (get_or-set_other old.map header.sector sector _ None apart ∙ says.entry);
  seq = λ placed same. ap (λ s. get_or s sector 0) t.seqs ∙ (get_or-set_other old.seqs.items header.sector sector header.seq 0 apart ∙ says.seq placed same);
}

-- of its own sector
says_more : (old new : Tables) (place : Place) (header : Header) (before : Option Placed) → header.sector < length old.map → header.sector < length old.seqs.items → Notes old new place header
    → Says old header.sector before → Says new header.sector (newest_with before (Some (record { place = place; header = header })))
says_more old new place header None within long notes says =
    says_taken old new place header within long (notes.won (ap (λ e. wins e (slice_index old.seqs.items header.sector) place header.seq) says.entry))
says_more old new place header (Some r) within long notes says = at (is_newer (record { place = place; header = header }) r) refl where
  tested : (t : Bool) → is_newer (record { place = place; header = header }) r ≡ t → wins (entry_at old.map header.sector) (slice_index old.seqs.items header.sector) place header.seq ≡ t
  tested t e =
      ap (λ en. wins en (slice_index old.seqs.items header.sector) place header.seq) says.entry
      ∙ (ap (λ s. wins (entry_of (Some r)) s place header.seq) (says.seq r refl) ∙ (wins_newer r place header ∙ e))

  at : (t : Bool) → is_newer (record { place = place; header = header }) r ≡ t → Says new header.sector (Some (if t then record { place = place; header = header } else r))
  at true e = says_taken old new place header within long (notes.won (tested true e))
  at false e = says_same old new header.sector (Some r) (notes.kept (tested false e)) says

-- of any other
says_beside : (old new : Tables) (place : Place) (header : Header) (sector : ℕ) (newest : Option Placed) → sector ≢ header.sector → Notes old new place header → Says old sector newest
    → Says new sector newest
says_beside old new place header sector newest apart notes says = elim (cases_Bool (wins (entry_at old.map header.sector) (slice_index old.seqs.items header.sector) place header.seq)) [
  | inl won ↦ says_other old new place header sector newest apart (notes.won won) says
  | inr kept ↦ says_same old new sector newest (notes.kept kept) says
]

-- a committed record more
pub names_more : (g : Geometry) (cells : List (List ℕ)) (slots : List Place) (old new : Tables) (place : Place) (header : Header)
    → committed_in g cells place ≡ Some header → header.sector < g.sectors → length old.seqs.items ≡ g.sectors → length new.map ≡ length old.map → Notes old new place header
    → Names g cells slots old → Names g cells (slots ++ place ∷ []) new
names_more g cells slots old new place header there within long same_long notes names = record {
  sectors = same_long ∙ names.sectors;
  entries = λ sector inside. (says sector inside).entry;
  seqs = λ sector placed inside. (says sector inside).seq placed;
}
  where
    before : (sector : ℕ) → sector < g.sectors → Says old sector (newest_in g cells slots sector)
    before sector inside = record { entry = names.entries sector inside; seq = λ placed. names.seqs sector placed inside }

    own : of_sector header.sector place (committed_in g cells place) ≡ Some (record { place = place; header = header })
    own = ap (of_sector header.sector place) there ∙ cond-true (header.sector == header.sector) _ _ (eq-eqb header.sector header.sector refl)

    beside : (sector : ℕ) → sector ≢ header.sector → of_sector sector place (committed_in g cells place) ≡ None
    beside sector apart = ap (of_sector sector place) there ∙ cond-false (header.sector == sector) _ _ (ne_eqb header.sector sector (λ e. apart (sym e)))

    of_own : Says new header.sector (newest_in g cells (slots ++ place ∷ []) header.sector)
    of_own = subst (Says new header.sector) (sym (newest_in-more g cells slots place header.sector ∙ ap (newest_with (newest_in g cells slots header.sector)) own))
        (says_more old new place header (newest_in g cells slots header.sector) (subst (λ n. header.sector < n) (sym names.sectors) within) (subst (λ n. header.sector < n) (sym long) within) notes
        (before header.sector within))

    of_other : (sector : ℕ) → sector < g.sectors → sector ≢ header.sector → Says new sector (newest_in g cells (slots ++ place ∷ []) sector)
    of_other sector inside apart = subst (Says new sector) (sym (newest_in-more g cells slots place sector ∙ ap (newest_with (newest_in g cells slots sector)) (beside sector apart)))
        (says_beside old new place header sector (newest_in g cells slots sector) apart notes (before sector inside))

    says : (sector : ℕ) → sector < g.sectors → Says new sector (newest_in g cells (slots ++ place ∷ []) sector)
    says sector inside = elim (cases_eq sector header.sector) [
      | inl same ↦ subst (λ s. Says new s (newest_in g cells (slots ++ place ∷ []) s)) (sym same) of_own
      | inr apart ↦ of_other sector inside apart
    ]

-- a slot without a committed record
pub names_same : (g : Geometry) (cells : List (List ℕ)) (slots : List Place) (old new : Tables) (place : Place) → committed_in g cells place ≡ None → new.map ≡ old.map → new.seqs ≡ old.seqs
    → Names g cells slots old → Names g cells (slots ++ place ∷ []) new
names_same g cells slots old new place none map seqs names = record {
  sectors = ap length map ∙ names.sectors;
  entries = λ sector inside. ap (λ m. entry_at m sector) map ∙ (names.entries sector inside ∙ ap entry_of (sym (stays sector)));
  seqs = λ sector placed inside e. ap (λ s. slice_index s.items sector) seqs ∙ names.seqs sector placed inside (sym (stays sector) ∙ e);
}
  where
    with_none : (o : Option Placed) → newest_with o None ≡ o
    with_none None = refl
    with_none (Some r) = refl

    stays : (sector : ℕ) → newest_in g cells (slots ++ place ∷ []) sector ≡ newest_in g cells slots sector
    stays sector = newest_in-more g cells slots place sector ∙ ap (λ o. newest_with (newest_in g cells slots sector) (of_sector sector place o)) none ∙ with_none (newest_in g cells slots sector)
