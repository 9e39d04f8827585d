-- One mark more: the newest record of its sector is the one known, or that of the mark.
use Rattle.std.proofs.Common.{◌≡◌, inl, inr, ℕ, Bool, true, false, List, [], ◌∷◌, ◌++◌, ◌&&◌, ◌==◌, if◌then◌else◌, Option, Some, None, refl, sym, ap, ap₂, ◌∙◌, subst}
use Rattle.std.specs.Prelude.{nat_eq, is_some}
use Rattle.std.specs.Option.{option_map}
use Rattle.std.specs.List.{filter_map, cons_option, list_any}
use Rattle.std.specs.HashMap.{HashMap, get, keys, IsEmpty, IsUnique, Updates}
use Rattle.std.specs.Map.{lookup, keys_of}
use Rattle.std.proofs.lemmas.Bool.{cases_eq, eq-eqb, ne_eqb, false≢true}
use Rattle.std.proofs.lemmas.Map.Made.{is_some-lookup}
use Rattle.std.proofs.lemmas.List.{append-nil, map-append}
use Rattle.std.proofs.lemmas.List.Sums.{fold-append}
use Rattle.std.proofs.lemmas.List.Elements.{filter_map-append}
use Rattle.page_codec.specs.Records.{Placed, is_newer, newest}
use Rattle.indexmap.specs.IndexMap.{insert_entry}
use Rattle.indexmap.proofs.CallerLemmas.{insert_entry-new, keys-insert_entry-present}
use Rattle.image_audit.specs.declared.mark.Mark.{Mark}
use Rattle.image_audit.specs.Held.{first_met}
use Rattle.image_audit.specs.Live.{Knows, wins}
use Rattle.image_audit.specs.Marks.{placed_of, counted_of, counted_sector, newest_of, sectors_in}
use Rattle.image_audit.proofs.FirstMet.{first_met-push}

-- the newest after one more record, if there is one
abbrev newest_with : Option Placed → Option Placed → Option Placed
newest_with before None = before
newest_with None (Some x) = Some x
newest_with (Some r) (Some x) = Some (if is_newer x r then x else r)

newest-push : (xs : List Placed) (x : Placed) → newest (xs ++ x ∷ []) ≡ newest_with (newest xs) (Some x)
unfolding newest
newest-push [] x = refl
newest-push (a ∷ xs) x = ap Some (fold-append (λ a b. if is_newer b a then b else a) a xs (x ∷ []))

newest-more : (xs : List Placed) (o : Option Placed) → newest (xs ++ cons_option o []) ≡ newest_with (newest xs) o
newest-more xs None = ap newest (append-nil xs)
newest-more xs (Some x) = newest-push xs x

newest_of-more : (marks : List Mark) (mark : Mark) (sector : ℕ) → newest_of (marks ++ mark ∷ []) sector ≡ newest_with (newest_of marks sector) (counted_of sector mark)
unfolding newest_of
newest_of-more marks mark sector = ap newest (filter_map-append (counted_of sector) marks (mark ∷ [])) ∙ newest-more (filter_map (counted_of sector) marks) (counted_of sector mark)

sectors-more : (marks : List Mark) (mark : Mark) → sectors_in (marks ++ mark ∷ []) ≡ sectors_in marks ++ cons_option (counted_sector mark) []
unfolding sectors_in
sectors-more marks mark = filter_map-append counted_sector marks (mark ∷ [])

with_none : (o : Option Placed) → newest_with o None ≡ o
with_none None = refl
with_none (Some r) = refl

-- a mark that does not count, or is of another sector, changes nothing
none_counted : (marks : List Mark) (mark : Mark) (sector : ℕ) → counted_of sector mark ≡ None → newest_of (marks ++ mark ∷ []) sector ≡ newest_of marks sector
none_counted marks mark sector e = newest_of-more marks mark sector ∙ (ap (newest_with (newest_of marks sector)) e ∙ with_none (newest_of marks sector))

not_counted : (mark : Mark) (sector : ℕ) → mark.counts ≡ false → counted_of sector mark ≡ None
not_counted mark sector e = ap (λ (t : Bool). if t && (mark.header.sector == sector) then Some (placed_of mark) else None) e

of_other : (mark : Mark) (sector : ℕ) → mark.counts ≡ true → (mark.header.sector == sector) ≡ false → counted_of sector mark ≡ None
of_other mark sector e f = ap₂ (λ (t u : Bool). if t && u then Some (placed_of mark) else None) e f

of_own : (mark : Mark) (sector : ℕ) → mark.counts ≡ true → (mark.header.sector == sector) ≡ true → counted_of sector mark ≡ Some (placed_of mark)
of_own mark sector e f = ap₂ (λ (t u : Bool). if t && u then Some (placed_of mark) else None) e f

sectors_same : (marks : List Mark) (mark : Mark) → mark.counts ≡ false → sectors_in (marks ++ mark ∷ []) ≡ sectors_in marks
sectors_same marks mark e = sectors-more marks mark ∙ (ap (λ (t : Bool). sectors_in marks ++ cons_option (if t then Some mark.header.sector else None) []) e ∙ append-nil (sectors_in marks))

sectors_push : (marks : List Mark) (mark : Mark) → mark.counts ≡ true → sectors_in (marks ++ mark ∷ []) ≡ sectors_in marks ++ mark.header.sector ∷ []
sectors_push marks mark e = sectors-more marks mark ∙ ap (λ (t : Bool). sectors_in marks ++ cons_option (if t then Some mark.header.sector else None) []) e

module _ (marks : List Mark) (mark : Mark) where
  -- the newest of the mark's own sector, and of others
  own_newest : mark.counts ≡ true → newest_of (marks ++ mark ∷ []) mark.header.sector ≡ newest_with (newest_of marks mark.header.sector) (Some (placed_of mark))
  own_newest e =
      newest_of-more marks mark mark.header.sector ∙ ap (newest_with (newest_of marks mark.header.sector)) (of_own mark mark.header.sector e (eq-eqb mark.header.sector mark.header.sector refl))

  other_newest : (sector : ℕ) → mark.counts ≡ true → (mark.header.sector ≡ sector → ⊥) → newest_of (marks ++ mark ∷ []) sector ≡ newest_of marks sector
  other_newest sector e apart = none_counted marks mark sector (of_other mark sector e (ne_eqb mark.header.sector sector apart))

module _ {S : Type 0} (marks : List Mark) (mark : Mark) where
  pub knows_uncounted : (live : HashMap ℕ Mark S) → mark.counts ≡ false → Knows marks live → Knows (marks ++ mark ∷ []) live
  knows_uncounted live e knows = record {
    unique = knows.unique;
    sectors = knows.sectors ∙ ap first_met (sym (sectors_same marks mark e));
    newest = λ sector. knows.newest sector ∙ sym (none_counted marks mark sector (not_counted mark sector e));
  }

  -- whether its sector is among the keys
  met : (live : HashMap ℕ Mark S) → Knows marks live → list_any (nat_eq mark.header.sector) (first_met (sectors_in marks)) ≡ is_some (get nat_eq live mark.header.sector)
  met live knows = ap (list_any (nat_eq mark.header.sector)) (sym knows.sectors) ∙ sym (is_some-lookup (nat_eq mark.header.sector) live.entries)

  keys_pushed : (live : HashMap ℕ Mark S) → mark.counts ≡ true → Knows marks live
      → first_met (sectors_in (marks ++ mark ∷ [])) ≡ (if is_some (get nat_eq live mark.header.sector) then keys live else keys live ++ mark.header.sector ∷ [])
  keys_pushed live e knows =
      ap first_met (sectors_push marks mark e)
      ∙ (first_met-push (sectors_in marks) mark.header.sector
      ∙ (ap (λ (t : Bool). if t then first_met (sectors_in marks) else first_met (sectors_in marks) ++ mark.header.sector ∷ []) (met live knows)
      ∙ ap (λ (ks : List ℕ). if is_some (get nat_eq live mark.header.sector) then ks else ks ++ mark.header.sector ∷ []) (sym knows.sectors)))

  -- it does not take over
  pub knows_loser : (live : HashMap ℕ Mark S) → mark.counts ≡ true → wins (get nat_eq live mark.header.sector) mark ≡ false → Knows marks live → Knows (marks ++ mark ∷ []) live
  knows_loser live e loses knows = at (get nat_eq live mark.header.sector) refl loses
    where
      at : (o : Option Mark) → get nat_eq live mark.header.sector ≡ o → wins o mark ≡ false → Knows (marks ++ mark ∷ []) live
      at None there loses = absurd (false≢true (sym loses))
      at (Some former) there loses = record {
        unique = knows.unique;
        sectors = sym (keys_pushed live e knows ∙ ap (λ (o : Option Mark). if is_some o then keys live else keys live ++ mark.header.sector ∷ []) there);
        newest = λ sector. elim (cases_eq mark.header.sector sector) [
          | inr apart ↦ knows.newest sector ∙ sym (other_newest marks mark sector e apart)
          | inl same ↦ subst (λ (s : ℕ). option_map placed_of (get nat_eq live s) ≡ newest_of (marks ++ mark ∷ []) s) same (
              let known : Some (placed_of former) ≡ newest_of marks mark.header.sector = ap (option_map placed_of) (sym there) ∙ knows.newest mark.header.sector in
              ap (option_map placed_of) there
              ∙ (ap (λ (t : Bool). Some (if t then placed_of mark else placed_of former)) (sym loses)
              ∙ (ap (λ (o : Option Placed). newest_with o (Some (placed_of mark))) known ∙ sym (own_newest marks mark e))))
        ];
      }

  -- it does
  pub knows_winner : (old new : HashMap ℕ Mark S) → mark.counts ≡ true → wins (get nat_eq old mark.header.sector) mark ≡ true
      → new.entries ≡ insert_entry nat_eq old.entries mark.header.sector mark → Updates nat_eq old new mark.header.sector (Some mark) → IsUnique nat_eq new → Knows marks old
      → Knows (marks ++ mark ∷ []) new
  knows_winner old new e wins_it entries updates unique knows = at (get nat_eq old mark.header.sector) refl wins_it
    where
      at : (o : Option Mark) → get nat_eq old mark.header.sector ≡ o → wins o mark ≡ true → Knows (marks ++ mark ∷ []) new
      at o there wins_it = record {
        unique = unique;
        sectors = keys_are o there ∙ sym (keys_pushed old e knows ∙ ap (λ (p : Option Mark). if is_some p then keys old else keys old ++ mark.header.sector ∷ []) there);
        newest = λ sector. elim (cases_eq mark.header.sector sector) [
          | inr apart ↦ ap (option_map placed_of) (updates.2 sector (ne_eqb mark.header.sector sector apart)) ∙ (knows.newest sector ∙ sym (other_newest marks mark sector e apart))
          | inl same ↦ subst (λ (s : ℕ). option_map placed_of (get nat_eq new s) ≡ newest_of (marks ++ mark ∷ []) s) same
              (ap (option_map placed_of) updates.1 ∙ (newer o wins_it
              ∙ (ap (λ (p : Option Placed). newest_with p (Some (placed_of mark))) (ap (option_map placed_of) (sym there) ∙ knows.newest mark.header.sector) ∙ sym (own_newest marks mark e))))
        ];
      }
        where
          newer : (o : Option Mark) → wins o mark ≡ true → Some (placed_of mark) ≡ newest_with (option_map placed_of o) (Some (placed_of mark))
          newer None w = refl
          newer (Some former) w = ap (λ (t : Bool). Some (if t then placed_of mark else placed_of former)) (sym w)

          keys_are : (o : Option Mark) → get nat_eq old mark.header.sector ≡ o → keys new ≡ (if is_some o then keys old else keys old ++ mark.header.sector ∷ [])
          keys_are None there =
              ap keys_of entries ∙ (ap keys_of (insert_entry-new nat_eq old mark.header.sector mark there) ∙ map-append (λ (e : ℕ × Mark). e.0) old.entries ((mark.header.sector, mark) ∷ []))
          keys_are (Some former) there = ap keys_of entries ∙ keys-insert_entry-present nat_eq old mark.header.sector mark (ap is_some there)

pub knows_nothing : {S : Type 0} (live : HashMap ℕ Mark S) → IsEmpty live → IsUnique nat_eq live → Knows [] live
unfolding first_met sectors_in newest_of newest
knows_nothing live empty unique = record {
  unique = unique;
  sectors = ap keys_of empty;
  newest = λ sector. ap (λ (es : List (ℕ × Mark)). option_map placed_of (lookup (nat_eq sector) es)) empty;
}
