-- What is known of all marks is what the live records are, in the order of the map.
use Rattle.std.proofs.Common.{◌≡◌, inl, inr, ℕ, Bool, false, cond, List, [], ◌∷◌, map, Some, refl, sym, ap, ap₂, ◌∙◌, subst}
use Rattle.std.specs.Prelude.{nat_eq}
use Rattle.std.specs.Option.{option_map}
use Rattle.std.specs.List.{All, IsDistinct, AllByRecursion}
use Rattle.std.specs.Map.{lookup, keys_of, values_of}
use Rattle.std.specs.HashMap.{HashMap, values}
use Rattle.std.proofs.lemmas.Bool.{eq-eqb, ne_eqb, false≢true}
use Rattle.std.proofs.lemmas.List.Elements.{All-nil, All-cons}
use Rattle.page_codec.specs.Records.{Placed}
use Rattle.page_codec.proofs.Newest.{Member}
use Rattle.image_audit.specs.declared.mark.Mark.{Mark}
use Rattle.image_audit.specs.Live.{Knows}
use Rattle.image_audit.specs.Marks.{placed_of, newest_of, AreLive}
use Rattle.image_audit.proofs.LiveCells.{IsCountedMark, newest_mark}

key_apart : (k : ℕ) (es : List (ℕ × Mark)) (e : ℕ × Mark) → AllByRecursion (λ y. nat_eq k y ≡ false) (keys_of es) → Member e es → nat_eq k e.0 ≡ false
key_apart k [] e h m = absurd m
key_apart k (f ∷ es) e h m = elim m [ inl same ↦ ap (λ (x : ℕ × Mark). nat_eq k x.0) same ∙ h.0 | inr later ↦ key_apart k es e h.1 later ]

-- an entry is what its key gives
own_lookup : (es : List (ℕ × Mark)) (e : ℕ × Mark) → IsDistinct nat_eq (keys_of es) → Member e es → lookup (nat_eq e.0) es ≡ Some e.1
unfolding IsDistinct
own_lookup [] e d m = absurd m
own_lookup (f ∷ es) e d m = elim m [
  | inl same ↦ ap (λ (t : Bool). cond t (Some f.1) (lookup (nat_eq e.0) es)) (eq-eqb e.0 f.0 (ap (λ (x : ℕ × Mark). x.0) same)) ∙ ap (λ (x : ℕ × Mark). Some x.1) (sym same)
  | inr later ↦ (
      let apart : nat_eq f.0 e.0 ≡ false = key_apart f.0 es e d.0 later in
      ap (λ (t : Bool). cond t (Some f.1) (lookup (nat_eq e.0) es)) (ne_eqb e.0 f.0 (λ same. false≢true (sym apart ∙ eq-eqb f.0 e.0 (sym same)))) ∙ own_lookup es e d.1 later)
]

sectors_are : (es : List (ℕ × Mark)) → ((e : ℕ × Mark) → Member e es → e.1.header.sector ≡ e.0) → map (λ mark. mark.header.sector) (values_of es) ≡ keys_of es
sectors_are [] h = refl
sectors_are (e ∷ es) h = ap₂ (λ (n : ℕ) (ns : List ℕ). n ∷ ns) (h e (inl refl)) (sectors_are es (λ f m. h f (inr m)))

all_values : (P : Mark → Type 0) (es : List (ℕ × Mark)) → ((e : ℕ × Mark) → Member e es → P e.1) → All P (values_of es)
all_values P [] h = All-nil P
all_values P (e ∷ es) h = All-cons P e.1 (values_of es) (h e (inl refl)) (all_values P es (λ f m. h f (inr m)))

pub live_from_known : {S : Type 0} (marks : List Mark) (live : HashMap ℕ Mark S) → Knows marks live → AreLive marks (values live)
live_from_known marks live knows = record {
  sectors = sectors_are live.entries own ∙ knows.sectors;
  newest =
      all_values (λ mark. newest_of marks mark.header.sector ≡ Some (placed_of mark)) live.entries (λ e m. subst (λ (s : ℕ). newest_of marks s ≡ Some (placed_of e.1)) (sym (own e m)) (newest e m));
}
  where
    newest : (e : ℕ × Mark) → Member e live.entries → newest_of marks e.0 ≡ Some (placed_of e.1)
    newest e m = sym (knows.newest e.0) ∙ ap (option_map placed_of) (own_lookup live.entries e knows.unique m)

    own : (e : ℕ × Mark) → Member e live.entries → e.1.header.sector ≡ e.0
    own e m =
        let n : IsCountedMark marks e.0 (placed_of e.1) = newest_mark marks e.0 (placed_of e.1) (newest e m) in
        ap (λ (x : Placed). x.header.sector) n.is ∙ n.of
