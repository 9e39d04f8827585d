-- One slot more: the newest record of its sector is the one before or the one in the slot.
use Rattle.std.proofs.Common.{◌≡◌, ℕ, List, [], ◌∷◌, ◌++◌, if◌then◌else◌, Option, Some, None, refl, ap, ◌∙◌}
use Rattle.std.proofs.lemmas.List.{append-nil}
use Rattle.std.specs.List.{filter_map, cons_option}
use Rattle.std.proofs.lemmas.List.Sums.{fold-append}
use Rattle.std.proofs.lemmas.List.Elements.{filter_map-append}
use Rattle.page_codec.specs.declared.place.Place.{Place}
use Rattle.page_codec.specs.Geometry.{Geometry}
use Rattle.page_codec.specs.Records.{Placed, is_newer, newest, of_sector, committed_in, header_in}
use Rattle.mount_scan.specs.Noted.{newest_in, next_seq, seq_with}

-- the newest after one more record, if there is one
abbrev pub newest_with : Option Placed → Option Placed → Option Placed
newest_with before None = before
newest_with None (Some x) = Some x
newest_with (Some r) (Some x) = Some (if is_newer x r then x else r)

pub newest-push : (xs : List Placed) (x : Placed) → newest (xs ++ x ∷ []) ≡ newest_with (newest xs) (Some x)
unfolding newest
newest-push [] x = refl
newest-push (a ∷ xs) x = ap Some (fold-append (λ a b. if is_newer b a then b else a) a xs (x ∷ []))

newest-more : (xs : List Placed) (o : Option Placed) → newest (xs ++ cons_option o []) ≡ newest_with (newest xs) o
newest-more xs None = ap newest (append-nil xs)
newest-more xs (Some x) = newest-push xs x

pub newest_in-more : (g : Geometry) (cells : List (List ℕ)) (slots : List Place) (place : Place) (sector : ℕ)
    → newest_in g cells (slots ++ place ∷ []) sector ≡ newest_with (newest_in g cells slots sector) (of_sector sector place (committed_in g cells place))
unfolding newest_in
newest_in-more g cells slots place sector =
    let f = λ (p : Place). of_sector sector p (committed_in g cells p) in
    ap newest (filter_map-append f slots (place ∷ [])) ∙ newest-more (filter_map f slots) (f place)

pub next_seq-more : (g : Geometry) (cells : List (List ℕ)) (slots : List Place) (place : Place)
    → next_seq g cells (slots ++ place ∷ []) ≡ seq_with (next_seq g cells slots) (header_in g cells place)
unfolding next_seq
next_seq-more g cells slots place = fold-append (λ seq p. seq_with seq (header_in g cells p)) 1 slots (place ∷ [])
