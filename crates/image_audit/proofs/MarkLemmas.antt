-- One slot more is read, or a slot is bad.
use Rattle.std.proofs.Common.{◌≡◌, ℕ, ◌<◌, List, [], ◌∷◌, ◌++◌, Option, Some, None, refl, sym, ap, ◌∙◌}
use Rattle.std.specs.Prelude.{option_to_list}
use Rattle.std.specs.List.{All, filter_map, cons_option}
use Rattle.std.proofs.lemmas.List.Elements.{All-push, All-nil, All-weaker, filter_map-append}
use Rattle.page_codec.specs.declared.place.Place.{Place}
use Rattle.page_codec.specs.Geometry.{Geometry, page_count}
use Rattle.page_codec.specs.Records.{places, header_in}
use Rattle.image_audit.specs.declared.mark.Mark.{Mark}
use Rattle.image_audit.specs.Marks.{mark_of, marks_in}
use Rattle.image_audit.specs.Reading.{LiesBelow, ReadTo, slots_before}
use Rattle.image_audit.specs.Verdicts.{IsFirst, LiesBelowNone, at_place}
use Rattle.image_audit.proofs.Slots.{slots_split}

one_option : {X : Type 0} (o : Option X) → cons_option o [] ≡ option_to_list o
one_option None = refl
one_option (Some x) = refl

marks_more : (g : Geometry) (cells : List (List ℕ)) (slots : List Place) (place : Place)
    → marks_in g cells (slots ++ place ∷ []) ≡ marks_in g cells slots ++ option_to_list (mark_of g cells place (header_in g cells place))
unfolding marks_in
marks_more g cells slots place =
    filter_map-append (λ p. mark_of g cells p (header_in g cells p)) slots (place ∷ [])
    ∙ ap (λ (xs : List Mark). filter_map (λ p. mark_of g cells p (header_in g cells p)) slots ++ xs) (one_option (mark_of g cells place (header_in g cells place)))

pub read_none : (g : Geometry) (cells : List (List ℕ)) → ReadTo g cells [] []
unfolding marks_in
read_none g cells = record { below = All-nil (LiesBelow g cells); marked = refl }

pub read_more : (g : Geometry) (cells : List (List ℕ)) (slots : List Place) (place : Place) (old new : List Mark)
    → new ≡ old ++ option_to_list (mark_of g cells place (header_in g cells place)) → LiesBelow g cells place → ReadTo g cells slots old → ReadTo g cells (slots ++ place ∷ []) new
read_more g cells slots place old new is below read = record {
  below = All-push (LiesBelow g cells) slots place read.below below;
  marked = is ∙ (ap (λ (xs : List Mark). xs ++ option_to_list (mark_of g cells place (header_in g cells place))) read.marked ∙ sym (marks_more g cells slots place));
}

pub first_bad : (g : Geometry) (cells : List (List ℕ)) (page slot : ℕ) → page < page_count g → slot < g.generations → All (LiesBelow g cells) (slots_before g page slot)
    → LiesBelowNone g cells (at_place page slot)
    → IsFirst (LiesBelowNone g cells) (places g) (at_place page slot)
first_bad g cells page slot h k below bad =
    let split = slots_split g page slot h k in
    record {
      before = slots_before g page slot;
      after = split.0;
      split = split.1;
      holds = bad;
      none_before = All-weaker (LiesBelow g cells) (λ place. LiesBelowNone g cells place → ⊥) (λ place yes no. no yes) (slots_before g page slot) below;
    }
