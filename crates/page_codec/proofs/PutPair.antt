-- The main bytes of a unit of two pages fall into those of its pages.
use Rattle.std.proofs.Common.{◌≡◌, ℕ, ◌+◌, ◌*◌, ◌<◌, ◌≤◌, true, List, ◌++◌, drop, take, length, sym, ap, ◌∙◌, arith, subst, length-take, length-drop}
use Rattle.std.proofs.lemmas.List.{take_at, drop_at, take-append-drop}
use Rattle.cell_bits.specs.Cells.{IsAbove}
use Rattle.cell_bits.proofs.Slices.{above_take, above_drop}
use Rattle.zero_count.specs.declared.Header.{Header}
use Rattle.cell_die.specs.DieState.{DieState, IsShaped, page_of, page_count}
use Rattle.spare_gate.specs.Slots.{is_slot_blank}
use Rattle.page_codec.specs.declared.place.Place.{Place}
use Rattle.page_codec.specs.Puts.{spare_of}
use Rattle.page_codec.specs.Units.{main_of}
use Rattle.page_codec.proofs.PutUnit.{IsLaterWrite, IsFurther}

-- the parts of a row above two rows, one behind the other
pub above_front : (n : ℕ) (row a b : List ℕ) → length a ≡ n → IsAbove row (a ++ b) → IsAbove (take n row) a
above_front n row a b long f = subst (IsAbove (take n row)) (take_at a b n long) (above_take n row (a ++ b) f)

pub above_behind : (n : ℕ) (row a b : List ℕ) → length a ≡ n → IsAbove row (a ++ b) → IsAbove (drop n row) b
above_behind n row a b long f = subst (IsAbove (drop n row)) (drop_at a b n long) (above_drop n row (a ++ b) f)

-- the main bytes of a unit of two pages, in two parts
pub record IsPairWrite (place : Place) (header : Header) (old : DieState) (unit main more : List ℕ) : Type 0 where
  pub write : IsLaterWrite place header old main
  pub further : IsFurther place old more
  pub parts : unit ≡ main ++ more

main_long : (old : DieState) (page : ℕ) → IsShaped old → page < page_count old.shape → length (main_of old page) ≡ old.shape.main_bytes
main_long old page shaped within = omega (arith, length-take old.shape.main_bytes (page_of old page), shaped.lengths page within)

halves : (place : Place) (header : Header) (old : DieState) (unit : List ℕ) → IsShaped old → place.page + 2 ≤ page_count old.shape → length unit ≡ 2 * old.shape.main_bytes
    → IsAbove unit (main_of old place.page ++ main_of old (place.page + 1)) → 16 * place.slot + 16 ≤ old.shape.spare_bytes → is_slot_blank (spare_of old place.page) place.slot ≡ true
    → IsPairWrite place header old unit (take old.shape.main_bytes unit) (drop old.shape.main_bytes unit)
halves place header old unit shaped within long above room blank = record {
  write = record {
    long = shaped.lengths place.page (omega (arith, within));
    main_long = omega (arith, length-take old.shape.main_bytes unit, long);
    above = above_front old.shape.main_bytes unit (main_of old place.page) (main_of old (place.page + 1)) (main_long old place.page shaped (omega (arith, within))) above;
    within = room;
    blank = blank;
  };
  further = record {
    long = omega (arith, length-drop old.shape.main_bytes unit, long);
    above = above_behind old.shape.main_bytes unit (main_of old place.page) (main_of old (place.page + 1)) (main_long old place.page shaped (omega (arith, within))) above;
  };
  parts = sym (take-append-drop old.shape.main_bytes unit);
}

pub pair_parts : (place : Place) (header : Header) (old : DieState) (unit main more : List ℕ) (half : ℕ) → main ≡ take half unit → more ≡ drop half unit → half ≡ old.shape.main_bytes
    → IsShaped old → place.page + 2 ≤ page_count old.shape → length unit ≡ 2 * old.shape.main_bytes
    → IsAbove unit (main_of old place.page ++ main_of old (place.page + 1)) → 16 * place.slot + 16 ≤ old.shape.spare_bytes → is_slot_blank (spare_of old place.page) place.slot ≡ true
    → IsPairWrite place header old unit main more
pair_parts place header old unit main more half front behind size shaped within long above room blank =
    subst (λ (y : List ℕ). IsPairWrite place header old unit main y) (sym (behind ∙ ap (λ (n : ℕ). drop n unit) size))
    (subst (λ (x : List ℕ). IsPairWrite place header old unit x (drop old.shape.main_bytes unit)) (sym (front ∙ ap (λ (n : ℕ). take n unit) size))
    (halves place header old unit shaped within long above room blank))
