-- A put after reads of its unit is a put of the cells that were read.
use Rattle.std.proofs.Common.{◌≡◌, ◌⊎◌, inl, inr, ℕ, ◌+◌, ◌<◌, ◌≤◌, List, drop, take, true, sym, ap, ap₂, ◌∙◌, subst}
use Rattle.std.specs.List.{flat_map, range_with_len}
use Rattle.zero_count.specs.declared.Header.{Header}
use Rattle.cell_die.specs.Cells.{IsAbove, page_at}
use Rattle.cell_die.specs.Changes.{SameCells}
use Rattle.cell_die.specs.DieState.{DieState, page_of}
use Rattle.striped.specs.Meaning.{Meaning}
use Rattle.spare_gate.specs.Slots.{with_record}
use Rattle.page_codec.specs.declared.place.Place.{Place}
use Rattle.page_codec.specs.Puts.{Puts, SecondGives, unit_in, spare_of}
use Rattle.page_codec.specs.Units.{HasMain, unit_main}

module _ (meaning : Meaning) (place : Place) (header : Header) (before unit sector : List ℕ) (span : ℕ) (old mid new : DieState)
    (spans : meaning.span ≡ span) (bytes : meaning.page_bytes ≡ old.shape.main_bytes) (shape : mid.shape ≡ old.shape) (same : SameCells old mid)
    (read : before ≡ unit_main old span place.page)
    (carries : meaning.decoding.second_carries unit sector ≡ true) (gives : meaning.decoding.second_gives before sector unit ≡ true) where
  same_page : (page : ℕ) → page_of mid page ≡ page_of old page
  same_page page = ap (λ (cells : List (List ℕ)). page_at cells page) same.cells

  same_main : mid.shape.main_bytes ≡ old.shape.main_bytes
  same_main = ap (λ s. s.main_bytes) shape

  same_spare : (page : ℕ) → spare_of mid page ≡ spare_of old page
  same_spare page = ap₂ (λ (n : ℕ) (row : List ℕ). drop n row) same_main (same_page page)

  pub puts_over : Puts (HasMain mid.shape.main_bytes span place.page unit) span place header mid new
      → Puts (SecondGives meaning place.page (unit_main old meaning.span place.page) sector) meaning.span place header old new
  puts_over p = record {
    erases = p.erases ∙ same.erases;
    others = λ page out. p.others page (subst (λ (n : ℕ). (page < place.page) ⊎ (place.page + n ≤ page)) spans out) ∙ same_page page;
    done = p.done;
    record_there = ap (λ (n : ℕ). drop n (p.done place.page)) (sym same_main) ∙ (p.record_there ∙ ap (λ (row : List ℕ). with_record row place.slot header) (same_spare place.page));
    other_spares = λ page apart. ap (λ (n : ℕ). drop n (p.done page)) (sym same_main) ∙ (p.other_spares page apart ∙ same_spare page);
    content = record {
      carries = ap (λ (row : List ℕ). meaning.decoding.second_carries row sector) there ∙ carries;
      gives = ap₂ (λ (row done : List ℕ). meaning.decoding.second_gives row sector done) (ap (λ (n : ℕ). unit_main old n place.page) spans ∙ sym read) there ∙ gives;
    };
    above = λ page. subst (λ (row : List ℕ). IsAbove (page_of new page) row) (same_page page) (p.above page);
    below = p.below;
    whole = p.whole;
    order = elim p.order [
      | inl same_first ↦ inl (same_first ∙ same_page place.page)
      | inr whole ↦ inr (λ page after within. whole page after (subst (λ (n : ℕ). page < place.page + n) spans within))
    ];
  }
    where
      there : unit_in meaning place.page p.done ≡ unit
      there = ap₂ (λ (n m : ℕ). flat_map (λ q. take n (p.done q)) (range_with_len place.page m)) (bytes ∙ sym same_main) spans ∙ p.content
