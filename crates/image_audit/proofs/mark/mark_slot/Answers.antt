-- A valid header lies below its own word; a slot without one is passed, or is the first bad one.
use Rattle.std.proofs.Common.{◌≡◌, ℕ, Bool, List, [], ◌∷◌, ◌++◌, Option, Some, None, sym, ap, ◌∙◌, subst}
use Rattle.std.specs.Prelude.{option_to_list}
use Rattle.std.proofs.lemmas.Bool.{false≢true}
use Rattle.std.proofs.lemmas.List.{append-nil}
use Rattle.cell_bits.proofs.Above.{above_refl}
use Rattle.zero_count.specs.declared.Header.{Header}
use Rattle.spare_gate.specs.Slots.{word_at, header_at}
use Rattle.page_codec.proofs.Within.{header_valid}
use Rattle.page_codec.specs.declared.place.Place.{Place}
use Rattle.page_codec.specs.Records.{header_in}
use Rattle.image_audit.specs.declared.mark.Mark.{Mark}
use Rattle.image_audit.specs.HeaderCells.{LiesBelowValid}
use Rattle.image_audit.specs.Images.{pages_in}
use Rattle.image_audit.specs.Marks.{mark_of}
use Rattle.image_audit.specs.Reading.{LiesBelow, ReadTo, slots_before}
use Rattle.image_audit.proofs.MarkLemmas.{read_more, first_bad}
use Rattle.image_audit.proofs.Slots.{slots_more}
use Rattle.image_audit.proofs.mark.mark_slot.Goals as goal

pub returns-then-lies_below_valid-clause-read : goal.returns-then-lies_below_valid-clause-read
returns-then-lies_below_valid-clause-read c =
    let g = c.args.geometry.now in
    let cells = pages_in g c.args.cells.now in
    let place = c.args.place in
    let old = c.args.marks.now.items in
    let below : LiesBelow g cells place = subst (λ (spare : List ℕ). LiesBelowValid (word_at spare place.slot)) c.spare-spare.ensures.spare (c.lies_below_valid.ensures.0 c.if-lies_below_valid.true) in
    let none : header_in g cells place ≡ None = ap (λ (spare : List ℕ). header_at spare place.slot) (sym c.spare-spare.ensures.spare) ∙ (sym c.header_at.ensures ∙ c.in_default.is) in
    subst (λ (slots : List Place). ReadTo g cells slots old) (sym (slots_more g place.page place.slot))
    (read_more g cells (slots_before g place.page place.slot) place old old
    (sym (ap (λ (o : Option Header). old ++ option_to_list (mark_of g cells place o)) none ∙ append-nil old)) below c.requires.read)

pub returns-in_default-clause-bad : goal.returns-in_default-clause-bad
returns-in_default-clause-bad c =
    let g = c.args.geometry.now in
    let cells = pages_in g c.args.cells.now in
    let place = c.args.place in
    first_bad g cells place.page place.slot c.requires.page c.requires.slot c.requires.read.below (λ below.
    false≢true (sym c.if-lies_below_valid.false ∙ c.lies_below_valid.ensures.1 (subst (λ (spare : List ℕ). LiesBelowValid (word_at spare place.slot)) (sym c.spare-spare.ensures.spare) below)))

pub returns-in-Ok-clause-read : goal.returns-in-Ok-clause-read
returns-in-Ok-clause-read c =
    let g = c.args.geometry.now in
    let cells = pages_in g c.args.cells.now in
    let place = c.args.place in
    let old = c.args.marks.now.items in
    let word = word_at c.spare-spare.result.now place.slot in
    let read : header_at c.spare-spare.result.now place.slot ≡ Some c.in-Some.header = sym c.header_at.ensures ∙ c.in-Some.is in
    let there : header_in g cells place ≡ Some c.in-Some.header = ap (λ (spare : List ℕ). header_at spare place.slot) (sym c.spare-spare.ensures.spare) ∙ read in
    let below : LiesBelow g cells place =
    subst (λ (spare : List ℕ). LiesBelowValid (word_at spare place.slot)) c.spare-spare.ensures.spare (word, header_valid word c.in-Some.header read, above_refl word) in
    subst (λ (slots : List Place). ReadTo g cells slots c.push.new.self.items) (sym (slots_more g place.page place.slot))
    (read_more g cells (slots_before g place.page place.slot) place old c.push.new.self.items
    (c.in-Ok.ensures.items
    ∙ (ap (λ (t : Bool). let m : Mark = record { place = place; header = c.in-Some.header; counts = t } in old ++ m ∷ []) c.is_counted-counts.ensures
    ∙ sym (ap (λ (o : Option Header). old ++ option_to_list (mark_of g cells place o)) there))) below c.requires.read)
