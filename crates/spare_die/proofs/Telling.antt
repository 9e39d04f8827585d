-- What a table page adds to what the table tells, and what the whole table tells.
use Rattle.std.proofs.Common.{◌≡◌, ◌⊎◌, inl, inr, ℕ, zero, suc, ◌+◌, ◌/◌, ◌<◌, ◌≤◌, min, Bool, true, false, not, List, length, refl, ap, ap₂}
use Rattle.std.proofs.Common.{sym, subst, ◌∙◌, arith, add-one, ⊎_elim, ◌==◌, ◌&&◌, ◌||◌, eq-eqb, set, get_or, get_or-set_same, get_or-set_other, if◌then◌else◌, Result, Ok, Err, OnOk, OnErr, IfErr}
use Rattle.std.specs.Prelude.{nat_le, slice_index_or}
use Rattle.std.proofs.lemmas.Bool.{cases_Bool, cases_eq, cases_lt, false≢true, or_parts, and_parts, eqb-true, leb-false, ne_eqb, lt-leb}
use Rattle.std.proofs.lemmas.List.{length-set, get_or_past}
use Rattle.cell_die.specs.declared.shape.Shape.{Shape}
use Rattle.cell_die.specs.Cells.{is_blank, page_at, blank_page}
use Rattle.cell_die.specs.DieState.{DieState, page_of, page_bytes}
use Rattle.cell_die.specs.Changes.{SameCells}
use Rattle.cell_die.specs.Calls.{Kept, Passed, ReadFailed}
use Rattle.spare_die.specs.declared.error.OpenError.{OpenError}
use Rattle.spare_die.specs.declared.error.OpenError.TheVariants.{OutOfMemory, Shape as WrongShape, DieFault, Table}
use Rattle.spare_die.specs.SpareLaws.{home_up_to-same}
use Rattle.spare_die.specs.declared.opening.Opening.{Opening}
use Rattle.spare_die.specs.Table.{home_up_to, HasHomes, is_named, is_named_up_to, is_used, is_gated, is_entry_for, is_entry_of, logical_of, inner_of}
use Rattle.spare_die.specs.Opening.{OpenCause, OnlyReads, FitsShape, SoundUpTo, IsSoundTable, IsAdmitted, NotesPage, IsWrongEntry, Told}
use Rattle.spare_die.proofs.Homes.{named_by, names_ungated}
use Rattle.spare_die.proofs.Entries.{home_of_entry, home_of_other}
use Rattle.spare_die.proofs.Pages.{same_changes}

-- a name has an entry
pub named_witness : (inner : DieState) (block count : ℕ) → is_named_up_to inner block count ≡ true → (page : ℕ) × (page < count) × (is_entry_of block (page_of inner page) ≡ true)
unfolding is_named_up_to
named_witness inner block zero named = absurd (false≢true named)
named_witness inner block (suc count) named = go (is_entry_of block (page_of inner count)) refl (named_witness inner block count) named where
  go : (entry : Bool) → is_entry_of block (page_of inner count) ≡ entry → (is_named_up_to inner block count ≡ true → (page : ℕ) × (page < count) × (is_entry_of block (page_of inner page) ≡ true))
      → (if is_entry_of block (page_of inner count) then true else is_named_up_to inner block count) ≡ true → (page : ℕ) × (page < suc count) × (is_entry_of block (page_of inner page) ≡ true)
  go true is rest named = (count, omega arith, is)
  go false is rest named =
      let before : (page : ℕ) × (page < count) × (is_entry_of block (page_of inner page) ≡ true) = rest (sym (ap (λ (e : Bool). if e then true else is_named_up_to inner block count) is) ∙ named) in
      (before.0, omega (arith, before.1), before.2)

-- a home is the inner block after its own number, or has an entry
pub home_witness : (inner : DieState) (block count : ℕ)
    → (home_up_to inner block count ≡ 1 + block) ⊎ ((page : ℕ) × (page < count) × (is_entry_for block (page_of inner page) ≡ true) × (home_up_to inner block count ≡ inner_of (page_of inner page)))
unfolding home_up_to
home_witness inner block zero = inl refl
home_witness inner block (suc count) = go (is_entry_for block (page_of inner count)) refl (home_witness inner block count) where
  Found : ℕ → ℕ → Type 0
  Found at count = (at ≡ 1 + block) ⊎ ((page : ℕ) × (page < count) × (is_entry_for block (page_of inner page) ≡ true) × (at ≡ inner_of (page_of inner page)))

  go : (entry : Bool) → is_entry_for block (page_of inner count) ≡ entry → Found (home_up_to inner block count) count
      → Found (if is_entry_for block (page_of inner count) then inner_of (page_of inner count) else home_up_to inner block count) (suc count)
  go true is before = inr (count, omega arith, is, ap (λ (e : Bool). if e then inner_of (page_of inner count) else home_up_to inner block count) is)
  go false is (inl own) = inl (ap (λ (e : Bool). if e then inner_of (page_of inner count) else home_up_to inner block count) is ∙ own)
  go false is (inr found) = inr (found.0, omega (arith, found.1), found.2, ap (λ (e : Bool). if e then inner_of (page_of inner count) else home_up_to inner block count) is ∙ found.3)

-- a sound table has homes
pub homes_of_sound : {inner : DieState} {logical : ℕ} → FitsShape inner.shape logical → SoundUpTo inner logical inner.shape.pages → HasHomes inner logical
homes_of_sound {inner} {logical} fits sound = record {
  room = fits.room;
  few_blocks = fits.few_blocks;
  few_pages = fits.few_pages;
  gate = fits.gate;
  inside = λ block below. ⊎_elim
      (λ own. omega (arith, fits.room))
      (λ found. omega (arith, found.3, sound.inner_inside found.0 found.1 (and_parts _ _ found.2).0))
      (home_witness inner block inner.shape.pages);
  past_table = λ block below. ⊎_elim
      (λ own. omega arith)
      (λ found. omega (arith, found.3, sound.inner_past found.0 found.1 (and_parts _ _ found.2).0))
      (home_witness inner block inner.shape.pages);
  apart = λ block other below below' same. ⊎_elim
      (λ own. ⊎_elim
      (λ own'. omega arith)
      (λ found'. absurd (omega (arith, found'.3, sound.inner_past found'.0 found'.1 (and_parts _ _ found'.2).0)))
      (home_witness inner other inner.shape.pages))
      (λ found. ⊎_elim
      (λ own'. absurd (omega (arith, found.3, sound.inner_past found.0 found.1 (and_parts _ _ found.2).0)))
      (λ found'. one_entry block other found.0 found'.0 found.1 found'.1 found.2 found'.2 (sym found.3 ∙ (same ∙ found'.3)))
      (home_witness inner other inner.shape.pages))
      (home_witness inner block inner.shape.pages);
} where
  one_entry : (block other page page' : ℕ) → page < inner.shape.pages → page' < inner.shape.pages → is_entry_for block (page_of inner page) ≡ true → is_entry_for other (page_of inner page') ≡ true
      → inner_of (page_of inner page) ≡ inner_of (page_of inner page') → block ≡ other
  one_entry block other page page' inside inside' entry entry' same =
      let parts : (is_gated (page_of inner page) ≡ true) × ((logical_of (page_of inner page) == block) ≡ true) = and_parts _ _ entry in
      let parts' : (is_gated (page_of inner page') ≡ true) × ((logical_of (page_of inner page') == other) ≡ true) = and_parts _ _ entry' in
      let names : logical_of (page_of inner page) ≡ block = eqb-true (logical_of (page_of inner page)) block parts.1 in
      let names' : logical_of (page_of inner page') ≡ other = eqb-true (logical_of (page_of inner page')) other parts'.1 in
      ⊎_elim
      (λ here. sym names ∙ (ap (λ p. logical_of (page_of inner p)) here ∙ names'))
      (λ apart. ⊎_elim
      (λ first. absurd (sound.apart page page' first inside' parts.0 parts'.0 same))
      (λ later. absurd (sound.apart page' page (omega arith) inside parts'.0 parts.0 (sym same)))
      (cases_lt page page'))
      (cases_eq page page')

-- a page more that is no entry
pub sound_plain : {inner : DieState} {logical page : ℕ} → SoundUpTo inner logical page → is_gated (page_of inner page) ≡ false → SoundUpTo inner logical (page + 1)
sound_plain {inner} {logical} {page} sound plain = record {
  logical_inside = λ p below gated. sound.logical_inside p (before p below gated) gated;
  inner_past = λ p below gated. sound.inner_past p (before p below gated) gated;
  inner_inside = λ p below gated. sound.inner_inside p (before p below gated) gated;
  apart = λ p later first below gated gated'. sound.apart p later first (before later below gated') gated gated';
  order = λ blank gated first below is. ⊎_elim
      (λ here. ap (λ p. is_gated (page_of inner p)) here ∙ plain)
      (λ apart. sound.order blank gated first (omega arith) is)
      (cases_eq gated page);
} where
  before : (p : ℕ) → p < page + 1 → is_gated (page_of inner p) ≡ true → p < page
  before p below gated = ⊎_elim
      (λ here. absurd (false≢true (sym plain ∙ (ap (λ p. is_gated (page_of inner p)) (sym here) ∙ gated))))
      (λ apart. omega arith)
      (cases_eq p page)

-- what an admitted entry says
pub record Admits (inner : DieState) (logical page : ℕ) (opening : Opening) : Type 0 where
  pub told : Told inner logical page opening
  pub gated : is_gated (page_of inner page) ≡ true
  pub admitted : IsAdmitted logical page (logical_of (page_of inner page)) (inner_of (page_of inner page)) opening

pub named_inside : {inner : DieState} {logical page : ℕ} {opening : Opening} → Admits inner logical page opening → inner_of (page_of inner page) < inner.shape.blocks
named_inside {inner} {logical} {page} {opening} a = ⊎_elim
    (λ inside. inside)
    (λ past. absurd (false≢true (sym a.admitted.free ∙ get_or_past opening.book.taken.items (inner_of (page_of inner page)) true (omega (arith, a.told.rows.taken)))))
    (cases_lt (inner_of (page_of inner page)) inner.shape.blocks)

pub free_parts : {inner : DieState} {logical page : ℕ} {opening : Opening} → Admits inner logical page opening
    → (nat_le (inner_of (page_of inner page)) logical ≡ false) × (is_named_up_to inner (inner_of (page_of inner page)) page ≡ false)
free_parts {inner} {logical} {page} {opening} a = or_parts _ _ (sym (a.told.taken (inner_of (page_of inner page)) (named_inside a)) ∙ a.admitted.free)

pub sound_entry : {inner : DieState} {logical page : ℕ} {opening : Opening} → Admits inner logical page opening → SoundUpTo inner logical (page + 1)
sound_entry {inner} {logical} {page} {opening} a = record {
  logical_inside = λ p below gated. ⊎_elim
      (λ here. rw here a.admitted.logical_inside)
      (λ apart. a.told.sound.logical_inside p (omega arith) gated)
      (cases_eq p page);
  inner_past = λ p below gated. ⊎_elim
      (λ here. rw here (leb-false (inner_of (page_of inner page)) logical (free_parts a).0))
      (λ apart. a.told.sound.inner_past p (omega arith) gated)
      (cases_eq p page);
  inner_inside = λ p below gated. ⊎_elim
      (λ here. rw here (named_inside a))
      (λ apart. a.told.sound.inner_inside p (omega arith) gated)
      (cases_eq p page);
  apart = λ p later first below gated gated' same. ⊎_elim
      (λ here. absurd (false≢true (sym (free_parts a).1 ∙ named_by inner (inner_of (page_of inner page)) page p (omega arith)
      (ap₂ (λ (a b : Bool). a && b) gated (eq-eqb (inner_of (page_of inner p)) (inner_of (page_of inner page)) (same ∙ ap (λ p. inner_of (page_of inner p)) here))))))
      (λ apart. a.told.sound.apart p later first (omega arith) gated gated' same)
      (cases_eq later page);
  order = λ blank gated first below is. ⊎_elim
      (λ here. absurd (false≢true (sym (a.told.used_below blank (omega arith) (omega (arith, a.admitted.order))) ∙ is)))
      (λ apart. a.told.sound.order blank gated first (omega arith) is)
      (cases_eq gated page);
}

-- an entry that is not admitted cannot stand in a sound table
pub wrong_entry : {inner : DieState} {logical page : ℕ} {opening : Opening} → Told inner logical page opening → page < inner.shape.pages → IsWrongEntry logical page (page_of inner page) opening
    → IsSoundTable inner logical → ⊥
wrong_entry {inner} {logical} {page} {opening} told inside wrong sound = wrong.wrong (record {
  logical_inside = sound.entries.logical_inside page inside wrong.gated;
  free = told.taken named (sound.entries.inner_inside page inside wrong.gated) ∙ ap₂ (λ (a b : Bool). a || b) (lt-leb named logical (sound.entries.inner_past page inside wrong.gated)) unnamed;
  order = ⊎_elim
      (λ blank. absurd (false≢true (sym (sound.entries.order opening.blank page blank inside (told.blank blank)) ∙ wrong.gated)))
      (λ order. order)
      (cases_lt opening.blank page);
}) where
  named : ℕ
  named = inner_of (page_of inner page)

  unnamed : is_named_up_to inner (inner_of (page_of inner page)) page ≡ false
  unnamed = ⊎_elim
      (λ is.
      let found : (p : ℕ) × (p < page) × (is_entry_of (inner_of (page_of inner page)) (page_of inner p) ≡ true) = named_witness inner (inner_of (page_of inner page)) page is in
      let parts : (is_gated (page_of inner found.0) ≡ true) × ((inner_of (page_of inner found.0) == inner_of (page_of inner page)) ≡ true) = and_parts _ _ found.2 in
      absurd (sound.entries.apart found.0 page found.1 inside parts.0 wrong.gated (eqb-true (inner_of (page_of inner found.0)) (inner_of (page_of inner page)) parts.1)))
      (λ is. is)
      (cases_Bool (is_named_up_to inner (inner_of (page_of inner page)) page))

-- the last page's entry, or none there
name_of_entry : (inner : DieState) (block page : ℕ) → is_entry_of block (page_of inner page) ≡ true → is_named_up_to inner block (suc page) ≡ true
unfolding is_named_up_to
name_of_entry inner block page entry = ap (λ (e : Bool). if e then true else is_named_up_to inner block page) entry

name_of_other : (inner : DieState) (block page : ℕ) → is_entry_of block (page_of inner page) ≡ false → is_named_up_to inner block (suc page) ≡ is_named_up_to inner block page
unfolding is_named_up_to
name_of_other inner block page entry = ap (λ (e : Bool). if e then true else is_named_up_to inner block page) entry

used_more : {inner : DieState} {logical page : ℕ} {old new : Opening} → Told inner logical page old → page < inner.shape.pages → NotesPage logical page (page_of inner page) old new
    → (p : ℕ) → p < page + 1 → slice_index_or new.book.used.items p true ≡ is_used inner p
used_more {inner} {logical} {page} {old} {new} told inside notes = λ p below. ap (λ (xs : List Bool). get_or xs p true) notes.used ∙ ⊎_elim
    (λ here. ap (λ n. get_or (set old.book.used.items page (not (is_blank (page_of inner page)))) n true) here
    ∙ (get_or-set_same old.book.used.items page (not (is_blank (page_of inner page))) true (omega (arith, told.rows.used)) ∙ ap (is_used inner) (sym here)))
    (λ apart. get_or-set_other old.book.used.items page p (not (is_blank (page_of inner page))) true apart ∙ told.used p (omega arith))
    (cases_eq p page)

-- the lowest blank page
lowest_blank : (page at : ℕ) (row : List ℕ) (old : ℕ) → at ≡ (if is_blank row then min old page else old) → (is_blank row ≡ true) × (at ≡ min old page) ⊎ (is_blank row ≡ false) × (at ≡ old)
lowest_blank page at row old is = ⊎_elim
    (λ blank. inl (blank, is ∙ ap (λ (b : Bool). if b then min old page else old) blank))
    (λ used. inr (used, is ∙ ap (λ (b : Bool). if b then min old page else old) used))
    (cases_Bool (is_blank row))

blank_more : {inner : DieState} {logical page : ℕ} {old new : Opening} → Told inner logical page old → page < inner.shape.pages → NotesPage logical page (page_of inner page) old new
    → new.blank < page + 1 → is_blank (page_of inner new.blank) ≡ true
blank_more {inner} {logical} {page} {old} {new} told inside notes = λ below. ⊎_elim
    (λ blank. ⊎_elim
    (λ before. let same : new.blank ≡ old.blank = omega (arith, blank.1) in ap (λ p. is_blank (page_of inner p)) same ∙ told.blank before)
    (λ past. let same : new.blank ≡ page = omega (arith, blank.1) in ap (λ p. is_blank (page_of inner p)) same ∙ blank.0)
    (cases_lt old.blank page))
    (λ used. ⊎_elim
    (λ before. ap (λ p. is_blank (page_of inner p)) used.1 ∙ told.blank before)
    (λ past. absurd (omega (arith, used.1, told.reach past)))
    (cases_lt old.blank page))
    (lowest_blank page new.blank (page_of inner page) old.blank notes.blank)

reach_more : {inner : DieState} {logical page : ℕ} {old new : Opening} → Told inner logical page old → NotesPage logical page (page_of inner page) old new → page + 1 ≤ new.blank
    → inner.shape.pages ≤ new.blank
reach_more {inner} {logical} {page} {old} {new} told notes = λ past. ⊎_elim
    (λ blank. absurd (omega (arith, blank.1)))
    (λ used. let before : page ≤ old.blank = omega (arith, used.1) in omega (arith, used.1, told.reach before))
    (lowest_blank page new.blank (page_of inner page) old.blank notes.blank)

below_page : {inner : DieState} {logical page : ℕ} {old new : Opening} → Told inner logical page old → NotesPage logical page (page_of inner page) old new → (p : ℕ) → p < page + 1 → p < new.blank
    → is_blank (page_of inner p) ≡ false
below_page {inner} {logical} {page} {old} {new} told notes = λ p below first. ⊎_elim
    (λ blank. told.used_below p (omega (arith, blank.1)) (omega (arith, blank.1)))
    (λ used. ⊎_elim
    (λ here. ap (λ p. is_blank (page_of inner p)) here ∙ used.0)
    (λ apart. told.used_below p (omega arith) (omega (arith, used.1)))
    (cases_eq p page))
    (lowest_blank page new.blank (page_of inner page) old.blank notes.blank)

-- what a table page adds
pub told_plain : {inner : DieState} {logical page : ℕ} {old new : Opening} → Told inner logical page old → page < inner.shape.pages → NotesPage logical page (page_of inner page) old new
    → is_gated (page_of inner page) ≡ false
    → Told inner logical (page + 1) new
told_plain {inner} {logical} {page} {old} {new} told inside notes plain = record {
  rows = record {
    homes = ap length (notes.same_homes plain) ∙ told.rows.homes;
    taken = ap length (notes.same_taken plain) ∙ told.rows.taken;
    used = ap length notes.used ∙ (length-set old.book.used.items page (not (is_blank (page_of inner page))) ∙ told.rows.used);
  };
  sound = sound_plain told.sound plain;
  homes = λ block below. ap (λ (xs : List ℕ). get_or xs block 0) (notes.same_homes plain) ∙
      (told.homes block below ∙ sym (ap (home_up_to inner block) (add-one page) ∙ home_of_other inner block page (not_entry (logical_of (page_of inner page) == block))));
  taken = λ block below. ap (λ (xs : List Bool). get_or xs block true) (notes.same_taken plain) ∙ (told.taken block below
      ∙ ap (λ (b : Bool). nat_le block logical || b) (sym (ap (is_named_up_to inner block) (add-one page) ∙ name_of_other inner block page (not_entry (inner_of (page_of inner page) == block)))));
  used = used_more told inside notes;
  reach = reach_more told notes;
  blank = blank_more told inside notes;
  used_below = below_page told notes;
} where
  not_entry : (b : Bool) → (is_gated (page_of inner page) && b) ≡ false
  not_entry b = ap (λ (gated : Bool). gated && b) plain

pub told_entry : {inner : DieState} {logical page : ℕ} {old new : Opening} → Told inner logical page old → page < inner.shape.pages → NotesPage logical page (page_of inner page) old new
    → is_gated (page_of inner page) ≡ true
    → Told inner logical (page + 1) new
told_entry {inner} {logical} {page} {old} {new} told inside notes gated = record {
  rows = record {
    homes = ap length (notes.homes gated) ∙ (length-set old.book.homes.items (logical_of (page_of inner page)) (inner_of (page_of inner page)) ∙ told.rows.homes);
    taken = ap length (notes.taken gated) ∙ (length-set old.book.taken.items (inner_of (page_of inner page)) true ∙ told.rows.taken);
    used = ap length notes.used ∙ (length-set old.book.used.items page (not (is_blank (page_of inner page))) ∙ told.rows.used);
  };
  sound = sound_entry admits;
  homes = λ block below. ap (λ (xs : List ℕ). get_or xs block 0) (notes.homes gated) ∙ (⊎_elim
      (λ here. ap (λ n. get_or (set old.book.homes.items (logical_of (page_of inner page)) (inner_of (page_of inner page))) n 0) here
      ∙ (get_or-set_same old.book.homes.items (logical_of (page_of inner page)) (inner_of (page_of inner page)) 0 (omega (arith, (notes.admitted gated).logical_inside, told.rows.homes))
      ∙ sym (home_of_entry inner block page (ap₂ (λ (a b : Bool). a && b) gated (eq-eqb (logical_of (page_of inner page)) block (sym here))))))
      (λ apart. get_or-set_other old.book.homes.items (logical_of (page_of inner page)) block (inner_of (page_of inner page)) 0 apart
      ∙ (told.homes block below ∙ sym (home_of_other inner block page (ap₂ (λ (a b : Bool). a && b) gated (ne_eqb (logical_of (page_of inner page)) block (λ e. apart (sym e)))))))
      (cases_eq block (logical_of (page_of inner page)))
      ∙ ap (home_up_to inner block) (sym (add-one page)));
  taken = λ block below. ap (λ (xs : List Bool). get_or xs block true) (notes.taken gated) ∙ (⊎_elim
      (λ here. ap (λ n. get_or (set old.book.taken.items (inner_of (page_of inner page)) true) n true) here
      ∙ (get_or-set_same old.book.taken.items (inner_of (page_of inner page)) true true (omega (arith, named_inside admits, told.rows.taken))
      ∙ sym (ap (λ (b : Bool). nat_le block logical || b) (name_of_entry inner block page (ap₂ (λ (a b : Bool). a && b) gated (eq-eqb (inner_of (page_of inner page)) block (sym here)))) ∙ or_true
      (nat_le block logical))))
      (λ apart. get_or-set_other old.book.taken.items (inner_of (page_of inner page)) block true true apart
      ∙ (told.taken block below ∙ ap (λ (b : Bool). nat_le block logical || b)
      (sym (name_of_other inner block page (ap₂ (λ (a b : Bool). a && b) gated (ne_eqb (inner_of (page_of inner page)) block (λ e. apart (sym e))))))))
      (cases_eq block (inner_of (page_of inner page)))
      ∙ ap (λ n. nat_le block logical || is_named_up_to inner block n) (sym (add-one page)));
  used = used_more told inside notes;
  reach = reach_more told notes;
  blank = blank_more told inside notes;
  used_below = below_page told notes;
} where
  admits : Admits inner logical page old
  admits = record { told = told; gated = gated; admitted = notes.admitted gated }

  or_true : (b : Bool) → (b || true) ≡ true
  or_true true = refl
  or_true false = refl

pub told_more : {inner : DieState} {logical page : ℕ} {old new : Opening} → Told inner logical page old → page < inner.shape.pages → NotesPage logical page (page_of inner page) old new
    → Told inner logical (page + 1) new
told_more {inner} {logical} {page} {old} {new} told inside notes = ⊎_elim
    (λ gated. told_entry told inside notes gated)
    (λ plain. told_plain told inside notes plain)
    (cases_Bool (is_gated (page_of inner page)))

-- two dies with the same cells, as before and after reads
pub record SameInside (inner new : DieState) : Type 0 where
  pub shape : new.shape ≡ inner.shape
  pub cells : new.cells ≡ inner.cells

pub inside_read : {inner new : DieState} → OnlyReads inner new → SameInside inner new
inside_read {inner} {new} reads = record { shape = reads.shape; cells = reads.cells }

pub inside_back : {inner new : DieState} → OnlyReads inner new → SameInside new inner
inside_back {inner} {new} reads = record { shape = sym reads.shape; cells = sym reads.cells }

-- reads leave what the table tells
pub page_same : {inner new : DieState} (page : ℕ) → SameInside inner new → page_of new page ≡ page_of inner page
page_same {inner} {new} page reads = ap (λ (cells : List (List ℕ)). page_at cells page) reads.cells

named_read : {inner new : DieState} (block count : ℕ) → SameInside inner new → is_named_up_to new block count ≡ is_named_up_to inner block count
named_read {inner} {new} block count reads = names_ungated inner new block count (λ page below. inl (page_same page reads))

pub sound_read : {inner new : DieState} {logical count : ℕ} → SameInside inner new → SoundUpTo inner logical count → SoundUpTo new logical count
sound_read {inner} {new} {logical} {count} reads sound = record {
  logical_inside = λ page below gated. rw (page_same page reads) (sound.logical_inside page below (ap is_gated (sym (page_same page reads)) ∙ gated));
  inner_past = λ page below gated. rw (page_same page reads) (sound.inner_past page below (ap is_gated (sym (page_same page reads)) ∙ gated));
  inner_inside = λ page below gated. rw (page_same page reads, reads.shape) (sound.inner_inside page below (ap is_gated (sym (page_same page reads)) ∙ gated));
  apart = λ page later first below gated gated' same. sound.apart page later first below (ap is_gated (sym (page_same page reads)) ∙ gated) (ap is_gated (sym (page_same later reads)) ∙ gated')
      (ap inner_of (sym (page_same page reads)) ∙ (same ∙ ap inner_of (page_same later reads)));
  order = λ blank gated first below is. ap is_gated (page_same gated reads) ∙ sound.order blank gated first below (ap is_blank (sym (page_same blank reads)) ∙ is);
}

pub told_read : {inner new : DieState} {logical count : ℕ} {opening : Opening} → SameInside inner new → Told inner logical count opening → Told new logical count opening
told_read {inner} {new} {logical} {count} {opening} reads told = record {
  rows = record { homes = told.rows.homes; taken = rw reads.shape told.rows.taken; used = rw reads.shape told.rows.used };
  sound = sound_read reads told.sound;
  homes = λ block below. told.homes block below ∙ sym (home_up_to-same inner new block count (λ page below. page_same page reads));
  taken = λ block below. told.taken block (rw reads.shape at below) ∙ ap (λ (b : Bool). nat_le block logical || b) (sym (named_read block count reads));
  used = λ page below. told.used page below ∙ ap (λ (row : List ℕ). not (is_blank row)) (sym (page_same page reads));
  reach = λ past. rw reads.shape (told.reach past);
  blank = λ below. ap is_blank (page_same opening.blank reads) ∙ told.blank below;
  used_below = λ page below first. ap is_blank (page_same page reads) ∙ told.used_below page below first;
}

pub sound_table_read : {inner new : DieState} {logical : ℕ} → SameInside inner new → IsSoundTable inner logical → IsSoundTable new logical
sound_table_read {inner} {new} {logical} reads sound = record {
  entries = subst (λ (n : ℕ). SoundUpTo new logical n) (ap (λ (shape : Shape). shape.pages) (sym reads.shape)) (sound_read reads sound.entries);
  spares = λ block past inside free page here.
      page_same page reads
      ∙ (sound.spares block past (rw reads.shape at inside) (sym (ap (λ (shape : Shape). is_named_up_to new block shape.pages) reads.shape ∙ named_read block inner.shape.pages reads) ∙ free) page
      (ap (λ (shape : Shape). page / shape.pages) (sym reads.shape) ∙ here)
      ∙ ap (λ (shape : Shape). blank_page (page_bytes shape)) (sym reads.shape));
}

-- one read after others
pub reads_trans : {old mid new : DieState} → OnlyReads old mid → OnlyReads mid new → OnlyReads old new
reads_trans {old} {mid} {new} first second = record {
  shape = second.shape ∙ first.shape;
  cells = second.cells ∙ first.cells;
  erases = second.erases ∙ first.erases;
  fixed = second.fixed ∙ first.fixed;
  read_faults = omega (arith, first.read_faults, second.read_faults);
  change_faults = second.change_faults ∙ first.change_faults;
}

pub read_only : {old new : DieState} {T E : Type 0} (result : Result T E) → SameCells old new → Kept old new → OnOk result (Passed 0 1 old new) → OnErr result (ReadFailed 0 1 old new)
    → OnlyReads old new
read_only {old} {new} result same kept passed failed = record {
  shape = kept.shape;
  cells = same.cells;
  erases = same.erases;
  fixed = kept.fixed;
  read_faults = kept.read_faults;
  change_faults = same_changes old new result passed failed;
}

-- a refusal after reads
pub cause_after : (old mid new : DieState) (logical : ℕ) (why : OpenError) → OnlyReads old mid → OpenCause why mid new logical → OpenCause why old new logical
cause_after old mid new logical OutOfMemory reads cause = rw (sym reads.shape) cause
cause_after old mid new logical WrongShape reads cause = λ fits. cause (rw reads.shape fits)
cause_after old mid new logical DieFault reads cause = (rw (sym reads.shape) cause.0, omega (arith, cause.1, reads.read_faults))
cause_after old mid new logical Table reads cause = (rw (sym reads.shape) cause.0, λ sound. cause.1 (sound_table_read (inside_read reads) sound))

pub causes_after : (old mid new : DieState) (logical : ℕ) {T : Type 0} (result : Result T OpenError) → OnlyReads old mid → IfErr result (λ why. OpenCause why mid new logical)
    → IfErr result (λ why. OpenCause why old new logical)
causes_after old mid new logical (Ok x) reads cause = tt
causes_after old mid new logical (Err why) reads cause = cause_after old mid new logical why reads cause

-- a page that is refused is wrong
pub wrong_cause : (inner new : DieState) (logical : ℕ) {T W : Type 0} (result : Result T OpenError) → OnErr result W → IfErr result (λ why. why ≡ Table) → FitsShape inner.shape logical
    → (W → IsSoundTable inner logical → ⊥)
    → IfErr result (λ why. OpenCause why inner new logical)
wrong_cause inner new logical (Ok x) wrong is fits refutes = tt
wrong_cause inner new logical (Err why) wrong is fits refutes = subst (λ (why : OpenError). OpenCause why inner new logical) (sym is) (fits, refutes wrong)

pub is_named_read : {inner new : DieState} (block : ℕ) → SameInside inner new → is_named new block ≡ is_named inner block
is_named_read {inner} {new} block reads = ap (λ (shape : Shape). is_named_up_to new block shape.pages) reads.shape ∙ named_read block inner.shape.pages reads
