-- An entry that is written on the lowest-numbered blank table page moves one logical block, and moves it only with its gate.
use Rattle.std.proofs.Common.{◌≡◌, ◌≢◌, ℕ, zero, suc, ◌+◌, ◌-◌, ◌<◌, ◌≤◌, ◌^◌, Bool, true, false, List, ◌++◌, length, replicate, ap, ap₂, sym, ◌∙◌, arith, add-suc, add-zero, eq-eqb, ⊎_elim}
use Rattle.std.specs.Prelude.{if◌then◌else◌, ◌==◌, ◌&&◌, slice_index}
use Rattle.std.specs.Int.{w32, to_le_bytes}
use Rattle.std.proofs.lemmas.Bool.{ne_eqb, eqb-true, cases_Bool, false≢true}
use Rattle.std.proofs.lemmas.Nat.Bits.{bit_at-lt}
use Rattle.cell_die.specs.Changes.{IsBetween}
use Rattle.std.proofs.lemmas.List.{length-replicate}
use Rattle.std.proofs.lemmas.Nat.{from_le_bytes-to_le_bytes_4}
use Rattle.cell_die.specs.Cells.{charge_at, charge, blank_page}
use Rattle.cell_die.specs.DieState.{DieState, page_of}
use Rattle.cell_die.proofs.CellLaws.{no_charge}
use Rattle.spare_die.specs.Table.{home_up_to, is_gated, is_entry_for, logical_of, inner_of, entry_page}
use Rattle.spare_die.specs.Entering.{IsEntry}
use Rattle.spare_die.specs.SpareLaws.{home_up_to-same}

-- a blank page is no entry
pub blank_not_gated : (bytes : ℕ) → is_gated (blank_page bytes) ≡ false
blank_not_gated bytes = ap (λ charge. charge == 1) (no_charge bytes 64)

-- pages without a charged gate name nothing
pub skip_ungated : (inner : DieState) (block first count : ℕ) → ((table : ℕ) → first ≤ table → table < first + count → is_gated (page_of inner table) ≡ false)
    → home_up_to inner block (first + count) ≡ home_up_to inner block first
unfolding home_up_to
skip_ungated inner block first zero none = ap (home_up_to inner block) (add-zero first)
skip_ungated inner block first (suc count) none =
    ap (home_up_to inner block) (add-suc first count)
    ∙ (ap (λ gated. if gated && (logical_of (page_of inner (first + count)) == block) then inner_of (page_of inner (first + count)) else home_up_to inner block (first + count))
    (none (first + count) (omega arith) (omega arith))
    ∙ skip_ungated inner block first count (λ table from to. none table from (omega arith)))

-- the entry on a page, with no entry after it, names the inner block of its logical block
pub home_of_entry : (inner : DieState) (block table : ℕ) → is_entry_for block (page_of inner table) ≡ true → home_up_to inner block (suc table) ≡ inner_of (page_of inner table)
unfolding home_up_to
home_of_entry inner block table entry = ap (λ is. if is then inner_of (page_of inner table) else home_up_to inner block table) entry

-- and of no other
pub home_of_other : (inner : DieState) (block table : ℕ) → is_entry_for block (page_of inner table) ≡ false → home_up_to inner block (suc table) ≡ home_up_to inner block table
unfolding home_up_to
home_of_other inner block table entry = ap (λ is. if is then inner_of (page_of inner table) else home_up_to inner block table) entry

-- one logical block has this home now, and all others have theirs
pub record MovesHome (inner new : DieState) (block named : ℕ) : Type 0 where
  pub here : home_up_to new block inner.shape.pages ≡ named
  pub others : (other : ℕ) → other ≢ block → home_up_to new other inner.shape.pages ≡ home_up_to inner other inner.shape.pages

-- the homes after an entry for one block is written on a table page with no gated page from there on
pub homes_after : (inner new : DieState) (block table named : ℕ) → new.shape ≡ inner.shape → table < inner.shape.pages
    → ((page : ℕ) → page < table → page_of new page ≡ page_of inner page)
    → ((page : ℕ) → table ≤ page → page < inner.shape.pages → is_gated (page_of inner page) ≡ false)
    → ((page : ℕ) → table < page → page < inner.shape.pages → is_gated (page_of new page) ≡ false)
    → is_gated (page_of new table) ≡ true → logical_of (page_of new table) ≡ block → inner_of (page_of new table) ≡ named
    → MovesHome inner new block named
homes_after inner new block table named shape inside before none_old none_new gated logical is = record {
  here = up_to new block (suc table) (omega arith) none_new' ∙ (home_of_entry new block table (entry_here block (eq-eqb _ _ logical)) ∙ is);
  others = λ other apart.
      up_to new other (suc table) (omega arith) none_new'
      ∙ (home_of_other new other table (entry_here_not other (λ same. apart (sym same ∙ logical)))
      ∙ (home_up_to-same inner new other table before ∙ sym (up_to' other)));
} where
  none_new' : (page : ℕ) → suc table ≤ page → page < inner.shape.pages → is_gated (page_of new page) ≡ false
  none_new' page from to = none_new page (omega arith) to

  up_to : (die : DieState) (other first : ℕ) → first ≤ inner.shape.pages → ((page : ℕ) → first ≤ page → page < inner.shape.pages → is_gated (page_of die page) ≡ false)
      → home_up_to die other inner.shape.pages ≡ home_up_to die other first
  up_to die other first fits none =
      let all : first + (inner.shape.pages - first) ≡ inner.shape.pages = omega arith in
      ap (home_up_to die other) (sym all) ∙ skip_ungated die other first (inner.shape.pages - first) (λ page from to. none page from (omega arith))

  up_to' : (other : ℕ) → home_up_to inner other inner.shape.pages ≡ home_up_to inner other table
  up_to' other = up_to inner other table (omega arith) none_old

  entry_here : (other : ℕ) → (logical_of (page_of new table) == other) ≡ true → is_entry_for other (page_of new table) ≡ true
  entry_here other same = ap₂ (λ (a b : Bool). a && b) gated same

  entry_here_not : (other : ℕ) → logical_of (page_of new table) ≢ other → is_entry_for other (page_of new table) ≡ false
  entry_here_not other apart = ap₂ (λ (a b : Bool). a && b) gated (ne_eqb _ _ apart)

-- the page of an entry: its gate is not charged, and it is as long as a page
pub entry_ungated : (logical inner bytes : ℕ) → charge_at (entry_page logical inner bytes) 64 ≡ 0
entry_ungated logical inner bytes = no_charge (bytes - 8) 0

pub length-entry : (logical inner bytes : ℕ) → 8 ≤ bytes → length (entry_page logical inner bytes) ≡ bytes
length-entry logical inner bytes room =
    let rest : length (replicate (bytes - 8) zero) ≡ bytes - 8 = length-replicate (bytes - 8) 0 in
    omega (arith, rest)

-- with its gate charged it is an entry, and names what it was written with
one_byte_more : (bytes : ℕ) → 9 ≤ bytes → bytes - 8 ≡ suc (bytes - 9)
one_byte_more bytes room = omega arith

pub entry_gated : (logical inner bytes : ℕ) → 9 ≤ bytes → is_gated (charge (entry_page logical inner bytes) 64) ≡ true
entry_gated logical inner bytes room =
    ap (λ rest. is_gated (charge (to_le_bytes w32 logical ++ to_le_bytes w32 inner ++ replicate rest 0) 64)) (one_byte_more bytes room)

pub entry_logical : (logical inner bytes : ℕ) → 9 ≤ bytes → logical < 2 ^ 32 → logical_of (charge (entry_page logical inner bytes) 64) ≡ logical
entry_logical logical inner bytes room fits =
    ap (λ rest. logical_of (charge (to_le_bytes w32 logical ++ to_le_bytes w32 inner ++ replicate rest 0) 64)) (one_byte_more bytes room)
    ∙ from_le_bytes-to_le_bytes_4 logical fits

pub entry_inner : (logical inner bytes : ℕ) → 9 ≤ bytes → inner < 2 ^ 32 → inner_of (charge (entry_page logical inner bytes) 64) ≡ inner
entry_inner logical inner bytes room fits =
    ap (λ rest. inner_of (charge (to_le_bytes w32 logical ++ to_le_bytes w32 inner ++ replicate rest 0) 64)) (one_byte_more bytes room)
    ∙ from_le_bytes-to_le_bytes_4 inner fits

-- cells below those of a page without a charged gate have none either
pub between_ungated : (old new target : List ℕ) → IsBetween old new target → is_gated target ≡ false → is_gated new ≡ false
between_ungated old new target between none = ⊎_elim
    (λ gated. absurd (let low : charge_at new 64 ≤ charge_at target 64 = between.below.charged 64 in
    let one : charge_at new 64 ≡ 1 = eqb-true (charge_at new 64) 1 gated in
    let most : charge_at target 64 < 2 = bit_at-lt (slice_index target 8) 0 in
    let is : charge_at target 64 ≡ 1 = omega arith in
    false≢true (sym none ∙ eq-eqb (charge_at target 64) 1 is)))
    (λ free. free)
    (cases_Bool (is_gated new))

-- the page of an entry, with its gate charged
pub entry_is : (page : List ℕ) (block named bytes : ℕ) → 9 ≤ bytes → block < 2 ^ 32 → named < 2 ^ 32 → page ≡ charge (entry_page block named bytes) 64 → IsEntry page block named
entry_is page block named bytes room fits fits' is = record {
  gated = ap is_gated is ∙ entry_gated block named bytes room;
  logical = ap logical_of is ∙ entry_logical block named bytes room fits;
  inner = ap inner_of is ∙ entry_inner block named bytes room fits';
}
