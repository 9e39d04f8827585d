-- What a first write of a blank page leaves.
use Rattle.std.proofs.Common.{◌≡◌, inr, ℕ, zero, suc, ◌+◌, ◌-◌, ◌*◌, ◌≤◌, true, false, List, [], ◌∷◌, drop, take, length, replicate, ◌==◌, length-drop, refl, sym, ap, ap₂, ◌∙◌, arith, subst}
use Rattle.std.proofs.Common.{OnOk, OnErr, Result, Ok, Err}
use Rattle.std.proofs.lemmas.Bool.{and_parts, eqb-true}
use Rattle.std.proofs.lemmas.List.{drop-replicate}
use Rattle.zero_count.specs.declared.Header.{Header}
use Rattle.cell_die.specs.Cells.{IsAbove, charge, blank_page, is_blank}
use Rattle.cell_die.specs.DieState.{DieState, page_of}
use Rattle.cell_die.specs.Changes.{OnlyPage}
use Rattle.cell_die.proofs.CellLaws.{above_blank, no_charge}
use Rattle.striped.specs.Meaning.{Meaning}
use Rattle.spare_gate.specs.Slots.{with_header, gate_cell_of, is_gate_charged}
use Rattle.cell_bits.proofs.Slices.{charge_main}
use Rattle.page_codec.specs.Puts.{Puts, FirstGives, MainBlank, spare_of, first_slot, is_gated}
use Rattle.page_codec.proofs.PutOne.{IsTarget, Reaches, put_ends, ends_gated, midway_none, done_here}

pub blank_row : (row : List ℕ) → is_blank row ≡ true → row ≡ blank_page (length row)
blank_row [] e = refl
blank_row (x ∷ xs) e = let p = and_parts (x == 0) (is_blank xs) e in ap₂ (λ (y : ℕ) (ys : List ℕ). y ∷ ys) (eqb-true x 0 p.0) (blank_row xs p.1)

-- a call that answers Ok leaves all, and one that fails a part of it
pub reaches_any : {T E : Type 0} (result : Result T E) (old new target : List ℕ) (cell : ℕ) → OnOk result (new ≡ charge target cell) → OnErr result (Reaches old new target cell)
    → Reaches old new target cell
reaches_any (Ok x) old new target cell done part = inr done
reaches_any (Err x) old new target cell done part = part

pub on_ok : {T E P Q : Type 0} (result : Result T E) → (P → Q) → OnOk result P → OnOk result Q
on_ok (Ok x) f p = f p
on_ok (Err x) f p = tt

-- the spare bytes of a blank page
blank_spare : (page : ℕ) (old : DieState) → is_blank (page_of old page) ≡ true → spare_of old page ≡ replicate (length (page_of old page) - old.shape.main_bytes) 0
blank_spare page old blank = ap (drop old.shape.main_bytes) (blank_row (page_of old page) blank) ∙ drop-replicate old.shape.main_bytes (length (page_of old page)) 0

-- the first gate of a blank page
pub blank_page_ungated : (page : ℕ) (old : DieState) → is_blank (page_of old page) ≡ true → is_gated old (first_slot page) ≡ false
blank_page_ungated page old blank =
    ap (λ (bytes : List ℕ). is_gate_charged bytes 0) (blank_spare page old blank)
    ∙ ap (λ (c : ℕ). c == 1) (no_charge (length (page_of old page) - old.shape.main_bytes) (128 * 0))

-- the target of a blank page
pub first_target : (page : ℕ) (header : Header) (old : DieState) (target : List ℕ) → is_blank (page_of old page) ≡ true → length target ≡ length (page_of old page)
    → drop old.shape.main_bytes target ≡ with_header (replicate (length target - old.shape.main_bytes) 0) 0 header → old.shape.main_bytes + 16 ≤ length target
    → IsTarget (first_slot page) header old target
first_target page header old target blank same spare room = record {
  above = subst (IsAbove target) (sym row) (above_blank target (length (page_of old page)) same);
  spare = spare ∙ ap (λ (bytes : List ℕ). with_header bytes 0 header) (ap (λ (n : ℕ). replicate (n - old.shape.main_bytes) 0) same ∙ sym zeros);
  ungated = blank_page_ungated page old blank;
  room = omega (arith, length-drop old.shape.main_bytes (page_of old page));
  page_room = omega (arith, room);
}
  where
    row : page_of old page ≡ blank_page (length (page_of old page))
    row = blank_row (page_of old page) blank

    zeros : spare_of old page ≡ replicate (length (page_of old page) - old.shape.main_bytes) 0
    zeros = blank_spare page old blank

-- main bytes that the first code gives for the sector
pub put_first_ends : (meaning : Meaning) (page : ℕ) (header : Header) (sector : List ℕ) (old new : DieState) (target : List ℕ)
    → IsTarget (first_slot page) header old target → new.shape ≡ old.shape → OnlyPage page old new → Reaches (page_of old page) (page_of new page) target (gate_cell_of old.shape.main_bytes 0)
    → meaning.page_bytes ≡ old.shape.main_bytes → meaning.decoding.first_gives (take old.shape.main_bytes target) sector ≡ true
    → Puts (FirstGives meaning page sector) 1 (first_slot page) header old new
put_first_ends meaning page header sector old new target t shape only reaches bytes gives =
    put_ends (FirstGives meaning page sector) 1 (first_slot page) header old old new target (omega arith) (midway_none (first_slot page) old) t shape only reaches
    (ap (λ (main : List ℕ). meaning.decoding.first_gives main sector)
    (ap₂ (λ (n : ℕ) (row : List ℕ). take n row) bytes (done_here page _ old) ∙ charge_main old.shape.main_bytes target (128 * 0)) ∙ gives)

-- The first write of a sector in a buffer of n bytes, of which m are main bytes.
pub record IsFirstWrite (page : ℕ) (header : Header) (old : DieState) (written : List ℕ) (m n : ℕ) : Type 0 where
  pub blank : is_blank (page_of old page) ≡ true
  pub bytes : old.shape.main_bytes ≡ m
  pub long : length written ≡ n
  pub page_long : n ≡ length (page_of old page)
  pub room : m + 16 ≤ n
  pub spare : drop m written ≡ with_header (replicate (n - m) 0) 0 header

pub write_target : (page : ℕ) (header : Header) (old : DieState) (written : List ℕ) (m n : ℕ) → IsFirstWrite page header old written m n → IsTarget (first_slot page) header old written
write_target page header old written m n w = first_target page header old written w.blank (w.long ∙ w.page_long)
    (ap (λ (k : ℕ). drop k written) w.bytes ∙ (w.spare ∙ ap₂ (λ (a b : ℕ). with_header (replicate (a - b) 0) 0 header) (sym w.long) (sym w.bytes)))
    (omega (arith, w.bytes, w.long, w.room))

cell_there : (old : DieState) (m cell : ℕ) → old.shape.main_bytes ≡ m → cell ≡ gate_cell_of m 0 → cell ≡ gate_cell_of old.shape.main_bytes 0
cell_there old m cell bytes e = e ∙ ap (λ (k : ℕ). gate_cell_of k 0) (sym bytes)

pub first_write_puts : (meaning : Meaning) (page : ℕ) (header : Header) (sector : List ℕ) (old new : DieState) (written target : List ℕ) (m n cell : ℕ) → IsFirstWrite page header old written m n
    → meaning.page_bytes ≡ m → meaning.decoding.first_gives (take m written) sector ≡ true → target ≡ written → cell ≡ gate_cell_of m 0
    → new.shape ≡ old.shape → OnlyPage page old new → Reaches (page_of old page) (page_of new page) target cell
    → Puts (FirstGives meaning page sector) 1 (first_slot page) header old new
first_write_puts meaning page header sector old new written target m n cell w bytes gives same gate shape only reaches =
    put_first_ends meaning page header sector old new written (write_target page header old written m n w) shape only
    (subst (λ (t : List ℕ). Reaches (page_of old page) (page_of new page) t (gate_cell_of old.shape.main_bytes 0)) same
    (subst (Reaches (page_of old page) (page_of new page) target) (cell_there old m cell w.bytes gate) reaches))
    (bytes ∙ sym w.bytes)
    (ap (λ (k : ℕ). meaning.decoding.first_gives (take k written) sector) w.bytes ∙ gives)

pub first_write_gated : (page : ℕ) (header : Header) (old new : DieState) (written target : List ℕ) (m n cell : ℕ) → IsFirstWrite page header old written m n
    → target ≡ written → cell ≡ gate_cell_of m 0 → new.shape ≡ old.shape → page_of new page ≡ charge target cell → is_gated new (first_slot page) ≡ true
first_write_gated page header old new written target m n cell w same gate shape e =
    ends_gated 1 (first_slot page) header old old new written (midway_none (first_slot page) old) (write_target page header old written m n w) shape
    (e ∙ ap₂ charge same (cell_there old m cell w.bytes gate))

pub blank_zeros : (n : ℕ) → is_blank (replicate n 0) ≡ true
blank_zeros zero = refl
blank_zeros (suc n) = blank_zeros n

-- main bytes that stay blank
pub zeros_puts : (page : ℕ) (header : Header) (old new : DieState) (written target : List ℕ) (m n cell : ℕ) → IsFirstWrite page header old written m n
    → take m written ≡ replicate m 0 → target ≡ written → cell ≡ gate_cell_of m 0
    → new.shape ≡ old.shape → OnlyPage page old new → Reaches (page_of old page) (page_of new page) target cell
    → Puts (MainBlank old.shape.main_bytes page) 1 (first_slot page) header old new
zeros_puts page header old new written target m n cell w blank same gate shape only reaches =
    put_ends (MainBlank old.shape.main_bytes page) 1 (first_slot page) header old old new written (omega arith) (midway_none (first_slot page) old)
    (write_target page header old written m n w) shape only
    (subst (λ (t : List ℕ). Reaches (page_of old page) (page_of new page) t (gate_cell_of old.shape.main_bytes 0)) same
    (subst (Reaches (page_of old page) (page_of new page) target) (cell_there old m cell w.bytes gate) reaches))
    (ap is_blank (ap (take old.shape.main_bytes) (done_here page _ old) ∙ (charge_main old.shape.main_bytes written (128 * 0) ∙ (ap (λ (k : ℕ). take k written) w.bytes ∙ blank))) ∙ blank_zeros m)
