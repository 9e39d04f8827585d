-- A blank slot takes a header by charging cells alone, and what happens in one slot leaves the blankness of the others.
use Rattle.std.proofs.Common.{◌≡◌, ◌≢◌, ◌⊎◌, inl, inr, ℕ, zero, suc, ◌+◌, ◌-◌, ◌*◌, ◌/◌, ◌%◌, ◌<◌, ◌≤◌, true, List, [], ◌∷◌, length, drop, ◌&&◌, ◌==◌, slice_index, refl, sym, ap, ap₂, ◌∙◌, arith}
use Rattle.std.proofs.Common.{get_or-take, get_or-drop}
use Rattle.std.specs.Int.{bit_at}
use Rattle.std.proofs.lemmas.Bool.{cases_lt, and_parts, eqb-true}
use Rattle.std.proofs.lemmas.Nat.Bits.{bit_at-zero}
use Rattle.cell_bits.specs.Cells.{charge_at, is_blank, with_charged, IsAbove}
use Rattle.cell_bits.proofs.Charging.{charged_byte_other}
use Rattle.zero_count.specs.declared.Header.{Header}
use Rattle.spare_gate.specs.Slots.{word_at, is_slot_blank, with_header, gate_cell_of, seal_cell_of}
use Rattle.spare_gate.proofs.Headers.{header_long, header_byte, header_words}
use Rattle.spare_gate.proofs.Gates.{gate_keeps_words, seal_keeps_words}

blank_byte : (row : List ℕ) → is_blank row ≡ true → (k : ℕ) → slice_index row k ≡ 0
blank_byte [] h k = refl
blank_byte (x ∷ row) h zero = eqb-true x 0 (and_parts (x == 0) (is_blank row) h).0
blank_byte (x ∷ row) h (suc k) = blank_byte row (and_parts (x == 0) (is_blank row) h).1 k

blank_word : (spare : List ℕ) (slot k : ℕ) → is_slot_blank spare slot ≡ true → 16 * slot + 1 ≤ k → k < 16 * slot + 15 → slice_index spare k ≡ 0
blank_word spare slot k blank from to =
    ap (slice_index spare) place
    ∙ (sym (get_or-take (16 * slot + 15 - (16 * slot + 1)) (drop (16 * slot + 1) spare) (k - (16 * slot + 1)) 0 (omega arith) ∙ get_or-drop (16 * slot + 1) spare (k - (16 * slot + 1)) 0)
    ∙ blank_byte (word_at spare slot) (and_parts (slice_index spare (16 * slot) == 0) (is_blank (word_at spare slot)) blank).1 (k - (16 * slot + 1)))
  where
    place : k ≡ 16 * slot + 1 + (k - (16 * slot + 1))
    place = omega arith

-- a header put into a blank slot only charges cells
pub header_above : (spare : List ℕ) (slot : ℕ) (h : Header) → 16 * slot + 16 ≤ length spare → is_slot_blank spare slot ≡ true → IsAbove (with_header spare slot h) spare
header_above spare slot h room blank = record { same_length = header_long spare slot h room; charged = λ c. at c (cases_lt (c / 8) (16 * slot + 1)) (cases_lt (c / 8) (16 * slot + 15)) }
  where
    same : (c : ℕ) → (c / 8 < 16 * slot + 1) ⊎ (16 * slot + 15 ≤ c / 8) → charge_at spare c ≤ charge_at (with_header spare slot h) c
    same c outside = let e : charge_at (with_header spare slot h) c ≡ charge_at spare c = ap (λ (byte : ℕ). bit_at byte (c % 8)) (header_byte spare slot h (c / 8) room outside) in omega arith

    at : (c : ℕ) → (c / 8 < 16 * slot + 1) ⊎ (16 * slot + 1 ≤ c / 8) → (c / 8 < 16 * slot + 15) ⊎ (16 * slot + 15 ≤ c / 8) → charge_at spare c ≤ charge_at (with_header spare slot h) c
    at c (inl before) _ = same c (inl before)
    at c (inr from) (inr after) = same c (inr after)
    at c (inr from) (inl to) =
        let none : charge_at spare c ≡ 0 = ap (λ (byte : ℕ). bit_at byte (c % 8)) (blank_word spare slot (c / 8) blank from to) ∙ bit_at-zero (c % 8) in
        omega arith

-- a header leaves the blankness of every other slot
pub header_keeps_blank : (spare : List ℕ) (slot : ℕ) (h : Header) (other : ℕ) → 16 * slot + 16 ≤ length spare → other ≢ slot
    → is_slot_blank (with_header spare slot h) other ≡ is_slot_blank spare other
header_keeps_blank spare slot h other room apart =
    ap₂ (λ (byte : ℕ) (word : List ℕ). byte == 0 && is_blank word) (header_byte spare slot h (16 * other) room (outside (cases_lt other (slot + 1)))) (header_words spare slot h other room apart)
  where
    outside : (other < slot + 1) ⊎ (slot + 1 ≤ other) → (16 * other < 16 * slot + 1) ⊎ (16 * slot + 15 ≤ 16 * other)
    outside (inl less) = inl (omega arith)
    outside (inr more) = inr (omega arith)

-- so does a gate
pub gate_keeps_blank : (m : ℕ) (page : List ℕ) (slot other : ℕ) → other ≢ slot → is_slot_blank (drop m (with_charged page (gate_cell_of m slot))) other ≡ is_slot_blank (drop m page) other
gate_keeps_blank m page slot other apart =
    ap₂ (λ (byte : ℕ) (word : List ℕ). byte == 0 && is_blank word)
    (get_or-drop m _ (16 * other) 0 ∙ (charged_byte_other page (gate_cell_of m slot) (m + 16 * other) (λ e. apart (omega arith)) ∙ sym (get_or-drop m page (16 * other) 0)))
    (gate_keeps_words m page slot other)

-- and the seal leaves that of every slot
pub seal_keeps_blank : (m : ℕ) (page : List ℕ) (other : ℕ) → is_slot_blank (drop m (with_charged page (seal_cell_of m))) other ≡ is_slot_blank (drop m page) other
seal_keeps_blank m page other =
    ap₂ (λ (byte : ℕ) (word : List ℕ). byte == 0 && is_blank word)
    (get_or-drop m _ (16 * other) 0 ∙ (charged_byte_other page (seal_cell_of m) (m + 16 * other) (λ e. omega arith) ∙ sym (get_or-drop m page (16 * other) 0)))
    (seal_keeps_words m page other)
