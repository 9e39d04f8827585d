-- The bytes of one page: main bytes have no pad cell, and of a slot the gate byte and the last byte have some.
use Rattle.std.proofs.Common.{◌≡◌, ℕ, ◌+◌, ◌-◌, ◌*◌, ◌/◌, ◌%◌, ◌<◌, ◌≤◌, Bool, true, false, ◌&&◌, ◌==◌, nat_lt, if◌then◌else◌, List, get_or, refl, subst, ◌∙◌, inl, inr, arith}
use Rattle.std.proofs.lemmas.Bool.{and_parts, cases_lt, eqb-true, le-ltb}
use Rattle.std.proofs.lemmas.Nat.{div-mul-add}
use Rattle.std.proofs.Math.Nat.{mul-add-mod_self_right, mod-eq_of_lt}
use Rattle.die_image.specs.Pads.{is_pad_charged_in}
use Rattle.die_image.proofs.PadBytes.{shape_with, in_main, in_gate, in_seal, in_last, in_word}

-- the greatest last byte of a slot without a charged pad cell
abbrev pub last_limit : ℕ → ℕ → ℕ → ℕ
last_limit page pages slot = if slot == 1 && page % pages == 0 then 1 else 0

place_of : (page size place : ℕ) → place < size → (page * size + place) % size ≡ place
place_of page size place lt = mul-add-mod_self_right page size place ∙ mod-eq_of_lt lt

not_above : (limit byte : ℕ) → byte ≤ limit → nat_lt limit byte ≡ false
not_above limit byte le = le-ltb limit byte le

sides : (a b c : ℕ) → a + (b + c) ≡ a + b + c
sides a b c = omega arith

pub main_byte : (blocks pages main slots page place byte : ℕ) → place < main → byte < 256 →
    is_pad_charged_in (shape_with blocks pages main slots) (page * (main + 16 * slots) + place) byte ≡ false
main_byte blocks pages main slots page place byte lt small =
    let there = place_of page (main + 16 * slots) place (omega arith) in
    in_main blocks pages main slots _ byte (rw there lt) small ∙ not_above 255 byte (omega arith)

pub gate_byte : (blocks pages main slots page slot byte : ℕ) → slot < slots → byte < 256 →
    is_pad_charged_in (shape_with blocks pages main slots) (page * (main + 16 * slots) + main + 16 * slot) byte ≡ nat_lt 1 byte
gate_byte blocks pages main slots page slot byte lt small =
    let there = place_of page (main + 16 * slots) (main + 16 * slot) (omega arith) in
    let gate : (main + 16 * slot - main) % 16 ≡ 0 = omega arith in
    let from : main ≤ main + 16 * slot = omega arith in
    subst (λ index. is_pad_charged_in (shape_with blocks pages main slots) index byte ≡ nat_lt 1 byte) (sides (page * (main + 16 * slots)) main (16 * slot))
    (in_gate blocks pages main slots _ byte (omega arith) (rw there from) (rw there gate) small)

pub word_byte : (blocks pages main slots page slot place byte : ℕ) → slot < slots → 0 < place → place < 15 → byte < 256 →
    is_pad_charged_in (shape_with blocks pages main slots) (page * (main + 16 * slots) + (main + 16 * slot + place)) byte ≡ false
word_byte blocks pages main slots page slot place byte lt some before small =
    let there = place_of page (main + 16 * slots) (main + 16 * slot + place) (omega arith) in
    let within : (main + 16 * slot + place - main) % 16 ≡ place = omega arith in
    let from : main ≤ main + 16 * slot + place = omega arith in
    in_word blocks pages main slots _ byte (omega arith) (rw there from) (rw (there, within) (λ none. omega arith)) (rw (there, within) before) small
    ∙ not_above 255 byte (omega arith)

pub last_byte : (blocks pages main slots page slot byte : ℕ) → slot < slots → byte < 256 →
    is_pad_charged_in (shape_with blocks pages main slots) (page * (main + 16 * slots) + main + 16 * slot + 15) byte ≡ nat_lt (last_limit page pages slot) byte
last_byte blocks pages main slots page slot byte lt small =
    let e : page * (main + 16 * slots) + (main + 16 * slot + 15) ≡ page * (main + 16 * slots) + main + 16 * slot + 15 = omega arith in
    subst (λ index. is_pad_charged_in (shape_with blocks pages main slots) index byte ≡ nat_lt (last_limit page pages slot) byte) e (by (slot == 1 && page % pages == 0) refl)
  where
    from : main ≤ main + 16 * slot + 15
    from = omega arith

    there : (page * (main + 16 * slots) + (main + 16 * slot + 15)) % (main + 16 * slots) ≡ main + 16 * slot + 15
    there = place_of page (main + 16 * slots) (main + 16 * slot + 15) (omega arith)

    the_page : (page * (main + 16 * slots) + (main + 16 * slot + 15)) / (main + 16 * slots) ≡ page
    the_page = div-mul-add page (main + 16 * slots) (main + 16 * slot + 15) (omega arith)

    by : (has_seal : Bool) → (slot == 1 && page % pages == 0) ≡ has_seal →
        is_pad_charged_in (shape_with blocks pages main slots) (page * (main + 16 * slots) + (main + 16 * slot + 15)) byte ≡ nat_lt (if has_seal then 1 else 0) byte
    by true e =
        let both = and_parts (slot == 1) (page % pages == 0) e in
        let second : slot ≡ 1 = eqb-true slot 1 both.0 in
        let first : page % pages ≡ 0 = eqb-true (page % pages) 0 both.1 in
        let seal : main + 16 * slot + 15 - main ≡ 31 = omega arith in
        in_seal blocks pages main slots _ byte (omega arith) (rw there from) (rw there seal) (rw the_page first) small
    by false e =
        let last : (main + 16 * slot + 15 - main) % 16 ≡ 15 = omega arith in
        let number : (main + 16 * slot + 15 - main) / 16 ≡ slot = omega arith in
        in_last blocks pages main slots _ byte (omega arith) (rw there from) (rw there last) (rw (there, number, the_page) e) small

-- no byte of a page below this place has a charged pad cell
abbrev pub IsCleanBelow : ℕ → ℕ → ℕ → ℕ → List ℕ → ℕ → ℕ → Type 0
IsCleanBelow blocks pages main slots cells page end = (place : ℕ) → place < end →
    is_pad_charged_in (shape_with blocks pages main slots) (page * (main + 16 * slots) + place) (get_or cells (page * (main + 16 * slots) + place) 0) ≡ false

-- one slot more
pub slot_more : (blocks pages main slots page slot : ℕ) (cells : List ℕ) → slot < slots → ((i : ℕ) → get_or cells i 0 < 256) →
    IsCleanBelow blocks pages main slots cells page (main + 16 * slot) →
    get_or cells (page * (main + 16 * slots) + main + 16 * slot) 0 ≤ 1 →
    get_or cells (page * (main + 16 * slots) + main + 16 * slot + 15) 0 ≤ last_limit page pages slot →
    IsCleanBelow blocks pages main slots cells page (main + 16 * (slot + 1))
slot_more blocks pages main slots page slot cells lt bytes clean gate last place within = elim (cases_lt place (main + 16 * slot)) [
  | inl before ↦ clean place before
  | inr from ↦ by (place - (main + 16 * slot)) (omega arith) (omega arith)
]
  where
    is_clean : ℕ → Type 0
    is_clean index = is_pad_charged_in (shape_with blocks pages main slots) index (get_or cells index 0) ≡ false

    by : (k : ℕ) → place ≡ main + 16 * slot + k → k < 16 → is_clean (page * (main + 16 * slots) + place)
    by k is small = elim (cases_lt 0 k) [
      | inr none ↦
          let e : page * (main + 16 * slots) + main + 16 * slot ≡ page * (main + 16 * slots) + place = omega arith in
          subst is_clean e (gate_byte blocks pages main slots page slot _ lt (bytes _) ∙ not_above 1 _ gate)
      | inl some ↦ elim (cases_lt k 15) [
        | inl before ↦
            let e : page * (main + 16 * slots) + (main + 16 * slot + k) ≡ page * (main + 16 * slots) + place = omega arith in
            subst is_clean e (word_byte blocks pages main slots page slot k _ lt some before (bytes _))
        | inr after ↦
            let e : page * (main + 16 * slots) + main + 16 * slot + 15 ≡ page * (main + 16 * slots) + place = omega arith in
            subst is_clean e (last_byte blocks pages main slots page slot _ lt (bytes _) ∙ not_above _ _ last)
      ]
    ]
