-- The test of the cells in a row finds no charged pad cell exactly where none of any page is charged.
use Rattle.std.proofs.Common.{◌≡◌, ℕ, zero, suc, ◌+◌, ◌-◌, ◌*◌, ◌/◌, ◌%◌, ◌<◌, Bool, true, false, ◌&&◌, ◌||◌, ◌==◌, nat_le, nat_lt, List, [], ◌∷◌, length, get_or, refl, sym, ap, ◌∙◌, subst, inl}
use Rattle.std.proofs.Common.{inr, lit<, arith, add-zero, zero-add}
use Rattle.std.specs.Fork.{slice_chunk}
use Rattle.std.specs.Int.{bit_at}
use Rattle.std.specs.List.{list_any, range_with_len}
use Rattle.std.proofs.lemmas.Bool.{and_parts, cases_lt, leb-true, ltb-true}
use Rattle.std.proofs.lemmas.List.{get_or-take, get_or-drop, get_or_past}
use Rattle.std.proofs.lemmas.List.FromFn.{get_or-range_with_len, length-range_with_len}
use Rattle.std.proofs.lemmas.Nat.{div-mul-add, div-add-mod'}
use Rattle.std.proofs.Math.Nat.{mul-add-mod_self_right, mod-eq_of_lt}
use Rattle.cell_die.specs.declared.shape.Shape.{Shape}
use Rattle.cell_die.specs.Cells.{is_charged}
use Rattle.cell_die.specs.DieState.{page_bytes}
use Rattle.cell_die.specs.Pads.{is_pad, is_pad_of_slot}
use Rattle.die_image.specs.Pads.{is_pad_charged, is_pad_charged_from, is_pad_charged_in}

or_parts : (a b : Bool) → (a || b) ≡ false → (a ≡ false) × (b ≡ false)
or_parts true b e = absurd cc
or_parts false b e = (refl, e)

and_left_true : (a b : Bool) → a ≡ true → (a && b) ≡ false → b ≡ false
and_left_true true b e none = none
and_left_true false b e none = absurd cc

any_none : (f : ℕ → Bool) (xs : List ℕ) → list_any f xs ≡ false → (i : ℕ) → i < length xs → f (get_or xs i 0) ≡ false
any_none f [] none i lt = absurd (omega arith)
any_none f (x ∷ xs) none zero lt = (or_parts (f x) (list_any f xs) none).0
any_none f (x ∷ xs) none (suc i) lt = any_none f xs (or_parts (f x) (list_any f xs) none).1 i (omega arith)

-- none of eight tests is met
none_of_eight : (f : ℕ → Bool) → list_any f (range_with_len 0 8) ≡ false → (k : ℕ) → k < 8 → f k ≡ false
none_of_eight f none k lt =
    let here : get_or (range_with_len 0 8) k 0 ≡ k = get_or-range_with_len 0 8 k 0 lt ∙ omega arith in
    ap f (sym here) ∙ any_none f (range_with_len 0 8) none k (omega (arith, length-range_with_len 0 8))

-- each byte passed the test
pub at_index : (shape : Shape) (from : ℕ) (cells : List ℕ) (i : ℕ) → is_pad_charged_from shape from cells ≡ false → i < length cells →
    is_pad_charged_in shape (from + i) (get_or cells i 0) ≡ false
at_index shape from [] i e lt = absurd (omega arith)
at_index shape from (byte ∷ cells) zero e lt = rw add-zero (or_parts (is_pad_charged_in shape from byte) (is_pad_charged_from shape (suc from) cells) e).0
at_index shape from (byte ∷ cells) (suc i) e lt =
    let next : suc from + i ≡ from + suc i = omega arith in
    let rest = or_parts (is_pad_charged_in shape from byte) (is_pad_charged_from shape (suc from) cells) e in
    subst (λ (index : ℕ). is_pad_charged_in shape index (get_or cells i 0) ≡ false) next (at_index shape (suc from) cells i rest.1 (omega arith))

-- a pad cell is a cell of its page
pad_within : (shape : Shape) (page cell : ℕ) → is_pad shape page cell ≡ true → cell / 8 < page_bytes shape
pad_within shape page cell e =
    let spare : ℕ = cell - 8 * shape.main_bytes in
    let p = and_parts (nat_le (8 * shape.main_bytes) cell && nat_lt (spare / 128) (shape.spare_bytes / 16)) (is_pad_of_slot (page % shape.pages == 0) (spare / 128) (spare % 128)) e in
    let q = and_parts (nat_le (8 * shape.main_bytes) cell) (nat_lt (spare / 128) (shape.spare_bytes / 16)) p.0 in
    let low = leb-true (8 * shape.main_bytes) cell q.0 in
    let high = ltb-true (spare / 128) (shape.spare_bytes / 16) q.1 in
    omega (arith, low, high)

-- no byte past the end has a charged cell
zero_cell : (k : ℕ) → k < 8 → (bit_at 0 k == 1) ≡ false
zero_cell k lt = none_of_eight (λ j. bit_at 0 j == 1) refl k lt

-- a cell of a byte that is there
charged_in : (shape : Shape) (cells : List ℕ) → is_pad_charged shape cells ≡ false → (page cell : ℕ) → is_pad shape page cell ≡ true →
    page * page_bytes shape + cell / 8 < length cells → (bit_at (get_or cells (page * page_bytes shape + cell / 8) 0) (cell % 8) == 1) ≡ false
unfolding is_pad_charged_in
charged_in shape cells none page cell pad lt =
    let within : cell / 8 < page_bytes shape = pad_within shape page cell pad in
    let index : ℕ = page * page_bytes shape + cell / 8 in
    let each = at_index shape 0 cells index none lt in
    let start : 0 + index ≡ index = omega arith in
    let the_page : index / page_bytes shape ≡ page = div-mul-add page (page_bytes shape) (cell / 8) within in
    let the_place : index % page_bytes shape ≡ cell / 8 = mul-add-mod_self_right page (page_bytes shape) (cell / 8) ∙ mod-eq_of_lt within in
    let the_cell : 8 * (cell / 8) + cell % 8 ≡ cell = omega arith in
    let one = none_of_eight (λ k. is_pad shape ((0 + index) / page_bytes shape) (8 * ((0 + index) % page_bytes shape) + k) && bit_at (get_or cells index 0) k == 1) each (cell % 8) (omega arith) in
    and_left_true (is_pad shape page cell) (bit_at (get_or cells index 0) (cell % 8) == 1) pad (rw (start, the_page, the_place, the_cell) at one)

pub no_pad : (shape : Shape) (cells : List ℕ) → is_pad_charged shape cells ≡ false → (page cell : ℕ) → is_pad shape page cell ≡ true →
    is_charged (slice_chunk cells (page_bytes shape) page) cell ≡ false
no_pad shape cells none page cell pad =
    let within : cell / 8 < page_bytes shape = pad_within shape page cell pad in
    let index : ℕ = page * page_bytes shape + cell / 8 in
    let byte : get_or (slice_chunk cells (page_bytes shape) page) (cell / 8) 0 ≡ get_or cells index 0 = rw (get_or-take, get_or-drop) refl in
    ap (λ (b : ℕ). bit_at b (cell % 8) == 1) byte ∙ elim (cases_lt index (length cells)) [
      | inl lt ↦ charged_in shape cells none page cell pad lt
      | inr past ↦ ap (λ (b : ℕ). bit_at b (cell % 8) == 1) (get_or_past cells index 0 past) ∙ zero_cell (cell % 8) (omega arith)
    ]

-- ---- and the other way round

-- no pad cell of any page is charged, of the cells cut into pages
abbrev pub NoneCharged : Shape → List ℕ → Type 0
NoneCharged shape cells = (page cell : ℕ) → is_pad shape page cell ≡ true → is_charged (slice_chunk cells (page_bytes shape) page) cell ≡ false

neither : (a b : Bool) → a ≡ false → b ≡ false → (a || b) ≡ false
neither true b ha hb = ha
neither false b ha hb = hb

false_if : (a b : Bool) → (a ≡ true → b ≡ false) → (a && b) ≡ false
false_if true b h = h refl
false_if false b h = refl

no_test_met : (f : ℕ → Bool) → ((k : ℕ) → k < 8 → f k ≡ false) → list_any f (range_with_len 0 8) ≡ false
no_test_met f h =
    rw (h 0 (lit< tt), h 1 (lit< tt), h 2 (lit< tt), h 3 (lit< tt), h 4 (lit< tt), h 5 (lit< tt), h 6 (lit< tt), h 7 (lit< tt)) refl

-- each byte passes the test
pub none_from : (shape : Shape) (from : ℕ) (cells : List ℕ) → ((i : ℕ) → i < length cells → is_pad_charged_in shape (from + i) (get_or cells i 0) ≡ false) →
    is_pad_charged_from shape from cells ≡ false
none_from shape from [] each = refl
none_from shape from (byte ∷ cells) each =
    let first : is_pad_charged_in shape from byte ≡ false = rw add-zero at (each 0 (omega arith)) in
    neither (is_pad_charged_in shape from byte) (is_pad_charged_from shape (suc from) cells) first
    (none_from shape (suc from) cells (λ i lt.
    let next : from + suc i ≡ suc from + i = omega arith in
    subst (λ (index : ℕ). is_pad_charged_in shape index (get_or cells i 0) ≡ false) next (each (suc i) (omega arith))))

-- a pad cell of the byte at this index is one of its page
uncharged_at : (shape : Shape) (cells : List ℕ) → NoneCharged shape cells → (index k : ℕ) → k < 8 →
    is_pad shape (index / page_bytes shape) (8 * (index % page_bytes shape) + k) ≡ true → (bit_at (get_or cells index 0) k == 1) ≡ false
uncharged_at shape cells none index k lt pad =
    let page : ℕ = index / page_bytes shape in
    let place : ℕ = index % page_bytes shape in
    let the_byte : (8 * place + k) / 8 ≡ place = omega arith in
    let the_bit : (8 * place + k) % 8 ≡ k = omega arith in
    let within : place < page_bytes shape = rw the_byte at (pad_within shape page (8 * place + k) pad) in
    let the_index : page * page_bytes shape + place ≡ index = div-add-mod' index (page_bytes shape) in
    let here : get_or (slice_chunk cells (page_bytes shape) page) place 0 ≡ get_or cells index 0 = rw (get_or-take, get_or-drop, the_index) refl in
    rw (the_byte, the_bit, here) at (none page (8 * place + k) pad)

none_in : (shape : Shape) (cells : List ℕ) → NoneCharged shape cells → (index : ℕ) → is_pad_charged_in shape index (get_or cells index 0) ≡ false
unfolding is_pad_charged_in
none_in shape cells none index =
    no_test_met (λ k. is_pad shape (index / page_bytes shape) (8 * (index % page_bytes shape) + k) && bit_at (get_or cells index 0) k == 1)
    (λ k lt. false_if (is_pad shape (index / page_bytes shape) (8 * (index % page_bytes shape) + k)) (bit_at (get_or cells index 0) k == 1)
    (λ pad. uncharged_at shape cells none index k lt pad))

pub none_charged : (shape : Shape) (cells : List ℕ) → NoneCharged shape cells → is_pad_charged shape cells ≡ false
none_charged shape cells none = none_from shape 0 cells (λ i lt. rw zero-add (none_in shape cells none i))

-- a charged pad cell somewhere is one that the test of all cells finds
pub charged_somewhere : (shape : Shape) (cells : List ℕ) (index : ℕ) → index < length cells → is_pad_charged_in shape index (get_or cells index 0) ≡ true →
    is_pad_charged shape cells ≡ true
charged_somewhere shape cells index lt charged = by (is_pad_charged shape cells) refl
  where
    by : (b : Bool) → is_pad_charged shape cells ≡ b → b ≡ true
    by true e = refl
    by false e = sym (rw zero-add at (at_index shape 0 cells index e lt)) ∙ charged

-- where each byte passes, none is charged
pub clean_everywhere : (shape : Shape) (cells : List ℕ) → ((i : ℕ) → i < length cells → is_pad_charged_in shape i (get_or cells i 0) ≡ false) →
    is_pad_charged shape cells ≡ false
clean_everywhere shape cells each = none_from shape 0 cells (λ i lt. rw zero-add (each i lt))
