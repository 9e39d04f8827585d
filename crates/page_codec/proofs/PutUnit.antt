-- What a later write of a unit leaves of its pages: other main bytes above the old ones, and a header in a blank slot.
use Rattle.std.proofs.Common.{◌≡◌, ◌⊎◌, inl, inr, ℕ, ◌+◌, ◌-◌, ◌*◌, ◌/◌, ◌%◌, ◌<◌, ◌≤◌, true, false, List, ◌++◌, drop, take, length, ◌==◌, slice_index, refl, sym, ap, ap₂, ◌∙◌, arith, subst}
use Rattle.std.proofs.Common.{length-drop}
use Rattle.std.specs.Int.{bit_at}
use Rattle.std.proofs.lemmas.Bool.{cases_lt, and_parts, eqb-true, cond-true, cond-false, eq-eqb, ne_eqb}
use Rattle.std.proofs.lemmas.List.{take_at, drop_at, length-append, append-nil, get_or_append_left, get_or-append_right, take-append-drop}
use Rattle.std.proofs.lemmas.Nat.Bits.{bit_at-zero}
use Rattle.cell_bits.specs.Cells.{charge_at, is_blank, IsAbove}
use Rattle.cell_bits.proofs.Above.{above_refl}
use Rattle.cell_bits.proofs.Slices.{charge_main}
use Rattle.zero_count.specs.declared.Header.{Header}
use Rattle.cell_die.specs.declared.shape.Shape.{Shape}
use Rattle.cell_die.specs.Cells.{charge}
use Rattle.cell_die.specs.DieState.{DieState, page_of, page_bytes}
use Rattle.cell_die.specs.Changes.{OnlyPage, IsBetween}
use Rattle.spare_gate.specs.Slots.{word_at, is_slot_blank, is_gate_charged, with_header, gate_cell_of}
use Rattle.spare_gate.proofs.Headers.{header_long}
use Rattle.spare_gate.proofs.Blank.{header_above}
use Rattle.page_codec.specs.declared.place.Place.{Place}
use Rattle.page_codec.specs.Puts.{Puts, spare_of, is_gated}
use Rattle.page_codec.specs.Units.{main_of, with_write, HasMain}
use Rattle.page_codec.proofs.PutOne.{Midway, IsTarget, Reaches, midway_none, put_ends, ends_gated, done_with, done_here, done_else}
use Rattle.page_codec.proofs.PutTwo.{midway_two, put_torn, done_two}

-- a cell of the front part
front_cell : (x y : List ℕ) (cell : ℕ) → cell / 8 < length x → charge_at (x ++ y) cell ≡ charge_at x cell
front_cell x y cell h = ap (λ (byte : ℕ). bit_at byte (cell % 8)) (get_or_append_left x y 0 (cell / 8) h)

-- a cell of the part behind it
rest_cell : (x y : List ℕ) (cell : ℕ) → length x ≤ cell / 8 → charge_at (x ++ y) cell ≡ charge_at y (cell - 8 * length x)
rest_cell x y cell h =
    ap (λ (byte : ℕ). bit_at byte (cell % 8)) (get_or-append_right x y (length x) (cell / 8) 0 refl h)
    ∙ ap₂ (λ (q r : ℕ). bit_at (slice_index y q) r) quotient remainder
  where
    quotient : cell / 8 - length x ≡ (cell - 8 * length x) / 8
    quotient = omega arith

    remainder : cell % 8 ≡ (cell - 8 * length x) % 8
    remainder = omega arith

-- two rows above two others, one behind the other
pub above_append : (a b c d : List ℕ) → IsAbove a b → IsAbove c d → IsAbove (a ++ c) (b ++ d)
above_append a b c d f g = record {
  same_length = length-append a c ∙ (ap₂ (λ (m n : ℕ). m + n) f.same_length g.same_length ∙ sym (length-append b d));
  charged = λ cell. at cell (cases_lt (cell / 8) (length a));
}
  where
    at : (cell : ℕ) → (cell / 8 < length a) ⊎ (length a ≤ cell / 8) → charge_at (b ++ d) cell ≤ charge_at (a ++ c) cell
    at cell (inl front) =
        let new : charge_at (a ++ c) cell ≡ charge_at a cell = front_cell a c cell front in
        let old : charge_at (b ++ d) cell ≡ charge_at b cell = front_cell b d cell (omega (arith, f.same_length)) in
        omega (arith, f.charged cell)
    at cell (inr behind) =
        let new : charge_at (a ++ c) cell ≡ charge_at c (cell - 8 * length a) = rest_cell a c cell behind in
        let old : charge_at (b ++ d) cell ≡ charge_at d (cell - 8 * length a) =
        rest_cell b d cell (omega (arith, f.same_length)) ∙ ap (λ (n : ℕ). charge_at d (cell - 8 * n)) (sym f.same_length) in
        omega (arith, g.charged (cell - 8 * length a))

-- the gate of a blank slot is not charged
pub blank_ungated : (spare : List ℕ) (slot : ℕ) → is_slot_blank spare slot ≡ true → is_gate_charged spare slot ≡ false
blank_ungated spare slot blank =
    ap₂ (λ (q r : ℕ). bit_at (slice_index spare q) r == 1) quotient remainder
    ∙ (ap (λ (byte : ℕ). bit_at byte 0 == 1) zero_byte ∙ ap (λ (c : ℕ). c == 1) (bit_at-zero 0))
  where
    quotient : 128 * slot / 8 ≡ 16 * slot
    quotient = omega arith

    remainder : 128 * slot % 8 ≡ 0
    remainder = omega arith

    zero_byte : slice_index spare (16 * slot) ≡ 0
    zero_byte = eqb-true (slice_index spare (16 * slot)) 0 (and_parts (slice_index spare (16 * slot) == 0) (is_blank (word_at spare slot)) blank).0

-- The main bytes of a later write, over a page whose slot is blank.
pub record IsLaterWrite (place : Place) (header : Header) (old : DieState) (main : List ℕ) : Type 0 where
  pub long : length (page_of old place.page) ≡ page_bytes old.shape
  pub main_long : length main ≡ old.shape.main_bytes
  pub above : IsAbove main (main_of old place.page)
  pub within : 16 * place.slot + 16 ≤ old.shape.spare_bytes
  pub blank : is_slot_blank (spare_of old place.page) place.slot ≡ true

spare_long : (place : Place) (header : Header) (old : DieState) (main : List ℕ) → IsLaterWrite place header old main → length (spare_of old place.page) ≡ old.shape.spare_bytes
spare_long place header old main w = omega (arith, length-drop old.shape.main_bytes (page_of old place.page), w.long)

pub write_above : (place : Place) (header : Header) (old : DieState) (main : List ℕ) → IsLaterWrite place header old main → IsAbove (with_write old place header main) (page_of old place.page)
write_above place header old main w = subst (IsAbove (with_write old place header main)) (take-append-drop old.shape.main_bytes (page_of old place.page))
    (above_append main (main_of old place.page) (with_header (spare_of old place.page) place.slot header) (spare_of old place.page) w.above
    (header_above (spare_of old place.page) place.slot header (omega (arith, w.within, spare_long place header old main w)) w.blank))

pub write_target : (place : Place) (header : Header) (old : DieState) (main : List ℕ) → IsLaterWrite place header old main → IsTarget place header old (with_write old place header main)
write_target place header old main w = record {
  above = write_above place header old main w;
  spare = drop_at main (with_header (spare_of old place.page) place.slot header) old.shape.main_bytes w.main_long;
  ungated = blank_ungated (spare_of old place.page) place.slot w.blank;
  room = room;
  page_room = omega (
    arith,
    length-append main (with_header (spare_of old place.page) place.slot header),
    header_long (spare_of old place.page) place.slot header room,
    w.main_long,
    room,
  );
}
  where
    room : 16 * place.slot + 16 ≤ length (spare_of old place.page)
    room = omega (arith, w.within, spare_long place header old main w)

-- the main bytes of a page that was written
pub write_main : (place : Place) (header : Header) (old : DieState) (main : List ℕ) → length main ≡ old.shape.main_bytes → take old.shape.main_bytes (with_write old place header main) ≡ main
write_main place header old main long = take_at main (with_header (spare_of old place.page) place.slot header) old.shape.main_bytes long

-- ---- a unit of one page

-- a page that keeps its spare bytes
abbrev pub with_main : DieState → ℕ → List ℕ → List ℕ
with_main die page main = main ++ spare_of die page

abbrev gate_of : Place → DieState → ℕ
gate_of place die = gate_cell_of die.shape.main_bytes place.slot

-- the main bytes of the page with the gate
written_main : (place : Place) (header : Header) (old mid : DieState) (main : List ℕ) → length main ≡ old.shape.main_bytes →
    take old.shape.main_bytes (done_with place.page (charge (with_write old place header main) (gate_of place old)) mid place.page) ≡ main
written_main place header old mid main long =
    ap (take old.shape.main_bytes) (done_here place.page (charge (with_write old place header main) (gate_of place old)) mid)
    ∙ (charge_main old.shape.main_bytes (with_write old place header main) (128 * place.slot) ∙ write_main place header old main long)

pub single_puts : (place : Place) (header : Header) (old new : DieState) (main : List ℕ) → IsLaterWrite place header old main → new.shape ≡ old.shape → OnlyPage place.page old new
    → Reaches (page_of old place.page) (page_of new place.page) (with_write old place header main) (gate_cell_of old.shape.main_bytes place.slot)
    → Puts (HasMain old.shape.main_bytes 1 place.page main) 1 place header old new
single_puts place header old new main w shape only reaches =
    put_ends (HasMain old.shape.main_bytes 1 place.page main) 1 place header old old new (with_write old place header main) (omega arith) (midway_none place old)
    (write_target place header old main w) shape only reaches
    (append-nil _ ∙ written_main place header old old main w.main_long)

pub single_gated : (place : Place) (header : Header) (old new : DieState) (main : List ℕ) → IsLaterWrite place header old main → new.shape ≡ old.shape
    → page_of new place.page ≡ charge (with_write old place header main) (gate_cell_of old.shape.main_bytes place.slot) → is_gated new place ≡ true
single_gated place header old new main w shape e =
    ends_gated 1 place header old old new (with_write old place header main) (midway_none place old) (write_target place header old main w) shape e

-- ---- a unit of two pages

-- the second page
pub record IsFurther (place : Place) (old : DieState) (more : List ℕ) : Type 0 where
  pub long : length more ≡ old.shape.main_bytes
  pub above : IsAbove more (main_of old (place.page + 1))

pub further_above : (place : Place) (old : DieState) (more : List ℕ) → IsFurther place old more → IsAbove (with_main old (place.page + 1) more) (page_of old (place.page + 1))
further_above place old more f = subst (IsAbove (with_main old (place.page + 1) more)) (take-append-drop old.shape.main_bytes (page_of old (place.page + 1)))
    (above_append more (main_of old (place.page + 1)) (spare_of old (place.page + 1)) (spare_of old (place.page + 1)) f.above (above_refl (spare_of old (place.page + 1))))

further_spare : (place : Place) (old : DieState) (more : List ℕ) → IsFurther place old more → drop old.shape.main_bytes (with_main old (place.page + 1) more) ≡ spare_of old (place.page + 1)
further_spare place old more f = drop_at more (spare_of old (place.page + 1)) old.shape.main_bytes f.long

further_main : (place : Place) (old : DieState) (more : List ℕ) → IsFurther place old more → take old.shape.main_bytes (with_main old (place.page + 1) more) ≡ more
further_main place old more f = take_at more (spare_of old (place.page + 1)) old.shape.main_bytes f.long

-- the second page was programmed
pub record IsMid (place : Place) (old mid : DieState) (more : List ℕ) : Type 0 where
  pub shape : mid.shape ≡ old.shape
  pub only : OnlyPage (place.page + 1) old mid
  pub there : page_of mid (place.page + 1) ≡ with_main old (place.page + 1) more

midway : (place : Place) (old mid : DieState) (more : List ℕ) → IsFurther place old more → IsMid place old mid more → Midway 2 place old mid
midway place old mid more f m = midway_two place old mid (with_main old (place.page + 1) more) m.shape m.only m.there (further_above place old more f) (further_spare place old more f)

-- the write of the first page is the same after the program of the second
same_write : (place : Place) (header : Header) (old mid : DieState) (main more : List ℕ) → IsMid place old mid more → with_write mid place header main ≡ with_write old place header main
same_write place header old mid main more m =
    ap₂ (λ (s : Shape) (row : List ℕ). main ++ with_header (drop s.main_bytes row) place.slot header) m.shape (m.only.others place.page (λ e. omega arith))

same_gate : (place : Place) (old mid : DieState) (more : List ℕ) → IsMid place old mid more → gate_of place mid ≡ gate_of place old
same_gate place old mid more m = ap (λ (s : Shape). gate_cell_of s.main_bytes place.slot) m.shape

pub pair_puts : (place : Place) (header : Header) (old mid new : DieState) (main more unit : List ℕ) → IsLaterWrite place header old main → IsFurther place old more → unit ≡ main ++ more
    → IsMid place old mid more
    → new.shape ≡ mid.shape → OnlyPage place.page mid new
    → Reaches (page_of mid place.page) (page_of new place.page) (with_write mid place header main) (gate_cell_of mid.shape.main_bytes place.slot)
    → Puts (HasMain old.shape.main_bytes 2 place.page unit) 2 place header old new
pair_puts place header old mid new main more unit w f parts m shape only reaches =
    put_ends (HasMain old.shape.main_bytes 2 place.page unit) 2 place header old mid new (with_write old place header main) (omega arith) (midway place old mid more f m)
    (write_target place header old main w) shape only
    (subst (λ (t : List ℕ). Reaches (page_of mid place.page) (page_of new place.page) t (gate_of place old)) (same_write place header old mid main more m)
    (subst (Reaches (page_of mid place.page) (page_of new place.page) (with_write mid place header main)) (same_gate place old mid more m) reaches))
    (ap₂ (λ (x y : List ℕ). x ++ y) (written_main place header old mid main w.main_long) (append-nil _ ∙ second)
    ∙ sym parts)
  where
    second : take old.shape.main_bytes (done_with place.page (charge (with_write old place header main) (gate_of place old)) mid (place.page + 1)) ≡ more
    second =
        ap (take old.shape.main_bytes) (done_else place.page (charge (with_write old place header main) (gate_of place old)) mid (place.page + 1) (λ e. omega arith) ∙ m.there)
        ∙ further_main place old more f

pub pair_gated : (place : Place) (header : Header) (old mid new : DieState) (main more : List ℕ) → IsLaterWrite place header old main → IsFurther place old more → IsMid place old mid more
    → new.shape ≡ mid.shape → page_of new place.page ≡ charge (with_write mid place header main) (gate_cell_of mid.shape.main_bytes place.slot) → is_gated new place ≡ true
pair_gated place header old mid new main more w f m shape e =
    ends_gated 2 place header old mid new (with_write old place header main) (midway place old mid more f m) (write_target place header old main w) shape
    (e ∙ ap₂ charge (same_write place header old mid main more m) (same_gate place old mid more m))

-- the program of the second page failed
pub pair_torn : (place : Place) (header : Header) (old new : DieState) (main more unit : List ℕ) → IsLaterWrite place header old main → IsFurther place old more → unit ≡ main ++ more
    → new.shape ≡ old.shape → OnlyPage (place.page + 1) old new → IsBetween (page_of old (place.page + 1)) (page_of new (place.page + 1)) (with_main old (place.page + 1) more)
    → Puts (HasMain old.shape.main_bytes 2 place.page unit) 2 place header old new
pair_torn place header old new main more unit w f parts shape only between =
    put_torn (HasMain old.shape.main_bytes 2 place.page unit) place header old new (with_main old (place.page + 1) more) (with_write old place header main) shape only between
    (further_spare place old more f) (write_target place header old main w)
    (ap₂ (λ (x y : List ℕ). x ++ y) first (append-nil _ ∙ second) ∙ sym parts)
  where
    done : ℕ → List ℕ
    done = done_two place.page (charge (with_write old place header main) (gate_of place old)) (with_main old (place.page + 1) more) old

    first : take old.shape.main_bytes (done place.page) ≡ main
    first =
        ap (take old.shape.main_bytes) (cond-true (place.page == place.page) _ _ (eq-eqb place.page place.page refl))
        ∙ (charge_main old.shape.main_bytes (with_write old place header main) (128 * place.slot) ∙ write_main place header old main w.main_long)

    second : take old.shape.main_bytes (done (place.page + 1)) ≡ more
    second =
        ap (take old.shape.main_bytes) (cond-false (place.page + 1 == place.page) _ _ (ne_eqb (place.page + 1) place.page (λ e. omega arith))
        ∙ cond-true (place.page + 1 == place.page + 1) _ _ (eq-eqb (place.page + 1) (place.page + 1) refl))
        ∙ further_main place old more f
