-- What the word of a header in a slot does to the other bytes of a spare area.
use Rattle.std.proofs.Common.{◌≡◌, ◌≢◌, ◌⊎◌, inl, inr, ℕ, ◌+◌, ◌-◌, ◌*◌, ◌/◌, ◌%◌, ◌<◌, ◌≤◌, true, List, length, take, drop, ◌++◌, get_or, ◌==◌, slice_index, refl, sym, ap, ap₂, ◌∙◌, arith}
use Rattle.std.proofs.Common.{length-take, length-drop, get_or-take, get_or-drop}
use Rattle.std.specs.Int.{bit_at}
use Rattle.std.proofs.lemmas.Bool.{cases_lt}
use Rattle.std.proofs.lemmas.List.{ext_get_or, take_at, drop_at, length-append, append_assoc, get_or_append_left, get_or-append_right, drop-drop}
use borrow.Rule.Slice.PartMut.{put_mid}
use Rattle.cell_bits.specs.Cells.{with_charged}
use Rattle.cell_bits.proofs.Charging.{charged_same, charged_other}
use Rattle.zero_count.specs.declared.Header.{Header}
use Rattle.zero_count.specs.HeaderWord.{spelling}
use Rattle.spare_gate.specs.Slots.{word_at, is_gate_charged, is_seal_charged, with_header, with_record, gate_cell_of}
use Rattle.spare_gate.proofs.Gates.{gate_keeps_words}

pub spelling_long : (h : Header) → length (spelling h) ≡ 14
unfolding spelling
spelling_long h = refl

front_long : (spare : List ℕ) (slot : ℕ) → 16 * slot + 16 ≤ length spare → length (take (16 * slot + 1) spare) ≡ 16 * slot + 1
front_long spare slot room = omega (arith, length-take (16 * slot + 1) spare)

both_long : (spare : List ℕ) (slot : ℕ) (h : Header) → 16 * slot + 16 ≤ length spare → length (take (16 * slot + 1) spare ++ spelling h) ≡ 16 * slot + 15
both_long spare slot h room = omega (arith, length-append (take (16 * slot + 1) spare) (spelling h), spelling_long h, front_long spare slot room)

pub header_long : (spare : List ℕ) (slot : ℕ) (h : Header) → 16 * slot + 16 ≤ length spare → length (with_header spare slot h) ≡ length spare
header_long spare slot h room = omega (
  arith,
  length-append (take (16 * slot + 1) spare ++ spelling h) (drop (16 * slot + 15) spare),
  both_long spare slot h room,
  length-drop (16 * slot + 15) spare,
)

-- writing the word over the bytes of its place
pub put_word : (spare word : List ℕ) (slot k : ℕ) (h : Header) → k ≡ 14 → word ≡ spelling h → put_mid (16 * slot + 1) k spare word ≡ with_header spare slot h
put_word spare word slot k h few e =
    ap₂ (λ (bytes rest : List ℕ). take (16 * slot + 1) spare ++ (bytes ++ rest)) e
    (ap (λ (n : ℕ). drop n (drop (16 * slot + 1) spare)) few ∙ (drop-drop 14 (16 * slot + 1) spare ∙ ap (λ (n : ℕ). drop n spare) past))
    ∙ sym (append_assoc (take (16 * slot + 1) spare) (spelling h) (drop (16 * slot + 15) spare))
  where
    past : 16 * slot + 1 + 14 ≡ 16 * slot + 15
    past = omega arith

-- the bytes before and after the word
pub header_byte : (spare : List ℕ) (slot : ℕ) (h : Header) (k : ℕ) → 16 * slot + 16 ≤ length spare → (k < 16 * slot + 1) ⊎ (16 * slot + 15 ≤ k)
    → slice_index (with_header spare slot h) k ≡ slice_index spare k
header_byte spare slot h k room (inl before) =
    get_or_append_left (take (16 * slot + 1) spare ++ spelling h) (drop (16 * slot + 15) spare) 0 k (omega (arith, both_long spare slot h room))
    ∙ (get_or_append_left (take (16 * slot + 1) spare) (spelling h) 0 k (omega (arith, front_long spare slot room))
    ∙ get_or-take (16 * slot + 1) spare k 0 before)
header_byte spare slot h k room (inr after) =
    get_or-append_right (take (16 * slot + 1) spare ++ spelling h) (drop (16 * slot + 15) spare) (16 * slot + 15) k 0 (both_long spare slot h room) after
    ∙ (get_or-drop (16 * slot + 15) spare (k - (16 * slot + 15)) 0 ∙ ap (slice_index spare) place)
  where
    place : 16 * slot + 15 + (k - (16 * slot + 15)) ≡ k
    place = omega arith

-- its own word
pub header_word : (spare : List ℕ) (slot : ℕ) (h : Header) → 16 * slot + 16 ≤ length spare → word_at (with_header spare slot h) slot ≡ spelling h
header_word spare slot h room =
    ap (λ (row : List ℕ). word_at row slot) (append_assoc (take (16 * slot + 1) spare) (spelling h) (drop (16 * slot + 15) spare))
    ∙ (ap (take (16 * slot + 15 - (16 * slot + 1))) (drop_at (take (16 * slot + 1) spare) (spelling h ++ drop (16 * slot + 15) spare) (16 * slot + 1) (front_long spare slot room))
    ∙ take_at (spelling h) (drop (16 * slot + 15) spare) (16 * slot + 15 - (16 * slot + 1)) (let long = spelling_long h in omega arith))

word_ext : (x y : List ℕ) (slot : ℕ) → length x ≡ length y → ((i : ℕ) → i < 14 → slice_index x (16 * slot + 1 + i) ≡ slice_index y (16 * slot + 1 + i)) → word_at x slot ≡ word_at y slot
word_ext x y slot same bytes = ext_get_or 0 _ _ lengths (λ i h. byte i (short i h))
  where
    lengths : length (word_at x slot) ≡ length (word_at y slot)
    lengths = omega (
      arith,
      same,
      length-take (16 * slot + 15 - (16 * slot + 1)) (drop (16 * slot + 1) x),
      length-take (16 * slot + 15 - (16 * slot + 1)) (drop (16 * slot + 1) y),
      length-drop (16 * slot + 1) x,
      length-drop (16 * slot + 1) y,
    )

    short : (i : ℕ) → i < length (word_at x slot) → i < 14
    short i h = omega (arith, length-take (16 * slot + 15 - (16 * slot + 1)) (drop (16 * slot + 1) x))

    byte : (i : ℕ) → i < 14 → get_or (word_at x slot) i 0 ≡ get_or (word_at y slot) i 0
    byte i h =
        get_or-take (16 * slot + 15 - (16 * slot + 1)) (drop (16 * slot + 1) x) i 0 (omega arith) ∙ (get_or-drop (16 * slot + 1) x i 0 ∙ (bytes i h
        ∙ sym (get_or-take (16 * slot + 15 - (16 * slot + 1)) (drop (16 * slot + 1) y) i 0 (omega arith) ∙ get_or-drop (16 * slot + 1) y i 0)))

-- the words of the other slots
pub header_words : (spare : List ℕ) (slot : ℕ) (h : Header) (other : ℕ) → 16 * slot + 16 ≤ length spare → other ≢ slot → word_at (with_header spare slot h) other ≡ word_at spare other
header_words spare slot h other room apart =
    word_ext (with_header spare slot h) spare other (header_long spare slot h room) (λ i few. header_byte spare slot h (16 * other + 1 + i) room (outside i few (cases_lt other slot)))
  where
    outside : (i : ℕ) → i < 14 → (other < slot) ⊎ (slot ≤ other) → (16 * other + 1 + i < 16 * slot + 1) ⊎ (16 * slot + 15 ≤ 16 * other + 1 + i)
    outside i few (inl less) = inl (omega arith)
    outside i few (inr more) = inr (let above : slot < other = omega (arith, apart) in omega arith)

-- the gates and the seal
pub header_gates : (spare : List ℕ) (slot : ℕ) (h : Header) (other : ℕ) → 16 * slot + 16 ≤ length spare → is_gate_charged (with_header spare slot h) other ≡ is_gate_charged spare other
header_gates spare slot h other room = ap (λ (byte : ℕ). bit_at byte (128 * other % 8) == 1) (header_byte spare slot h (128 * other / 8) room (outside (cases_lt other (slot + 1))))
  where
    outside : (other < slot + 1) ⊎ (slot + 1 ≤ other) → (128 * other / 8 < 16 * slot + 1) ⊎ (16 * slot + 15 ≤ 128 * other / 8)
    outside (inl less) = inl (omega arith)
    outside (inr more) = inr (omega arith)

pub header_seal : (spare : List ℕ) (slot : ℕ) (h : Header) → 16 * slot + 16 ≤ length spare → is_seal_charged (with_header spare slot h) ≡ is_seal_charged spare
header_seal spare slot h room = ap (λ (byte : ℕ). bit_at byte (248 % 8) == 1) (header_byte spare slot h 31 room (outside (cases_lt slot 2)))
  where
    outside : (slot < 2) ⊎ (2 ≤ slot) → (31 < 16 * slot + 1) ⊎ (16 * slot + 15 ≤ 31)
    outside (inl less) = inr (omega arith)
    outside (inr more) = inl (omega arith)

-- ---- a record: the word and the gate

pub record_gate : (spare : List ℕ) (slot : ℕ) (h : Header) → 16 * slot + 16 ≤ length spare → is_gate_charged (with_record spare slot h) slot ≡ true
record_gate spare slot h room = charged_same (with_header spare slot h) (128 * slot) (omega (arith, header_long spare slot h room))

pub record_gates : (spare : List ℕ) (slot : ℕ) (h : Header) (other : ℕ) → 16 * slot + 16 ≤ length spare → other ≢ slot → is_gate_charged (with_record spare slot h) other ≡ is_gate_charged spare other
record_gates spare slot h other room apart = charged_other (with_header spare slot h) (128 * slot) (128 * other) (λ e. apart (omega arith)) ∙ header_gates spare slot h other room

pub record_seal : (spare : List ℕ) (slot : ℕ) (h : Header) → 16 * slot + 16 ≤ length spare → is_seal_charged (with_record spare slot h) ≡ is_seal_charged spare
record_seal spare slot h room = charged_other (with_header spare slot h) (128 * slot) 248 (λ e. omega arith) ∙ header_seal spare slot h room

gate_word : (row : List ℕ) (slot other : ℕ) → word_at (with_charged row (128 * slot)) other ≡ word_at row other
gate_word row slot other = ap (λ (c : ℕ). word_at (with_charged row c) other) cell ∙ gate_keeps_words 0 row slot other
  where
    cell : 128 * slot ≡ gate_cell_of 0 slot
    cell = omega arith

pub record_word : (spare : List ℕ) (slot : ℕ) (h : Header) → 16 * slot + 16 ≤ length spare → word_at (with_record spare slot h) slot ≡ spelling h
record_word spare slot h room = gate_word (with_header spare slot h) slot slot ∙ header_word spare slot h room

pub record_words : (spare : List ℕ) (slot : ℕ) (h : Header) (other : ℕ) → 16 * slot + 16 ≤ length spare → other ≢ slot → word_at (with_record spare slot h) other ≡ word_at spare other
record_words spare slot h other room apart = gate_word (with_header spare slot h) slot other ∙ header_words spare slot h other room apart
