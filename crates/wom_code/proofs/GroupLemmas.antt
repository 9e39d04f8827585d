-- Chunks side by side in one word.
use Rattle.std.proofs.Common.{◌≡◌, ℕ, ◌+◌, ◌-◌, ◌*◌, ◌/◌, ◌%◌, ◌^◌, ◌<◌, ◌≤◌, Bool, true, false, List, [], ◌∷◌, length, get_or, slice_index, bit_or, ◌==◌, sym, ◌∙◌, ap, ap₂, subst, inl, inr, arith}
use Rattle.std.specs.Int.{bit_at}
use Rattle.std.proofs.lemmas.Bool.{cases_lt}
use Rattle.std.proofs.lemmas.List.{ext_get_or, get_or_past}
use Rattle.std.proofs.lemmas.List.FromFn.{length-map-range_with_len, get_or-map-range_with_len}
use Rattle.std.proofs.lemmas.Nat.{row_fits, div-add-mod', mod_below, pow_pos}
use Rattle.std.proofs.lemmas.Nat.Bits.{bit_at_above, bit_at_cat_low, bit_at_cat_high, bit_at-zero, same_from_bits}
use Rattle.cell_bits.proofs.PieceLemmas.{taken_is, taken_narrow}
use Rattle.wom_code.specs.Cells.{cell_at, Carries, NoneCarries}
use Rattle.wom_code.specs.Groups.{chunk_of}
use Rattle.wom_code.specs.Packed.{word_bit, cells_of, IsRow}
use Rattle.wom_code.proofs.PackedLemmas.{same_cells}

pub length-chunk_of : (n word j : ℕ) → length (chunk_of n word j) ≡ n
unfolding chunk_of
length-chunk_of n word j = length-map-range_with_len (λ c. bit_at word (j * n + c) == 1) 0 n

pub get_or-chunk_of : (n word j c : ℕ) → c < n → get_or (chunk_of n word j) c false ≡ (bit_at word (j * n + c) == 1)
unfolding chunk_of
get_or-chunk_of n word j c h = get_or-map-range_with_len (λ k. bit_at word (j * n + k) == 1) 0 n c c false h (omega arith)

pub same_chunk_of : (n a b i j : ℕ) → ((c : ℕ) → c < n → bit_at a (i * n + c) ≡ bit_at b (j * n + c)) → chunk_of n a i ≡ chunk_of n b j
same_chunk_of n a b i j h =
    ext_get_or false (chunk_of n a i) (chunk_of n b j) (length-chunk_of n a i ∙ sym (length-chunk_of n b j)) (λ c l.
    let m : c < n = omega (arith, length-chunk_of n a i) in
    get_or-chunk_of n a i c m ∙ ap (λ x. x == 1) (h c m) ∙ sym (get_or-chunk_of n b j c m))

-- ---- rows of one word

pub first_word : (words : List ℕ) (i : ℕ) → i < 64 → word_bit words i ≡ bit_at (slice_index words 0) i
first_word words i h =
    let q : i / 64 ≡ 0 = omega arith in
    let r : i % 64 ≡ i = omega arith in
    ap₂ (λ (x y : ℕ). bit_at (slice_index words x) y) q r

pub one_row : (n w : ℕ) → 1 ≤ n → n ≤ 64 → w < 2 ^ n → IsRow n (w ∷ [])
one_row n w some few narrow = record {
  count = omega arith;
  padding = λ i h. elim (cases_lt i 64) [
    | inl l ↦ first_word (w ∷ []) i l ∙ bit_at_above w n i narrow h
    | inr m ↦ ap (λ x. bit_at x (i % 64)) (get_or_past (w ∷ []) (i / 64) 0 (omega arith)) ∙ bit_at-zero (i % 64)
  ];
}

pub one_chunk : (n w word j : ℕ) → n ≤ 64 → ((i : ℕ) → i < n → bit_at w i ≡ bit_at word (j * n + i)) → cells_of n (w ∷ []) ≡ chunk_of n word j
one_chunk n w word j few h =
    sym (same_cells n (w ∷ []) (chunk_of n word j) (length-chunk_of n word j) (λ c l.
    get_or-chunk_of n word j c l ∙ ap (λ x. x == 1) (sym (first_word (w ∷ []) c (omega arith) ∙ h c l))))

pub row_narrow : (n : ℕ) (words : List ℕ) → IsRow n words → slice_index words 0 < 2 ^ 64 → n ≤ 64 → slice_index words 0 < 2 ^ n
row_narrow n words row word few =
    subst (λ x. x < 2 ^ n) (same_from_bits (slice_index words 0 % 2 ^ n) (slice_index words 0) same) (mod_below (slice_index words 0) (2 ^ n) (pow_pos n))
  where
    whole : slice_index words 0 / 2 ^ n * 2 ^ n + slice_index words 0 % 2 ^ n ≡ slice_index words 0
    whole = div-add-mod' (slice_index words 0) (2 ^ n)

    none : (i : ℕ) → n ≤ i → bit_at (slice_index words 0) i ≡ 0
    none i h = elim (cases_lt i 64) [
      | inl l ↦ sym (first_word words i l) ∙ row.padding i h
      | inr m ↦ bit_at_above (slice_index words 0) 64 i word m
    ]

    same : (i : ℕ) → bit_at (slice_index words 0 % 2 ^ n) i ≡ bit_at (slice_index words 0) i
    same i = elim (cases_lt i n) [
      | inl l ↦ sym (bit_at_cat_low (slice_index words 0 / 2 ^ n) n (slice_index words 0 % 2 ^ n) i l) ∙ ap (λ x. bit_at x i) whole
      | inr m ↦ bit_at_above (slice_index words 0 % 2 ^ n) n i (mod_below (slice_index words 0) (2 ^ n) (pow_pos n)) m ∙ sym (none i m)
    ]

-- ---- one more chunk above those of a word

abbrev pub joined_with : ℕ → ℕ → ℕ → ℕ
joined_with word done w = bit_or word (w * 2 ^ done % 18446744073709551616)

joined_low : (word w done more : ℕ) → word < 2 ^ done → w < 2 ^ more → done + more ≤ 64 → (i : ℕ) → i < done → bit_at (joined_with word done w) i ≡ bit_at word i
joined_low word w done more h p fits i l = ap (λ x. bit_at x i) (taken_is word w done more h p fits) ∙ bit_at_cat_low w done word i l

joined_high : (word w done more : ℕ) → word < 2 ^ done → w < 2 ^ more → done + more ≤ 64 → (i : ℕ) → bit_at (joined_with word done w) (done + i) ≡ bit_at w i
joined_high word w done more h p fits i =
    let back : done + i - done ≡ i = omega arith in
    ap (λ x. bit_at x (done + i)) (taken_is word w done more h p fits) ∙ bit_at_cat_high w done word (done + i) h (omega arith) ∙ ap (bit_at w) back

next : (n j : ℕ) → j * n + n ≡ (j + 1) * n
next n j = grind arith

pub joined_narrow : (n j word w : ℕ) → word < 2 ^ (j * n) → w < 2 ^ n → j * n + n ≤ 64 → joined_with word (j * n) w < 2 ^ ((j + 1) * n)
joined_narrow n j word w h p fits = subst (λ k. joined_with word (j * n) w < 2 ^ k) (next n j) (taken_narrow word w (j * n) n h p fits)

-- the earlier chunks stay
pub joined_earlier : (n j word w i : ℕ) → word < 2 ^ (j * n) → w < 2 ^ n → j * n + n ≤ 64 → i < j → chunk_of n (joined_with word (j * n) w) i ≡ chunk_of n word i
joined_earlier n j word w i h p fits l =
    same_chunk_of n (joined_with word (j * n) w) word i i (λ c k.
    joined_low word w (j * n) n h p fits (i * n + c) (omega (arith, row_fits i n j n l (omega arith))))

-- and the last is the one that was joined
pub joined_last : (n j word w : ℕ) (words : List ℕ) → word < 2 ^ (j * n) → w < 2 ^ n → j * n + n ≤ 64 → ((i : ℕ) → i < n → bit_at w i ≡ word_bit words i) →
    chunk_of n (joined_with word (j * n) w) j ≡ cells_of n words
joined_last n j word w words h p fits bits =
    same_cells n words (chunk_of n (joined_with word (j * n) w) j) (length-chunk_of n _ j) (λ c l.
    get_or-chunk_of n (joined_with word (j * n) w) j c l ∙ ap (λ x. x == 1) (joined_high word w (j * n) n h p fits c ∙ bits c l))

-- chunk j of a group stands within its word
pub within_word : (n j count : ℕ) → j < count → count * n ≤ 64 → j * n + n ≤ 64
within_word n j count h fits = omega (arith, row_fits j n count n h (omega arith))

pub carries_as : (now before : List Bool → List Bool) (old old' message message' new new' : List Bool) → ((row : List Bool) → now row ≡ before row) →
    old ≡ old' → message ≡ message' → new ≡ new' → Carries now old message new → Carries before old' message' new'
carries_as now before old old' message message' new new' same o m n carries = record {
  above = λ i h. ap (λ r. cell_at r i) (sym n) ∙ carries.above i (ap (λ r. cell_at r i) o ∙ h);
  decodes = ap before (sym n) ∙ sym (same new) ∙ carries.decodes ∙ m;
}

-- the same of a code that gives the same cells
pub given_as : (now before : List Bool → List Bool → List Bool → Bool) (old old' message message' new new' : List Bool) → ((a b c : List Bool) → now a b c ≡ before a b c) →
    old ≡ old' → message ≡ message' → new ≡ new' → now old message new ≡ true → before old' message' new' ≡ true
given_as now before old old' message message' new new' same o m n given =
    ap (λ a. before a message' new') (sym o) ∙ ap (λ b. before old b new') (sym m) ∙ ap (before old message) (sym n) ∙ sym (same old message new) ∙ given

-- the same of a code that decodes alike
pub none_as : (n : ℕ) (now before : List Bool → List Bool) (cells cells' message message' : List Bool) →
    ((row : List Bool) → now row ≡ before row) → cells ≡ cells' → message ≡ message' → NoneCarries now n cells message → NoneCarries before n cells' message'
none_as n now before cells cells' message message' same e f none new len carries =
    none new len (record {
      above = subst (λ old. (i : ℕ) → cell_at old i ≡ true → cell_at new i ≡ true) (sym e) carries.above;
      decodes = same new ∙ carries.decodes ∙ sym f;
    })
