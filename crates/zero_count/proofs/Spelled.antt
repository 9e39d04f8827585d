-- The word of a header is valid and spells that header, and a valid word is the word of the header that it spells.
use Rattle.std.proofs.Common.{◌≡◌, ℕ, zero, suc, ◌+◌, ◌-◌, ◌*◌, ◌<◌, ◌≤◌, List, [], ◌∷◌, ◌++◌, take, drop, slice_index, length, nat_lt, Bool, true, false, if◌then◌else◌, Some, None, refl, sym}
use Rattle.std.proofs.Common.{ap, ap₂, ◌∙◌, arith, eq-eqb, subst, get_or, ◌^◌, length-take, length-drop}
use lib.Count.{ones}
use Rattle.std.specs.Int.{w32, w64, to_le_bytes, from_le_bytes, bytes_low_first, byte_at}
use Rattle.std.proofs.lemmas.Bool.{and_from, and_parts, lt-ltb, le-leb, cond-true}
use Rattle.std.proofs.lemmas.List.Sums.{sum_by-cons}
use Rattle.std.proofs.lemmas.Nat.{le_bytes_4, le_bytes_8, from_le_bytes-to_le_bytes_4, from_le_bytes-to_le_bytes_8}
use Rattle.std.proofs.Math.Seq.{take-add}
use Rattle.std.proofs.lemmas.List.{drop_more}
use Rattle.std.proofs.lemmas.Option.{none-some}
use Rattle.zero_count.specs.declared.Header.{Header}
use Rattle.zero_count.specs.HeaderWord.{IsHeader, fields, zero_bits, spelling, is_valid, header_of}
use Rattle.zero_count.proofs.ValidWords.{are_bytes, byte_small, take_bytes, drop_bytes, IsValidWord, valid_parts, last_of}
use Rattle.zero_count.proofs.Reading.{take_4, take_8_4}

abbrev pub header_in : List ℕ → Header
header_in word = record { sector = from_le_bytes w32 (take 4 word); seq = from_le_bytes w64 (take 8 (drop 4 word)); kind = slice_index word 12 }

byte_small_at : (i n : ℕ) → byte_at i n < 256
byte_small_at zero n = omega arith
byte_small_at (suc i) n = omega arith

bytes_small : (i k n : ℕ) → are_bytes (bytes_low_first i k n) ≡ true
bytes_small i zero n = refl
bytes_small i (suc k) n = and_from _ _ (lt-ltb (byte_at i n) 256 (byte_small_at i n)) (bytes_small (suc i) k n)

append_small : (xs ys : List ℕ) → are_bytes xs ≡ true → are_bytes ys ≡ true → are_bytes (xs ++ ys) ≡ true
append_small [] ys h k = k
append_small (x ∷ xs) ys h k = let p = and_parts (nat_lt x 256) (are_bytes xs) h in and_from _ _ p.0 (append_small xs ys p.1 k)

one_small : (x : ℕ) → x < 256 → are_bytes (x ∷ []) ≡ true
one_small x h = and_from _ _ (lt-ltb x 256 h) refl

few_zeros : (xs : List ℕ) → zero_bits xs ≤ 8 * length xs
few_zeros [] = omega arith
few_zeros (x ∷ xs) = let s : zero_bits (x ∷ xs) ≡ (8 - ones x) + zero_bits xs = sum_by-cons _ x xs in omega (arith, s, few_zeros xs)

pub spelled_valid : (h : Header) → IsHeader h → is_valid (spelling h) ≡ true
unfolding is_valid spelling
spelled_valid h f =
    let kind_small : h.kind < 256 = omega arith in
    let last_small : zero_bits (fields h) < 256 = omega (arith, few_zeros (fields h)) in
    and_from _ _ (and_from _ _ (and_from _ _ (and_from _ _ refl
    (append_small (fields h) (zero_bits (fields h) ∷ [])
    (append_small (to_le_bytes w32 h.sector ++ to_le_bytes w64 h.seq) (h.kind ∷ [])
    (append_small (to_le_bytes w32 h.sector) (to_le_bytes w64 h.seq) (bytes_small 0 4 h.sector) (bytes_small 0 8 h.seq)) (one_small h.kind kind_small))
    (one_small (zero_bits (fields h)) last_small)))
    (eq-eqb _ _ refl)) (le-leb 1 h.kind f.least_kind)) (le-leb h.kind 4 f.greatest_kind)

pub read_spelled : (h : Header) → IsHeader h → header_of (spelling h) ≡ Some h
unfolding header_of spelling
read_spelled h f =
    cond-true (is_valid (spelling h)) _ None (spelled_valid h f)
    ∙ (λ i. Some (record { sector = from_le_bytes-to_le_bytes_4 h.sector f.sector i; seq = from_le_bytes-to_le_bytes_8 h.seq f.seq i; kind = h.kind }))

-- ---- the other way

part_small : (n m : ℕ) (word : List ℕ) → are_bytes word ≡ true → (k : ℕ) → get_or (take n (drop m word)) k 0 < 256
part_small n m word b k = byte_small k (take n (drop m word)) (take_bytes n (drop m word) (drop_bytes m word b))

header_small : (word : List ℕ) → IsValidWord word → IsHeader (header_in word)
header_small word v =
    let long : length word ≡ 14 = v.long in
    let small : (k : ℕ) → slice_index word k < 2 ^ 8 = λ k. byte_small k word v.bytes in
    record {
      sector = subst (λ (xs : List ℕ). from_le_bytes w32 xs < 2 ^ 32) (sym (take_4 word (omega arith))) (omega (arith, small 0, small 1, small 2, small 3));
      seq = subst (λ (xs : List ℕ). from_le_bytes w64 xs < 2 ^ 64) (sym (take_8_4 word (omega arith))) (omega (arith, small 4, small 5, small 6, small 7, small 8, small 9, small 10, small 11));
      least_kind = v.least_kind;
      greatest_kind = v.greatest_kind;
    }

front : (word : List ℕ) → IsValidWord word → fields (header_in word) ≡ take 13 word
front word v =
    let long : length word ≡ 14 = v.long in
    ap₂ (λ (s q : List ℕ). s ++ q ++ slice_index word 12 ∷ [])
    (le_bytes_4 (take 4 word) _ (omega (arith, length-take 4 word)) (part_small 4 0 word v.bytes) refl)
    (le_bytes_8 (take 8 (drop 4 word)) _ (omega (arith, length-take 8 (drop 4 word), length-drop 4 word)) (part_small 8 4 word v.bytes) refl)
    ∙ (ap (λ (xs : List ℕ). xs ++ slice_index word 12 ∷ []) (sym (take-add 4 8 word))
    ∙ (ap (λ (xs : List ℕ). take 12 word ++ xs) (sym (ap (take 1) (drop_more word 12 0 (omega arith)))) ∙ sym (take-add 12 1 word)))

-- a word that is read as a header is that header's word, and the header has a kind of 1 to 4
pub spelled_from_read : (word : List ℕ) (h : Header) → header_of word ≡ Some h → (IsHeader h) × (word ≡ spelling h)
unfolding header_of spelling
spelled_from_read word h e = at (is_valid word) refl e
  where
    at : (t : Bool) → is_valid word ≡ t → (if t then Some (header_in word) else None) ≡ Some h → (IsHeader h) × (word ≡ fields h ++ zero_bits (fields h) ∷ [])
    at false l m = absurd (none-some h m)
    at true l m =
        let v = valid_parts word l in
        let found : Some (header_in word) ≡ Some h = m in
        let same : header_in word ≡ h = cc in
        let last : zero_bits (fields (header_in word)) ≡ slice_index word 13 = ap zero_bits (front word v) ∙ v.zeros in
        let whole : word ≡ fields (header_in word) ++ zero_bits (fields (header_in word)) ∷ [] =
        last_of word v.long ∙ ap₂ (λ (xs : List ℕ) (byte : ℕ). xs ++ byte ∷ []) (sym (front word v)) (sym last) in
        subst (λ (k : Header). (IsHeader k) × (word ≡ fields k ++ zero_bits (fields k) ∷ [])) same (header_small word v, whole)
