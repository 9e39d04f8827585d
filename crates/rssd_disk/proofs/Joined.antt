-- Bytes of rows that lie one after another: what is read of one row, and what is put into one, is read of and put into them all.
use Rattle.std.proofs.Common.{◌≡◌, ◌≢◌, ℕ, ◌+◌, ◌-◌, ◌*◌, ◌/◌, ◌%◌, ◌<◌, ◌≤◌, List, [], ◌++◌, length, take, drop, set, get_or, sym, ◌∙◌, ap, refl, inl, inr, arith, subst}
use borrow.Rule.Slice.PartMut.{put_mid}
use Rattle.std.proofs.lemmas.Bool.{cases_lt, cases_order}
use Rattle.std.proofs.lemmas.List.{ext_get_or, length-take, length-drop, length-append, get_or-take, get_or-drop, get_or_append_left, get_or-append_right, get_or-set_same, get_or-set_other}
use Rattle.std.proofs.lemmas.List.{take-append-drop, append_assoc, drop-drop}
use Rattle.std.proofs.lemmas.List.FromFn.{length-map-range_with_len, get_or-map-range_with_len}
use Rattle.std.proofs.lemmas.Nat.{div-add-mod', div-mul-add, mod_below, row_fits}
use Rattle.rssd_disk.specs.Bytes.{byte_at, joined, put, part_of}

pub length-joined : (size count : ℕ) (rows : List (List ℕ)) → length (joined size count rows) ≡ count * size
unfolding joined
length-joined size count rows = length-map-range_with_len (byte_at size rows) 0 (count * size)

pub get_or-joined : (size count : ℕ) (rows : List (List ℕ)) (place : ℕ) → place < count * size → get_or (joined size count rows) place 0 ≡ byte_at size rows place
unfolding joined
get_or-joined size count rows place inside = get_or-map-range_with_len (byte_at size rows) 0 (count * size) place place 0 inside (omega arith)

-- ---- put

pub length-put : (place : ℕ) (bytes all : List ℕ) → place + length bytes ≤ length all → length (put place bytes all) ≡ length all
unfolding put
length-put place bytes all fits =
    simp (length-append, length-take, length-drop) (omega arith)

front_length : (place : ℕ) (bytes all : List ℕ) → place + length bytes ≤ length all → length (take place all) ≡ place
front_length place bytes all fits = length-take place all ∙ omega arith

pub put-before : (place : ℕ) (bytes all : List ℕ) (k : ℕ) → place + length bytes ≤ length all → k < place → get_or (put place bytes all) k 0 ≡ get_or all k 0
unfolding put
put-before place bytes all k fits before =
    let long : length (take place all) ≡ place = front_length place bytes all fits in
    ap (λ l. get_or l k 0) (append_assoc (take place all) bytes (drop (place + length bytes) all))
    ∙ get_or_append_left (take place all) _ 0 k (omega arith)
    ∙ get_or-take place all k 0 before

pub put-inside : (place : ℕ) (bytes all : List ℕ) (k : ℕ) → place + length bytes ≤ length all → place ≤ k → k < place + length bytes → get_or (put place bytes all) k 0 ≡ get_or bytes (k - place) 0
unfolding put
put-inside place bytes all k fits from to =
    let long : length (take place all) ≡ place = front_length place bytes all fits in
    ap (λ l. get_or l k 0) (append_assoc (take place all) bytes (drop (place + length bytes) all))
    ∙ get_or-append_right (take place all) _ place k 0 long from
    ∙ get_or_append_left bytes _ 0 (k - place) (omega arith)

pub put-after : (place : ℕ) (bytes all : List ℕ) (k : ℕ) → place + length bytes ≤ length all → place + length bytes ≤ k → get_or (put place bytes all) k 0 ≡ get_or all k 0
unfolding put
put-after place bytes all k fits past =
    let long : length (take place all) ≡ place = front_length place bytes all fits in
    let back : (place + length bytes) + (k - place - length bytes) ≡ k = omega arith in
    ap (λ l. get_or l k 0) (append_assoc (take place all) bytes (drop (place + length bytes) all))
    ∙ get_or-append_right (take place all) _ place k 0 long (omega arith)
    ∙ get_or-append_right bytes _ (length bytes) (k - place) 0 refl (omega arith)
    ∙ get_or-drop (place + length bytes) all (k - place - length bytes) 0
    ∙ ap (λ i. get_or all i 0) back

pub put_nothing : (place : ℕ) (all : List ℕ) → put place [] all ≡ all
unfolding put
put_nothing place all =
    ap (λ n. (take place all ++ []) ++ drop n all) (omega arith) ∙ append_assoc (take place all) [] (drop place all) ∙ take-append-drop place all

-- bytes that are put behind others are put together with them
pub put-put : (place : ℕ) (first second all : List ℕ) → place + length first + length second ≤ length all → put (place + length first) second (put place first all) ≡ put place (first ++ second) all
put-put place first second all fits =
    let both : length (first ++ second) ≡ length first + length second = length-append first second in
    let mid : length (put place first all) ≡ length all = length-put place first all (omega arith) in
    let left : length (put (place + length first) second (put place first all)) ≡ length all = length-put (place + length first) second (put place first all) (omega arith) ∙ mid in
    let right : length (put place (first ++ second) all) ≡ length all = length-put place (first ++ second) all (omega arith) in
    ext_get_or 0 _ _ (left ∙ sym right) (at fits both mid left right)
  where
    at : (place + length first + length second ≤ length all) → length (first ++ second) ≡ length first + length second → length (put place first all) ≡ length all
        → length (put (place + length first) second (put place first all)) ≡ length all → length (put place (first ++ second) all) ≡ length all
        → (k : ℕ) → k < length (put (place + length first) second (put place first all))
        → get_or (put (place + length first) second (put place first all)) k 0 ≡ get_or (put place (first ++ second) all) k 0
    at fits both mid left right k inside = elim (cases_lt k place) [
      | inl before ↦
          put-before (place + length first) second (put place first all) k (omega arith) (omega arith)
          ∙ put-before place first all k (omega arith) before
          ∙ sym (put-before place (first ++ second) all k (omega arith) before)
      | inr from ↦ (elim (cases_lt k (place + length first)) [
        | inl in_first ↦
            put-before (place + length first) second (put place first all) k (omega arith) in_first
            ∙ put-inside place first all k (omega arith) from in_first
            ∙ sym (get_or_append_left first second 0 (k - place) (omega arith))
            ∙ sym (put-inside place (first ++ second) all k (omega arith) from (omega arith))
        | inr past_first ↦ (elim (cases_lt k (place + length first + length second)) [
          | inl in_second ↦
              put-inside (place + length first) second (put place first all) k (omega arith) past_first in_second
              ∙ ap (λ i. get_or second i 0) (omega arith)
              ∙ sym (get_or-append_right first second (length first) (k - place) 0 refl (omega arith))
              ∙ sym (put-inside place (first ++ second) all k (omega arith) from (omega arith))
          | inr past ↦
              put-after (place + length first) second (put place first all) k (omega arith) past
              ∙ put-after place first all k (omega arith) (omega arith)
              ∙ sym (put-after place (first ++ second) all k (omega arith) (omega arith))
        ])
      ])
    ]

mod_mul_add : (a size b : ℕ) → 0 < size → b < size → (a * size + b) % size ≡ b
mod_mul_add a size b some low =
    let quotient : (a * size + b) / size ≡ a = div-mul-add a size b low in
    let split : (a * size + b) / size * size + (a * size + b) % size ≡ a * size + b = div-add-mod' (a * size + b) size in
    let same : a * size + (a * size + b) % size ≡ a * size + b = subst (λ (q : ℕ). q * size + (a * size + b) % size ≡ a * size + b) quotient split in
    omega arith

-- ---- one row

-- a row holds bytes from a place in it on, and the others of an old row
pub record PutsIn (size start : ℕ) (bytes old new : List ℕ) : Type 0 where
  pub before : (k : ℕ) → k < start → get_or new k 0 ≡ get_or old k 0
  pub inside : (k : ℕ) → start ≤ k → k < start + length bytes → get_or new k 0 ≡ get_or bytes (k - start) 0
  pub after : (k : ℕ) → start + length bytes ≤ k → k < size → get_or new k 0 ≡ get_or old k 0

pub puts_row : (size start : ℕ) (bytes old : List ℕ) → length old ≡ size → start + length bytes ≤ size → PutsIn size start bytes old (put start bytes old)
puts_row size start bytes old long fits = record {
  before = λ k h. put-before start bytes old k (omega arith) h;
  inside = λ k h l. put-inside start bytes old k (omega arith) h l;
  after = λ k h l. put-after start bytes old k (omega arith) h;
}

-- bytes that fill a row are the row
pub puts_whole : (size : ℕ) (bytes old : List ℕ) → length bytes ≡ size → PutsIn size 0 bytes old bytes
puts_whole size bytes old long = record {
  before = λ k h. absurd (omega arith);
  inside = λ k h l. ap (λ i. get_or bytes i 0) (omega arith);
  after = λ k h l. absurd (omega arith);
}

-- the place of a row
row_end : (size row count : ℕ) → row < count → row * size + size ≤ count * size
row_end size row count h = row_fits row size count size h (omega arith)

pub joined_set : (size count sector start : ℕ) (bytes row : List ℕ) (rows : List (List ℕ)) → 0 < size → sector < count → sector < length rows → start + length bytes ≤ size
    → PutsIn size start bytes (get_or rows sector []) row → joined size count (set rows sector row) ≡ put (sector * size + start) bytes (joined size count rows)
joined_set size count sector start bytes row rows some inside here fits puts =
    let all : ℕ = count * size in
    let old_length : length (joined size count rows) ≡ count * size = length-joined size count rows in
    let room : sector * size + size ≤ count * size = row_end size sector count inside in
    let new_length : length (joined size count (set rows sector row)) ≡ count * size = length-joined size count (set rows sector row) in
    let put_length : length (put (sector * size + start) bytes (joined size count rows)) ≡ count * size = length-put (sector * size + start) bytes (joined size count rows) (omega arith)
    ∙ old_length in
    ext_get_or 0 _ _ (new_length ∙ sym put_length) (λ p h. at old_length room p (omega arith))
  where
    other : (p : ℕ) → p / size ≢ sector → byte_at size (set rows sector row) p ≡ byte_at size rows p
    other p apart = ap (λ l. get_or l (p % size) 0) (get_or-set_other rows sector (p / size) row [] apart)

    same : (p : ℕ) → p / size ≡ sector → byte_at size (set rows sector row) p ≡ get_or row (p % size) 0
    same p e = ap (λ q. get_or (get_or (set rows sector row) q []) (p % size) 0) e ∙ ap (λ l. get_or l (p % size) 0) (get_or-set_same rows sector row [] here)

    old : (p : ℕ) → p / size ≡ sector → get_or (get_or rows sector []) (p % size) 0 ≡ byte_at size rows p
    old p e = ap (λ q. get_or (get_or rows q []) (p % size) 0) (sym e)

    at : length (joined size count rows) ≡ count * size → sector * size + size ≤ count * size → (p : ℕ) → p < count * size
        → get_or (joined size count (set rows sector row)) p 0 ≡ get_or (put (sector * size + start) bytes (joined size count rows)) p 0
    at old_length room p in_all =
        let split : p / size * size + p % size ≡ p = div-add-mod' p size in
        let low : p % size < size = mod_below p size some in
        let was : get_or (joined size count rows) p 0 ≡ byte_at size rows p = get_or-joined size count rows p in_all in
        get_or-joined size count (set rows sector row) p in_all ∙ (elim (cases_order (p / size) sector) [
          | inl e ↦
              (let at_sector : sector * size + p % size ≡ p = subst (λ (q : ℕ). q * size + p % size ≡ p) e split in
              same p e ∙ (elim (cases_lt (p % size) start) [
                | inl before ↦ puts.before (p % size) before ∙ old p e ∙ sym was ∙ sym (put-before (sector * size + start) bytes (joined size count rows) p (omega arith) (omega arith))
                | inr from ↦ (elim (cases_lt (p % size) (start + length bytes)) [
                  | inl to ↦ puts.inside (p % size) from to ∙ ap (λ i. get_or bytes i 0) (omega arith)
                      ∙ sym (put-inside (sector * size + start) bytes (joined size count rows) p (omega arith) (omega arith) (omega arith))
                  | inr past ↦ puts.after (p % size) past low ∙ old p e ∙ sym was ∙ sym (put-after (sector * size + start) bytes (joined size count rows) p (omega arith) (omega arith))
                ])
              ]))
          | inr apart ↦ (elim apart [
            | inl below ↦
                (let ends : p / size * size + size ≤ sector * size = row_end size (p / size) sector below in
                other p (λ e. absurd (omega arith)) ∙ sym was ∙ sym (put-before (sector * size + start) bytes (joined size count rows) p (omega arith) (omega arith)))
            | inr above ↦
                (let ends : sector * size + size ≤ p / size * size = row_end size sector (p / size) above in
                other p (λ e. absurd (omega arith)) ∙ sym was ∙ sym (put-after (sector * size + start) bytes (joined size count rows) p (omega arith) (omega arith)))
          ])
        ])

pub joined_part : (size count sector start n : ℕ) (rows : List (List ℕ)) → 0 < size → sector < count → start + n ≤ size → length (get_or rows sector []) ≡ size
    → part_of start n (get_or rows sector []) ≡ part_of (sector * size + start) n (joined size count rows)
joined_part size count sector start n rows some inside fits long =
    let all : length (joined size count rows) ≡ count * size = length-joined size count rows in
    let room : sector * size + size ≤ count * size = row_end size sector count inside in
    let left : length (part_of start n (get_or rows sector [])) ≡ n = simp (length-take, length-drop) (omega arith) in
    let right : length (part_of (sector * size + start) n (joined size count rows)) ≡ n = simp (length-take, length-drop) (omega arith) in
    ext_get_or 0 _ _ (left ∙ sym right) (λ k h. at all room k (omega arith))
  where
    at : length (joined size count rows) ≡ count * size → sector * size + size ≤ count * size → (k : ℕ) → k < n
        → get_or (part_of start n (get_or rows sector [])) k 0 ≡ get_or (part_of (sector * size + start) n (joined size count rows)) k 0
    at all room k low =
        let whole : sector * size + (start + k) ≡ sector * size + start + k = omega arith in
        let quotient : (sector * size + (start + k)) / size ≡ sector = div-mul-add sector size (start + k) (omega arith) in
        let rest : (sector * size + (start + k)) % size ≡ start + k = mod_mul_add sector size (start + k) some (omega arith) in
        get_or-take n (drop start (get_or rows sector [])) k 0 low
        ∙ get_or-drop start (get_or rows sector []) k 0
        ∙ sym (get_or-take n (drop (sector * size + start) (joined size count rows)) k 0 low
        ∙ get_or-drop (sector * size + start) (joined size count rows) k 0
        ∙ ap (λ i. get_or (joined size count rows) i 0) (sym whole)
        ∙ get_or-joined size count rows (sector * size + (start + k)) (omega arith)
        ∙ ap (λ q. get_or (get_or rows q []) ((sector * size + (start + k)) % size) 0) quotient
        ∙ ap (λ i. get_or (get_or rows sector []) i 0) rest)

-- after a write to a part of a row
pub put_mid_is : (start k : ℕ) (bytes row part : List ℕ) → part ≡ bytes → length bytes ≡ k → put_mid start k row part ≡ put start bytes row
unfolding put
put_mid_is start k bytes row part same long =
    ap (λ (l : List ℕ). take start row ++ (l ++ drop k (drop start row))) same
    ∙ sym (append_assoc (take start row) bytes (drop k (drop start row)))
    ∙ ap (λ (l : List ℕ). take start row ++ bytes ++ l) (drop-drop k start row ∙ ap (λ (n : ℕ). drop (start + n) row) (sym long))
