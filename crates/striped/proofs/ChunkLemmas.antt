-- Where the chunks of a sector stand, and what a write of one changes.
use Rattle.std.proofs.Common.{◌≡◌, ℕ, ◌+◌, ◌-◌, ◌*◌, ◌/◌, ◌%◌, ◌<◌, ◌≤◌, ◌⊎◌, Bool, true, false, List, length, get_or, ◌==◌, sym, ◌∙◌, ap, ap₂, subst, inl, inr, arith, eq-eqb}
use Rattle.std.specs.Int.{div_ceil}
use Rattle.std.proofs.lemmas.Bool.{cases_lt, eqb-true}
use Rattle.std.proofs.lemmas.List.{ext_get_or}
use Rattle.std.proofs.lemmas.List.FromFn.{length-map-range_with_len, get_or-map-range_with_len}
use Rattle.std.proofs.lemmas.Nat.{row_fits, div-add-mod', div-mul-add, mod-mul-add, mod_below}
use Rattle.cell_bits.specs.Cells.{charge_at, is_charged, IsAbove}
use Rattle.cell_bits.proofs.Above.{above_from}
use Rattle.wom_code.specs.Cells.{cell_at, Carries, NoneCarries}
use Rattle.wom_code.specs.Packed.{word_bit, cells_of}
use Rattle.wom_code.proofs.PackedLemmas.{get_or-cells_of, same_cells}
use Rattle.striped.specs.Striping.{Striping, chunks, page_bytes, chunk_cells, chunk_message}
use Rattle.striped.specs.Carried.{get_or-chunk_message}
use Rattle.striped.proofs.RowSteps.{charge_at-past}

-- the start of chunk i is below the end
pub start_below : (x k i : ℕ) → 0 < k → i < div_ceil x k → i * k < x
start_below x k i some h =
    let whole : x / k * k + x % k ≡ x = div-add-mod' x k in
    elim (cases_lt i (x / k)) [
      | inl l ↦ (let fits : i * k + k ≤ x / k * k = row_fits i k (x / k) k l (omega arith) in omega arith)
      | inr m ↦ (let e : i ≡ x / k = omega arith in let f : i * k ≡ x / k * k = ap (λ t. t * k) e in let rest : 0 < x % k = omega arith in omega arith)
    ]

-- the cells of chunk i are within the page
pub chunk_within : (s : Striping) (i : ℕ) → i < chunks s → i * s.page_cells + s.page_cells ≤ 8 * page_bytes s
chunk_within s i h =
    let fits : i * s.page_cells + s.page_cells ≤ chunks s * s.page_cells = row_fits i s.page_cells (chunks s) s.page_cells h (omega arith) in
    let up : chunks s * s.page_cells ≤ 8 * page_bytes s = ceil (chunks s * s.page_cells) in
    omega arith
  where
    ceil : (x : ℕ) → x ≤ 8 * div_ceil x 8
    ceil x = omega arith

-- cell c of chunk i
abbrev pub place : ℕ → ℕ → ℕ → ℕ → ℕ
place size cells i c = size * (c / cells) + i * cells + c % cells

pub length-chunk_cells : (s : Striping) (n : ℕ) (bytes : List ℕ) (i : ℕ) → length (chunk_cells s n bytes i) ≡ n
unfolding chunk_cells
length-chunk_cells s n bytes i = length-map-range_with_len (λ c. is_charged bytes (place (8 * page_bytes s) s.page_cells i c)) 0 n

pub get_or-chunk_cells : (s : Striping) (n : ℕ) (bytes : List ℕ) (i c : ℕ) → c < n → get_or (chunk_cells s n bytes i) c false ≡ is_charged bytes (place (8 * page_bytes s) s.page_cells i c)
unfolding chunk_cells
get_or-chunk_cells s n bytes i c h = get_or-map-range_with_len (λ c. is_charged bytes (place (8 * page_bytes s) s.page_cells i c)) 0 n c c false h (omega arith)

pub length-chunk_message : (s : Striping) (sector : List ℕ) (i : ℕ) → length (chunk_message s sector i) ≡ s.message_bits
unfolding chunk_message
length-chunk_message s sector i = length-map-range_with_len (λ j. is_charged sector (i * s.message_bits + j)) 0 s.message_bits

-- a packed row with the cells of a chunk
pub chunk_is : (s : Striping) (n : ℕ) (bytes : List ℕ) (i pb : ℕ) (words : List ℕ) → pb ≡ page_bytes s →
    ((c : ℕ) → c < n → word_bit words c ≡ charge_at bytes (place (8 * pb) s.page_cells i c)) → cells_of n words ≡ chunk_cells s n bytes i
chunk_is s n bytes i pb words e h =
    sym (same_cells n words (chunk_cells s n bytes i) (length-chunk_cells s n bytes i) (λ c l.
    get_or-chunk_cells s n bytes i c l
    ∙ ap (λ b. b == 1) (sym (h c l ∙ ap (λ p. charge_at bytes (place (8 * p) s.page_cells i c)) e))))

pub message_is : (s : Striping) (sector : List ℕ) (i : ℕ) (words : List ℕ) →
    ((j : ℕ) → j < s.message_bits → word_bit words j ≡ charge_at sector (i * s.message_bits + j)) → cells_of s.message_bits words ≡ chunk_message s sector i
message_is s sector i words h =
    sym (same_cells s.message_bits words (chunk_message s sector i) (length-chunk_message s sector i) (λ j l.
    get_or-chunk_message s sector i j l ∙ ap (λ b. b == 1) (sym (h j l))))

pub same_chunk : (s : Striping) (n : ℕ) (a b : List ℕ) (i : ℕ) → ((c : ℕ) → c < n → charge_at a (place (8 * page_bytes s) s.page_cells i c) ≡ charge_at b (place (8 * page_bytes s) s.page_cells i c)) →
    chunk_cells s n a i ≡ chunk_cells s n b i
same_chunk s n a b i h =
    ext_get_or false (chunk_cells s n a i) (chunk_cells s n b i) (length-chunk_cells s n a i ∙ sym (length-chunk_cells s n b i)) (λ c l.
    let m : c < n = omega (arith, length-chunk_cells s n a i) in
    get_or-chunk_cells s n a i c m ∙ ap (λ x. x == 1) (h c m) ∙ sym (get_or-chunk_cells s n b i c m))

-- every cell of these places is the same
abbrev pub Agrees : List ℕ → List ℕ → ℕ → (ℕ → Type 0) → Type 0
Agrees new old size P = (page c : ℕ) → c < size → P c → charge_at new (size * page + c) ≡ charge_at old (size * page + c)

-- chunk j where the cells that it has on each page stay
pub chunk_stays : (s : Striping) (n : ℕ) (new old : List ℕ) (pb j : ℕ) (P : ℕ → Type 0) → pb ≡ page_bytes s → 1 ≤ s.page_cells → j < chunks s →
    Agrees new old (8 * pb) P → ((r : ℕ) → r < s.page_cells → P (j * s.page_cells + r)) → chunk_cells s n new j ≡ chunk_cells s n old j
chunk_stays s n new old pb j P e some h agrees all =
    same_chunk s n new old j (λ c l.
    let inner : c % s.page_cells < s.page_cells = mod_below c s.page_cells some in
    let within : j * s.page_cells + s.page_cells ≤ 8 * page_bytes s = chunk_within s j h in
    let at : place (8 * page_bytes s) s.page_cells j c ≡ 8 * page_bytes s * (c / s.page_cells) + (j * s.page_cells + c % s.page_cells) = omega arith in
    let same : charge_at new (8 * page_bytes s * (c / s.page_cells) + (j * s.page_cells + c % s.page_cells))
    ≡ charge_at old (8 * page_bytes s * (c / s.page_cells) + (j * s.page_cells + c % s.page_cells)) =
    subst (λ p. Agrees new old (8 * p) P) e agrees (c / s.page_cells) (j * s.page_cells + c % s.page_cells) (omega arith) (all (c % s.page_cells) inner) in
    ap (charge_at new) at ∙ same ∙ ap (charge_at old) (sym at))

-- chunk i is written: its old cells are in the packed row `cells`, its new ones in `out`
pub record IsWrite (m span i pb : ℕ) (old new cells out : List ℕ) : Type 0 where
  pub some : 1 ≤ m
  pub len_old : length old ≡ span * pb
  pub len_new : length new ≡ length old
  pub within : i * m + m ≤ 8 * pb
  pub taken : (c : ℕ) → c < span * m → word_bit cells c ≡ charge_at old (place (8 * pb) m i c)
  pub put : (c : ℕ) → c < span * m → charge_at new (place (8 * pb) m i c) ≡ word_bit out c
  pub others : Agrees new old (8 * pb) (λ c. (c < i * m) ⊎ (i * m + m ≤ c))

-- the cells of all others stay, so the new bytes are above the old ones where the chunk's are
pub write_above : (n m span i pb : ℕ) (old new cells out : List ℕ) → IsWrite m span i pb old new cells out → n ≡ span * m →
    ((c : ℕ) → cell_at (cells_of n cells) c ≡ true → cell_at (cells_of n out) c ≡ true) → IsAbove new old
write_above n m span i pb old new cells out w e above = above_from new old w.len_new (λ x h. eq-eqb _ _ (kept x (eqb-true _ _ h)))
  where
    split : (x : ℕ) → 8 * pb * (x / (8 * pb)) + x % (8 * pb) ≡ x
    split x = omega (arith, div-add-mod' x (8 * pb))

    in_chunk : (x p j : ℕ) → p < span → j < m → 8 * pb * p + (i * m + j) ≡ x → charge_at old x ≡ 1 → charge_at new x ≡ 1
    in_chunk x p j l k at one =
        let fits : p * m + m ≤ span * m = row_fits p m span m l (omega arith) in
        let c : ℕ = p * m + j in
        let below : p * m + j < span * m = omega arith in
        let short : p * m + j < n = omega arith in
        let q : (p * m + j) / m ≡ p = div-mul-add p m j k in
        let r : (p * m + j) % m ≡ j = mod-mul-add p m j k in
        let here : place (8 * pb) m i (p * m + j) ≡ x = ap₂ (λ (y z : ℕ). 8 * pb * y + i * m + z) q r ∙ omega arith in
        let was : word_bit cells (p * m + j) ≡ 1 = w.taken (p * m + j) below ∙ ap (charge_at old) here ∙ one in
        let told : cell_at (cells_of n out) (p * m + j) ≡ true = above (p * m + j) (get_or-cells_of n cells (p * m + j) false short ∙ eq-eqb _ _ was) in
        let is : word_bit out (p * m + j) ≡ 1 = eqb-true _ _ (sym (get_or-cells_of n out (p * m + j) false short) ∙ told) in
        ap (charge_at new) (sym here) ∙ w.put (p * m + j) below ∙ is

    past : (x : ℕ) → span ≤ x / (8 * pb) → 8 * (span * pb) ≤ x
    past x h = omega (arith, split x, more (x / (8 * pb)) h)
      where
        more : (p : ℕ) → span ≤ p → 8 * (span * pb) ≤ 8 * pb * p
        more p h = subst (λ t. 8 * (span * pb) ≤ 8 * pb * t) (plus p h) (grown (p - span))
          where
            plus : (p : ℕ) → span ≤ p → span + (p - span) ≡ p
            plus p h = omega arith

            grown : (d : ℕ) → 8 * (span * pb) ≤ 8 * pb * (span + d)
            grown d = grind arith

    kept : (x : ℕ) → charge_at old x ≡ 1 → charge_at new x ≡ 1
    kept x one =
        let p : ℕ = x / (8 * pb) in
        let r : ℕ = x % (8 * pb) in
        let some = w.some in
        let within = w.within in
        let inner : x % (8 * pb) < 8 * pb = mod_below x (8 * pb) (omega arith) in
        let at : 8 * pb * (x / (8 * pb)) + x % (8 * pb) ≡ x = split x in
        elim (cases_lt (x % (8 * pb)) (i * m)) [
          | inl l ↦ ap (charge_at new) (sym at) ∙ w.others (x / (8 * pb)) (x % (8 * pb)) inner (inl l) ∙ ap (charge_at old) at ∙ one
          | inr k ↦ elim (cases_lt (x % (8 * pb)) (i * m + m)) [
            | inr o ↦ ap (charge_at new) (sym at) ∙ w.others (x / (8 * pb)) (x % (8 * pb)) inner (inr o) ∙ ap (charge_at old) at ∙ one
            | inl t ↦ elim (cases_lt (x / (8 * pb)) span) [
              | inl u ↦ in_chunk x (x / (8 * pb)) (x % (8 * pb) - i * m) u (omega arith) (omega arith) one
              | inr v ↦ (let none : charge_at old x ≡ 0 = charge_at-past old x (omega (arith, past x v, w.len_old)) in absurd (omega arith))
            ]
          ]
        ]

-- a chunk that is declined
pub none_carries : (n : ℕ) (now before : List Bool → List Bool) (cells cells' message message' : List Bool) →
    ((row : List Bool) → now row ≡ before row) → cells ≡ cells' → message ≡ message' → NoneCarries now n cells message → NoneCarries before n cells' message'
none_carries n now before cells cells' message message' same e f none new len carries =
    none new len (record {
      above = subst (λ old. (i : ℕ) → cell_at old i ≡ true → cell_at new i ≡ true) (sym e) carries.above;
      decodes = same new ∙ carries.decodes ∙ sym f;
    })

-- ---- the step of a write

pub given_more : (s : Striping) (span i pb : ℕ) (before now : List Bool → List Bool → List Bool → Bool) (first old new cells out message sector : List ℕ) →
    IsWrite s.page_cells span i pb old new cells out → s.unit_cells ≡ span * s.page_cells → pb ≡ page_bytes s → i < chunks s →
    now (cells_of s.unit_cells cells) (cells_of s.message_bits message) (cells_of s.unit_cells out) ≡ true →
    ((j : ℕ) → j < s.message_bits → word_bit message j ≡ charge_at sector (i * s.message_bits + j)) →
    ((a b c : List Bool) → now a b c ≡ before a b c) → chunk_cells s s.unit_cells old i ≡ chunk_cells s s.unit_cells first i →
    ((j : ℕ) → j < i → before (chunk_cells s s.unit_cells first j) (chunk_message s sector j) (chunk_cells s s.unit_cells old j) ≡ true) →
    (j : ℕ) → j < i + 1 → before (chunk_cells s s.unit_cells first j) (chunk_message s sector j) (chunk_cells s s.unit_cells new j) ≡ true
given_more s span i pb before now first old new cells out message sector w spans page h gives taken same stays earlier j l =
    elim (cases_lt j i) [
      | inl k ↦
          let up : j * s.page_cells + s.page_cells ≤ i * s.page_cells = row_fits j s.page_cells i s.page_cells k (omega arith) in
          ap (before (chunk_cells s s.unit_cells first j) (chunk_message s sector j))
          (chunk_stays s s.unit_cells new old pb j (λ c. (c < i * s.page_cells) ⊎ (i * s.page_cells + s.page_cells ≤ c)) page w.some (omega arith) w.others (λ r t. inl (omega arith)))
          ∙ earlier j k
      | inr m ↦
          let e : i ≡ j = omega arith in
          let was : cells_of s.unit_cells cells ≡ chunk_cells s s.unit_cells first i = chunk_is s s.unit_cells old i pb cells page (λ c t. w.taken c (omega arith)) ∙ stays in
          let is : cells_of s.unit_cells out ≡ chunk_cells s s.unit_cells new i = chunk_is s s.unit_cells new i pb out page (λ c t. sym (w.put c (omega arith))) in
          let told : cells_of s.message_bits message ≡ chunk_message s sector i = message_is s sector i message taken in
          subst (λ x. before (chunk_cells s s.unit_cells first x) (chunk_message s sector x) (chunk_cells s s.unit_cells new x) ≡ true) e
          (sym (ap (λ a. before a (cells_of s.message_bits message) (cells_of s.unit_cells out)) was
          ∙ ap (λ b. before (chunk_cells s s.unit_cells first i) b (cells_of s.unit_cells out)) told
          ∙ ap (before (chunk_cells s s.unit_cells first i) (chunk_message s sector i)) is)
          ∙ sym (same (cells_of s.unit_cells cells) (cells_of s.message_bits message) (cells_of s.unit_cells out)) ∙ gives)
    ]

pub carried_more : (s : Striping) (span i pb : ℕ) (before now : List Bool → List Bool) (old new cells out message sector : List ℕ) →
    IsWrite s.page_cells span i pb old new cells out → s.unit_cells ≡ span * s.page_cells → pb ≡ page_bytes s → i < chunks s →
    Carries now (cells_of s.unit_cells cells) (cells_of s.message_bits message) (cells_of s.unit_cells out) →
    ((j : ℕ) → j < s.message_bits → word_bit message j ≡ charge_at sector (i * s.message_bits + j)) →
    ((row : List Bool) → now row ≡ before row) →
    ((j : ℕ) → j < i → before (chunk_cells s s.unit_cells old j) ≡ chunk_message s sector j) →
    (j : ℕ) → j < i + 1 → before (chunk_cells s s.unit_cells new j) ≡ chunk_message s sector j
carried_more s span i pb before now old new cells out message sector w spans page h carries taken same earlier j l =
    elim (cases_lt j i) [
      | inl k ↦
          let up : j * s.page_cells + s.page_cells ≤ i * s.page_cells = row_fits j s.page_cells i s.page_cells k (omega arith) in
          ap before (chunk_stays s s.unit_cells new old pb j (λ c. (c < i * s.page_cells) ⊎ (i * s.page_cells + s.page_cells ≤ c)) page w.some (omega arith) w.others (λ r t. inl (omega arith)))
          ∙ earlier j k
      | inr m ↦
          let e : i ≡ j = omega arith in
          subst (λ x. before (chunk_cells s s.unit_cells new x) ≡ chunk_message s sector x) e
          (ap before (sym (chunk_is s s.unit_cells new i pb out page (λ c t. sym (w.put c (omega arith)))))
          ∙ sym (same (cells_of s.unit_cells out)) ∙ carries.decodes ∙ message_is s sector i message taken)
    ]
