-- The group of chunks that stands in a row, side by side in one word.
use Rattle.std.proofs.Common.{◌≡◌, ℕ, min, ◌+◌, ◌-◌, ◌*◌, ◌/◌, ◌%◌, ◌<◌, ◌≤◌, Bool, true, false, List, length, get_or, ◌==◌, sym, ◌∙◌, ap, ap₂, subst, inl, inr, arith}
use Rattle.std.specs.Int.{bit_at, div_ceil}
use Rattle.std.proofs.lemmas.Grind.{div_ceil_times}
use Rattle.std.proofs.lemmas.Bool.{cases_lt}
use Rattle.std.proofs.lemmas.List.{ext_get_or}
use Rattle.std.proofs.lemmas.Nat.{row_fits, mul-le, div-mul-add, mod-mul-add, div-add-mod', mod_below}
use Rattle.cell_bits.specs.Cells.{charge_at, is_charged, IsAbove}
use Rattle.cell_bits.proofs.Above.{above_from, above_trans}
use Rattle.wom_code.specs.Cells.{cell_at, Carries, NoneCarries}
use Rattle.wom_code.specs.Groups.{chunk_of}
use Rattle.wom_code.proofs.GroupLemmas.{length-chunk_of, get_or-chunk_of}
use Rattle.striped.specs.Groups.{IsGroup, WritesGroup, DeclinesGroup}
use Rattle.striped.specs.Striping.{Striping, chunks, page_bytes, chunk_cells, chunk_message, decoded_bit}
use Rattle.striped.specs.Carried.{get_or-chunk_message}
use Rattle.striped.proofs.ChunkLemmas.{chunk_within, length-chunk_cells, get_or-chunk_cells, length-chunk_message, none_carries, place}

-- ---- groups in a row

spread : (done j n c : ℕ) → (done + j) * n + c ≡ done * n + (j * n + c)
spread done j n c = grind arith

on_one_page : (size n c i : ℕ) → c < n → place size n i c ≡ i * n + c
on_one_page size n c i h =
    let start : 0 * n + c ≡ c = omega arith in
    let q : c / n ≡ 0 = sym (ap (λ x. x / n) start) ∙ div-mul-add 0 n c h in
    let r : c % n ≡ c = sym (ap (λ x. x % n) start) ∙ mod-mul-add 0 n c h in
    let none : size * 0 + i * n + c ≡ i * n + c = omega arith in
    ap₂ (λ (x y : ℕ). size * x + i * n + y) q r ∙ none

cell_on_page : (s : Striping) (n : ℕ) (bytes : List ℕ) (i c : ℕ) → s.page_cells ≡ n → c < n → get_or (chunk_cells s n bytes i) c false ≡ is_charged bytes (i * n + c)
cell_on_page s n bytes i c e h =
    get_or-chunk_cells s n bytes i c h ∙ ap (λ m. is_charged bytes (place (8 * page_bytes s) m i c)) e ∙ ap (is_charged bytes) (on_one_page (8 * page_bytes s) n c i h)

pub group_cells : (s : Striping) (n : ℕ) (bytes : List ℕ) (word done j : ℕ) → s.page_cells ≡ n →
    ((c : ℕ) → c < n → charge_at bytes (done * n + (j * n + c)) ≡ bit_at word (j * n + c)) → chunk_cells s n bytes (done + j) ≡ chunk_of n word j
group_cells s n bytes word done j e h =
    ext_get_or false (chunk_cells s n bytes (done + j)) (chunk_of n word j) (length-chunk_cells s n bytes (done + j) ∙ sym (length-chunk_of n word j)) (λ c l.
    let m : c < n = omega (arith, length-chunk_cells s n bytes (done + j)) in
    cell_on_page s n bytes (done + j) c e m ∙ ap (λ x. x == 1) (ap (charge_at bytes) (spread done j n c) ∙ h c m) ∙ sym (get_or-chunk_of n word j c m))

pub group_message : (s : Striping) (sector : List ℕ) (word done j : ℕ) →
    ((i : ℕ) → i < s.message_bits → bit_at word (j * s.message_bits + i) ≡ charge_at sector (done * s.message_bits + (j * s.message_bits + i))) →
    chunk_message s sector (done + j) ≡ chunk_of s.message_bits word j
group_message s sector word done j h =
    ext_get_or false (chunk_message s sector (done + j)) (chunk_of s.message_bits word j) (length-chunk_message s sector (done + j) ∙ sym (length-chunk_of s.message_bits word j)) (λ i l.
    let m : i < s.message_bits = omega (arith, length-chunk_message s sector (done + j)) in
    get_or-chunk_message s sector (done + j) i m ∙ ap (λ x. x == 1) (ap (charge_at sector) (spread done j s.message_bits i) ∙ sym (h i m)) ∙ sym (get_or-chunk_of s.message_bits word j i m))

kept_cells : (s : Striping) (n : ℕ) (new old : List ℕ) (done j : ℕ) → s.page_cells ≡ n → j < done → ((c : ℕ) → c < done * n → charge_at new c ≡ charge_at old c) →
    chunk_cells s n new j ≡ chunk_cells s n old j
kept_cells s n new old done j e h below =
    ext_get_or false (chunk_cells s n new j) (chunk_cells s n old j) (length-chunk_cells s n new j ∙ sym (length-chunk_cells s n old j)) (λ c l.
    let m : c < n = omega (arith, length-chunk_cells s n new j) in
    cell_on_page s n new j c e m ∙ ap (λ x. x == 1) (below (j * n + c) (omega (arith, row_fits j n done n h (omega arith)))) ∙ sym (cell_on_page s n old j c e m))

in_group : (n j count c : ℕ) → j < count → c < n → j * n + c < count * n
in_group n j count c h l = omega (arith, row_fits j n count n h (omega arith))

-- the chunk of a cell of the group
chunk_in : (n count x : ℕ) → 1 ≤ n → x < count * n → x / n < count
chunk_in n count x some h =
    elim (cases_lt (x / n) count) [
      | inl l ↦ l
      | inr m ↦ absurd (omega (arith, div-add-mod' x n, mul-le count n (x / n) n m (le_self n)))
    ]
  where
    le_self : (t : ℕ) → t ≤ t
    le_self t = omega arith

pub group_above : (n k done count : ℕ) (old new sector : List ℕ) (cells messages out : ℕ) (decode : List Bool → List Bool) → 1 ≤ n →
    IsGroup n k done count old new sector cells messages out →
    ((j : ℕ) → j < count → Carries decode (chunk_of n cells j) (chunk_of k messages j) (chunk_of n out j)) → IsAbove new old
group_above n k done count old new sector cells messages out decode some w carries =
    above_from new old w.same_length (λ c h. elim (cases_lt c (done * n)) [
      | inl l ↦ ap (λ x. x == 1) (w.below c l) ∙ h
      | inr m ↦ elim (cases_lt c (done * n + count * n)) [
        | inr r ↦ ap (λ x. x == 1) (w.above c r) ∙ h
        | inl l ↦ inside c m l h
      ]
    ])
  where
    inside : (c : ℕ) → done * n ≤ c → c < done * n + count * n → is_charged old c ≡ true → is_charged new c ≡ true
    inside c m l h =
        let x : ℕ = c - done * n in
        let few : c - done * n < count * n = omega arith in
        let j : ℕ = (c - done * n) / n in
        let r : ℕ = (c - done * n) % n in
        let below : (c - done * n) % n < n = mod_below (c - done * n) n some in
        let whole : (c - done * n) / n * n + (c - done * n) % n ≡ c - done * n = div-add-mod' (c - done * n) n in
        let at : done * n + ((c - done * n) / n * n + (c - done * n) % n) ≡ c = omega arith in
        let inner : (c - done * n) / n * n + (c - done * n) % n < count * n = omega arith in
        let chunk : (c - done * n) / n < count = chunk_in n count (c - done * n) some few in
        let was : cell_at (chunk_of n cells ((c - done * n) / n)) ((c - done * n) % n) ≡ true =
        get_or-chunk_of n cells ((c - done * n) / n) ((c - done * n) % n) below
        ∙ ap (λ y. y == 1) (w.taken ((c - done * n) / n * n + (c - done * n) % n) inner ∙ ap (charge_at old) at) ∙ h in
        let is : cell_at (chunk_of n out ((c - done * n) / n)) ((c - done * n) % n) ≡ true = (carries ((c - done * n) / n) chunk).above ((c - done * n) % n) was in
        ap (λ y. y == 1) (ap (charge_at new) (sym at) ∙ w.put ((c - done * n) / n * n + (c - done * n) % n) inner)
        ∙ sym (get_or-chunk_of n out ((c - done * n) / n) ((c - done * n) % n) below) ∙ is

pub group_carried : (s : Striping) (n done count : ℕ) (now before : List Bool → List Bool) (old new sector : List ℕ) (cells messages out : ℕ) →
    IsGroup n s.message_bits done count old new sector cells messages out → s.page_cells ≡ n →
    ((j : ℕ) → j < count → Carries now (chunk_of n cells j) (chunk_of s.message_bits messages j) (chunk_of n out j)) →
    ((row : List Bool) → now row ≡ before row) →
    ((j : ℕ) → j < done → before (chunk_cells s n old j) ≡ chunk_message s sector j) →
    (j : ℕ) → j < done + count → before (chunk_cells s n new j) ≡ chunk_message s sector j
group_carried s n done count now before old new sector cells messages out w e carries same earlier j h =
    elim (cases_lt j done) [
      | inl l ↦ ap before (kept_cells s n new old done j e l w.below) ∙ earlier j l
      | inr m ↦
          let few : j - done < count = omega arith in
          let at : done + (j - done) ≡ j = omega arith in
          subst (λ y. before (chunk_cells s n new y) ≡ chunk_message s sector y) at
          (ap before (group_cells s n new out done (j - done) e (λ c l. w.put ((j - done) * n + c) (in_group n (j - done) count c few l)))
          ∙ sym (same (chunk_of n out (j - done))) ∙ (carries (j - done) few).decodes
          ∙ sym (group_message s sector messages done (j - done) (λ i l. w.told ((j - done) * s.message_bits + i) (in_group s.message_bits (j - done) count i few l))))
    ]

pub group_given : (s : Striping) (n done count : ℕ) (now before : List Bool → List Bool → List Bool → Bool) (first old new sector : List ℕ) (cells messages out : ℕ) →
    IsGroup n s.message_bits done count old new sector cells messages out → s.page_cells ≡ n →
    ((j : ℕ) → j < count → now (chunk_of n cells j) (chunk_of s.message_bits messages j) (chunk_of n out j) ≡ true) →
    ((a b c : List Bool) → now a b c ≡ before a b c) → ((c : ℕ) → done * n ≤ c → charge_at old c ≡ charge_at first c) →
    ((j : ℕ) → j < done → before (chunk_cells s n first j) (chunk_message s sector j) (chunk_cells s n old j) ≡ true) →
    (j : ℕ) → j < done + count → before (chunk_cells s n first j) (chunk_message s sector j) (chunk_cells s n new j) ≡ true
group_given s n done count now before first old new sector cells messages out w e gives same rest earlier j h =
    elim (cases_lt j done) [
      | inl l ↦ ap (before (chunk_cells s n first j) (chunk_message s sector j)) (kept_cells s n new old done j e l w.below) ∙ earlier j l
      | inr m ↦
          let few : j - done < count = omega arith in
          let at : done + (j - done) ≡ j = omega arith in
          let was : chunk_cells s n first (done + (j - done)) ≡ chunk_of n cells (j - done) =
          group_cells s n first cells done (j - done) e (λ c l.
          sym (rest (done * n + ((j - done) * n + c)) (omega arith)) ∙ sym (w.taken ((j - done) * n + c) (in_group n (j - done) count c few l))) in
          let is : chunk_cells s n new (done + (j - done)) ≡ chunk_of n out (j - done) =
          group_cells s n new out done (j - done) e (λ c l. w.put ((j - done) * n + c) (in_group n (j - done) count c few l)) in
          let told : chunk_message s sector (done + (j - done)) ≡ chunk_of s.message_bits messages (j - done) =
          group_message s sector messages done (j - done) (λ i l. w.told ((j - done) * s.message_bits + i) (in_group s.message_bits (j - done) count i few l)) in
          subst (λ y. before (chunk_cells s n first y) (chunk_message s sector y) (chunk_cells s n new y) ≡ true) at
          (ap (λ a. before a (chunk_message s sector (done + (j - done))) (chunk_cells s n new (done + (j - done)))) was
          ∙ ap (λ b. before (chunk_of n cells (j - done)) b (chunk_cells s n new (done + (j - done)))) told
          ∙ ap (before (chunk_of n cells (j - done)) (chunk_of s.message_bits messages (j - done))) is
          ∙ sym (same (chunk_of n cells (j - done)) (chunk_of s.message_bits messages (j - done)) (chunk_of n out (j - done))) ∙ gives (j - done) few)
    ]

-- a chunk of the group that declines
pub group_declined : (s : Striping) (n done count j : ℕ) (now before : List Bool → List Bool) (bytes sector : List ℕ) (cells messages : ℕ) → s.page_cells ≡ n → j < count →
    ((i : ℕ) → i < count * n → bit_at cells i ≡ charge_at bytes (done * n + i)) →
    ((i : ℕ) → i < count * s.message_bits → bit_at messages i ≡ charge_at sector (done * s.message_bits + i)) →
    ((row : List Bool) → now row ≡ before row) →
    NoneCarries now n (chunk_of n cells j) (chunk_of s.message_bits messages j) → NoneCarries before n (chunk_cells s n bytes (done + j)) (chunk_message s sector (done + j))
group_declined s n done count j now before bytes sector cells messages e h taken told same none =
    none_carries n now before (chunk_of n cells j) (chunk_cells s n bytes (done + j)) (chunk_of s.message_bits messages j) (chunk_message s sector (done + j)) same
    (sym (group_cells s n bytes cells done j e (λ c l. sym (taken (j * n + c) (in_group n j count c h l)))))
    (sym (group_message s sector messages done j (λ i l. told (j * s.message_bits + i) (in_group s.message_bits j count i h l)))) none

pub group_read : (s : Striping) (n done count : ℕ) (decode : List Bool → List Bool) (bytes old new : List ℕ) (cells messages : ℕ) → s.page_cells ≡ n → 1 ≤ s.message_bits →
    length old ≡ s.sector_bytes →
    ((i : ℕ) → i < count * n → bit_at cells i ≡ charge_at bytes (done * n + i)) →
    ((j : ℕ) → j < count → chunk_of s.message_bits messages j ≡ decode (chunk_of n cells j)) →
    ((i : ℕ) → i < count * s.message_bits → done * s.message_bits + i < 8 * length old → charge_at new (done * s.message_bits + i) ≡ bit_at messages i) →
    ((c : ℕ) → c < done * s.message_bits → charge_at new c ≡ charge_at old c) →
    ((x : ℕ) → x < done * s.message_bits → x < 8 * s.sector_bytes → is_charged old x ≡ decoded_bit s n decode bytes x) →
    (x : ℕ) → x < (done + count) * s.message_bits → x < 8 * s.sector_bytes → is_charged new x ≡ decoded_bit s n decode bytes x
group_read s n done count decode bytes old new cells messages e some len taken decodes put below before x h l =
    elim (cases_lt x (done * s.message_bits)) [
      | inl k ↦ ap (λ b. b == 1) (below x k) ∙ before x k l
      | inr m ↦ last m
    ]
  where
    last : done * s.message_bits ≤ x → is_charged new x ≡ decoded_bit s n decode bytes x
    last m =
        let k : ℕ = s.message_bits in
        let all : (done + count) * s.message_bits + 0 ≡ done * s.message_bits + (count * s.message_bits + 0) = spread done count s.message_bits 0 in
        let few : x - done * s.message_bits < count * s.message_bits = omega arith in
        let j : ℕ = (x - done * s.message_bits) / s.message_bits in
        let r : ℕ = (x - done * s.message_bits) % s.message_bits in
        let short : (x - done * s.message_bits) % s.message_bits < s.message_bits = mod_below (x - done * s.message_bits) s.message_bits some in
        let whole : (x - done * s.message_bits) / s.message_bits * s.message_bits + (x - done * s.message_bits) % s.message_bits ≡ x - done * s.message_bits =
        div-add-mod' (x - done * s.message_bits) s.message_bits in
        let chunk : (x - done * s.message_bits) / s.message_bits < count = chunk_in s.message_bits count (x - done * s.message_bits) some few in
        let at : done * s.message_bits + ((x - done * s.message_bits) / s.message_bits * s.message_bits + (x - done * s.message_bits) % s.message_bits) ≡ x = omega arith in
        let place : (done + (x - done * s.message_bits) / s.message_bits) * s.message_bits + (x - done * s.message_bits) % s.message_bits ≡ x =
        spread done ((x - done * s.message_bits) / s.message_bits) s.message_bits ((x - done * s.message_bits) % s.message_bits) ∙ at in
        let q : done + (x - done * s.message_bits) / s.message_bits ≡ x / s.message_bits =
        sym (sym (ap (λ y. y / s.message_bits) place) ∙ div-mul-add (done + (x - done * s.message_bits) / s.message_bits) s.message_bits ((x - done * s.message_bits) % s.message_bits) short) in
        let t : (x - done * s.message_bits) % s.message_bits ≡ x % s.message_bits =
        sym (sym (ap (λ y. y % s.message_bits) place) ∙ mod-mul-add (done + (x - done * s.message_bits) / s.message_bits) s.message_bits ((x - done * s.message_bits) % s.message_bits) short) in
        ap (λ y. y == 1) (ap (charge_at new) (sym at) ∙ put ((x - done * s.message_bits) / s.message_bits * s.message_bits + (x - done * s.message_bits) % s.message_bits) (omega arith) (omega arith))
        ∙ sym (get_or-chunk_of s.message_bits messages ((x - done * s.message_bits) / s.message_bits) ((x - done * s.message_bits) % s.message_bits) short)
        ∙ ap (λ cs. get_or cs ((x - done * s.message_bits) % s.message_bits) false)
        (decodes ((x - done * s.message_bits) / s.message_bits) chunk
        ∙ ap decode (sym (group_cells s n bytes cells done ((x - done * s.message_bits) / s.message_bits) e
        (λ c d. sym (taken ((x - done * s.message_bits) / s.message_bits * n + c) (in_group n ((x - done * s.message_bits) / s.message_bits) count c chunk d))))))
        ∙ ap₂ (λ (a b : ℕ). get_or (decode (chunk_cells s n bytes a)) b false) q t

-- the group stands within the page
pub group_within : (s : Striping) (n done count : ℕ) → s.page_cells ≡ n → 1 ≤ count → done + count ≤ chunks s → done * n + count * n ≤ 8 * page_bytes s
group_within s n done count e some h =
    let last : (done + (count - 1)) * s.page_cells + s.page_cells ≤ 8 * page_bytes s = chunk_within s (done + (count - 1)) (omega arith) in
    subst (λ m. done * m + count * m ≤ 8 * page_bytes s) e (subst (λ x. x ≤ 8 * page_bytes s) (whole done (count - 1) count s.page_cells (omega arith)) last)
  where
    whole : (d c count m : ℕ) → c + 1 ≡ count → (d + c) * m + m ≡ d * m + count * m
    whole d c count m f = subst (λ t. (d + c) * m + m ≡ d * m + t * m) f (parts d c m)
      where
        parts : (d c m : ℕ) → (d + c) * m + m ≡ d * m + (c + 1) * m
        parts d c m = grind arith

-- sizes of a unit of one page
pub one_span : (n span m : ℕ) → n ≡ span * m → span ≡ 1 → m ≡ n
one_span n span m e one = let f : span * m ≡ 1 * m = ap (λ t. t * m) one in omega arith

pub both_parts : (done count n : ℕ) → (done + count) * n ≡ done * n + count * n
both_parts done count n = grind arith

pub some_product : (a b : ℕ) → 1 ≤ a → 1 ≤ b → 1 ≤ a * b
some_product a b h l = omega (arith, mul-le 1 1 a b h l)

-- ---- a write of one group after the other

-- the chunks before chunk done carry their messages, in cells that the code gives, all cells are above the first ones, and those of
-- later chunks are those
pub record IsBegun (s : Striping) (n done : ℕ) (decode : List Bool → List Bool) (given : List Bool → List Bool → List Bool → Bool) (first now sector : List ℕ) : Type 0 where
  pub carried : (j : ℕ) → j < done → decode (chunk_cells s n now j) ≡ chunk_message s sector j
  pub gives : (j : ℕ) → j < done → given (chunk_cells s n first j) (chunk_message s sector j) (chunk_cells s n now j) ≡ true
  pub above : IsAbove now first
  pub rest : (c : ℕ) → done * n ≤ c → charge_at now c ≡ charge_at first c

pub begun_more : (s : Striping) (n done count : ℕ) (now before : List Bool → List Bool) (gives_now gives_before : List Bool → List Bool → List Bool → Bool) (first old new sector : List ℕ)
    → s.page_cells ≡ n → 1 ≤ n
    → ((row : List Bool) → now row ≡ before row) → ((a b c : List Bool) → gives_now a b c ≡ gives_before a b c) → IsBegun s n done before gives_before first old sector
    → WritesGroup n s.message_bits done count now gives_now old new sector → IsBegun s n (done + count) before gives_before first new sector
begun_more s n done count now before gives_now gives_before first old new sector e some same same_gives b w = record {
  gives = group_given s n done count gives_now gives_before first old new sector w.cells w.messages w.out w.group e w.gives same_gives b.rest b.gives;
  carried = group_carried s n done count now before old new sector w.cells w.messages w.out w.group e w.carries same b.carried;
  above = above_trans new old first (group_above n s.message_bits done count old new sector w.cells w.messages w.out now some w.group w.carries) b.above;
  rest = λ c h. let parts : (done + count) * n ≡ done * n + count * n = both_parts done count n in w.group.above c (omega arith) ∙ b.rest c (omega arith);
}

pub begun_declines : {given : List Bool → List Bool → List Bool → Bool} → (s : Striping) (n done count : ℕ) (now before : List Bool → List Bool) (first old sector : List ℕ) → s.page_cells ≡ n
    → ((row : List Bool) → now row ≡ before row) → done + count ≤ chunks s →
    IsBegun s n done before given first old sector → DeclinesGroup n s.message_bits done count now old sector →
    (i : ℕ) × (i < chunks s) × NoneCarries before n (chunk_cells s n first i) (chunk_message s sector i)
begun_declines s n done count now before first old sector e same fits b d =
    let within = d.within in (
      done + d.place,
      omega arith,
      group_declined s n done count d.place now before first sector d.cells d.messages e d.within (λ i h. d.taken i h ∙ b.rest (done * n + i) (omega arith)) d.told same d.none,
    )

-- a group that stands within the sector, or is cut off at its end
pub whole_within : (x k done count : ℕ) → 1 ≤ k → 1 ≤ count → count ≤ x / k - done → (done * k + count * k ≤ x) × (done * k < x)
whole_within x k done count some few h =
    let all : x / k * k + x % k ≡ x = div-add-mod' x k in
    let most : (done + count) * k ≤ x / k * k = mul-le (done + count) k (x / k) k (omega arith) (omega arith) in
    let parts : (done + count) * k ≡ done * k + count * k = both_parts done count k in
    let some_bits : 1 ≤ count * k = some_product count k few some in
    (omega arith, omega arith)

pub whole_here : (x k done count : ℕ) → 1 ≤ k → 1 ≤ count → count ≤ x / k - done → count * k ≡ min (count * k) (x - done * k)
whole_here x k done count some few h = let parts = (whole_within x k done count some few h).0 in omega arith

pub whole_chunks : (x k done count : ℕ) → 1 ≤ count → count ≤ x / k - done → done + count ≤ div_ceil x k
whole_chunks x k done count few h = omega arith

pub short_few : (x k done group : ℕ) → group ≤ 16 → x / k - done < group → done ≤ x / k → div_ceil x k - done ≤ group
short_few x k done group few h begun = omega arith

pub short_here : (x k done : ℕ) → 1 ≤ k → done ≤ div_ceil x k → x - done * k ≡ min ((div_ceil x k - done) * k) (x - done * k)
short_here x k done some h =
    let all : x ≤ div_ceil x k * k = (div_ceil_times x k some).0 in
    let parts : (done + (div_ceil x k - done)) * k ≡ done * k + (div_ceil x k - done) * k = both_parts done (div_ceil x k - done) k in
    let whole : (done + (div_ceil x k - done)) * k ≡ div_ceil x k * k = ap (λ t. t * k) (omega arith) in
    omega arith

-- ---- groups by turns

pub turn_fits : (whole group turn : ℕ) → turn < whole / group → turn * group + group ≤ whole
turn_fits whole group turn h =
    let all : whole / group * group + whole % group ≡ whole = div-add-mod' whole group in
    let fits : turn * group + group ≤ whole / group * group = row_fits turn group (whole / group) group h (omega arith) in
    omega arith

pub turn_room : (whole group turn : ℕ) → turn < whole / group → group ≤ whole - turn * group
turn_room whole group turn h = let fits = turn_fits whole group turn h in omega arith

pub turns_rest : (whole group : ℕ) → 1 ≤ group → (whole / group * group ≤ whole) × (whole - whole / group * group < group)
turns_rest whole group some =
    let all : whole / group * group + whole % group ≡ whole = div-add-mod' whole group in
    let few : whole % group < group = mod_below whole group some in
    (omega arith, omega arith)

pub next_turn : (turn group : ℕ) → turn * group + group ≡ (turn + 1) * group
next_turn turn group = grind arith

pub turns_end : (turn last : ℕ) → turn ≤ last → last ≤ turn → turn ≡ last
turns_end turn last h l = omega arith
