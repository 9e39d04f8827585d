-- Sums of rows are rows, and the lowest bit of a row is a cell that is separate from those below it.
use Rattle.std.proofs.Common.{◌≡◌, ◌≢◌, ℕ, zero, suc, ◌+◌, ◌*◌, ◌-◌, ◌%◌, ◌^◌, ◌<◌, ◌≤◌, ◌⊎◌, List, length, get_or, set, bit_xor, bit_or, sym, ◌∙◌, ap, subst, inl, inr, arith}
use Rattle.std.specs.Int.{bit_at, w64, trailing_zeros}
use Rattle.std.specs.Int.Bits.{xor_self, xor_zero_r}
use Rattle.std.proofs.lemmas.Bool.{cases_lt, cases_eq}
use Rattle.std.proofs.lemmas.List.{get_or-set_same, get_or-set_other, length-set}
use Rattle.std.proofs.lemmas.Nat.{one_shl}
use Rattle.std.proofs.lemmas.Nat.Bits.{bit_at_or, bit_at-zero, bit_at-lt, bit_at-pow_other, bit_at-trailing_zeros}
use Rattle.gf2_solve.proofs.XorLemmas.{xor_swap, bit_at-xor}
use Rattle.wom_code.specs.Packed.{word_bit}
use Rattle.coset_code.specs.Rows.{IsLinear, IsSound, AreSound, IsSeparate, AreSeparate, IsLowestBit}

-- ---- sums of rows

linear_sum : (f g : ℕ → ℕ) → IsLinear f → IsLinear g → IsLinear (λ x. bit_xor (f x) (g x))
linear_sum f g p q = record {
  zero = ap (λ v. bit_xor v (g 0)) p.zero ∙ ap (bit_xor 0) q.zero ∙ xor_self 0;
  sum = λ x y.
      ap (λ v. bit_xor v (g (bit_xor x y))) (p.sum x y)
      ∙ ap (bit_xor (bit_xor (f x) (f y))) (q.sum x y)
      ∙ xor_swap (f x) (f y) (g x) (g y);
}

two_bits : (a x i v w : ℕ) → v ≡ bit_at a i → w ≡ bit_at x i → bit_xor v w ≡ bit_at (bit_xor a x) i
two_bits a x i v w e h = ap (λ u. bit_xor u w) e ∙ ap (bit_xor (bit_at a i)) h ∙ sym (bit_at-xor a x i)

sound_sum : (coords old : List ℕ) (a b c x y z : ℕ) → IsSound coords old a b c → IsSound coords old x y z → IsSound coords old (bit_xor a x) (bit_xor b y) (bit_xor c z)
sound_sum coords old a b c x y z p q =
    let f : ℕ → ℕ = p.0 in
    let g : ℕ → ℕ = q.0 in (
      λ v. bit_xor (f v) (g v),
      record {
        linear = linear_sum f g p.1.linear q.1.linear;
        low = λ i h free. ap (λ v. bit_xor v (g (get_or coords i 0))) (p.1.low i h free) ∙ ap (bit_xor 0) (q.1.low i h free) ∙ xor_self 0;
        first_bits = λ i h free. two_bits a x i _ _ (p.1.first_bits i h free) (q.1.first_bits i h free);
        second_bits = λ i h free. two_bits b y i _ _ (p.1.second_bits i h free) (q.1.second_bits i h free);
        third_bits = λ i h free. two_bits c z i _ _ (p.1.third_bits i h free) (q.1.third_bits i h free);
      },
    )

pub sound_same : (coords old : List ℕ) (a b c x y z : ℕ) → a ≡ x → b ≡ y → c ≡ z → IsSound coords old a b c → IsSound coords old x y z
sound_same coords old a b c x y z e f g s =
    subst (λ v. IsSound coords old x y v) g (subst (λ v. IsSound coords old x v c) f (subst (λ v. IsSound coords old v b c) e s))

no_part : (a x : ℕ) → a ≡ bit_xor a (0 * x)
no_part a x = let z : 0 * x ≡ 0 = omega arith in sym (ap (bit_xor a) z ∙ xor_zero_r a)

whole_part : (a x : ℕ) → bit_xor a x ≡ bit_xor a (1 * x)
whole_part a x = let z : x ≡ 1 * x = omega arith in ap (bit_xor a) z

-- a row, or nothing, is added
pub sound_part : (coords old : List ℕ) (a b c x y z bit : ℕ) → bit < 2 → IsSound coords old a b c → IsSound coords old x y z →
    IsSound coords old (bit_xor a (bit * x)) (bit_xor b (bit * y)) (bit_xor c (bit * z))
sound_part coords old a b c x y z zero h p q = sound_same coords old a b c _ _ _ (no_part a x) (no_part b y) (no_part c z) p
sound_part coords old a b c x y z (suc zero) h p q = sound_same coords old _ _ _ _ _ _ (whole_part a x) (whole_part b y) (whole_part c z) (sound_sum coords old a b c x y z p q)
sound_part coords old a b c x y z (suc (suc bit)) h p q = absurd (omega arith)

-- ---- a row that is written

other_place : (rows : List ℕ) (p k x : ℕ) → k ≢ p → get_or rows k 0 ≡ get_or (set rows p x) k 0
other_place rows p k x h = sym (get_or-set_other rows p k x 0 h)

length-set-384 : (rows : List ℕ) (p x : ℕ) → length rows ≡ 384 → length (set rows p x) ≡ 384
length-set-384 rows p x h = simp length-set h

-- the second and third words of a row
pub sound_set_two : (coords old : List ℕ) (count j : ℕ) (rows : List ℕ) (b c : ℕ) → AreSound coords old count rows → j < count → count ≤ 128 → length rows ≡ 384 →
    IsSound coords old (get_or rows j 0) b c → AreSound coords old count (set (set rows (128 + j) b) (256 + j) c)
sound_set_two coords old count j rows b c s l few len h =
    let one : List ℕ = set rows (128 + j) b in
    let two : List ℕ = set one (256 + j) c in
    let len' : length one ≡ 384 = length-set-384 rows (128 + j) b len in
    let first : (k : ℕ) → k < 128 → get_or rows k 0 ≡ get_or two k 0 = λ k i. other_place rows (128 + j) k b (omega arith) ∙ other_place one (256 + j) k c (omega arith) in
    λ k i. elim (cases_eq k j) [
      | inl same ↦
          let m : 128 + k ≡ 128 + j = omega arith in
          let n : 256 + k ≡ 256 + j = omega arith in
          sound_same coords old (get_or rows j 0) b c _ _ _ (ap (λ q. get_or rows q 0) (sym same) ∙ first k (omega arith))
          (sym (get_or-set_same rows (128 + j) b 0 (omega arith)) ∙ ap (λ q. get_or one q 0) (sym m) ∙ other_place one (256 + j) (128 + k) c (omega arith))
          (sym (get_or-set_same one (256 + j) c 0 (omega arith)) ∙ ap (λ q. get_or two q 0) (sym n)) h
      | inr other ↦
          sound_same coords old _ _ _ _ _ _ (first k (omega arith))
          (other_place rows (128 + j) (128 + k) b (λ e. other (omega arith)) ∙ other_place one (256 + j) (128 + k) c (omega arith))
          (other_place rows (128 + j) (256 + k) b (omega arith) ∙ other_place one (256 + j) (256 + k) c (λ e. other (omega arith))) (s k i)
    ]

-- the third alone
pub sound_set_one : (coords old : List ℕ) (count j : ℕ) (rows : List ℕ) (c : ℕ) → AreSound coords old count rows → j < count → count ≤ 128 → length rows ≡ 384 →
    IsSound coords old (get_or rows j 0) (get_or rows (128 + j) 0) c → AreSound coords old count (set rows (256 + j) c)
sound_set_one coords old count j rows c s l few len h =
    λ k i. elim (cases_eq k j) [
      | inl same ↦
          let m : 128 + k ≡ 128 + j = omega arith in
          let n : 256 + k ≡ 256 + j = omega arith in
          sound_same coords old (get_or rows j 0) (get_or rows (128 + j) 0) c _ _ _ (ap (λ q. get_or rows q 0) (sym same) ∙ other_place rows (256 + j) k c (omega arith))
          (ap (λ q. get_or rows q 0) (sym m) ∙ other_place rows (256 + j) (128 + k) c (omega arith))
          (sym (get_or-set_same rows (256 + j) c 0 (omega arith)) ∙ ap (λ q. get_or (set rows (256 + j) c) q 0) (sym n)) h
      | inr other ↦
          sound_same coords old _ _ _ _ _ _ (other_place rows (256 + j) k c (omega arith)) (other_place rows (256 + j) (128 + k) c (omega arith))
          (other_place rows (256 + j) (256 + k) c (λ e. other (omega arith))) (s k i)
    ]

-- all three, of a row that counts where the bit is one
pub sound_set_more : (coords old : List ℕ) (count bit j : ℕ) (rows : List ℕ) (a b c : ℕ) → AreSound coords old count rows → bit < 2 → j < 128 → count ≤ 128 → length rows ≡ 384 →
    ((k : ℕ) → k < count + bit → k ≢ j → k < count) → (j < count + bit → IsSound coords old a b c) → AreSound coords old (count + bit) (set (set (set rows j a) (128 + j) b) (256 + j) c)
sound_set_more coords old count bit j rows a b c s two l few len less h =
    let none : List ℕ = set rows j a in
    let one : List ℕ = set none (128 + j) b in
    let all : List ℕ = set one (256 + j) c in
    let len' : length none ≡ 384 = length-set-384 rows j a len in
    let len'' : length one ≡ 384 = length-set-384 none (128 + j) b len' in
    λ k i. elim (cases_eq k j) [
      | inl same ↦
          let m : 128 + k ≡ 128 + j = omega arith in
          let n : 256 + k ≡ 256 + j = omega arith in
          sound_same coords old a b c _ _ _
          (sym (get_or-set_same rows j a 0 (omega arith)) ∙ ap (λ q. get_or none q 0) (sym same) ∙ other_place none (128 + j) k b (omega arith) ∙ other_place one (256 + j) k c (omega arith))
          (sym (get_or-set_same none (128 + j) b 0 (omega arith)) ∙ ap (λ q. get_or one q 0) (sym m) ∙ other_place one (256 + j) (128 + k) c (omega arith))
          (sym (get_or-set_same one (256 + j) c 0 (omega arith)) ∙ ap (λ q. get_or all q 0) (sym n)) (h (omega arith))
      | inr other ↦
          let small : k < count = less k i other in
          sound_same coords old _ _ _ _ _ _
          (other_place rows j k a other ∙ other_place none (128 + j) k b (omega arith) ∙ other_place one (256 + j) k c (omega arith))
          (other_place rows j (128 + k) a (omega arith) ∙ other_place none (128 + j) (128 + k) b (λ e. other (omega arith)) ∙ other_place one (256 + j) (128 + k) c (omega arith))
          (other_place rows j (256 + k) a (omega arith) ∙ other_place none (128 + j) (256 + k) b (omega arith) ∙ other_place one (256 + j) (256 + k) c (λ e. other (omega arith))) (s k small)
    ]

pub sound_set_three : (coords old : List ℕ) (count j : ℕ) (rows : List ℕ) (a b c : ℕ) → AreSound coords old count rows → j < count → count ≤ 128 → length rows ≡ 384 →
    IsSound coords old a b c → AreSound coords old count (set (set (set rows j a) (128 + j) b) (256 + j) c)
sound_set_three coords old count j rows a b c s l few len h =
    let e : count + 0 ≡ count = omega arith in
    subst (λ m. AreSound coords old m (set (set (set rows j a) (128 + j) b) (256 + j) c)) e
    (sound_set_more coords old count 0 j rows a b c s (omega arith) (omega arith) few len (λ k i other. omega arith) (λ i. h))

-- ---- rows added to another

nothing : (a x bit : ℕ) → x ≡ 0 → bit_xor a (bit * x) ≡ a
nothing a x bit e = let z : bit * x ≡ 0 = ap (λ v. bit * v) e ∙ omega arith in ap (bit_xor a) z ∙ xor_zero_r a

-- a word with parts of two others
parts : (r x y u v bit bit' : ℕ) → u ≡ bit * x → v ≡ bit' * y → bit_xor (bit_xor r (bit * x)) (bit' * y) ≡ bit_xor (bit_xor r u) v
parts r x y u v bit bit' e f = ap (λ m. bit_xor (bit_xor r m) (bit' * y)) (sym e) ∙ ap (bit_xor (bit_xor r u)) (sym f)

-- a sum of a row with parts of two rows
pub sound_parts : (coords old : List ℕ) (r s t a b c d e f bit bit' : ℕ) → bit < 2 → bit' < 2 → IsSound coords old r s t → IsSound coords old a b c → IsSound coords old d e f →
    IsSound coords old (bit_xor (bit_xor r (bit * a)) (bit' * d)) (bit_xor (bit_xor s (bit * b)) (bit' * e)) (bit_xor (bit_xor t (bit * c)) (bit' * f))
sound_parts coords old r s t a b c d e f bit bit' two two' x y z = sound_part coords old _ _ _ d e f bit' two' (sound_part coords old r s t a b c bit two x y) z

pub by_parts : (coords old : List ℕ) (r s t a b c d e f bit bit' u v w x y z : ℕ) → bit < 2 → bit' < 2 → IsSound coords old r s t → IsSound coords old a b c → IsSound coords old d e f →
    u ≡ bit * a → v ≡ bit * b → w ≡ bit * c → x ≡ bit' * d → y ≡ bit' * e → z ≡ bit' * f →
    IsSound coords old (bit_xor (bit_xor r u) x) (bit_xor (bit_xor s v) y) (bit_xor (bit_xor t w) z)
by_parts coords old r s t a b c d e f bit bit' u v w x y z two two' p q o eu ev ew ex ey ez =
    sound_same coords old _ _ _ _ _ _ (parts r a d u x bit bit' eu ex) (parts s b e v y bit bit' ev ey) (parts t c f w z bit bit' ew ez)
    (sound_parts coords old r s t a b c d e f bit bit' two two' p q o)

-- the same where the first words of the two rows are zero
pub by_parts_second : (coords old : List ℕ) (r s t a b c d e f bit bit' v w y z : ℕ) → bit < 2 → bit' < 2 → IsSound coords old r s t → IsSound coords old a b c → IsSound coords old d e f →
    a ≡ 0 → d ≡ 0 → v ≡ bit * b → w ≡ bit * c → y ≡ bit' * e → z ≡ bit' * f →
    IsSound coords old r (bit_xor (bit_xor s v) y) (bit_xor (bit_xor t w) z)
by_parts_second coords old r s t a b c d e f bit bit' v w y z two two' p q o none none' ev ew ey ez =
    sound_same coords old _ _ _ _ _ _ (nothing (bit_xor r (bit * a)) d bit' none' ∙ nothing r a bit none) (parts s b e v y bit bit' ev ey) (parts t c f w z bit bit' ew ez)
    (sound_parts coords old r s t a b c d e f bit bit' two two' p q o)

pub by_one_second : (coords old : List ℕ) (r s t a b c bit v w : ℕ) → bit < 2 → IsSound coords old r s t → IsSound coords old a b c → a ≡ 0 → v ≡ bit * b → w ≡ bit * c →
    IsSound coords old r (bit_xor s v) (bit_xor t w)
by_one_second coords old r s t a b c bit v w two p q none ev ew =
    sound_same coords old _ _ _ _ _ _ (nothing r a bit none) (ap (bit_xor s) (sym ev)) (ap (bit_xor t) (sym ew)) (sound_part coords old r s t a b c bit two p q)

pub by_one_third : (coords old : List ℕ) (r s t a b c bit w : ℕ) → bit < 2 → IsSound coords old r s t → IsSound coords old a b c → a ≡ 0 → b ≡ 0 → w ≡ bit * c →
    IsSound coords old r s (bit_xor t w)
by_one_third coords old r s t a b c bit w two p q none none' ew =
    sound_same coords old _ _ _ _ _ _ (nothing r a bit none) (nothing s b bit none') (ap (bit_xor t) (sym ew)) (sound_part coords old r s t a b c bit two p q)

pub by_one : (coords old : List ℕ) (r s t a b c bit u v w : ℕ) → bit < 2 → IsSound coords old r s t → IsSound coords old a b c → u ≡ bit * a → v ≡ bit * b → w ≡ bit * c →
    IsSound coords old (bit_xor r u) (bit_xor s v) (bit_xor t w)
by_one coords old r s t a b c bit u v w two p q eu ev ew =
    sound_same coords old _ _ _ _ _ _ (ap (bit_xor r) (sym eu)) (ap (bit_xor s) (sym ev)) (ap (bit_xor t) (sym ew)) (sound_part coords old r s t a b c bit two p q)

-- ---- lowest bits

pub lowest_added : (word row odd i : ℕ) → 0 < row → row < 2 ^ 64 → odd < 2 → bit_at (bit_or word (odd * 2 ^ trailing_zeros w64 row % 2 ^ 64)) i ≡ 1 → bit_at word i ≡ 0 → IsLowestBit row i
lowest_added word row zero i some fits two one none =
    let z : zero * 2 ^ trailing_zeros w64 row % 2 ^ 64 ≡ 0 = omega arith in
    let e : bit_at (bit_or word 0) i ≡ 1 = ap (λ v. bit_at (bit_or word v) i) (sym z) ∙ one in
    absurd (omega (arith, bit_at_or word 0 i, bit_at-zero i))
lowest_added word row (suc zero) i some fits two one none =
    let p : ℕ = trailing_zeros w64 row in
    let t = bit_at-trailing_zeros w64 row some fits in
    let e : bit_at (bit_or word (2 ^ p)) i ≡ 1 = ap (λ v. bit_at (bit_or word v) i) (sym (one_shl p 64 t.0)) ∙ one in
    elim (cases_eq i p) [
      | inl same ↦ record { one = ap (bit_at row) same ∙ t.1; below = λ j h. t.2 j (omega arith) }
      | inr other ↦ absurd (omega (arith, bit_at_or word (2 ^ p) i, bit_at-pow_other p i other))
    ]
lowest_added word row (suc (suc odd)) i some fits two one none = absurd (omega arith)

pub separate_first : (coords old : List ℕ) (a b c i : ℕ) → IsSound coords old a b c → IsLowestBit a i → i < 64 → word_bit old (128 + i) ≡ 0 → IsSeparate coords old (128 + i)
separate_first coords old a b c i s l h free = (
  s.0,
  record {
    linear = s.1.linear;
    one = s.1.first_bits i h free ∙ l.one;
    below = λ k j was. elim (cases_lt k 128) [
      | inl low ↦ s.1.low k low was
      | inr high ↦
          let d : ℕ = k - 128 in
          let e : k ≡ 128 + d = omega arith in
          ap (λ m. s.0 (get_or coords m 0)) e ∙ s.1.first_bits d (omega arith) (sym (ap (word_bit old) e) ∙ was) ∙ l.below d (omega arith)
    ];
  },
)

pub separate_second : (coords old : List ℕ) (a b c i : ℕ) → IsSound coords old a b c → a ≡ 0 → IsLowestBit b i → i < 64 → word_bit old (192 + i) ≡ 0 → IsSeparate coords old (192 + i)
separate_second coords old a b c i s z l h free = (
  s.0,
  record {
    linear = s.1.linear;
    one = s.1.second_bits i h free ∙ l.one;
    below = λ k j was. elim (cases_lt k 128) [
      | inl low ↦ s.1.low k low was
      | inr high ↦ elim (cases_lt k 192) [
        | inl first ↦
            let d : ℕ = k - 128 in
            let e : k ≡ 128 + d = omega arith in
            ap (λ m. s.0 (get_or coords m 0)) e ∙ s.1.first_bits d (omega arith) (sym (ap (word_bit old) e) ∙ was) ∙ ap (λ w. bit_at w d) z ∙ bit_at-zero d
        | inr second ↦
            let d : ℕ = k - 192 in
            let e : k ≡ 192 + d = omega arith in
            ap (λ m. s.0 (get_or coords m 0)) e ∙ s.1.second_bits d (omega arith) (sym (ap (word_bit old) e) ∙ was) ∙ l.below d (omega arith)
      ]
    ];
  },
)

pub separate_third : (coords old : List ℕ) (a b c i : ℕ) → IsSound coords old a b c → a ≡ 0 → b ≡ 0 → IsLowestBit c i → i < 63 → word_bit old (256 + i) ≡ 0 → IsSeparate coords old (256 + i)
separate_third coords old a b c i s z y l h free = (
  s.0,
  record {
    linear = s.1.linear;
    one = s.1.third_bits i h free ∙ l.one;
    below = λ k j was. elim (cases_lt k 128) [
      | inl low ↦ s.1.low k low was
      | inr high ↦ elim (cases_lt k 192) [
        | inl first ↦
            let d : ℕ = k - 128 in
            let e : k ≡ 128 + d = omega arith in
            ap (λ m. s.0 (get_or coords m 0)) e ∙ s.1.first_bits d (omega arith) (sym (ap (word_bit old) e) ∙ was) ∙ ap (λ w. bit_at w d) z ∙ bit_at-zero d
        | inr after ↦ elim (cases_lt k 256) [
          | inl second ↦
              let d : ℕ = k - 192 in
              let e : k ≡ 192 + d = omega arith in
              ap (λ m. s.0 (get_or coords m 0)) e ∙ s.1.second_bits d (omega arith) (sym (ap (word_bit old) e) ∙ was) ∙ ap (λ w. bit_at w d) y ∙ bit_at-zero d
          | inr third ↦
              let d : ℕ = k - 256 in
              let e : k ≡ 256 + d = omega arith in
              ap (λ m. s.0 (get_or coords m 0)) e ∙ s.1.third_bits d (omega arith) (sym (ap (word_bit old) e) ∙ was) ∙ l.below d (omega arith)
        ]
      ]
    ];
  },
)

-- ---- the cells taken

pub bit_is : (n i : ℕ) → (bit_at n i ≡ 0) ⊎ (bit_at n i ≡ 1)
bit_is n i = elim (cases_lt (bit_at n i) 1) [ inl l ↦ inl (omega arith) | inr m ↦ inr (omega (arith, bit_at-lt n i)) ]

pub with_first : (coords old : List ℕ) (u v w new a b c : ℕ) → IsSound coords old a b c → ((i : ℕ) → bit_at new i ≡ 1 → bit_at u i ≡ 0 → IsLowestBit a i) → AreSeparate coords old u v w
    → AreSeparate coords old new v w
with_first coords old u v w new a b c s l h = record {
  first_cells = λ i k one free. elim (bit_is u i) [
    | inl none ↦ separate_first coords old a b c i s (l i one none) k free
    | inr was ↦ h.first_cells i k was free
  ];
  second_cells = h.second_cells;
  third_cells = h.third_cells;
}

pub with_second : (coords old : List ℕ) (u v w new a b c : ℕ) → IsSound coords old a b c → a ≡ 0 → ((i : ℕ) → bit_at new i ≡ 1 → bit_at v i ≡ 0 → IsLowestBit b i) → AreSeparate coords old u v w
    → AreSeparate coords old u new w
with_second coords old u v w new a b c s z l h = record {
  first_cells = h.first_cells;
  second_cells = λ i k one free. elim (bit_is v i) [
    | inl none ↦ separate_second coords old a b c i s z (l i one none) k free
    | inr was ↦ h.second_cells i k was free
  ];
  third_cells = h.third_cells;
}

pub with_third : (coords old : List ℕ) (u v w new a b c : ℕ) → IsSound coords old a b c → a ≡ 0 → b ≡ 0 → ((i : ℕ) → bit_at new i ≡ 1 → bit_at w i ≡ 0 → IsLowestBit c i)
    → AreSeparate coords old u v w → AreSeparate coords old u v new
with_third coords old u v w new a b c s z y l h = record {
  first_cells = h.first_cells;
  second_cells = h.second_cells;
  third_cells = λ i k one free. elim (bit_is w i) [
    | inl none ↦ separate_third coords old a b c i s z y (l i one none) k free
    | inr was ↦ h.third_cells i k was free
  ];
}

pub separate_none : (coords old : List ℕ) → AreSeparate coords old 0 0 (2 ^ 63)
separate_none coords old = record {
  first_cells = λ i k one free. absurd (omega (arith, bit_at-zero i));
  second_cells = λ i k one free. absurd (omega (arith, bit_at-zero i));
  third_cells = λ i k one free. let other : i ≢ 63 = omega arith in absurd (omega (arith, bit_at-pow_other 63 i other));
}
