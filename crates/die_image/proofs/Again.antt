-- What an image says is the head and the cells that it was made of.
use Rattle.std.proofs.Common.{◌≡◌, ℕ, ◌+◌, ◌-◌, ◌*◌, ◌^◌, ◌&&◌, ◌<◌, ◌≤◌, Bool, true, false, List, [], ◌++◌, length, drop, ◌==◌, nat_lt, nat_le, Some, Ok, refl, ap, ◌∙◌, append_assoc, arith}
use Rattle.std.proofs.Math.Nat.{mul-le-mul}
use Rattle.std.proofs.lemmas.Bool.{le-ltb, eq-eqb, leb-true, and_parts}
use Rattle.std.proofs.lemmas.List.{length-append}
use Rattle.byteorder.specs.Numbers.{little_number-reads_back}
use Rattle.die_image.specs.declared.head.ImageHead.{ImageHead}
use Rattle.die_image.specs.declared.scheme.SchemeName.{SchemeName}
use Rattle.die_image.specs.declared.scheme.SchemeName.TheVariants.{Plain16, Rs16, Rs512, Coset16, Coset512, Flip16, Flip512, Ham16, Ham512}
use Rattle.die_image.specs.Schemes.{row_of, scheme_of_number}
use Rattle.die_image.specs.Image.{die_bytes, is_within_limits, half, word, first_bytes, image, old_image, version_number, head_length, AreCells, AreOldCells, half_at, word_at, has_magic}
use Rattle.die_image.specs.Image.{has_slots, head_read, image_read}

-- the numbers of a head within limits have four bytes
pub record AreWords (head : ImageHead) : Type 0 where
  pub blocks : head.blocks < 2 ^ 32
  pub pages : head.pages < 2 ^ 32
  pub sectors : head.sectors < 2 ^ 32
  pub reuse_max : head.reuse_max < 2 ^ 32

eight : (a b c d e f g h : Bool) → (a && b && c && d && e && f && g && h) ≡ true → (b ≡ true) × (d ≡ true) × (g ≡ true) × (h ≡ true)
eight a b c d e f g h all =
    let p7 = and_parts (a && b && c && d && e && f && g) h all in
    let p6 = and_parts (a && b && c && d && e && f) g p7.0 in
    let p5 = and_parts (a && b && c && d && e) f p6.0 in
    let p4 = and_parts (a && b && c && d) e p5.0 in
    let p3 = and_parts (a && b && c) d p4.0 in
    let p2 = and_parts (a && b) c p3.0 in
    let p1 = and_parts a b p2.0 in
    (p1.1, p3.1, p6.1, p7.1)

numbers_small : (blocks pages sectors reuse_max product : ℕ) → blocks ≤ 1_024 → product ≤ 1_024 * 128 → pages ≤ 128 → sectors + 1 ≤ product → reuse_max ≤ blocks →
    (blocks < 2 ^ 32) × (pages < 2 ^ 32) × (sectors < 2 ^ 32) × (reuse_max < 2 ^ 32)
numbers_small blocks pages sectors reuse_max product h0 h1 h2 h3 h4 = (omega arith, omega arith, omega arith, omega arith)

pub are_words : (head : ImageHead) → is_within_limits head ≡ true → AreWords head
unfolding is_within_limits
are_words head within =
    let p = eight (nat_le 2 head.blocks) (nat_le head.blocks 1_024) (nat_le 2 head.pages) (nat_le head.pages 128) (nat_le (die_bytes head) 67_108_864)
    (nat_le 1 head.sectors) (nat_le (head.sectors + 1) ((head.blocks - 1) * head.pages)) (nat_le head.reuse_max head.blocks) within in
    let blocks : head.blocks ≤ 1_024 = leb-true head.blocks 1_024 p.0 in
    let pages : head.pages ≤ 128 = leb-true head.pages 128 p.1 in
    let fewer : head.blocks - 1 ≤ 1_024 = omega (arith, blocks) in
    let product : (head.blocks - 1) * head.pages ≤ 1_024 * 128 = mul-le-mul {n₁ = head.blocks - 1} {m₁ = head.pages} {n₂ = 1_024} {m₂ = 128} fewer pages in
    let q = numbers_small head.blocks head.pages head.sectors head.reuse_max ((head.blocks - 1) * head.pages) blocks product pages
    (leb-true (head.sectors + 1) ((head.blocks - 1) * head.pages) p.2) (leb-true head.reuse_max head.blocks p.3) in
    record { blocks = q.0; pages = q.1; sectors = q.2; reuse_max = q.3 }

scheme_again : (scheme : SchemeName) → scheme_of_number (row_of scheme).number ≡ Some scheme
unfolding scheme_of_number row_of
scheme_again Plain16 = refl
scheme_again Rs16 = refl
scheme_again Rs512 = refl
scheme_again Coset16 = refl
scheme_again Coset512 = refl
scheme_again Flip16 = refl
scheme_again Flip512 = refl
scheme_again Ham16 = refl
scheme_again Ham512 = refl

small_row : (scheme : SchemeName) → ((row_of scheme).number < 256) × ((row_of scheme).generations < 256)
unfolding row_of
small_row Plain16 = (omega arith, omega arith)
small_row Rs16 = (omega arith, omega arith)
small_row Rs512 = (omega arith, omega arith)
small_row Coset16 = (omega arith, omega arith)
small_row Coset512 = (omega arith, omega arith)
small_row Flip16 = (omega arith, omega arith)
small_row Flip512 = (omega arith, omega arith)
small_row Ham16 = (omega arith, omega arith)
small_row Ham512 = (omega arith, omega arith)

module _ (is_old : Bool) (head : ImageHead) (tail : List ℕ) where
  magic_again : has_magic (first_bytes is_old head ++ tail) ≡ true
  unfolding has_magic first_bytes half word
  magic_again = refl

  number_again : half_at 10 (first_bytes is_old head ++ tail) ≡ (row_of head.scheme).number
  unfolding half_at first_bytes half word
  number_again = little_number-reads_back 2 (row_of head.scheme).number [] (omega (arith, (small_row head.scheme).0))

  blocks_again : head.blocks < 2 ^ 32 → word_at 12 (first_bytes is_old head ++ tail) ≡ head.blocks
  unfolding word_at first_bytes half word
  blocks_again h = little_number-reads_back 4 head.blocks [] h

  pages_again : head.pages < 2 ^ 32 → word_at 16 (first_bytes is_old head ++ tail) ≡ head.pages
  unfolding word_at first_bytes half word
  pages_again h = little_number-reads_back 4 head.pages [] h

  sectors_again : head.sectors < 2 ^ 32 → word_at 20 (first_bytes is_old head ++ tail) ≡ head.sectors
  unfolding word_at first_bytes half word
  sectors_again h = little_number-reads_back 4 head.sectors [] h

  reuse_max_again : head.reuse_max < 2 ^ 32 → word_at 24 (first_bytes is_old head ++ tail) ≡ head.reuse_max
  unfolding word_at first_bytes half word
  reuse_max_again h = little_number-reads_back 4 head.reuse_max [] h

version_again : (is_old : Bool) (head : ImageHead) (tail : List ℕ) → half_at 8 (first_bytes is_old head ++ tail) ≡ version_number is_old
unfolding half_at first_bytes half word
version_again true head tail = refl
version_again false head tail = refl

slots_again : (head : ImageHead) (cells : List ℕ) → word_at 28 (first_bytes false head ++ (word (row_of head.scheme).generations ++ cells)) ≡ (row_of head.scheme).generations
unfolding word_at first_bytes half word
slots_again head cells = little_number-reads_back 4 (row_of head.scheme).generations [] (omega (arith, (small_row head.scheme).1))

length-first_bytes : (is_old : Bool) (head : ImageHead) → length (first_bytes is_old head) ≡ 28
unfolding first_bytes half word
length-first_bytes is_old head = refl

length-word : (n : ℕ) → length (word n) ≡ 4
unfolding word
length-word n = refl

head_again : (is_old : Bool) (head : ImageHead) (tail : List ℕ) → is_within_limits head ≡ true → head_length is_old ≤ length (first_bytes is_old head ++ tail) →
    has_slots is_old (first_bytes is_old head ++ tail) head ≡ true → head_read is_old (first_bytes is_old head ++ tail) ≡ Ok head
unfolding head_read
head_again is_old head tail within long slots =
    let words = are_words head within in
    let whole : nat_lt (length (first_bytes is_old head ++ tail)) (head_length is_old) ≡ false = le-ltb _ _ long in
    let version : (half_at 8 (first_bytes is_old head ++ tail) == version_number is_old) ≡ true = eq-eqb _ _ (version_again is_old head tail) in
    rw (
      whole,
      magic_again is_old head tail,
      version,
      number_again is_old head tail,
      scheme_again head.scheme,
      blocks_again is_old head tail words.blocks,
      pages_again is_old head tail words.pages,
      sectors_again is_old head tail words.sectors,
      reuse_max_again is_old head tail words.reuse_max,
      slots,
      within,
    ) refl

read_again : (is_old : Bool) (head : ImageHead) (tail cells : List ℕ) → AreCells head cells → head_length is_old ≤ length (first_bytes is_old head ++ tail) →
    has_slots is_old (first_bytes is_old head ++ tail) head ≡ true → drop (head_length is_old) (first_bytes is_old head ++ tail) ≡ cells →
    image_read is_old (first_bytes is_old head ++ tail) ≡ Ok (head, cells)
unfolding image_read
read_again is_old head tail cells h long slots rest =
    rw (
      head_again is_old head tail h.within long slots,
      rest,
      le-ltb (length cells) (die_bytes head) (omega (arith, h.whole)),
      le-ltb (die_bytes head) (length cells) (omega (arith, h.whole)),
      h.no_pad_charged,
    ) refl

-- the first 28 bytes, and what is behind them
pub image-first_bytes : (head : ImageHead) (cells : List ℕ) → image head cells ≡ first_bytes false head ++ (word (row_of head.scheme).generations ++ cells)
unfolding image
image-first_bytes head cells = append_assoc (first_bytes false head) (word (row_of head.scheme).generations) cells

behind_word : (head : ImageHead) (cells : List ℕ) → drop 32 (first_bytes false head ++ (word (row_of head.scheme).generations ++ cells)) ≡ cells
unfolding first_bytes half word
behind_word head cells = refl

behind_first : (head : ImageHead) (cells : List ℕ) → drop 28 (first_bytes true head ++ cells) ≡ cells
unfolding first_bytes half word
behind_first head cells = refl

pub image_again : (head : ImageHead) (cells : List ℕ) → AreCells head cells → image_read false (image head cells) ≡ Ok (head, cells)
image_again head cells h =
    let tail : List ℕ = word (row_of head.scheme).generations ++ cells in
    let long : 32 ≤ length (first_bytes false head ++ tail) =
    omega (
      arith,
      length-append (first_bytes false head) tail,
      length-append (word (row_of head.scheme).generations) cells,
      length-first_bytes false head,
      length-word (row_of head.scheme).generations,
    ) in
    ap (image_read false) (image-first_bytes head cells)
    ∙ read_again false head tail cells h long (eq-eqb _ _ (slots_again head cells)) (behind_word head cells)

pub old_image_again : (head : ImageHead) (cells : List ℕ) → AreOldCells head cells → image_read true (old_image head cells) ≡ Ok (head, cells)
unfolding old_image
old_image_again head cells h =
    let long : 28 ≤ length (first_bytes true head ++ cells) = omega (arith, length-append (first_bytes true head) cells, length-first_bytes true head) in
    read_again true head cells cells h.0 long (eq-eqb _ _ h.1) (behind_first head cells)
