-- The head is read in the first bytes alone, and so are images in two parts.
use Rattle.std.proofs.Common.{◌≡◌, ℕ, ◌+◌, ◌-◌, ◌<◌, ◌≤◌, Bool, true, false, List, [], ◌++◌, length, take, drop, min, nat_lt, Option, Some, None, Result, Ok, Err, refl, sym, ap, ◌∙◌, inl, inr, arith}
use Rattle.std.proofs.lemmas.Bool.{le-ltb, lt-ltb, cases_lt}
use Rattle.std.proofs.lemmas.List.{take-append-le, drop-append-le, drop_at, length-append, length-drop, length-take, take_all, append-nil, take-append-drop, nil_from_length}
use Rattle.byteorder.specs.Endian.{little_number}
use Rattle.byteorder.specs.Numbers.{little_from-append}
use Rattle.die_image.specs.declared.head.ImageHead.{ImageHead}
use Rattle.die_image.specs.declared.error.ImageError.{ImageError}
use Rattle.die_image.specs.declared.error.ImageError.TheVariants as errors
use Rattle.die_image.specs.Schemes.{scheme_of_number}
use Rattle.die_image.specs.declared.scheme.SchemeName.{SchemeName}
use Rattle.die_image.specs.Image.{head_length, head_read, head_with, head_of_scheme, has_slots, has_magic, half_at, word_at, Fed, wanted, end_read, Says, Gives, die_bytes, cells_read}
use Rattle.die_image.specs.Image.{cells_after, image_read, wants_after}

number_front : (n place : ℕ) (xs ys : List ℕ) → place + n ≤ length xs → little_number n (drop place (xs ++ ys)) ≡ little_number n (drop place xs)
number_front n place xs ys h =
    ap (λ (bytes : List ℕ). little_number n bytes) (drop-append-le place xs ys (omega arith))
    ∙ little_from-append n (drop place xs) ys (omega (arith, length-drop place xs))

half_front : (place : ℕ) (xs ys : List ℕ) → place + 2 ≤ length xs → half_at place (xs ++ ys) ≡ half_at place xs
unfolding half_at
half_front place xs ys h = number_front 2 place xs ys h

word_front : (place : ℕ) (xs ys : List ℕ) → place + 4 ≤ length xs → word_at place (xs ++ ys) ≡ word_at place xs
unfolding word_at
word_front place xs ys h = number_front 4 place xs ys h

magic_front : (xs ys : List ℕ) → 8 ≤ length xs → has_magic (xs ++ ys) ≡ has_magic xs
unfolding has_magic
magic_front xs ys h = rw take-append-le refl

-- each version has the 28 bytes
pub at_least : (is_old : Bool) → 28 ≤ head_length is_old
at_least true = omega arith
at_least false = omega arith

slots_front : (is_old : Bool) (xs ys : List ℕ) (head : ImageHead) → head_length is_old ≤ length xs → has_slots is_old (xs ++ ys) head ≡ has_slots is_old xs head
slots_front true xs ys head h = refl
slots_front false xs ys head h = rw (word_front 28 xs ys (omega arith)) refl

scheme_front : (is_old : Bool) (xs ys : List ℕ) → head_length is_old ≤ length xs → (o : Option SchemeName) → head_of_scheme is_old (xs ++ ys) o ≡ head_of_scheme is_old xs o
scheme_front is_old xs ys h None = refl
scheme_front is_old xs ys h (Some scheme) =
    let least = at_least is_old in
    let blocks = word_front 12 xs ys (omega arith) in
    let pages = word_front 16 xs ys (omega arith) in
    let sectors = word_front 20 xs ys (omega arith) in
    let reuse_max = word_front 24 xs ys (omega arith) in
    rw (blocks, pages, sectors, reuse_max, slots_front is_old xs ys (head_with xs scheme) h) refl

pub head_front : (is_old : Bool) (xs ys : List ℕ) → head_length is_old ≤ length xs → head_read is_old (xs ++ ys) ≡ head_read is_old xs
unfolding head_read
head_front is_old xs ys h =
    let least = at_least is_old in
    let whole : nat_lt (length (xs ++ ys)) (head_length is_old) ≡ false = le-ltb _ _ (omega (arith, length-append xs ys)) in
    let whole_front : nat_lt (length xs) (head_length is_old) ≡ false = le-ltb _ _ h in
    rw (whole, whole_front, magic_front xs ys (omega arith), half_front 8 xs ys (omega arith), half_front 10 xs ys (omega arith), scheme_front is_old xs ys h (scheme_of_number (half_at 10 xs))) refl

-- too few bytes for a head
pub short_head : (is_old : Bool) (bytes : List ℕ) → length bytes < head_length is_old → head_read is_old bytes ≡ Err errors.Short
unfolding head_read
short_head is_old bytes h = rw (lt-ltb _ _ h) refl

-- what is read of a head's bytes and of cells behind them
pub in_parts : (is_old : Bool) (head cells : List ℕ) → length head ≤ head_length is_old → (length head < head_length is_old → cells ≡ []) →
    image_read is_old (head ++ cells) ≡ cells_after cells (head_read is_old head)
unfolding image_read
in_parts is_old head cells short none =
    elim (cases_lt (length head) (head_length is_old)) [
      | inl lt ↦ rw (none lt, append-nil head, short_head is_old head lt) refl
      | inr le ↦ rw (head_front is_old head cells le, drop_at head cells (head_length is_old) (omega arith)) refl
    ]

pub too_long : (head : ImageHead) (cells : List ℕ) → die_bytes head < length cells → cells_read head cells ≡ Err errors.Long
too_long head cells lt = rw (le-ltb (length cells) (die_bytes head) (omega arith), lt-ltb (die_bytes head) (length cells) lt) refl

long_or_same : (head : ImageHead) (cells : List ℕ) → cells_read head cells ≡ cells_read head (take (die_bytes head + 1 - 0) cells)
long_or_same head cells =
    elim (cases_lt (die_bytes head) (length cells)) [
      | inl lt ↦ too_long head cells lt ∙ sym (too_long head (take (die_bytes head + 1 - 0) cells) (omega (arith, length-take (die_bytes head + 1 - 0) cells)))
      | inr le ↦ ap (λ (these : List ℕ). cells_read head these) (sym (take_all (die_bytes head + 1 - 0) cells (omega arith)))
    ]

-- bytes past those that a reader wants change nothing
pub enough : (is_old : Bool) (xs more : List ℕ) → length xs ≡ head_length is_old →
    image_read is_old (xs ++ more) ≡ image_read is_old (xs ++ take (wants_after 0 (head_read is_old xs)) more)
enough is_old xs more len =
    in_parts is_old xs more (omega arith) (λ lt. absurd (omega arith))
    ∙ at (head_read is_old xs)
    ∙ sym (in_parts is_old xs (take (wants_after 0 (head_read is_old xs)) more) (omega arith) (λ lt. absurd (omega arith)))
  where
    at : (read : Result ImageHead ImageError) → cells_after more read ≡ cells_after (take (wants_after 0 read) more) read
    at (Err why) = refl
    at (Ok head) = long_or_same head more

-- ---- what a reader wants

pub wanted_failed : (fed : Fed) → fed.is_failed ≡ true → wanted fed ≡ 0
unfolding wanted
wanted_failed fed failed = rw failed refl

pub wanted_of_head : (is_old is_failed : Bool) (head cells : List ℕ) → is_failed ≡ false → length head < head_length is_old → (length head < head_length is_old → cells ≡ []) →
    wanted (record { is_old = is_old; is_failed = is_failed; bytes = head ++ cells }) ≡ head_length is_old - length head
unfolding wanted
wanted_of_head is_old is_failed head cells well lt none = rw (well, none lt, append-nil head, lt-ltb _ _ lt) refl

pub wanted_of_cells : (is_old is_failed : Bool) (head cells : List ℕ) → is_failed ≡ false → length head ≡ head_length is_old →
    wanted (record { is_old = is_old; is_failed = is_failed; bytes = head ++ cells }) ≡ wants_after (length cells) (head_read is_old head)
unfolding wanted
wanted_of_cells is_old is_failed head cells well len =
    let sum = length-append head cells in
    let whole : nat_lt (length (head ++ cells)) (head_length is_old) ≡ false = le-ltb _ _ (omega arith) in
    let rest : length (head ++ cells) - head_length is_old ≡ length cells = omega arith in
    rw (well, whole, rest, head_front is_old head cells (omega arith)) refl

-- ---- what a reader's end answers

pub end_of_parts : (is_old is_failed : Bool) (head cells : List ℕ) → is_failed ≡ false → length head ≤ head_length is_old → (length head < head_length is_old → cells ≡ []) →
    end_read (record { is_old = is_old; is_failed = is_failed; bytes = head ++ cells }) ≡ cells_after cells (head_read is_old head)
end_of_parts is_old is_failed head cells well short none = rw well (in_parts is_old head cells short none)

-- ---- a reader that was fed all that it wants

pub wanted_fresh : (is_old : Bool) → wanted (record { is_old = is_old; is_failed = false; bytes = [] }) ≡ head_length is_old
unfolding wanted
wanted_fresh true = refl
wanted_fresh false = refl

wanted_behind_head : (is_old : Bool) (head : List ℕ) → length head ≡ head_length is_old →
    wanted (record { is_old = is_old; is_failed = false; bytes = head }) ≡ wants_after 0 (head_read is_old head)
unfolding wanted
wanted_behind_head is_old head len =
    let whole : nat_lt (length head) (head_length is_old) ≡ false = le-ltb _ _ (omega arith) in
    let none : length head - head_length is_old ≡ 0 = omega arith in
    rw (whole, none) refl

take_min : (n : ℕ) (xs : List ℕ) → take (min (length xs) n) xs ≡ take n xs
take_min n xs =
    elim (cases_lt (length xs) n) [
      | inl lt ↦ take_all _ xs (omega arith) ∙ sym (take_all n xs (omega arith))
      | inr le ↦ ap (λ (k : ℕ). take k xs) (omega arith)
    ]

pub all_fed : (is_old : Bool) (bytes : List ℕ) (m k : ℕ) → m ≡ min (length bytes) (head_length is_old) →
    k ≡ min (length (drop m bytes)) (wanted (record { is_old = is_old; is_failed = false; bytes = take m bytes })) →
    image_read is_old (take m bytes ++ take k (drop m bytes)) ≡ image_read is_old bytes
all_fed is_old bytes m k at_head at_cells =
    elim (cases_lt (length bytes) (head_length is_old)) [
      | inl lt ↦
          let none : drop m bytes ≡ [] = nil_from_length _ (omega (arith, length-drop m bytes)) in
          rw (none, take_all m bytes (omega arith), take_none k, append-nil bytes) refl
      | inr le ↦
          let whole : length (take m bytes) ≡ head_length is_old = omega (arith, length-take m bytes) in
          let cells : k ≡ min (length (drop m bytes)) (wants_after 0 (head_read is_old (take m bytes))) =
          at_cells ∙ ap (λ (w : ℕ). min (length (drop m bytes)) w) (wanted_behind_head is_old (take m bytes) whole) in
          rw (cells, take_min (wants_after 0 (head_read is_old (take m bytes))) (drop m bytes), ← enough is_old (take m bytes) (drop m bytes) whole, take-append-drop m bytes) refl
    ]
  where
    take_none : (n : ℕ) → take {A = ℕ} n [] ≡ []
    take_none n = take_all n [] (omega arith)

-- what is read of nothing in the way of memory is given
pub gives_from_says : {X Y : Type 0} (view : X → Y) (result : Result X ImageError) (read : Result Y ImageError) → Says view result read → Gives view result read
gives_from_says view (Ok x) read h = h
gives_from_says view (Err errors.OutOfMemory) read h = tt
gives_from_says view (Err errors.Magic) read h = h
gives_from_says view (Err errors.Version) read h = h
gives_from_says view (Err errors.Shape) read h = h
gives_from_says view (Err errors.Short) read h = h
gives_from_says view (Err errors.Long) read h = h
gives_from_says view (Err errors.PadCells) read h = h

pub fed_all : (r0 r1 r2 : Fed) (bytes front rest cells : List ℕ) (w0 w1 m k : ℕ) → r0.is_failed ≡ false → r0.bytes ≡ [] →
    w0 ≡ wanted r0 → m ≡ min (length bytes) w0 → front ≡ take m bytes → rest ≡ drop m bytes → r1 ≡ record r0 { bytes = r0.bytes ++ front } →
    w1 ≡ wanted r1 → k ≡ min (length rest) w1 → cells ≡ take k rest → r2 ≡ record r1 { bytes = r1.bytes ++ cells } →
    end_read r2 ≡ image_read r0.is_old bytes
fed_all r0 r1 r2 bytes front rest cells w0 w1 m k well none w0-is m-is front-is rest-is r1-is w1-is k-is cells-is r2-is =
    let first : r0 ≡ record { is_old = r0.is_old; is_failed = false; bytes = [] } = λ i. record { is_old = r0.is_old; is_failed = well i; bytes = none i } in
    let some : r1 ≡ record { is_old = r0.is_old; is_failed = false; bytes = take m bytes } =
    r1-is ∙ ap (λ (r : Fed). record r { bytes = r.bytes ++ front }) first ∙ (λ i. record { is_old = r0.is_old; is_failed = false; bytes = front-is i }) in
    let all : r2 ≡ record { is_old = r0.is_old; is_failed = false; bytes = take m bytes ++ take k (drop m bytes) } =
    r2-is ∙ ap (λ (r : Fed). record r { bytes = r.bytes ++ cells }) some
    ∙ (λ i. record { is_old = r0.is_old; is_failed = false; bytes = take m bytes ++ (cells-is ∙ ap (λ (xs : List ℕ). take k xs) rest-is) i }) in
    let m-at : m ≡ min (length bytes) (head_length r0.is_old) = m-is ∙ ap (λ (w : ℕ). min (length bytes) w) (w0-is ∙ ap wanted first ∙ wanted_fresh r0.is_old) in
    let k-at : k ≡ min (length (drop m bytes)) (wanted (record { is_old = r0.is_old; is_failed = false; bytes = take m bytes })) =
    k-is ∙ ap (λ (xs : List ℕ). min (length xs) w1) rest-is ∙ ap (λ (w : ℕ). min (length (drop m bytes)) w) (w1-is ∙ ap wanted some) in
    ap end_read all ∙ all_fed r0.is_old bytes m k m-at k-at
