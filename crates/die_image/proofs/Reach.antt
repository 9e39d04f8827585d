-- How far a reader reads, and that bytes are refused for good where it wants no more.
use Rattle.std.proofs.Common.{◌≡◌, ℕ, ◌+◌, ◌-◌, ◌<◌, ◌≤◌, Bool, true, false, List, ◌++◌, length, drop, nat_le, Result, Ok, Err, refl, ◌∙◌, inl, inr, arith, length-append}
use Rattle.std.proofs.lemmas.Bool.{le-ltb, lt-ltb, cases_lt, leb-true, and_parts}
use Rattle.std.proofs.lemmas.List.{length-drop}
use Rattle.die_image.specs.declared.head.ImageHead.{ImageHead}
use Rattle.die_image.specs.declared.error.ImageError.{ImageError}
use Rattle.die_image.specs.declared.error.ImageError.TheVariants as errors
use Rattle.die_image.specs.Image.{head_length, die_bytes, is_within_limits, head_read, image_read, cells_after, Fed, wanted, wants_after}
use Rattle.die_image.specs.Reach.{reach_of, IsWithinReach, IsRefusedAnyway}
use Rattle.die_image.proofs.Heads.{head_front, too_long}
use Rattle.die_image.proofs.Back.{head_found}

-- what a reader wants before its head is whole, and behind it
wanted_before : (fed : Fed) → fed.is_failed ≡ false → length fed.bytes < head_length fed.is_old → wanted fed ≡ head_length fed.is_old - length fed.bytes
unfolding wanted
wanted_before fed well lt = rw (well, lt-ltb _ _ lt) refl

wanted_behind : (fed : Fed) → fed.is_failed ≡ false → head_length fed.is_old ≤ length fed.bytes → wanted fed ≡ wants_after (length fed.bytes - head_length fed.is_old) (head_read fed.is_old fed.bytes)
unfolding wanted
wanted_behind fed well le = rw (well, le-ltb _ _ le) refl

-- ---- reach

head_within : (is_old : Bool) (read : Result ImageHead ImageError) → head_length is_old ≤ reach_of is_old read
head_within is_old (Ok head) = omega arith
head_within is_old (Err why) = omega arith

more_within : (is_old : Bool) (n k : ℕ) (read : Result ImageHead ImageError) → head_length is_old ≤ n → n ≤ reach_of is_old read → k ≤ wants_after (n - head_length is_old) read
    → n + k ≤ reach_of is_old read
more_within is_old n k (Ok head) le within fits = omega arith
more_within is_old n k (Err why) le within fits = omega arith

pub stays_within : (fed : Fed) (piece : List ℕ) → fed.is_failed ≡ false → IsWithinReach fed → length piece ≤ wanted fed → IsWithinReach (record fed { bytes = fed.bytes ++ piece })
stays_within fed piece well within fits =
    elim (cases_lt (length fed.bytes) (head_length fed.is_old)) [
      | inl lt ↦ omega (arith, fits, wanted_before fed well lt, length-append fed.bytes piece, head_within fed.is_old (head_read fed.is_old (fed.bytes ++ piece)))
      | inr le ↦
          rw (head_front fed.is_old fed.bytes piece le, length-append fed.bytes piece)
          (more_within fed.is_old (length fed.bytes) (length piece) (head_read fed.is_old fed.bytes) le within (rw (wanted_behind fed well le) at fits))
    ]

-- what is within the reach of the first bytes is within that of all
pub within_all : (is_old : Bool) (xs ys : List ℕ) → length xs ≤ reach_of is_old (head_read is_old xs) → length xs ≤ reach_of is_old (head_read is_old (xs ++ ys))
within_all is_old xs ys within =
    elim (cases_lt (length xs) (head_length is_old)) [
      | inl lt ↦ omega (arith, head_within is_old (head_read is_old (xs ++ ys)))
      | inr le ↦ rw (head_front is_old xs ys le) within
    ]

few_bytes : (head : ImageHead) → is_within_limits head ≡ true → die_bytes head ≤ 67_108_864
unfolding is_within_limits
few_bytes head within =
    let p7 = and_parts _ (nat_le head.reuse_max head.blocks) within in
    let p6 = and_parts _ _ p7.0 in
    let p5 = and_parts _ _ p6.0 in
    let p4 = and_parts _ (nat_le (die_bytes head) 67_108_864) p5.0 in
    leb-true (die_bytes head) 67_108_864 p4.1

-- the reach is bounded
pub reach_bound : (is_old : Bool) (bytes : List ℕ) → reach_of is_old (head_read is_old bytes) ≤ 67_108_897
reach_bound is_old bytes = at (head_read is_old bytes) refl
  where
    most : (is_old : Bool) → head_length is_old ≤ 32
    most true = omega arith
    most false = omega arith

    at : (read : Result ImageHead ImageError) → head_read is_old bytes ≡ read → reach_of is_old read ≤ 67_108_897
    at (Ok head) e = omega (arith, most is_old, few_bytes head (head_found is_old bytes head e).within)
    at (Err why) e = omega (arith, most is_old)

-- ---- nothing more is wanted

behind_head : (is_old : Bool) (bytes more : List ℕ) (read : Result ImageHead ImageError) → head_length is_old ≤ length bytes → head_read is_old bytes ≡ read →
    image_read is_old (bytes ++ more) ≡ cells_after (drop (head_length is_old) (bytes ++ more)) read
unfolding image_read
behind_head is_old bytes more read le e = rw (head_front is_old bytes more le, e) refl

-- the head was refused, or there is a byte past the cells
settled : (is_old : Bool) (bytes : List ℕ) → head_length is_old ≤ length bytes → (read : Result ImageHead ImageError) → head_read is_old bytes ≡ read →
    wants_after (length bytes - head_length is_old) read ≡ 0 → (why : ImageError) × IsRefusedAnyway is_old bytes why
settled is_old bytes le (Err why) e none = (why, λ more. behind_head is_old bytes more (Err why) le e)
settled is_old bytes le (Ok head) e none = (
  errors.Long,
  λ more.
      behind_head is_old bytes more (Ok head) le e
      ∙ too_long head (drop (head_length is_old) (bytes ++ more)) (omega (arith, none, length-drop (head_length is_old) (bytes ++ more), length-append bytes more)),
)

pub refused_anyway : (fed : Fed) → fed.is_failed ≡ false → wanted fed ≡ 0 → (why : ImageError) × IsRefusedAnyway fed.is_old fed.bytes why
refused_anyway fed well none =
    elim (cases_lt (length fed.bytes) (head_length fed.is_old)) [
      | inl lt ↦ absurd (omega (arith, wanted_before fed well lt))
      | inr le ↦ settled fed.is_old fed.bytes le (head_read fed.is_old fed.bytes) refl (rw (wanted_behind fed well le) at none)
    ]
