-- Pages after a write to a part of a row of bytes.
use Rattle.std.proofs.Common.{◌≡◌, ℕ, ◌+◌, ◌*◌, ◌<◌, ◌≤◌, List, length, take, drop, replicate, refl, arith, rules, get_or, set, ⊎_elim, ◌∙◌}
use Rattle.std.specs.Fork.{slice_chunk}
use Rattle.std.proofs.lemmas.List.{same_lists, places, get_or-set_same, get_or-set_other, length-set}
use Rattle.std.proofs.lemmas.Slice.{drop-put_mid}
use Rattle.std.proofs.lemmas.Bool.{cases_lt, cases_eq}
use Rattle.std.proofs.Math.Nat.{mul-le-mul_right}
use borrow.Rule.Slice.PartMut.{put_mid}
use Rattle.cell_die.specs.declared.shape.Torn.{Torn}
use Rattle.cell_die.specs.declared.shape.Torn.TheVariants.{Mask}
use Rattle.mem_die.specs.Pages.{ChangesPage, Blended}
use Rattle.mem_die.specs.PageLaws.{length-chunk}
use Rattle.mem_die.specs.Tears.{IsTorn, TearsPage, TearsPages}

part_before : (xs ys : List ℕ) (a k n size : ℕ) → a + k ≤ length xs → length ys ≡ k → n + size ≤ a → take size (drop n (put_mid a k xs ys)) ≡ take size (drop n xs)
part_before xs ys a k n size room long before =
    same_lists (take size (drop n (put_mid a k xs ys))) (take size (drop n xs)) (search (rules, places)) (λ i d h. grind (arith, places))

part_after : (xs ys : List ℕ) (a k n size : ℕ) → a + k ≤ length xs → length ys ≡ k → a + k ≤ n → take size (drop n (put_mid a k xs ys)) ≡ take size (drop n xs)
part_after xs ys a k n size room long after = rw (drop-put_mid a k xs ys n after (omega arith) long) refl

part_same : (xs ys : List ℕ) (a k : ℕ) → a + k ≤ length xs → length ys ≡ k → take k (drop a (put_mid a k xs ys)) ≡ ys
part_same xs ys a k room long =
    same_lists (take k (drop a (put_mid a k xs ys))) ys (search (rules, places)) (λ i d h. grind (arith, places))

length-put_mid : (xs ys : List ℕ) (a k : ℕ) → a + k ≤ length xs → length ys ≡ k → length (put_mid a k xs ys) ≡ length xs
length-put_mid xs ys a k room long = search (rules, places)

pub page_set : (xs ys : List ℕ) (size page : ℕ) → (page + 1) * size ≤ length xs → length ys ≡ size → ChangesPage size page xs (put_mid (page * size) size xs ys) ys
page_set xs ys size page room long =
    let fits : page * size + size ≤ length xs = omega arith in
    record {
      same_length = length-put_mid xs ys (page * size) size fits long;
      here = part_same xs ys (page * size) size fits long;
      others = λ other apart. ⊎_elim
          (λ before. part_before xs ys (page * size) size (other * size) size fits long
          (let step : (other + 1) * size ≤ page * size = mul-le-mul_right size (let h : other + 1 ≤ page = omega arith in h) in omega arith))
          (λ after. part_after xs ys (page * size) size (other * size) size fits long
          (let step : (page + 1) * size ≤ other * size = mul-le-mul_right size (let h : page + 1 ≤ other = omega arith in h) in omega arith))
          (cases_lt other page);
    }

-- one byte of a page is written
pub byte_set : (xs : List ℕ) (size page at value : ℕ) → (page + 1) * size ≤ length xs → at < size
    → ChangesPage size page xs (set xs (page * size + at) value) (set (slice_chunk xs size page) at value)
byte_set xs size page at value room below =
    let fits : page * size + size ≤ length xs = omega arith in
    record {
      same_length = length-set xs (page * size + at) value;
      here = part_byte xs (page * size) size at value fits below;
      others = λ other apart. ⊎_elim
          (λ before. part_byte_before xs (page * size) size at value (other * size) fits below
          (let step : (other + 1) * size ≤ page * size = mul-le-mul_right size (let h : other + 1 ≤ page = omega arith in h) in omega arith))
          (λ after. part_byte_after xs (page * size) size at value (other * size) fits below
          (let step : (page + 1) * size ≤ other * size = mul-le-mul_right size (let h : page + 1 ≤ other = omega arith in h) in omega arith))
          (cases_lt other page);
    }
  where
    part_byte : (xs : List ℕ) (n size at value : ℕ) → n + size ≤ length xs → at < size → take size (drop n (set xs (n + at) value)) ≡ set (take size (drop n xs)) at value
    part_byte xs n size at value fits below =
        same_lists (take size (drop n (set xs (n + at) value))) (set (take size (drop n xs)) at value) (search (rules, places))
        (λ i d h. ⊎_elim (λ same. grind (arith, places, get_or-set_same)) (λ apart. grind (arith, places, get_or-set_other)) (cases_eq i at))

    part_byte_before : (xs : List ℕ) (n size at value m : ℕ) → n + size ≤ length xs → at < size → m + size ≤ n → take size (drop m (set xs (n + at) value)) ≡ take size (drop m xs)
    part_byte_before xs n size at value m fits below before =
        same_lists (take size (drop m (set xs (n + at) value))) (take size (drop m xs)) (search (rules, places)) (λ i d h. grind (arith, places, get_or-set_other))

    part_byte_after : (xs : List ℕ) (n size at value m : ℕ) → n + size ≤ length xs → at < size → n + size ≤ m → take size (drop m (set xs (n + at) value)) ≡ take size (drop m xs)
    part_byte_after xs n size at value m fits below after =
        same_lists (take size (drop m (set xs (n + at) value))) (take size (drop m xs)) (search (rules, places)) (λ i d h. grind (arith, places, get_or-set_other))

-- a byte of the row is a byte of its page
pub byte_read : (xs : List ℕ) (size page at : ℕ) → at < size → get_or xs (page * size + at) 0 ≡ get_or (slice_chunk xs size page) at 0
byte_read xs size page at below = grind (arith, places)

-- a page is blended
pub page_torn : (xs target ys : List ℕ) (mask size page : ℕ) → (page + 1) * size ≤ length xs → length target ≡ size
    → Blended mask (slice_chunk xs size page) target ys → TearsPage (Mask mask) size page xs target (put_mid (page * size) size xs ys)
page_torn xs target ys mask size page room whole blended =
    let fits : page * size + size ≤ length xs = omega arith in
    let long : length ys ≡ size = omega (arith, blended.same_length, length-chunk xs size page) in
    let set = page_set xs ys size page room long in
    record { same_length = set.same_length; here = rw set.here blended; others = set.others }

-- one page more is torn
pub tears_more : (torn : Torn) (old mid new target : List ℕ) (size first k : ℕ) → target ≡ replicate size 0
    → TearsPages torn size first k old mid → TearsPage torn size (first + k) mid target new → TearsPages torn size first (k + 1) old new
tears_more torn old mid new target size first k blank so_far more = record {
  same_length = more.same_length ∙ so_far.same_length;
  here = λ page from to. ⊎_elim
      (λ last. let here : IsTorn torn (slice_chunk mid size (first + k)) (replicate size 0) (slice_chunk new size (first + k)) = rw blank at more.here in
      let before : slice_chunk mid size (first + k) ≡ slice_chunk old size (first + k) = so_far.after (first + k) (omega arith) in
      rw last (rw before at here))
      (λ apart. rw (more.others page apart) (so_far.here page from (omega arith)))
      (cases_eq page (first + k));
  before = λ page below. more.others page (omega arith) ∙ so_far.before page below;
  after = λ page above. more.others page (omega arith) ∙ so_far.after page (omega arith);
}
