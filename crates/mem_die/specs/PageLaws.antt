-- Laws of a row of bytes as pages.
use Rattle.std.proofs.Common.{◌≡◌, ℕ, ◌+◌, ◌*◌, ◌-◌, ◌<◌, ◌≤◌, min, List, [], length, arith, ⊎_elim, ◌∙◌, sym}
use Rattle.std.specs.Fork.{slice_chunk}
use Rattle.std.specs.List.{All}
use Rattle.std.proofs.lemmas.List.{get_or-take, get_or-drop, length-take, length-drop, get_or_past, nil_from_length}
use Rattle.std.proofs.lemmas.List.FromFn.{get_or-map-range_with_len, length-map-range_with_len}
use Rattle.std.proofs.lemmas.Bool.{cases_lt}
use Rattle.std.proofs.Math.Nat.{mul-le-mul_right}
use Rattle.cell_die.specs.Cells.{page_at}
use Rattle.mem_die.specs.Pages.{pages_of}

-- how long a page is
pub length-chunk : (bytes : List ℕ) (size page : ℕ) → length (slice_chunk bytes size page) ≡ min size (length bytes - page * size)
length-chunk bytes size page = simp (length-take, length-drop)

-- a page that is not there is empty
pub chunk_past : (bytes : List ℕ) (size count page : ℕ) → length bytes ≡ count * size → count ≤ page → slice_chunk bytes size page ≡ []
chunk_past bytes size count page whole past =
    let far : count * size ≤ page * size = mul-le-mul_right size past in
    nil_from_length (slice_chunk bytes size page) (omega (arith, length-chunk bytes size page))

-- a page that is there is whole
pub chunk_whole : (bytes : List ℕ) (size count page : ℕ) → length bytes ≡ count * size → page < count → length (slice_chunk bytes size page) ≡ size
chunk_whole bytes size count page whole inside =
    let room : (page + 1) * size ≤ count * size = mul-le-mul_right size (let h : page + 1 ≤ count = omega arith in h) in
    omega (arith, length-chunk bytes size page)

pub page_at-pages : (bytes : List ℕ) (size count page : ℕ) → length bytes ≡ count * size → page_at (pages_of size count bytes) page ≡ slice_chunk bytes size page
page_at-pages bytes size count page whole =
    ⊎_elim
    (λ inside. get_or-map-range_with_len (slice_chunk bytes size) 0 count page page [] inside (omega arith))
    (λ past. get_or_past (pages_of size count bytes) page [] (omega (arith, length-map-range_with_len (slice_chunk bytes size) 0 count))
    ∙ sym (chunk_past bytes size count page whole past))
    (cases_lt page count)

-- what holds of each byte holds of each byte of a page
pub All-chunk : (bytes : List ℕ) (size page : ℕ) (P : ℕ → Type 0) → All P bytes → All P (slice_chunk bytes size page)
All-chunk bytes size page P all k d below =
    let long : length (slice_chunk bytes size page) ≡ min size (length bytes - page * size) = length-chunk bytes size page in
    let within : k < size = omega arith in
    rw (get_or-take, get_or-drop) (all (page * size + k) d (omega arith))
