-- From the bytes of a die in memory to its pages.
use Rattle.std.proofs.Common.{◌≡◌, ◌≢◌, ℕ, ◌+◌, ◌*◌, ◌-◌, ◌/◌, ◌<◌, ◌≤◌, List, take, length, arith, ◌∙◌, sym, get_or, replicate, ⊎_elim}
use Rattle.std.specs.List.{All as Each}
use Rattle.std.specs.Vec.{with_items}
use Rattle.std.proofs.Common.{Vec}
use Rattle.std.specs.declared.alloc.Global.{Global}
use Rattle.std.proofs.Common.{◌⊎◌, ap, inl, inr}
use Rattle.std.specs.Fork.{slice_chunk}
use Rattle.std.proofs.lemmas.List.{get_or_default, with_items_is, length-replicate, take-replicate, drop-replicate}
use Rattle.std.proofs.lemmas.Bool.{cases_lt}
use Rattle.std.proofs.Math.Nat.{mul-le-mul_right, div-mul-le_self, lt-div-mul-add}
use Rattle.std.specs.Prelude.{if◌then◌else◌, ◌==◌}
use Rattle.std.specs.Int.{bit_at}
use Rattle.std.proofs.Common.{Bool, true, false, ◌%◌}
use Rattle.cell_die.specs.Cells.{page_at, charge, charge_at, blank_page, IsAbove}
use Rattle.cell_die.proofs.CellLaws.{charge_above, no_charge}
use Rattle.cell_bits.proofs.Above.{above_refl}
use Rattle.cell_die.specs.declared.shape.Torn.TheVariants.{Nothing, All, Mask}
use Rattle.cell_die.specs.declared.shape.Torn.{Torn}
use Rattle.mem_die.specs.Pages.{pages_of}
use Rattle.mem_die.specs.PageLaws.{page_at-pages}
use Rattle.mem_die.specs.Tears.{IsTorn}

-- what a `Vec` holds after a write to its slice
pub vec_items : (v : Vec ℕ Global) (ws : List ℕ) → length ws ≡ length v.items → (with_items v ws).items ≡ ws
vec_items v ws long = with_items_is v ws (long ∙ sym v.ok.0)

-- a page that the bytes keep is kept
pub same_page : (size count : ℕ) (old ws new : List ℕ) (page : ℕ) → new ≡ ws → length old ≡ count * size → length ws ≡ length old
    → slice_chunk ws size page ≡ slice_chunk old size page → page_at (pages_of size count new) page ≡ page_at (pages_of size count old) page
same_page size count old ws new page is whole long same =
    ap (λ bytes. page_at (pages_of size count bytes) page) is
    ∙ (page_at-pages ws size count page (long ∙ whole) ∙ (same ∙ sym (page_at-pages old size count page whole)))

-- how a page changes
pub torn_page : (torn : Torn) (size count : ℕ) (old target ws new : List ℕ) (page : ℕ) → new ≡ ws → length old ≡ count * size → length ws ≡ length old
    → IsTorn torn (slice_chunk old size page) target (slice_chunk ws size page) → IsTorn torn (page_at (pages_of size count old) page) target (page_at (pages_of size count new) page)
torn_page torn size count old target ws new page is whole long torn_here =
    rw (is, page_at-pages ws size count page (long ∙ whole), page_at-pages old size count page whole) torn_here

-- what a page becomes
pub new_page : (size count : ℕ) (old ws new content : List ℕ) (page : ℕ) → new ≡ ws → length old ≡ count * size → length ws ≡ length old
    → slice_chunk ws size page ≡ content → page_at (pages_of size count new) page ≡ content
new_page size count old ws new content page is whole long here =
    ap (λ bytes. page_at (pages_of size count bytes) page) is ∙ (page_at-pages ws size count page (long ∙ whole) ∙ here)

pub bytes_fit : (xs : List ℕ) → ((i : ℕ) → get_or xs i 0 < 256) → Each (λ byte. byte < 256) xs
bytes_fit xs fit k d below = rw (get_or_default xs k d 0 below) (fit k)

-- the room that a page needs is there
pub page_room : (size count page : ℕ) (bytes : List ℕ) → length bytes ≡ count * size → page < count → (page + 1) * size ≤ length bytes
page_room size count page bytes whole below =
    let h : page + 1 ≤ count = omega arith in
    let room : (page + 1) * size ≤ count * size = mul-le-mul_right size h in
    omega arith

-- where the pages of a block stand
pub in_block : (page block pages : ℕ) → 0 < pages → page / pages ≡ block → (block * pages ≤ page) × (page < block * pages + pages)
in_block page block pages some is =
    let low : page / pages * pages ≤ page = div-mul-le_self page pages in
    let high : page < page / pages * pages + pages = lt-div-mul-add some in
    (rw is at low, rw is at high)

pub out_of_block : (page block pages : ℕ) → 0 < pages → page / pages ≢ block → (page < block * pages) ⊎ (block * pages + pages ≤ page)
out_of_block page block pages some apart = ⊎_elim
    (λ before. inl (let step : (page / pages + 1) * pages ≤ block * pages = mul-le-mul_right pages (let h : page / pages + 1 ≤ block = omega arith in h) in
    let high : page < page / pages * pages + pages = lt-div-mul-add some in omega arith))
    (λ after. inr (let step : (block + 1) * pages ≤ page / pages * pages = mul-le-mul_right pages (let h : block + 1 ≤ page / pages = omega arith in h) in
    let low : page / pages * pages ≤ page = div-mul-le_self page pages in omega arith))
    (cases_lt (page / pages) block)

-- a cell that is charged or not goes up
pub charged_or_not_above : (reached : Bool) (page : List ℕ) (cell : ℕ) → cell < 8 * length page → IsAbove (if reached then charge page cell else page) page
charged_or_not_above true page cell below = charge_above page cell below
charged_or_not_above false page cell below = above_refl page

-- a page that a torn erase leaves is below the old one
pub torn_erase_below : (torn : Torn) (bytes : ℕ) (old new : List ℕ) → length old ≡ bytes → IsTorn torn old (blank_page bytes) new → IsAbove old new
torn_erase_below Nothing bytes old new long same = rw same (above_refl old)
torn_erase_below All bytes old new long blank = record {
  same_length = long ∙ sym (ap length blank ∙ length-replicate bytes 0);
  charged = λ cell. rw (blank, no_charge bytes cell) (omega arith);
}
torn_erase_below (Mask mask) bytes old new long blended = record {
  same_length = sym blended.same_length;
  charged = λ cell. rw (blended.cells cell, no_charge bytes cell) (zero_or (bit_at mask (cell % 64) == 1) (charge_at old cell));
} where
  zero_or : (b : Bool) (n : ℕ) → (if b then 0 else n) ≤ n
  zero_or true n = omega arith
  zero_or false n = omega arith

-- a page of bytes that are all zero is blank
pub zero_page : (size count : ℕ) (bytes : List ℕ) (page : ℕ) → bytes ≡ replicate (count * size) 0 → page < count → page_at (pages_of size count bytes) page ≡ blank_page size
zero_page size count bytes page zeros below =
    let whole : length bytes ≡ count * size = ap length zeros ∙ length-replicate (count * size) 0 in
    let end : page * size + size ≤ count * size = (let h : page + 1 ≤ count = omega arith in let room : (page + 1) * size ≤ count * size = mul-le-mul_right size h in omega arith) in
    page_at-pages bytes size count page whole
    ∙ (ap (λ row. slice_chunk row size page) zeros
    ∙ (ap (λ row. take size row) (drop-replicate (page * size) (count * size) 0) ∙ take-replicate size (count * size - page * size) 0 (omega arith)))
