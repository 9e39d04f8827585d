-- Where the bytes of a page stand among those of an image.
use Rattle.std.proofs.Common.{◌≡◌, ℕ, ◌+◌, ◌-◌, ◌*◌, ◌<◌, ◌≤◌, List, take, drop, length, sym, ap, ap₂, ◌∙◌, arith}
use Rattle.std.specs.Prelude.{slice_range}
use Rattle.std.proofs.Math.Nat.{mul-le-mul_right}
use Rattle.std.proofs.lemmas.List.{drop-drop, take-take, drop-take}
use Rattle.page_codec.specs.Geometry.{Geometry, page_count, main_at, spare_at}
use Rattle.mem_die.specs.PageLaws.{page_at-pages}
use Rattle.image_audit.specs.Images.{HasLength, pages_in, whole_bytes}

-- a page lies within the bytes
pub page_room : (g : Geometry) (bytes : List ℕ) (page : ℕ) → HasLength g bytes → page < page_count g → page * whole_bytes g + whole_bytes g ≤ length bytes
page_room g bytes page long h =
    let k : (page + 1) * whole_bytes g ≤ page_count g * whole_bytes g = mul-le-mul_right (whole_bytes g) (let l : page + 1 ≤ page_count g = omega arith in l) in
    omega arith

pub spare_range : (g : Geometry) (bytes : List ℕ) (page : ℕ) → HasLength g bytes
    → slice_range bytes (page * whole_bytes g + g.main_bytes) (page * whole_bytes g + whole_bytes g) ≡ spare_at g (pages_in g bytes) page
spare_range g bytes page long =
    let start : ℕ = page * whole_bytes g in
    let rest : ℕ = 16 * g.generations in
    ap₂ (λ (n : ℕ) (xs : List ℕ). take n xs) (let e : start + whole_bytes g - (start + g.main_bytes) ≡ rest = omega arith in e) (sym (drop-drop g.main_bytes start bytes))
    ∙ (sym (drop-take g.main_bytes rest (drop start bytes))
    ∙ ap (drop g.main_bytes) (sym (page_at-pages bytes (whole_bytes g) (page_count g) page long)))

pub main_range : (g : Geometry) (bytes : List ℕ) (page : ℕ) → HasLength g bytes → slice_range bytes (page * whole_bytes g) (page * whole_bytes g + g.main_bytes) ≡ main_at g (pages_in g bytes) page
main_range g bytes page long =
    let start : ℕ = page * whole_bytes g in
    ap (λ (n : ℕ). take n (drop start bytes)) (let e : start + g.main_bytes - start ≡ g.main_bytes = omega arith in e)
    ∙ (sym (take-take g.main_bytes (whole_bytes g) (drop start bytes) (omega arith))
    ∙ ap (take g.main_bytes) (sym (page_at-pages bytes (whole_bytes g) (page_count g) page long)))
