-- These bytes are a part of the page.
use Rattle.std.proofs.Common.{◌≡◌, ℕ, ◌+◌, ◌*◌, ◌<◌, sym, subst, ap, arith, length-take, length-drop}
use Rattle.std.specs.Prelude.{slice_range}
use Rattle.page_codec.specs.Geometry.{Geometry, page_count, main_at}
use Rattle.image_audit.specs.declared.geometry.Geometry.TheInside.{Inside}
use Rattle.image_audit.specs.Images.{HasLength, pages_in, whole_bytes}
use Rattle.image_audit.proofs.Pages.{main_range, page_room}
use Rattle.image_audit.proofs.geometry.Geometry.main.Goals as goal

-- the geometry of the fields
abbrev view : Inside → Geometry
view i = record { blocks = i.blocks; pages = i.pages; main_bytes = i.main_bytes; generations = i.generations; span = i.span; sectors = i.sectors; sector_bytes = i.sector_bytes }

pub slice_bounds-result-end : goal.slice_bounds-result-end
slice_bounds-result-end c =
    let long : HasLength (view c.self.inside) c.args.cells.now = subst (λ (g : Geometry). HasLength g c.args.cells.now) (sym c.self.view_is) c.requires.long in
    let within : c.args.page < page_count (view c.self.inside) = subst (λ (g : Geometry). c.args.page < page_count g) (sym c.self.view_is) c.requires.page in
    omega (arith, page_room (view c.self.inside) c.args.cells.now c.args.page long within)

pub returns : goal.returns
returns c =
    let g : Geometry = view c.self.inside in
    let long : HasLength g c.args.cells.now = subst (λ (g : Geometry). HasLength g c.args.cells.now) (sym c.self.view_is) c.requires.long in
    let within : c.args.page < page_count g = subst (λ (g : Geometry). c.args.page < page_count g) (sym c.self.view_is) c.requires.page in
    let start : ℕ = c.args.page * whole_bytes g in
    record {
      main =
          subst (λ (h : Geometry). slice_range c.args.cells.now start (start + g.main_bytes) ≡ main_at h (pages_in h c.args.cells.now) c.args.page) c.self.view_is
          (main_range g c.args.cells.now c.args.page long);
      long = simp (length-take, length-drop) (omega (arith, page_room g c.args.cells.now c.args.page long within, ap (λ (h : Geometry). h.main_bytes) c.self.view_is));
    }
