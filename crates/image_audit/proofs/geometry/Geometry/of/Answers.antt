-- The limits of a head are those of its numbers.
use Rattle.std.proofs.Common.{◌≡◌, sym, subst}
use Rattle.image_audit.specs.Images.{geometry_of, IsFitting}
use Rattle.image_audit.proofs.Limits.{fitting}
use Rattle.image_audit.proofs.geometry.Geometry.of.Goals as goal

pub invariant_of-result : goal.invariant_of-result
invariant_of-result c =
    let same : geometry_of c.args.head.now ≡ record {
      blocks = c.args.head.now.blocks;
      pages = c.args.head.now.pages;
      main_bytes = c.page_bytes.result;
      generations = c.generations.result;
      span = c.span.result;
      sectors = c.args.head.now.sectors;
      sector_bytes = c.sector_bytes.result;
    } = λ i. record {
      blocks = c.args.head.now.blocks;
      pages = c.args.head.now.pages;
      main_bytes = sym c.page_bytes.ensures.row i;
      generations = sym c.generations.ensures.row i;
      span = sym c.span.ensures i;
      sectors = c.args.head.now.sectors;
      sector_bytes = sym c.sector_bytes.ensures i;
    } in
    subst IsFitting same (fitting c.args.head.now c.requires)
