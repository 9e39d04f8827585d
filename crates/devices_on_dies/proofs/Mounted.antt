-- The tables that a scan leaves are true to the cells, for the numbers that a scheme shows.
use Rattle.std.proofs.Common.{◌≡◌, ℕ, List, length, Option, sym, ap, ◌∙◌, subst}
use Rattle.cell_die.specs.DieState.{DieState}
use Rattle.striped.specs.Meaning.{Meaning}
use Rattle.sector_map.specs.declared.entry.Entry.{Entry}
use Rattle.page_codec.specs.Sizes.{Sizes, ServesScheme}
use Rattle.page_codec.specs.Geometry.{Geometry}
use Rattle.page_codec.specs.TrueBook.{IsTrue}
use Rattle.mount_scan.specs.declared.tables.Tables.{Tables}
use Rattle.mount_scan.specs.Scanned.{geometry_of as scanned_geometry, AreMounted, Reads}
use Rattle.collector.specs.Store.{geometry_of}
use Rattle.collector.proofs.Named.{live_map_long}

pub scanned_true : (old new : DieState) (meaning : Meaning) (sizes : Sizes) (tables : Tables) (sectors few pages : ℕ) → ServesScheme sizes meaning
    → AreMounted (scanned_geometry old.shape sizes sectors) few old.cells tables
    → Reads pages old new → IsTrue (geometry_of new.shape meaning (length tables.map)) new.cells tables.book tables.map tables.seq
scanned_true old new meaning sizes tables sectors few pages scheme mounted reads =
    subst (λ (cells : List (List ℕ)). IsTrue (geometry_of new.shape meaning (length tables.map)) cells tables.book tables.map tables.seq) (sym reads.same_cells.cells)
    (subst (λ (g : Geometry). IsTrue g old.cells tables.book tables.map tables.seq) same mounted.true_book.tables)
  where
    long : length tables.map ≡ sectors
    long = ap length mounted.true_book.tables.entries ∙ live_map_long (scanned_geometry old.shape sizes sectors) old.cells

    same : scanned_geometry old.shape sizes sectors ≡ geometry_of new.shape meaning (length tables.map)
    same = λ i. record {
      blocks = (sym reads.kept.shape i).blocks;
      pages = (sym reads.kept.shape i).pages;
      main_bytes = (sym reads.kept.shape i).main_bytes;
      generations = sym scheme.generations i;
      span = sym scheme.span i;
      sectors = sym long i;
      sector_bytes = sym scheme.sector_bytes i;
    }
