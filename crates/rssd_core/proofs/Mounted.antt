-- The tables of a scan are those of a mounted device: its numbers are the scheme's, as the buffers' are, and a read changes no cell.
use Rattle.std.proofs.Common.{◌≡◌, ℕ, ◌*◌, ◌-◌, ◌/◌, ◌<◌, ◌≤◌, false, List, length, Option, None, refl, sym, ap, ◌∙◌, subst, arith}
use Rattle.std.proofs.lemmas.List.{length-replicate}
use Rattle.std.proofs.Math.Nat.{mul-le-mul}
use Rattle.cell_die.specs.declared.shape.Shape.{Shape}
use Rattle.cell_die.specs.DieState.{DieState}
use Rattle.cell_die.specs.DieState as die_state
use Rattle.striped.specs.Meaning.{Meaning}
use Rattle.sector_map.specs.declared.entry.Entry.{Entry}
use Rattle.page_codec.specs.Geometry.{Geometry}
use Rattle.page_codec.specs.Sizes.{Sizes, Serves, ServesScheme}
use Rattle.page_codec.specs.TrueBook.{IsTrue, IsTrueBook, RecyclingDone}
use Rattle.mount_scan.specs.declared.scan.ScanRefusal.{ScanRefusal}
use Rattle.mount_scan.specs.declared.scan.ScanRefusal.TheVariants.{DieFault, NoSpare}
use Rattle.mount_scan.specs.declared.tables.Tables.{Tables as Scanned}
use Rattle.mount_scan.specs.New.{IsNew}
use Rattle.mount_scan.specs.Scanned.{AreMounted, Reads, ScanRefused}
use Rattle.mount_scan.specs.Scanned as scanned
use Rattle.collector.specs.Store.{geometry_of}
use Rattle.collector.proofs.Tables.{live_map_long}
use Rattle.rssd_core.specs.declared.device.Plan.{Plan}
use Rattle.rssd_core.specs.Steps.{IsSized}
use Rattle.rssd_core.specs.declared.whole.Tallies.{Tallies}
use Rattle.rssd_core.specs.Held.{IsHeld, held}
use Rattle.rssd_core.specs.Parts.{device_of}
use Rattle.rssd_core.specs.Mount.{numbers_of, Fits, Mounts, Refuses}
use Rattle.rssd_core.specs.Mounting.{sizes_of, why_refused}

-- the numbers by the buffers are those by the scheme
pub geometry_by_scheme : (shape : Shape) (meaning : Meaning) (plan : Plan) (sizes : Sizes) (sectors : ℕ) → sizes ≡ sizes_of meaning → sectors ≡ plan.sectors
    → scanned.geometry_of shape sizes sectors ≡ (numbers_of shape meaning plan).geometry
geometry_by_scheme shape meaning plan sizes sectors work same = λ i. scanned.geometry_of shape (work i) (same i)

pub buffers_serve : (shape : Shape) (meaning : Meaning) (plan : Plan) (sizes : Sizes) → Fits shape meaning plan → sizes ≡ sizes_of meaning → Serves sizes shape
buffers_serve shape meaning plan sizes fits work =
    let few = mul-le-mul fits.few_blocks fits.few_pages in
    subst (λ (w : Sizes). Serves w shape) (sym work) (record { main_bytes = fits.main_bytes; spare_bytes = fits.spare_bytes; few_pages = omega (arith, few) })

pub buffers_serve_scheme : (meaning : Meaning) (sizes : Sizes) → sizes ≡ sizes_of meaning → ServesScheme sizes meaning
buffers_serve_scheme meaning sizes work =
    subst (λ (w : Sizes). ServesScheme w meaning) (sym work) (record { page_bytes = refl; span = refl; sector_bytes = refl; generations = refl })

-- new tables have as many sectors as they were made for
pub new_sectors : (shape : Shape) (sectors span generations : ℕ) (tables : Scanned) → IsNew shape sectors span generations tables → length tables.map ≡ sectors
new_sectors shape sectors span generations tables fresh = ap length fresh.map ∙ length-replicate sectors None

module _ {C : Type 0} (meaning : C → Meaning) (scheme : C) (old new : DieState) (plan : Plan) (sizes : Sizes) (tables : Scanned) (sectors : ℕ) (fits : Fits old.shape (meaning scheme) plan)
    (work : sizes ≡ sizes_of (meaning scheme)) (same : sectors ≡ plan.sectors)
    (reads : Reads (die_state.page_count old.shape) old new) (mounted : AreMounted (scanned.geometry_of old.shape sizes sectors) plan.reuse_max old.cells tables) where
  by_scheme : AreMounted (numbers_of old.shape (meaning scheme) plan).geometry plan.reuse_max new.cells tables
  by_scheme =
      subst (λ (cells : List (List ℕ)). AreMounted (numbers_of old.shape (meaning scheme) plan).geometry plan.reuse_max cells tables) (sym reads.same_cells.cells)
      (subst (λ (g : Geometry). AreMounted g plan.reuse_max old.cells tables) (geometry_by_scheme old.shape (meaning scheme) plan sizes sectors work same) mounted)

  long : length tables.map ≡ plan.sectors
  long = ap length by_scheme.true_book.tables.entries ∙ live_map_long (numbers_of old.shape (meaning scheme) plan).geometry new.cells

  -- the numbers that the device shows are those of the mount
  geometry_is : geometry_of new.shape (meaning scheme) (length tables.map) ≡ (numbers_of old.shape (meaning scheme) plan).geometry
  geometry_is = λ i. geometry_of (reads.kept.shape i) (meaning scheme) (long i)

  -- the device with these tables, of which nothing was written yet
  pub device_mounts : {tallies : Tallies} → tallies ≡ record { first = 0; second = 0; declined = 0 }
      → Mounts (numbers_of old.shape (meaning scheme) plan) old
      (device_of meaning (record { store = held meaning new scheme tables.map tables.book tables.seq 0 false; reuse_max = plan.reuse_max; tallies = tallies }))
  device_mounts none = record {
    numbers = λ i. record { geometry = geometry_is i; meaning = meaning scheme; reuse_max = plan.reuse_max };
    mounted = record { found = by_scheme.found; mounted = by_scheme.mounted; recycled = by_scheme.recycled; seq = by_scheme.seq };
    counts = record { first = ap (λ (t : Tallies). t.first) none; second = ap (λ (t : Tallies). t.second) none; declined = ap (λ (t : Tallies). t.declined) none; moved = refl };
    running = refl;
    true_book = λ _. subst (λ (table : List (Option Entry)). IsTrueBook (numbers_of old.shape (meaning scheme) plan).geometry plan.reuse_max new.cells tables.book table tables.seq)
        by_scheme.true_book.tables.entries by_scheme.true_book;
    calls = reads.passed;
    cells = reads.same_cells;
    kept = reads.kept;
  }

  pub tables_settled : RecyclingDone plan.reuse_max tables.book
  tables_settled = by_scheme.true_book.recycling_done

  pub store_held : {room : ℕ} → room ≡ old.shape.pages → 0 < old.shape.pages / (meaning scheme).span → IsHeld meaning sizes room (held meaning new scheme tables.map tables.book tables.seq 0 false)
  store_held {room} moves some_units =
      let shape : new.shape ≡ old.shape = reads.kept.shape in
      let sized : IsSized (numbers_of old.shape (meaning scheme) plan).geometry = record {
        two_blocks = fits.two_blocks;
        pages = omega (arith, fits.two_pages);
        span = omega (arith, fits.served.some_span);
        some_units = some_units;
        two_slots = fits.served.two_generations;
        small_sector = fits.served.few_sector_bytes;
        small_page = subst (λ n. n ≤ 1200) (sym fits.main_bytes) fits.served.few_page_bytes;
      } in
      record {
        die = subst (Serves sizes) (sym shape) (buffers_serve old.shape (meaning scheme) plan sizes fits work);
        scheme = buffers_serve_scheme (meaning scheme) sizes work;
        moves = subst (λ (g : Geometry). g.pages ≤ room) (sym geometry_is) (omega (arith, moves));
        stands = record {
          sized = subst IsSized (sym geometry_is) sized;
          spare = subst (λ (g : Geometry). g.sectors < (g.blocks - 1) * g.pages) (sym geometry_is) fits.few_sectors;
          tables = λ _. subst (λ (g : Geometry). IsTrue g new.cells tables.book tables.map tables.seq) (sym geometry_is) by_scheme.true_book.tables;
        };
      }

-- what a refused scan says is what a refused mount says
refuses : (shape : Shape) (meaning : Meaning) (plan : Plan) (old new : DieState) (why : ScanRefusal) → ScanRefused (numbers_of shape meaning plan).geometry old new why
    → Refuses (numbers_of shape meaning plan) old new (why_refused why)
refuses shape meaning plan old new NoSpare (full, reads) = record { calls = reads.passed; cells = reads.same_cells; kept = reads.kept; full = full }
refuses shape meaning plan old new DieFault fails = record { failed = fails.failed; cells = fails.same_cells; kept = fails.kept }

pub mount_refuses : (old new : DieState) (meaning : Meaning) (plan : Plan) (sizes : Sizes) (sectors : ℕ) (why : ScanRefusal) → sizes ≡ sizes_of meaning → sectors ≡ plan.sectors
    → ScanRefused (scanned.geometry_of old.shape sizes sectors) old new why → Refuses (numbers_of old.shape meaning plan) old new (why_refused why)
mount_refuses old new meaning plan sizes sectors why work same refused =
    refuses old.shape meaning plan old new why
    (subst (λ (g : Geometry). ScanRefused g old new why) (geometry_by_scheme old.shape meaning plan sizes sectors work same) refused)
