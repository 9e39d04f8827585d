-- The limits of a head, for each scheme of the table, as those of its die and of its device.
use Rattle.std.proofs.Common.{◌≡◌, ◌⊎◌, ℕ, ◌+◌, ◌-◌, ◌*◌, ◌≤◌, true, sym, ap, arith}
use Rattle.mem_die.specs.Limits.{IsWithinLimits as FitsDie}
use Rattle.die_image.specs.declared.head.ImageHead.{ImageHead}
use Rattle.die_image.specs.declared.scheme.SchemeName.{SchemeName}
use Rattle.die_image.specs.Schemes.{row_of}
use Rattle.die_image.specs.Image.{is_within_limits, die_bytes, shape_of}
use Rattle.rssd_core.specs.Mount.{Fits, IsServed}
use Rattle.schemes.specs.Schemes.{meaning_named, HasRow}
use Rattle.schemes.proofs.Rows.{named_row}
use Rattle.striped.specs.Meaning.{Meaning}
use Rattle.std.proofs.lemmas.Bool.Decides.{nat_tests}
use Rattle.rssd_run.specs.Heads.{plan_of}

-- a scheme with the numbers of its row is served
row_served : (name : SchemeName) (meaning : Meaning) → HasRow name meaning → IsServed meaning
unfolding row_of
row_served name meaning row = grind arith

named_served : (name : SchemeName) → IsServed (meaning_named name)
named_served name = row_served name (meaning_named name) (named_row name)

-- the limits, as facts
pub record HeadLimits (head : ImageHead) : Type 0 where
  pub some_blocks : 2 ≤ head.blocks
  pub blocks : head.blocks ≤ 1_024
  pub some_pages : 2 ≤ head.pages
  pub pages : head.pages ≤ 128
  pub bytes : head.blocks * head.pages * ((row_of head.scheme).page_bytes + 16 * (row_of head.scheme).generations) ≤ 67_108_864
  pub some_sectors : 1 ≤ head.sectors
  pub sectors : head.sectors + 1 ≤ (head.blocks - 1) * head.pages
  pub reuse : head.reuse_max ≤ head.blocks

pub head_limits : (head : ImageHead) → is_within_limits head ≡ true → HeadLimits head
unfolding is_within_limits die_bytes
head_limits head within = grind (arith, nat_tests)

pub head_fits_die : (head : ImageHead) → is_within_limits head ≡ true → FitsDie (shape_of head)
head_fits_die head within =
    let l : HeadLimits head = head_limits head within in
    let served : IsServed (meaning_named head.scheme) = named_served head.scheme in
    let row : HasRow head.scheme (meaning_named head.scheme) = named_row head.scheme in
    record {
      some_blocks = omega (arith, l.some_blocks);
      some_pages = omega (arith, l.some_pages);
      some_main = omega (arith, served.some_page_bytes, row.page_bytes);
      some_spare = omega (arith, served.two_generations, row.generations);
      blocks = l.blocks;
      pages = l.pages;
      main_bytes = omega (arith, served.few_page_bytes, row.page_bytes);
      spare_bytes = omega (arith, served.three_generations, row.generations);
      total = l.bytes;
    }

pub head_fits : (head : ImageHead) → is_within_limits head ≡ true → Fits (shape_of head) (meaning_named head.scheme) (plan_of head)
head_fits head within =
    let l : HeadLimits head = head_limits head within in
    let row : HasRow head.scheme (meaning_named head.scheme) = named_row head.scheme in
    record {
      served = named_served head.scheme;
      two_blocks = l.some_blocks;
      few_blocks = l.blocks;
      two_pages = l.some_pages;
      few_pages = l.pages;
      main_bytes = sym row.page_bytes;
      spare_bytes = ap (λ (n : ℕ). 16 * n) (sym row.generations);
      few_bytes = l.bytes;
      some_sectors = l.some_sectors;
      few_sectors = omega (arith, l.sectors);
      reuse = l.reuse;
    }

-- a sector has 16 or 512 bytes
pub sector_bytes_named : (name : SchemeName) → ((row_of name).sector_bytes ≡ 16) ⊎ ((row_of name).sector_bytes ≡ 512)
unfolding row_of
sector_bytes_named name = grind arith
