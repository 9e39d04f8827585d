-- The limits of a head, as those of its geometry.
use Rattle.std.proofs.Common.{◌≡◌, ℕ, ◌+◌, ◌-◌, ◌*◌, ◌≤◌, true, arith, lit≤}
use Rattle.std.specs.Prelude.{nat_le, ◌&&◌, List}
use Rattle.std.proofs.lemmas.Bool.{leb-true, and_parts}
use Rattle.die_image.specs.declared.head.ImageHead.{ImageHead}
use Rattle.die_image.specs.declared.scheme.SchemeName.{SchemeName}
use Rattle.die_image.specs.declared.scheme.SchemeName.TheVariants.{Plain16, Rs16, Rs512, Coset16, Coset512, Flip16, Flip512, Ham16, Ham512}
use Rattle.die_image.specs.Schemes.{row_of}
use Rattle.die_image.specs.Image.{is_within_limits, die_bytes}
use Rattle.image_audit.specs.Images.{geometry_of, IsFitting, HasLength, AreOf}

-- the sizes of a row of the table
record RowSizes (name : SchemeName) : Type 0 where
  some_sector : 1 ≤ (row_of name).sector_bytes
  few_sector : (row_of name).sector_bytes ≤ 512
  some_page : 1 ≤ (row_of name).page_bytes
  few_page : (row_of name).page_bytes ≤ 1_200
  some_span : 1 ≤ (row_of name).span
  small_span : (row_of name).span ≤ 2
  two_slots : 2 ≤ (row_of name).generations
  few_slots : (row_of name).generations ≤ 3

row_sizes : (name : SchemeName) → RowSizes name
unfolding row_of
row_sizes Plain16 = record { some_sector = lit≤ tt; few_sector = lit≤ tt; some_page = lit≤ tt; few_page = lit≤ tt; some_span = lit≤ tt; small_span = lit≤ tt; two_slots = lit≤ tt; few_slots = lit≤ tt }
row_sizes Rs16 = record { some_sector = lit≤ tt; few_sector = lit≤ tt; some_page = lit≤ tt; few_page = lit≤ tt; some_span = lit≤ tt; small_span = lit≤ tt; two_slots = lit≤ tt; few_slots = lit≤ tt }
row_sizes Rs512 = record { some_sector = lit≤ tt; few_sector = lit≤ tt; some_page = lit≤ tt; few_page = lit≤ tt; some_span = lit≤ tt; small_span = lit≤ tt; two_slots = lit≤ tt; few_slots = lit≤ tt }
row_sizes Coset16 = record { some_sector = lit≤ tt; few_sector = lit≤ tt; some_page = lit≤ tt; few_page = lit≤ tt; some_span = lit≤ tt; small_span = lit≤ tt; two_slots = lit≤ tt; few_slots = lit≤ tt }
row_sizes Coset512 =
    record { some_sector = lit≤ tt; few_sector = lit≤ tt; some_page = lit≤ tt; few_page = lit≤ tt; some_span = lit≤ tt; small_span = lit≤ tt; two_slots = lit≤ tt; few_slots = lit≤ tt }
row_sizes Flip16 = record { some_sector = lit≤ tt; few_sector = lit≤ tt; some_page = lit≤ tt; few_page = lit≤ tt; some_span = lit≤ tt; small_span = lit≤ tt; two_slots = lit≤ tt; few_slots = lit≤ tt }
row_sizes Flip512 = record { some_sector = lit≤ tt; few_sector = lit≤ tt; some_page = lit≤ tt; few_page = lit≤ tt; some_span = lit≤ tt; small_span = lit≤ tt; two_slots = lit≤ tt; few_slots = lit≤ tt }
row_sizes Ham16 = record { some_sector = lit≤ tt; few_sector = lit≤ tt; some_page = lit≤ tt; few_page = lit≤ tt; some_span = lit≤ tt; small_span = lit≤ tt; two_slots = lit≤ tt; few_slots = lit≤ tt }
row_sizes Ham512 = record { some_sector = lit≤ tt; few_sector = lit≤ tt; some_page = lit≤ tt; few_page = lit≤ tt; some_span = lit≤ tt; small_span = lit≤ tt; two_slots = lit≤ tt; few_slots = lit≤ tt }

pub fitting : (head : ImageHead) → is_within_limits head ≡ true → IsFitting (geometry_of head)
unfolding is_within_limits die_bytes
fitting head within =
    let to_g = and_parts _ (nat_le head.reuse_max head.blocks) within in
    let to_f = and_parts _ (nat_le (head.sectors + 1) ((head.blocks - 1) * head.pages)) to_g.0 in
    let to_e = and_parts _ (nat_le 1 head.sectors) to_f.0 in
    let to_d = and_parts _ (nat_le (die_bytes head) 67_108_864) to_e.0 in
    let to_c = and_parts (nat_le 2 head.blocks && nat_le head.blocks 1_024 && nat_le 2 head.pages) (nat_le head.pages 128) to_d.0 in
    let to_b = and_parts (nat_le 2 head.blocks && nat_le head.blocks 1_024) (nat_le 2 head.pages) to_c.0 in
    let to_a = and_parts (nat_le 2 head.blocks) (nat_le head.blocks 1_024) to_b.0 in
    let sizes : RowSizes head.scheme = row_sizes head.scheme in
    let two_pages : 2 ≤ head.pages = leb-true 2 head.pages to_b.1 in
    record {
      few_blocks = leb-true head.blocks 1_024 to_a.1;
      some_pages = omega arith;
      few_pages = leb-true head.pages 128 to_c.1;
      some_main_bytes = sizes.some_page;
      few_main_bytes = sizes.few_page;
      two_generations = sizes.two_slots;
      few_generations = sizes.few_slots;
      some_span = sizes.some_span;
      small_span = sizes.small_span;
      some_sector_bytes = sizes.some_sector;
      few_sector_bytes = sizes.few_sector;
    }

pub whole_length : (head : ImageHead) (cells : List ℕ) → AreOf head cells → HasLength (geometry_of head) cells
unfolding die_bytes
whole_length head cells are = are.whole
