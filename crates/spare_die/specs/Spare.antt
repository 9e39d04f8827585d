-- A die over a die with reserve blocks, as contracts see it.
use Rattle.std.specs.Prelude.{ℕ, ◌+◌, ◌*◌, ◌/◌, ◌%◌, List, [], ◌∷◌, ◌++◌, None, map}
use Rattle.std.specs.List.{range_with_len}
use Rattle.cell_die.specs.declared.shape.Shape.{Shape}
use Rattle.cell_die.specs.Counts.{count_sum}
use Rattle.cell_die.specs.DieState.{DieState, page_of}
use Rattle.spare_die.specs.Table.{home}

-- what the die counts for itself
pub record Own : Type 0 where
  -- how often each logical block was erased since the opening
  pub erases : List ℕ
  pub read_faults : ℕ
  pub change_faults : ℕ
  -- the numbers of named reserve blocks and of table pages that are not blank, at the opening
  pub named_at_opening : ℕ
  pub pages_at_opening : ℕ

-- where a page stands: in the inner block of its logical block, at the same place within it
abbrev pub spare_place : DieState → ℕ → ℕ
spare_place inner page = home inner (page / inner.shape.pages) * inner.shape.pages + page % inner.shape.pages

abbrev pub spare_shape : Shape → ℕ → Shape
spare_shape shape logical = record shape { blocks = logical }

-- the die over an inner die, with so many logical blocks
abbrev pub spare_state : DieState → ℕ → Own → DieState
spare_state inner logical own = record {
  shape = spare_shape inner.shape logical;
  cells = map (λ page. page_of inner (spare_place inner page)) (range_with_len 0 (logical * inner.shape.pages));
  erases = own.erases;
  read_faults = count_sum inner.read_faults own.read_faults;
  change_faults = count_sum inner.change_faults own.change_faults;
  fixed = inner.fixed ++ (inner.shape.blocks ∷ own.named_at_opening ∷ own.pages_at_opening ∷ []);
  failures = None;
}
