-- Two dies as one.
use Rattle.std.specs.Prelude.{◌≡◌, ℕ, ◌*◌, ◌==◌, ◌&&◌, List, [], Bool, true, Option, None, Some, map, if◌then◌else◌}
use Rattle.std.specs.List.{range_with_len}
use Rattle.cell_die.specs.declared.shape.Shape.{Shape}
use Rattle.cell_die.specs.declared.shape.Torn.TheVariants.{Nothing}
use Rattle.cell_die.specs.Counts.{count_sum}
use Rattle.cell_die.specs.DieState.{DieState, Failures, page_of, erases_of}
use Rattle.stripe_die.specs.declared.half.Half.{Half}
use Rattle.stripe_die.specs.declared.half.Half.TheVariants.{First, Second}
use Rattle.stripe_die.specs.Places.{block_place, page_place, at_place}

-- twice the blocks
abbrev pub pair_shape : Shape → Shape
pair_shape shape = record { blocks = 2 * shape.blocks; pages = shape.pages; main_bytes = shape.main_bytes; spare_bytes = shape.spare_bytes }

-- the cells of a page are those of the die in which it stands
abbrev pub pair_page : DieState → DieState → ℕ → List ℕ
pair_page a b page = at_place (page_of a) (page_of b) (page_place a.shape.pages page)

-- and so is the erase count of a block
abbrev pub pair_count : DieState → DieState → ℕ → ℕ
pair_count a b block = at_place (erases_of a) (erases_of b) (block_place block)

-- the die has power and nothing armed
abbrev pub is_idle : Failures → Bool
is_idle failures = failures.powered && (failures.cut == 0) && (failures.read_failure == 0)

abbrev pub idle : Failures
idle = record { powered = true; cut = 0; form = Nothing; read_failure = 0 }

-- the pair tells only that both dies have power and nothing armed
abbrev pub pair_failures : Option Failures → Option Failures → Option Failures
pair_failures None y = None
pair_failures (Some a) None = None
pair_failures (Some a) (Some b) = if is_idle a && is_idle b then Some idle else None

-- the two dies as one
abbrev pub pair_state : DieState → DieState → DieState
pair_state a b = record {
  shape = pair_shape a.shape;
  cells = map (pair_page a b) (range_with_len 0 (2 * a.shape.blocks * a.shape.pages));
  erases = map (pair_count a b) (range_with_len 0 (2 * a.shape.blocks));
  read_faults = count_sum a.read_faults b.read_faults;
  change_faults = count_sum a.change_faults b.change_faults;
  fixed = [];
  failures = pair_failures a.failures b.failures;
}

-- P holds of the die in which this stands, before and after, and the other die stays as it was
abbrev pub OnOne : Half → (DieState → DieState → Type 0) → DieState → DieState → DieState → DieState → Type 0
OnOne (First n) P a b a' b' = P a a' × (b' ≡ b)
OnOne (Second n) P a b a' b' = P b b' × (a' ≡ a)
