-- What a drawn workload is to those that draw its lines.
use Rattle.std.specs.Prelude.{◌≡◌, ℕ, ◌+◌}
use Rattle.rssd_script.specs.declared.lines.Line.{Line}
use Rattle.lab_lines.specs.declared.drawn.Drawn.{Drawn}
use Rattle.lab_lines.specs.Workload.{DrawPlan, DrawState, drawn_line, state_after}

abbrev pub plan_of : Drawn → DrawPlan
plan_of drawn = record { kind = drawn.plan.kind; sectors = drawn.plan.sectors; sector_bytes = drawn.plan.sector_bytes; idle = drawn.plan.idle }

abbrev pub state_of : Drawn → DrawState
state_of drawn = record { words = drawn.words; turn = drawn.turn }

-- how many lines are still to come
abbrev pub left_of : Drawn → ℕ
left_of drawn = drawn.left

-- the next line came
pub record DrawsLine (old : Drawn) (line : Line) (new : Drawn) : Type 0 where
  pub some : left_of new + 1 ≡ left_of old
  pub line_is : line ≡ drawn_line (plan_of old) (state_of old)
  pub state : state_of new ≡ state_after (plan_of old) (state_of old)
  pub plan : plan_of new ≡ plan_of old

-- none was left
pub record DrawsNone (old new : Drawn) : Type 0 where
  pub none : left_of old ≡ 0
  pub same : new ≡ old
