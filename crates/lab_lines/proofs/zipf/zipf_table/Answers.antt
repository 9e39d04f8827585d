-- Each turn adds the next row.
use Rattle.std.proofs.Common.{◌+◌, ◌/◌, ◌++◌, List, ℕ, sym, ap, ◌∙◌}
use Rattle.std.specs.Prelude.{replicate}
use Rattle.lab_lines.proofs.ZipfRows.{one_more_row, no_row}
use Rattle.lab_lines.proofs.zipf.zipf_table.Goals as goal

pub loop-sector-init : goal.loop-sector-init
loop-sector-init c = c.new-table.ensures.items ∙ sym (no_row c.args.sectors)

pub loop-sector-preserved : goal.loop-sector-preserved
loop-sector-preserved c =
    c.in_ok-push_times.ensures
    ∙ (ap (λ (rows : List ℕ). rows ++ replicate (c.args.sectors / (c.loop-sector.sector + 1)) c.loop-sector.sector) c.loop-sector.invariant
    ∙ one_more_row c.args.sectors c.loop-sector.sector)
