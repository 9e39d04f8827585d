-- A head within the limits has a sector, and a scheme of the table at most 512 bytes of it.
use Rattle.std.proofs.Common.{ℕ, ◌≤◌, sym, ◌∙◌, subst, arith}
use Rattle.rssd_run.proofs.HeadLimits.{head_fits}
use Rattle.schemes.proofs.Rows.{named_row}
use Rattle.rssd_lab.proofs.top.plan_of.Goals as goal

pub returns-clause-sectors : goal.returns-clause-sectors
returns-clause-sectors c =
    let fits = head_fits c.args.head.now c.requires in
    omega (arith, fits.some_sectors)

pub returns-clause-few_bytes : goal.returns-clause-few_bytes
returns-clause-few_bytes c =
    let fits = head_fits c.args.head.now c.requires in
    subst (λ (n : ℕ). n ≤ 512) ((named_row c.args.head.now.scheme).sector_bytes ∙ sym c.sector_bytes-sector_bytes.ensures) fits.served.few_sector_bytes
