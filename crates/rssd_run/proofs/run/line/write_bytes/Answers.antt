-- The row that is written is the bytes, filled up.
use Rattle.std.proofs.Common.{◌≡◌, ◌∙◌, ℕ, ◌≤◌, List, length, take}
use Rattle.rssd_core.specs.SectorArray.{filled_up}
use Rattle.rssd_run.proofs.Rows.{filled_front, filled_whole}
use Rattle.rssd_run.proofs.run.line.write_bytes.Goals as goal

row_is : (size : ℕ) (bytes row : List ℕ) (sector_bytes : ℕ) → size ≡ sector_bytes → row ≡ filled_up 512 bytes → length bytes ≤ sector_bytes → sector_bytes ≤ 512
    → take size row ≡ filled_up sector_bytes bytes
row_is size bytes row sector_bytes same is fits small = rw (same, is) (filled_front sector_bytes bytes fits small)

pub returns-then-bytes-size : goal.returns-then-bytes-size
returns-then-bytes-size g c = c.write_row.ensures c.args.bytes.now c.requires.fits (filled_whole _ c.args.bytes.now (c.if-bytes-size.true ∙ c.sector_bytes-size.ensures))

pub returns : goal.returns
returns g c =
    c.write_row-2.ensures c.args.bytes.now c.requires.fits
    (row_is c.sector_bytes-size.result c.args.bytes.now c.filled_row.result _ c.sector_bytes-size.ensures c.filled_row.ensures c.requires.fits c.requires.few_bytes)
