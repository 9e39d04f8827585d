-- What the copy leaves of the zeros are as many as are missing.
use Rattle.std.proofs.Common.{◌≡◌, ◌++◌, ◌-◌, length, replicate, drop, ap₂}
use Rattle.std.proofs.lemmas.List.{drop-replicate}
use Rattle.rssd_run.proofs.run.line.filled_row.Goals as goal

pub returns : goal.returns
returns c =
    let zeros : drop (length c.args.bytes.now) (replicate 512 0) ≡ replicate (512 - length c.args.bytes.now) 0 = drop-replicate (length c.args.bytes.now) 512 0 in
    ap₂ (λ front rest. front ++ rest) c.copy_from_slice.ensures.after zeros
