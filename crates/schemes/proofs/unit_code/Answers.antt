-- The table of seed 1 has the shape of the code.
use Rattle.std.proofs.Common.{sym, ◌∙◌, subst}
use Rattle.coset_code.specs.Code.{IsShape}
use Rattle.schemes.specs.Schemes.{table_of_one}
use Rattle.coset_code.proofs.WordShapes.{columns_shape}
use Rattle.schemes.proofs.unit_code.Goals as goal

pub unreachable-requires : goal.unreachable-requires
unreachable-requires c =
    let refused = rw c.in-Err-Shape.field-0-is at c.in-Err-Shape.ensures in
    refused (subst (IsShape 128 288) (sym c.in_ok-new.ensures) (columns_shape 1 288))

pub returns-in-Ok : goal.returns-in-Ok
unfolding table_of_one
returns-in-Ok c = c.in-Ok.ensures.0 ∙ c.in_ok-new.ensures
