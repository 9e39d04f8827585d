-- The scheme that was made has the codes that were given.
use Rattle.std.proofs.Common.{◌∙◌, ap, List, ℕ}
use Rattle.striped.specs.Layouts.{meaning_of}
use Rattle.wom_code.specs.Flip.{flip_message, is_fewest}
use Rattle.coset_code.specs.Code.{coset_message}
use Rattle.coset_code.specs.Solution.{is_basis_solution}
use Rattle.schemes.specs.Schemes.{flip_meaning}
use Rattle.schemes.proofs.Made.{if_ok}
use Rattle.schemes.proofs.flips.Goals as goal

pub returns : goal.returns
unfolding flip_meaning
returns c =
    if_ok c.new-2.result _ _ c.new-2.ensures
    (λ s p. p ∙ ap (λ (table : List ℕ). meaning_of 128 144 288 c.args.sector_bytes 2 (flip_message 128) (is_fewest 128) (coset_message 128 table)
    (λ old message new. is_basis_solution table old new)) c.in_ok-code.ensures)
