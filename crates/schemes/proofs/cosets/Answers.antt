-- The scheme that was made has the codes that were given.
use Rattle.std.proofs.Common.{◌∙◌, ap, take, List, ℕ}
use Rattle.striped.specs.Layouts.{meaning_of}
use Rattle.wom_code.specs.Plain.{plain_gives}
use Rattle.coset_code.specs.Code.{coset_message}
use Rattle.coset_code.specs.Solution.{is_basis_solution}
use Rattle.schemes.specs.Schemes.{coset_meaning}
use Rattle.schemes.proofs.Made.{if_ok}
use Rattle.schemes.proofs.cosets.Goals as goal

pub returns : goal.returns
unfolding coset_meaning
returns c =
    if_ok c.new-2.result _ _ c.new-2.ensures
    (λ s p. p ∙ ap (λ (table : List ℕ). meaning_of 128 144 288 c.args.sector_bytes 2 (take 128) (plain_gives 128) (coset_message 128 table)
    (λ old message new. is_basis_solution table old new)) c.in_ok-code.ensures)
