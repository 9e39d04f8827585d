-- The rows of blocks, one by one.
use Rattle.std.proofs.Common.{◌≡◌, ℕ, ◌+◌, List, [], ◌∷◌, ◌++◌, refl, ap, sym, ◌∙◌, add-one, append_assoc}
use Rattle.rssd_io.specs.Event.{Event, moved}
use Rattle.rssd_io.specs.Pieces.{all_given, Gives}
use Rattle.rssd_io.proofs.Logs.{given_append}
use Rattle.count_die.specs.Counted.{Counted}
use Rattle.lab_tables.specs.Tables.{block_head, block_row, block_rows, block_table}

pub no_rows : (counted : Counted) → block_rows counted 0 ≡ []
unfolding block_rows
no_rows counted = refl

one_more : (counted : Counted) (block : ℕ) → block_table counted (block + 1) ≡ block_table counted block ++ block_row counted block ∷ []
unfolding block_rows
one_more counted block = ap (block_table counted) (add-one block)

pub given_row : (old between new : List Event) (counted : Counted) (block : ℕ) → Gives (block_table counted block) old between
    → new ≡ between ++ moved (block_row counted block) ∷ [] → Gives (block_table counted (block + 1)) old new
given_row old between new counted block given came =
    came ∙ ap (λ (log : List Event). log ++ moved (block_row counted block) ∷ []) given
    ∙ append_assoc old (all_given (block_table counted block)) (moved (block_row counted block) ∷ [])
    ∙ ap (λ (log : List Event). old ++ log) (sym (given_append (block_table counted block) (block_row counted block ∷ [])) ∙ ap all_given (sym (one_more counted block)))
