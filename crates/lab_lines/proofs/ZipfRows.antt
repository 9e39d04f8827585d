-- The rows of a zipf table.
use Rattle.std.proofs.Common.{◌≡◌, ℕ, zero, suc, ◌+◌, ◌/◌, ◌<◌, [], ◌++◌, length, refl, ap, sym, ◌∙◌, arith, add-one}
use Rattle.std.specs.Prelude.{replicate}
use Rattle.std.proofs.lemmas.Nat.{div-mul-add}
use Rattle.std.proofs.lemmas.List.{length-append, length-replicate}
use Rattle.lab_lines.specs.Workload.{zipf_rows}

pub one_more_row : (sectors k : ℕ) → zipf_rows sectors k ++ replicate (sectors / (k + 1)) k ≡ zipf_rows sectors (k + 1)
unfolding zipf_rows
one_more_row sectors k = ap (zipf_rows sectors) (sym (add-one k))

pub no_row : (sectors : ℕ) → zipf_rows sectors 0 ≡ []
unfolding zipf_rows
no_row sectors = refl

one_entry : (k : ℕ) → suc k / (k + 1) ≡ 1
one_entry k = ap (λ (n : ℕ). n / (k + 1)) (omega arith) ∙ div-mul-add 1 (k + 1) 0 (omega arith)

-- a table has a row, since that of its last sector has one entry
pub some_entries : (sectors : ℕ) → 0 < sectors → 0 < length (zipf_rows sectors sectors)
unfolding zipf_rows
some_entries zero some = absurd (omega arith)
some_entries (suc k) some =
    omega (arith, one_entry k, length-append (zipf_rows (suc k) k) (replicate (suc k / (k + 1)) k), length-replicate (suc k / (k + 1)) k)
