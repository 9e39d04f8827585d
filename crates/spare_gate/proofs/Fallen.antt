-- Valid words in header cells: none lies below another, so header cells that fall are valid only if they did not change.
use Rattle.std.proofs.Common.{◌≡◌, ℕ, true, List, subst}
use Rattle.cell_bits.specs.Cells.{IsAbove, AreBytes}
use Rattle.cell_bits.proofs.Above.{above_trans, above_bits, above_both}
use Rattle.zero_count.specs.HeaderWord.{is_valid}
use Rattle.zero_count.proofs.ValidWords.{valid_below}

-- of two different valid words neither is below the other
pub valid_apart : (word below : List ℕ) → is_valid word ≡ true → is_valid below ≡ true → IsAbove word below → word ≡ below
valid_apart word below v v' above = valid_below word below v v' (above_bits word below above)

-- cells that lie below a valid word and fell are valid only if they did not change
pub fallen_valid : (word old new : List ℕ) → is_valid word ≡ true → IsAbove word old → IsAbove old new → AreBytes old → AreBytes new → is_valid new ≡ true → new ≡ old
fallen_valid word old new v above fell bytes_old bytes_new v' =
    let same : word ≡ new = valid_apart word new v v' (above_trans word old new above fell) in
    above_both new old bytes_new bytes_old (subst (λ (w : List ℕ). IsAbove w old) same above) fell
