-- The flip code: the message in the first k cells, inverted where the flag, cell k, is charged.
use Rattle.std.specs.Prelude.{◌≡◌, ℕ, ◌+◌, ◌-◌, ◌≤◌, ◌<◌, Bool, true, false, not, ◌&&◌, ◌||◌, if◌then◌else◌, List, ◌∷◌, ◌++◌, length, nat_lt, nat_le, take, drop, replicate}
use Rattle.std.proofs.Common.{◌∙◌, ap, arith}
use Rattle.std.proofs.lemmas.List.{length-append, length-replicate, take_at, get_or-append_right, get_or-replicate}
use Rattle.wom_code.specs.Cells.{cell_at, IsAbove, charge_of}
use Rattle.wom_code.specs.Tests.{is_same, is_above}
use Rattle.wom_code.specs.Turned.{turned_by, turned_false}

-- the first k cells, inverted where the flag is charged
abbrev pub flip_message : ℕ → List Bool → List Bool
flip_message k cells = turned_by (cell_at cells k) (take k cells)

-- the result with this flag: the message inverted by it, the flag, and the old cells after it
abbrev pub flip_cells : ℕ → List Bool → List Bool → Bool → List Bool
flip_cells k old message flag = turned_by flag message ++ flag ∷ drop (k + 1) old

-- of the two results the possible one with fewer charged cells, and on a tie the one with the flag uncharged
pub record IsFewest (k : ℕ) (old message new : List Bool) : Type 0 where
  pub one_of_two : new ≡ flip_cells k old message (cell_at new k)
  pub fewest : (flag : Bool) → IsAbove (flip_cells k old message flag) old → charge_of new ≤ charge_of (flip_cells k old message flag)
  pub tie : IsAbove (flip_cells k old message false) old → charge_of (flip_cells k old message false) ≤ charge_of new → new ≡ flip_cells k old message false

-- whether the new cells have no more charged ones than the result with this flag, where that is possible
abbrev pub is_as_few : ℕ → List Bool → List Bool → List Bool → Bool → Bool
is_as_few k old message new flag = not (is_above (flip_cells k old message flag) old) || nat_le (charge_of new) (charge_of (flip_cells k old message flag))

-- whether the new cells have fewer charged ones than the result with the flag uncharged, where that is possible, or are that result
abbrev pub is_straight_on_tie : ℕ → List Bool → List Bool → List Bool → Bool
is_straight_on_tie k old message new =
    not (is_above (flip_cells k old message false) old && nat_le (charge_of (flip_cells k old message false)) (charge_of new)) || is_same new (flip_cells k old message false)

-- the test of IsFewest
abbrev pub is_fewest : ℕ → List Bool → List Bool → List Bool → Bool
is_fewest k old message new =
    is_same new (flip_cells k old message (cell_at new k)) && (is_as_few k old message new false && (is_as_few k old message new true && is_straight_on_tie k old message new))

-- which result to take, of a message of this charge: one that is possible, and of two the turned one where it has fewer charged cells
pub record IsChoice (flagged straight turned : Bool) (charge count : ℕ) (flag : Bool) : Type 0 where
  pub possible : (if flag then turned else (straight && not flagged)) ≡ true
  pub better : (straight && not flagged) ≡ true → turned ≡ true → flag ≡ nat_lt (count - charge + 1) charge

-- each message stands in the first of some cells, with the flag uncharged
pub takes_flip : (k n : ℕ) (message : List Bool) → length message ≡ k → k < n → (cells : List Bool) × (length cells ≡ n) × (flip_message k cells ≡ message)
takes_flip k n message len fits =
    let tail : List Bool = replicate (n - k) false in
    let flag : cell_at (message ++ tail) k ≡ false = get_or-append_right message tail k k false len (omega arith) ∙ get_or-replicate (n - k) (k - k) false false (omega arith) in (
      message ++ tail,
      omega (arith, length-append message tail, length-replicate (n - k) false),
      ap (λ f. turned_by f (take k (message ++ tail))) flag ∙ turned_false (take k (message ++ tail)) ∙ take_at message tail k len,
    )
