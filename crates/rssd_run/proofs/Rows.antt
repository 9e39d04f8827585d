-- Rows that are filled up with zero bytes.
use Rattle.std.proofs.Common.{◌≡◌, ℕ, ◌+◌, ◌-◌, ◌≤◌, List, ◌++◌, length, take, replicate, append-nil, ap, sym, ◌∙◌, arith}
use Rattle.std.proofs.Math.Seq.{take-append-add}
use Rattle.std.proofs.lemmas.List.{take-replicate}
use Rattle.rssd_core.specs.SectorArray.{filled_up}

-- the front of a row that was filled up further
pub filled_front : (size : ℕ) (bytes : List ℕ) → length bytes ≤ size → size ≤ 512 → take size (filled_up 512 bytes) ≡ filled_up size bytes
filled_front size bytes fits small =
    let parts : size ≡ length bytes + (size - length bytes) = omega arith in
    ap (λ n. take n (filled_up 512 bytes)) parts
    ∙ (take-append-add bytes (replicate (512 - length bytes) 0) (size - length bytes) ∙ ap (λ zeros. bytes ++ zeros) (take-replicate (size - length bytes) (512 - length bytes) 0 (omega arith)))

-- a whole row is filled up already
pub filled_whole : (size : ℕ) (bytes : List ℕ) → length bytes ≡ size → bytes ≡ filled_up size bytes
filled_whole size bytes whole =
    let none : size - length bytes ≡ 0 = omega arith in
    sym (ap (λ n. bytes ++ replicate n 0) none ∙ append-nil bytes)
