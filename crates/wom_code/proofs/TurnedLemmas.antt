-- Bits that are turned, cell by cell.
use Rattle.std.proofs.Common.{◌≡◌, ℕ, zero, suc, ◌+◌, ◌<◌, Bool, true, false, not, if◌then◌else◌, List, [], ◌∷◌, length, ap, refl, arith}
use Rattle.std.proofs.lemmas.List.{length-map}
use Rattle.std.proofs.lemmas.List.Sums.{sum_by-cons}
use Rattle.wom_code.specs.Cells.{cell_at, charge_of}
use Rattle.wom_code.specs.Turned.{turned_by}

pub length-turned : (f : Bool) (bits : List Bool) → length (turned_by f bits) ≡ length bits
length-turned f bits = length-map bits (λ bit. if f then not bit else bit)

pub cell_at-turned : (f : Bool) (bits : List Bool) (i : ℕ) → i < length bits → cell_at (turned_by f bits) i ≡ (if f then not (cell_at bits i) else cell_at bits i)
cell_at-turned f [] i h = absurd (omega arith)
cell_at-turned f (bit ∷ bits) zero h = refl
cell_at-turned f (bit ∷ bits) (suc i) h = cell_at-turned f bits i (omega arith)

-- turned twice the bits are as they were
pub turned_twice : (f : Bool) (bits : List Bool) → turned_by f (turned_by f bits) ≡ bits
turned_twice f [] = refl
turned_twice true (true ∷ bits) = ap (λ more. true ∷ more) (turned_twice true bits)
turned_twice true (false ∷ bits) = ap (λ more. false ∷ more) (turned_twice true bits)
turned_twice false (bit ∷ bits) = ap (λ more. bit ∷ more) (turned_twice false bits)

-- the turned bits have a charged cell for each bit that is not one
pub charge-turned : (bits : List Bool) → charge_of (turned_by true bits) + charge_of bits ≡ length bits
charge-turned [] = refl
charge-turned (true ∷ bits) = omega (arith, sum_by-cons (λ c. if c then 1 else 0) false (turned_by true bits), sum_by-cons (λ c. if c then 1 else 0) true bits, charge-turned bits)
charge-turned (false ∷ bits) = omega (arith, sum_by-cons (λ c. if c then 1 else 0) true (turned_by true bits), sum_by-cons (λ c. if c then 1 else 0) false bits, charge-turned bits)
