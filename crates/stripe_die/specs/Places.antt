-- Where the blocks and pages of a pair of dies stand.
use Rattle.std.specs.Prelude.{ℕ, ◌+◌, ◌*◌, ◌/◌, ◌%◌, ◌==◌, if◌then◌else◌}
use Rattle.stripe_die.specs.declared.half.Half.{Half}
use Rattle.stripe_die.specs.declared.half.Half.TheVariants.{First, Second}

-- block k of the pair is block k / 2 of the first die where k is even, and of the second die where k is odd
abbrev pub block_place : ℕ → Half
block_place block = if block % 2 == 0 then First (block / 2) else Second (block / 2)

-- the place with another number
abbrev pub with_number : (ℕ → ℕ) → Half → Half
with_number f (First n) = First (f n)
with_number f (Second n) = Second (f n)

-- a page stands where its block does, at the same place within it
abbrev pub page_place : ℕ → ℕ → Half
page_place pages page = with_number (λ block. block * pages + page % pages) (block_place (page / pages))

-- what stands there, of what the first die has and what the second has
abbrev pub at_place : {T : Type 0} → (ℕ → T) → (ℕ → T) → Half → T
at_place first second (First n) = first n
at_place first second (Second n) = second n
