-- The texts of the tables.
use Rattle.std.specs.Prelude.{ℕ, zero, suc, ◌+◌, ◌-◌, ◌*◌, ◌/◌, ◌^◌, ◌==◌, min, List, [], ◌∷◌, ◌++◌, flat_map, codes, decimal, slice_index, if◌then◌else◌}
use Rattle.count_die.specs.declared.tally.Totals.{Totals}
use Rattle.count_die.specs.Counted.{Counted}
use Rattle.lab_tables.specs.declared.answers.Met.{Met}
use Rattle.lab_tables.specs.declared.answers.Answers.{Answers}
use Rattle.lab_tables.specs.Answered.{writes_of}

-- a number and a comma
abbrev pub with_comma : ℕ → List ℕ
with_comma n = decimal n ++ 44 ∷ []

-- a line of a table: a name, and numbers that commas part
unfoldable pub csv_text : List ℕ → List ℕ → ℕ → List ℕ
csv_text name front last = (name ++ flat_map with_comma front) ++ (decimal last ++ 10 ∷ [])

-- so many programs to a thousand writes, rounded down
abbrev pub amplification : ℕ → ℕ → ℕ
amplification programs writes = if writes == 0 then 0 else min (programs * 1000) (2 ^ 64 - 1) / writes

-- a row of a run: the lines and their replies, the records moved, the calls of the die, and its programs to a thousand writes
abbrev pub run_row : Answers → ℕ → Totals → List ℕ
run_row a moved totals = csv_text []
    (a.lines ∷ a.first.count ∷ a.second.count ∷ a.declined.count ∷ a.read.count ∷ a.trim.count ∷ a.idle.count ∷ a.other.count
    ∷ moved ∷ totals.reads ∷ totals.programs ∷ totals.charges ∷ totals.erases ∷ [])
    (amplification totals.programs (writes_of a))

abbrev pub kind_head : List ℕ
kind_head = codes "\nreply,count,most_changes,most_reads\n"

-- the row of a kind of reply
abbrev pub kind_row : List ℕ → Met → List ℕ
kind_row name met = csv_text name (met.count ∷ met.changes ∷ []) met.reads

-- the table of the kinds of replies
abbrev pub kind_table : Answers → List (List ℕ)
kind_table a = kind_head
    ∷ kind_row (codes "first,") a.first
    ∷ kind_row (codes "second,") a.second
    ∷ kind_row (codes "declined,") a.declined
    ∷ kind_row (codes "read,") a.read
    ∷ kind_row (codes "trim,") a.trim
    ∷ kind_row (codes "idle,") a.idle
    ∷ kind_row (codes "other,") a.other
    ∷ []

abbrev pub block_head : List ℕ
block_head = codes "\nblock,reads,programs,charges,erases,most_programs,most_changes\n"

-- the row of a block
abbrev pub block_row : Counted → ℕ → List ℕ
block_row counted block = csv_text []
    (block ∷ slice_index counted.reads block ∷ slice_index counted.programs block ∷ slice_index counted.charges block
    ∷ slice_index counted.erases block ∷ slice_index counted.most_programs block ∷ [])
    (slice_index counted.most_changes block)

-- the rows of the first blocks
unfoldable pub block_rows : Counted → ℕ → List (List ℕ)
block_rows counted zero = []
block_rows counted (suc block) = block_rows counted block ++ block_row counted block ∷ []

-- the table of the blocks
abbrev pub block_table : Counted → ℕ → List (List ℕ)
block_table counted blocks = block_head ∷ block_rows counted blocks
