-- The lines that a seed draws: a function of the seed and of the plan's numbers.
use Rattle.std.specs.Prelude.{ℕ, zero, suc, ◌+◌, ◌/◌, ◌%◌, Bool, true, false, ◌&&◌, List, [], ◌∷◌, ◌++◌, ◌==◌, nat_lt, if◌then◌else◌, replicate, slice_index, length}
use Rattle.rand_xoshiro.specs.SplitMix64.{next_state}
use Rattle.rssd_work.specs.Workload.{word, after_words, word_bytes}
use Rattle.rssd_script.specs.declared.lines.Line.{Line}
use Rattle.rssd_script.specs.declared.lines.Line.TheVariants.{Write, Read, Trim, Idle}
use Rattle.lab_lines.specs.declared.kind.Kind.{Kind}
use Rattle.lab_lines.specs.declared.kind.Kind.TheVariants.{Uniform, Hot, Zipf, Sequential, Mixed}

-- what a workload is drawn for: how sectors are chosen, of how many, of how many bytes, and of how many lines of a thousand
-- are idle ones
pub record DrawPlan : Type 0 where
  pub kind : Kind
  pub sectors : ℕ
  pub sector_bytes : ℕ
  pub idle : ℕ

-- the state of the words, and the sector whose turn it is
pub record DrawState : Type 0 where
  pub words : ℕ
  pub turn : ℕ

-- the table's rows of the sectors below this one: sector k stands in it SECTORS / (k + 1) times
unfoldable pub zipf_rows : ℕ → ℕ → List ℕ
zipf_rows sectors zero = []
zipf_rows sectors (suc k) = zipf_rows sectors k ++ replicate (sectors / (k + 1)) k

-- the table of the kind
abbrev pub table_of : Kind → ℕ → List ℕ
table_of Zipf sectors = zipf_rows sectors sectors
table_of Uniform sectors = []
table_of Hot sectors = []
table_of Sequential sectors = []
table_of Mixed sectors = []

-- the first tenth of the sectors, rounded up
abbrev pub hot_sectors : ℕ → ℕ
hot_sectors sectors = (sectors + 9) / 10

-- the sector that a word chooses
abbrev pub sector_of : Kind → ℕ → ℕ → ℕ → ℕ
sector_of Uniform sectors turn word = word % sectors
sector_of Hot sectors turn word = if word % 10 == 0 then (word / 10) % sectors else (word / 10) % hot_sectors sectors
sector_of Zipf sectors turn word = slice_index (zipf_rows sectors sectors) (word % length (zipf_rows sectors sectors))
sector_of Sequential sectors turn word = turn
sector_of Mixed sectors turn word = word % sectors

abbrev pub is_mixed : Kind → Bool
is_mixed Mixed = true
is_mixed Uniform = false
is_mixed Hot = false
is_mixed Zipf = false
is_mixed Sequential = false

-- a line of this sector; the bytes of a write are the words from these on, and of sixteen lines of a mixed workload, which
-- `part` counts, five read and one trims
abbrev pub sector_line : DrawPlan → ℕ → ℕ → ℕ → Line
sector_line plan words sector part =
    if is_mixed plan.kind && nat_lt part 5 then Read sector
    else (if is_mixed plan.kind && (part == 5) then Trim sector
    else Write sector (word_bytes (plan.sector_bytes / 8) words))

-- the words behind such a line
abbrev pub words_after : DrawPlan → ℕ → ℕ → ℕ
words_after plan words part =
    if is_mixed plan.kind && nat_lt part 5 then words
    else (if is_mixed plan.kind && (part == 5) then words
    else after_words (plan.sector_bytes / 8) words)

-- a line is an idle one by its first word
abbrev pub is_idle : DrawPlan → ℕ → Bool
is_idle plan words = nat_lt (word words % 1000) plan.idle

-- a line's place among sixteen, by its first word
abbrev pub part_of : ℕ → ℕ
part_of words = (word words / 1000) % 16

-- the next line: its first word says whether it is an idle one, and its second names its sector
unfoldable pub drawn_line : DrawPlan → DrawState → Line
drawn_line plan state =
    if is_idle plan state.words then Idle 4
    else sector_line plan (next_state (next_state state.words)) (sector_of plan.kind plan.sectors state.turn (word (next_state state.words))) (part_of state.words)

-- the sector after this one, or the first
abbrev pub next_turn : ℕ → ℕ → ℕ
next_turn sectors turn = if turn + 1 == sectors then 0 else turn + 1

-- the state behind the next line; an idle line leaves the turn as it is
unfoldable pub state_after : DrawPlan → DrawState → DrawState
state_after plan state =
    if is_idle plan state.words then record { words = next_state state.words; turn = state.turn }
    else record { words = words_after plan (next_state (next_state state.words)) (part_of state.words); turn = next_turn plan.sectors state.turn }

-- the next so many lines
unfoldable pub drawn_from : DrawPlan → ℕ → DrawState → List Line
drawn_from plan zero state = []
drawn_from plan (suc count) state = drawn_line plan state ∷ drawn_from plan count (state_after plan state)

-- the lines of the workload of this seed
abbrev pub drawn_lines : DrawPlan → ℕ → ℕ → List Line
drawn_lines plan count seed = drawn_from plan count (record { words = seed; turn = 0 })
