-- The lines of a workload: a function of the seed.
use Rattle.std.specs.Prelude.{ℕ, zero, suc, ◌+◌, ◌/◌, ◌%◌, List, [], ◌∷◌, ◌++◌, ◌==◌, if◌then◌else◌}
use Rattle.std.specs.Int.{w64, to_le_bytes}
use Rattle.rand_xoshiro.specs.SplitMix64.{mix_u64, next_state}
use Rattle.rssd_script.specs.declared.lines.Line.{Line}
use Rattle.rssd_script.specs.declared.lines.Line.TheVariants.{Write, Trim, Idle}

-- the next word of a state
abbrev pub word : ℕ → ℕ
word state = (mix_u64 state).0

-- the state n words on
unfoldable pub after_words : ℕ → ℕ → ℕ
after_words zero state = state
after_words (suc n) state = after_words n (next_state state)

-- the bytes of the next n words, each low byte first
unfoldable pub word_bytes : ℕ → ℕ → List ℕ
word_bytes zero state = []
word_bytes (suc n) state = to_le_bytes w64 (word state) ++ word_bytes n (next_state state)

-- the next line: the first word chooses, 0 of 16 a trim, 1 of 16 `idle 4`, any other a write; of a trim and of a write the
-- second word names the sector, and of a write the words after it are the bytes
unfoldable pub next_line : ℕ → ℕ → ℕ → Line
next_line sectors sector_bytes state =
    if word state % 16 == 0 then Trim (word (next_state state) % sectors)
    else (if word state % 16 == 1 then Idle 4
    else Write (word (next_state state) % sectors) (word_bytes (sector_bytes / 8) (after_words 2 state)))

-- how many words the next line draws
unfoldable pub words_drawn : ℕ → ℕ → ℕ
words_drawn sector_bytes state =
    if word state % 16 == 0 then 2 else (if word state % 16 == 1 then 1 else 2 + sector_bytes / 8)

-- the next lines, each drawn behind the words of the one before
unfoldable pub workload_from : ℕ → ℕ → ℕ → ℕ → List Line
workload_from zero sectors sector_bytes state = []
workload_from (suc count) sectors sector_bytes state =
    next_line sectors sector_bytes state
    ∷ workload_from count sectors sector_bytes (after_words (words_drawn sector_bytes state) state)

-- the lines of the workload of this seed
abbrev pub workload : ℕ → ℕ → ℕ → ℕ → List Line
workload seed count sectors sector_bytes = workload_from count sectors sector_bytes seed
