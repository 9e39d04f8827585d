-- The grammar of scripts: lists of lines and their texts.
use Rattle.std.specs.Prelude.{◌≡◌, ℕ, ◌+◌, ◌-◌, ◌^◌, ◌<◌, ◌≤◌, slice_index_or, List, [], ◌∷◌, ◌++◌, length, ◌==◌, if◌then◌else◌, decimal, codes}
use Rattle.std.specs.List.{AllZip, flat_map}
use Rattle.std.specs.Int.{w64, to_be_bytes}
use Rattle.rssd_script.specs.declared.lines.Line.{Line}
use Rattle.rssd_script.specs.declared.lines.Line.TheVariants.{Write, Read, Trim, Idle, Cut, FailRead, Mount, Stat}
use Rattle.rssd_script.specs.declared.lines.TornWord.{TornWord}
use Rattle.rssd_script.specs.declared.lines.TornWord.TheVariants.{Nothing, All as Whole, Mask}
use Rattle.rssd_script.specs.Text.{hex_of, hex_or_dash, AreBytes}

-- what a torn change call leaves is spelled `none`, `all`, or as its mask in sixteen digits
abbrev pub torn_text : TornWord → List ℕ
torn_text Nothing = codes "none"
torn_text Whole = codes "all"
torn_text (Mask m) = codes "mask:" ++ hex_of (to_be_bytes w64 m)

-- the one spelling of a line, without its line feed
unfoldable pub line_text : Line → List ℕ
line_text (Write sector bytes) = codes "write " ++ decimal sector ++ 32 ∷ hex_or_dash bytes
line_text (Read sector) = codes "read " ++ decimal sector
line_text (Trim sector) = codes "trim " ++ decimal sector
line_text (Idle n) = codes "idle " ++ decimal n
line_text (Cut n torn) = codes "cut " ++ decimal n ++ 32 ∷ torn_text torn
line_text (FailRead n) = codes "failread " ++ decimal n
line_text Mount = codes "mount"
line_text Stat = codes "stat"

-- a count of `cut` and `failread` is from 1 to 1,000,000
abbrev pub IsArmCount : ℕ → Type 0
IsArmCount n = (1 ≤ n) × (n ≤ 1_000_000)

-- the mask of a torn change call is a u64
abbrev pub IsTornWithin : TornWord → Type 0
IsTornWithin Nothing = Unit {0}
IsTornWithin Whole = Unit {0}
IsTornWithin (Mask m) = m < 2 ^ 64

-- the numbers and bytes of a line are within the grammar
unfoldable pub IsWithinGrammar : Line → Type 0
IsWithinGrammar (Write sector bytes) = (sector < 2 ^ 32) × (length bytes ≤ 512) × AreBytes bytes
IsWithinGrammar (Read sector) = sector < 2 ^ 32
IsWithinGrammar (Trim sector) = sector < 2 ^ 32
IsWithinGrammar (Idle n) = n < 2 ^ 32
IsWithinGrammar (Cut n torn) = IsArmCount n × IsTornWithin torn
IsWithinGrammar (FailRead n) = IsArmCount n
IsWithinGrammar Mount = Unit {0}
IsWithinGrammar Stat = Unit {0}

-- the line is within the grammar, and this is its text
abbrev pub Spells : List ℕ → Line → Type 0
Spells text line = IsWithinGrammar line × (text ≡ line_text line)

-- a byte before the first of the lines
abbrev pub onto_first : ℕ → List (List ℕ) → List (List ℕ)
onto_first byte [] = (byte ∷ []) ∷ []
onto_first byte (line ∷ lines) = (byte ∷ line) ∷ lines

-- the texts of a script's lines: each ends with a line feed, which the last may lack where it is not empty
unfoldable pub text_lines : List ℕ → List (List ℕ)
text_lines [] = []
text_lines (byte ∷ bytes) = if byte == 10 then [] ∷ text_lines bytes else onto_first byte (text_lines bytes)

-- the text is a script of these lines
abbrev pub IsScript : List ℕ → List Line → Type 0
IsScript text lines = AllZip Spells (text_lines text) lines

-- line k of the text, counted from 1, is the first that is outside the grammar
pub record FirstBadLine (text : List ℕ) (k : ℕ) : Type 0 where
  pub before : (i : ℕ) → i + 1 < k → (line : Line) × Spells (slice_index_or (text_lines text) i []) line
  pub within : (1 ≤ k) × (k ≤ length (text_lines text))
  pub bad : (line : Line) → Spells (slice_index_or (text_lines text) (k - 1) []) line → ⊥

-- the whole text of lines, each with its line feed
abbrev pub script_text : List Line → List ℕ
script_text lines = flat_map (λ line. line_text line ++ 10 ∷ []) lines
