-- What a reader of one line answers.
use Rattle.std.specs.Prelude.{◌≡◌, ℕ, ◌≤◌, List, length, Option, None, Some}
use Rattle.std.specs.List.{AllByRecursion}
use Rattle.rssd_script.specs.declared.lines.Line.{Line}
use Rattle.rssd_script.specs.declared.lines.TornWord.{TornWord}
use Rattle.rssd_script.specs.Script.{Spells, IsTornWithin, torn_text}
use Rattle.rssd_script.specs.Text.{hex_or_dash, AreBytes}

-- the byte is nowhere in the text
abbrev pub Lacks : ℕ → List ℕ → Type 0
Lacks byte text = AllByRecursion (λ x. x ≡ byte → ⊥) text

-- no line is spelled so
abbrev pub SpellsNone : List ℕ → Type 0
SpellsNone text = (line : Line) → Spells text line → ⊥

-- the line that the text spells, or that it spells none
abbrev pub ReadsAs : List ℕ → Option Line → Type 0
ReadsAs text None = SpellsNone text
ReadsAs text (Some line) = Spells text line

-- the bytes of HEX, or that the text is none
abbrev pub ReadsHex : List ℕ → Option (List ℕ) → Type 0
ReadsHex text None = (bytes : List ℕ) → length bytes ≤ 512 → AreBytes bytes → text ≡ hex_or_dash bytes → ⊥
ReadsHex text (Some bytes) = (length bytes ≤ 512) × AreBytes bytes × (text ≡ hex_or_dash bytes)

-- the word of TORN, or that the text is none
abbrev pub ReadsTorn : List ℕ → Option TornWord → Type 0
ReadsTorn text None = (torn : TornWord) → IsTornWithin torn → text ≡ torn_text torn → ⊥
ReadsTorn text (Some torn) = IsTornWithin torn × (text ≡ torn_text torn)
