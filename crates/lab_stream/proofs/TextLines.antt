-- A text of one line is cut into that line alone.
use Rattle.std.proofs.Common.{◌≡◌, inl, inr, ℕ, ◌+◌, ◌<◌, List, [], ◌∷◌, ◌++◌, length, refl, ap, ◌∙◌, subst, arith, length-append}
use Rattle.std.specs.List.{AllZip}
use Rattle.rssd_script.specs.declared.lines.Line.{Line}
use Rattle.rssd_script.specs.Script.{Spells, text_lines}
use Rattle.rssd_script.specs.Scripts.{Reads}
use Rattle.rssd_script.proofs.Cuts.{text_lines-cut, text_lines-last, long_spells_none}
use Rattle.lab_stream.specs.Texts.{IsText, ReadsNone}

-- the line that a text is, without its line feed
record IsOne (text : List ℕ) : Type 0 where
  pub front : List ℕ
  pub lines : text_lines text ≡ front ∷ []
  pub long : length text < length front + 2

one_line : (text : List ℕ) → IsText text → IsOne text
unfolding text_lines
one_line text (inl ended) = record {
  front = ended.front;
  lines = ap text_lines ended.is ∙ text_lines-cut ended.front [] ended.no_feed;
  long = omega (arith, ap length ended.is, length-append ended.front (10 ∷ []));
}
one_line text (inr begun) = record { front = text; lines = text_lines-last text begun.0 begun.1; long = omega arith }

zipped : (text : List ℕ) (one : IsOne text) (lines : List Line) → Reads text lines → AllZip Spells (one.front ∷ []) lines
zipped text one lines reads = subst (λ (texts : List (List ℕ)). AllZip Spells texts lines) one.lines reads.1

pub some_line : (text : List ℕ) → IsText text → Reads text [] → ⊥
some_line text is reads = zipped text (one_line text is) [] reads

alone : (front : List ℕ) (lines : List Line) (line : Line) → AllZip Spells (front ∷ []) (lines ++ line ∷ []) → lines ≡ []
alone front [] line zip = refl
alone front (first ∷ []) line zip = absurd zip.1
alone front (first ∷ second ∷ lines) line zip = absurd zip.1

pub only_line : (text : List ℕ) → IsText text → (lines : List Line) (line : Line) → Reads text (lines ++ line ∷ []) → Reads text (line ∷ [])
only_line text is lines line reads =
    let none = alone (one_line text is).front lines line (zipped text (one_line text is) (lines ++ line ∷ []) reads) in
    subst (λ (before : List Line). Reads text (before ++ line ∷ [])) none reads

pub long_none : (text : List ℕ) → IsText text → 1049 < length text → ReadsNone text
long_none text is long line reads =
    let one = one_line text is in
    long_spells_none one.front (omega (arith, one.long)) line (zipped text one (line ∷ []) reads).0
