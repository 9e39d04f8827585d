-- Lines and replies written out.
use Rattle.std.proofs.Common.{◌≡◌, [], ◌∷◌, refl, codes}
use Rattle.std.specs.Fmt.{digits}
use Rattle.rssd_script.specs.declared.lines.Line.TheVariants.{Write, Cut}
use Rattle.rssd_script.specs.declared.lines.TornWord.TheVariants.{Mask}
use Rattle.rssd_script.specs.declared.replies.Reply.TheVariants.{Stat as Counts}
use Rattle.rssd_script.specs.Script.{line_text, text_lines}
use Rattle.rssd_script.specs.Replies.{reply_text}

a_write : line_text (Write 0 (0xa5 ∷ 0 ∷ [])) ≡ codes "write 0 a500"
unfolding line_text digits
a_write = refl

nothing : line_text (Write 12 []) ≡ codes "write 12 -"
unfolding line_text digits
nothing = refl

a_cut : line_text (Cut 1 (Mask 4)) ≡ codes "cut 1 mask:0000000000000004"
unfolding line_text digits
a_cut = refl

counts : reply_text (Counts 3 1 0 0 0) ≡ codes "first 3 second 1 declined 0 moved 0 erased 0"
unfolding reply_text digits
counts = refl

-- the last line may lack its line feed, and an empty line is a line
cut_up : text_lines (codes "stat\n\nread 0") ≡ codes "stat" ∷ [] ∷ codes "read 0" ∷ []
unfolding text_lines
cut_up = refl

ended : text_lines (codes "stat\n") ≡ codes "stat" ∷ []
unfolding text_lines
ended = refl
