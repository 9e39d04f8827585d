-- The word in front tells the lines apart, and what has none of the words spells no line.
use Rattle.std.proofs.Common.{refl, sym, true≢false}
use Rattle.rssd_script.specs.Script.{line_text, IsWithinGrammar}
use Rattle.rssd_script.proofs.FirstWords.{no_word}
use Rattle.rssd_script.proofs.grammar.line_of.Goals as goal

pub returns-then-is_word : goal.returns-then-is_word
unfolding line_text IsWithinGrammar
returns-then-is_word c = (tt, c.if-is_word.ensures.0 refl)

pub returns-then-is_word-2 : goal.returns-then-is_word-2
unfolding line_text IsWithinGrammar
returns-then-is_word-2 c = (tt, c.if-is_word-2.ensures.0 refl)

pub returns : goal.returns
returns c =
    no_word c.args.text.now c.in_default.ensures.none c.in_default-after.ensures.none c.in_default-after-2.ensures.none c.in_default-after-3.ensures.none c.in_default-after-4.ensures.none
    c.in_default-after-5.ensures.none (λ h. true≢false (sym (c.if-is_word.ensures.1 h))) (λ h. true≢false (sym (c.if-is_word-2.ensures.1 h)))
