-- Orders and their words.
use Rattle.std.proofs.Common.{◌≡◌, ℕ, ◌≤◌, List, ◌∷◌, length, ap, arith, refl}
use Rattle.std.specs.Prelude.{codes, decimal}
use Rattle.die_image.specs.declared.head.ImageHead.{ImageHead}
use Rattle.rssd_words.specs.declared.command.Command.TheVariants as commands
use Rattle.rssd_words.specs.Commands.{head_words, words_of as command_words}
use Rattle.rssd_words.proofs.Spelling.{names_apart}
use Rattle.lab_lines.specs.declared.kind.Kind.{Kind}
use Rattle.lab_words.specs.declared.asked.Asked.{Asked}
use Rattle.lab_words.specs.declared.asked.AskedDie.{AskedDie}
use Rattle.lab_words.specs.declared.asked.DieKind.{DieKind}
use Rattle.lab_words.specs.declared.asked.DieKind.TheVariants.{Plain, Worn, Pair}
use Rattle.lab_words.specs.declared.asked.LinesFrom.{LinesFrom}
use Rattle.lab_words.specs.declared.asked.LinesFrom.TheVariants.{Stream, Drawn}
use Rattle.lab_words.specs.Orders.{kind_word, voice_word, words_of, words_with, die_words, from_words, spelled_front}

-- five words are those of a head
pub five_only : (words : List (List ℕ)) (head : ImageHead) (kind : DieKind) → length words ≡ 5 → words ≡ words_with head kind → (kind ≡ Plain) × (words ≡ head_words head)
unfolding command_words
five_only words head Plain five is = (refl, is)
five_only words head (Worn reserve bad) five is = absurd (omega (arith, five, ap length is))
five_only words head Pair five is = absurd (omega (arith, five, ap length is))

many_words : (head : ImageHead) (kind : DieKind) → 5 ≤ length (words_with head kind)
unfolding command_words
many_words head Plain = omega arith
many_words head (Worn reserve bad) = omega arith
many_words head Pair = omega arith

-- no blank die has the one word of `run`
pub run_is_not_blank : (words : List (List ℕ)) (die : AskedDie) → words ≡ command_words commands.Run → words ≡ die_words die → ⊥
unfolding command_words
run_is_not_blank words die run blank = omega (arith, ap length run, ap length blank, many_words die.head die.kind)

-- the words behind `draw`
pub record IsDraw (words : List (List ℕ)) (asked : Asked) : Type 0 where
  pub kind : Kind
  pub seed : ℕ
  pub count : ℕ
  pub idle : ℕ
  pub from : asked.from ≡ Drawn kind seed count idle
  pub spelled : words ≡ voice_word asked.voice ∷ kind_word kind ∷ decimal seed ∷ decimal count ∷ decimal idle ∷ decimal asked.every ∷ from_words asked.die

draw_parts : (words : List (List ℕ)) (asked : Asked) (from : LinesFrom) → asked.from ≡ from
    → codes "draw" ∷ words ≡ spelled_front from (voice_word asked.voice) (decimal asked.every) (from_words asked.die) → IsDraw words asked
draw_parts words asked Stream from spelled = absurd (names_apart refl spelled)
draw_parts words asked (Drawn kind seed count idle) from spelled = record { kind = kind; seed = seed; count = count; idle = idle; from = from; spelled = cc }

pub draw_is : (words : List (List ℕ)) (asked : Asked) → codes "draw" ∷ words ≡ words_of asked → IsDraw words asked
draw_is words asked spelled = draw_parts words asked asked.from refl spelled
