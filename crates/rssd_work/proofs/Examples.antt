-- The first line of the workload of seed 0.
use Rattle.std.proofs.Common.{◌≡◌, ◌*◌, ◌%◌, ◌^◌, [], ◌∷◌, refl, sum}
use Rattle.rssd_script.specs.declared.lines.Line.TheVariants.{Write}
use Rattle.rssd_work.specs.Workload.{workload, workload_from, next_line, words_drawn, after_words, word_bytes}

first_bytes : word_bytes 2 (2 * 0x9e3779b97f4a7c15 % 2 ^ 64) ≡
    0x4f ∷ 0x45 ∷ 0x09 ∷ 0x80 ∷ 0x18 ∷ 0x5d ∷ 0xc4 ∷ 0x06 ∷ 0xec ∷ 0x81 ∷ 0x4c ∷ 0x72 ∷ 0xa8 ∷ 0xb8 ∷ 0x8b ∷ 0xf8 ∷ []
unfolding word_bytes
first_bytes = refl

one_line : workload 0 1 1 16 ≡ Write 0 (word_bytes 2 (2 * 0x9e3779b97f4a7c15 % 2 ^ 64)) ∷ []
unfolding workload_from next_line words_drawn after_words
one_line = refl

its_sum : sum (word_bytes 2 (2 * 0x9e3779b97f4a7c15 % 2 ^ 64)) ≡ 1898
unfolding word_bytes
its_sum = refl
