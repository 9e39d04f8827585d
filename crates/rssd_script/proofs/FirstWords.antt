-- Lines by their first word.
use Rattle.std.proofs.Common.{◌≡◌, ℕ, ◌^◌, ◌<◌, ◌≤◌, List, [], ◌∷◌, ◌++◌, length, None, Some, false, true≢false, eqb, eq-eqb, refl, sym, ap, ◌∙◌, arith, decimal, codes}
use Rattle.rssd_script.specs.declared.lines.Line.{Line}
use Rattle.rssd_script.specs.declared.lines.Line.TheVariants.{Write, Read, Trim, Idle, Cut, FailRead, Mount, Stat}
use Rattle.rssd_script.specs.declared.lines.TornWord.{TornWord}
use Rattle.rssd_script.specs.Script.{Spells, IsWithinGrammar, IsArmCount, IsTornWithin, line_text, torn_text}
use Rattle.rssd_script.specs.Text.{hex_or_dash, AreBytes}
use Rattle.rssd_script.specs.Reading.{Lacks, SpellsNone, ReadsHex, ReadsTorn}
use Rattle.rssd_script.proofs.Texts.{no_cut, one_cut, Lacks-decimal}

abbrev pub first : List ℕ → ℕ
first [] = 0
first (x ∷ xs) = x

pub differ : (a b : ℕ) → eqb a b ≡ false → a ≡ b → ⊥
differ a b t e = true≢false (sym (eq-eqb a b e) ∙ t)

pub record IsWrite (rest : List ℕ) : Type 0 where
  pub sector : ℕ
  pub bytes : List ℕ
  pub small : sector < 2 ^ 32
  pub short : length bytes ≤ 512
  pub fits : AreBytes bytes
  pub is : rest ≡ decimal sector ++ 32 ∷ hex_or_dash bytes

pub write_parts : (rest : List ℕ) (line : Line) → Spells (codes "write " ++ rest) line → IsWrite rest
unfolding line_text IsWithinGrammar
write_parts rest (Write sector bytes) s = record { sector = sector; bytes = bytes; small = s.0.0; short = s.0.1; fits = s.0.2; is = cc }
write_parts rest line s = absurd (differ 119 (first (line_text line)) refl (ap first s.1))

pub number_parts_read : (rest : List ℕ) (line : Line) → Spells (codes "read " ++ rest) line → (n : ℕ) × (n < 2 ^ 32) × (rest ≡ decimal n)
unfolding line_text IsWithinGrammar
number_parts_read rest (Read n) s = (n, s.0, cc)
number_parts_read rest line s = absurd (differ 114 (first (line_text line)) refl (ap first s.1))

pub number_parts_trim : (rest : List ℕ) (line : Line) → Spells (codes "trim " ++ rest) line → (n : ℕ) × (n < 2 ^ 32) × (rest ≡ decimal n)
unfolding line_text IsWithinGrammar
number_parts_trim rest (Trim n) s = (n, s.0, cc)
number_parts_trim rest line s = absurd (differ 116 (first (line_text line)) refl (ap first s.1))

pub number_parts_idle : (rest : List ℕ) (line : Line) → Spells (codes "idle " ++ rest) line → (n : ℕ) × (n < 2 ^ 32) × (rest ≡ decimal n)
unfolding line_text IsWithinGrammar
number_parts_idle rest (Idle n) s = (n, s.0, cc)
number_parts_idle rest line s = absurd (differ 105 (first (line_text line)) refl (ap first s.1))

pub number_parts_fail : (rest : List ℕ) (line : Line) → Spells (codes "failread " ++ rest) line → (n : ℕ) × IsArmCount n × (rest ≡ decimal n)
unfolding line_text IsWithinGrammar
number_parts_fail rest (FailRead n) s = (n, s.0, cc)
number_parts_fail rest line s = absurd (differ 102 (first (line_text line)) refl (ap first s.1))

pub record IsCut (rest : List ℕ) : Type 0 where
  pub n : ℕ
  pub torn : TornWord
  pub count : IsArmCount n
  pub fits : IsTornWithin torn
  pub is : rest ≡ decimal n ++ 32 ∷ torn_text torn

pub cut_parts : (rest : List ℕ) (line : Line) → Spells (codes "cut " ++ rest) line → IsCut rest
unfolding line_text IsWithinGrammar
cut_parts rest (Cut n torn) s = record { n = n; torn = torn; count = s.0.0; fits = s.0.1; is = cc }
cut_parts rest line s = absurd (differ 99 (first (line_text line)) refl (ap first s.1))

module _ (rest : List ℕ) where
  pub write_no_space : Lacks 32 rest → SpellsNone (codes "write " ++ rest)
  write_no_space l line s = let p = write_parts rest line s in no_cut 32 rest _ _ l p.is

  pub cut_no_space : Lacks 32 rest → SpellsNone (codes "cut " ++ rest)
  cut_no_space l line s = let p = cut_parts rest line s in no_cut 32 rest _ _ l p.is

  module _ (number word : List ℕ) (e : rest ≡ number ++ 32 ∷ word) (l : Lacks 32 number) where
    write_cut : (p : IsWrite rest) → (number ≡ decimal p.sector) × (word ≡ hex_or_dash p.bytes)
    write_cut p = one_cut 32 number (decimal p.sector) word (hex_or_dash p.bytes) l (Lacks-decimal 32 p.sector (omega arith) p.small) (sym e ∙ p.is)

    cut_cut : (p : IsCut rest) → (number ≡ decimal p.n) × (word ≡ torn_text p.torn)
    cut_cut p = one_cut 32 number (decimal p.n) word (torn_text p.torn) l (Lacks-decimal 32 p.n (omega arith) (omega (arith, p.count.1))) (sym e ∙ p.is)

    pub write_no_number : ((n : ℕ) → n < 2 ^ 32 → number ≡ decimal n → ⊥) → SpellsNone (codes "write " ++ rest)
    write_no_number n line s = let p = write_parts rest line s in n p.sector p.small (write_cut p).0

    pub write_no_bytes : ReadsHex word None → SpellsNone (codes "write " ++ rest)
    write_no_bytes n line s = let p = write_parts rest line s in n p.bytes p.short p.fits (write_cut p).1

    pub cut_no_number : ((n : ℕ) → 1 ≤ n → n ≤ 1_000_000 → number ≡ decimal n → ⊥) → SpellsNone (codes "cut " ++ rest)
    cut_no_number n line s = let p = cut_parts rest line s in n p.n p.count.0 p.count.1 (cut_cut p).0

    pub cut_no_torn : ReadsTorn word None → SpellsNone (codes "cut " ++ rest)
    cut_no_torn n line s = let p = cut_parts rest line s in n p.torn p.fits (cut_cut p).1

    pub write_spells : (sector : ℕ) (bytes : List ℕ) → sector < 2 ^ 32 → number ≡ decimal sector → ReadsHex word (Some bytes) → Spells (codes "write " ++ rest) (Write sector bytes)
    unfolding line_text IsWithinGrammar
    write_spells sector bytes small n h = ((small, h.0, h.1), ap (λ t. codes "write " ++ t) (e ∙ (λ i. n i ++ 32 ∷ h.2 i)))

    pub cut_spells : (n : ℕ) (torn : TornWord) → IsArmCount n → number ≡ decimal n → ReadsTorn word (Some torn) → Spells (codes "cut " ++ rest) (Cut n torn)
    unfolding line_text IsWithinGrammar
    cut_spells n torn count m h = ((count, h.0), ap (λ t. codes "cut " ++ t) (e ∙ (λ i. m i ++ 32 ∷ h.1 i)))

-- a text with none of the words in front spells nothing
pub no_word : (text : List ℕ)
    → ((rest : List ℕ) → text ≡ codes "write " ++ rest → ⊥)
    → ((rest : List ℕ) → text ≡ codes "read " ++ rest → ⊥)
    → ((rest : List ℕ) → text ≡ codes "trim " ++ rest → ⊥)
    → ((rest : List ℕ) → text ≡ codes "idle " ++ rest → ⊥)
    → ((rest : List ℕ) → text ≡ codes "cut " ++ rest → ⊥)
    → ((rest : List ℕ) → text ≡ codes "failread " ++ rest → ⊥)
    → (text ≡ codes "mount" → ⊥) → (text ≡ codes "stat" → ⊥) → SpellsNone text
unfolding line_text
no_word text w r t i c f m a (Write sector bytes) s = w _ s.1
no_word text w r t i c f m a (Read n) s = r _ s.1
no_word text w r t i c f m a (Trim n) s = t _ s.1
no_word text w r t i c f m a (Idle n) s = i _ s.1
no_word text w r t i c f m a (Cut n torn) s = c _ s.1
no_word text w r t i c f m a (FailRead n) s = f _ s.1
no_word text w r t i c f m a Mount s = m s.1
no_word text w r t i c f m a Stat s = a s.1
