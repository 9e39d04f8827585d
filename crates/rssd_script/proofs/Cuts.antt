-- Texts cut into lines.
use Rattle.std.proofs.Common.{◌≡◌, ℕ, ◌+◌, ◌-◌, ◌/◌, ◌%◌, ◌^◌, ◌<◌, ◌≤◌, List, [], ◌∷◌, ◌++◌, length, map, get_or, Bool, true, false, true≢false, eq-eqb, cond, eqb, refl, sym, ap, ◌∙◌, arith}
use Rattle.std.proofs.Common.{decimal, codes, append_assoc, suc, zero}
use Rattle.std.proofs.lemmas.Bool.{ne_eqb}
use Rattle.std.proofs.lemmas.List.{length-append, length-map, get_or_append_left, get_or-map, get_or_at, append-nil}
use Rattle.std.proofs.lemmas.List.Concat.{flat_map-append}
use Rattle.std.proofs.lemmas.Fmt.{length-decimal-le}
use Rattle.std.specs.List.{AllByRecursion, AllZip}
use Rattle.std.specs.Int.{w64, to_be_bytes}
use Rattle.rssd_script.specs.declared.lines.Line.{Line}
use Rattle.rssd_script.specs.declared.lines.Line.TheVariants.{Write, Read, Trim, Idle, Cut, FailRead, Mount, Stat}
use Rattle.rssd_script.specs.declared.lines.TornWord.{TornWord}
use Rattle.rssd_script.specs.declared.lines.TornWord.TheVariants.{Nothing, All as Every, Mask}
use Rattle.rssd_script.specs.Script.{Spells, IsWithinGrammar, IsScript, FirstBadLine, line_text, torn_text, text_lines, onto_first, script_text}
use Rattle.rssd_script.specs.Text.{hex_digit, hex_of, hex_or_dash}
use Rattle.rssd_script.specs.Reading.{Lacks, SpellsNone}
use Rattle.rssd_script.specs.Scripts.{Whole, Broken, Adds}
use Rattle.rssd_script.proofs.Texts.{Lacks-append, Lacks-decimal, length-hex}

-- ---- the cut at a line feed
pub text_lines-cut : (a b : List ℕ) → Lacks 10 a → text_lines (a ++ 10 ∷ b) ≡ a ∷ text_lines b
unfolding text_lines
text_lines-cut [] b l = refl
text_lines-cut (x ∷ a) b l = rw (ne_eqb x 10 l.0, text_lines-cut a b l.1) refl

pub text_lines-last : (a : List ℕ) → Lacks 10 a → 0 < length a → text_lines a ≡ a ∷ []
unfolding text_lines
text_lines-last [] l h = absurd (omega arith)
text_lines-last (x ∷ []) l h = rw (ne_eqb x 10 l.0) refl
text_lines-last (x ∷ y ∷ a) l h =
    let r = text_lines-last (y ∷ a) l.1 (omega arith) in
    ap (λ t. cond t ([] ∷ text_lines (y ∷ a)) (onto_first x (text_lines (y ∷ a)))) (ne_eqb x 10 l.0) ∙ ap (onto_first x) r

-- a text without a line feed is the front of a line
pub record Fronts (a text : List ℕ) : Type 0 where
  pub back : List ℕ
  pub others : List (List ℕ)
  pub is : text_lines text ≡ (a ++ back) ∷ others

onto : (x : ℕ) (lines : List (List ℕ)) → (back : List ℕ) × (others : List (List ℕ)) × (onto_first x lines ≡ (x ∷ back) ∷ others)
onto x [] = ([], [], refl)
onto x (line ∷ lines) = (line, lines, refl)

pub text_lines-front : (a more : List ℕ) → Lacks 10 a → 0 < length a → Fronts a (a ++ more)
unfolding text_lines
text_lines-front [] more l h = absurd (omega arith)
text_lines-front (x ∷ []) more l h =
    let o = onto x (text_lines more) in
    record { back = o.0; others = o.1; is = ap (λ t. cond t ([] ∷ text_lines more) (onto_first x (text_lines more))) (ne_eqb x 10 l.0) ∙ o.2 }
text_lines-front (x ∷ y ∷ a) more l h =
    let r = text_lines-front (y ∷ a) more l.1 (omega arith) in
    record {
      back = r.back;
      others = r.others;
      is = ap (λ t. cond t ([] ∷ text_lines (y ∷ a ++ more)) (onto_first x (text_lines (y ∷ a ++ more)))) (ne_eqb x 10 l.0) ∙ ap (onto_first x) r.is;
    }

-- ---- a line's text has no line feed, and fits the reader's room
above : (d : ℕ) → 48 ≤ hex_digit d
above d = grind arith

pub Lacks-hex : (bytes : List ℕ) → Lacks 10 (hex_of bytes)
Lacks-hex [] = tt
Lacks-hex (x ∷ bytes) =
    let h = above (x / 16) in
    let l = above (x % 16) in
    (λ e. omega (arith, h), (λ e. omega (arith, l), Lacks-hex bytes))

Lacks-dash : (bytes : List ℕ) → Lacks 10 (hex_or_dash bytes)
Lacks-dash [] = (λ e. omega arith, tt)
Lacks-dash (x ∷ bytes) = Lacks-hex (x ∷ bytes)

-- a test that computes on a literal
abbrev without : ℕ → List ℕ → Bool
without byte [] = true
without byte (x ∷ xs) = cond (eqb x byte) false (without byte xs)

Lacks-tested : (byte : ℕ) (xs : List ℕ) → without byte xs ≡ true → Lacks byte xs
Lacks-tested byte [] t = tt
Lacks-tested byte (x ∷ xs) t = at (eqb x byte) refl (Lacks-tested byte xs) t
  where
    at : (b : Bool) → eqb x byte ≡ b → (without byte xs ≡ true → Lacks byte xs) → cond b false (without byte xs) ≡ true → Lacks byte (x ∷ xs)
    at true e ih h = absurd (true≢false (sym h))
    at false e ih h = (λ is. true≢false (sym (eq-eqb x byte is) ∙ e), ih h)

Lacks-torn : (torn : TornWord) → Lacks 10 (torn_text torn)
Lacks-torn Nothing = Lacks-tested 10 (codes "none") refl
Lacks-torn Every = Lacks-tested 10 (codes "all") refl
Lacks-torn (Mask m) = Lacks-append 10 (codes "mask:") (hex_of (to_be_bytes w64 m)) (Lacks-tested 10 (codes "mask:") refl) (Lacks-hex (to_be_bytes w64 m))

Lacks-number : (n : ℕ) → n < 2 ^ 32 → Lacks 10 (decimal n)
Lacks-number n small = Lacks-decimal 10 n (omega arith) small

pub Lacks-line : (line : Line) → IsWithinGrammar line → Lacks 10 (line_text line)
unfolding line_text IsWithinGrammar
Lacks-line (Write sector bytes) w =
    Lacks-append 10 (codes "write " ++ decimal sector) (32 ∷ hex_or_dash bytes)
    (Lacks-append 10 (codes "write ") (decimal sector) (Lacks-tested 10 (codes "write ") refl) (Lacks-number sector w.0))
    (λ e. omega arith, Lacks-dash bytes)
Lacks-line (Read n) w = Lacks-append 10 (codes "read ") (decimal n) (Lacks-tested 10 (codes "read ") refl) (Lacks-number n w)
Lacks-line (Trim n) w = Lacks-append 10 (codes "trim ") (decimal n) (Lacks-tested 10 (codes "trim ") refl) (Lacks-number n w)
Lacks-line (Idle n) w = Lacks-append 10 (codes "idle ") (decimal n) (Lacks-tested 10 (codes "idle ") refl) (Lacks-number n w)
Lacks-line (Cut n torn) w =
    Lacks-append 10 (codes "cut " ++ decimal n) (32 ∷ torn_text torn)
    (Lacks-append 10 (codes "cut ") (decimal n) (Lacks-tested 10 (codes "cut ") refl) (Lacks-number n (omega (arith, w.0.1))))
    (λ e. omega arith, Lacks-torn torn)
Lacks-line (FailRead n) w = Lacks-append 10 (codes "failread ") (decimal n) (Lacks-tested 10 (codes "failread ") refl) (Lacks-number n (omega (arith, w.1)))
Lacks-line Mount w = Lacks-tested 10 (codes "mount") refl
Lacks-line Stat w = Lacks-tested 10 (codes "stat") refl

short_number : (n : ℕ) → n < 2 ^ 32 → length (decimal n) ≤ 10
short_number n small = length-decimal-le 10 n (omega arith) (omega arith) (omega arith)

short_dash : (bytes : List ℕ) → length bytes ≤ 512 → length (hex_or_dash bytes) ≤ 1024
short_dash [] h = omega arith
short_dash (x ∷ bytes) h = let e = length-hex (x ∷ bytes) in omega (arith, e)

short_torn : (torn : TornWord) → length (torn_text torn) ≤ 1024
short_torn Nothing = omega arith
short_torn Every = omega arith
short_torn (Mask m) = let e = length-hex (to_be_bytes w64 m) in omega (arith, e)

-- the text of a word, a number and more
short_text : (word number more : List ℕ) → length word ≤ 10 → length number ≤ 10 → length more ≤ 1024 → length (word ++ number ++ 32 ∷ more) ≤ 1048
short_text word number more w n m = rw (length-append, length-append) (omega arith)

short_pair : (word number : List ℕ) → length word ≤ 10 → length number ≤ 10 → length (word ++ number) ≤ 1048
short_pair word number w n = rw length-append (omega arith)

pub length-line : (line : Line) → IsWithinGrammar line → length (line_text line) ≤ 1048
unfolding line_text IsWithinGrammar
length-line (Write sector bytes) w = short_text (codes "write ") (decimal sector) (hex_or_dash bytes) (omega arith) (short_number sector w.0) (short_dash bytes w.1)
length-line (Read n) w = short_pair (codes "read ") (decimal n) (omega arith) (short_number n w)
length-line (Trim n) w = short_pair (codes "trim ") (decimal n) (omega arith) (short_number n w)
length-line (Idle n) w = short_pair (codes "idle ") (decimal n) (omega arith) (short_number n w)
length-line (Cut n torn) w = short_text (codes "cut ") (decimal n) (torn_text torn) (omega arith) (short_number n (omega (arith, w.0.1))) (short_torn torn)
length-line (FailRead n) w = short_pair (codes "failread ") (decimal n) (omega arith) (short_number n (omega (arith, w.1)))
length-line Mount w = omega arith
length-line Stat w = omega arith

-- a text with no room in the reader spells nothing
pub long_spells_none : (text : List ℕ) → 1048 < length text → SpellsNone text
long_spells_none text long line s = let h = length-line line s.0 in let e : length text ≡ length (line_text line) = ap length s.1 in omega arith

pub empty_spells_none : SpellsNone []
unfolding line_text
empty_spells_none (Write sector bytes) s = cc
empty_spells_none line s = cc

-- ---- whole lines in front
pub text_lines-whole : (lines : List Line) (more : List ℕ) → AllByRecursion IsWithinGrammar lines → text_lines (script_text lines ++ more) ≡ map line_text lines ++ text_lines more
text_lines-whole [] more w = refl
text_lines-whole (line ∷ lines) more w =
    let e : script_text (line ∷ lines) ++ more ≡ line_text line ++ 10 ∷ (script_text lines ++ more) =
    append_assoc (line_text line ++ 10 ∷ []) (script_text lines) more ∙ append_assoc (line_text line) (10 ∷ []) (script_text lines ++ more) in
    ap text_lines e ∙ text_lines-cut (line_text line) (script_text lines ++ more) (Lacks-line line w.0) ∙ ap (λ t. line_text line ∷ t) (text_lines-whole lines more w.1)

spelled : (lines : List Line) → AllByRecursion IsWithinGrammar lines → AllZip Spells (map line_text lines) lines
spelled [] w = tt
spelled (line ∷ lines) w = ((w.0, refl), spelled lines w.1)

-- the lines of the texts before the first that is none
module _ (text : List ℕ) (lines : List Line) (bad : List ℕ) (others : List (List ℕ)) (w : AllByRecursion IsWithinGrammar lines) (e : text_lines text ≡ map line_text lines ++ bad ∷ others) where
  pub first_bad : SpellsNone bad → FirstBadLine text (length lines + 1)
  first_bad none = record {
    before =
        λ i h. (
          get_or lines i Mount,
          (
            within lines w i (omega arith),
            rw e (get_or_append_left (map line_text lines) (bad ∷ others) [] i (rw length-map (omega arith)) ∙ get_or-map line_text lines i Mount [] (omega arith)),
          ),
        );
    within = (omega arith, rw (e, length-append, length-map) (omega arith));
    bad = λ line s. none line (s.0, sym at ∙ s.1);
  }
    where
      within : (xs : List Line) → AllByRecursion IsWithinGrammar xs → (i : ℕ) → i < length xs → IsWithinGrammar (get_or xs i Mount)
      within [] w i h = absurd (omega arith)
      within (x ∷ xs) w zero h = w.0
      within (x ∷ xs) w (suc i) h = within xs w.1 i (omega arith)

      at : get_or (text_lines text) (length lines + 1 - 1) [] ≡ bad
      at = rw e (get_or_at (map line_text lines) bad others [] (length lines + 1 - 1) (rw length-map (omega arith)))

-- ---- a reader's steps
pub whole_none : Whole [] [] []
whole_none = record { within = tt; is = refl; no_feed = tt }

module _ (text : List ℕ) (lines : List Line) (rest : List ℕ) (w : Whole text lines rest) where
  -- more bytes of the line that has begun
  pub whole_more : (piece : List ℕ) → Lacks 10 piece → Whole (text ++ piece) lines (rest ++ piece)
  whole_more piece l = record {
    within = w.within;
    is = ap (λ t. t ++ piece) w.is ∙ append_assoc (script_text lines) rest piece;
    no_feed = Lacks-append 10 rest piece w.no_feed l;
  }

  -- the line is whole
  pub whole_line : (now : List Line) (front : List ℕ) → Adds lines now (rest ++ front) → Whole (text ++ (front ++ 10 ∷ [])) now []
  whole_line now front a = let line = a.0 in rw a.2 (record {
    within = pushed lines line w.within a.1.0;
    is =
        ap (λ t. t ++ (front ++ 10 ∷ [])) w.is ∙ append_assoc (script_text lines) rest (front ++ 10 ∷ [])
        ∙ ap (λ t. script_text lines ++ t) (sym (append_assoc rest front (10 ∷ [])) ∙ ap (λ t. t ++ 10 ∷ []) a.1.1)
        ∙ sym (flat_map-append (λ x. line_text x ++ 10 ∷ []) lines (line ∷ []) ∙ ap (λ t. script_text lines ++ t) (append-nil (line_text line ++ 10 ∷ [])))
        ∙ sym (append-nil _);
    no_feed = tt;
  })
    where
      pushed : (xs : List Line) (x : Line) → AllByRecursion IsWithinGrammar xs → IsWithinGrammar x → AllByRecursion IsWithinGrammar (xs ++ x ∷ [])
      pushed [] x ws v = (v, tt)
      pushed (y ∷ ys) x ws v = (ws.0, pushed ys x ws.1 v)

  -- the line is whole and bad
  pub broken_line : (front back : List ℕ) → Lacks 10 front → SpellsNone (rest ++ front) → Broken (text ++ (front ++ 10 ∷ back)) (length lines + 1)
  broken_line front back l none more =
      first_bad _ lines (rest ++ front) (text_lines (back ++ more)) w.within
      (ap text_lines e ∙ text_lines-whole lines _ w.within ∙ ap (λ t. map line_text lines ++ t) (text_lines-cut (rest ++ front) (back ++ more) (Lacks-append 10 rest front w.no_feed l))) none
    where
      e : (text ++ (front ++ 10 ∷ back)) ++ more ≡ script_text lines ++ ((rest ++ front) ++ 10 ∷ (back ++ more))
      e = append_assoc text (front ++ 10 ∷ back) more ∙ (λ i. w.is i ++ (append_assoc front (10 ∷ back) more i)) ∙ append_assoc (script_text lines) rest (front ++ 10 ∷ (back ++ more))
          ∙ ap (λ t. script_text lines ++ t) (sym (append_assoc rest front (10 ∷ (back ++ more))))

  -- a line that has begun and has no room is bad
  pub broken_long : (piece : List ℕ) → Lacks 10 piece → 1048 < length (rest ++ piece) → Broken (text ++ piece) (length lines + 1)
  broken_long piece l long more =
      let f = text_lines-front (rest ++ piece) more (Lacks-append 10 rest piece w.no_feed l) (omega arith) in
      first_bad _ lines ((rest ++ piece) ++ f.back) f.others w.within (ap text_lines e ∙ text_lines-whole lines _ w.within ∙ ap (λ t. map line_text lines ++ t) f.is)
      (long_spells_none _ (rw length-append (omega arith)))
    where
      e : (text ++ piece) ++ more ≡ script_text lines ++ ((rest ++ piece) ++ more)
      e =
          append_assoc text piece more ∙ (λ i. w.is i ++ (piece ++ more)) ∙ append_assoc (script_text lines) rest (piece ++ more)
          ∙ ap (λ t. script_text lines ++ t) (sym (append_assoc rest piece more))

  -- the end after a line feed, or of the empty text
  pub end_whole : rest ≡ [] → IsScript text lines
  unfolding text_lines
  end_whole none = rw (ap text_lines (w.is ∙ ap (λ t. script_text lines ++ t) none) ∙ text_lines-whole lines [] w.within ∙ append-nil (map line_text lines)) (spelled lines w.within)

  -- the end of a last line without its line feed
  last_lines : 0 < length rest → text_lines text ≡ map line_text lines ++ rest ∷ []
  last_lines some = ap text_lines w.is ∙ text_lines-whole lines rest w.within ∙ ap (λ t. map line_text lines ++ t) (text_lines-last rest w.no_feed some)

  pub end_last : (now : List Line) → 0 < length rest → Adds lines now rest → IsScript text now
  end_last now some a = rw (last_lines some, a.2) (zip lines w.within)
    where
      zip : (xs : List Line) → AllByRecursion IsWithinGrammar xs → AllZip Spells (map line_text xs ++ rest ∷ []) (xs ++ a.0 ∷ [])
      zip [] ws = (a.1, tt)
      zip (x ∷ xs) ws = ((ws.0, refl), zip xs ws.1)

  pub end_bad : 0 < length rest → SpellsNone rest → FirstBadLine text (length lines + 1)
  end_bad some none = first_bad text lines rest [] w.within (last_lines some) none
