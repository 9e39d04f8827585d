-- The lines of a workload: what they draw, and that a session takes each of them.
use Rattle.std.proofs.Common.{◌≡◌, ℕ, zero, suc, ◌+◌, ◌*◌, ◌/◌, ◌%◌, ◌-◌, ◌^◌, ◌<◌, ◌≤◌, Bool, true, false, List, [], ◌∷◌, ◌++◌, length, refl, sym, ap, ◌∙◌, arith, append_assoc, append-nil}
use Rattle.std.proofs.Common.{length-append}
use Rattle.std.specs.Prelude.{◌==◌, if◌then◌else◌}
use Rattle.std.proofs.Math.Nat.{add-mul-mod_self_left, div-add-mod}
use Rattle.rand_xoshiro.specs.SplitMix64.{next_state}
use Rattle.rssd_script.specs.declared.lines.Line.{Line}
use Rattle.rssd_script.specs.declared.lines.Line.TheVariants.{Write, Trim, Idle}
use Rattle.rssd_work.specs.Workload.{word, after_words, word_bytes, next_line, words_drawn, workload, workload_from}
use Rattle.rssd_run.specs.Workloads.{words_of}
use Rattle.rssd_run.specs.Shows.{CanStep}
use Rattle.rssd_run.proofs.CalmLines.{IsPlain}

-- ---- by the two tests of a line

kind_words : (sector_bytes sector : ℕ) (bytes : List ℕ) (trim idle : Bool) → words_of sector_bytes (if trim then Trim sector else (if idle then Idle 4 else Write sector bytes))
    ≡ (if trim then 2 else (if idle then 1 else 2 + sector_bytes / 8))
kind_words sector_bytes sector bytes true idle = refl
kind_words sector_bytes sector bytes false true = refl
kind_words sector_bytes sector bytes false false = refl

kind_plain : (sector : ℕ) (bytes : List ℕ) (trim idle : Bool) → IsPlain (if trim then Trim sector else (if idle then Idle 4 else Write sector bytes))
kind_plain sector bytes true idle = tt
kind_plain sector bytes false true = tt
kind_plain sector bytes false false = tt

kind_can_step : (sector : ℕ) (bytes : List ℕ) (trim idle : Bool) → CanStep (if trim then Trim sector else (if idle then Idle 4 else Write sector bytes))
kind_can_step sector bytes true idle = tt
kind_can_step sector bytes false true = tt
kind_can_step sector bytes false false = tt

module _ (sectors sector_bytes state : ℕ) where
  pub words_of-next_line : words_of sector_bytes (next_line sectors sector_bytes state) ≡ words_drawn sector_bytes state
  unfolding next_line words_drawn
  words_of-next_line = kind_words sector_bytes (word (next_state state) % sectors) (word_bytes (sector_bytes / 8) (after_words 2 state)) (word state % 16 == 0) (word state % 16 == 1)

  pub next_line_plain : IsPlain (next_line sectors sector_bytes state)
  unfolding next_line
  next_line_plain = kind_plain (word (next_state state) % sectors) (word_bytes (sector_bytes / 8) (after_words 2 state)) (word state % 16 == 0) (word state % 16 == 1)

  pub next_line_can_step : CanStep (next_line sectors sector_bytes state)
  unfolding next_line
  next_line_can_step = kind_can_step (word (next_state state) % sectors) (word_bytes (sector_bytes / 8) (after_words 2 state)) (word state % 16 == 0) (word state % 16 == 1)

-- ---- the state behind some words

abbrev stride : ℕ
stride = 0x9e3779b97f4a7c15

mod-add-left : (a b m : ℕ) → (a % m + b) % m ≡ (a + b) % m
mod-add-left a b m =
    let whole = div-add-mod a m in
    let apart : a + b ≡ (a % m + b) + m * (a / m) = omega (arith, whole) in
    sym (ap (λ n. n % m) apart ∙ add-mul-mod_self_left (a % m + b) m (a / m))

mod-add-right : (a b m : ℕ) → (a + b % m) % m ≡ (a + b) % m
mod-add-right a b m =
    let whole = div-add-mod b m in
    let apart : a + b ≡ (a + b % m) + m * (b / m) = omega (arith, whole) in
    sym (ap (λ n. n % m) apart ∙ add-mul-mod_self_left (a + b % m) m (b / m))

after_words-sum : (words state : ℕ) → state < 2 ^ 64 → after_words words state ≡ (state + stride * words) % 2 ^ 64
unfolding after_words
after_words-sum zero state small =
    let none : state + stride * 0 ≡ state = omega arith in
    sym (ap (λ n. n % 2 ^ 64) none ∙ small_mod state small)
  where
    small_mod : (n : ℕ) → n < 2 ^ 64 → n % 2 ^ 64 ≡ n
    small_mod n small = omega arith
after_words-sum (suc words) state small =
    let next : next_state state < 2 ^ 64 = omega arith in
    let more : state + stride + stride * words ≡ state + stride * suc words = omega arith in
    after_words-sum words (next_state state) next
    ∙ (mod-add-left (state + stride) (stride * words) (2 ^ 64) ∙ ap (λ n. n % 2 ^ 64) more)

pub after_words-wrapping : (words state : ℕ) → state < 2 ^ 64 → (state + stride * words % 2 ^ 64) % 2 ^ 64 ≡ after_words words state
after_words-wrapping words state small = mod-add-right state (stride * words) (2 ^ 64) ∙ sym (after_words-sum words state small)

-- ---- the one line of a workload of one line

pub workload-one : (state sectors sector_bytes : ℕ) → workload state 1 sectors sector_bytes ≡ next_line sectors sector_bytes state ∷ []
unfolding workload_from
workload-one state sectors sector_bytes = refl

pub last_of_one : (front : List Line) (last one : Line) → front ++ last ∷ [] ≡ one ∷ [] → last ≡ one
last_of_one [] last one same = cc
last_of_one (first ∷ front) last one same = absurd (omega (arith, ap (length {A = Line}) same, length-append front (last ∷ [])))

-- ---- one line more is drawn, and none is left

module _ (n count sectors sector_bytes state : ℕ) (lines : List Line) where
  pub one_more_line : n < count → (lines ++ next_line sectors sector_bytes state ∷ []) ++ workload_from (count - (n + 1)) sectors sector_bytes (after_words (words_drawn sector_bytes state) state)
      ≡ lines ++ workload_from (count - n) sectors sector_bytes state
  unfolding workload_from
  one_more_line more =
      let left : count - n ≡ suc (count - (n + 1)) = omega arith in
      append_assoc lines (next_line sectors sector_bytes state ∷ []) (workload_from (count - (n + 1)) sectors sector_bytes (after_words (words_drawn sector_bytes state) state))
      ∙ ap (λ (left : ℕ). lines ++ workload_from left sectors sector_bytes state) (sym left)

  pub all_lines : count ≤ n → lines ++ workload_from (count - n) sectors sector_bytes state ≡ lines
  unfolding workload_from
  all_lines none =
      let left : count - n ≡ 0 = omega arith in
      ap (λ (left : ℕ). lines ++ workload_from left sectors sector_bytes state) left ∙ append-nil lines
