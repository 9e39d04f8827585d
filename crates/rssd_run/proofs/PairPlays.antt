-- Two blank dies as one are a blank die with power and nothing armed, so that no line of a play fails on them.
use Rattle.std.proofs.Common.{◌≡◌, ℕ, zero, suc, ◌*◌, ◌/◌, ◌%◌, ◌<◌, ◌==◌, ◌&&◌, true, List, [], ◌∷◌, All, length, map, replicate, slice_index, get_or, Option, None, Some, refl, sym, ap, ap₂}
use Rattle.std.proofs.Common.{◌∙◌, arith, subst, if◌then◌else◌}
use Rattle.std.specs.Prelude.{IsSomeAnd}
use Rattle.std.specs.List.{AllByRecursion, range_with_len}
use Rattle.std.proofs.lemmas.List.Elements.{All-from_recursion}
use Rattle.std.proofs.lemmas.List.FromFn.{length-range_with_len}
use Rattle.cell_die.specs.declared.shape.Shape.{Shape}
use Rattle.cell_die.specs.Cells.{blank_page}
use Rattle.cell_die.specs.Counts.{count_sum}
use Rattle.cell_die.specs.DieState.{DieState, Failures, page_of, page_count, page_bytes, erases_of}
use Rattle.cell_die.specs.Calls.{IsQuiet}
use Rattle.cell_die.proofs.Quiet.{quiet_stays, quiet_read}
use Rattle.mem_die.specs.MemState.{mem_state, mem_shaped}
use Rattle.stripe_die.specs.declared.half.Half.{Half}
use Rattle.stripe_die.specs.declared.half.Half.TheVariants.{First, Second}
use Rattle.stripe_die.specs.Pair.{pair_state, pair_shape, pair_count, pair_failures, is_idle, idle}
use Rattle.stripe_die.specs.PairLaws.{page_of-pair, page_inside, number_at}
use Rattle.stripe_die.specs.Places.{block_place, page_place, at_place}
use Rattle.die_image.specs.declared.head.ImageHead.{ImageHead}
use Rattle.die_image.specs.Image.{shape_of}
use Rattle.rssd_core.specs.DeviceValue.{Numbers, DeviceView}
use Rattle.rssd_core.specs.Mount.{MountFails}
use Rattle.rssd_script.specs.declared.lines.Line.{Line}
use Rattle.rssd_script.specs.declared.lines.Line.TheVariants.{Write, Read, Trim, Idle, Cut, FailRead, Mount, Stat}
use Rattle.rssd_run.specs.ArrayWithCuts.{ArrayState, On, Off}
use Rattle.rssd_run.specs.View.{View, Event, IsOn, IsOff}
use Rattle.rssd_run.specs.Heads.{numbers_named}
use Rattle.rssd_run.specs.Played.{IsPlayed}
use Rattle.rssd_run.specs.PlayRuns.{IsPlaying, IsPlay, IsBlankDie, IsPlayStart, half_shape, IsBlankPair, NeverStops}
use Rattle.rssd_run.proofs.CalmLines.{IsPlain, plain_stays_on}

-- ---- the die

quiet_pair : (x y : Option Failures) → IsSomeAnd x (λ f. (f.powered ≡ true) × (f.cut ≡ 0) × (f.read_failure ≡ 0)) → IsSomeAnd y (λ f. (f.powered ≡ true) × (f.cut ≡ 0) × (f.read_failure ≡ 0))
    → IsSomeAnd (pair_failures x y) (λ f. (f.powered ≡ true) × (f.cut ≡ 0) × (f.read_failure ≡ 0))
quiet_pair None y first second = absurd first
quiet_pair (Some a) None first second = absurd second
quiet_pair (Some a) (Some b) first second =
    let is_first : is_idle a ≡ true = λ i. first.0 i && (first.1 i == 0) && (first.2 i == 0) in
    let is_second : is_idle b ≡ true = λ i. second.0 i && (second.1 i == 0) && (second.2 i == 0) in
    let told : (if is_idle a && is_idle b then Some idle else None) ≡ Some idle = λ i. if is_first i && is_second i then Some idle else None in
    subst (λ (x : Option Failures). IsSomeAnd x (λ f. (f.powered ≡ true) × (f.cut ≡ 0) × (f.read_failure ≡ 0))) (sym told) (refl, refl, refl)

same_for_all : (f : ℕ → ℕ) (xs : List ℕ) → ((x : ℕ) → f x ≡ 0) → map f xs ≡ replicate (length xs) 0
same_for_all f [] none = refl
same_for_all f (x ∷ xs) none = ap₂ (λ (y : ℕ) (ys : List ℕ). y ∷ ys) (none x) (same_for_all f xs none)

none_at : (n k : ℕ) → ◌≡◌ {A = ℕ} (get_or (replicate n 0) k 0) 0
none_at zero k = refl
none_at (suc n) zero = refl
none_at (suc n) (suc k) = none_at n k

module _ (head : ImageHead) (die : DieState) (even : head.blocks % 2 ≡ 0) (pair : IsBlankPair head die) where
  a : DieState
  a = mem_state pair.first

  b : DieState
  b = mem_state pair.second

  same : (mem_state pair.second).shape ≡ (mem_state pair.first).shape
  same = pair.second_blank.same_shape ∙ sym pair.first_blank.same_shape

  pair_shape_is : pair_shape (half_shape head) ≡ shape_of head
  pair_shape_is = let twice : 2 * (head.blocks / 2) ≡ head.blocks = omega (arith, even) in λ i. record (shape_of head) { blocks = twice i }

  blank_at : (place : Half) → number_at place < page_count (half_shape head)
      → at_place (page_of (mem_state pair.first)) (page_of (mem_state pair.second)) place ≡ blank_page (page_bytes (shape_of head))
  blank_at (First n) inside = pair.first_blank.blank n inside
  blank_at (Second n) inside = pair.second_blank.blank n inside

  count_at : (place : Half) → at_place (erases_of (mem_state pair.first)) (erases_of (mem_state pair.second)) place ≡ 0
  count_at (First n) = ap (λ (xs : List ℕ). slice_index xs n) pair.first_blank.erases ∙ none_at (head.blocks / 2) n
  count_at (Second n) = ap (λ (xs : List ℕ). slice_index xs n) pair.second_blank.erases ∙ none_at (head.blocks / 2) n

  blank_pages : (page : ℕ) → page < page_count (shape_of head) → page_of (pair_state (mem_state pair.first) (mem_state pair.second)) page ≡ blank_page (page_bytes (shape_of head))
  blank_pages page inside =
      let some : 0 < head.pages = subst (λ (s : Shape). 0 < s.pages) pair.first_blank.same_shape (mem_shaped pair.first).some_pages in
      let twice : 2 * (head.blocks / 2) ≡ head.blocks = omega (arith, even) in
      let within : page < 2 * (head.blocks / 2) * head.pages = subst (λ (n : ℕ). page < n * head.pages) (sym twice) inside in
      page_of-pair (mem_state pair.first) (mem_state pair.second) same (mem_shaped pair.first) (mem_shaped pair.second) page
      ∙ (ap (λ (s : Shape). at_place (page_of (mem_state pair.first)) (page_of (mem_state pair.second)) (page_place s.pages page)) pair.first_blank.same_shape
      ∙ blank_at (page_place head.pages page) (page_inside head.pages page (head.blocks / 2) some within))

  pub pair_blank : IsBlankDie (shape_of head) die
  pair_blank =
      let twice : 2 * (head.blocks / 2) ≡ head.blocks = omega (arith, even) in
      let x : DieState = mem_state pair.first in
      let y : DieState = mem_state pair.second in
      subst (IsBlankDie (shape_of head)) (sym pair.as_one) (record {
        same_shape = ap pair_shape pair.first_blank.same_shape ∙ pair_shape_is;
        blank = blank_pages;
        erases = same_for_all (pair_count x y) (range_with_len 0 (2 * x.shape.blocks)) (λ block. count_at (block_place block))
            ∙ ap (λ (n : ℕ). replicate n 0) (length-range_with_len 0 (2 * x.shape.blocks) ∙ (ap (λ (s : Shape). 2 * s.blocks) pair.first_blank.same_shape ∙ twice));
        read_faults = ap₂ count_sum pair.first_blank.read_faults pair.second_blank.read_faults;
        change_faults = ap₂ count_sum pair.first_blank.change_faults pair.second_blank.change_faults;
      })

  pub pair_quiet : IsQuiet die
  pair_quiet = subst IsQuiet (sym pair.as_one) (quiet_pair (mem_state pair.first).failures (mem_state pair.second).failures pair.first_blank.quiet pair.second_blank.quiet)

  pub pair_mounts : (d : Numbers) (new : DieState) → MountFails d die new → ⊥
  pair_mounts d new fails = quiet_read pair_quiet fails.failed

-- ---- its plays

plain : (line : Line) → IsPlayed line → IsPlain line
plain (Write sector bytes) played = tt
plain (Read sector) played = tt
plain (Trim sector) played = tt
plain (Idle n) played = tt
plain (Cut n torn) played = absurd played
plain (FailRead n) played = absurd played
plain Mount played = absurd played
plain Stat played = absurd played

not_both : (array : ArrayState) → IsOn array → IsOff array → ⊥
not_both (On rows) on off = off
not_both (Off old new) on off = on

never_stops : (d : Numbers) (before : View) (events : List Event) (after : View) → IsQuiet before.device.die → IsOn before.array → IsPlay d before events after → AllByRecursion NeverStops events
unfolding IsPlay
never_stops d before [] after quiet on play = tt
never_stops d before (e ∷ events) after quiet on play =
    let step : IsPlaying d e = play.1 in
    let quiet_here : IsQuiet e.before.device.die = subst (λ (v : View). IsQuiet v.device.die) (sym play.0) quiet in
    let on_here : IsOn e.before.array = subst (λ (v : View). IsOn v.array) (sym play.0) on in (
      record { no_fault = step.no_fault quiet_here; not_off = λ said. not_both e.before.array on_here (step.step.refused.off.0 said).0 },
      never_stops d e.after events after (step.quiet quiet_here)
          (plain_stays_on d.geometry.sector_bytes e.before.array e.line e.reply e.after.array (plain e.line step.played) on_here step.step.row (step.no_fault quiet_here)) play.2,
    )

pub pair_each : (head : ImageHead) (die : DieState) → IsQuiet die → (view : View) → IsPlayStart head die view → (events : List Event) (after : View) → IsPlay (numbers_named head) view events after
    → All NeverStops events
pair_each head die quiet view start events after play =
    All-from_recursion NeverStops events (never_stops (numbers_named head) view events after
    (subst (λ (v : DeviceView). IsQuiet v.die) (sym start.same) (quiet_stays quiet start.mounts.calls)) (subst IsOn (sym start.zeros) tt) play)
