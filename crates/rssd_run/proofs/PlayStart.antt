-- A blank die of a head is mounted but for want of memory, and a play of it begins with zeros alone.
use Rattle.std.proofs.Common.{◌≡◌, ℕ, ◌+◌, ◌*◌, ◌<◌, true, List, replicate, Some, refl, sym, ap, ◌∙◌, arith, subst}
use Rattle.cell_die.specs.DieState.{DieState, IsShaped, page_count as die_pages}
use Rattle.striped.specs.Meaning.{Meaning}
use Rattle.die_image.specs.declared.head.ImageHead.{ImageHead}
use Rattle.die_image.specs.Image.{is_within_limits, shape_of}
use Rattle.page_codec.specs.Records.{header_in}
use Rattle.page_codec.specs.Sound.{IsSound}
use Rattle.page_codec.specs.Sectors.{stored}
use Rattle.rssd_core.specs.declared.device.MountError.{MountError}
use Rattle.rssd_core.specs.declared.device.MountError.TheVariants.{OutOfMemory, Shape as BadShape, DieFault, NoSpare}
use Rattle.rssd_core.specs.DeviceValue.{Numbers, DeviceValue, rows_of}
use Rattle.rssd_core.specs.Mount.{Fits, Mounts, Refuses, MountFails, EveryBlockLive, numbers_of}
use Rattle.rssd_run.specs.ArrayWithCuts.{On}
use Rattle.rssd_run.specs.View.{View, Event}
use Rattle.schemes.specs.Schemes.{meaning_named, HasRow}
use Rattle.rssd_run.specs.Heads.{numbers_named, plan_of}
use Rattle.rssd_run.specs.Held.{Tallies, on}
use Rattle.rssd_core.specs.Outcomes.{TrueWhileRunning}
use Rattle.rssd_io.specs.Event.{Event as Act}
use Rattle.rssd_script.specs.declared.lines.Line.{Line}
use Rattle.rssd_run.specs.Shows.{Mounted, ShowsHolding}
use Rattle.rssd_run.specs.PlayRuns.{IsBlankDie, IsPlayStart, PlayOf, PlayCutOff, PlaysFrom, PlaysFrontFrom, PlaysLines, CutsOffPlay}
use Rattle.rssd_run.proofs.BlankCells.{IsBlank, no_header_at, blank_counts, blank_sound, blank_stored}
use Rattle.rssd_run.proofs.DieStart.{none_added, runs}
use Rattle.rssd_run.proofs.HeadLimits.{head_limits, head_fits}
use Rattle.schemes.proofs.Rows.{named_row}
use Rattle.rssd_run.proofs.Plays.{Stands}

-- a blank die of a head that is within the limits
pub record IsGivenBlank (head : ImageHead) (die : DieState) : Type 0 where
  pub within : is_within_limits head ≡ true
  pub shaped : IsShaped die
  pub blank : IsBlankDie (shape_of head) die

module _ (head : ImageHead) (die : DieState) (given : IsGivenBlank head die) where
  d : Numbers
  d = numbers_named head

  some_blocks : 0 < head.blocks
  some_blocks = omega (arith, (head_limits head given.within).some_blocks)

  pub blank : IsBlank (numbers_named head).geometry die.cells
  blank =
      let row : HasRow head.scheme (meaning_named head.scheme) = named_row head.scheme in
      record {
        pages = given.shaped.pages ∙ ap die_pages given.blank.same_shape;
        blank = λ page within. given.blank.blank page within ∙ ap (λ (n : ℕ). replicate ((shape_of head).main_bytes + 16 * n) 0) (sym row.generations);
      }

  pub sound : IsSound (numbers_named head).geometry die.cells
  sound = blank_sound (numbers_named head).geometry die.cells some_blocks blank

  pub no_block_live : EveryBlockLive (numbers_named head).geometry die → ⊥
  no_block_live full =
      let live = full 0 some_blocks in
      let none = blank_counts (numbers_named head).geometry die.cells blank 0 in
      omega (arith, live, none)

  -- ---- what is refused

  module _ (meaning : Meaning) (meaning_is : meaning ≡ meaning_named head.scheme) where
    numbers_same : numbers_of die.shape meaning (plan_of head) ≡ numbers_named head
    numbers_same = λ i. numbers_of (given.blank.same_shape i) (meaning_is i) (plan_of head)

    given_fits : Fits die.shape meaning (plan_of head)
    given_fits = subst (λ (s : _). Fits s meaning (plan_of head)) (sym given.blank.same_shape)
        (subst (λ (m : Meaning). Fits (shape_of head) m (plan_of head)) (sym meaning_is) (head_fits head given.within))

    refused_so : (new : DieState) (why : MountError) → (MountFails (numbers_named head) die new → ⊥) → (why ≡ BadShape → ¬ Fits die.shape meaning (plan_of head))
        → Refuses (numbers_named head) die new why
        → why ≡ OutOfMemory
    refused_so new OutOfMemory never shape refuses = refl
    refused_so new BadShape never shape refuses = absurd (shape refl given_fits)
    refused_so new DieFault never shape refuses = absurd (never refuses)
    refused_so new NoSpare never shape refuses = absurd (no_block_live refuses.full)

    pub never_refused : (new : DieState) (why : MountError) → (MountFails (numbers_named head) die new → ⊥) → (why ≡ BadShape → ¬ Fits die.shape meaning (plan_of head))
        → Refuses (numbers_of die.shape meaning (plan_of head)) die new why → why ≡ OutOfMemory
    never_refused new why never shape refuses = refused_so new why never shape (subst (λ (d : Numbers). Refuses d die new why) numbers_same refuses)

    pub mounts_named : (device : DeviceValue) → Mounts (numbers_of die.shape meaning (plan_of head)) die device → Mounts (numbers_named head) die device
    mounts_named device mounts = subst (λ (d : Numbers). Mounts d die device) numbers_same mounts

  -- ---- where a play begins

  module _ (device : DeviceValue) (mounts : Mounts (numbers_named head) die device) where
    abbrev none : Tallies
    none = record { first = 0; second = 0; declined = 0; moved = 0 }

    abbrev first_view : View
    first_view = on (numbers_named head) none device

    play_start : IsPlayStart head die first_view
    play_start =
        let same : device.view.die.cells ≡ die.cells = mounts.cells.cells in
        let d : Numbers = numbers_named head in
        record {
          device = device;
          mounts = mounts;
          same = none_added device.view mounts.counts;
          zeros = ap On (ap (λ (cells : List (List ℕ)). stored d.geometry d.meaning.decoding cells) same ∙ blank_stored d.geometry d.meaning.decoding die.cells blank);
          no_header = λ place h at. no_header_at d.geometry die.cells blank place h (subst (λ (cells : List (List ℕ)). header_in d.geometry cells place ≡ Some h) same at);
          sound = subst (IsSound d.geometry) (sym same) sound;
        }

    start_stands : Stands (numbers_named head) none device first_view
    start_stands = record {
      numbers = mounts.numbers;
      shows = (refl, runs device.stopped mounts.running (rows_of (numbers_named head) device.view));
      sound = subst (IsSound (numbers_named head).geometry) (sym mounts.cells.cells) sound;
      book = mounts.true_book;
    }

    -- what its lines are from each view that it stands for they are from its first view
    from_first : (Play : Numbers → View → View → Type 0)
        → ((base : Tallies) (before : View) → ShowsHolding device.numbers base (Mounted device) before → IsSound device.numbers.geometry device.view.die.cells → TrueWhileRunning device.numbers device
        → (after : View) × Play device.numbers before after) → (after : View) × Play (numbers_named head) first_view after
    from_first Play plays =
        let stands : Stands (numbers_named head) none device first_view = start_stands in
        let so = plays none first_view
        (subst (λ (d : Numbers). ShowsHolding d none (Mounted device) first_view) (sym mounts.numbers) stands.shows)
        (subst (λ (d : Numbers). IsSound d.geometry device.view.die.cells) (sym mounts.numbers) stands.sound)
        (subst (λ (d : Numbers). TrueWhileRunning d device) (sym mounts.numbers) stands.book) in
        (so.0, subst (λ (d : Numbers). Play d first_view so.0) mounts.numbers so.1)

    module _ (P : Event → Type 0) (lines : List Line) (log log_after : List Act) where
      pub plays_from : PlaysLines P device lines log log_after → PlaysFrom (IsPlayStart head die) P (numbers_named head) lines log log_after
      plays_from plays =
          let so = from_first (λ d before after. PlayOf P d before lines after log log_after) plays in
          record { before = first_view; start = play_start; after = so.0; play = so.1 }

      pub plays_front_from : CutsOffPlay P device lines log log_after → PlaysFrontFrom (IsPlayStart head die) P (numbers_named head) lines log log_after
      plays_front_from plays =
          let so = from_first (λ d before after. PlayCutOff P d before lines after log log_after) plays in
          record { before = first_view; start = play_start; after = so.0; play = so.1 }
