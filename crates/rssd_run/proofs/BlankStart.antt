-- A run on a blank die is a replay: no block has a live record there, all sectors are zeros, and its cells are sound.
use Rattle.std.proofs.Common.{◌≡◌, inl, ℕ, true, List, Some, sym, ap, ◌∙◌, subst}
use Rattle.cell_die.specs.DieState.{DieState, IsShaped}
use Rattle.mem_die.specs.MemState.{IsNew}
use Rattle.die_image.specs.declared.head.ImageHead.{ImageHead}
use Rattle.die_image.specs.Image.{is_within_limits, shape_of}
use Rattle.page_codec.specs.Records.{header_in}
use Rattle.page_codec.specs.Sound.{IsSound}
use Rattle.rssd_core.specs.DeviceValue.{DeviceView}
use Rattle.rssd_core.specs.Mount.{EveryBlockLive}
use Rattle.rssd_io.specs.Event.{Event as Act}
use Rattle.rssd_script.specs.declared.lines.Line.{Line}
use Rattle.rssd_run.specs.ArrayWithCuts.{On}
use Rattle.rssd_run.specs.View.{View}
use Rattle.rssd_run.specs.Heads.{numbers_named}
use Rattle.rssd_run.specs.DieRuns.{IsReady, IsStart, RunsTo, RunsOn, RunsInPart, RunsFrontOn}
use Rattle.rssd_run.specs.Replays.{IsBlankStart, Replays, ReplaysFront}
use Rattle.rssd_run.proofs.BlankCells.{no_header_at, blank_stored}
use Rattle.rssd_run.proofs.PlayStart.{IsGivenBlank, blank, sound, no_block_live}

-- a new die of a head that is within the limits
pub record IsFresh (head : ImageHead) (die : DieState) : Type 0 where
  pub within : is_within_limits head ≡ true
  pub shaped : IsShaped die
  pub new : IsNew (shape_of head) die

pub fresh_ready : (head : ImageHead) (die : DieState) → IsFresh head die → IsReady head die
fresh_ready head die fresh = record { shape = fresh.new.same_shape; quiet = fresh.new.quiet }

module _ (head : ImageHead) (die : DieState) (fresh : IsFresh head die) where
  given : IsGivenBlank head die
  given = record {
    within = fresh.within;
    shaped = fresh.shaped;
    blank = record {
      same_shape = fresh.new.same_shape;
      blank = fresh.new.blank;
      erases = fresh.new.erases;
      read_faults = fresh.new.read_faults;
      change_faults = fresh.new.change_faults;
    };
  }

  pub never_full : EveryBlockLive (numbers_named head).geometry die → ⊥
  never_full = no_block_live head die given

  pub blank_start : (view : View) → IsStart head die view → IsBlankStart head view
  blank_start view start =
      let d = numbers_named head in
      let same : view.device.die.cells ≡ die.cells = ap (λ (v : DeviceView). v.die.cells) start.same ∙ start.mounts.cells.cells in
      record {
        die = die;
        blank = fresh.new;
        device = start.device;
        mounts = start.mounts;
        same = start.same;
        zeros = start.rows ∙ ap On (blank_stored d.geometry d.meaning.decoding die.cells (blank head die given));
        no_header = λ place h at. no_header_at d.geometry die.cells (blank head die given) place h (subst (λ (cells : List (List ℕ)). header_in d.geometry cells place ≡ Some h) same at);
        sound = subst (IsSound d.geometry) (sym same) (sound head die given);
      }

  module _ (lines : List Line) (log log_after : List Act) where
    pub replays_of : (last : DieState) → RunsOn head die lines log log_after last → Replays head lines log log_after
    replays_of last on_die =
        let to : RunsTo (numbers_named head) on_die.before lines log log_after last = on_die.run (inl (sound head die given)) in
        record { before = on_die.before; start = blank_start on_die.before on_die.start; after = to.after; run = to.run }

    pub front_of : RunsFrontOn head die lines log log_after → ReplaysFront head lines log log_after
    front_of on_die =
        let to : RunsInPart (numbers_named head) on_die.before lines log log_after = on_die.run (inl (sound head die given)) in
        record { before = on_die.before; start = blank_start on_die.before on_die.start; after = to.after; run = to.run }
