-- A replay of a script never spends the record numbers: each line draws fewer than 2^8, and a script has no more lines than bytes.
use Rattle.std.proofs.Common.{◌≡◌, ◌⊎◌, inl, inr, ℕ, ◌+◌, ◌*◌, ◌^◌, ◌<◌, ◌≤◌, Bool, true, false, List, [], ◌∷◌, length, Some, if◌then◌else◌, ◌==◌, refl, sym, ap, arith, subst}
use Rattle.std.specs.List.{AllByRecursion, AllZip}
use Rattle.std.proofs.lemmas.List.Elements.{All-from_recursion}
use Rattle.std.specs.Prelude.{All}
use Rattle.page_codec.specs.Geometry.{Geometry}
use Rattle.page_codec.specs.Records.{header_in}
use Rattle.page_codec.specs.Sound.{IsSound, SeqsBelow}
use Rattle.mount_scan.specs.Mounted.{IsMountedSeq}
use Rattle.die_image.specs.declared.head.ImageHead.{ImageHead}
use Rattle.rssd_core.specs.DeviceValue.{Numbers, DeviceView}
use Rattle.rssd_core.specs.Moves.{MovesSeq}
use Rattle.rssd_core.specs.Mount.{IsMountedView}
use Rattle.rssd_io.specs.Event.{Event as Act}
use Rattle.rssd_script.specs.declared.lines.Line.{Line}
use Rattle.rssd_script.specs.declared.lines.Line.TheVariants.{Write, Read, Trim, Idle, Cut, FailRead, Mount, Stat}
use Rattle.rssd_script.specs.declared.replies.Reply.{Reply}
use Rattle.rssd_script.specs.declared.replies.Reply.TheVariants.{Done}
use Rattle.rssd_script.specs.Script.{Spells, text_lines, onto_first}
use Rattle.rssd_script.specs.Scripts.{Reads}
use Rattle.rssd_run.specs.View.{View, Event, IsCommand}
use Rattle.rssd_run.specs.Moves.{BookMoves}
use Rattle.rssd_run.specs.Step.{IsStep, NumbersSpent}
use Rattle.rssd_run.specs.Run.{IsRun, lines_of}
use Rattle.rssd_run.specs.Calm.{NeverSpends}
use Rattle.rssd_run.specs.Heads.{numbers_named}
use Rattle.rssd_run.specs.Replays.{IsBlankStart, Replays}

-- the next seq is at most the bound, and every valid header's is below it
record IsBelow (d : Numbers) (bound : ℕ) (view : View) : Type 0 where
  some : 1 ≤ bound
  seq : view.device.seq ≤ bound
  headers : SeqsBelow d.geometry bound view.device.die.cells
  sound : IsSound d.geometry view.device.die.cells

-- a mount that was done makes its own book, and any other line draws from the next seq on
record IsRemounted (d : Numbers) (e : Event) : Type 0 where
  line : e.line ≡ Mount
  mounted : IsMountedView d e.after.device

moves_or : (d : Numbers) (e : Event) (line : Line) (reply : Reply) → e.line ≡ line → BookMoves d e line reply → IsRemounted d e ⊎ MovesSeq d e.before.device e.after.device
moves_or d e (Write sector bytes) reply is m = inr m.0.seq
moves_or d e (Read sector) reply is m = inr m.0.seq
moves_or d e (Trim sector) reply is m = inr m.0.seq
moves_or d e (Idle n) reply is m = inr m.0.seq
moves_or d e (Cut n torn) reply is m = inr m.0.seq
moves_or d e (FailRead n) reply is m = inr m.0.seq
moves_or d e Mount Done is m = inl (record { line = is; mounted = m.0 })
moves_or d e Mount reply is m = inr m.0.seq
moves_or d e Stat reply is m = inr m.0.seq

no_command : (line : Line) → line ≡ Mount → IsCommand line → ⊥
no_command line is command = subst IsCommand is command

mounted_seq : (g : Geometry) (cells : List (List ℕ)) (seq bound : ℕ) → 1 ≤ bound → SeqsBelow g bound cells → IsMountedSeq g cells seq → seq ≤ bound
mounted_seq g cells seq bound some below m = elim m.reached [
  | inl first ↦ omega (arith, first, some)
  | inr after ↦ (let low = below after.0 after.1 after.2 in let is = after.3 in omega (arith, low, is))
]

step_below : (d : Numbers) (bound : ℕ) (e : Event) → IsStep d e → IsBelow d bound e.before → IsBelow d (bound + 256) e.after
step_below d bound e step below = elim (moves_or d e e.line e.reply refl step.moves) [
  | inl mount ↦ (
      let same = (step.answers.stays (inr (no_command e.line mount.line))).cells in
      let headers : SeqsBelow d.geometry bound e.after.device.die.cells = subst (SeqsBelow d.geometry bound) (sym same) below.headers in
      let seq : e.after.device.seq ≤ bound = mounted_seq d.geometry e.after.device.die.cells e.after.device.seq bound below.some headers mount.mounted.seq in
      let some = below.some in
      record {
        some = omega (arith, some);
        seq = omega (arith, seq);
        headers = λ place h at. let low = headers place h at in omega (arith, low);
        sound = step.keeps.sound below.sound;
      })
  | inr draws ↦ (
      let some = below.some in
      let old = below.seq in
      let few = draws.few in
      record {
        some = omega (arith, some);
        seq = omega (arith, old, few);
        headers = λ place h at. elim (draws.headers (inl below.sound) place h at) [
          | inl stood ↦ (let low = below.headers place h stood in omega (arith, low))
          | inr drawn ↦ (let high = drawn.1 in omega (arith, high, old))
        ];
        sound = step.keeps.sound below.sound;
      })
]

spent_high : (view : View) (line : Line) → NumbersSpent view line → 2 ^ 62 ≤ view.device.seq
spent_high view (Write sector bytes) spent = spent
spent_high view (Trim sector) spent = spent
spent_high view line spent = absurd spent

step_spends : (d : Numbers) (bound : ℕ) (e : Event) → IsStep d e → IsBelow d bound e.before → bound < 2 ^ 62 → NeverSpends e
step_spends d bound e step below small said =
    let high = spent_high e.before e.line (step.answers.refused.spent.0 said).3 in
    let low = below.seq in
    omega (arith, high, low, small)

runs_never_spend : (d : Numbers) (bound : ℕ) (before : View) (events : List Event) (after : View) → IsRun d before events after → IsBelow d bound before → bound + 256 * length events < 2 ^ 62
    → AllByRecursion NeverSpends events
unfolding IsRun
runs_never_spend d bound before [] after run below small = tt
runs_never_spend d bound before (e ∷ events) after run below small =
    let here : IsBelow d bound e.before = subst (IsBelow d bound) (sym run.0) below in
    (step_spends d bound e run.1 here (omega (arith, small)), runs_never_spend d (bound + 256) e.after events after run.2 (step_below d bound e run.1 here) (omega (arith, small)))

-- ---- a script has no more lines than bytes

more_lines : (byte : ℕ) (lines : List (List ℕ)) → length (onto_first byte lines) ≤ length lines + 1
more_lines byte [] = omega arith
more_lines byte (line ∷ lines) = omega arith

byte_more : (feed : Bool) (byte : ℕ) (lines : List (List ℕ)) → length (if feed then [] ∷ lines else onto_first byte lines) ≤ length lines + 1
byte_more true byte lines = omega arith
byte_more false byte lines = more_lines byte lines

few_lines : (text : List ℕ) → length (text_lines text) ≤ length text
unfolding text_lines
few_lines [] = omega arith
few_lines (byte ∷ bytes) = let rest = few_lines bytes in let more = byte_more (byte == 10) byte (text_lines bytes) in omega (arith, rest, more)

as_many : (texts : List (List ℕ)) (lines : List Line) → AllZip Spells texts lines → length lines ≡ length texts
as_many [] [] spelled = refl
as_many [] (line ∷ lines) spelled = absurd spelled
as_many (text ∷ texts) [] spelled = absurd spelled
as_many (text ∷ texts) (line ∷ lines) spelled = let rest = as_many texts lines spelled.1 in omega (arith, rest)

pub lines_few : (text : List ℕ) (lines : List Line) → Reads text lines → length lines ≤ 1_048_576
lines_few text lines reads =
    let short = reads.0 in
    let few = few_lines text in
    let many = as_many (text_lines text) lines reads.1 in
    omega (arith, short, few, many)

lines_length : (events : List Event) → length (lines_of events) ≡ length events
lines_length [] = refl
lines_length (e ∷ events) = let rest = lines_length events in omega (arith, rest)

-- ---- a replay

start_below : (head : ImageHead) (view : View) → IsBlankStart head view → IsBelow (numbers_named head) 1 view
start_below head view start = record {
  some = omega arith;
  seq = subst (λ (v : DeviceView). v.seq ≤ 1) (sym start.same) (mounted_seq (numbers_named head).geometry start.device.view.die.cells start.device.view.seq 1 (omega arith)
      (λ place h at. absurd (start.no_header place h (subst (λ (v : DeviceView). header_in (numbers_named head).geometry v.die.cells place ≡ Some h) (sym start.same) at))) start.mounts.mounted.seq);
  headers = λ place h at. absurd (start.no_header place h at);
  sound = start.sound;
}

pub replays_never_spend : (head : ImageHead) (text : List ℕ) (lines : List Line) (log log_after : List Act) (r : Replays head lines log log_after) → Reads text lines → All NeverSpends r.run.events
replays_never_spend head text lines log log_after r reads =
    let short = reads.0 in
    let few = few_lines text in
    let many = as_many (text_lines text) lines reads.1 in
    let same = ap (length {A = Line}) r.run.of_lines in
    let counted = lines_length r.run.events in
    All-from_recursion NeverSpends r.run.events
    (runs_never_spend (numbers_named head) 1 r.before r.run.events r.after r.run.run (start_below head r.before r.start) (omega (arith, short, few, many, same, counted)))
