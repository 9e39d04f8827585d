-- Where all that a command took is in its grammar and no call of a source or sink failed, only two statuses are left.
use Rattle.std.proofs.Common.{◌≡◌, ◌⊎◌, inl, inr, ℕ, List, [], ◌∷◌, ◌++◌, take, true, refl, sym, ap, arith, subst, ◌∙◌, append_assoc, ◌-◌, All}
use Rattle.rssd_io.specs.Event.{Event, moved, failed}
use Rattle.rssd_io.specs.Pieces.{all_given}
use Rattle.rssd_io.proofs.Logs.{failed_since}
use Rattle.rssd_script.proofs.Unique.{one_script}
use Rattle.rssd_script.specs.Replies.{reply_line}
use Rattle.die_image.specs.declared.head.ImageHead.{ImageHead}
use Rattle.rssd_words.specs.declared.command.Command.{Command}
use Rattle.rssd_words.specs.declared.command.Command.TheVariants.{Replay, Run, Format, Make, Upgrade, Queue, Worn, Pair, Audit}
use Rattle.rssd_run.specs.declared.status.Status.{Status}
use Rattle.rssd_run.specs.declared.status.Status.TheVariants.{Done, BadWords, BadScript, BadImage, ReadFault, WriteFault, OutOfMemory, Unsound}
use Rattle.rssd_run.specs.Statuses.{Call, taken, WriteFailed}
use Rattle.rssd_run.specs.ImageRuns.{IsFull}
use Rattle.rssd_run.specs.Run.{pieces_of}
use Rattle.rssd_run.specs.MakeRuns.{SaysMake}
use Rattle.rssd_run.proofs.AuditLaws.{found_again}
use Rattle.rssd_run.proofs.CallStops.{stopped, unflushed, never_refused}
use Rattle.rssd_run.specs.Top.{SaysOf, SaysReplay, SaysRun, SaysFormat, SaysUpgrade, IsRunCutOff, IsBadImage, IsNoImage, HasScript, HasImage, HasOldImage, NoneFailed, IsComplete, SaysAudit}
use Rattle.rssd_run.specs.Top.{HasSoundImage, HasPlayed, PlaysScript, HasUnplayed, SaysPlay, SaysQueue}
use Rattle.rssd_core.specs.DeviceValue.{Numbers}
use Rattle.rssd_script.specs.declared.lines.Line.{Line}
use Rattle.rssd_script.specs.declared.lines.Line.TheVariants.{Mount}
use Rattle.rssd_run.specs.View.{View, Event as Step}
use Rattle.rssd_run.specs.Heads.{numbers_named}
use Rattle.rssd_run.specs.Played.{IsPlayed}
use Rattle.rssd_run.specs.QueueActs.{texts_of}

replay_stopped : (head : ImageHead) (call : Call) → SaysReplay head call.script call.out WriteFault → WriteFailed call.out
replay_stopped head call says = elim says.stops [
  | inl front ↦ (
      let e = front.run in
      let part : List ℕ = take e.front (reply_line e.last.reply) in
      let given : List Event = all_given (pieces_of e.events) in
      failed_since call.out.before call.out.after (given ++ moved part ∷ []) (e.given ∙ ap (λ (xs : List Event). call.out.before ++ xs) (sym (append_assoc given (moved part ∷ []) (failed ∷ []))))
      )
  | inr all ↦ unflushed call.out.before all.0 call.out.after (all_given (pieces_of all.1.run.events)) all.1.run.given all.2
]

run_stopped : (call : Call) → IsRunCutOff call.image call.script call.out → WriteFailed call.out
run_stopped call (inl stops) = stops.failed
run_stopped call (inr all) = let grew = all.1.runs.runs.grew in unflushed call.out.before all.0 call.out.after grew.0 grew.1 all.2

-- ---- what a refusal says of what was taken

never_full : (call : Call) (image : HasImage call) (head : ImageHead) (cells : List ℕ) → head ≡ image.head → cells ≡ image.cells → IsFull head cells → ⊥
never_full call image head cells same_head same_cells full =
    let here : IsFull image.head image.cells = subst (λ (h : ImageHead). IsFull h image.cells) same_head (subst (λ (c : List ℕ). IsFull head c) same_cells full) in
    let free = image.free here.die here.made in
    let live = here.full free.0 free.1 in
    let none = free.2 in
    omega (arith, live, none)

never_bad : (call : Call) → HasImage call → IsBadImage call.image call.script call.out → ⊥
never_bad call image bad = elim bad.refused [
  | inl no_image ↦ (let is = image.is_image in let not = no_image.refused.refused in cc)
  | inr full ↦ (
      let is = image.is_image in
      let other = full.is_image.reads in
      let same : ◌≡◌ {A = ImageHead × List ℕ} (full.head, full.cells) (image.head, image.cells) = cc in
      never_full call image full.head full.cells (ap (λ (p : ImageHead × List ℕ). p.0) same) (ap (λ (p : ImageHead × List ℕ). p.1) same) full.full)
]

never_no_image : (call : Call) → HasOldImage call → IsNoImage true call.image call.out → ⊥
never_no_image call image no_image =
    let is = image.is_image in
    let not = no_image.refused.refused in
    cc

-- ---- each command

-- where each status but two is ruled out, the call completes
completes_unless : (Says : Status → Type 0) → (Says BadScript → ⊥) → (Says BadImage → ⊥) → (Says ReadFault → ⊥) → (Says WriteFault → ⊥) → (Says BadWords → ⊥) → (Says Unsound → ⊥)
    → (status : Status) → Says status → (status ≡ Done) ⊎ (status ≡ OutOfMemory)
completes_unless Says script image read write words unsound Done says = inl refl
completes_unless Says script image read write words unsound OutOfMemory says = inr refl
completes_unless Says script image read write words unsound BadScript says = absurd (script says)
completes_unless Says script image read write words unsound BadImage says = absurd (image says)
completes_unless Says script image read write words unsound ReadFault says = absurd (read says)
completes_unless Says script image read write words unsound WriteFault says = absurd (write says)
completes_unless Says script image read write words unsound BadWords says = absurd (words says)
completes_unless Says script image read write words unsound Unsound says = absurd (unsound says)

replay_completes : (head : ImageHead) (call : Call) (status : Status) → SaysReplay head call.script call.out status → HasScript call → NoneFailed call → (status ≡ Done) ⊎ (status ≡ OutOfMemory)
replay_completes head call status says script none =
    completes_unless (λ s. SaysReplay head call.script call.out s) (λ s. never_refused call script s) (λ s. s) (λ s. none.no_script_fault s.0)
    (λ s. none.no_out_fault (replay_stopped head call s)) (λ s. s) (λ s. s) status says

run_completes : (call : Call) (status : Status) → SaysRun call.image call.script call.out call.image_out status → HasScript call → HasImage call → NoneFailed call
    → (status ≡ Done) ⊎ (status ≡ OutOfMemory)
run_completes call status says script image none =
    completes_unless (λ s. SaysRun call.image call.script call.out call.image_out s) (λ s. never_refused call script s.0) (λ s. never_bad call image s.0)
    (λ s. elim s.0 [ inl failed ↦ none.no_script_fault failed.0 | inr failed ↦ none.no_image_fault failed.0 ])
    (λ s. elim s [ inl cut_off ↦ none.no_out_fault (run_stopped call cut_off.0) | inr cut_off ↦ none.no_image_out_fault (stopped _ call.image_out.before call.image_out.after cut_off.written) ])
    (λ s. s) (λ s. s) status says

format_completes : (head : ImageHead) (call : Call) (status : Status) → SaysFormat head call.image_out status → NoneFailed call → (status ≡ Done) ⊎ (status ≡ OutOfMemory)
format_completes head call status says none =
    completes_unless (λ s. SaysFormat head call.image_out s) (λ s. s) (λ s. s) (λ s. s) (λ s. none.no_image_out_fault (stopped _ call.image_out.before call.image_out.after s))
    (λ s. s) (λ s. s) status says

upgrade_completes : (call : Call) (status : Status) → SaysUpgrade call.image call.out call.image_out status → HasOldImage call → NoneFailed call → (status ≡ Done) ⊎ (status ≡ OutOfMemory)
upgrade_completes call status says image none =
    completes_unless (λ s. SaysUpgrade call.image call.out call.image_out s) (λ s. s) (λ s. never_no_image call image s.0) (λ s. none.no_image_fault s.0)
    (λ s. none.no_image_out_fault (stopped _ call.image_out.before call.image_out.after s.0.written)) (λ s. s) (λ s. s) status says

make_completes : (head : ImageHead) (seed count : ℕ) (call : Call) (status : Status) → SaysMake head seed count call.out status → NoneFailed call → (status ≡ Done) ⊎ (status ≡ OutOfMemory)
make_completes head seed count call status says none =
    completes_unless (λ s. SaysMake head seed count call.out s) (λ s. s) (λ s. s) (λ s. s) (λ s. none.no_out_fault (stopped _ call.out.before call.out.after s.1)) (λ s. s)
    (λ s. s) status says

audit_completes : (call : Call) (status : Status) → SaysAudit call.image call.out status → HasSoundImage call → NoneFailed call → (status ≡ Done) ⊎ (status ≡ OutOfMemory)
audit_completes call status says image none =
    completes_unless (λ s. SaysAudit call.image call.out s) (λ s. s) (λ s. let is = image.is_image in let not = s.refused.refused in cc) (λ s. none.no_image_fault s.0)
    (λ s. none.no_out_fault (stopped _ call.out.before call.out.after s.lines)) (λ s. s)
    (λ s. s.not_sound (found_again call.image s.read image.head image.cells image.is_image image.audit)) status says

-- a play of a script each line of which is played
play_stopped : (S : View → Type 0) (P : Step → Type 0) (d : Numbers) (call : Call) → PlaysScript S P d call.script call.out WriteFault → WriteFailed call.out
play_stopped S P d call plays = elim plays.ends [
  | inl front ↦ (
      let e = front.play in
      let part : List ℕ = take e.front (reply_line e.last.reply) in
      let given : List Event = all_given (pieces_of e.events) in
      failed_since call.out.before call.out.after (given ++ moved part ∷ []) (e.given ∙ ap (λ (xs : List Event). call.out.before ++ xs) (sym (append_assoc given (moved part ∷ []) (failed ∷ []))))
      )
  | inr all ↦ unflushed call.out.before all.0 call.out.after (all_given (pieces_of all.1.play.events)) all.1.play.given all.2
]

same_lines : (call : Call) (asked : HasPlayed call) (found : HasUnplayed call.script call.out) → asked.lines ≡ found.lines
same_lines call asked found = one_script (taken call.script) asked.lines found.lines asked.is_script.1 found.is_script.reads.1

all_played : (call : Call) → HasPlayed call → HasUnplayed call.script call.out → ⊥
all_played call asked found =
    let same : asked.lines ≡ found.lines = same_lines call asked found in
    let within = found.first.within in
    found.first.unplayed (subst (λ (lines : List Line). All IsPlayed lines) same asked.played (found.k - 1) Mount (omega (arith, within.0, within.1)))

play_completes : (S : View → Type 0) (P : Step → Type 0) (d : Numbers) (call : Call) (status : Status) → SaysPlay S P d call.script call.out status → HasPlayed call → NoneFailed call
    → (status ≡ Done) ⊎ (status ≡ OutOfMemory)
play_completes S P d call status says asked none =
    completes_unless (λ s. SaysPlay S P d call.script call.out s) (λ s. elim s [
      | inl refused ↦ never_refused call (record { lines = asked.lines; is_script = asked.is_script }) refused
      | inr unplayed ↦ all_played call asked unplayed
    ]) (λ s. s) (λ s. none.no_script_fault s.0) (λ s. none.no_out_fault (play_stopped S P d call s)) (λ s. s) (λ s. s) status says

queue_stopped : (head : ImageHead) (call : Call) → SaysQueue head call.script call.out WriteFault → WriteFailed call.out
queue_stopped head call says = elim says.stops [
  | inl front ↦ (
      let a = front.acts in
      let part : List ℕ = take a.front a.last in
      let given : List Event = all_given a.texts in
      failed_since call.out.before call.out.after (given ++ moved part ∷ []) (a.given ∙ ap (λ (xs : List Event). call.out.before ++ xs) (sym (append_assoc given (moved part ∷ []) (failed ∷ []))))
      )
  | inr all ↦ unflushed call.out.before all.0 call.out.after (all_given (texts_of all.1.acts.acts)) all.1.acts.given all.2
]

queue_completes : (head : ImageHead) (call : Call) (status : Status) → SaysQueue head call.script call.out status → HasScript call → NoneFailed call → (status ≡ Done) ⊎ (status ≡ OutOfMemory)
queue_completes head call status says script none =
    completes_unless (λ s. SaysQueue head call.script call.out s) (λ s. never_refused call script s) (λ s. s) (λ s. none.no_script_fault s.0)
    (λ s. none.no_out_fault (queue_stopped head call s)) (λ s. s) (λ s. s) status says

pub completes : (command : Command) (call : Call) (status : Status) → SaysOf command call status → IsComplete command call status
completes (Replay head) call status says asked none = replay_completes head call status says.0 asked none
completes Run call status says asked none = run_completes call status says.0 asked.0 asked.1 none
completes (Format head) call status says asked none = format_completes head call status says.0 none
completes Upgrade call status says asked none = upgrade_completes call status says.0 asked none
completes (Make seed count head) call status says asked none = make_completes head seed count call status says none
completes Audit call status says asked none = audit_completes call status says.0 asked none
completes (Worn head reserve bad) call status says asked none = play_completes _ _ (numbers_named head) call status says.0 asked none
completes (Pair head) call status says asked none = play_completes _ _ (numbers_named head) call status says.0 asked none
completes (Queue head) call status says asked none = queue_completes head call status says.0 asked none
