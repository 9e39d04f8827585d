-- Acts on a session that was started on a blank die are a queue run.
use Rattle.std.proofs.Common.{◌≡◌, inl, inr, ℕ, ◌+◌, ◌≤◌, List, [], length, sym, ap, ◌∙◌, subst, arith}
use Rattle.cell_die.specs.DieState.{DieState}
use Rattle.die_image.specs.declared.head.ImageHead.{ImageHead}
use Rattle.die_image.specs.Schemes.{row_of}
use Rattle.rssd_io.specs.Event.{Event as Io}
use Rattle.rssd_queue.specs.Waiting.{Waiting, empty}
use Rattle.rssd_script.specs.declared.lines.Line.{Line}
use Rattle.rssd_run.specs.Shows.{SessionValue, HasNumbers}
use Rattle.rssd_run.specs.Heads.{numbers_named}
use Rattle.rssd_run.specs.DieRuns.{StartsOn}
use Rattle.rssd_run.specs.Replays.{IsBlankStart}
use Rattle.rssd_run.specs.Serves.{IsQueueOf}
use Rattle.rssd_run.specs.QueueActs.{Place, place, ActsSession, CutsOffActs}
use Rattle.rssd_run.specs.QueueRuns.{first_place, Queues, QueuesFront}
use Rattle.rssd_run.proofs.BlankStart.{IsFresh, blank_start}
use Rattle.rssd_run.proofs.HeadLimits.{sector_bytes_named}
use Rattle.schemes.proofs.Rows.{named_row}

-- a sector has some bytes, and not more than a queue takes
pub some_bytes : (head : ImageHead) (n : ℕ) → n ≡ (row_of head.scheme).sector_bytes → (1 ≤ n) × (n ≤ 512)
some_bytes head n is = elim (sector_bytes_named head.scheme) [
  | inl few ↦ (omega (arith, is, few), omega (arith, is, few))
  | inr many ↦ (omega (arith, is, many), omega (arith, is, many))
]

module _ (head : ImageHead) (n : ℕ) (size : n ≡ (row_of head.scheme).sector_bytes) (queue : Waiting) (new : queue ≡ empty head.sectors n) where
  pub queue_of_head : (session : SessionValue) → HasNumbers (numbers_named head) session.holding → IsQueueOf queue session.holding
  queue_of_head session has = record {
    numbers = numbers_named head;
    has = has;
    sectors = ap (λ q. q.sectors) new;
    sector_bytes = ap (λ q. q.sector_bytes) new ∙ (size ∙ sym (named_row head.scheme).sector_bytes);
  }

  module _ (die : DieState) (fresh : IsFresh head die) (lines : List Line) (old last : SessionValue) (starts : StartsOn head die old) (log log_after : List Io) where
    first_is : place lines 1 queue ≡ first_place head lines
    first_is = ap (λ q. place lines 1 q) (new ∙ ap (empty head.sectors) size)

    pub queues_of : (queue_after : Waiting) → queue_after.commands ≡ [] → ActsSession (numbers_named head) (place lines 1 queue) old (place [] (length lines + 1) queue_after) last log log_after
        → Queues head lines log log_after
    queues_of queue_after none acts =
        let start : IsBlankStart head starts.view = blank_start head die fresh starts.view starts.start in
        let ran = subst (λ (p : Place). ActsSession (numbers_named head) p old (place [] (length lines + 1) queue_after) last log log_after) first_is acts starts.view starts.shows start.sound in
        record { before = starts.view; start = start; queue = queue_after; none_waits = none; after = ran.0; acts = ran.3 }

    pub front_of_queue : CutsOffActs (numbers_named head) (place lines 1 queue) old last log log_after → QueuesFront head lines log log_after
    front_of_queue acts =
        let start : IsBlankStart head starts.view = blank_start head die fresh starts.view starts.start in
        let ran = subst (λ (p : Place). CutsOffActs (numbers_named head) p old last log log_after) first_is acts starts.view starts.shows start.sound in
        record { before = starts.view; start = start; after = ran.0; acts = ran.2 }
