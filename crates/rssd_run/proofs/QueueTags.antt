-- Which tags wait after a serve and after a put, and that a queue stays that of its device.
use Rattle.std.proofs.Common.{◌≡◌, ◌≢◌, ℕ, suc, zero, ◌+◌, ◌<◌, ◌||◌, eqb, Bool, true, false, List, [], ◌∷◌, ◌++◌, length, take, remove, Result, Ok, Err, OnOk, OnErr, Option, None, Some}
use Rattle.std.proofs.Common.{MatchOption, refl, sym, ap, ◌∙◌, subst, arith}
use Rattle.std.specs.List.{list_any}
use Rattle.std.proofs.lemmas.Bool.{ne_eqb}
use Rattle.std.proofs.lemmas.List.Folds.{list_any-append}
use Rattle.std.proofs.lemmas.List.Edits.{length-remove}
use Rattle.rssd_core.specs.DeviceValue.{Numbers}
use Rattle.rssd_queue.specs.declared.ask.Ask.{Ask}
use Rattle.rssd_queue.specs.declared.ask.Tagged.{Tagged}
use Rattle.rssd_queue.specs.Waiting.{Waiting, Accepts, accepted, waits}
use Rattle.rssd_queue.specs.Pick.{Takes}
use Rattle.rssd_io.specs.Event.{Event as Io, Gave, moved, failed}
use Rattle.rssd_script.specs.declared.lines.Line.{Line}
use Rattle.rssd_run.specs.Shows.{SessionValue, HasNumbers}
use Rattle.rssd_run.specs.Serves.{IsQueueOf, ask_of}
use Rattle.rssd_run.specs.QueueActs.{TookOne, IsServeDue, IsServeAllDue, IsAtOnceDue, IsUnfit}

or_false : (a b : Bool) → a || b ≡ false → (a ≡ false) × (b ≡ false)
or_false true b is = absurd (cc)
or_false false b is = (refl, is)

any_removed : (p : Tagged → Bool) (xs : List Tagged) (k : ℕ) → list_any p xs ≡ false → list_any p (remove xs k) ≡ false
any_removed p [] zero none = refl
any_removed p [] (suc k) none = refl
any_removed p (x ∷ xs) zero none = (or_false (p x) (list_any p xs) none).1
any_removed p (x ∷ xs) (suc k) none =
    let parts = or_false (p x) (list_any p xs) none in
    rw parts.0 (any_removed p xs k parts.1)

pub waits_taken : (old new : Waiting) (c : Tagged) → Takes old c new → (n : ℕ) → waits old.commands n ≡ false → waits new.commands n ≡ false
waits_taken old new c t n none = ap (λ q. waits q.commands n) t.rest ∙ any_removed (λ d. eqb d.tag n) old.commands t.place none

pub waits_put : (old new : Waiting) (c : Tagged) → Accepts old c new → (n : ℕ) → c.tag ≢ n → waits old.commands n ≡ false → waits new.commands n ≡ false
waits_put old new c a n other none =
    ap (λ q. waits q.commands n) a.last ∙ (list_any-append (λ d. eqb d.tag n) old.commands (accepted old.sector_bytes c ∷ [])
    ∙ (ap (λ (b : Bool). b || list_any (λ d. eqb d.tag n) (accepted old.sector_bytes c ∷ [])) none
    ∙ ap (λ (b : Bool). b || false) (ne_eqb c.tag n other)))

pub fewer_taken : (old new : Waiting) (c : Tagged) → Takes old c new → length new.commands + 1 ≡ length old.commands
fewer_taken old new c t =
    let same = ap (λ q. length {A = Tagged} q.commands) t.rest in
    let less = length-remove old.commands t.place t.within in
    let within = t.within in
    omega (arith, same, less, within)

-- ---- a queue stays that of its device

module _ (old new : SessionValue) (queue queue_after : Waiting) (of : IsQueueOf queue old.holding) (numbers : (d : Numbers) → HasNumbers d old.holding → HasNumbers d new.holding) where
  pub stays_of : queue_after.sectors ≡ queue.sectors → queue_after.sector_bytes ≡ queue.sector_bytes → IsQueueOf queue_after new.holding
  stays_of sectors bytes = record {
    numbers = of.numbers;
    has = numbers of.numbers of.has;
    sectors = sectors ∙ of.sectors;
    sector_bytes = bytes ∙ of.sector_bytes;
  }

  pub taken_of : (c : Tagged) → Takes queue c queue_after → IsQueueOf queue_after new.holding
  taken_of c t = stays_of (ap (λ q. q.sectors) t.rest) (ap (λ q. q.sector_bytes) t.rest)

  pub put_of : (c : Tagged) → Accepts queue c queue_after → IsQueueOf queue_after new.holding
  put_of c a = stays_of (ap (λ q. q.sectors) a.last) (ap (λ q. q.sector_bytes) a.last)

  pub same_of : queue_after ≡ queue → IsQueueOf queue_after new.holding
  same_of same = stays_of (ap (λ q. q.sectors) same) (ap (λ q. q.sector_bytes) same)

-- ---- what a give did

module _ {E : Type 0} (r : Result (Unit {0}) E) (piece : List ℕ) (old new : List Io) (P : Type 0) (gave : Gave r piece old new) where
  pub gave_ok : (new ≡ old ++ moved piece ∷ [] → P) → OnOk r P
  gave_ok next = on_ok r gave next
    where
      on_ok : (r : Result (Unit {0}) E) → Gave r piece old new → (new ≡ old ++ moved piece ∷ [] → P) → OnOk r P
      on_ok (Ok x) gave next = next gave
      on_ok (Err e) gave next = tt

  pub gave_err : ((n : ℕ) → new ≡ old ++ moved (take n piece) ∷ failed ∷ [] → P) → OnErr r P
  gave_err next = on_err r gave next
    where
      on_err : (r : Result (Unit {0}) E) → Gave r piece old new → ((n : ℕ) → new ≡ old ++ moved (take n piece) ∷ failed ∷ [] → P) → OnErr r P
      on_err (Ok x) gave next = tt
      on_err (Err e) gave next = next gave.0 gave.1

pub always_err : {T E : Type 0} (r : Result T E) (P : Type 0) → P → OnErr r P
always_err (Ok x) P holds = tt
always_err (Err e) P holds = holds

-- ---- which act is due

pub due_all : (on : Bool) (queue : Waiting) (lines : List Line) → IsServeAllDue lines → IsServeDue on queue lines
due_all on queue [] all = tt
due_all on queue (line ∷ lines) all = subst (λ (o : Option Ask). MatchOption o (Unit {0}) (λ ask. (on ≡ true) × (length queue.commands ≡ 32))) (sym all) tt

pub due_full : (on : Bool) (queue : Waiting) (line : Line) (ask : Ask) (lines : List Line) → ask_of line ≡ Some ask → on ≡ true → length queue.commands ≡ 32 → IsServeDue on queue (line ∷ lines)
due_full on queue line ask lines asks runs full = subst (λ (o : Option Ask). MatchOption o (Unit {0}) (λ ask. (on ≡ true) × (length queue.commands ≡ 32))) (sym asks) (runs, full)

pub due_asked : (on : Bool) (queue : Waiting) (line : Line) (ask : Ask) → ask_of line ≡ Some ask → (on ≡ true → (length queue.commands < 32) × IsUnfit queue ask) → IsAtOnceDue on queue line
due_asked on queue line ask asks unfit =
    subst (λ (o : Option Ask). MatchOption o (queue.commands ≡ []) (λ (a : Ask). on ≡ true → (length queue.commands < 32) × IsUnfit queue a)) (sym asks) unfit

pub due_other : (on : Bool) (queue : Waiting) (line : Line) → ask_of line ≡ None → queue.commands ≡ [] → IsAtOnceDue on queue line
due_other on queue line other none =
    subst (λ (o : Option Ask). MatchOption o (queue.commands ≡ []) (λ (a : Ask). on ≡ true → (length queue.commands < 32) × IsUnfit queue a)) (sym other) none

-- no tag waits where nothing does
pub none_waits : (queue : Waiting) → queue.commands ≡ [] → (n : ℕ) → waits queue.commands n ≡ false
none_waits queue none n = ap (λ cs. waits cs n) none

pub waits_took : (one : Bool) (old new : Waiting) → TookOne one old new → (n : ℕ) → waits old.commands n ≡ false → waits new.commands n ≡ false
waits_took true old new took n none = waits_taken old new took.0 took.1 n none
waits_took false old new took n none = ap (λ q. waits q.commands n) took.1 ∙ none

pub ok_then : {T E : Type 0} (r : Result T E) (P Q : Type 0) → (P → Q) → OnOk r P → OnOk r Q
ok_then (Ok x) P Q next holds = next holds
ok_then (Err e) P Q next holds = tt

pub err_then : {T E : Type 0} (r : Result T E) (P Q : Type 0) → (P → Q) → OnErr r P → OnErr r Q
err_then (Ok x) P Q next holds = tt
err_then (Err e) P Q next holds = next holds
