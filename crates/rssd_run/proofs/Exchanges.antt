-- What a session answers, from what its fields hold; and exchanges grow by one at their end.
use Rattle.std.proofs.Common.{◌≡◌, ◌⊎◌, inl, inr, ℕ, ◌+◌, true, false, List, [], ◌∷◌, ◌++◌, length, take, Option, None, Some, suc, refl, sym, ap, ◌∙◌, subst, append_assoc}
use Rattle.std.specs.Option.{option_map}
use Rattle.std.proofs.lemmas.List.{append-nil}
use Rattle.std.proofs.lemmas.Option.{none-some}
use Rattle.cell_die.specs.Counts.{sum_of}
use Rattle.cell_die.specs.DieState.{DieState}
use Rattle.cell_die.specs.Power.{told, with_power}
use Rattle.striped.specs.Meaning.{Meaning}
use Rattle.rssd_core.specs.declared.device.Counts.{Counts}
use Rattle.rssd_core.specs.declared.device.MountError.{MountError}
use Rattle.rssd_core.specs.declared.device.Plan.{Plan}
use Rattle.rssd_core.specs.DeviceValue.{Numbers, DeviceValue}
use Rattle.rssd_core.specs.Mount.{Mounts, Refuses, numbers_of}
use Rattle.rssd_io.specs.Event.{Event as Act, moved, failed}
use Rattle.rssd_io.specs.Pieces.{all_given}
use Rattle.rssd_io.proofs.Logs.{given_append}
use Rattle.rssd_script.specs.declared.lines.Line.{Line}
use Rattle.rssd_script.specs.declared.lines.Line.TheVariants.{Write, Read, Trim, Idle, Cut, FailRead, Mount, Stat}
use Rattle.rssd_script.specs.declared.replies.Reply.{Reply}
use Rattle.rssd_script.specs.declared.replies.Reply.TheVariants.{Done, Off as SaysOff, Stat as Counted}
use Rattle.rssd_script.specs.Replies.{reply_line}
use Rattle.rssd_run.specs.Exchanges.{AnsweredOn, AnsweredBy, AnsweredDone, AnsweredRefused, AnswersSession, Exchange, AreAnswered, AnswersAll, AnswersFront, tallies_so_far, counted, asked_of, told_of}
use Rattle.rssd_run.specs.Held.{tallies_of, added_tallies}
use Rattle.rssd_run.specs.Played.{IsPlayed, Answered}
use Rattle.rssd_run.specs.Shows.{HasDie, Holding, Mounted, Closed, HasNumbers, Parts, SessionValue, IsSession, IsDeviceLine, holding_of, session_of, tallies}
use Rattle.rssd_run.specs.Steps.{refusal_reply}
use Rattle.rssd_run.proofs.Fields.{Gave, numbers_are, mounted_holding, closed_holding}

-- a line that is played on a device that runs
pub played_on : (d : Numbers) (line : Line) (reply : Reply) (old new : DeviceValue) → IsPlayed line → Answered d line reply old new → AnsweredOn d line reply old new
played_on d (Write sector bytes) reply old new is answered = answered
played_on d (Read sector) reply old new is answered = answered
played_on d (Trim sector) reply old new is answered = answered
played_on d (Idle n) reply old new is answered = answered
played_on d line reply old new is answered = absurd is

-- a line that a device answers
device_line : (d : Numbers) (line : Line) (reply : Reply) (old new : SessionValue) → IsDeviceLine line → new.base ≡ old.base → AnsweredBy d line reply old.holding new.holding
    → AnswersSession d line reply old new
device_line d (Write sector bytes) reply old new is base by = (base, by)
device_line d (Read sector) reply old new is base by = (base, by)
device_line d (Trim sector) reply old new is base by = (base, by)
device_line d (Idle n) reply old new is base by = (base, by)
device_line d (Cut n torn) reply old new is base by = (base, by)
device_line d (FailRead n) reply old new is base by = (base, by)
device_line d Mount reply old new is base by = absurd is
device_line d Stat reply old new is base by = absurd is

-- without a device there is a die alone, and a line is `off`
off_by : (d : Numbers) (line : Line) (plan : Plan) (mounted : Option DeviceValue) (closed : Option (DieState × Meaning)) → mounted ≡ None → HasNumbers d (holding_of plan mounted closed)
    → AnsweredBy d line SaysOff (holding_of plan mounted closed) (holding_of plan mounted closed)
off_by d line plan (Some device) closed none numbers = absurd (none-some device (sym none))
off_by d line plan None (Some held) none numbers = (refl, refl)
off_by d line plan None None none numbers = absurd numbers

module _ {D C F : Type 0} (state : D → DieState) (meaning : C → Meaning) (device : F → DeviceValue) where
  -- where p are the fields and old is the value that they were
  module _ (old p : Parts D C F) (is : p ≡ old) (d : Numbers) (numbers : HasNumbers d (session_of state meaning device old).holding) where
    here : HasNumbers d (session_of state meaning device p).holding
    here = subst (λ (q : Parts D C F). HasNumbers d (session_of state meaning device q).holding) (sym is) numbers

    from : (line : Line) (reply : Reply) (new : SessionValue) → AnswersSession d line reply (session_of state meaning device p) new
        → AnswersSession d line reply (session_of state meaning device old) new
    from line reply new answers = subst (λ (q : Parts D C F). AnswersSession d line reply (session_of state meaning device q) new) is answers

    pub no_device_answers : p.mounted ≡ None → (line : Line) → IsDeviceLine line → AnswersSession d line SaysOff (session_of state meaning device old) (session_of state meaning device p)
    no_device_answers none line device_is =
        from line SaysOff (session_of state meaning device p)
        (device_line d line SaysOff (session_of state meaning device p) (session_of state meaning device p) device_is refl
        (off_by d line p.plan (option_map device p.mounted) (option_map (λ (pair : D × C). (state pair.0, meaning pair.1)) p.closed) (ap (option_map device) none) here))

    pub stopped_answers : (ftl : F) → p.mounted ≡ Some ftl → (device ftl).stopped ≡ true → (line : Line) → IsDeviceLine line
        → AnswersSession d line SaysOff (session_of state meaning device old) (record { base = tallies p.base; holding = Mounted (device ftl) })
    stopped_answers ftl some stopped line device_is =
        let new : SessionValue = record { base = tallies p.base; holding = Mounted (device ftl) } in
        from line SaysOff new
        (device_line d line SaysOff (session_of state meaning device p) new device_is refl
        (subst (λ (h : Holding). AnsweredBy d line SaysOff h (Mounted (device ftl))) (sym (mounted_holding state meaning device p ftl some)) (inl (stopped, refl, refl))))

    pub running_answers : (ftl next : F) (line : Line) (reply : Reply) → p.mounted ≡ Some ftl → (device ftl).stopped ≡ false → IsDeviceLine line
        → AnsweredOn (device ftl).numbers line reply (device ftl) (device next)
        → AnswersSession d line reply (session_of state meaning device old) (record { base = tallies p.base; holding = Mounted (device next) })
    running_answers ftl next line reply some running device_is answered =
        let new : SessionValue = record { base = tallies p.base; holding = Mounted (device next) } in
        let same : (device ftl).numbers ≡ d = subst (HasNumbers d) (mounted_holding state meaning device p ftl some) here in
        from line reply new
        (device_line d line reply (session_of state meaning device p) new device_is refl
        (subst (λ (h : Holding). AnsweredBy d line reply h (Mounted (device next))) (sym (mounted_holding state meaning device p ftl some))
        (inr (running, (device next, refl, subst (λ (n : Numbers). AnsweredOn n line reply (device ftl) (device next)) same answered)))))

    -- ---- `stat`

    stat_of_holding : (reply : Reply) (holding : Holding) (die : DieState) → (session_of state meaning device p).holding ≡ holding → HasDie die holding
        → reply ≡ counted (tallies_so_far (session_of state meaning device p) holding) die → AnswersSession d Stat reply (session_of state meaning device old) (session_of state meaning device old)
    stat_of_holding reply holding die holds has reply_is =
        let s : SessionValue = session_of state meaning device p in
        subst (λ (q : Parts D C F). AnswersSession d Stat reply (session_of state meaning device q) (session_of state meaning device q)) is
        (refl, (die, subst (HasDie die) (sym holds) has, subst (λ (h : Holding). reply ≡ counted (tallies_so_far s h) die) (sym holds) reply_is))

    pub stat_of_device : (ftl : F) (counts : Counts) (erases : ℕ) (reply : Reply) → p.mounted ≡ Some ftl → tallies counts ≡ added_tallies (tallies p.base) (tallies_of (device ftl).view)
        → erases ≡ sum_of (device ftl).view.die.erases → reply ≡ Counted counts.first counts.second counts.declined counts.moved erases
        → AnswersSession d Stat reply (session_of state meaning device old) (session_of state meaning device old)
    stat_of_device ftl counts erases reply some counts_are erases_are reply_is =
        stat_of_holding reply (Mounted (device ftl)) (device ftl).view.die (mounted_holding state meaning device p ftl some) refl
        (reply_is ∙ λ i. Counted (counts_are i).first (counts_are i).second (counts_are i).declined (counts_are i).moved (erases_are i))

    pub stat_of_die : (pair : D × C) (erases : ℕ) (reply : Reply) → p.mounted ≡ None → p.closed ≡ Some pair → erases ≡ sum_of (state pair.0).erases
        → reply ≡ Counted p.base.first p.base.second p.base.declined p.base.moved erases → AnswersSession d Stat reply (session_of state meaning device old) (session_of state meaning device old)
    stat_of_die pair erases reply none some erases_are reply_is =
        stat_of_holding reply (Closed (numbers_of (state pair.0).shape (meaning pair.1) p.plan) (state pair.0)) (state pair.0) (closed_holding state meaning device p pair none some) refl
        (reply_is ∙ λ i. Counted p.base.first p.base.second p.base.declined p.base.moved (erases_are i))

    -- ---- mounts: what closing the fields gave

    module _ (pair : D × C) (base : Counts) (gave : Gave state meaning device p pair base) (session : IsSession p.plan (session_of state meaning device p)) where
      gave_base : (m : Option F) → p.mounted ≡ m → tallies base ≡ tallies_so_far (session_of state meaning device p) (session_of state meaning device p).holding
      gave_base (Some ftl) some =
          let counts = rw some at gave.counts in
          counts ∙ ap (tallies_so_far (session_of state meaning device p)) (sym (mounted_holding state meaning device p ftl some))
      gave_base None none =
          let facts = rw none at gave.die in
          ap tallies facts.1 ∙ ap (tallies_so_far (session_of state meaning device p)) (sym (closed_holding state meaning device p pair none facts.0))

      gave_die : (m : Option F) → p.mounted ≡ m → HasDie (state pair.0) (session_of state meaning device p).holding
      gave_die (Some ftl) some =
          let facts = rw some at gave.device_is in
          subst (HasDie (state pair.0)) (sym (mounted_holding state meaning device p ftl some)) (sym facts.0)
      gave_die None none =
          let facts = rw none at gave.die in
          subst (HasDie (state pair.0)) (sym (closed_holding state meaning device p pair none facts.0)) refl

      mount_of : (reply : Reply) (new : SessionValue) → new.base ≡ tallies base → AnsweredDone d (state pair.0) reply new.holding ⊎ AnsweredRefused d (state pair.0) reply new.holding
          → AnswersSession d Mount reply (session_of state meaning device old) new
      mount_of reply new base_is answered = from Mount reply new (base_is ∙ gave_base p.mounted refl, (state pair.0, gave_die p.mounted refl, answered))

      same_numbers : numbers_of (state pair.0).shape (meaning pair.1) p.plan ≡ d
      same_numbers = numbers_are state meaning device old p is d numbers pair base gave session

      pub mount_answers : (next : F) → Mounts (numbers_of (state pair.0).shape (meaning pair.1) p.plan) (told with_power (state pair.0)) (device next)
          → AnswersSession d Mount Done (session_of state meaning device old) (record { base = tallies base; holding = Mounted (device next) })
      mount_answers next mounts =
          mount_of Done (record { base = tallies base; holding = Mounted (device next) }) refl
          (inl (record {
            device = device next;
            mounts = subst (λ (n : Numbers). Mounts n (told with_power (state pair.0)) (device next)) same_numbers mounts;
            holding = refl;
            reply_is = refl;
          }))

      pub refusal_answers : (mounted : Option F) (left : D × C) (why : MountError) → mounted ≡ None → (state left.0).shape ≡ (state pair.0).shape → meaning left.1 ≡ meaning pair.1
          → Refuses (numbers_of (state pair.0).shape (meaning pair.1) p.plan) (told with_power (state pair.0)) (state left.0) why
          → AnswersSession d Mount (refusal_reply why) (session_of state meaning device old)
          (session_of state meaning device (record { mounted = mounted; closed = Some left; plan = p.plan; base = base }))
      refusal_answers mounted left why none shape_is meaning_is refuses =
          let parts : Parts D C F = record { mounted = mounted; closed = Some left; plan = p.plan; base = base } in
          let numbers_left : numbers_of (state left.0).shape (meaning left.1) p.plan ≡ d = (λ i. numbers_of (shape_is i) (meaning_is i) p.plan) ∙ same_numbers in
          mount_of (refusal_reply why) (session_of state meaning device parts) refl
          (inr (record {
            left = state left.0;
            why = why;
            refuses = subst (λ (n : Numbers). Refuses n (told with_power (state pair.0)) (state left.0) why) same_numbers refuses;
            holding = closed_holding state meaning device parts left none refl ∙ ap (λ (n : Numbers). Closed n (state left.0)) numbers_left;
            reply_is = refl;
          }))

-- ---- exchanges, one more

none_answered : (d : Numbers) (session : SessionValue) → AreAnswered d session [] session
unfolding AreAnswered
none_answered d session = refl

answered_more : (d : Numbers) (before : SessionValue) (exchanges : List Exchange) (now : SessionValue) (x : Exchange) → AreAnswered d before exchanges now → x.before ≡ now
    → AnswersSession d x.line x.reply x.before x.after → AreAnswered d before (exchanges ++ x ∷ []) x.after
unfolding AreAnswered
answered_more d before [] now x answered begins answers = (begins ∙ answered, answers, refl)
answered_more d before (first ∷ exchanges) now x answered begins answers = (answered.0, answered.1, answered_more d first.after exchanges now x answered.2 begins answers)

asked_more : (exchanges : List Exchange) (x : Exchange) → asked_of (exchanges ++ x ∷ []) ≡ asked_of exchanges ++ x.line ∷ []
asked_more [] x = refl
asked_more (first ∷ exchanges) x = ap (λ rest. first.line ∷ rest) (asked_more exchanges x)

told_more : (exchanges : List Exchange) (x : Exchange) → told_of (exchanges ++ x ∷ []) ≡ told_of exchanges ++ reply_line x.reply ∷ []
told_more [] x = refl
told_more (first ∷ exchanges) x = ap (λ rest. reply_line first.reply ∷ rest) (told_more exchanges x)

pub answers_none : (d : Numbers) (session : SessionValue) (log : List Act) → AnswersAll d session [] session log log
answers_none d session log = record { exchanges = []; answered = none_answered d session; of_lines = refl; given = sym (append-nil log) }

module _ (d : Numbers) (before now after : SessionValue) (lines : List Line) (line : Line) (reply : Reply) (log between log_after : List Act) (a : AnswersAll d before lines now log between)
    (answers : AnswersSession d line reply now after) where
  last : Exchange
  last = record { line = line; reply = reply; before = now; after = after }

  -- one line more, whose text was given
  pub answers_more : log_after ≡ between ++ moved (reply_line reply) ∷ [] → AnswersAll d before (lines ++ line ∷ []) after log log_after
  answers_more given =
      let x : Exchange = record { line = line; reply = reply; before = now; after = after } in
      record {
        exchanges = a.exchanges ++ x ∷ [];
        answered = answered_more d before a.exchanges now x a.answered refl answers;
        of_lines = asked_more a.exchanges x ∙ ap (λ ls. ls ++ line ∷ []) a.of_lines;
        given = given ∙ (ap (λ (xs : List Act). xs ++ moved (reply_line reply) ∷ []) a.given ∙ (append_assoc log (all_given (told_of a.exchanges)) (moved (reply_line reply) ∷ [])
            ∙ ap (λ (xs : List Act). log ++ xs) (sym (ap all_given (told_more a.exchanges x) ∙ given_append (told_of a.exchanges) (reply_line reply ∷ [])))));
      }

  -- one line more, of whose text a front was given
  pub answers_cut_off : (all : List Line) → lines ++ line ∷ [] ≡ take (length lines + 1) all → (front : ℕ) → log_after ≡ between ++ moved (take front (reply_line reply)) ∷ failed ∷ []
      → AnswersFront d before all after log log_after
  answers_cut_off all front_is front given =
      let x : Exchange = record { line = line; reply = reply; before = now; after = after } in
      record {
        exchanges = a.exchanges;
        last = x;
        answered = answered_more d before a.exchanges now x a.answered refl answers;
        of_lines = asked_more a.exchanges x ∙ (ap (λ ls. ls ++ line ∷ []) a.of_lines ∙ (front_is ∙ ap (λ n. take (n + 1) all) (ap length (sym a.of_lines) ∙ length_asked a.exchanges)));
        front = front;
        given =
            given ∙ (ap (λ (xs : List Act). xs ++ moved (take front (reply_line reply)) ∷ failed ∷ []) a.given
            ∙ append_assoc log (all_given (told_of a.exchanges)) (moved (take front (reply_line reply)) ∷ failed ∷ []));
      }
    where
      length_asked : (exchanges : List Exchange) → length (asked_of exchanges) ≡ length exchanges
      length_asked [] = refl
      length_asked (x ∷ exchanges) = ap (λ n. suc n) (length_asked exchanges)
