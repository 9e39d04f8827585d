-- Acts of a queue run, one after the other, and on a session.
use Rattle.std.proofs.Common.{◌≡◌, inl, ℕ, ◌+◌, Bool, true, false, not, List, [], ◌∷◌, ◌++◌, take, Some, refl, sym, ap, ◌∙◌, subst, append_assoc, append-nil}
use Rattle.rssd_core.specs.DeviceValue.{Numbers, rows_of}
use Rattle.rssd_io.specs.Event.{Event as Io, moved, failed}
use Rattle.rssd_io.specs.Pieces.{all_given}
use Rattle.rssd_io.proofs.Logs.{given_append}
use Rattle.rssd_queue.specs.declared.ask.Tagged.{Tagged}
use Rattle.rssd_queue.specs.Waiting.{Waiting, Accepts}
use Rattle.rssd_script.specs.declared.lines.Line.{Line}
use Rattle.rssd_script.specs.declared.replies.Reply.{Reply}
use Rattle.rssd_script.specs.Replies.{tagged_line}
use Rattle.rssd_run.specs.ArrayWithCuts.{ArrayState, On, Off}
use Rattle.rssd_run.specs.Moves.{is_off}
use Rattle.rssd_run.specs.View.{View, Event, IsOff}
use Rattle.rssd_run.specs.Held.{Tallies}
use Rattle.rssd_run.specs.Step.{IsStep}
use Rattle.rssd_run.specs.Steps.{ArrayIs}
use Rattle.rssd_run.specs.Run.{IsRun}
use Rattle.rssd_run.specs.Shows.{SessionValue, Holding, Mounted, Closed, Nothing, Shows, ShowsHolding, StepsSession}
use Rattle.rssd_run.specs.Serves.{ask_of, line_of, is_running, ServesSession}
use Rattle.rssd_run.specs.QueueActs.{Place, place, Act, Put, Served, AtOnce, is_on, IsServeDue, IsAtOnceDue, IsAct, AreActs, texts_of, steps_of, ActsTo, ActsCutOff, ActsSession, CutsOffActs}

-- ---- lists of acts

pub acts_none : (d : Numbers) (p : Place) (v : View) → AreActs d p v [] p v
unfolding AreActs
acts_none d p v = (refl, refl)

pub acts_one : (d : Numbers) (act : Act) (from to : Place) (before after : View) → IsAct d act from before to after → AreActs d from before (act ∷ []) to after
unfolding AreActs
acts_one d act from to before after is = (to, after, is, (refl, refl))

pub acts_then : (d : Numbers) (acts more : List Act) (a b c : Place) (u v w : View) → AreActs d a u acts b v → AreActs d b v more c w → AreActs d a u (acts ++ more) c w
unfolding AreActs
acts_then d [] more a b c u v w run rest = subst (λ (p : Place). AreActs d p u more c w) run.0 (subst (λ (x : View). AreActs d b x more c w) run.1 rest)
acts_then d (act ∷ acts) more a b c u v w run rest = (run.0, run.1, run.2, acts_then d acts more run.0 b c run.1 v w run.3 rest)

pub texts_append : (acts more : List Act) → texts_of (acts ++ more) ≡ texts_of acts ++ texts_of more
texts_append [] more = refl
texts_append (Put c ∷ acts) more = texts_append acts more
texts_append (Served c e ∷ acts) more = ap (λ rest. tagged_line c.tag e.reply ∷ rest) (texts_append acts more)
texts_append (AtOnce tag e ∷ acts) more = ap (λ rest. tagged_line tag e.reply ∷ rest) (texts_append acts more)

-- the steps of the acts are a run of the session
pub steps_run : (d : Numbers) (acts : List Act) (from to : Place) (before after : View) → AreActs d from before acts to after → IsRun d before (steps_of acts) after
unfolding AreActs IsRun
steps_run d [] from to before after run = run.1
steps_run d (Put c ∷ acts) from to before after run = subst (λ (v : View). IsRun d v (steps_of acts) after) run.2.same_view (steps_run d acts run.0 to run.1 after run.3)
steps_run d (Served c e ∷ acts) from to before after run =
    (run.2.begins, run.2.step, subst (λ (v : View). IsRun d v (steps_of acts) after) run.2.ends (steps_run d acts run.0 to run.1 after run.3))
steps_run d (AtOnce tag e ∷ acts) from to before after run =
    (run.2.begins, run.2.step, subst (λ (v : View). IsRun d v (steps_of acts) after) run.2.ends (steps_run d acts run.0 to run.1 after run.3))

-- ---- what was given

pub acts_to_none : (d : Numbers) (p : Place) (v : View) (log : List Io) → ActsTo d p v p v log log
acts_to_none d p v log = record { acts = []; run = acts_none d p v; given = sym (append-nil log) }

pub acts_to_then : (d : Numbers) (a b c : Place) (u v w : View) (log between log_after : List Io) → ActsTo d a u b v log between → ActsTo d b v c w between log_after → ActsTo d a u c w log log_after
acts_to_then d a b c u v w log between log_after x y = record {
  acts = x.acts ++ y.acts;
  run = acts_then d x.acts y.acts a b c u v w x.run y.run;
  given = y.given ∙ (ap (λ (xs : List Io). xs ++ all_given (texts_of y.acts)) x.given ∙ (append_assoc log (all_given (texts_of x.acts)) (all_given (texts_of y.acts))
      ∙ ap (λ (xs : List Io). log ++ xs) (sym (ap all_given (texts_append x.acts y.acts) ∙ given_append (texts_of x.acts) (texts_of y.acts)))));
}

pub acts_cut_then : (d : Numbers) (a b : Place) (u v w : View) (log between log_after : List Io) → ActsTo d a u b v log between → ActsCutOff d b v w between log_after
    → ActsCutOff d a u w log log_after
acts_cut_then d a b u v w log between log_after x y =
    let tail : List Io = moved (take y.front y.last) ∷ failed ∷ [] in
    record {
      to = y.to;
      acts = x.acts ++ y.acts;
      run = acts_then d x.acts y.acts a b y.to u v w x.run y.run;
      texts = texts_of x.acts ++ y.texts;
      last = y.last;
      texts_are = texts_append x.acts y.acts ∙ (ap (λ (xs : List (List ℕ)). texts_of x.acts ++ xs) y.texts_are ∙ sym (append_assoc (texts_of x.acts) y.texts (y.last ∷ [])));
      front = y.front;
      given = y.given ∙ (ap (λ (xs : List Io). xs ++ (all_given y.texts ++ tail)) x.given
          ∙ (append_assoc log (all_given (texts_of x.acts)) (all_given y.texts ++ tail)
          ∙ ap (λ (xs : List Io). log ++ xs) (sym (append_assoc (all_given (texts_of x.acts)) (all_given y.texts) tail)
          ∙ ap (λ (xs : List Io). xs ++ tail) (sym (given_append (texts_of x.acts) y.texts)))));
    }

-- ---- on a session

pub session_none : (d : Numbers) (p : Place) (s : SessionValue) (log : List Io) → ActsSession d p s p s log log
session_none d p s log before shows sound = (before, shows, sound, acts_to_none d p before log)

pub session_then : (d : Numbers) (a b c : Place) (s t u : SessionValue) (log between log_after : List Io) → ActsSession d a s b t log between → ActsSession d b t c u between log_after
    → ActsSession d a s c u log log_after
session_then d a b c s t u log between log_after x y before shows sound =
    let one = x before shows sound in
    let two = y one.0 one.1 one.2 in
    (two.0, two.1, two.2, acts_to_then d a b c before one.0 two.0 log between log_after one.3 two.3)

pub session_cut : (d : Numbers) (a b : Place) (s t u : SessionValue) (log between log_after : List Io) → ActsSession d a s b t log between → CutsOffActs d b t u between log_after
    → CutsOffActs d a s u log log_after
session_cut d a b s t u log between log_after x y before shows sound =
    let one = x before shows sound in
    let two = y one.0 one.1 one.2 in
    (two.0, two.1, acts_cut_then d a b before one.0 two.0 log between log_after one.3 two.2)

-- a session's device runs where its views are on
array_on : (stopped : Bool) (rows : List (List ℕ)) (array : ArrayState) → ArrayIs stopped rows array → not (is_off array) ≡ not stopped
array_on false rows array is = rw is refl
array_on true rows (On old) is = absurd is.0
array_on true rows (Off old new) is = refl

off_on : (array : ArrayState) → IsOff array → not (is_off array) ≡ false
off_on (On rows) off = absurd off
off_on (Off old new) off = refl

holding_on : (d : Numbers) (base : Tallies) (holding : Holding) (view : View) → ShowsHolding d base holding view → is_on view ≡ is_running holding
holding_on d base (Mounted device) view shows = array_on device.stopped (rows_of d device.view) view.array shows.1
holding_on d base (Closed numbers die) view shows = off_on view.array shows.2
holding_on d base Nothing view shows = absurd shows

pub shows_on : (d : Numbers) (session : SessionValue) (view : View) → Shows d session view → is_on view ≡ is_running session.holding
shows_on d session view shows = holding_on d session.base session.holding view shows

module _ (d : Numbers) (old new : SessionValue) (log log_after : List Io) where
  -- a serve
  module _ (tag : ℕ) (reply : Reply) (queue queue_after : Waiting) (served : ServesSession d tag reply queue queue_after old new) (lines : List Line) (number : ℕ)
      (due : IsServeDue (is_running old.holding) queue lines) where
    abbrev from : Place
    from = place lines number queue

    abbrev to : Place
    to = place lines number queue_after

    served_act : (before after : View) → Shows d old before → IsStep d (record { line = line_of served.command.ask; reply = reply; before = before; after = after })
        → IsAct d (Served served.command (record { line = line_of served.command.ask; reply = reply; before = before; after = after })) from before to after
    served_act before after shows step = record {
      due = subst (λ (on : Bool). IsServeDue on queue lines) (sym (shows_on d old before shows)) due;
      taken = served.taken;
      line = refl;
      begins = refl;
      step = step;
      ends = refl;
      same_lines = refl;
      same_tag = refl;
    }

    pub serve_acts : log_after ≡ log ++ moved (tagged_line tag reply) ∷ [] → ActsSession d from old to new log log_after
    serve_acts given before shows sound =
        let s = served.step.step before shows (inl sound) in
        let e : Event = record { line = line_of served.command.ask; reply = reply; before = before; after = s.0 } in (
          s.0,
          s.1,
          s.2.keeps.sound sound,
          record {
            acts = Served served.command e ∷ [];
            run = acts_one d (Served served.command e) from to before s.0 (served_act before s.0 shows s.2);
            given = given ∙ ap (λ (n : ℕ). log ++ moved (tagged_line n reply) ∷ []) served.same_tag;
          },
        )

    pub serve_cut : (front : ℕ) → log_after ≡ log ++ moved (take front (tagged_line tag reply)) ∷ failed ∷ [] → CutsOffActs d from old new log log_after
    serve_cut front given before shows sound =
        let s = served.step.step before shows (inl sound) in
        let e : Event = record { line = line_of served.command.ask; reply = reply; before = before; after = s.0 } in (
          s.0,
          s.1,
          record {
            to = to;
            acts = Served served.command e ∷ [];
            run = acts_one d (Served served.command e) from to before s.0 (served_act before s.0 shows s.2);
            texts = [];
            last = tagged_line served.command.tag reply;
            texts_are = refl;
            front = front;
            given = given ∙ ap (λ (n : ℕ). log ++ moved (take front (tagged_line n reply)) ∷ failed ∷ []) served.same_tag;
          },
        )

  -- a line that is carried out at once
  module _ (line : Line) (reply : Reply) (steps : StepsSession d line reply old new) (queue : Waiting) (lines : List Line) (tag : ℕ)
      (due : IsAtOnceDue (is_running old.holding) queue line) where
    abbrev start : Place
    start = place (line ∷ lines) tag queue

    abbrev end : Place
    end = place lines (tag + 1) queue

    at_once_act : (before after : View) → Shows d old before → IsStep d (record { line = line; reply = reply; before = before; after = after })
        → IsAct d (AtOnce tag (record { line = line; reply = reply; before = before; after = after })) start before end after
    at_once_act before after shows step = record {
      first = refl;
      due = subst (λ (on : Bool). IsAtOnceDue on queue line) (sym (shows_on d old before shows)) due;
      its_tag = refl;
      begins = refl;
      step = step;
      ends = refl;
      next_tag = refl;
      same_queue = refl;
    }

    pub at_once_acts : log_after ≡ log ++ moved (tagged_line tag reply) ∷ [] → ActsSession d start old end new log log_after
    at_once_acts given before shows sound =
        let s = steps.step before shows (inl sound) in
        let e : Event = record { line = line; reply = reply; before = before; after = s.0 } in (
          s.0,
          s.1,
          s.2.keeps.sound sound,
          record {
            acts = AtOnce tag e ∷ [];
            run = acts_one d (AtOnce tag e) start end before s.0 (at_once_act before s.0 shows s.2);
            given = given;
          },
        )

    pub at_once_cut : (front : ℕ) → log_after ≡ log ++ moved (take front (tagged_line tag reply)) ∷ failed ∷ [] → CutsOffActs d start old new log log_after
    at_once_cut front given before shows sound =
        let s = steps.step before shows (inl sound) in
        let e : Event = record { line = line; reply = reply; before = before; after = s.0 } in (
          s.0,
          s.1,
          record {
            to = end;
            acts = AtOnce tag e ∷ [];
            run = acts_one d (AtOnce tag e) start end before s.0 (at_once_act before s.0 shows s.2);
            texts = [];
            last = tagged_line tag reply;
            texts_are = refl;
            front = front;
            given = given;
          },
        )

-- a put, on which nothing is told
pub put_acts : (d : Numbers) (session : SessionValue) (line : Line) (c : Tagged) (queue queue_after : Waiting) (lines : List Line) (log : List Io)
    → is_running session.holding ≡ true → ask_of line ≡ Some c.ask → Accepts queue c queue_after
    → ActsSession d (place (line ∷ lines) c.tag queue) session (place lines (c.tag + 1) queue_after) session log log
put_acts d session line c queue queue_after lines log runs asks accepts before shows sound =
    let from : Place = place (line ∷ lines) c.tag queue in
    let to : Place = place lines (c.tag + 1) queue_after in (
      before,
      shows,
      sound,
      record {
        acts = Put c ∷ [];
        run = acts_one d (Put c) from to before before (record {
          line = line;
          first = refl;
          asks = asks;
          its_tag = refl;
          on = shows_on d session before shows ∙ runs;
          accepted = accepts;
          next_tag = refl;
          same_view = refl;
        });
        given = sym (append-nil log);
      },
    )

-- nothing waited
pub session_same : (d : Numbers) (lines : List Line) (tag : ℕ) (queue queue_after : Waiting) (s t : SessionValue) (log : List Io) → queue_after ≡ queue → t ≡ s
    → ActsSession d (place lines tag queue) s (place lines tag queue_after) t log log
session_same d lines tag queue queue_after s t log same_queue same_session =
    subst (λ (q : Waiting). ActsSession d (place lines tag queue) s (place lines tag q) t log log) (sym same_queue)
    (subst (λ (u : SessionValue). ActsSession d (place lines tag queue) s (place lines tag queue) u log log) (sym same_session) (session_none d (place lines tag queue) s log))

-- the same places in other words
pub session_at : (d : Numbers) (a a' b b' : Place) (s t : SessionValue) (log log_after : List Io) → a ≡ a' → b ≡ b' → ActsSession d a s b t log log_after → ActsSession d a' s b' t log log_after
session_at d a a' b b' s t log log_after same_a same_b acts =
    subst (λ (p : Place). ActsSession d a' s p t log log_after) same_b (subst (λ (p : Place). ActsSession d p s b t log log_after) same_a acts)

pub cut_at : (d : Numbers) (a a' : Place) (s t : SessionValue) (log log_after : List Io) → a ≡ a' → CutsOffActs d a s t log log_after → CutsOffActs d a' s t log log_after
cut_at d a a' s t log log_after same acts = subst (λ (p : Place). CutsOffActs d p s t log log_after) same acts
