-- What was given and what is left are the lines, at each line.
use Rattle.std.proofs.Common.{◌≡◌, ℕ, ◌+◌, ◌<◌, List, ◌∷◌, ◌++◌, [], take, drop, map, length, get_or, ap, sym, subst, ◌∙◌, arith, add-one}
use Rattle.std.proofs.Math.Seq.{drop-cons}
use Rattle.rssd_io.specs.Event.{moved, failed}
use Rattle.rssd_io.proofs.Pieces.{on_err}
use Rattle.rssd_io.proofs.Told.{held_more}
use Rattle.image_audit.specs.declared.row.Held.{Held}
use Rattle.image_audit.specs.Said.{told_of}
use Rattle.rssd_run.specs.AuditRuns.{sector_line, sound_lines}
use Rattle.rssd_run.proofs.GiveImage.{IsGiven, given_none, given_more, given_front}
use Rattle.rssd_run.proofs.run.audit_run.tell.Goals as goal

-- the lines of the sectors that are left
abbrev lines_from : ℕ → List Held → List (List ℕ)
lines_from i held = map sector_line (map told_of (drop i held))

next_line : (held : List Held) (i : ℕ) (one : Held) → i < length held → one ≡ get_or held i one → lines_from i held ≡ sector_line (told_of one) ∷ lines_from (i + 1) held
next_line held i one inside is =
    ap (λ (xs : List Held). map sector_line (map told_of xs)) (drop-cons held i one inside)
    ∙ (ap (λ (n : ℕ). sector_line (told_of (get_or held i one)) ∷ lines_from n held) (sym (add-one i))
    ∙ ap (λ (x : Held). sector_line (told_of x) ∷ lines_from (i + 1) held) (sym is))

pub loop-one-init : goal.loop-one-init
loop-one-init g c =
    let log = g.O.Sink.log in
    let lines = sound_lines (map told_of c.args.held.now) in
    record {
      given = given_more (log c.args.out.now) (log c.args.out.now) (log c.give.new.self) lines _ _ (given_none (log c.args.out.now) lines) c.in_ok-give.ensures.log;
      held = c.in_ok-give.ensures.held;
    }

pub loop-one-preserved : goal.loop-one-preserved
loop-one-preserved g c =
    let log = g.O.Sink.log in
    let held = c.args.held.now in
    let i = c.loop-one.one-index in
    let old = log c.args.out.now in
    let lines = sound_lines (map told_of held) in
    let line = c.as_slice.ensures ∙ c.line_of_sector.ensures in
    let next = next_line held i c.one-item.result (omega arith) c.one-item.is in
    record {
      given =
          given_more old (log c.loop-one.out) (log c.give-in-loop-one.new.self) lines (lines_from (i + 1) held) (sector_line (told_of c.one-item.result))
          (subst (IsGiven old (log c.loop-one.out) lines) next c.loop-one.invariant.given)
          (subst (λ (xs : List ℕ). log c.give-in-loop-one.new.self ≡ log c.loop-one.out ++ moved xs ∷ []) line c.in_ok-give-2.ensures.log);
      held = held_more c.loop-one.invariant.held c.in_ok-give-2.ensures.held;
    }

pub returns-in_err-give-2-clause-stops : goal.returns-in_err-give-2-clause-stops
returns-in_err-give-2-clause-stops g c =
    let log = g.O.Sink.log in
    let held = c.args.held.now in
    let i = c.loop-one.one-index in
    let old = log c.args.out.now in
    let lines = sound_lines (map told_of held) in
    let line = c.as_slice.ensures ∙ c.line_of_sector.ensures in
    let next = next_line held i c.one-item.result (omega arith) c.one-item.is in
    let part = c.in_err-give-2.ensures.log in
    on_err c.from_residual-in_err-give-2.result _
    (given_front old (log c.loop-one.out) (log c.give-in-loop-one.new.self) lines (lines_from (i + 1) held) (sector_line (told_of c.one-item.result)) part.0
    (subst (IsGiven old (log c.loop-one.out) lines) next c.loop-one.invariant.given)
    (subst (λ (xs : List ℕ). log c.give-in-loop-one.new.self ≡ log c.loop-one.out ++ moved (take part.0 xs) ∷ failed ∷ []) line part.1))

pub returns-in_err-give-2-clause-held : goal.returns-in_err-give-2-clause-held
returns-in_err-give-2-clause-held g c = held_more c.loop-one.invariant.held c.in_err-give-2.ensures.held

pub returns-clause-held : goal.returns-clause-held
returns-clause-held g c = held_more c.loop-one.invariant.held c.flush.ensures.held
