-- Each take fills the front of what is left of the room.
use Rattle.std.proofs.Common.{◌≡◌, ℕ, List, [], ◌∷◌, ◌++◌, ◌-◌, length, take, drop, ap, arith, subst, sym, ◌∙◌}
use Rattle.std.proofs.lemmas.List.{take_all, length-drop, length-take}
use Rattle.rssd_io.specs.Event.{Event, EndsWith, HasEnded, moved, failed}
use Rattle.rssd_io.proofs.Logs.{ends_with}
use Rattle.rssd_disk.specs.Streams.{Takes}
use Rattle.rssd_disk.proofs.Streams.{takes_none, takes_more}
use Rattle.rssd_disk.proofs.exact.take_all.Goals as goal

pub loop-at-init : goal.loop-at-init
loop-at-init g c = record { within = omega arith; took = takes_none (g.I.Source.log c.args.from.now) }

pub loop-at-preserved : goal.loop-at-preserved
loop-at-preserved g c =
    let room : length c.take.new.into ≡ length c.loop-at.into - c.loop-at.at = c.take.auto.into ∙ length-take (length c.loop-at.into - c.loop-at.at) (drop c.loop-at.at c.loop-at.into)
    ∙ omega (arith, length-drop c.loop-at.at c.loop-at.into) in
    record {
      within = omega (arith, c.in-Ok.ensures.bound, room, c.loop-at.auto.into);
      took = takes_more (g.I.Source.log c.args.from.now) (g.I.Source.log c.loop-at.from) (g.I.Source.log c.take.new.self) c.loop-at.into c.take.new.into
          c.loop-at.at (length c.loop-at.into - c.loop-at.at) c.in-Ok.count
          (omega arith) (omega (arith, c.in-Ok.ensures.bound)) c.loop-at.invariant.took c.in-Ok.ensures.log;
    }

pub returns-clause-taken : goal.returns-clause-taken
returns-clause-taken g c = subst (λ (l : List ℕ). Takes (g.I.Source.log c.args.from.now) (g.I.Source.log c.loop-at.from) l) (take_all c.loop-at.at c.loop-at.into (omega arith))
    c.loop-at.invariant.took

pub returns-in-Ok-eq0-clause-stopped : goal.returns-in-Ok-eq0-clause-stopped
returns-in-Ok-eq0-clause-stopped g c =
    let old : List Event = g.I.Source.log c.loop-at.from in
    let log : g.I.Source.log c.take.new.self ≡ old ++ moved [] ∷ [] = c.in-Ok-eq0.ensures.log ∙ ap (λ n. old ++ moved (take n c.take.new.into) ∷ []) c.in-Ok-eq0.field-0-test in
    subst (λ (l : List Event). HasEnded l) (sym log) (ends_with old (moved []))

pub returns-in-Err-clause-stopped : goal.returns-in-Err-clause-stopped
returns-in-Err-clause-stopped g c = subst (λ (log : List Event). EndsWith failed log) (sym c.in-Err.ensures.log) (ends_with (g.I.Source.log c.loop-at.from) failed)
