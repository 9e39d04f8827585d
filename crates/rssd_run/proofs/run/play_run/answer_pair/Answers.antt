-- Two blank dies as one are a blank die with power and nothing armed, on which no line fails.
use Rattle.std.proofs.Common.{All, List, sym, subst}
use Rattle.cell_die.specs.DieState.{DieState}
use Rattle.mem_die.specs.MemState.{mem_state}
use Rattle.stripe_die.specs.Pair.{pair_state}
use Rattle.rssd_script.specs.declared.lines.Line.{Line}
use Rattle.rssd_run.specs.Heads.{numbers_named}
use Rattle.rssd_run.specs.Played.{IsPlayed}
use Rattle.rssd_run.specs.PlayRuns.{IsPlayStart, IsPairStart, NeverStops}
use Rattle.rssd_run.specs.Statuses.{Input, Output, input, output}
use Rattle.rssd_run.specs.Top.{HasLines}
use Rattle.rssd_run.proofs.Plays.{ends_more, says_play}
use Rattle.rssd_run.proofs.PairPlays.{pair_blank, pair_quiet, pair_mounts, pair_each}
use Rattle.rssd_run.proofs.run.play_run.answer_pair.Goals as goal

pub answer_on-requires-clause-blank : goal.answer_on-requires-clause-blank
answer_on-requires-clause-blank g c = pair_blank c.args.head.now (pair_state (mem_state c.in-Ok-pair_die.die.a) (mem_state c.in-Ok-pair_die.die.b)) c.requires.even c.in-Ok-pair_die.ensures

pub answer_on-requires-clause-mounts : goal.answer_on-requires-clause-mounts
answer_on-requires-clause-mounts g c = λ new fails.
    pair_mounts c.args.head.now (pair_state (mem_state c.in-Ok-pair_die.die.a) (mem_state c.in-Ok-pair_die.die.b)) c.requires.even c.in-Ok-pair_die.ensures (numbers_named c.args.head.now) _ fails

pub returns-clause-says : goal.returns-clause-says
returns-clause-says g c =
    let head = c.args.head.now in
    let die : DieState = pair_state (mem_state c.in-Ok-pair_die.die.a) (mem_state c.in-Ok-pair_die.die.b) in
    let blank = c.in-Ok-pair_die.ensures in
    let lines : List Line = c.deref.result.now in
    let script : Input = input (g.T.Source.log c.args.script.now) (g.T.Source.log c.read_played.new.script) in
    let out : Output = output (g.O.Sink.log c.args.out.now) (g.O.Sink.log c.answer_on.new.out) in
    let is_script : HasLines script lines = subst (HasLines script) (sym c.deref.ensures.value) c.in-Ok.ensures.lines in
    let played : All IsPlayed lines = subst (All IsPlayed) (sym c.deref.ensures.value) c.in-Ok.ensures.played in
    says_play (IsPairStart head) NeverStops (numbers_named head) script out lines is_script played c.answer_on.result
    (ends_more (IsPlayStart head die) (IsPairStart head) _ NeverStops (numbers_named head) lines out c.answer_on.result (λ view start. (die, blank, start))
    (λ view start events after play each. pair_each head die (pair_quiet head die c.requires.even blank) view start events after play) c.answer_on.ensures.ends)
