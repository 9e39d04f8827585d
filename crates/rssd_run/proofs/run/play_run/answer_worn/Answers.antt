-- A die with reserve blocks over a blank worn die is blank, and a line fails on it only where its reserve is used up.
use Rattle.std.proofs.Common.{All, List, refl, sym, subst}
use Rattle.cell_die.specs.DieState.{DieState}
use Rattle.mem_die.specs.WornState.{worn_state}
use Rattle.spare_die.specs.Spare.{spare_state}
use Rattle.spare_die.specs.Tallies.{own_of}
use Rattle.die_image.specs.Image.{shape_of}
use Rattle.rssd_script.specs.declared.lines.Line.{Line}
use Rattle.rssd_run.specs.Heads.{numbers_named}
use Rattle.rssd_run.specs.Played.{IsPlayed}
use Rattle.rssd_run.specs.PlayRuns.{IsWornStart, IsWornStep}
use Rattle.rssd_run.specs.Statuses.{Input, Output, input, output}
use Rattle.rssd_run.specs.Top.{HasLines}
use Rattle.rssd_run.proofs.Plays.{says_play}
use Rattle.rssd_run.proofs.WornPlays.{worn_blank, worn_mounts, worn_ends}
use Rattle.rssd_run.proofs.run.play_run.answer_worn.Goals as goal

pub answer_on-requires-clause-blank : goal.answer_on-requires-clause-blank
answer_on-requires-clause-blank g c =
    let spare = c.in-Ok-worn_die.die in
    worn_blank c.args.head.now c.args.reserve c.args.bad c.requires.within c.requires.reserve (spare_state (worn_state spare.inner) spare.logical (own_of spare.tally)) c.in-Ok-worn_die.ensures

pub answer_on-requires-clause-mounts : goal.answer_on-requires-clause-mounts
answer_on-requires-clause-mounts g c = λ new fails.
    let spare = c.in-Ok-worn_die.die in
    let die : DieState = spare_state (worn_state spare.inner) spare.logical (own_of spare.tally) in
    worn_mounts (numbers_named c.args.head.now) (shape_of c.args.head.now) die (spare_state (worn_state new.inner) new.logical (own_of new.tally))
    (worn_blank c.args.head.now c.args.reserve c.args.bad c.requires.within c.requires.reserve die c.in-Ok-worn_die.ensures)
    (record { inner = new.inner; logical = new.logical; tally = new.tally; over = record { shows = refl; facts = new.keeps } }) fails

pub returns-clause-says : goal.returns-clause-says
returns-clause-says g c =
    let head = c.args.head.now in
    let spare = c.in-Ok-worn_die.die in
    let die : DieState = spare_state (worn_state spare.inner) spare.logical (own_of spare.tally) in
    let blank = c.in-Ok-worn_die.ensures in
    let lines : List Line = c.deref.result.now in
    let script : Input = input (g.T.Source.log c.args.script.now) (g.T.Source.log c.read_played.new.script) in
    let out : Output = output (g.O.Sink.log c.args.out.now) (g.O.Sink.log c.answer_on.new.out) in
    let is_script : HasLines script lines = subst (HasLines script) (sym c.deref.ensures.value) c.in-Ok.ensures.lines in
    let played : All IsPlayed lines = subst (All IsPlayed) (sym c.deref.ensures.value) c.in-Ok.ensures.played in
    says_play (IsWornStart head c.args.reserve c.args.bad) (IsWornStep head c.args.reserve c.args.bad) (numbers_named head) script out lines is_script played c.answer_on.result
    (worn_ends head c.args.reserve c.args.bad c.requires.within c.requires.reserve die blank lines out c.answer_on.result c.answer_on.ensures.ends
    (λ seen. record { inner = seen.inner; logical = seen.logical; tally = seen.tally; over = record { shows = refl; facts = seen.keeps } }))
