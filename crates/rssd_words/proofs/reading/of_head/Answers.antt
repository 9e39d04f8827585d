-- No two commands have one spelling.
use Rattle.std.proofs.Common.{Some, ◌%◌, ap, ◌∙◌}
use Rattle.std.proofs.lemmas.Bool.{eq-eqb}
use Rattle.rssd_words.specs.declared.command.Command.TheVariants.{Replay, Format, Queue, Pair}
use Rattle.rssd_words.specs.Commands.{words_of}
use Rattle.rssd_words.proofs.Spelling.{spelled_once, even_pair}
use Rattle.rssd_words.proofs.reading.of_head.Goals as goal

pub returns-in-replay-clause-only : goal.returns-in-replay-clause-only
unfolding words_of
returns-in-replay-clause-only c command within e = ap Some (spelled_once (Replay c.args.head) command c.requires within (rw (c.in-replay.is) at e))

pub returns-in-format-clause-only : goal.returns-in-format-clause-only
unfolding words_of
returns-in-format-clause-only c command within e = ap Some (spelled_once (Format c.args.head) command c.requires within (rw (c.in-format.is) at e))

pub returns-in-queue-clause-only : goal.returns-in-queue-clause-only
unfolding words_of
returns-in-queue-clause-only c command within e = ap Some (spelled_once (Queue c.args.head) command c.requires within (rw (c.in-queue.is) at e))

pub returns-in-pair-clause-only : goal.returns-in-pair-clause-only
unfolding words_of
returns-in-pair-clause-only c command within e =
    let spelled = rw (c.in-pair.is) at e in
    let even = even_pair c.args.head command c.requires within spelled in
    let same = spelled_once (Pair c.args.head) command (c.requires, even) within spelled in
    c.then_some.ensures ∙ rw (eq-eqb (c.args.head.blocks % 2) 0 even) (ap Some same)
