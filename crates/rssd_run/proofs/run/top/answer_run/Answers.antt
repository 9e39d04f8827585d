-- What was read, run and given makes what each status says.
use Rattle.std.proofs.Common.{inl, inr, ap, sym, refl, Err, subst}
use Rattle.die_image.specs.Image.{Fed}
use Rattle.mem_die.specs.MemState.{mem_state}
use Rattle.rssd_run.specs.ReadScript.{ReadsAll}
use Rattle.rssd_run.specs.Statuses.{Input, Output, input, output, GaveLine, no_spare}
use Rattle.rssd_run.proofs.ImageRuns.{Read, run_done, run_cut_off, not_handed_on, image_cut_off, image_full, flush_failed, flush_worked}
use Rattle.rssd_run.proofs.run.top.answer_run.Goals as goal

pub returns-in-Err-Sink-clause-says : goal.returns-in-Err-Sink-clause-says
returns-in-Err-Sink-clause-says g c =
    let is = ap Err c.in-Err-Sink.field-0-is in
    let image : Input = input (g.I.Source.log c.args.image.now) (g.I.Source.log c.read_image.new.image) in
    let script : Input = input (g.T.Source.log c.args.script.now) (g.T.Source.log c.read_script.new.script) in
    let out : Output = output (g.O.Sink.log c.args.out.now) (g.O.Sink.log c.run_image.new.out) in
    let read : Read image script c.deref.result.now c.in-Ok-read_image.read.0 c.in-Ok-read_image.read.1.items = record {
      is_old = c.new.result.is_old;
      new = ap (λ (fed : Fed). fed.is_old) c.new.ensures;
      is_script = subst (ReadsAll script.before script.after) (sym c.deref.ensures.value) c.in-Ok.ensures.lines;
      is_image = c.in-Ok-read_image.ensures.read;
    } in
    inl (run_cut_off image script out _ _ _ read (c.in-Err-Sink.ensures.front is) (c.in-Err-Sink.ensures.fault is), refl)

pub returns-in-Err-NoSpare-clause-says : goal.returns-in-Err-NoSpare-clause-says
returns-in-Err-NoSpare-clause-says g c =
    let full = c.in-Err-NoSpare.ensures.no_spare (ap Err c.in-Err-NoSpare.field-0-is) in
    let line = subst (λ (old : g.row.O.Denot). GaveLine (output (g.O.Sink.log old) (g.O.Sink.log c.refuse.new.out)) no_spare) full.1 c.refuse.ensures.line in
    let image : Input = input (g.I.Source.log c.args.image.now) (g.I.Source.log c.read_image.new.image) in
    let script : Input = input (g.T.Source.log c.args.script.now) (g.T.Source.log c.read_script.new.script) in
    let out : Output = output (g.O.Sink.log c.args.out.now) (g.O.Sink.log c.refuse.new.out) in
    let read : Read image script c.deref.result.now c.in-Ok-read_image.read.0 c.in-Ok-read_image.read.1.items = record {
      is_old = c.new.result.is_old;
      new = ap (λ (fed : Fed). fed.is_old) c.new.ensures;
      is_script = subst (ReadsAll script.before script.after) (sym c.deref.ensures.value) c.in-Ok.ensures.lines;
      is_image = c.in-Ok-read_image.ensures.read;
    } in
    (image_full image script out _ _ _ read full.0 line, refl)

pub returns-then-is_err-clause-says : goal.returns-then-is_err-clause-says
returns-then-is_err-clause-says g c =
    let image : Input = input (g.I.Source.log c.args.image.now) (g.I.Source.log c.read_image.new.image) in
    let script : Input = input (g.T.Source.log c.args.script.now) (g.T.Source.log c.read_script.new.script) in
    let out : Output = output (g.O.Sink.log c.args.out.now) (g.O.Sink.log c.flush.new.self) in
    let read : Read image script c.deref.result.now c.in-Ok-read_image.read.0 c.in-Ok-read_image.read.1.items = record {
      is_old = c.new.result.is_old;
      new = ap (λ (fed : Fed). fed.is_old) c.new.ensures;
      is_script = subst (ReadsAll script.before script.after) (sym c.deref.ensures.value) c.in-Ok.ensures.lines;
      is_image = c.in-Ok-read_image.ensures.read;
    } in
    let given = g.O.Sink.log c.run_image.new.out in
    let runs = c.in-Ok-run_image.ensures.done in
    let last = mem_state c.in-Ok-run_image.die in
    inl (
      not_handed_on image script out c.deref.result.now c.in-Ok-read_image.read.0 c.in-Ok-read_image.read.1.items read given last runs
          (flush_failed c.flush.result given out.after c.if-is_err.ensures.value c.flush.ensures.log),
      refl,
    )

pub returns-in-Ok-give_image-clause-says : goal.returns-in-Ok-give_image-clause-says
returns-in-Ok-give_image-clause-says g c =
    let image : Input = input (g.I.Source.log c.args.image.now) (g.I.Source.log c.read_image.new.image) in
    let script : Input = input (g.T.Source.log c.args.script.now) (g.T.Source.log c.read_script.new.script) in
    let out : Output = output (g.O.Sink.log c.args.out.now) (g.O.Sink.log c.flush.new.self) in
    let read : Read image script c.deref.result.now c.in-Ok-read_image.read.0 c.in-Ok-read_image.read.1.items = record {
      is_old = c.new.result.is_old;
      new = ap (λ (fed : Fed). fed.is_old) c.new.ensures;
      is_script = subst (ReadsAll script.before script.after) (sym c.deref.ensures.value) c.in-Ok.ensures.lines;
      is_image = c.in-Ok-read_image.ensures.read;
    } in
    let given = g.O.Sink.log c.run_image.new.out in
    let image_out : Output = output (g.G.Sink.log c.args.image_out.now) (g.G.Sink.log c.give_image.new.image_out) in
    let handed_on = flush_worked c.flush.result given out.after c.if-is_err.ensures.value c.flush.ensures.log in
    run_done image script out c.deref.result.now c.in-Ok-read_image.read.0 c.in-Ok-read_image.read.1.items read given (mem_state c.in-Ok-run_image.die)
    c.in-Ok-run_image.ensures.done image_out c.cells_of.result.now c.cells_of.ensures handed_on c.in-Ok-give_image.ensures.done

pub returns-clause-says : goal.returns-clause-says
returns-clause-says g c =
    let image : Input = input (g.I.Source.log c.args.image.now) (g.I.Source.log c.read_image.new.image) in
    let script : Input = input (g.T.Source.log c.args.script.now) (g.T.Source.log c.read_script.new.script) in
    let out : Output = output (g.O.Sink.log c.args.out.now) (g.O.Sink.log c.flush.new.self) in
    let read : Read image script c.deref.result.now c.in-Ok-read_image.read.0 c.in-Ok-read_image.read.1.items = record {
      is_old = c.new.result.is_old;
      new = ap (λ (fed : Fed). fed.is_old) c.new.ensures;
      is_script = subst (ReadsAll script.before script.after) (sym c.deref.ensures.value) c.in-Ok.ensures.lines;
      is_image = c.in-Ok-read_image.ensures.read;
    } in
    let given = g.O.Sink.log c.run_image.new.out in
    let image_out : Output = output (g.G.Sink.log c.args.image_out.now) (g.G.Sink.log c.give_image.new.image_out) in
    let handed_on = flush_worked c.flush.result given out.after c.if-is_err.ensures.value c.flush.ensures.log in
    inr (image_cut_off image script out c.deref.result.now c.in-Ok-read_image.read.0 c.in-Ok-read_image.read.1.items read given (mem_state c.in-Ok-run_image.die)
    c.in-Ok-run_image.ensures.done image_out c.cells_of.result.now c.cells_of.ensures handed_on c.in-Err.ensures.front)
