-- What was given and what is left are the pieces of the image, at each piece.
use Rattle.std.proofs.Common.{rules, ◌≡◌, ℕ, List, [], min, length, sym, ap, subst, ◌∙◌, arith}
use Rattle.std.specs.Slice.Iter.{chunks_rest}
use Rattle.cell_die.specs.DieState.{page_bytes}
use Rattle.die_image.specs.Image.{image, shape_of}
use Rattle.rssd_io.proofs.Pieces.{flush_done, flush_front, on_err}
use Rattle.rssd_io.proofs.Told.{held_more}
use Rattle.rssd_run.specs.GiveImage.{image_pieces, pages_in}
use Rattle.rssd_run.proofs.GiveImage.{IsGiven, given_head, given_head_part, given_page, given_part, given_whole}
use Rattle.rssd_run.proofs.run.image.give_image.Goals as goal

pub returns-in_err-give-clause-front : goal.returns-in_err-give-clause-front
returns-in_err-give-clause-front g c =
    let log = g.G.Sink.log in
    let pages = pages_in (page_bytes (shape_of c.args.head.now)) c.args.cells.now in
    on_err c.from_residual.result _
    (given_head_part (log c.args.image_out.now) (log c.give.new.self) (image c.args.head.now []) c.encode_head.result pages c.in_err-give.ensures.log.0
    (c.encode_head.ensures []) c.in_err-give.ensures.log.1)

pub loop-page-preserved : goal.loop-page-preserved
loop-page-preserved g c =
    let log = g.G.Sink.log in
    let steps = c.in-Some.ensures.steps in
    let size = page_bytes (shape_of c.args.head.now) in
    let is = c.loop-page.invariant in
    record {
      next = omega (arith, steps.0, is.next);
      finite = tt;
      size = steps.0 ∙ is.size;
      held = held_more is.held c.in_ok-give-2.ensures.held;
      given =
          given_page (log c.args.image_out.now) (log c.loop-page.image_out) (log c.give-in-loop-page.new.self) (image_pieces c.args.head.now c.args.cells.now) size
          (chunks_rest c.loop-page.page-iterator) c.in-Some.page.now (chunks_rest c.next.new.self)
          is.given (omega (arith, is.next, is.size)) steps.1.0 (steps.1.1 ∙ ap (λ (n : ℕ). min n (length (chunks_rest c.loop-page.page-iterator))) is.size) steps.1.2 c.in_ok-give-2.ensures.log;
    }

pub returns-in_err-give-2-clause-front : goal.returns-in_err-give-2-clause-front
returns-in_err-give-2-clause-front g c =
    let log = g.G.Sink.log in
    let steps = c.in-Some.ensures.steps in
    let size = page_bytes (shape_of c.args.head.now) in
    let is = c.loop-page.invariant in
    on_err c.from_residual-in_err-give-2.result _
    (given_part (log c.args.image_out.now) (log c.loop-page.image_out) (log c.give-in-loop-page.new.self) (image_pieces c.args.head.now c.args.cells.now) size
    (chunks_rest c.loop-page.page-iterator) c.in-Some.page.now (chunks_rest c.next.new.self)
    c.in_err-give-2.ensures.log.0 is.given (omega (arith, is.next, is.size)) steps.1.0
    (steps.1.1 ∙ ap (λ (n : ℕ). min n (length (chunks_rest c.loop-page.page-iterator))) is.size) steps.1.2 c.in_err-give-2.ensures.log.1)

pub loop-page-init : goal.loop-page-init
loop-page-init g c =
    let log = g.G.Sink.log in
    let size = page_bytes (shape_of c.args.head.now) in
    let rest : chunks_rest c.into_iter-page-iterator.result ≡ c.args.cells.now = search rules in
    record {
      next = search rules;
      finite = tt;
      size = search rules;
      held = c.in_ok-give.ensures.held;
      given = subst (λ (xs : List ℕ). IsGiven (log c.args.image_out.now) (log c.give.new.self) (image_pieces c.args.head.now c.args.cells.now) (pages_in size xs)) (sym rest)
          (given_head (log c.args.image_out.now) (log c.give.new.self) (image c.args.head.now []) c.encode_head.result (pages_in size c.args.cells.now)
          (c.encode_head.ensures []) c.in_ok-give.ensures.log);
    }

pub returns-clause-done : goal.returns-clause-done
returns-clause-done g c =
    let log = g.G.Sink.log in
    let whole = image_pieces c.args.head.now c.args.cells.now in
    let given =
    given_whole (log c.args.image_out.now) (log c.loop-page.image_out) whole (page_bytes (shape_of c.args.head.now))
    (chunks_rest c.loop-page.page-iterator) c.loop-page.invariant.given c.in-None.ensures.steps.1.0 in
    flush_done c.flush.result (log c.args.image_out.now) (log c.loop-page.image_out) (log c.flush.new.self) whole given c.flush.ensures.log

pub returns-clause-front : goal.returns-clause-front
returns-clause-front g c =
    let log = g.G.Sink.log in
    let whole = image_pieces c.args.head.now c.args.cells.now in
    let given =
    given_whole (log c.args.image_out.now) (log c.loop-page.image_out) whole (page_bytes (shape_of c.args.head.now))
    (chunks_rest c.loop-page.page-iterator) c.loop-page.invariant.given c.in-None.ensures.steps.1.0 in
    flush_front c.flush.result (log c.args.image_out.now) (log c.loop-page.image_out) (log c.flush.new.self) whole given c.flush.ensures.log

pub returns-in_err-give-2-clause-held : goal.returns-in_err-give-2-clause-held
returns-in_err-give-2-clause-held g c = held_more c.loop-page.invariant.held c.in_err-give-2.ensures.held

pub returns-clause-held : goal.returns-clause-held
returns-clause-held g c = held_more c.loop-page.invariant.held c.flush.ensures.held
