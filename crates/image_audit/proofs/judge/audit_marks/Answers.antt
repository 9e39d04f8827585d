-- What marks say is the verdict on the cells, and what their live records tell is held.
use Rattle.std.proofs.Common.{◌≡◌, ◌<◌, true, List, map, sym, ap, ◌∙◌, subst, arith}
use Rattle.std.specs.List.{All}
use Rattle.cell_bits.specs.Cells.{AreBytes}
use Rattle.page_codec.specs.Geometry.{HasShape, page_count, shape_of}
use Rattle.page_codec.specs.Records.{may_hold}
use Rattle.image_audit.specs.declared.mark.Mark.{Mark}
use Rattle.image_audit.specs.declared.row.Held.{Held}
use Rattle.image_audit.specs.declared.verdict.Verdict.TheVariants.{Sound}
use Rattle.image_audit.specs.Audits.{IsAudit}
use Rattle.image_audit.specs.Images.{pages_in}
use Rattle.image_audit.specs.Said.{MarksSay, IsWhole, told_by, told_of}
use Rattle.image_audit.proofs.Judged.{shaped, verdict_is, unsound_audit, sound_audit, live_pages, live_holds}
use Rattle.image_audit.proofs.judge.audit_marks.Goals as goal

pub judge-requires : goal.judge-requires
judge-requires g c =
    let geometry = c.args.geometry.now in
    subst (λ (live : List Mark). All (λ mark. mark.place.page < page_count geometry) live) (sym c.deref.ensures.value)
    (live_pages geometry (pages_in geometry c.args.cells.now) c.args.marks.now c.in_ok-live.live.items (omega (arith, c.requires.fitting.two_generations)) c.requires.read c.in_ok-live.ensures)

pub hold-requires-clause-live : goal.hold-requires-clause-live
hold-requires-clause-live g c =
    let geometry = c.args.geometry.now in
    subst (λ (live : List Mark). All (λ mark. may_hold geometry mark.place ≡ true) live) (sym c.deref-in-Sound.ensures.value)
    (live_holds geometry (pages_in geometry c.args.cells.now) c.args.marks.now c.in_ok-live.live.items c.requires.read c.in_ok-live.ensures)

pub returns-in-Sound : goal.returns-in-Sound
returns-in-Sound g c =
    let geometry = c.args.geometry.now in
    let cells = pages_in geometry c.args.cells.now in
    let decoding = (g.C.Scheme.meaning c.args.scheme.now).decoding in
    let bytes : AreBytes c.args.cells.now = λ k. omega (arith, c.type_inv.cells k) in
    let shape : HasShape (shape_of geometry) cells = shaped geometry c.args.cells.now c.requires.long bytes in
    let says : MarksSay geometry c.args.marks.now c.in_ok-live.live.items Sound =
    subst (MarksSay geometry c.args.marks.now c.in_ok-live.live.items) c.in-Sound.is
    (subst (λ (live : List Mark). MarksSay geometry c.args.marks.now live c.in_ok-verdict.verdict) c.deref.ensures.value c.in_ok-verdict.ensures) in
    sound_audit geometry decoding cells c.args.marks.now c.in_ok-live.live.items (map told_of c.in_ok-hold-in-Sound.field-0.items) shape c.requires.read c.in_ok-live.ensures says
    (c.in_ok-hold-in-Sound.ensures.told ∙ ap (map (told_by geometry decoding cells)) c.deref-in-Sound.ensures.value)
    (subst (All (IsWhole geometry decoding cells)) c.deref-in-Sound.ensures.value c.in_ok-hold-in-Sound.ensures.whole)

pub returns : goal.returns
returns g c =
    let geometry = c.args.geometry.now in
    let cells = pages_in geometry c.args.cells.now in
    let decoding = (g.C.Scheme.meaning c.args.scheme.now).decoding in
    let bytes : AreBytes c.args.cells.now = λ k. omega (arith, c.type_inv.cells k) in
    let shape : HasShape (shape_of geometry) cells = shaped geometry c.args.cells.now c.requires.long bytes in
    let says : MarksSay geometry c.args.marks.now c.in_ok-live.live.items c.in_ok-verdict.verdict =
    subst (λ (live : List Mark). MarksSay geometry c.args.marks.now live c.in_ok-verdict.verdict) c.deref.ensures.value c.in_ok-verdict.ensures in
    subst (λ (told : List Held). IsAudit geometry decoding cells c.in_ok-verdict.verdict (map told_of told)) (sym c.new.ensures.items)
    (unsound_audit geometry decoding cells c.in_ok-verdict.verdict
    (verdict_is geometry cells c.args.marks.now c.in_ok-live.live.items shape c.requires.read c.in_ok-live.ensures c.in_ok-verdict.verdict says) c.in_default.not-Sound)
