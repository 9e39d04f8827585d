-- One record more is told.
use Rattle.std.proofs.Common.{rules, ◌≡◌, ℕ, List, false, length, get_or, ap, ◌∙◌, arith}
use Rattle.std.proofs.lemmas.List.Elements.{All-more}
use Rattle.image_audit.specs.declared.mark.Mark.{Mark}
use Rattle.image_audit.specs.Images.{pages_in}
use Rattle.image_audit.specs.Held.{without_zeros}
use Rattle.image_audit.specs.Said.{IsWhole}
use Rattle.image_audit.proofs.Told.{told_more}
use Rattle.image_audit.proofs.held.hold.Goals as goal

abbrev no_mark : Mark
no_mark = record { place = record { page = 0; slot = 0 }; header = record { sector = 0; seq = 0; kind = 0 }; counts = false }

pub loop-mark-preserved : goal.loop-mark-preserved
loop-mark-preserved g c =
    let geometry = c.args.geometry.now in
    let decoding = (g.C.Scheme.meaning c.args.scheme.now).decoding in
    let cells = pages_in geometry c.args.cells.now in
    let live = c.args.live.now in
    let index : ℕ = c.loop-mark.mark-index in
    let room : length c.loop-mark.row ≡ geometry.sector_bytes = search rules in
    let mark : Mark = get_or live index no_mark in
    record {
      told =
          told_more geometry decoding cells live index no_mark c.loop-mark.held.items c.push.new.self.items c.in_ok-hold_row.field-0 c.loop-mark-test.true
          (c.in_ok-hold_row.ensures ∙ ap (λ (bytes : List ℕ). (mark.header.sector, without_zeros bytes)) c.read_row.ensures) c.in_ok-push.ensures.items c.loop-mark.invariant.told;
      whole = All-more (IsWhole geometry decoding cells) live index no_mark c.loop-mark-test.true c.loop-mark.invariant.whole (omega (arith, room, ap length c.read_row.ensures));
    }
