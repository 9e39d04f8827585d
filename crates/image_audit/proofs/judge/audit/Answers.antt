-- A slot that lies below no valid word is the verdict.
use Rattle.std.proofs.Common.{◌≡◌, ℕ, List, map, sym, subst}
use Rattle.page_codec.specs.declared.place.Place.{Place}
use Rattle.page_codec.specs.Geometry.{Geometry}
use Rattle.image_audit.specs.declared.row.Held.{Held}
use Rattle.image_audit.specs.declared.verdict.Verdict.TheVariants.{Sound, Header as BadHeader}
use Rattle.image_audit.specs.Audits.{IsAudit}
use Rattle.image_audit.specs.Images.{geometry_of, pages_in, HasLength}
use Rattle.image_audit.specs.declared.mark.Unread.TheVariants.{Bad}
use Rattle.image_audit.specs.Reading.{IsUnread}
use Rattle.image_audit.specs.Said.{told_of}
use Rattle.image_audit.specs.Verdicts.{IsVerdict}
use Rattle.image_audit.proofs.Judged.{unsound_audit}
use Rattle.image_audit.proofs.Limits.{whole_length}
use Rattle.image_audit.proofs.judge.audit.Goals as goal

header_unsound : (page slot : ℕ) → BadHeader page slot ≡ Sound → ⊥
header_unsound page slot e = cc

pub read_marks-requires : goal.read_marks-requires
read_marks-requires g c = subst (λ (h : Geometry). HasLength h c.args.cells.now) (sym c.of-geometry.ensures) (whole_length c.args.head.now c.args.cells.now c.requires.cells)

pub audit_marks-requires-clause-long : goal.audit_marks-requires-clause-long
audit_marks-requires-clause-long g c = subst (λ (h : Geometry). HasLength h c.args.cells.now) (sym c.of-geometry.ensures) (whole_length c.args.head.now c.args.cells.now c.requires.cells)

pub returns-in-Err-Bad : goal.returns-in-Err-Bad
returns-in-Err-Bad g c =
    let geometry = geometry_of c.args.head.now in
    let decoding = (g.C.Scheme.meaning c.args.scheme.now).decoding in
    let place = c.in-Err-Bad.place in
    let verdict = BadHeader place.page place.slot in
    let bad : IsVerdict geometry (pages_in geometry c.args.cells.now) verdict =
    subst (λ (h : Geometry). IsUnread h (pages_in h c.args.cells.now) (Bad place)) c.of-geometry.ensures
    (subst (IsUnread c.of-geometry.result (pages_in c.of-geometry.result c.args.cells.now)) c.in-Err-Bad.field-0-is c.in-Err-Bad.ensures.bad) in
    subst (λ (p : Place). IsAudit geometry decoding (pages_in geometry c.args.cells.now) (BadHeader p.page p.slot) (map told_of c.new.result.items)) (sym c.in-Err-Bad.place-is)
    (subst (λ (told : List Held). IsAudit geometry decoding (pages_in geometry c.args.cells.now) verdict (map told_of told)) (sym c.new.ensures.items)
    (unsound_audit geometry decoding (pages_in geometry c.args.cells.now) verdict bad (header_unsound place.page place.slot)))
