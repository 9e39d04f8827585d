use Rattle.std.proofs.Common.{◌≡◌, map, take}
use Rattle.std.specs.List.{All}
use Rattle.image_audit.specs.Images.{pages_in}
use Rattle.image_audit.specs.Said.{told_of, told_by, IsWhole}
use Rattle.image_audit.proofs.held.hold.Given as goal

abbrev pub invariant-loop-mark : goal.invariant-loop-mark
invariant-loop-mark g l = record {
  told : map told_of l.held.items ≡ map (told_by l.geometry (g.C.Scheme.meaning l.scheme).decoding (pages_in l.geometry l.cells)) (take l.mark-index l.live);
  whole : All (IsWhole l.geometry (g.C.Scheme.meaning l.scheme).decoding (pages_in l.geometry l.cells)) (take l.mark-index l.live);
}
