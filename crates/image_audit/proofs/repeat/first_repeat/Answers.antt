-- One mark more, before the others.
use Rattle.std.proofs.Common.{◌≡◌, ℕ, ◌+◌, ◌-◌, ◌<◌, ◌≤◌, false, List, [], ◌∷◌, drop, length, get_or, Option, sym, ap, ◌∙◌, arith}
use Rattle.std.specs.Prelude.{nat_eq}
use Rattle.std.specs.HashMap.{get}
use Rattle.std.specs.Map.{lookup}
use Rattle.std.proofs.lemmas.List.{drop_more, drop_all}
use Rattle.page_codec.specs.declared.place.Place.{Place}
use Rattle.image_audit.specs.declared.mark.Mark.{Mark}
use Rattle.image_audit.specs.Marks.{first_repeat}
use Rattle.image_audit.proofs.Passed.{place_with, later_more, repeat_by, repeat_more, none_left}
use Rattle.image_audit.proofs.repeat.first_repeat.Goals as goal

abbrev no_mark : Mark
no_mark = record { place = record { page = 0; slot = 0 }; header = record { sector = 0; seq = 0; kind = 0 }; counts = false }

-- the marks from one on are that mark and the rest
from_one : (marks : List Mark) (left : ℕ) → 0 < left → left ≤ length marks → drop (left - 1) marks ≡ get_or marks (left - 1) no_mark ∷ drop left marks
from_one marks left some within =
    drop_more marks (left - 1) no_mark (omega arith)
    ∙ ap (λ (n : ℕ). get_or marks (left - 1) no_mark ∷ drop n marks) (let e : left - 1 + 1 ≡ left = omega arith in e)

pub loop-left-init : goal.loop-left-init
loop-left-init c =
    let marks = c.args.marks.now in
    let none : drop (length marks) marks ≡ [] = drop_all (length marks) marks (omega arith) in
    record {
      within = omega arith;
      later = λ seq. ap (lookup (nat_eq seq)) c.in_ok-later.ensures.empty ∙ ap (place_with seq) (sym none);
      found = sym (ap first_repeat none ∙ none_left);
    }

pub loop-left-preserved-in-Some : goal.loop-left-preserved-in-Some
loop-left-preserved-in-Some c =
    let marks = c.args.marks.now in
    let left = c.loop-left.left in
    let mark = get_or marks (left - 1) no_mark in
    let one = from_one marks left (omega arith) c.loop-left.invariant.within in
    record {
      within = omega (arith, c.loop-left.invariant.within);
      later =
          λ seq. later_more mark (drop left marks) (get nat_eq c.loop-left.later) (get nat_eq c.insert.new.self) c.in_ok-other.ensures.updates.0 c.loop-left.invariant.later seq
          ∙ ap (place_with seq) (sym one);
      found = ap (λ (o : Option Place). repeat_by mark.place o (first_repeat (drop left marks))) (sym c.in-Some.is)
          ∙ (repeat_more mark (drop left marks) c.in_ok-other.field-0 (c.in_ok-other.ensures.old ∙ c.loop-left.invariant.later mark.header.seq) ∙ ap first_repeat (sym one));
    }

pub loop-left-preserved : goal.loop-left-preserved
loop-left-preserved c =
    let marks = c.args.marks.now in
    let left = c.loop-left.left in
    let mark = get_or marks (left - 1) no_mark in
    let one = from_one marks left (omega arith) c.loop-left.invariant.within in
    record {
      within = omega (arith, c.loop-left.invariant.within);
      later =
          λ seq. later_more mark (drop left marks) (get nat_eq c.loop-left.later) (get nat_eq c.insert.new.self) c.in_ok-other.ensures.updates.0 c.loop-left.invariant.later seq
          ∙ ap (place_with seq) (sym one);
      found = c.loop-left.invariant.found
          ∙ (ap (λ (o : Option Place). repeat_by mark.place o (first_repeat (drop left marks))) (sym c.in_default.is)
          ∙ (repeat_more mark (drop left marks) c.in_ok-other.field-0 (c.in_ok-other.ensures.old ∙ c.loop-left.invariant.later mark.header.seq) ∙ ap first_repeat (sym one)));
    }
