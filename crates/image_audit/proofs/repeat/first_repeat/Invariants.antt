use Rattle.std.proofs.Common.{◌≡◌, ℕ, ◌≤◌, length, drop, nat_eq}
use Rattle.std.specs.Option.{option_map}
use Rattle.std.specs.HashMap.{get}
use Rattle.image_audit.specs.Marks.{with_seq, first_repeat}
use Rattle.image_audit.proofs.repeat.first_repeat.Given as goal

abbrev pub invariant-loop-left : goal.invariant-loop-left
invariant-loop-left l = record {
  within : l.left ≤ length l.marks;
  later : (seq : ℕ) → get nat_eq l.later seq ≡ option_map (λ mark. mark.place) (with_seq seq (drop l.left l.marks));
  found : l.found ≡ first_repeat (drop l.left l.marks);
}

abbrev pub decreases-loop-left : goal.decreases-loop-left
decreases-loop-left l = l.left
