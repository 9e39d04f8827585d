-- The least kind and the least last byte decide.
use Rattle.std.proofs.Common.{◌≡◌, ℕ, ◌-◌, max, take, slice_index, arith, ap, ◌∙◌, length-take}
use lib.Count.{ones, ones-le}
use Rattle.std.proofs.lemmas.Bool.{false≢true, leb-true, le-leb}
use Rattle.cell_bits.specs.Cells.{AreBytes}
use Rattle.zero_count.proofs.ValidWords.{take_bytes}
use Rattle.zero_count.proofs.Reading.{bytes_from_each}
use Rattle.image_audit.specs.HeaderCells.{least_above, ones_before_kind}
use Rattle.image_audit.proofs.Endings.{all_bits, ending_from_valid, valid_from_ending}
use Rattle.image_audit.proofs.LeastEnding.{ending_from_least, least_from_ending}
use Rattle.image_audit.proofs.header_cells.lies_below_valid.Goals as goal

pub returns-then-kind-gt4 : goal.returns-then-kind-gt4
returns-then-kind-gt4 c =
    let bytes : AreBytes c.args.word.now = λ k. omega (arith, c.type_inv.word k) in (
      λ t. absurd (false≢true t),
      λ below. absurd (omega (arith, (least_from_ending c.args.word.now bytes (ending_from_valid c.args.word.now c.requires bytes below)).0, c.max-kind.ensures)),
    )

pub overflow_add-result-2 : goal.overflow_add-result-2
overflow_add-result-2 c =
    let bytes : AreBytes c.args.word.now = λ k. omega (arith, c.type_inv.word k) in
    let few = all_bits (take 12 c.args.word.now) (take_bytes 12 c.args.word.now (bytes_from_each c.args.word.now bytes)) in
    omega (arith, c.from.ensures, c.from-2.ensures, c.charged.ensures, few, c.least_above-last.type_inv, length-take 12 c.args.word.now, ones-le 8 c.max-kind.result (omega arith))

pub returns : goal.returns
returns c =
    let word = c.args.word.now in
    let bytes : AreBytes word = λ k. omega (arith, c.type_inv.word k) in
    let kind_is : c.max-kind.result ≡ max (slice_index word 12) 1 = c.max-kind.ensures in
    let last_is : c.from.result ≡ least_above (slice_index word 13) (8 - ones (max (slice_index word 12) 1)) =
    c.from.ensures ∙ (c.least_above-last.ensures ∙ ap (λ (n : ℕ). least_above (slice_index word 13) (8 - ones n)) kind_is) in
    let ones_are : c.from-2.result ≡ ones (max (slice_index word 12) 1) = c.from-2.ensures ∙ ap ones kind_is in
    let rest_is : c.charged.result ≡ ones_before_kind word = c.charged.ensures in (
      λ t. valid_from_ending word c.requires bytes (ending_from_least word (omega arith) (omega (arith, leb-true _ _ t))),
      λ below. le-leb _ _ (omega (arith, (least_from_ending word bytes (ending_from_valid word c.requires bytes below)).1)),
    )
