-- A charged cell adds nothing to the free sums, and a free one its column.
use Rattle.std.proofs.Common.{◌≡◌, ◌+◌, ℕ, true, false, length, sym, ◌∙◌, subst}
use Rattle.wom_code.specs.Cells.{cell_at}
use Rattle.wom_code.specs.Packed.{cells_of}
use Rattle.wom_code.proofs.PackedLemmas.{get_or-cells_of}
use Rattle.coset_code.specs.Solution.{HasOffered}
use Rattle.coset_code.proofs.OfferLemmas.{offered_charged, offered_spanned, offered_taken}
use Rattle.coset_code.proofs.solve.offer_if_free.Goals as goal

pub returns-then-is_charged : goal.returns-then-is_charged
returns-then-is_charged c =
    let n : ℕ = length c.args.columns.now in
    let bit : cell_at (cells_of n c.args.old.now) c.args.cell ≡ true = get_or-cells_of n c.args.old.now c.args.cell false c.requires.cell ∙ sym c.is_charged.ensures ∙ c.if-is_charged.true in
    offered_charged c.args.columns.now _ c.args.cell c.args.basis.now c.requires.offered bit

pub returns-in-Taken : goal.returns-in-Taken
returns-in-Taken c =
    let n : ℕ = length c.args.columns.now in
    let bit : cell_at (cells_of n c.args.old.now) c.args.cell ≡ false = get_or-cells_of n c.args.old.now c.args.cell false c.requires.cell ∙ sym c.is_charged.ensures ∙ c.if-is_charged.false in
    let taken = c.in-Taken.ensures in
    subst (HasOffered c.args.columns.now (cells_of n c.args.old.now) (c.args.cell + 1)) (sym taken.2)
    (offered_taken c.args.columns.now _ c.args.cell c.args.basis.now c.requires.offered c.requires.cell bit taken.0)

pub returns-in-Spanned : goal.returns-in-Spanned
returns-in-Spanned c =
    let n : ℕ = length c.args.columns.now in
    let spanned = c.in-Spanned.ensures in
    subst (HasOffered c.args.columns.now (cells_of n c.args.old.now) (c.args.cell + 1)) (sym spanned.1)
    (offered_spanned c.args.columns.now _ c.args.cell c.args.basis.now c.requires.offered spanned.0)
