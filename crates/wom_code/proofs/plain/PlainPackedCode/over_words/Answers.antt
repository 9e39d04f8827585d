-- The message laid over the first cells is the message and the old cells after it.
use Rattle.std.proofs.Common.{◌≡◌, ◌≤◌, ℕ, List, take, drop, ◌++◌, false, sym, ◌∙◌, ap, subst}
use Rattle.std.proofs.lemmas.Bool.{true≢false}
use Rattle.wom_code.specs.Cells.{IsAbove, Carries}
use Rattle.wom_code.specs.Packed.{cells_of}
use Rattle.wom_code.specs.Turned.{turned_by, turned_false}
use Rattle.wom_code.proofs.FrontLemmas.{IsLaid, laid_over, laid_row, laid_cells}
use Rattle.wom_code.proofs.PackedLemmas.{length-cells_of, take-cells_of}
use Rattle.wom_code.proofs.PlainLemmas.{front_carries, front_none}
use Rattle.wom_code.proofs.TestLemmas.{is_same_from}
use Rattle.wom_code.proofs.plain.PlainPackedCode.over_words.Goals as goal

-- the first cells of the old row, by the list of its cells, and the message as it is
fits_to : (k n : ℕ) (old message : List ℕ) → k ≤ n → IsAbove (cells_of k message) (take k (cells_of n old)) → IsAbove (turned_by false (cells_of k message)) (cells_of k old)
fits_to k n old message fits a =
    subst (IsAbove (turned_by false (cells_of k message))) (take-cells_of k n old fits) (subst (λ m. IsAbove m (take k (cells_of n old))) (sym (turned_false (cells_of k message))) a)

fits_from : (k n : ℕ) (old message : List ℕ) → k ≤ n → IsAbove (turned_by false (cells_of k message)) (cells_of k old) → IsAbove (cells_of k message) (take k (cells_of n old))
fits_from k n old message fits a =
    subst (λ m. IsAbove m (take k (cells_of n old))) (turned_false (cells_of k message)) (subst (IsAbove (turned_by false (cells_of k message))) (sym (take-cells_of k n old fits)) a)

written : (k n : ℕ) (old message out : List ℕ) → IsLaid false k n old message out → cells_of n out ≡ cells_of k message ++ drop k (cells_of n old)
written k n old message out j = laid_cells false k n old message out j ∙ ap (λ m. m ++ drop k (cells_of n old)) (turned_false (cells_of k message))

pub returns-then-not-fits_front-clause-declined : goal.returns-then-not-fits_front-clause-declined
returns-then-not-fits_front-clause-declined g c = λ answer.
    front_none g.row.K g.row.N (cells_of g.row.N c.args.old.now) (cells_of g.row.K c.args.msg.now)
    (λ above. true≢false (sym (c.fits_front.ensures.1 (fits_to g.row.K g.row.N c.args.old.now c.args.msg.now c.args.self.now.fits above)) ∙ c.if-not-fits_front.true))

pub returns-clause-row : goal.returns-clause-row
returns-clause-row g c = λ answer.
    laid_row false g.row.K g.row.N c.args.old.now c.args.msg.now c.lay_front.new.out
    (laid_over false g.row.K g.row.N c.args.old.now c.args.msg.now c.copy_from_slice.new.self c.lay_front.new.out c.args.self.now.fits c.requires.old
    (c.fits_front.ensures.0 c.if-not-fits_front.false) c.copy_from_slice.ensures.after c.lay_front.ensures.length c.lay_front.ensures.laid)

pub returns-clause-carried : goal.returns-clause-carried
returns-clause-carried g c = λ answer.
    subst (Carries (take g.row.K) (cells_of g.row.N c.args.old.now) (cells_of g.row.K c.args.msg.now))
    (sym (written g.row.K g.row.N c.args.old.now c.args.msg.now c.lay_front.new.out
    (laid_over false g.row.K g.row.N c.args.old.now c.args.msg.now c.copy_from_slice.new.self c.lay_front.new.out c.args.self.now.fits c.requires.old
    (c.fits_front.ensures.0 c.if-not-fits_front.false) c.copy_from_slice.ensures.after c.lay_front.ensures.length c.lay_front.ensures.laid)))
    (front_carries g.row.K (cells_of g.row.N c.args.old.now) (cells_of g.row.K c.args.msg.now) (length-cells_of g.row.K c.args.msg.now)
    (fits_from g.row.K g.row.N c.args.old.now c.args.msg.now c.args.self.now.fits (c.fits_front.ensures.0 c.if-not-fits_front.false)))

pub returns-clause-given : goal.returns-clause-given
returns-clause-given g c = λ answer.
    is_same_from (cells_of g.row.N c.lay_front.new.out) _
    (written g.row.K g.row.N c.args.old.now c.args.msg.now c.lay_front.new.out
    (laid_over false g.row.K g.row.N c.args.old.now c.args.msg.now c.copy_from_slice.new.self c.lay_front.new.out c.args.self.now.fits c.requires.old
    (c.fits_front.ensures.0 c.if-not-fits_front.false) c.copy_from_slice.ensures.after c.lay_front.ensures.length c.lay_front.ensures.laid))
