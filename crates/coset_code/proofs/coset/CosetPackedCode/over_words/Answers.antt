-- The cells that were charged are a basis solution, which the test knows.
use Rattle.std.proofs.Common.{◌≡◌, ℕ, List, length, ap, subst}
use Rattle.wom_code.specs.declared.code.Carry.{Carry}
use Rattle.wom_code.specs.declared.code.Carry.TheVariants.{Carried}
use Rattle.wom_code.specs.Packed.{cells_of}
use Rattle.coset_code.specs.Code.{WentOver}
use Rattle.coset_code.proofs.SolutionTests.{solution_given}
use Rattle.coset_code.proofs.coset.CosetPackedCode.over_words.Goals as goal

pub returns-clause-given : goal.returns-clause-given
returns-clause-given g c = λ is.
    let columns : List ℕ = c.self.inside.system.columns.items in
    let went : WentOver Carried g.row.K (length columns) columns c.args.old.now c.args.msg.now c.args.out.now c.go.new.out =
    subst (λ (r : Carry). WentOver r g.row.K (length columns) columns c.args.old.now c.args.msg.now c.args.out.now c.go.new.out) is c.go.ensures.went in
    let len : length columns ≡ g.row.N = c.self.invariant.table.count in
    solution_given columns _ _ _ _ _ c.self.view_is (ap (λ n. cells_of n c.args.old.now) len) (ap (λ n. cells_of n c.go.new.out) len) went.2
