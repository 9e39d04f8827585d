-- What went over the packed rows went over the cells.
use Rattle.std.proofs.Common.{rules, ◌≡◌, ℕ, List, Bool, length, sym, ◌∙◌, ap, subst}
use Rattle.wom_code.specs.declared.code.Carry.TheVariants.{Carried}
use Rattle.wom_code.specs.Cells.{Carries}
use Rattle.wom_code.specs.Packed.{cells_of}
use Rattle.coset_code.specs.Code.{coset_message, WentOver}
use Rattle.coset_code.proofs.MidwayLemmas.{all_written}
use Rattle.coset_code.proofs.SolutionTests.{solution_given}
use Rattle.coset_code.proofs.coset.CosetWomCode.over.Goals as goal

-- the same cells by other names
moved : (k : ℕ) (columns columns' : List ℕ) (old old' message message' new new' : List Bool) → columns ≡ columns' → old ≡ old' → message ≡ message' → new ≡ new' →
    Carries (coset_message k columns) old message new → Carries (coset_message k columns') old' message' new'
moved k columns columns' old old' message message' new new' e f g h c =
    subst (λ x. Carries (coset_message k x) old' message' new') e (subst (λ x. Carries (coset_message k columns) x message' new') f
    (subst (λ x. Carries (coset_message k columns) old x new') g (subst (Carries (coset_message k columns) old message) h c)))

pub returns-clause-carried : goal.returns-clause-carried
returns-clause-carried g c = λ is.
    let k : ℕ = g.row.K in
    let columns : List ℕ = c.self.inside.system.columns.items in
    let went : WentOver Carried k (length columns) columns c.deref.result.now c.deref-2.result.now c.deref_mut-3.result.now c.go-carry.new.out = search rules in
    let same : c.deref.result.now ≡ c.pack.new.words = c.deref.ensures.value ∙ all_written _ c.pack.new.words _ (search rules) in
    let same_message : c.deref-2.result.now ≡ c.pack-2.new.words = c.deref-2.ensures.value ∙ all_written _ c.pack-2.new.words _ (search rules) in
    let width : k ≡ length c.args.msg.now = search rules in
    let len : length columns ≡ length c.args.old.now = search rules in
    let old : cells_of (length columns) c.deref.result.now ≡ c.args.old.now =
    ap (λ n. cells_of n c.deref.result.now) len ∙ ap (cells_of (length c.args.old.now)) same ∙ c.pack.ensures.cells in
    let message : cells_of k c.deref-2.result.now ≡ c.args.msg.now =
    ap (λ n. cells_of n c.deref-2.result.now) width ∙ ap (cells_of (length c.args.msg.now)) same_message ∙ c.pack-2.ensures.cells in
    let same_out : c.deref-3.result.now ≡ c.go-carry.new.out = c.deref-3.ensures.value ∙ all_written _ c.go-carry.new.out _ (search rules) in
    let out_len : length columns ≡ length c.args.out.now = search rules in
    let new : cells_of (length columns) c.go-carry.new.out ≡ c.unpack.new.cells =
    ap (λ n. cells_of n c.go-carry.new.out) out_len ∙ sym (c.unpack.ensures ∙ ap (cells_of (length c.args.out.now)) same_out) in
    moved k columns _ _ _ _ _ _ _ (search rules) old message new went.1

pub returns-clause-given : goal.returns-clause-given
returns-clause-given g c = λ is.
    let k : ℕ = g.row.K in
    let columns : List ℕ = c.self.inside.system.columns.items in
    let went : WentOver Carried k (length columns) columns c.deref.result.now c.deref-2.result.now c.deref_mut-3.result.now c.go-carry.new.out = search rules in
    let same : c.deref.result.now ≡ c.pack.new.words = c.deref.ensures.value ∙ all_written _ c.pack.new.words _ (search rules) in
    let len : length columns ≡ length c.args.old.now = search rules in
    let old : cells_of (length columns) c.deref.result.now ≡ c.args.old.now =
    ap (λ n. cells_of n c.deref.result.now) len ∙ ap (cells_of (length c.args.old.now)) same ∙ c.pack.ensures.cells in
    let same_out : c.deref-3.result.now ≡ c.go-carry.new.out = c.deref-3.ensures.value ∙ all_written _ c.go-carry.new.out _ (search rules) in
    let out_len : length columns ≡ length c.args.out.now = search rules in
    let new : cells_of (length columns) c.go-carry.new.out ≡ c.unpack.new.cells =
    ap (λ n. cells_of n c.go-carry.new.out) out_len ∙ sym (c.unpack.ensures ∙ ap (cells_of (length c.args.out.now)) same_out) in
    solution_given columns _ _ _ _ _ (search rules) old new went.2
