-- The map names the live record, so its entry gives the stored row.
use Rattle.std.proofs.Common.{◌≡◌, ℕ, List, length, refl, subst}
use Rattle.std.specs.Prelude.{OnOk, OnErr}
use Rattle.cell_die.specs.Calls.{Passed, ReadFailed}
use Rattle.cell_die.specs.DieState.{DieState}
use Rattle.collector.specs.Store.{geometry_of}
use Rattle.rssd_core.proofs.ReadLaws.{read_holds, read_tables, read_pages, read_row, read_calls}
use Rattle.rssd_core.proofs.StoreLaws.{after_held, after_keeps}
use Rattle.rssd_core.proofs.store.Store.read.Goals as goal

pub get_row-requires-clause-pages : goal.get_row-requires-clause-pages
get_row-requires-clause-pages g c = read_pages c.self.invariant c.self.view_is c.requires.running c.requires.sector c.get-entry.ensures

pub invariant_of-self : goal.invariant_of-self
invariant_of-self g c =
    let numbers = geometry_of (g.D.Die.state c.self.inside.die).shape (g.C.Scheme.meaning c.self.inside.scheme) (length c.self.inside.map) in
    after_held (read_holds numbers c.self.inside.map c.self.inside.book c.self.inside.seq c.get_row.ensures.same_cells c.get_row.ensures.kept) refl refl c.self.invariant c.get_row.ensures.same_work
    refl
    (λ runs. read_tables numbers c.get_row.ensures.same_cells (c.self.invariant.stands.tables runs))

pub returns-clause-keeps : goal.returns-clause-keeps
returns-clause-keeps g c =
    let numbers = geometry_of (g.D.Die.state c.self.inside.die).shape (g.C.Scheme.meaning c.self.inside.scheme) (length c.self.inside.map) in
    after_keeps (read_holds numbers c.self.inside.map c.self.inside.book c.self.inside.seq c.get_row.ensures.same_cells c.get_row.ensures.kept) refl refl c.self.view_is

pub returns-clause-row : goal.returns-clause-row
returns-clause-row g c =
    subst (λ (row : List ℕ). OnOk c.get_row.result (c.get_row.new.into ≡ row)) (read_row c.self.invariant c.self.view_is c.requires.running c.requires.sector c.get-entry.ensures) c.get_row.ensures.got

pub returns-clause-calls : goal.returns-clause-calls
returns-clause-calls g c = read_calls c.self.invariant c.self.view_is c.requires.running c.requires.sector c.get-entry.ensures
    (λ (n : ℕ) (die : DieState). OnOk c.get_row.result (Passed 0 n die (g.D.Die.state c.get_row.new.die))) c.get_row.ensures.passed

pub returns-clause-failed : goal.returns-clause-failed
returns-clause-failed g c = read_calls c.self.invariant c.self.view_is c.requires.running c.requires.sector c.get-entry.ensures
    (λ (n : ℕ) (die : DieState). OnErr c.get_row.result (ReadFailed 0 n die (g.D.Die.state c.get_row.new.die))) c.get_row.ensures.failed
