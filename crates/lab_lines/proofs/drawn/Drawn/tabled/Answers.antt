-- The table of a zipf workload has a row for each sector.
use Rattle.std.proofs.Common.{◌≡◌, ◌<◌, ◌%◌, ℕ, List, length, get_or, sym, ap, ◌∙◌, subst, arith}
use Rattle.std.proofs.lemmas.List.{get_or_read_under}
use Rattle.lab_lines.specs.declared.kind.Kind.{Kind}
use Rattle.lab_lines.specs.Workload.{table_of, zipf_rows}
use Rattle.lab_lines.specs.declared.drawn.Drawn.{Drawn}
use Rattle.lab_lines.specs.declared.kind.Kind.TheVariants.{Zipf}
use Rattle.lab_lines.proofs.ZipfRows.{some_entries}
use Rattle.lab_lines.proofs.drawn.Drawn.tabled.Goals as goal

-- the table is that of its sectors
is_table : (drawn : Drawn) → drawn.plan.kind ≡ Zipf → drawn.table.items ≡ zipf_rows drawn.plan.sectors drawn.plan.sectors
is_table drawn zipf = drawn.tabled ∙ ap (λ (kind : Kind). table_of kind drawn.plan.sectors) zipf

some_rows : (drawn : Drawn) → drawn.plan.kind ≡ Zipf → 0 < length drawn.table.items
some_rows drawn zipf = let P : List ℕ → Type 0 = λ rows. 0 < length rows in subst P (sym (is_table drawn zipf)) (some_entries drawn.plan.sectors drawn.some_sectors)

pub nonzero_rem-word : goal.nonzero_rem-word
nonzero_rem-word c = omega (arith, some_rows c.args.self.now c.requires, c.len.ensures)

pub index-requires : goal.index-requires
index-requires c = omega (arith, some_rows c.args.self.now c.requires, c.len.ensures)

pub returns : goal.returns
returns c =
    let rows : c.args.self.now.table.items ≡ zipf_rows c.args.self.now.plan.sectors c.args.self.now.plan.sectors = is_table c.args.self.now c.requires in
    let count : c.len.result ≡ length c.args.self.now.table.items = omega (arith, c.len.ensures) in
    let some : 0 < length c.args.self.now.table.items = some_rows c.args.self.now c.requires in
    let inside : c.args.word % c.len.result < c.len.result = omega arith in
    get_or_read_under c.args.self.now.table.items (c.args.word % c.len.result) c.len.result c.index.result.now 0 c.index.ensures inside count
    ∙ (λ i. get_or (rows i) (c.args.word % ((count ∙ ap length rows) i)) 0)
