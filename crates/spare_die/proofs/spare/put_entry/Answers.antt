-- While the gate is not charged the page holds a part of the entry.
use Rattle.std.proofs.Common.{◌≡◌, ◌≤◌, ℕ, List, Result, Ok, Err, OnErr, inl, inr, ap, ◌∙◌, length, ⊎_elim, arith, false, ◌==◌}
use Rattle.std.proofs.lemmas.Result.{on_ok_weaker, on_err_weaker}
use Rattle.cell_die.specs.Cells.{IsAbove, charge, blank_page}
use Rattle.cell_die.specs.DieState.{page_of, page_bytes}
use Rattle.cell_die.proofs.CellLaws.{above_blank}
use Rattle.spare_die.specs.Table.{entry_page, is_gated}
use Rattle.spare_die.proofs.Entries.{between_ungated, entry_is, length-entry, entry_ungated}
use Rattle.cell_die.proofs.Sequences.{ok_then, err_then}
use Rattle.spare_die.proofs.spare.put_entry.Goals as goal

on_err : {T E P : Type 0} (result : Result T E) → P → OnErr result P
on_err (Ok x) holds = tt
on_err (Err x) holds = holds

-- the row of the entry
row_ungated : (row : List ℕ) (logical inner bytes : ℕ) → row ≡ entry_page logical inner bytes → is_gated row ≡ false
row_ungated row logical inner bytes is = ap is_gated is ∙ ap (λ charge. charge == 1) (entry_ungated logical inner bytes)

row_above : (row : List ℕ) (logical inner bytes : ℕ) → 9 ≤ bytes → row ≡ entry_page logical inner bytes → IsAbove row (blank_page bytes)
row_above row logical inner bytes room is = above_blank row bytes (ap length is ∙ length-entry logical inner bytes (omega arith))

pub program-requires-clause-above : goal.program-requires-clause-above
program-requires-clause-above g c =
    let bytes : ℕ = page_bytes (g.D.WornDie.state c.args.die.now).shape in
    rw c.requires.blank (row_above c.spell.new.into c.args.entry.logical c.args.entry.inner bytes c.requires.room
    (c.spell.ensures ∙ ap (entry_page c.args.entry.logical c.args.entry.inner) c.requires.whole_page))

pub returns-in_err-program-clause-put_or_not : goal.returns-in_err-program-clause-put_or_not
returns-in_err-program-clause-put_or_not g c =
    on_err c.from_residual.result
    (inl (between_ungated (page_of (g.D.WornDie.state c.args.die.now) c.args.at) (page_of (g.D.WornDie.state c.program.new.self) c.args.at) c.spell.new.into c.in_err-program.ensures.in_part
    (row_ungated c.spell.new.into c.args.entry.logical c.args.entry.inner _ c.spell.ensures)))

pub returns-clause-put : goal.returns-clause-put
returns-clause-put g c =
    on_ok_weaker c.charge.result
    (λ charged. entry_is (page_of (g.D.WornDie.state c.charge.new.self) c.args.at) c.args.entry.logical c.args.entry.inner (page_bytes (g.D.WornDie.state c.args.die.now).shape) c.requires.room
    (omega (arith, c.requires.logical)) (omega (arith, c.requires.inner))
    (charged ∙ ap (λ row. charge row 64)
    (c.in_ok-program.ensures.programmed ∙ (c.spell.ensures ∙ ap (entry_page c.args.entry.logical c.args.entry.inner) c.requires.whole_page)))) c.charge.ensures.charged

pub returns-clause-put_or_not : goal.returns-clause-put_or_not
returns-clause-put_or_not g c =
    let ungated = row_ungated c.spell.new.into c.args.entry.logical c.args.entry.inner _ c.spell.ensures in
    on_err_weaker c.charge.result (λ either. ⊎_elim
    (λ same. inl (ap is_gated (same ∙ c.in_ok-program.ensures.programmed) ∙ ungated))
    (λ charged. inr (entry_is (page_of (g.D.WornDie.state c.charge.new.self) c.args.at) c.args.entry.logical c.args.entry.inner (page_bytes (g.D.WornDie.state c.args.die.now).shape) c.requires.room
    (omega (arith, c.requires.logical)) (omega (arith, c.requires.inner))
    (charged ∙ ap (λ row. charge row 64) (c.in_ok-program.ensures.programmed ∙ (c.spell.ensures ∙ ap (entry_page c.args.entry.logical c.args.entry.inner) c.requires.whole_page)))))
    either) c.charge.ensures.charged_or_not

pub returns-clause-passed : goal.returns-clause-passed
returns-clause-passed g c = ok_then 1 0 _ _ _ c.charge.result c.in_ok-program.ensures.passed c.charge.ensures.passed

pub returns-clause-failed : goal.returns-clause-failed
returns-clause-failed g c = err_then 1 0 _ _ _ c.charge.result c.in_ok-program.ensures.passed c.charge.ensures.failed
