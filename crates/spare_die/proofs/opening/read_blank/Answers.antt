-- Each page of the block is read, up to one that is not blank.
use Rattle.std.proofs.Common.{◌≡◌, ◌*◌, ◌/◌, ◌+◌, ◌<◌, ◌≤◌, ℕ, zero, suc, ◌-◌, refl, true, ap, sym, ◌∙◌, arith, length, ⊎_elim}
use Rattle.std.proofs.lemmas.Bool.{cases_eq, false≢true}
use Rattle.cell_die.specs.Cells.{is_blank, blank_page}
use Rattle.cell_die.specs.DieState.{page_of, page_bytes}
use Rattle.spare_die.proofs.Written.{blank_row}
use Rattle.spare_die.proofs.Telling.{reads_trans, read_only, page_same, inside_read}
use Rattle.std.proofs.lemmas.Nat.{div-mul-add}
use Rattle.spare_die.proofs.opening.read_blank.Goals as goal

block_of_page : (block pages page : ℕ) → block * pages ≤ page → page < block * pages + pages → page / pages ≡ block
block_of_page block pages page from below =
    let same : page ≡ block * pages + (page - block * pages) = omega arith in
    ap (λ n. n / pages) same ∙ div-mul-add block pages (page - block * pages) (omega arith)

blank_zeros : (n : ℕ) → is_blank (blank_page n) ≡ true
blank_zeros zero = refl
blank_zeros (suc n) = blank_zeros n

pub returns-then-not-is_blank-clause-blank_not : goal.returns-then-not-is_blank-clause-blank_not
returns-then-not-is_blank-clause-blank_not g c = λ e blank.
    let row : c.read.new.into ≡ page_of (g.D.WornDie.state c.args.die.now) c.loop-page.page = c.in_ok-read.ensures.read ∙ page_same c.loop-page.page (inside_read c.loop-page.invariant.reads) in
    let in_block : c.loop-page.page / (g.D.WornDie.state c.args.die.now).shape.pages ≡ c.args.block = block_of_page c.args.block (g.D.WornDie.state c.args.die.now).shape.pages c.loop-page.page
    (rw c.shape-pages.ensures at c.loop-page.auto.page) (rw c.shape-pages.ensures at c.loop-page-test.true) in
    let is : c.read.new.into ≡ blank_page (page_bytes (g.D.WornDie.state c.args.die.now).shape) = row ∙ blank c.loop-page.page in_block in
    false≢true (sym c.if-not-is_blank.true ∙ (c.is_blank.ensures ∙ (ap is_blank is ∙ blank_zeros (page_bytes (g.D.WornDie.state c.args.die.now).shape))))

pub loop-page-preserved : goal.loop-page-preserved
loop-page-preserved g c =
    let row : c.read.new.into ≡ page_of (g.D.WornDie.state c.args.die.now) c.loop-page.page = c.in_ok-read.ensures.read ∙ page_same c.loop-page.page (inside_read c.loop-page.invariant.reads) in
    let long : length c.read.new.into ≡ page_bytes (g.D.WornDie.state c.args.die.now).shape = c.read.auto.into ∙ c.loop-page.invariant.row in
    record {
      blank = λ page from below. ⊎_elim
          (λ here. ap (page_of (g.D.WornDie.state c.args.die.now)) here ∙ (sym row ∙ (blank_row c.read.new.into (sym c.is_blank.ensures ∙ c.if-not-is_blank.false) ∙ ap blank_page long)))
          (λ apart. c.loop-page.invariant.blank page from (omega arith))
          (cases_eq page c.loop-page.page);
      reads = reads_trans c.loop-page.invariant.reads (read_only c.read.result c.read.ensures.same_cells c.read.ensures.kept c.read.ensures.passed c.read.ensures.failed);
      row = long;
    }
