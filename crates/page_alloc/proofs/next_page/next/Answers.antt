-- Blocks are at most 1,024 of at most 128 pages, so page numbers fit.
use Rattle.std.proofs.Common.{◌≤◌, arith}
use Rattle.std.proofs.Math.Nat.{mul-le-mul}
use Rattle.page_alloc.proofs.next_page.next.Goals as goal

pub overflow_mul-result : goal.overflow_mul-result
overflow_mul-result c =
    let block : c.in-Some.block ≤ 1023 = omega (arith, c.in-Some.ensures.within, c.pages.ensures.valid.few_blocks) in
    let pages : c.pages.result ≤ 128 = omega (arith, c.pages.ensures.valid.few_pages) in
    omega (arith, mul-le-mul block pages)

pub overflow_add-result : goal.overflow_add-result
overflow_add-result c =
    let block : c.in-Some.block ≤ 1023 = omega (arith, c.in-Some.ensures.within, c.pages.ensures.valid.few_blocks) in
    let pages : c.pages.result ≤ 128 = omega (arith, c.pages.ensures.valid.few_pages) in
    omega (arith, mul-le-mul block pages, c.in-Active.ensures.in_range, c.pages.ensures.valid.few_pages)
