-- A page came to hand, and zeros are put on it.
use Rattle.std.proofs.Common.{inr, ◌∙◌}
use Rattle.page_codec.specs.Sectors.{zero_sector}
use Rattle.rssd_core.specs.Clearing.{zeros_header}
use Rattle.rssd_core.specs.Steps.{PutNextFailed}
use Rattle.rssd_core.proofs.StoreLaws.{keeps_trans, over_kept}
use Rattle.rssd_core.proofs.store.Store.clear.Goals as goal

pub returns-in-Ok-clause-keeps : goal.returns-in-Ok-clause-keeps
returns-in-Ok-clause-keeps g c = keeps_trans c.open_page.ensures.keeps c.put_zeros.ensures.keeps

pub returns-in-Err-clause-keeps : goal.returns-in-Err-clause-keeps
returns-in-Err-clause-keeps g c = keeps_trans c.open_page.ensures.keeps c.put_zeros.ensures.keeps

pub returns-in-Err-clause-ends : goal.returns-in-Err-clause-ends
returns-in-Err-clause-ends g c =
    let mid = c.open_page.new.self.cells in
    inr (record {
      page = c.in_ok-page.page;
      rise = c.in_ok-page.ensures.ends.rise;
      mid = mid;
      opened = c.in_ok-page.ensures.ends.opened;
      put = over_kept c.open_page.ensures.keeps (λ n m. PutNextFailed n m.decoding (zeros_header c.args.sector mid.seq) (zero_sector n) mid c.put_zeros.new.self.cells) c.in-Err.ensures.failed;
      tally = c.in-Err.ensures.same_moved ∙ c.in_ok-page.ensures.ends.tally;
    })
