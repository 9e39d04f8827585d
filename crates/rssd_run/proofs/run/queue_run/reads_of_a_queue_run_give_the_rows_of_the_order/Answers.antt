-- A queue run begins where nothing waits and the array is on.
use Rattle.std.proofs.Common.{◌≡◌, [], ℕ, ◌+◌, length, refl, sym, subst}
use Rattle.die_image.specs.Schemes.{row_of}
use Rattle.rssd_run.specs.Heads.{numbers_named, zero_sectors}
use Rattle.rssd_run.specs.QueueActs.{place}
use Rattle.rssd_run.specs.QueueRuns.{first_place}
use Rattle.rssd_run.specs.QueueLaws.{ReadsTheOrder}
use Rattle.schemes.proofs.Rows.{named_row}
use Rattle.rssd_run.proofs.QueueReads.{reads_the_order}
use Rattle.rssd_run.proofs.run.queue_run.reads_of_a_queue_run_give_the_rows_of_the_order.Goals as goal

pub returns : goal.returns
returns c = λ head lines log after given.
    let size : (row_of head.scheme).sector_bytes ≡ (numbers_named head).geometry.sector_bytes = sym (named_row head.scheme).sector_bytes in
    subst (λ (n : ℕ). ReadsTheOrder n (zero_sectors head) given.acts.acts) (sym size)
    (reads_the_order (numbers_named head) given.acts.acts (first_place head lines) (place [] (length lines + 1) given.queue) given.before given.after
    (zero_sectors head) given.start.zeros refl refl refl size given.acts.run)
