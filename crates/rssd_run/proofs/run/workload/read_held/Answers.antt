-- Each read tells its row without the zeros at the end.
use Rattle.std.proofs.Common.{◌≡◌, ℕ, ◌<◌, ◌≤◌, Bool, true, false, List, [], length, get_or, refl, ap, ◌∙◌, arith}
use Rattle.std.specs.Prelude.{sum, not, cond, ◌==◌}
use Rattle.std.proofs.lemmas.List.{take_all}
use mir.Val.{bool_byte}
use Rattle.rssd_script.specs.declared.replies.Reply.{Reply}
use Rattle.rssd_script.specs.declared.replies.Reply.TheVariants.{Bytes}
use Rattle.rssd_core.specs.DeviceValue.{Numbers}
use Rattle.rssd_core.specs.SectorArray.{without_zeros}
use Rattle.rssd_run.specs.Workloads.{HasRows, is_held, held_count, byte_sum}
use Rattle.rssd_run.proofs.HeldRows.{sum-without_zeros, length-without_zeros, held_count-more, byte_sum-more}
use Rattle.rssd_run.proofs.MadeRuns.{IsRowRead, row_read}
use Rattle.rssd_run.proofs.run.workload.read_held.Goals as goal

as_number : (b : Bool) → bool_byte b ≡ cond b 1 0
as_number true = refl
as_number false = refl

pub unreachable-requires : goal.unreachable-requires
unreachable-requires g c =
    let d : Numbers = c.requires.0 in
    let rows : List (List ℕ) = c.requires.1 in
    let so = c.loop-sector.invariant.rows d rows c.requires.2 c.requires.3 in
    let long = c.requires.3 in
    let has : HasRows d (g.S.Stepping.session c.loop-sector.session) rows = so.0 in
    let numbers = has.calm.numbers in
    let read : IsRowRead d (g.S.Stepping.session c.step.new.self) rows c.loop-sector.sector c.step.new.reply
    = row_read d (g.S.Stepping.session c.loop-sector.session) (g.S.Stepping.session c.step.new.self) rows has (c.step.ensures.numbers d numbers) c.loop-sector.sector c.step.new.reply
    (omega (arith, long)) (c.step.ensures.step d numbers) in
    c.in_default.not-Bytes read.bytes read.reply_is

pub loop-sector-preserved : goal.loop-sector-preserved
loop-sector-preserved g c = record {
  few = let one : c.from.result ≤ 1 = few (not c.is_empty.result) c.from.result (c.from.ensures ∙ as_number (not c.is_empty.result)) in omega arith;
  small = let row = c.row_sum.ensures.small in omega arith;
  rows = λ d rows has long.
      let so = c.loop-sector.invariant.rows d rows has long in
      let here : HasRows d (g.S.Stepping.session c.loop-sector.session) rows = so.0 in
      let numbers = here.calm.numbers in
      let within : c.loop-sector.sector < length rows = omega (arith, long) in
      let read : IsRowRead d (g.S.Stepping.session c.step.new.self) rows c.loop-sector.sector c.step.new.reply
      = row_read d (g.S.Stepping.session c.loop-sector.session) (g.S.Stepping.session c.step.new.self) rows here (c.step.ensures.numbers d numbers) c.loop-sector.sector c.step.new.reply
      within (c.step.ensures.step d numbers) in
      let same : c.in-Bytes.bytes ≡ read.bytes = told c.step.new.reply c.in-Bytes.bytes read.bytes c.in-Bytes.is read.reply_is in
      let row : c.as_slice-row.result.now ≡ without_zeros (get_or rows c.loop-sector.sector []) = c.as_slice-row.ensures.value ∙ (same ∙ read.row_is) in
      let held : c.from.result ≡ cond (is_held (get_or rows c.loop-sector.sector [])) 1 0
      = c.from.ensures ∙ (as_number (not c.is_empty.result) ∙ (ap (λ (b : Bool). cond (not b) 1 0) c.is_empty.ensures
      ∙ (ap (λ (bytes : List ℕ). cond (not (length bytes == 0)) 1 0) row ∙ ap (λ (b : Bool). cond b 1 0) (length-without_zeros (get_or rows c.loop-sector.sector []))))) in
      let total : c.row_sum.result ≡ sum (get_or rows c.loop-sector.sector []) = c.row_sum.ensures.sum ∙ (ap sum row ∙ sum-without_zeros (get_or rows c.loop-sector.sector [])) in
      let count_more = held_count-more rows c.loop-sector.sector within in
      let sum_more = byte_sum-more rows c.loop-sector.sector within in
      let count_so = so.1 in
      let sum_so = so.2 in (
        read.has,
        omega (arith, count_more, count_so, held),
        omega (arith, sum_more, sum_so, total),
      );
}
  where
    few : (b : Bool) (n : ℕ) → n ≡ cond b 1 0 → n ≤ 1
    few true n is = omega (arith, is)
    few false n is = omega (arith, is)

    told : (reply : Reply) (a b : List ℕ) → reply ≡ Bytes a → reply ≡ Bytes b → a ≡ b
    told reply a b one other = cc

pub returns-clause-count : goal.returns-clause-count
returns-clause-count g c = λ d rows has long.
    let so = c.loop-sector.invariant.rows d rows has long in
    so.1 ∙ ap held_count (take_all c.loop-sector.sector rows (omega (arith, long)))

pub returns-clause-sum : goal.returns-clause-sum
returns-clause-sum g c = λ d rows has long.
    let so = c.loop-sector.invariant.rows d rows has long in
    so.2 ∙ ap byte_sum (take_all c.loop-sector.sector rows (omega (arith, long)))
