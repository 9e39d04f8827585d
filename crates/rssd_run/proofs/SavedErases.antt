-- Each line raises the sum of the erase counts by one at most, and a second write and an idle call by none.
use Rattle.std.proofs.Common.{◌≡◌, ◌≢◌, inl, inr, ℕ, zero, suc, ◌+◌, ◌≤◌, Bool, true, false, if◌then◌else◌, List, [], ◌∷◌, sum, Option, None, Some, ap, arith, slice_index}
use Rattle.std.specs.List.{AllByRecursion}
use Rattle.std.proofs.lemmas.Bool.{cases_lt}
use Rattle.std.proofs.lemmas.List.Elements.{All-from_recursion}
use Rattle.std.proofs.lemmas.List.Sums.{sum_by-cons}
use Rattle.cell_die.specs.Counts.{raised, sum_of}
use Rattle.cell_die.specs.DieState.{DieState}
use Rattle.rssd_script.specs.declared.lines.Line.{Line}
use Rattle.rssd_script.specs.declared.lines.Line.TheVariants.{Write, Read, Trim, Idle, Cut, FailRead, Mount, Stat}
use Rattle.rssd_script.specs.declared.replies.Reply.{Reply}
use Rattle.rssd_script.specs.declared.replies.Reply.TheVariants.{First, Second, Declined, Done, Fault}
use Rattle.rssd_core.specs.DeviceValue.{Numbers, DeviceView}
use Rattle.rssd_core.specs.Erases.{Erased, ErasedOrFailed}
use Rattle.rssd_core.specs.Within.{holds_bytes, record_of}
use Rattle.rssd_core.specs.Writes.{OfferCarries, TrimLeaves, WriteErased}
use Rattle.rssd_run.specs.View.{View, Event, erased}
use Rattle.rssd_run.specs.Leaves.{Leaves}
use Rattle.rssd_run.specs.Step.{IsStep}
use Rattle.rssd_run.specs.Run.{IsRun}
use Rattle.rssd_run.specs.Reuse.{erases_at_most, SameErases, SavesErases, AllSaveErases, most_erases}

-- ---- sums of counts

with_first : (x : ℕ) (xs : List ℕ) → sum (x ∷ xs) ≡ x + sum xs
with_first x xs = sum_by-cons (λ (n : ℕ). n) x xs

same_sum : (xs ys : List ℕ) → ((k : ℕ) → slice_index ys k ≡ slice_index xs k) → sum ys ≤ sum xs
same_sum xs [] same = omega arith
same_sum [] (y ∷ ys) same =
    let here : y ≡ 0 = same 0 in let rest = same_sum [] ys (λ k. same (suc k)) in let all = with_first y ys in omega (arith, here, rest, all)
same_sum (x ∷ xs) (y ∷ ys) same =
    let here : y ≡ x = same 0 in let rest = same_sum xs ys (λ k. same (suc k)) in let all = with_first y ys in let was = with_first x xs in
    omega (arith, here, rest, all, was)

once_sum : (xs ys : List ℕ) (block : ℕ) → slice_index ys block ≡ raised (slice_index xs block) → ((other : ℕ) → other ≢ block → slice_index ys other ≡ slice_index xs other) → sum ys ≤ sum xs + 1
once_sum xs [] block count others = omega arith
once_sum [] (y ∷ ys) zero count others =
    let here : y ≡ raised 0 = count in let rest = same_sum [] ys (λ k. others (suc k) (λ e. omega (arith, e))) in let all = with_first y ys in
    omega (arith, here, rest, all)
once_sum [] (y ∷ ys) (suc block) count others =
    let here : y ≡ 0 = others 0 (λ e. omega (arith, e)) in let rest = once_sum [] ys block count (λ k apart. others (suc k) (λ e. apart (omega (arith, e)))) in let all = with_first y ys in
    omega (arith, here, rest, all)
once_sum (x ∷ xs) (y ∷ ys) zero count others =
    let here : y ≡ raised x = count in let rest = same_sum xs ys (λ k. others (suc k) (λ e. omega (arith, e))) in let all = with_first y ys in let was = with_first x xs in
    omega (arith, here, rest, all, was)
once_sum (x ∷ xs) (y ∷ ys) (suc block) count others =
    let here : y ≡ x = others 0 (λ e. omega (arith, e)) in let rest = once_sum xs ys block count (λ k apart. others (suc k) (λ e. apart (omega (arith, e)))) in let all =
    with_first y ys in let was = with_first x xs in
    omega (arith, here, rest, all, was)

-- ---- one line

none_more : (old new : DieState) → new.erases ≡ old.erases → sum_of new.erases ≤ sum_of old.erases + 0
none_more old new same = let is : sum_of new.erases ≡ sum_of old.erases = ap sum_of same in omega (arith, is)

one_more : (due : Option ℕ) (old new : DieState) → Erased due old new → sum_of new.erases ≤ sum_of old.erases + 1
one_more None old new same = let is : sum_of new.erases ≡ sum_of old.erases = ap sum_of same in omega (arith, is)
one_more (Some block) old new once = let few = once_sum old.erases new.erases block once.count once.others in omega (arith, few)

failed_one : (due : Option ℕ) (reads : ℕ) (old new : DieState) → ErasedOrFailed due reads old new → sum_of new.erases ≤ sum_of old.erases + 1
failed_one due reads old new (inl erased) = one_more due old new erased
failed_one due reads old new (inr (same, failed)) = let few = none_more old new same in omega (arith, few)

trim_one : (d : Numbers) (old new : DeviceView) (sector : ℕ) (held : Bool) → TrimLeaves d old new sector held → sum_of new.die.erases ≤ sum_of old.die.erases + (if held then 1 else 0)
trim_one d old new sector true t = one_more _ old.die new.die t.1.erased
trim_one d old new sector false t = none_more old.die new.die (ap (λ (view : DeviceView). view.die.erases) t)

-- a write that failed, whether its offer carries the sector or not
write_one : (d : Numbers) (old new : DeviceView) (row : List ℕ) → WriteErased d old row new → sum_of new.die.erases ≤ sum_of old.die.erases + 1
write_one d old new row w = elim (cases_lt (sum_of old.die.erases + 1) (sum_of new.die.erases)) [
  | inr few ↦ few
  | inl more ↦ (
      let never : OfferCarries d old row → ⊥ = λ carries. (let none = none_more old.die new.die (w.over carries) in omega (arith, more, none)) in
      let few = failed_one _ _ old.die new.die (w.clean never) in
      absurd (omega (arith, more, few)))
]

line_once : (d : Numbers) (e : Event) (line : Line) (reply : Reply) → Leaves d e line reply → erased e.after ≤ erased e.before + erases_at_most d e.before line reply
line_once d e (Write sector bytes) First l = one_more _ e.before.device.die e.after.device.die l.erased
line_once d e (Write sector bytes) Second l = none_more e.before.device.die e.after.device.die l.erases
line_once d e (Write sector bytes) Declined l = one_more _ e.before.device.die e.after.device.die l.erased
line_once d e (Write sector bytes) Fault l = write_one d e.before.device e.after.device _ l
line_once d e (Write sector bytes) reply l = none_more e.before.device.die e.after.device.die l
line_once d e (Trim sector) Done l = trim_one d e.before.device e.after.device sector (holds_bytes (record_of d e.before.device sector)) l
line_once d e (Trim sector) Fault l = failed_one _ 0 e.before.device.die e.after.device.die l
line_once d e (Trim sector) reply l = none_more e.before.device.die e.after.device.die l
line_once d e (Read sector) reply l = none_more e.before.device.die e.after.device.die l
line_once d e (Idle n) reply l = none_more e.before.device.die e.after.device.die l
line_once d e (Cut n torn) reply l = none_more e.before.device.die e.after.device.die l
line_once d e (FailRead n) reply l = none_more e.before.device.die e.after.device.die l
line_once d e Mount reply l = none_more e.before.device.die e.after.device.die l
line_once d e Stat reply l = none_more e.before.device.die e.after.device.die l

line_second : (d : Numbers) (e : Event) (line : Line) (reply : Reply) → Leaves d e line reply → reply ≡ Second → SameErases e
line_second d e (Write sector bytes) Second l is = l.erases
line_second d e (Write sector bytes) reply l is = cc
line_second d e (Trim sector) Second l is = l
line_second d e (Trim sector) reply l is = cc
line_second d e (Read sector) reply l is = l
line_second d e (Idle n) reply l is = l
line_second d e (Cut n torn) reply l is = l
line_second d e (FailRead n) reply l is = l
line_second d e Mount reply l is = l
line_second d e Stat reply l is = l

line_idle : (d : Numbers) (e : Event) (line : Line) (reply : Reply) (n : ℕ) → Leaves d e line reply → line ≡ Idle n → SameErases e
line_idle d e (Write sector bytes) reply n l is = cc
line_idle d e (Trim sector) reply n l is = cc
line_idle d e (Read sector) reply n l is = cc
line_idle d e (Idle m) reply n l is = l
line_idle d e (Cut m torn) reply n l is = cc
line_idle d e (FailRead m) reply n l is = cc
line_idle d e Mount reply n l is = cc
line_idle d e Stat reply n l is = cc

step_saves : (d : Numbers) (e : Event) → IsStep d e → SavesErases d e
step_saves d e step = record {
  second = line_second d e e.line e.reply step.leaves;
  idle = λ n. line_idle d e e.line e.reply n step.leaves;
  once = line_once d e e.line e.reply step.leaves;
}

-- ---- a run

each_saves : (d : Numbers) (before : View) (events : List Event) (after : View) → IsRun d before events after → AllByRecursion (SavesErases d) events
unfolding IsRun
each_saves d before [] after run = tt
each_saves d before (e ∷ events) after run = (step_saves d e run.1, each_saves d e.after events after run.2)

pub runs_save : (d : Numbers) (before after : View) (events : List Event) → IsRun d before events after → AllSaveErases d events
runs_save d before after events run = All-from_recursion (SavesErases d) events (each_saves d before events after run)

pub runs_erase_few : (d : Numbers) (before after : View) (events : List Event) → IsRun d before events after → erased after ≤ erased before + most_erases d events
unfolding IsRun
runs_erase_few d before after [] run = let same : erased after ≡ erased before = ap erased run in omega (arith, same)
runs_erase_few d before after (e ∷ events) run =
    let begins : erased e.before ≡ erased before = ap erased run.0 in
    let here = (step_saves d e run.1).once in
    let rest = runs_erase_few d e.after after events run.2 in
    let most : most_erases d (e ∷ events) ≡ erases_at_most d e.before e.line e.reply + most_erases d events
    = sum_by-cons (λ (e : Event). erases_at_most d e.before e.line e.reply) e events in
    omega (arith, begins, here, rest, most)
