-- The zero bytes that are missing fit.
use Rattle.std.proofs.Common.{◌≡◌, ℕ, ◌+◌, ◌-◌, ◌≤◌, ◌++◌, ◌∙◌, ap, arith, take, replicate, length, Result, Ok, Err}
use Rattle.std.specs.Result.{IsOk, OnOk}
use Rattle.std.proofs.lemmas.Bool.{false≢true}
use Rattle.std.proofs.lemmas.List.{take-replicate, length-replicate}
use Rattle.rssd_queue.proofs.ask.AskBytes.fill_up.Goals as goal

of_ok : {T E P : Type 0} (r : Result T E) → IsOk r → OnOk r P → P
of_ok (Ok x) ok holds = holds
of_ok (Err e) ok holds = absurd (false≢true ok)

pub returns : goal.returns
returns c =
    let missing : ℕ = c.args.sector_bytes - c.len.result in
    let bytes = c.self.inside.bytes.items in
    let zeros : take missing (replicate 512 0) ≡ replicate missing 0 = take-replicate missing 512 0 (omega arith) in
    let count : length (take missing (replicate 512 0)) ≡ missing = ap length zeros ∙ length-replicate missing 0 in
    let fits : length bytes ≤ c.args.sector_bytes = rw (← c.self.view_is) at c.requires.fits in
    let room : length bytes + length (take missing (replicate 512 0)) ≤ 512 = omega arith in
    let ok = of_ok c.try_extend_from_slice.result (c.try_extend_from_slice.ensures.variant.1 room) c.try_extend_from_slice.ensures.ok in
    rw (← c.self.view_is) (ok ∙ ap (λ zs. bytes ++ zs) (zeros ∙ ap (λ (n : ℕ). replicate (c.args.sector_bytes - n) 0) c.len.ensures.value))
