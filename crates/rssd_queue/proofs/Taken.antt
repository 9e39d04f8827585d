-- The pick is the first command of its sector, so a sector's commands keep their order when it is taken out.
use Rattle.std.proofs.Common.{◌≡◌, ◌≢◌, ℕ, zero, suc, ◌<◌, inl, inr, eqb, List, [], ◌∷◌, length, remove, refl, sym, ap, ◌∙◌, arith}
use Rattle.std.proofs.lemmas.Bool.{cases_Bool, eqb-true, ne_eqb}
use Rattle.rssd_queue.specs.declared.ask.Tagged.{Tagged}
use Rattle.rssd_queue.specs.Asks.{sector_of}
use Rattle.rssd_queue.specs.Waiting.{Waiting, command_at}
use Rattle.rssd_queue.specs.Pick.{IsPick, Takes, sector_at}
use Rattle.rssd_queue.specs.Runs.{about}

-- a command that is the first of its sector goes to the front
pub about-first : (s : ℕ) (cs : List Tagged) (k : ℕ) → k < length cs → ((j : ℕ) → j < k → sector_at cs j ≢ sector_at cs k) → about s cs ≡ about s (command_at cs k ∷ remove cs k)
about-first s [] k within first = absurd (omega arith)
about-first s (x ∷ xs) zero within first = refl
about-first s (x ∷ xs) (suc k) within first =
    let rest = about-first s xs k (omega arith) (λ j below. first (suc j) (omega arith)) in
    elim (cases_Bool (eqb (sector_of x.ask) s)) [
      | inl here ↦
          let other = ne_eqb (sector_at xs k) s (λ same. first 0 (omega arith) (eqb-true (sector_of x.ask) s here ∙ sym same)) in
          let rest' = rw other at rest in
          rw (here, other) (ap (λ ys. x ∷ ys) rest')
      | inr there ↦ rw there rest
    ]

-- no earlier command is of the sector of the pick
pub first_of_sector : (cs : List Tagged) (passed k : ℕ) → IsPick cs passed k → (j : ℕ) → j < k → sector_at cs j ≢ sector_at cs k
first_of_sector cs passed k (inl free) j below = free.1.free.first_of_sector j below
first_of_sector cs passed k (inr oldest) j below = absurd (let z = oldest.0 in omega arith)

-- what is taken out was the first of its sector
pub about-taken : (s : ℕ) (old new : Waiting) (c : Tagged) → (t : Takes old c new) → about s old.commands ≡ about s (c ∷ remove old.commands t.place)
about-taken s old new c t =
    about-first s old.commands t.place t.within (first_of_sector old.commands old.passed t.place t.pick) ∙ ap (λ d. about s (d ∷ remove old.commands t.place)) t.command
