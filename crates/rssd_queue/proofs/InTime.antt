-- The place of a waiting command falls at least once in 33 serves, and a full queue has no read that could pass the last command.
use Rattle.std.proofs.Common.{◌≡◌, ℕ, suc, ◌+◌, ◌-◌, ◌*◌, ◌<◌, ◌≤◌, inl, inr, List, [], ◌∷◌, ◌++◌, length, refl, sym, ap, ◌∙◌, subst, arith, length-append}
use Rattle.std.specs.List.{Contains}
use Rattle.std.proofs.lemmas.Bool.{cases_eq, cases_lt, eq-eqb, ne_eqb}
use Rattle.std.proofs.lemmas.List.{get_or_append_left}
use Rattle.std.proofs.Math.Seq.{get_or-append_seam}
use Rattle.std.proofs.lemmas.List.Edits.{get_or-remove_below, get_or-remove_above, length-remove}
use Rattle.rssd_queue.specs.declared.ask.Tagged.{Tagged}
use Rattle.rssd_queue.specs.Waiting.{Waiting, Accepts, accepted, command_at, no_command}
use Rattle.rssd_queue.specs.Pick.{Takes, IsPick, passed_after}
use Rattle.rssd_queue.specs.Runs.{State, Event, Put, RefusedPut, Served, FoundNone, IsRun, served_in, serves, ServedInTime}

-- a command that is served first, or among the later ones
contains_first : (c d : Tagged) (xs : List Tagged) → c ≡ d → Contains (c ∷ xs) d
contains_first c d xs same = (0, omega arith, same)

contains_later : (c d : Tagged) (xs : List Tagged) → Contains xs d → Contains (c ∷ xs) d
contains_later c d xs (k, within, is) = (suc k, omega arith, is)

-- a command stands at a place of the queue, and the oldest was passed so often
record Stands (v : Waiting) (d : Tagged) (p : ℕ) : Type 0 where
  within : p < length v.commands
  is : command_at v.commands p ≡ d
  few_passed : v.passed ≤ 32

-- it still does after a put
stands_put : (old new : Waiting) (c d : Tagged) (p : ℕ) → Accepts old c new → Stands old d p → Stands new d p
stands_put old new c d p a stands =
    subst (λ q. Stands q d p) (sym a.last)
    (record {
      within = omega (arith, length-append old.commands (accepted old.sector_bytes c ∷ []), stands.within);
      is = get_or_append_left old.commands (accepted old.sector_bytes c ∷ []) no_command p stands.within ∙ stands.is;
      few_passed = stands.few_passed;
    })

-- the oldest was passed at most 32 times after a serve
few_after : (old : Waiting) (k : ℕ) → IsPick old.commands old.passed k → passed_after k old.passed ≤ 32
few_after old k (inl free) = elim (cases_eq k 0) [
  | inl here ↦ rw (eq-eqb k 0 here) (omega arith)
  | inr later ↦ rw (ne_eqb k 0 later) (let f = free.0 in omega arith)
]
few_after old k (inr oldest) = rw (eq-eqb k 0 oldest.0) (omega arith)

-- a later command is served: the place stays, and the oldest was passed once more
stands_above : (old new : Waiting) (c d : Tagged) (p : ℕ) (t : Takes old c new) → p < t.place → Stands old d p → Stands new d p × (new.passed ≡ old.passed + 1)
stands_above old new c d p t above stands =
    subst (λ q. Stands q d p × (q.passed ≡ old.passed + 1)) (sym t.rest) (
      record {
        within = omega (arith, length-remove old.commands t.place t.within, t.within);
        is = get_or-remove_below old.commands t.place no_command p above t.within ∙ stands.is;
        few_passed = few_after old t.place t.pick;
      },
      rw (ne_eqb t.place 0 (λ z. absurd (omega arith))) refl,
    )

-- an earlier command is served: the place falls
stands_below : (old new : Waiting) (c d : Tagged) (q : ℕ) (t : Takes old c new) → t.place ≤ q → Stands old d (q + 1) → Stands new d q
stands_below old new c d q t below stands =
    subst (λ v. Stands v d q) (sym t.rest)
    (record {
      within = let l = length-remove old.commands t.place t.within in let w = stands.within in omega arith;
      is = get_or-remove_above old.commands t.place no_command q below t.within ∙ stands.is;
      few_passed = few_after old t.place t.pick;
    })

-- the command at the place is served
served_here : (old new : Waiting) (c d : Tagged) (p : ℕ) (t : Takes old c new) → t.place ≡ p → Stands old d p → c ≡ d
served_here old new c d p t here stands = sym t.command ∙ ap (command_at old.commands) here ∙ stands.is

none_waits : (v : Waiting) (d : Tagged) (p : ℕ) → v.commands ≡ [] → Stands v d p → ⊥
none_waits v d p none stands = let e = ap length none in let w = stands.within in omega arith

predecessor : (k p : ℕ) → k < p → (q : ℕ) × (p ≡ q + 1) × (k ≤ q)
predecessor k p below = (p - 1, omega arith, omega arith)

-- a command at place p is served within 33 (p + 1) serves, less those in which the oldest was passed before
in_time : (es : List Event) (first last : State) (d : Tagged) (p : ℕ) → Stands first.queue d p → IsRun first es last → 33 * (p + 1) ≤ serves es + first.queue.passed → Contains (served_in es) d
in_time [] first last d p stands run enough = absurd (let f = stands.few_passed in omega arith)
in_time (Put c ∷ es) first last d p stands (next, (a, rows), run) enough =
    in_time es next last d p (stands_put first.queue next.queue c d p a stands) run (let e = ap (λ q. q.passed) a.last in omega arith)
in_time (RefusedPut c why ∷ es) first last d p stands (next, (r, same), run) enough =
    in_time es next last d p (subst (λ v. Stands v.queue d p) (sym same) stands) run (let e = ap (λ v. v.queue.passed) same in omega arith)
in_time (FoundNone ∷ es) first last d p stands (next, (none, same), run) enough = absurd (none_waits first.queue d p none stands)
in_time (Served c answer ∷ es) first last d p stands (next, (t, a), run) enough = elim (cases_eq t.place p) [
  | inl here ↦ contains_first c d (served_in es) (served_here first.queue next.queue c d p t here stands)
  | inr other ↦ elim (cases_lt t.place p) [
    | inl below ↦
        let fall = predecessor t.place p below in
        let stands' = subst (λ (n : ℕ). Stands first.queue d n) fall.1 stands in
        let f = stands.few_passed in
        let e = fall.1 in
        contains_later c d (served_in es) (in_time es next last d fall.0 (stands_below first.queue next.queue c d fall.0 t fall.2 stands') run (omega arith))
    | inr above ↦
        let later = stands_above first.queue next.queue c d p t (omega arith) stands in
        let e = later.1 in
        contains_later c d (served_in es) (in_time es next last d p later.0 run (omega arith))
  ]
]

-- the last command of a full queue: the next serve takes one that is not later, and then it stands at place 30 at most
full_in_time : (es : List Event) (first last : State) (d : Tagged) → Stands first.queue d 31 → length first.queue.commands ≡ 32 → IsRun first es last → 1024 ≤ serves es → Contains (served_in es) d
full_in_time [] first last d stands full run enough = absurd (omega arith)
full_in_time (Put c ∷ es) first last d stands full (next, (a, rows), run) enough = absurd (let r = a.room in omega arith)
full_in_time (RefusedPut c why ∷ es) first last d stands full (next, (r, same), run) enough =
    full_in_time es next last d (subst (λ v. Stands v.queue d 31) (sym same) stands) (ap (λ v. length v.queue.commands) same ∙ full) run enough
full_in_time (FoundNone ∷ es) first last d stands full (next, (none, same), run) enough = absurd (none_waits first.queue d 31 none stands)
full_in_time (Served c answer ∷ es) first last d stands full (next, (t, a), run) enough = elim (cases_eq t.place 31) [
  | inl here ↦ contains_first c d (served_in es) (served_here first.queue next.queue c d 31 t here stands)
  | inr other ↦
      let w = t.within in
      contains_later c d (served_in es) (in_time es next last d 30 (stands_below first.queue next.queue c d 30 t (omega arith) stands) run (omega arith))
]

module _ (size : ℕ) (c : Tagged) (after : List Event) (enough : 1024 ≤ serves after) where
  -- from the put on
  from_put : (first next last : State) → first.queue.sector_bytes ≡ size → first.queue.passed ≤ 32 → Accepts first.queue c next.queue → IsRun next after last
      → Contains (served_in after) (accepted size c)
  from_put first next last is few a run =
      let p : ℕ = length first.queue.commands in
      let new : Tagged = accepted first.queue.sector_bytes c in
      let stands : Stands next.queue new p = subst (λ q. Stands q new p) (sym a.last) (record {
        within = omega (arith, length-append first.queue.commands (new ∷ []));
        is = get_or-append_seam first.queue.commands new [] no_command;
        few_passed = few;
      }) in
      let served : Contains (served_in after) new = elim (cases_lt p 31) [
        | inl low ↦ in_time after next last new p stands run (omega arith)
        | inr high ↦
            let last' : p ≡ 31 = let r = a.room in omega arith in
            let full : length next.queue.commands ≡ 32 = ap (λ q. length q.commands) a.last ∙ length-append first.queue.commands (new ∷ []) ∙ omega arith in
            full_in_time after next last new (subst (λ (n : ℕ). Stands next.queue new n) last' stands) full run enough
      ] in
      subst (λ (n : ℕ). Contains (served_in after) (accepted n c)) is served

  to_put : (before : List Event) (first last : State) → first.queue.sector_bytes ≡ size → first.queue.passed ≤ 32 → IsRun first (before ++ Put c ∷ after) last
      → Contains (served_in after) (accepted size c)
  to_put [] first last is few (next, (a, rows), run) = from_put first next last is few a run
  to_put (Put d ∷ before) first last is few (next, (a, rows), run) =
      to_put before next last (ap (λ q. q.sector_bytes) a.last ∙ is) (let e = ap (λ q. q.passed) a.last in omega arith) run
  to_put (RefusedPut d why ∷ before) first last is few (next, (r, same), run) =
      to_put before next last (ap (λ v. v.queue.sector_bytes) same ∙ is) (let e = ap (λ v. v.queue.passed) same in omega arith) run
  to_put (FoundNone ∷ before) first last is few (next, (none, same), run) =
      to_put before next last (ap (λ v. v.queue.sector_bytes) same ∙ is) (let e = ap (λ v. v.queue.passed) same in omega arith) run
  to_put (Served d answer ∷ before) first last is few (next, (t, a), run) =
      to_put before next last (ap (λ q. q.sector_bytes) t.rest ∙ is) (let e = ap (λ q. q.passed) t.rest in let f = few_after first.queue t.place t.pick in omega arith) run

pub served_in_time : ServedInTime
served_in_time first last before after c new run enough =
    to_put first.queue.sector_bytes c after enough before first last refl (let z = new.passed in omega arith) run
