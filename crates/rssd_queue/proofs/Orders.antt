-- Over a run, what waits and what is still accepted is what is served and what waits at last: of each sector in order, and all
-- together as often.
use Rattle.std.proofs.Common.{◌≡◌, ℕ, inl, inr, eqb, List, [], ◌∷◌, ◌++◌, remove, refl, sym, ap, ◌∙◌, subst, append_assoc}
use Rattle.std.proofs.lemmas.Bool.{cases_Bool}
use Rattle.std.proofs.lemmas.List.{append-nil, get_or_default}
use Rattle.std.proofs.lemmas.List.Elements.{filter-append}
use Rattle.std.specs.List.Sorted.{IsPermutation}
use Rattle.std.proofs.lemmas.List.Sorted.{IsPermutation-refl, IsPermutation-trans, IsPermutation-cons, IsPermutation-append_left, IsPermutation-remove}
use Rattle.rssd_queue.specs.declared.ask.Tagged.{Tagged}
use Rattle.rssd_queue.specs.Asks.{sector_of}
use Rattle.rssd_queue.specs.Waiting.{Waiting, Accepts, accepted, no_command}
use Rattle.rssd_queue.specs.Runs.{State, Event, Put, RefusedPut, Served, FoundNone, IsRun, accepted_in, served_in, about, AnsweredOnce, SectorsInOrder}
use Rattle.rssd_queue.proofs.Taken.{about-taken}

pub about-append : (s : ℕ) (xs ys : List Tagged) → about s (xs ++ ys) ≡ about s xs ++ about s ys
about-append s xs ys = filter-append (λ c. eqb (sector_of c.ask) s) xs ys

-- a command that comes before others of a sector
pub about-cons : (s : ℕ) (c : Tagged) (xs ys zs : List Tagged) → about s xs ≡ about s ys ++ zs → about s (c ∷ xs) ≡ about s (c ∷ ys) ++ zs
about-cons s c xs ys zs rest = elim (cases_Bool (eqb (sector_of c.ask) s)) [
  | inl here ↦ rw here (ap (λ us. c ∷ us) rest)
  | inr there ↦ rw there rest
]

-- what waits after a put, and then what is accepted
pub after_put : (size : ℕ) (old new : Waiting) (c : Tagged) (es : List Event) → old.sector_bytes ≡ size → Accepts old c new
    → new.commands ++ accepted_in size es ≡ old.commands ++ accepted_in size (Put c ∷ es)
after_put size old new c es is a =
    ap (λ q. q.commands ++ accepted_in size es) a.last ∙ append_assoc old.commands (accepted old.sector_bytes c ∷ []) (accepted_in size es)
    ∙ ap (λ n. old.commands ++ accepted n c ∷ accepted_in size es) is

pub orders : (size s : ℕ) (es : List Event) (first last : State) → first.queue.sector_bytes ≡ size → IsRun first es last
    → about s (first.queue.commands ++ accepted_in size es) ≡ about s (served_in es) ++ about s last.queue.commands
orders size s [] first last is run = ap (about s) (append-nil first.queue.commands ∙ ap (λ v. v.queue.commands) (sym run))
orders size s (Put c ∷ es) first last is (next, (a, rows), run) =
    ap (about s) (sym (after_put size first.queue next.queue c es is a)) ∙ orders size s es next last (ap (λ q. q.sector_bytes) a.last ∙ is) run
orders size s (RefusedPut c why ∷ es) first last is (next, (r, same), run) =
    ap (λ v. about s (v.queue.commands ++ accepted_in size es)) (sym same) ∙ orders size s es next last (ap (λ v. v.queue.sector_bytes) same ∙ is) run
orders size s (FoundNone ∷ es) first last is (next, (none, same), run) =
    ap (λ v. about s (v.queue.commands ++ accepted_in size es)) (sym same) ∙ orders size s es next last (ap (λ v. v.queue.sector_bytes) same ∙ is) run
orders size s (Served c answer ∷ es) first last is (next, (t, a), run) =
    let left : List Tagged = remove first.queue.commands t.place in
    let rest = ap (λ q. about s (q.commands ++ accepted_in size es)) (sym t.rest) ∙ orders size s es next last (ap (λ q. q.sector_bytes) t.rest ∙ is) run in
    about-append s first.queue.commands (accepted_in size es)
    ∙ ap (λ xs. xs ++ about s (accepted_in size es)) (about-taken s first.queue next.queue c t)
    ∙ sym (about-append s (c ∷ left) (accepted_in size es))
    ∙ about-cons s c (left ++ accepted_in size es) (served_in es) (about s last.queue.commands) rest

pub sectors_in_order : SectorsInOrder
sectors_in_order first last es new run s =
    ap (λ xs. about s (xs ++ accepted_in first.queue.sector_bytes es)) (sym new.none) ∙ orders first.queue.sector_bytes s es first last refl run

once : (size : ℕ) (es : List Event) (first last : State) → first.queue.sector_bytes ≡ size → IsRun first es last
    → IsPermutation (first.queue.commands ++ accepted_in size es) (served_in es ++ last.queue.commands)
once size [] first last is run =
    subst (λ xs. IsPermutation (first.queue.commands ++ []) xs) (append-nil first.queue.commands ∙ ap (λ v. v.queue.commands) (sym run)) (IsPermutation-refl (first.queue.commands ++ []))
once size (Put c ∷ es) first last is (next, (a, rows), run) =
    subst (λ xs. IsPermutation xs (served_in es ++ last.queue.commands)) (after_put size first.queue next.queue c es is a) (once size es next last (ap (λ q. q.sector_bytes) a.last ∙ is) run)
once size (RefusedPut c why ∷ es) first last is (next, (r, same), run) =
    subst (λ v. IsPermutation (v.queue.commands ++ accepted_in size es) (served_in es ++ last.queue.commands)) same (once size es next last (ap (λ v. v.queue.sector_bytes) same ∙ is) run)
once size (FoundNone ∷ es) first last is (next, (none, same), run) =
    subst (λ v. IsPermutation (v.queue.commands ++ accepted_in size es) (served_in es ++ last.queue.commands)) same (once size es next last (ap (λ v. v.queue.sector_bytes) same ∙ is) run)
once size (Served c answer ∷ es) first last is (next, (t, a), run) =
    let commands : List Tagged = first.queue.commands in
    let left : List Tagged = remove commands t.place in
    let rest = subst (λ q. IsPermutation (q.commands ++ accepted_in size es) (served_in es ++ last.queue.commands)) t.rest (once size es next last (ap (λ q. q.sector_bytes) t.rest ∙ is) run) in
    let is_c = sym t.command ∙ get_or_default commands t.place no_command c t.within in
    IsPermutation-trans (commands ++ accepted_in size es) ((c ∷ left) ++ accepted_in size es) (c ∷ (served_in es ++ last.queue.commands))
    (IsPermutation-append_left (accepted_in size es) commands (c ∷ left) (IsPermutation-remove commands t.place c t.within is_c))
    (IsPermutation-cons c (left ++ accepted_in size es) (served_in es ++ last.queue.commands) rest)

pub answered_once : AnsweredOnce
answered_once first last es new run =
    subst (λ xs. IsPermutation (xs ++ accepted_in first.queue.sector_bytes es) (served_in es ++ last.queue.commands)) new.none (once first.queue.sector_bytes es first last refl run)
