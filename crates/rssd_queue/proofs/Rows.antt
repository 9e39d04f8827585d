-- A row after some commands depends on those of its sector alone; so a read finds the row of the order of acceptance.
use Rattle.std.proofs.Common.{◌≡◌, ℕ, ◌<◌, inl, inr, Bool, true, false, eqb, List, [], ◌∷◌, ◌++◌, length, replicate, remove, set, refl, sym, ap, ◌∙◌, subst, get_or-set_same, get_or-set_other}
use Rattle.std.proofs.Common.{length-set, arith}
use Rattle.std.specs.List.{filter, AllByRecursion}
use Rattle.std.proofs.lemmas.Bool.{cases_Bool, cases_eq, cases_lt, eq-eqb, false≢true}
use Rattle.std.proofs.lemmas.List.{get_or_past}
use Rattle.std.proofs.lemmas.List.Elements.{recursion_from_All}
use Rattle.rssd_queue.specs.declared.ask.Ask.{Ask}
use Rattle.rssd_queue.specs.declared.ask.Ask.TheVariants.{Write, Read, Trim}
use Rattle.rssd_queue.specs.declared.ask.Tagged.{Tagged}
use Rattle.rssd_queue.specs.declared.serve.Answer.TheVariants.{Bytes}
use Rattle.rssd_queue.specs.Asks.{sector_of}
use Rattle.rssd_queue.specs.Runs.{State, Event, Put, RefusedPut, Served, FoundNone, IsRun, NotRefused, AnswersOf, accepted_in, served_in, about, row_of, carried, carried_out, ReadsInOrder}
use Rattle.rssd_queue.proofs.Taken.{about-taken}
use Rattle.rssd_queue.proofs.Orders.{about-append, about-cons, after_put}

row_set_agrees : (xs ys : List (List ℕ)) (b c : ℕ) (v : List ℕ) → length xs ≡ length ys → row_of xs c ≡ row_of ys c → row_of (set xs b v) c ≡ row_of (set ys b v) c
row_set_agrees xs ys b c v long same = elim (cases_eq c b) [
  | inr other ↦ get_or-set_other xs b c v [] other ∙ same ∙ sym (get_or-set_other ys b c v [] other)
  | inl here ↦ elim (cases_lt c (length xs)) [
    | inl within ↦ row_here xs b c v here within ∙ sym (row_here ys b c v here (omega arith))
    | inr past ↦ get_or_past (set xs b v) c [] (omega (arith, length-set xs b v)) ∙ sym (get_or_past (set ys b v) c [] (omega (arith, length-set ys b v)))
  ]
]
  where
    row_here : (zs : List (List ℕ)) (b c : ℕ) (v : List ℕ) → c ≡ b → c < length zs → row_of (set zs b v) c ≡ v
    row_here zs b c v here within = subst (λ (d : ℕ). row_of (set zs d v) c ≡ v) here (get_or-set_same zs c v [] within)

length-carried : (size : ℕ) (rows : List (List ℕ)) (ask : Ask) → length (carried size rows ask) ≡ length rows
length-carried size rows (Write sector bytes) = length-set rows sector bytes
length-carried size rows (Read sector) = refl
length-carried size rows (Trim sector) = length-set rows sector (replicate size 0)

-- a command of another sector leaves the row
row-carried_other : (size : ℕ) (rows : List (List ℕ)) (ask : Ask) (s : ℕ) → (s ≡ sector_of ask → ⊥) → row_of (carried size rows ask) s ≡ row_of rows s
row-carried_other size rows (Write sector bytes) s other = get_or-set_other rows sector s bytes [] other
row-carried_other size rows (Read sector) s other = refl
row-carried_other size rows (Trim sector) s other = get_or-set_other rows sector s (replicate size 0) [] other

row-carried_agrees : (size : ℕ) (xs ys : List (List ℕ)) (ask : Ask) (s : ℕ) → length xs ≡ length ys → row_of xs s ≡ row_of ys s → row_of (carried size xs ask) s ≡ row_of (carried size ys ask) s
row-carried_agrees size xs ys (Write sector bytes) s long same = row_set_agrees xs ys sector s bytes long same
row-carried_agrees size xs ys (Read sector) s long same = same
row-carried_agrees size xs ys (Trim sector) s long same = row_set_agrees xs ys sector s (replicate size 0) long same

-- arrays that agree at a sector do so after the same commands
row-carried_out_agrees : (size s : ℕ) (cs : List Tagged) (xs ys : List (List ℕ)) → length xs ≡ length ys → row_of xs s ≡ row_of ys s
    → row_of (carried_out size xs cs) s ≡ row_of (carried_out size ys cs) s
row-carried_out_agrees size s [] xs ys long same = same
row-carried_out_agrees size s (c ∷ cs) xs ys long same =
    row-carried_out_agrees size s cs (carried size xs c.ask) (carried size ys c.ask) (length-carried size xs c.ask ∙ long ∙ sym (length-carried size ys c.ask))
    (row-carried_agrees size xs ys c.ask s long same)

-- the row after some commands is that after those of its sector
pub row-about : (size s : ℕ) (cs : List Tagged) (rows : List (List ℕ)) → row_of (carried_out size rows cs) s ≡ row_of (carried_out size rows (about s cs)) s
row-about size s [] rows = refl
row-about size s (c ∷ cs) rows = elim (cases_Bool (eqb (sector_of c.ask) s)) [
  | inl here ↦ rw here (row-about size s cs (carried size rows c.ask))
  | inr there ↦ rw there (row-about size s cs (carried size rows c.ask)
      ∙ row-carried_out_agrees size s (about s cs) (carried size rows c.ask) rows (length-carried size rows c.ask)
      (row-carried_other size rows c.ask s (λ same. false≢true (sym there ∙ eq-eqb (sector_of c.ask) s (sym same)))))
]

-- a list whose filter has an element after some others is cut at that element
record IsCut (p : Tagged → Bool) (xs us : List Tagged) (c : Tagged) : Type 0 where
  earlier : List Tagged
  later : List Tagged
  parts : xs ≡ earlier ++ c ∷ later
  kept : filter p earlier ≡ us

module _ (p : Tagged → Bool) (c : Tagged) where
  cut_passed : (x : Tagged) (xs us : List Tagged) → p x ≡ false → IsCut p xs us c → IsCut p (x ∷ xs) us c
  cut_passed x xs us miss cut = record { earlier = x ∷ cut.earlier; later = cut.later; parts = ap (λ ys. x ∷ ys) cut.parts; kept = rw miss cut.kept }

  cut_kept : (x u : Tagged) (xs us : List Tagged) → p x ≡ true → x ≡ u → IsCut p xs us c → IsCut p (x ∷ xs) (u ∷ us) c
  cut_kept x u xs us hit same cut =
      record { earlier = x ∷ cut.earlier; later = cut.later; parts = ap (λ ys. x ∷ ys) cut.parts; kept = rw hit (ap (λ ys. x ∷ ys) cut.kept ∙ ap (λ y. y ∷ us) same) }

  cut_first : (x : Tagged) (xs : List Tagged) → x ≡ c → IsCut p (x ∷ xs) [] c
  cut_first x xs same = record { earlier = []; later = xs; parts = ap (λ y. y ∷ xs) same; kept = refl }

  cut_hit : (x : Tagged) (xs us vs : List Tagged) → p x ≡ true → x ∷ filter p xs ≡ us ++ c ∷ vs → ((us' vs' : List Tagged) → filter p xs ≡ us' ++ c ∷ vs' → IsCut p xs us' c) → IsCut p (x ∷ xs) us c
  cut_hit x xs [] vs hit is rest = cut_first x xs (cc)
  cut_hit x xs (u ∷ us) vs hit is rest = cut_kept x u xs us hit (cc) (rest us vs (cc))

  cut_at : (xs us vs : List Tagged) → filter p xs ≡ us ++ c ∷ vs → IsCut p xs us c
  cut_at [] [] vs is = absurd (cc)
  cut_at [] (u ∷ us) vs is = absurd (cc)
  cut_at (x ∷ xs) us vs is = elim (cases_Bool (p x)) [
    | inr miss ↦ cut_passed x xs us miss (cut_at xs us vs (rw miss at is))
    | inl hit ↦ cut_hit x xs us vs hit (rw hit at is) (λ us' vs' e. cut_at xs us' vs' e)
  ]

-- what a read found that was served after these events
record Found (size : ℕ) (waiting : List Tagged) (all : List Tagged) (rows : List (List ℕ)) (served : List Tagged) (read : Tagged) (bytes : List ℕ) : Type 0 where
  later : List Tagged
  order : about (sector_of read.ask) (waiting ++ all) ≡ about (sector_of read.ask) served ++ read ∷ later
  row : bytes ≡ row_of (carried_out size rows served) (sector_of read.ask)

bytes_are : (rows : List (List ℕ)) (ask : Ask) (bytes : List ℕ) → AnswersOf rows ask (Bytes bytes) → bytes ≡ row_of rows (sector_of ask)
bytes_are rows (Read sector) bytes is = is
bytes_are rows (Write sector written) bytes is = absurd is
bytes_are rows (Trim sector) bytes is = absurd is

module _ (size : ℕ) (read : Tagged) (bytes : List ℕ) (rest : List Event) where
  abbrev s : ℕ
  s = sector_of read.ask

  abbrev from : List Event → List Event
  from es = es ++ Served read (Bytes bytes) ∷ rest

  found : (es : List Event) (first last : State) → first.queue.sector_bytes ≡ size → IsRun first (from es) last → AllByRecursion NotRefused (from es)
      → Found size first.queue.commands (accepted_in size (from es)) first.rows (served_in es) read bytes
  found [] first last is (next, (t, a), run) none =
      let left : List Tagged = remove first.queue.commands t.place in
      let here : about s (read ∷ left) ≡ read ∷ about s left = rw (eq-eqb s s refl) refl in
      record {
        later = about s left ++ about s (accepted_in size rest);
        order = about-append s first.queue.commands (accepted_in size rest)
            ∙ ap (λ xs. xs ++ about s (accepted_in size rest)) (about-taken s first.queue next.queue read t ∙ here);
        row = bytes_are first.rows read.ask bytes a.answer_is;
      }
  found (Put c ∷ es) first last is (next, (a, rows), run) none =
      let found' = found es next last (ap (λ q. q.sector_bytes) a.last ∙ is) run none.1 in
      record {
        later = found'.later;
        order = ap (about s) (sym (after_put size first.queue next.queue c (from es) is a)) ∙ found'.order;
        row = found'.row ∙ ap (λ r. row_of (carried_out size r (served_in es)) s) rows;
      }
  found (RefusedPut c why ∷ es) first last is (next, (r, same), run) none =
      subst (λ v. Found size v.queue.commands (accepted_in size (from es)) v.rows (served_in es) read bytes) same
      (found es next last (ap (λ v. v.queue.sector_bytes) same ∙ is) run none.1)
  found (FoundNone ∷ es) first last is (next, (nothing, same), run) none =
      subst (λ v. Found size v.queue.commands (accepted_in size (from es)) v.rows (served_in es) read bytes) same
      (found es next last (ap (λ v. v.queue.sector_bytes) same ∙ is) run none.1)
  found (Served c answer ∷ es) first last is (next, (t, a), run) none =
      let left : List Tagged = remove first.queue.commands t.place in
      let all : List Tagged = accepted_in size (from es) in
      let found' = found es next last (ap (λ q. q.sector_bytes) t.rest ∙ is) run none.1 in
      let rest' = ap (λ q. about s (q.commands ++ all)) (sym t.rest) ∙ found'.order in
      let rows' : next.rows ≡ carried size first.rows c.ask = subst (λ n. next.rows ≡ carried n first.rows c.ask) is (a.carried_so none.0) in
      record {
        later = found'.later;
        order = about-append s first.queue.commands all
            ∙ ap (λ xs. xs ++ about s all) (about-taken s first.queue next.queue c t)
            ∙ sym (about-append s (c ∷ left) all)
            ∙ about-cons s c (left ++ all) (served_in es) (read ∷ found'.later) rest';
        row = found'.row ∙ ap (λ r. row_of (carried_out size r (served_in es)) s) rows';
      }

pub reads_in_order : ReadsInOrder
reads_in_order first last es rest read bytes new run none =
    let size : ℕ = first.queue.sector_bytes in
    let s : ℕ = sector_of read.ask in
    let events : List Event = es ++ Served read (Bytes bytes) ∷ rest in
    let all : List Tagged = accepted_in size events in
    let found' = found size read bytes rest es first last refl run (recursion_from_All NotRefused events none) in
    let order = ap (λ xs. about s (xs ++ all)) (sym new.none) ∙ found'.order in
    let cut = cut_at (λ c. eqb (sector_of c.ask) s) read all (about s (served_in es)) found'.later order in
    record {
      earlier = cut.earlier;
      later = cut.later;
      all = cut.parts;
      same_before = cut.kept;
      row = found'.row ∙ row-about size s (served_in es) first.rows
          ∙ ap (λ cs. row_of (carried_out size first.rows cs) s) (sym cut.kept)
          ∙ sym (row-about size s cut.earlier first.rows);
    }
