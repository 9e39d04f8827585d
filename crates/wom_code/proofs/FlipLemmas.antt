-- The two results of the flip code: above the old cells, what they decode to, and their charge.
use Rattle.std.proofs.Common.{◌≡◌, ℕ, suc, ◌+◌, ◌-◌, ◌<◌, ◌≤◌, ◌↔◌, Bool, true, false, not, ◌&&◌, cond, List, ◌∷◌, ◌++◌}
use Rattle.std.proofs.Common.{length, set, take, drop, nat_eq, nat_le, sym, ◌∙◌, ap, subst, refl, inl, inr, arith}
use Rattle.std.proofs.lemmas.Bool.{cases_lt, cases_eq, and_parts, and_from, true≢false, not-true, lt-ltb, ltb-true}
use Rattle.std.proofs.lemmas.List.{get_or-take, get_or-drop, get_or_append_left, get_or-append_right, take_at, get_or_past, get_or-set_same, get_or-set_other, length-set, ext_get_or, length-take}
use Rattle.std.proofs.lemmas.List.{length-append, length-drop}
use Rattle.std.proofs.lemmas.List.Sums.{sum_by-cons, sum_by-append}
use Rattle.wom_code.specs.Cells.{cell_at, IsAbove, Carries, NoneCarries, charge_of}
use Rattle.wom_code.specs.Packed.{IsRow, word_bit, cells_of}
use Rattle.wom_code.specs.Turned.{turned_by, turned_false}
use Rattle.wom_code.specs.Tests.{is_same, is_above}
use Rattle.wom_code.specs.Flip.{flip_message, flip_cells, IsFewest, IsChoice, is_as_few, is_straight_on_tie, is_fewest}
use Rattle.wom_code.proofs.PackedLemmas.{get_or-cells_of, length-cells_of, same_cells, take-cells_of}
use Rattle.wom_code.proofs.FrontLemmas.{IsLaid, laid_front, laid_rest, laid_row}
use Rattle.wom_code.proofs.TableCodes.{IsWritten}
use Rattle.wom_code.proofs.TestLemmas.{is_same_to, is_same_from, is_above_to, is_above_from, implied_to, implied_from, at_most_to, at_most_from}
use Rattle.wom_code.proofs.TurnedLemmas.{length-turned, turned_twice, charge-turned}

-- ---- cell by cell

flip_front : (k : ℕ) (old message : List Bool) (f : Bool) (i : ℕ) → length message ≡ k → i < k → cell_at (flip_cells k old message f) i ≡ cell_at (turned_by f message) i
flip_front k old message f i len l = get_or_append_left (turned_by f message) (f ∷ drop (k + 1) old) false i (omega (arith, length-turned f message))

flip_flag : (k : ℕ) (old message : List Bool) (f : Bool) → length message ≡ k → cell_at (flip_cells k old message f) k ≡ f
flip_flag k old message f len =
    let none : k - k ≡ 0 = omega arith in
    get_or-append_right (turned_by f message) (f ∷ drop (k + 1) old) k k false (length-turned f message ∙ len) (omega arith) ∙ ap (cell_at (f ∷ drop (k + 1) old)) none

flip_rest : (k : ℕ) (old message : List Bool) (f : Bool) (i : ℕ) → length message ≡ k → k < i → cell_at (flip_cells k old message f) i ≡ cell_at old i
flip_rest k old message f i len l =
    let after : i - k ≡ suc (i - (k + 1)) = omega arith in
    let place : k + 1 + (i - (k + 1)) ≡ i = omega arith in
    get_or-append_right (turned_by f message) (f ∷ drop (k + 1) old) k i false (length-turned f message ∙ len) (omega arith)
    ∙ ap (cell_at (f ∷ drop (k + 1) old)) after ∙ get_or-drop (k + 1) old (i - (k + 1)) false ∙ ap (cell_at old) place

-- the message and the old cells after it, with the flag set between them
pub flip_written : (k : ℕ) (old message : List Bool) (f : Bool) → length message ≡ k → k < length old → set (turned_by f message ++ drop k old) k f ≡ flip_cells k old message f
flip_written k old message f len room =
    let front : List Bool = turned_by f message in
    let both : List Bool = front ++ drop k old in
    let flen : length front ≡ k = length-turned f message ∙ len in
    let whole : length both ≡ length old = omega (arith, flen, length-append front (drop k old), length-drop k old) in
    ext_get_or false (set both k f) (flip_cells k old message f)
    (omega (arith, flen, whole, length-set both k f, length-append front (f ∷ drop (k + 1) old), length-drop (k + 1) old))
    (λ i l. elim (cases_eq i k) [
      | inl same ↦ ap (cell_at (set both k f)) same ∙ get_or-set_same both k f false (omega arith) ∙ sym (ap (cell_at (flip_cells k old message f)) same ∙ flip_flag k old message f len)
      | inr other ↦ get_or-set_other both k i f false other ∙ elim (cases_lt i k) [
        | inl m ↦ get_or_append_left front (drop k old) false i (omega arith) ∙ sym (flip_front k old message f i len m)
        | inr m ↦
            let place : k + (i - k) ≡ i = omega arith in
            get_or-append_right front (drop k old) k i false flen m ∙ get_or-drop k old (i - k) false ∙ ap (cell_at old) place ∙ sym (flip_rest k old message f i len (omega arith))
      ]
    ])

-- ---- above the old cells

-- the message is above the first old cells, and the flag above the old flag
pub record IsPossible (k : ℕ) (old message : List Bool) (f : Bool) : Type 0 where
  pub front : IsAbove (turned_by f message) (take k old)
  pub flag : cell_at old k ≡ true → f ≡ true

pub flip_above : (k : ℕ) (old message : List Bool) (f : Bool) → length message ≡ k → IsPossible k old message f → IsAbove (flip_cells k old message f) old
flip_above k old message f len p i e =
    elim (cases_lt i k) [
      | inl l ↦ flip_front k old message f i len l ∙ p.front i (get_or-take k old i false l ∙ e)
      | inr m ↦ elim (cases_eq i k) [
        | inl same ↦ ap (cell_at (flip_cells k old message f)) same ∙ flip_flag k old message f len ∙ p.flag (ap (cell_at old) (sym same) ∙ e)
        | inr other ↦ flip_rest k old message f i len (omega arith) ∙ e
      ]
    ]

pub possible_from : (k : ℕ) (old message : List Bool) (f : Bool) → length message ≡ k → IsAbove (flip_cells k old message f) old → IsPossible k old message f
possible_from k old message f len a = record {
  front = λ i e. elim (cases_lt i k) [
    | inl l ↦ sym (flip_front k old message f i len l) ∙ a i (sym (get_or-take k old i false l) ∙ e)
    | inr m ↦ absurd (true≢false (sym e ∙ get_or_past (take k old) i false (omega (arith, length-take k old))))
  ];
  flag = λ e. sym (flip_flag k old message f len) ∙ a k e;
}

-- cells that carry a message make the result with their flag possible
pub carried_possible : (k : ℕ) (old message new : List Bool) → Carries (flip_message k) old message new → IsPossible k old message (cell_at new k)
carried_possible k old message new c =
    let f : Bool = cell_at new k in
    let front : turned_by f message ≡ take k new = ap (turned_by f) (sym c.decodes) ∙ turned_twice f (take k new) in
    record {
      front = λ i e. elim (cases_lt i k) [
        | inl l ↦ ap (λ cells. cell_at cells i) front ∙ get_or-take k new i false l ∙ c.above i (sym (get_or-take k old i false l) ∙ e)
        | inr m ↦ absurd (true≢false (sym e ∙ get_or_past (take k old) i false (omega (arith, length-take k old))))
      ];
      flag = λ e. c.above k e;
    }

pub flip_decodes : (k : ℕ) (old message : List Bool) (f : Bool) → length message ≡ k → flip_message k (flip_cells k old message f) ≡ message
flip_decodes k old message f len =
    ap (λ g. turned_by g (take k (flip_cells k old message f))) (flip_flag k old message f len)
    ∙ ap (turned_by f) (take_at (turned_by f message) (f ∷ drop (k + 1) old) k (length-turned f message ∙ len))
    ∙ turned_twice f message

-- ---- which result

-- what the tests of the code say
pub record IsTested (k : ℕ) (old message : List Bool) (flagged straight turned : Bool) : Type 0 where
  pub len : length message ≡ k
  pub flag : cell_at old k ≡ flagged
  pub straight_to : straight ≡ true → IsAbove (turned_by false message) (take k old)
  pub straight_from : IsAbove (turned_by false message) (take k old) → straight ≡ true
  pub turned_to : turned ≡ true → IsAbove (turned_by true message) (take k old)
  pub turned_from : IsAbove (turned_by true message) (take k old) → turned ≡ true

flag_off : (b : Bool) → (b ≡ true → false ≡ true) → not b ≡ true
flag_off true h = absurd (true≢false (sym (h refl)))
flag_off false h = refl

straight_test : (k : ℕ) (old message : List Bool) (flagged straight turned : Bool) → IsTested k old message flagged straight turned → IsPossible k old message false → (straight && not flagged) ≡ true
straight_test k old message flagged straight turned t p = and_from _ _ (t.straight_from p.front) (flag_off flagged (λ e. p.flag (t.flag ∙ e)))

none_possible : (k : ℕ) (old message : List Bool) (flagged straight turned : Bool) → IsTested k old message flagged straight turned → (straight && not flagged) ≡ false → turned ≡ false → (f : Bool)
    → IsPossible k old message f → ⊥
none_possible k old message flagged straight turned t a b true p = true≢false (sym (t.turned_from p.front) ∙ b)
none_possible k old message flagged straight turned t a b false p = true≢false (sym (straight_test k old message flagged straight turned t p) ∙ a)

pub flip_none : (k n : ℕ) (old message : List Bool) (flagged straight turned : Bool) → IsTested k old message flagged straight turned → (straight && not flagged) ≡ false → turned ≡ false →
    NoneCarries (flip_message k) n old message
flip_none k n old message flagged straight turned t a b new len c = none_possible k old message flagged straight turned t a b (cell_at new k) (carried_possible k old message new c)

choice_possible : (k : ℕ) (old message : List Bool) (flagged straight turned : Bool) (ones : ℕ) (f : Bool) → IsTested k old message flagged straight turned
    → IsChoice flagged straight turned ones k f → IsPossible k old message f
choice_possible k old message flagged straight turned ones true t c = record { front = t.turned_to c.possible; flag = λ e. refl }
choice_possible k old message flagged straight turned ones false t c =
    let parts = and_parts straight (not flagged) c.possible in
    record { front = t.straight_to parts.0; flag = λ e. absurd (true≢false (sym (sym t.flag ∙ e) ∙ not-true flagged parts.1)) }

pub choice_carries : (k : ℕ) (old message : List Bool) (flagged straight turned : Bool) (ones : ℕ) (f : Bool) → IsTested k old message flagged straight turned
    → IsChoice flagged straight turned ones k f →
    Carries (flip_message k) old message (flip_cells k old message f)
choice_carries k old message flagged straight turned ones f t c = record {
  above = flip_above k old message f t.len (choice_possible k old message flagged straight turned ones f t c);
  decodes = flip_decodes k old message f t.len;
}

-- ---- charge

charge-flip : (k : ℕ) (old message : List Bool) (f : Bool) → charge_of (flip_cells k old message f) ≡ charge_of (turned_by f message) + (cond f 1 0 + charge_of (drop (k + 1) old))
charge-flip k old message f =
    sum_by-append (λ c. cond c 1 0) (turned_by f message) (f ∷ drop (k + 1) old)
    ∙ ap (λ s. charge_of (turned_by f message) + s) (sum_by-cons (λ c. cond c 1 0) f (drop (k + 1) old))

-- the turned result has fewer charged cells where the message has more ones than zeros and one flag
pub record IsWeighed (k : ℕ) (old message : List Bool) : Type 0 where
  pub ones : charge_of message ≤ k
  pub less : k - charge_of message + 1 < charge_of message → charge_of (flip_cells k old message true) < charge_of (flip_cells k old message false)
  pub more : charge_of message ≤ k - charge_of message + 1 → charge_of (flip_cells k old message false) ≤ charge_of (flip_cells k old message true)

weighed : (k : ℕ) (old message : List Bool) → length message ≡ k → IsWeighed k old message
weighed k old message len =
    let on = charge-flip k old message true in
    let off = charge-flip k old message false ∙ ap (λ m. charge_of m + (0 + charge_of (drop (k + 1) old))) (turned_false message) in
    let both = charge-turned message in
    record { ones = omega arith; less = λ h. omega arith; more = λ h. omega arith }

fewest_at : (k : ℕ) (old message : List Bool) (flagged straight turned : Bool) (f g : Bool) → IsTested k old message flagged straight turned
    → IsChoice flagged straight turned (charge_of message) k f →
    IsAbove (flip_cells k old message g) old → charge_of (flip_cells k old message f) ≤ charge_of (flip_cells k old message g)
fewest_at k old message flagged straight turned true true t c a = omega arith
fewest_at k old message flagged straight turned false false t c a = omega arith
fewest_at k old message flagged straight turned true false t c a =
    let test = straight_test k old message flagged straight turned t (possible_from k old message false t.len a) in
    let fewer = (weighed k old message t.len).less (ltb-true _ _ (sym (c.better test c.possible))) in
    omega arith
fewest_at k old message flagged straight turned false true t c a =
    let better = c.better c.possible (t.turned_from (possible_from k old message true t.len a).front) in
    elim (cases_lt (k - charge_of message + 1) (charge_of message)) [
      | inl l ↦ absurd (true≢false (sym (lt-ltb _ _ l) ∙ sym better))
      | inr m ↦ (weighed k old message t.len).more m
    ]

tie_at : (k : ℕ) (old message : List Bool) (flagged straight turned : Bool) (f : Bool) → IsTested k old message flagged straight turned → IsChoice flagged straight turned (charge_of message) k f →
    IsAbove (flip_cells k old message false) old → charge_of (flip_cells k old message false) ≤ charge_of (flip_cells k old message f) → flip_cells k old message f ≡ flip_cells k old message false
tie_at k old message flagged straight turned false t c a e = refl
tie_at k old message flagged straight turned true t c a e =
    let test = straight_test k old message flagged straight turned t (possible_from k old message false t.len a) in
    let fewer = (weighed k old message t.len).less (ltb-true _ _ (sym (c.better test c.possible))) in
    absurd (omega arith)

pub choice_fewest : (k : ℕ) (old message : List Bool) (flagged straight turned : Bool) (f : Bool) → IsTested k old message flagged straight turned
    → IsChoice flagged straight turned (charge_of message) k f →
    IsFewest k old message (flip_cells k old message f)
choice_fewest k old message flagged straight turned f t c = record {
  one_of_two = sym (ap (flip_cells k old message) (flip_flag k old message f t.len));
  fewest = λ g a. fewest_at k old message flagged straight turned f g t c a;
  tie = λ a e. tie_at k old message flagged straight turned f t c a e;
}

-- ---- the test of the fewest

pub is_fewest_from : (k : ℕ) (old message new : List Bool) → IsFewest k old message new → is_fewest k old message new ≡ true
is_fewest_from k old message new f =
    and_from _ _ (is_same_from new _ f.one_of_two)
    (and_from _ _ (few false) (and_from _ _ (few true) (implied_from _ _ (λ t. is_same_from new _ (tie_of (and_parts _ _ t))))))
  where
    few : (flag : Bool) → is_as_few k old message new flag ≡ true
    few flag = implied_from _ _ (λ t. at_most_from _ _ (f.fewest flag (is_above_to _ old t)))

    tie_of : (is_above (flip_cells k old message false) old ≡ true) × (nat_le (charge_of (flip_cells k old message false)) (charge_of new) ≡ true) → new ≡ flip_cells k old message false
    tie_of t = f.tie (is_above_to _ old t.0) (at_most_to _ _ t.1)

each_flag : (test : Bool → Bool) → test false ≡ true → test true ≡ true → (flag : Bool) → test flag ≡ true
each_flag test off on true = on
each_flag test off on false = off

pub is_fewest_to : (k : ℕ) (old message new : List Bool) → is_fewest k old message new ≡ true → IsFewest k old message new
is_fewest_to k old message new t =
    let few_as : Bool → Bool = is_as_few k old message new in
    let on_tie : Bool = is_straight_on_tie k old message new in
    let parts = and_parts (is_same new (flip_cells k old message (cell_at new k))) (few_as false && (few_as true && on_tie)) t in
    let more = and_parts (few_as false) (few_as true && on_tie) parts.1 in
    let last = and_parts (few_as true) on_tie more.1 in
    let few : (flag : Bool) → few_as flag ≡ true = each_flag few_as more.0 last.0 in
    record {
      one_of_two = is_same_to new _ parts.0;
      fewest = λ flag a. at_most_to _ _ (implied_to _ _ (few flag) (is_above_from _ old a));
      tie = λ a e. is_same_to new _ (implied_to _ _ last.1 (and_from _ _ (is_above_from _ old a) (at_most_from _ _ e)));
    }

-- ---- packed rows

-- bits that are laid over the first cells, and then the flag
pub record IsFlagged (k : ℕ) (f : Bool) (mid out : List ℕ) : Type 0 where
  pub len : length out ≡ length mid
  pub flag : nat_eq (word_bit out k) 1 ≡ f
  pub others : (i : ℕ) → (i ≡ k → ⊥) → word_bit out i ≡ word_bit mid i

pub flagged_cells : (f : Bool) (k n : ℕ) (old message mid out : List ℕ) → k < n → IsLaid f k n old message mid → IsFlagged k f mid out
    → cells_of n out ≡ flip_cells k (cells_of n old) (cells_of k message) f
flagged_cells f k n old message mid out fits j g =
    let front : List Bool = turned_by f (cells_of k message) in
    let rest : List Bool = f ∷ drop (k + 1) (cells_of n old) in
    let len : length (cells_of k message) ≡ k = length-cells_of k message in
    sym (same_cells n out (flip_cells k (cells_of n old) (cells_of k message) f)
    (omega (arith, len, length-turned f (cells_of k message), length-append front rest, length-drop (k + 1) (cells_of n old), length-cells_of n old)) (λ i l.
    elim (cases_eq i k) [
      | inl same ↦ ap (cell_at (flip_cells k (cells_of n old) (cells_of k message) f)) same ∙ flip_flag k (cells_of n old) (cells_of k message) f len
          ∙ sym (ap (λ c. nat_eq (word_bit out c) 1) same ∙ g.flag)
      | inr other ↦ elim (cases_lt i k) [
        | inl m ↦ flip_front k (cells_of n old) (cells_of k message) f i len m ∙ sym (ap (λ b. nat_eq b 1) (g.others i other) ∙ laid_front f k n old message mid j i m)
        | inr m ↦ flip_rest k (cells_of n old) (cells_of k message) f i len (omega arith) ∙ get_or-cells_of n old i false l
            ∙ sym (ap (λ b. nat_eq b 1) (g.others i other ∙ laid_rest f k n old message mid j i m))
      ]
    ]))

pub flagged_row : (f : Bool) (k n : ℕ) (old message mid out : List ℕ) → k < n → IsRow n mid → IsFlagged k f mid out → IsRow n out
flagged_row f k n old message mid out fits r g = record {
  count = g.len ∙ r.count;
  padding = λ i h. g.others i (λ e. omega arith) ∙ r.padding i h;
}

-- the tests of packed rows
pub packed_tested : (k n : ℕ) (old message : List ℕ) (flagged straight turned : Bool) → k < n → flagged ≡ nat_eq (word_bit old k) 1 →
    (straight ≡ true ↔ IsAbove (turned_by false (cells_of k message)) (cells_of k old)) → (turned ≡ true ↔ IsAbove (turned_by true (cells_of k message)) (cells_of k old)) →
    IsTested k (cells_of n old) (cells_of k message) flagged straight turned
packed_tested k n old message flagged straight turned fits flag s t =
    let same : take k (cells_of n old) ≡ cells_of k old = take-cells_of k n old (omega arith) in
    record {
      len = length-cells_of k message;
      flag = get_or-cells_of n old k false fits ∙ sym flag;
      straight_to = λ e. subst (IsAbove (turned_by false (cells_of k message))) (sym same) (s.0 e);
      straight_from = λ a. s.1 (subst (IsAbove (turned_by false (cells_of k message))) same a);
      turned_to = λ e. subst (IsAbove (turned_by true (cells_of k message))) (sym same) (t.0 e);
      turned_from = λ a. t.1 (subst (IsAbove (turned_by true (cells_of k message))) same a);
    }

-- the chosen bits are above the first old cells
pub packed_above : (k n : ℕ) (old message : List ℕ) (flagged straight turned : Bool) (ones : ℕ) (f : Bool) → k < n → IsTested k (cells_of n old) (cells_of k message) flagged straight turned →
    IsChoice flagged straight turned ones k f → IsAbove (turned_by f (cells_of k message)) (cells_of k old)
packed_above k n old message flagged straight turned ones f fits t c =
    subst (IsAbove (turned_by f (cells_of k message))) (take-cells_of k n old (omega arith)) (choice_possible k (cells_of n old) (cells_of k message) flagged straight turned ones f t c).front

flag_same : (f b : Bool) → (b ≡ true → f ≡ true) → f ≡ false → b ≡ f
flag_same true b h e = absurd (true≢false e)
flag_same false true h e = sym (h refl)
flag_same false false h e = refl

-- where the flag is not to be charged it is as it was, uncharged
pub unflagged : (k n : ℕ) (old message mid : List ℕ) (flagged straight turned : Bool) (ones : ℕ) (f : Bool) → k < n → IsTested k (cells_of n old) (cells_of k message) flagged straight turned →
    IsChoice flagged straight turned ones k f → IsLaid f k n old message mid → f ≡ false → IsFlagged k f mid mid
unflagged k n old message mid flagged straight turned ones f fits t c j e = record {
  len = refl;
  flag = ap (λ b. nat_eq b 1) (laid_rest f k n old message mid j k (omega arith)) ∙ sym (get_or-cells_of n old k false fits)
      ∙ flag_same f (cell_at (cells_of n old) k) (choice_possible k (cells_of n old) (cells_of k message) flagged straight turned ones f t c).flag e;
  others = λ i h. refl;
}

-- what the packed call writes
pub flip_over : (k n : ℕ) (old message mid out : List ℕ) (flagged straight turned f : Bool) → k < n → IsTested k (cells_of n old) (cells_of k message) flagged straight turned →
    IsChoice flagged straight turned (charge_of (cells_of k message)) k f → IsLaid f k n old message mid → IsFlagged k f mid out → IsWritten (flip_message k) (is_fewest k) k n old message out
flip_over k n old message mid out flagged straight turned f fits t c j g =
    let cells = flagged_cells f k n old message mid out fits j g in
    record {
      row = flagged_row f k n old message mid out fits (laid_row f k n old message mid j) g;
      carries = subst (Carries (flip_message k) (cells_of n old) (cells_of k message)) (sym cells)
          (choice_carries k (cells_of n old) (cells_of k message) flagged straight turned (charge_of (cells_of k message)) f t c);
      given = ap (is_fewest k (cells_of n old) (cells_of k message)) cells
          ∙ is_fewest_from k (cells_of n old) (cells_of k message) _ (choice_fewest k (cells_of n old) (cells_of k message) flagged straight turned f t c);
    }
