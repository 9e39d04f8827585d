-- The shape makes a table, and the coordinates make the rest of the invariant.
use Rattle.std.proofs.Common.{rules, ℕ, List, subst, ◌^◌, ◌<◌, inl, inr, length, sym, ◌∙◌, arith}
use Rattle.std.proofs.lemmas.Bool.{cases_lt}
use Rattle.std.proofs.lemmas.List.{get_or_past}
use Rattle.std.proofs.lemmas.Nat.{pow_pos}
use Rattle.coset_code.specs.Code.{IsShape, IsTable}
use Rattle.coset_code.proofs.coset.Coset.new.Goals as goal

table_of : (k n : ℕ) (columns : List ℕ) → IsShape k n columns → length columns < 2 ^ 32 → IsTable k n columns
table_of k n columns s few = record {
  some_bit = s.0;
  at_most_128 = s.1;
  count = s.2;
  few = omega (arith, s.2);
  narrow = λ cell. elim (cases_lt cell (length columns)) [ inl h ↦ s.3 cell 0 h | inr h ↦ omega (arith, get_or_past columns cell 0 h, pow_pos k) ];
}

pub invariant_of-result : goal.invariant_of-result
invariant_of-result g c =
    let shape = rw c.deref.ensures.value at (c.has_shape.ensures.0 c.if-not-has_shape.false) in
    let table : IsTable g.row.K g.row.N c.columns.inside.columns.items = table_of g.row.K g.row.N c.columns.inside.columns.items shape c.columns.invariant in
    record {
      table = subst (IsTable g.row.K g.row.N) (sym c.in_ok-system.ensures.columns) table;
      system_of = c.in_ok-system.ensures.system;
      room_of = c.in_ok-make_room.ensures;
      old_row = search rules;
      message_row = search rules;
      out_row = search rules;
    }

pub returns : goal.returns
returns g c =
    let shape = rw c.deref.ensures.value at (c.has_shape.ensures.0 c.if-not-has_shape.false) in
    (c.in_ok-system.ensures.columns ∙ c.columns.view_is, subst (IsShape g.row.K g.row.N) c.columns.view_is shape)
