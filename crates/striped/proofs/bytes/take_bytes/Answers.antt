-- The number's bytes are those of the row, and zeros after them.
use Rattle.std.proofs.Common.{refl}
use Rattle.striped.proofs.ByteLemmas.{IsTaken, eight, each_byte, taken_cells, taken_narrow}
use Rattle.striped.proofs.bytes.take_bytes.Goals as goal

taken : (c : goal.After-from_le_bytes) → IsTaken c.args.row.now
    (eight c.byte_at.result c.byte_at-2.result c.byte_at-3.result c.byte_at-4.result c.byte_at-5.result c.byte_at-6.result c.byte_at-7.result c.byte_at-8.result) c.args.start c.args.count
    c.from_le_bytes.result
taken c = record {
  few = c.requires.few;
  small = λ k. (c.type_inv.row k).fits;
  long = refl;
  each =
      each_byte c.args.row.now c.args.start c.args.count c.byte_at.result c.byte_at-2.result c.byte_at-3.result c.byte_at-4.result c.byte_at-5.result c.byte_at-6.result c.byte_at-7.result
      c.byte_at-8.result
      (c.byte_at.ensures.inside, c.byte_at.ensures.past) (c.byte_at-2.ensures.inside, c.byte_at-2.ensures.past) (c.byte_at-3.ensures.inside, c.byte_at-3.ensures.past)
      (c.byte_at-4.ensures.inside, c.byte_at-4.ensures.past) (c.byte_at-5.ensures.inside, c.byte_at-5.ensures.past) (c.byte_at-6.ensures.inside, c.byte_at-6.ensures.past)
      (c.byte_at-7.ensures.inside, c.byte_at-7.ensures.past) (c.byte_at-8.ensures.inside, c.byte_at-8.ensures.past);
  number = c.from_le_bytes.ensures;
}

pub returns-clause-bits : goal.returns-clause-bits
returns-clause-bits c =
    taken_cells c.args.row.now (eight c.byte_at.result c.byte_at-2.result c.byte_at-3.result c.byte_at-4.result c.byte_at-5.result c.byte_at-6.result c.byte_at-7.result c.byte_at-8.result)
    c.args.start c.args.count c.from_le_bytes.result (taken c)

pub returns-clause-narrow : goal.returns-clause-narrow
returns-clause-narrow c =
    taken_narrow c.args.row.now (eight c.byte_at.result c.byte_at-2.result c.byte_at-3.result c.byte_at-4.result c.byte_at-5.result c.byte_at-6.result c.byte_at-7.result c.byte_at-8.result)
    c.args.start c.args.count c.from_le_bytes.result (taken c) c.from_le_bytes.type_inv
