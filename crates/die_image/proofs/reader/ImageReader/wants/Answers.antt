-- What is missing of the head, or what is missing of the cells and one byte more.
use Rattle.std.proofs.Common.{refl, sym, arith}
use Rattle.die_image.proofs.Heads.{wanted_failed, wanted_of_head, wanted_of_cells}
use Rattle.die_image.proofs.reader.ImageReader.wants.Goals as goal

pub returns-then-self : goal.returns-then-self
returns-then-self c = rw (← c.self.view_is) (sym (wanted_failed _ c.if-self.true))

pub returns-then-missing-gt0 : goal.returns-then-missing-gt0
returns-then-missing-gt0 c =
    rw (← c.self.view_is, c.head_length.ensures, c.len.ensures.value)
    (sym (wanted_of_head c.self.inside.is_old _ c.self.inside.head.items c.self.inside.cells.items c.if-self.false (omega arith) c.self.invariant.1))

pub overflow_add-die_bytes : goal.overflow_add-die_bytes
overflow_add-die_bytes c = omega (arith, c.die_bytes.ensures.small)

pub returns-in-Ok : goal.returns-in-Ok
returns-in-Ok c =
    rw (
      ← c.self.view_is,
      wanted_of_cells c.self.inside.is_old _ c.self.inside.head.items c.self.inside.cells.items c.if-self.false (omega (arith, c.self.invariant.0)),
      ← c.as_slice.ensures.value,
      ← c.in-Ok.ensures.read,
    ) (omega (arith, c.saturating_sub.ensures, c.die_bytes.ensures.bytes, c.len-in-Ok.ensures))

pub returns-in-Err : goal.returns-in-Err
returns-in-Err c =
    rw (
      ← c.self.view_is,
      wanted_of_cells c.self.inside.is_old _ c.self.inside.head.items c.self.inside.cells.items c.if-self.false (omega (arith, c.self.invariant.0)),
      ← c.as_slice.ensures.value,
      ← c.in-Err.ensures.read,
    ) refl
