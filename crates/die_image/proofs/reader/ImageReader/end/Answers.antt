-- The end reads the head in the first bytes, and then the cells behind them.
use Rattle.std.proofs.Common.{refl}
use Rattle.std.proofs.lemmas.Result.{err_from_is_err_and}
use Rattle.die_image.proofs.Heads.{end_of_parts}
use Rattle.die_image.proofs.reader.ImageReader.end.Goals as goal

pub returns-in_err-head : goal.returns-in_err-head
returns-in_err-head c =
    let p = err_from_is_err_and c.from_residual.result c.from_residual.ensures.1 in
    rw (
      p.1,
      ← c.self.view_is,
      end_of_parts c.self.inside.is_old _ c.self.inside.head.items c.self.inside.cells.items c.if-self.false c.self.invariant.0 c.self.invariant.1,
      ← c.as_slice.ensures.value,
      ← c.in_err-head.ensures.read,
    ) (rw p.2 refl)

pub returns-in_err-check_cells : goal.returns-in_err-check_cells
returns-in_err-check_cells c =
    let p = err_from_is_err_and c.from_residual-in_err-check_cells.result c.from_residual-in_err-check_cells.ensures.1 in
    rw (
      p.1,
      ← c.self.view_is,
      end_of_parts c.self.inside.is_old _ c.self.inside.head.items c.self.inside.cells.items c.if-self.false c.self.invariant.0 c.self.invariant.1,
      ← c.as_slice.ensures.value,
      ← c.in_ok-head.ensures.read,
    ) (rw (p.2, ← c.deref.ensures.value) c.in_err-check_cells.ensures)

pub returns : goal.returns
returns c =
    rw (
      ← c.self.view_is,
      end_of_parts c.self.inside.is_old _ c.self.inside.head.items c.self.inside.cells.items c.if-self.false c.self.invariant.0 c.self.invariant.1,
      ← c.as_slice.ensures.value,
      ← c.in_ok-head.ensures.read,
    ) (rw (← c.deref.ensures.value) c.in_ok-check_cells.ensures)
