-- A put that failed moves no cell.
use Rattle.std.proofs.Common.{◌≡◌, ◌<◌, sym, ◌∙◌, subst}
use Rattle.mem_die.specs.declared.mem.MemDie.{MemDie}
use Rattle.cell_die.specs.Changes.{IsErased}
use Rattle.std.specs.Prelude.{OnOk, OnErr}
use Rattle.mem_die.specs.MemState.{mem_state}
use Rattle.file_die.proofs.Erased.{erase_not_kept, InPart}
use Rattle.file_die.proofs.die.FileDieDie.erase.Goals as goal

pub returns-in_err-keep-clause-in_part : goal.returns-in_err-keep-clause-in_part
returns-in_err-keep-clause-in_part g c =
    let first : c.catch_up.new.self.die ≡ c.args.self.now.die = c.catch_up.ensures.die in
    let last : c.keep.new.self.die ≡ c.erase-done.new.self = c.keep.ensures.die in
    let ok : OnOk c.erase-done.result (IsErased c.args.block (mem_state c.args.self.now.die) (mem_state c.keep.new.self.die))
    = rw (last, sym first) c.erase-done.ensures.erased in
    let err : OnErr c.erase-done.result (InPart c.args.block (mem_state c.args.self.now.die) (mem_state c.keep.new.self.die))
    = rw (last, sym first) c.erase-done.ensures.in_part in
    erase_not_kept c.from_residual-in_err-keep.result c.erase-done.result c.args.self.now.die c.keep.new.self.die c.args.self.now.faults c.keep.new.self.faults c.args.block c.requires.block ok err
