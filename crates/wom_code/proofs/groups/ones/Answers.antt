-- All ones, shifted down to the lowest `count`.
use Rattle.cell_bits.proofs.PieceLemmas.{ones_is}
use Rattle.wom_code.proofs.groups.ones.Goals as goal

pub returns : goal.returns
returns c = ones_is c.args.count c.requires.some c.requires.word
