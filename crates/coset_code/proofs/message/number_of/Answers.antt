-- Each half has the bits of its word.
use Rattle.std.proofs.Common.{arith}
use Rattle.coset_code.proofs.MessageLemmas.{bits_of_one, bits_of_two}
use Rattle.coset_code.proofs.message.number_of.Goals as goal

pub returns-in-len1 : goal.returns-in-len1
returns-in-len1 c = bits_of_one c.args.words.now (omega arith) (c.type_inv.words 0).fits

pub returns-in-len2-up : goal.returns-in-len2-up
returns-in-len2-up c = bits_of_two c.args.words.now (omega arith) (c.type_inv.words 0).fits (c.type_inv.words 1).fits
