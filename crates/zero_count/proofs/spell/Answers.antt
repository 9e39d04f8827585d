-- Writing the fields and then their number of zeros spells the header, and a header of kind 1 to 4 is read back.
use Rattle.std.proofs.Common.{◌∙◌, ap, arith}
use Rattle.zero_count.specs.HeaderWord.{IsHeader, header_of}
use Rattle.zero_count.proofs.Spelled.{read_spelled}
use Rattle.zero_count.proofs.Spelling.{spelled_by}
use Rattle.zero_count.proofs.spell.Goals as goal

pub returns-clause-word : goal.returns-clause-word
returns-clause-word c = spelled_by c.args.header.now c.to_le_bytes-s.result c.to_le_bytes-q.result c.zeros_of.result c.to_le_bytes-s.ensures c.to_le_bytes-q.ensures c.zeros_of.ensures.value

pub returns-clause-read_back : goal.returns-clause-read_back
returns-clause-read_back c =
    let header : IsHeader c.args.header.now = record { sector = omega arith; seq = omega arith; least_kind = c.requires.least_kind; greatest_kind = c.requires.greatest_kind } in
    ap header_of (spelled_by c.args.header.now c.to_le_bytes-s.result c.to_le_bytes-q.result c.zeros_of.result c.to_le_bytes-s.ensures c.to_le_bytes-q.ensures c.zeros_of.ensures.value)
    ∙ read_spelled c.args.header.now header
