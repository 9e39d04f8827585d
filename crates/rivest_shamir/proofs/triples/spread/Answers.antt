-- Triple t is triple t mod 4 of byte t / 4.
use Rattle.rivest_shamir.specs.Triples.{with_sum}
use Rattle.rivest_shamir.proofs.ByteTables.{joined_bytes}
use Rattle.rivest_shamir.proofs.triples.spread.Goals as goal

pub returns : goal.returns
returns c = λ t h.
    joined_bytes (λ message. with_sum message) c.args.messages c.spread_byte.result c.spread_byte-2.result c.spread_byte-3.result c.spread_byte-4.result t h
    c.spread_byte.ensures.spread c.spread_byte-2.ensures.spread c.spread_byte-3.ensures.spread c.spread_byte-4.ensures.spread
    c.spread_byte.ensures.narrow c.spread_byte-2.ensures.narrow c.spread_byte-3.ensures.narrow c.spread_byte-4.ensures.narrow
