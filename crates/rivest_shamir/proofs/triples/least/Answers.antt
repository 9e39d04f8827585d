-- Triple t is triple t mod 4 of byte t / 4.
use Rattle.rivest_shamir.specs.Triples.{least_of}
use Rattle.rivest_shamir.proofs.ByteTables.{joined_bytes}
use Rattle.rivest_shamir.proofs.triples.least.Goals as goal

pub returns : goal.returns
returns c = λ t h.
    joined_bytes (λ message. least_of message) c.args.messages c.least_byte.result c.least_byte-2.result c.least_byte-3.result c.least_byte-4.result t h
    c.least_byte.ensures.least c.least_byte-2.ensures.least c.least_byte-3.ensures.least c.least_byte-4.ensures.least
    c.least_byte.ensures.narrow c.least_byte-2.ensures.narrow c.least_byte-3.ensures.narrow c.least_byte-4.ensures.narrow
