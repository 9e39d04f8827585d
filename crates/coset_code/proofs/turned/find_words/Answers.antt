-- Sound rows stay sound, and show separate cells.
use Rattle.coset_code.proofs.turned.find_words.Goals as goal

pub returns : goal.returns
returns c = λ columns coords full s t. c.solve.ensures coords c.args.old.now (c.eliminate.ensures coords c.args.old.now (c.gather-count.ensures.rows columns coords full s t))
